-- The IdentTerm under an occurrence: the one child of the row's Term or AppHead is an IdentTerm, and it carries the binding's name.
use mathlib.Core.Bool.{Bool, true, false, ◌||◌, not}
use mathlib.Core.Path.{◌≡◌, refl, sym, ap, ◌∙◌, subst}
use mathlib.Core.Logic.{◌⊎◌, inl, inr, ⊎_elim}
use mathlib.Core.List.{List, [], ◌∷◌, ◌++◌}
use mathlib.Core.Option.{Option, none as nothing, some}
use Prim.Native.Nat.{ℕ, ◌+◌, ◌<◌, ◌≤◌}
use native.Mathlib.Omega.{arith}
use lib.Dec.{T, T_not, eqb, eqb→eq}
use lib.ListN.{get_or}
use borrow.Author.Tests.{eqb-true}
use Rattle.ast.specs.Declarations.{or_else, earliest, declared_all}
use Rattle.ast.specs.Image.{nodes, last, kind_at, start_at, op_at, field, name_of}
use Rattle.ast.specs.Kinds.{Class, outer, inner, root, decl, signature, rule, enum, model, plain, term, ident, head, head_member, member, case, if_var, defined_then, arg, no_child, Kind, kinds, kind_of}
use Rattle.ast.specs.Named.{term_kind, ident_term_kind, app_head_kind, app_head_member_kind, term_member_kind}
use Rattle.ast.specs.Rows.{Kid, one, many, numbers, kids, fields_kids, field_kids}
use Rattle.ast.specs.Rules.{Rule, says_all, rules, rules_all, rules_of, module_rules}
use Rattle.ast.specs.Tests.{verdict}
use Rattle.ast.specs.Tree.{Tree, node, block, Trees, none, ◌◂◌, swap, swaps, ordered, grow_all, grow, class_at, tree_at}
use Rattle.ast.proofs.Accepted.{formed, last-below}
use Rattle.ast.proofs.Bools.{not-or}
use Rattle.ast.proofs.Formed.{Child, Formed, FormedFields, FormedField}
use Rattle.ast.proofs.Kids.{child_kind, kids-admitted}
use Rattle.ast.proofs.Shapes.{term_kinds, head_kinds}
use Rattle.ast.proofs.Unfold.{All, nil, cons, All-split, All-map, tree_at-is, tree_of, row_of}
use Rattle.ast.proofs.Vars.{every-kind, Everywhere, EverywhereAll, everywhere}
use Rattle.rows.specs.Rows.{Row, row}
use Rattle.occurrences.specs.Spots.{Spot, spots, spots_seq, spots_back, spots_first, rule_spots}
use Rattle.sight.specs.Sight.{In}
use Rattle.sight.proofs.Members.{in_split}
use Rattle.meaning.specs.Meaning.{Env, Part, occurs, declares, names, defines, head_part, with, introduces, meet_ident, meet, meet_seq, meet_then, mark, marks, marks_seq, marks_then, marks_back, marks_first, marks_of, marks_in}
use Rattle.rename.specs.Rename.{ident_of}

-- what stands below a class: the IdentTerm of a Term or AppHead, member names after another child, or none
data Below : Type 0 where
  ours members no-ident : Below

unfoldable below_of : Class → Below
below_of (outer o) = no-ident
below_of (inner plain) = no-ident
below_of (inner term) = ours
below_of (inner ident) = no-ident
below_of (inner head) = ours
below_of (inner head_member) = members
below_of (inner member) = members
below_of (inner case) = no-ident
below_of (inner if_var) = no-ident
below_of (inner defined_then) = no-ident
below_of (inner arg) = no-ident

unfoldable is_ident : Class → Bool
is_ident (outer o) = false
is_ident (inner plain) = false
is_ident (inner term) = false
is_ident (inner ident) = true
is_ident (inner head) = false
is_ident (inner head_member) = false
is_ident (inner member) = false
is_ident (inner case) = false
is_ident (inner if_var) = false
is_ident (inner defined_then) = false
is_ident (inner arg) = false

-- P holds of each IdentTerm that stands here, blocks gone into
unfoldable mutual
  unfolding is_ident

  Tops : (ℕ → Type 0) → Tree → Type 0
  Tops P (node n k c sh ts) = T (is_ident c) → P n
  Tops P (block ts) = TopsAll P ts

  TopsAll : (ℕ → Type 0) → Trees → Type 0
  TopsAll P none = Unit {0}
  TopsAll P (u ◂ us) = Tops P u × TopsAll P us

abbrev NoIdent : ℕ → Type 0
NoIdent n = ⊥

mutual
  unfolding Tops

  tops-map : {P Q : ℕ → Type 0} → ((n : ℕ) → P n → Q n) → (u : Tree) → Tops P u → Tops Q u
  tops-map f (node n k c sh ts) h = λ t. f n (h t)
  tops-map f (block ts) h = tops_all-map f ts h

  tops_all-map : {P Q : ℕ → Type 0} → ((n : ℕ) → P n → Q n) → (us : Trees) → TopsAll P us → TopsAll Q us
  tops_all-map f none h = tt
  tops_all-map f (u ◂ us) h = (tops-map f u h.0, tops_all-map f us h.1)

-- only an IdentTerm is of its class, and it stands below a Term, an AppHead and the two members
abbrev classed : ℕ → Kind → Bool
classed k kd = not (is_ident kd.class) || eqb k ident_term_kind

every-classed : (k : ℕ) → k ≤ 40 → T (classed k (kind_of k))
unfolding kinds is_ident
every-classed k l = every-kind classed tt k l

abbrev placed_by : Below → ℕ → Kind → Bool
placed_by ours k kd = eqb k term_kind || eqb k app_head_kind
placed_by members k kd = eqb k app_head_member_kind || eqb k term_member_kind
placed_by no-ident k kd = not (child_kind kd.fields ident_term_kind)

every-placed : (k : ℕ) → k ≤ 40 → T (placed_by (below_of (kind_of k).class) k (kind_of k))
unfolding kinds below_of
every-placed k l = every-kind (λ j kd. placed_by (below_of kd.class) j kd) tt k l

either : (k a b : ℕ) → T (eqb k a || eqb k b) → (k ≡ a) ⊎ (k ≡ b)
either k a b t = go (eqb k a) (eqb→eq k a) t
  where
    go : (c : Bool) → (T c → k ≡ a) → T (c || eqb k b) → (k ≡ a) ⊎ (k ≡ b)
    go true f t = inl (f tt)
    go false f t = inr (eqb→eq k b t)

module _ (img : List ℕ) where
  -- n is the one child of o, and an IdentTerm
  record At (o n : ℕ) : Type 0 where
    is : field img o 1 ≡ n
    kind : kind_at img n ≡ ident_term_kind
    low : n < nodes img
    over : o < nodes img

  unfoldable KidsOk : Below → ℕ → Trees → Type 0
  KidsOk ours n ts = TopsAll (At n) ts
  KidsOk members n none = Unit {0}
  KidsOk members n (u ◂ us) = Tops NoIdent u
  KidsOk no-ident n ts = TopsAll NoIdent ts

  abbrev NodeOk : Tree → Type 0
  NodeOk (node n k c sh ts) = KidsOk (below_of c) n ts
  NodeOk (block ts) = Unit {0}

  module _ (f : Formed img) (P : ℕ → Type 0) where
    tops-tree : (c : ℕ) → c < nodes img → (kind_at img c ≡ ident_term_kind → P c) → Tops P (tree_at img c)
    unfolding Tops class_at
    tops-tree c l h =
        let k = kind_at img c in
        subst (Tops P) (sym (tree_at-is img f c l))
        (λ t. h (eqb→eq k ident_term_kind (not-or (is_ident (kind_of k).class) (eqb k ident_term_kind) t (every-classed k (f.each c l).kind))))

    tops-grow_all : {cs : List ℕ} → All (λ c. (c < nodes img) × (kind_at img c ≡ ident_term_kind → P c)) cs → TopsAll P (grow_all (tree_at img) cs)
    unfolding grow_all Tops
    tops-grow_all nil = tt
    tops-grow_all (cons h r) = (tops-tree _ h.0 h.1, tops-grow_all r)

    tops-grow : (ks : List Kid) → All (λ c. (c < nodes img) × (kind_at img c ≡ ident_term_kind → P c)) (numbers ks) → TopsAll P (grow (tree_at img) ks)
    unfolding grow numbers Tops
    tops-grow [] h = tt
    tops-grow (one c ∷ ks) (cons h r) = (tops-tree c h.0 h.1, tops-grow ks r)
    tops-grow (many cs ∷ ks) h = let s = All-split cs h in (tops-grow_all s.0, tops-grow ks s.1)

    tops-ordered : (c : Class) (ts : Trees) → TopsAll P ts → TopsAll P (ordered c ts)
    unfolding ordered
    tops-ordered c ts h = go (swaps c)
      where
        swapped : (ts : Trees) → TopsAll P ts → TopsAll P (swap ts)
        swapped none h = unfold swap in h
        swapped (t ◂ none) h = unfold swap in h
        swapped (t ◂ (u ◂ us)) h = unfold swap Tops in (h.1.0, (h.0, h.1.1))

        go : (b : Bool) → TopsAll P (elim b [ true ↦ swap ts | false ↦ ts ])
        go true = swapped ts h
        go false = h

  module _ (f : Formed img) (n : ℕ) (h : n < nodes img) where
    -- a Term or an AppHead: its child stands after the case number
    case-ok : (b : Bool) (k : ℕ) → elim b as (λ x. Type 0) [ true ↦ Unit {0} | false ↦ Child img n k (op_at img (start_at img n + 2 + 1)) ]
        → TopsAll (At n) (grow (tree_at img) (elim b [ true ↦ [] | false ↦ one (op_at img (start_at img n + 2 + 1)) ∷ [] ] ++ []))
    unfolding grow Tops field
    case-ok true k r = tt
    case-ok false k r =
        let l : op_at img (start_at img n + 2 + 1) < nodes img = (let z = r.0 in omega arith) in
        (tops-tree f (At n) (op_at img (start_at img n + 2 + 1)) l (λ e. record { is = refl; kind = e; low = l; over = h }), tt)

    term-ok : kind_at img n ≡ term_kind → NodeOk (tree_at img n)
    unfolding kind_of kinds fields_kids field_kids ordered FormedFields FormedField KidsOk below_of
    term-ok e = subst NodeOk (sym (tree_of img f n h term_kind e)) (case-ok (eqb (get_or term_kinds (op_at img (start_at img n + 2)) no_child) no_child) _ (row_of img f n h term_kind e).1.1)

    head-ok : kind_at img n ≡ app_head_kind → NodeOk (tree_at img n)
    unfolding kind_of kinds fields_kids field_kids ordered FormedFields FormedField KidsOk below_of
    head-ok e = subst NodeOk (sym (tree_of img f n h app_head_kind e)) (case-ok (eqb (get_or head_kinds (op_at img (start_at img n + 2)) no_child) no_child) _ (row_of img f n h app_head_kind e).1.1)

    -- a member: its first child is a Term
    no-term : (c : ℕ) → Child img n term_kind c → Tops NoIdent (tree_at img c)
    no-term c r = tops-tree f NoIdent c (let z = r.0 in omega arith) (λ e. let k = r.1 in omega arith)

    head_member-ok : kind_at img n ≡ app_head_member_kind → NodeOk (tree_at img n)
    unfolding kind_of kinds fields_kids field_kids ordered grow FormedFields FormedField KidsOk below_of
    head_member-ok e = subst NodeOk (sym (tree_of img f n h app_head_member_kind e)) (no-term _ (row_of img f n h app_head_member_kind e).1)

    member-ok : kind_at img n ≡ term_member_kind → NodeOk (tree_at img n)
    unfolding kind_of kinds fields_kids field_kids ordered grow FormedFields FormedField KidsOk below_of
    member-ok e = subst NodeOk (sym (tree_of img f n h term_member_kind e)) (no-term _ (row_of img f n h term_member_kind e).1)

    none-ok : T (not (child_kind (kind_of (kind_at img n)).fields ident_term_kind)) → TopsAll NoIdent (ordered (class_at img n) (grow (tree_at img) (kids img n)))
    none-ok t =
        tops-ordered f NoIdent (class_at img n) (grow (tree_at img) (kids img n)) (tops-grow f NoIdent (kids img n)
        (All-map (λ c a. (let z = a.0 in omega arith, λ e. T_not (child_kind (kind_of (kind_at img n)).fields ident_term_kind) t (rw e at a.1))) (kids-admitted img n (f.each n h))))

    node-ok : NodeOk (tree_at img n)
    unfolding class_at
    node-ok = go (below_of (class_at img n)) refl (every-placed (kind_at img n) (f.each n h).kind)
      where
        go : (b : Below) → below_of (class_at img n) ≡ b → T (placed_by b (kind_at img n) (kind_of (kind_at img n))) → NodeOk (tree_at img n)
        go ours q t = ⊎_elim term-ok head-ok (either (kind_at img n) term_kind app_head_kind t)
        go members q t = ⊎_elim head_member-ok member-ok (either (kind_at img n) app_head_member_kind term_member_kind t)
        go no-ident q t = subst NodeOk (sym (tree_at-is img f n h)) (subst (λ b. KidsOk b n (ordered (class_at img n) (grow (tree_at img) (kids img n)))) (sym q) (unfold KidsOk in (none-ok t)))

  all-ok : verdict img ≡ 0 → Everywhere NodeOk (tree_at img (last img))
  all-ok e = everywhere NodeOk img (formed img e) (node-ok (formed img e)) (last img) (last-below img e)

  -- an environment gives a name to nodes of that name
  abbrev Truthful : Env → Type 0
  Truthful env = (x j : ℕ) → env x ≡ some j → name_of img j ≡ x

  with-true : (n : ℕ) (env : Env) → Truthful env → Truthful (with (name_of img) n env)
  unfolding with
  with-true n env t x j e = go (eqb (name_of img n) x) refl e
    where
      go : (b : Bool) → eqb (name_of img n) x ≡ b → ◌≡◌ {A = Option ℕ} (elim b [ true ↦ some n | false ↦ env x ]) (some j) → name_of img j ≡ x
      go true q e = let z : n ≡ j = cc in rw (← z) (eqb-true _ _ q)
      go false q e = t x j e

  ident-true : (p : Part) (n : ℕ) (env : Env) → Truthful env → Truthful (meet_ident (name_of img) (kind_at img) p n env)
  unfolding meet_ident
  ident-true p n env t = go (introduces (name_of img) (kind_at img) p n env)
    where
      go : (b : Bool) → Truthful (elim b [ true ↦ with (name_of img) n env | false ↦ env ])
      go true = with-true n env t
      go false = t

  abbrev met : Part → Tree → Env → Env
  met = meet (name_of img) (kind_at img)

  mutual
    unfolding meet

    meet-true : (p : Part) (u : Tree) (env : Env) → Truthful env → Truthful (meet (name_of img) (kind_at img) p u env)
    meet-true p (block ts) env t = t
    meet-true p (node n k (outer o) sh ts) env t = t
    meet-true p (node n k (inner plain) sh ts) env t = seq-true occurs ts env t
    meet-true p (node n k (inner term) sh ts) env t = seq-true p ts env t
    meet-true p (node n k (inner ident) sh ts) env t = ident-true p n env t
    meet-true p (node n k (inner head) sh ts) env t = seq-true (head_part sh) ts env t
    meet-true p (node n k (inner member) sh ts) env t = then-true names ts env t
    meet-true p (node n k (inner head_member) sh ts) env t = then-true names ts env t
    meet-true p (node n k (inner case) sh ts) env t = t
    meet-true p (node n k (inner if_var) sh ts) env t = then-true declares ts env t
    meet-true p (node n k (inner defined_then) sh ts) env t = then-true (defines env) ts env t
    meet-true p (node n k (inner arg) sh ts) env t = t

    seq-true : (p : Part) (us : Trees) (env : Env) → Truthful env → Truthful (meet_seq (name_of img) (kind_at img) p us env)
    seq-true p none env t = t
    seq-true p (u ◂ us) env t = seq-true p us (met p u env) (meet-true p u env t)

    then-true : (p : Part) (us : Trees) (env : Env) → Truthful env → Truthful (meet_then (name_of img) (kind_at img) p us env)
    then-true p none env t = t
    then-true p (u ◂ us) env t = seq-true p us (met occurs u env) (meet-true occurs u env t)

  -- the IdentTerm of a row, with the name of its binding
  pub record Under (w : Row) : Type 0 where
    pub kind : kind_at img (ident_of img w.left) ≡ ident_term_kind
    pub low : ident_of img w.left < nodes img
    pub over : w.left < nodes img
    pub name : name_of img (ident_of img w.left) ≡ name_of img w.right

  abbrev AllUnder : List Row → Type 0
  AllUnder l = (w : Row) → In w l → Under w

  join : (k l : List Row) → AllUnder k → AllUnder l → AllUnder (k ++ l)
  join k l f g w i = ⊎_elim (f w) (g w) (in_split w k l i)

  mark-under : (o n : ℕ) (r : Option ℕ) → At o n → ((j : ℕ) → r ≡ some j → name_of img j ≡ name_of img n) → AllUnder (mark (kind_at img) o r)
  unfolding mark
  mark-under o n nothing a f = λ w i. absurd i
  mark-under o n (some j) a f = go (eqb (kind_at img j) ident_term_kind)
    where
      go : (b : Bool) → AllUnder (elim b [ true ↦ row o j ∷ [] | false ↦ [] ])
      go true w (inl e) = rw e (record { kind = ap (kind_at img) a.is ∙ a.kind; low = rw a.is a.low; over = a.over; name = ap (name_of img) a.is ∙ sym (f j refl) })
      go true w (inr i) = absurd i
      go false w i = absurd i

  -- none stands here, so P holds of each
  no-tops : (P : ℕ → Type 0) (us : Trees) → TopsAll NoIdent us → TopsAll P us
  no-tops P us h = tops_all-map (λ n x. absurd x) us h

  abbrev found : Part → ℕ → Tree → Env → List Row
  found = marks (name_of img) (kind_at img)

  abbrev found_seq : Part → ℕ → Trees → Env → List Row
  found_seq = marks_seq (name_of img) (kind_at img)

  mutual
    unfolding marks Everywhere Tops KidsOk below_of is_ident

    marks-under : (p : Part) (o : ℕ) (u : Tree) (env : Env) → Truthful env → Everywhere NodeOk u → Tops (At o) u → AllUnder (found p o u env)
    marks-under p o (block ts) env t h a = seq-under occurs o ts env t h a
    marks-under p o (node n k (outer c) sh ts) env t h a = λ w i. absurd i
    marks-under p o (node n k (inner plain) sh ts) env t h a = seq-under occurs n ts env t h.1 (no-tops (At n) ts h.0)
    marks-under p o (node n k (inner term) sh ts) env t h a = seq-under p n ts env t h.1 h.0
    marks-under p o (node n k (inner ident) sh ts) env t h a =
        mark-under o n (meet_ident (name_of img) (kind_at img) p n env (name_of img n)) (a tt) (λ j e. ident-true p n env t (name_of img n) j e)
    marks-under p o (node n k (inner head) sh ts) env t h a = seq-under (head_part sh) n ts env t h.1 h.0
    marks-under p o (node n k (inner member) sh ts) env t h a = first-under n ts env t h.1 h.0
    marks-under p o (node n k (inner head_member) sh ts) env t h a = first-under n ts env t h.1 h.0
    marks-under p o (node n k (inner case) sh ts) env t h a = seq-under occurs n ts env t h.1 (no-tops (At n) ts h.0)
    marks-under p o (node n k (inner if_var) sh ts) env t h a = then-under declares n ts env t h.1 (no-tops (At n) ts h.0)
    marks-under p o (node n k (inner defined_then) sh ts) env t h a = back-under (defines env) n ts env t h.1 (no-tops (At n) ts h.0)
    marks-under p o (node n k (inner arg) sh ts) env t h a = λ w i. absurd i

    seq-under : (p : Part) (o : ℕ) (us : Trees) (env : Env) → Truthful env → EverywhereAll NodeOk us → TopsAll (At o) us → AllUnder (found_seq p o us env)
    seq-under p o none env t h a = λ w i. absurd i
    seq-under p o (u ◂ us) env t h a =
        join (found p o u env) (found_seq p o us (met p u env)) (marks-under p o u env t h.0 a.0) (seq-under p o us (met p u env) (meet-true p u env t) h.1 a.1)

    then-under : (p : Part) (o : ℕ) (us : Trees) (env : Env) → Truthful env → EverywhereAll NodeOk us → TopsAll (At o) us → AllUnder (marks_then (name_of img) (kind_at img) p o us env)
    then-under p o none env t h a = λ w i. absurd i
    then-under p o (u ◂ us) env t h a =
        join (found occurs o u env) (found_seq p o us (met occurs u env)) (marks-under occurs o u env t h.0 a.0) (seq-under p o us (met occurs u env) (meet-true occurs u env t) h.1 a.1)

    back-under : (p : Part) (o : ℕ) (us : Trees) (env : Env) → Truthful env → EverywhereAll NodeOk us → TopsAll (At o) us → AllUnder (marks_back (name_of img) (kind_at img) p o us env)
    back-under p o none env t h a = λ w i. absurd i
    back-under p o (u ◂ us) env t h a =
        join (found_seq p o us (met occurs u env)) (found occurs o u env) (seq-under p o us (met occurs u env) (meet-true occurs u env t) h.1 a.1) (marks-under occurs o u env t h.0 a.0)

    first-under : (o : ℕ) (us : Trees) (env : Env) → Truthful env → EverywhereAll NodeOk us → KidsOk members o us → AllUnder (marks_first (name_of img) (kind_at img) o us env)
    first-under o none env t h a = λ w i. absurd i
    first-under o (u ◂ us) env t h a = marks-under occurs o u env t h.0 (tops-map (λ n x. absurd x) u a)

  -- so does what a declaration list says
  earliest-true : (ns : List ℕ) → Truthful (earliest (name_of img) ns)
  unfolding earliest
  earliest-true [] x j e = cc
  earliest-true (n ∷ ns) x j e = go (eqb (name_of img n) x) refl e (earliest-true ns x j)
    where
      go : (b : Bool) → eqb (name_of img n) x ≡ b → ◌≡◌ {A = Option ℕ} (elim b [ true ↦ some n | false ↦ earliest (name_of img) ns x ]) (some j)
          → (earliest (name_of img) ns x ≡ some j → name_of img j ≡ x) → name_of img j ≡ x
      go true q e f = let z : n ≡ j = cc in rw (← z) (eqb-true _ _ q)
      go false q e f = f e

  else-true : (a b : Env) → Truthful a → Truthful b → Truthful (λ x. or_else (a x) (b x))
  else-true a b f g x j e = go (a x) refl e
    where
      go : (o : Option ℕ) → a x ≡ o → or_else o (b x) ≡ some j → name_of img j ≡ x
      go nothing q e = g x j e
      go (some n) q e = f x j (q ∙ e)

  says-true : (us : Trees) → Truthful (says_all img us)
  says-true us = earliest-true (declared_all us)

  -- the rows of rules
  record RuleOk (r : Rule) : Type 0 where
    meaning-true : Truthful r.meaning
    nodes-ok : EverywhereAll NodeOk r.statements
    tops-ok : TopsAll NoIdent r.statements

  abbrev RulesOk : List Rule → Type 0
  RulesOk rs = (r : Rule) → In r rs → RuleOk r

  join-rules : (k l : List Rule) → RulesOk k → RulesOk l → RulesOk (k ++ l)
  join-rules k l f g w i = ⊎_elim (f w) (g w) (in_split w k l i)

  mutual
    unfolding rules Everywhere KidsOk below_of

    rules-ok : (m : Env) (u : Tree) → Truthful m → Everywhere NodeOk u → RulesOk (rules img m u)
    rules-ok m (block ts) t h = λ r i. absurd i
    rules-ok m (node n k (inner c) sh ts) t h = λ r i. absurd i
    rules-ok m (node n k (outer root) sh ts) t h = λ r i. absurd i
    rules-ok m (node n k (outer decl) sh ts) t h = rules_all-ok m ts t h.1
    rules-ok m (node n k (outer signature) sh ts) t h = λ r i. absurd i
    rules-ok m (node n k (outer rule) sh ts) t h =
        λ r i. ⊎_elim (λ e. subst RuleOk (sym e) (record { meaning-true = t; nodes-ok = h.1; tops-ok = h.0 })) (λ j. absurd j) i
    rules-ok m (node n k (outer enum) sh ts) t h = rules_all-ok m ts t h.1
    rules-ok m (node n k (outer model) sh ts) t h = rules_all-ok (λ x. or_else (says_all img ts x) (m x)) ts (else-true (says_all img ts) m (says-true ts) t) h.1

    rules_all-ok : (m : Env) (us : Trees) → Truthful m → EverywhereAll NodeOk us → RulesOk (rules_all img m us)
    rules_all-ok m none t h = λ r i. absurd i
    rules_all-ok m (u ◂ us) t h = join-rules (rules img m u) (rules_all img m us) (rules-ok m u t h.0) (rules_all-ok m us t h.1)

  of-rules : (u : Tree) → Everywhere NodeOk u → RulesOk (rules_of img u)
  unfolding rules_of Everywhere
  of-rules (block ts) h = λ r i. absurd i
  of-rules (node n k c sh ts) h = rules_all-ok (says_all img ts) ts (says-true ts) h.1

  marks_of-under : (rs : List Rule) → RulesOk rs → AllUnder (marks_of (name_of img) (kind_at img) rs)
  unfolding marks_of
  marks_of-under [] h = λ w i. absurd i
  marks_of-under (r ∷ rs) h =
      let o = h r (inl refl) in
      join (found_seq occurs 0 r.statements r.meaning) (marks_of (name_of img) (kind_at img) rs)
      (seq-under occurs 0 r.statements r.meaning o.meaning-true o.nodes-ok (no-tops (At 0) r.statements o.tops-ok))
      (marks_of-under rs (λ s i. h s (inr i)))

  -- of every row of the occurrence list
  pub rows-under : verdict img ≡ 0 → (w : Row) → In w (marks_in img) → Under w
  unfolding marks_in module_rules
  rows-under e = marks_of-under (rules_of img (tree_at img (last img))) (of-rules (tree_at img (last img)) (all-ok e))

  -- a Term or AppHead with an IdentTerm below it, of a rule: it is the one child
  abbrev AllSpots : List Spot → Type 0
  AllSpots l = (s : Spot) → In s l → At s.node s.ident

  join-spots : (k l : List Spot) → AllSpots k → AllSpots l → AllSpots (k ++ l)
  join-spots k l f g s i = ⊎_elim (f s) (g s) (in_split s k l i)

  mutual
    unfolding spots Everywhere Tops KidsOk below_of is_ident

    spots-at : (o : ℕ) (u : Tree) → Everywhere NodeOk u → Tops (At o) u → AllSpots (spots o u)
    spots-at o (block ts) h a = spots_seq-at o ts h a
    spots-at o (node n k (outer c) sh ts) h a = λ s i. absurd i
    spots-at o (node n k (inner plain) sh ts) h a = spots_seq-at n ts h.1 (no-tops (At n) ts h.0)
    spots-at o (node n k (inner term) sh ts) h a = spots_seq-at n ts h.1 h.0
    spots-at o (node n k (inner ident) sh ts) h a = λ s i. ⊎_elim (λ e. rw e (a tt)) (λ j. absurd j) i
    spots-at o (node n k (inner head) sh ts) h a = spots_seq-at n ts h.1 h.0
    spots-at o (node n k (inner head_member) sh ts) h a = spots_first-at n ts h.1 h.0
    spots-at o (node n k (inner member) sh ts) h a = spots_first-at n ts h.1 h.0
    spots-at o (node n k (inner case) sh ts) h a = spots_seq-at n ts h.1 (no-tops (At n) ts h.0)
    spots-at o (node n k (inner if_var) sh ts) h a = spots_seq-at n ts h.1 (no-tops (At n) ts h.0)
    spots-at o (node n k (inner defined_then) sh ts) h a = spots_back-at n ts h.1 (no-tops (At n) ts h.0)
    spots-at o (node n k (inner arg) sh ts) h a = λ s i. absurd i

    spots_seq-at : (o : ℕ) (us : Trees) → EverywhereAll NodeOk us → TopsAll (At o) us → AllSpots (spots_seq o us)
    spots_seq-at o none h a = λ s i. absurd i
    spots_seq-at o (u ◂ us) h a = join-spots (spots o u) (spots_seq o us) (spots-at o u h.0 a.0) (spots_seq-at o us h.1 a.1)

    spots_back-at : (o : ℕ) (us : Trees) → EverywhereAll NodeOk us → TopsAll (At o) us → AllSpots (spots_back o us)
    spots_back-at o none h a = λ s i. absurd i
    spots_back-at o (u ◂ us) h a = join-spots (spots_seq o us) (spots o u) (spots_seq-at o us h.1 a.1) (spots-at o u h.0 a.0)

    spots_first-at : (o : ℕ) (us : Trees) → EverywhereAll NodeOk us → KidsOk members o us → AllSpots (spots_first o us)
    spots_first-at o none h a = λ s i. absurd i
    spots_first-at o (u ◂ us) h a = spots-at o u h.0 (tops-map (λ n x. absurd x) u a)

  pub spot-ident : verdict img ≡ 0 → (r : Rule) → In r (module_rules img) → (s : Spot) → In s (rule_spots r.statements) → field img s.node 1 ≡ s.ident
  unfolding module_rules rule_spots
  spot-ident e r i s j =
      let o = of-rules (tree_at img (last img)) (all-ok e) r i in
      (spots_seq-at 0 r.statements o.nodes-ok (no-tops (At 0) r.statements o.tops-ok) s j).is
