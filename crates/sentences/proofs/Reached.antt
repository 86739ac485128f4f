-- Where document 01 asks for a row, there is one: the rows of what stands in a rule are among the module's.
use mathlib.Core.Path.{◌≡◌, refl, sym, ap, subst, ◌∙◌}
use mathlib.Core.Logic.{◌⊎◌, inl, inr, ⊎_elim}
use mathlib.Core.Bool.{Bool, true, false, ◌||◌, not, false≢true}
use mathlib.Core.List.Memᴰ
use mathlib.Core.List.{List, [], ◌∷◌, ◌++◌, append-nil, Memᴰ}
use Prim.Native.Nat.{ℕ, zero, suc, ◌+◌, ◌<◌, ◌≤◌}
use native.Mathlib.Nat.{add-zero}
use native.Mathlib.Decide.{ℕ_discrete}
use native.Mathlib.Omega.{arith}
use lib.Dec.{T, eqb, eqb→eq}
use lib.ListN.{get_or}
use borrow.Author.Tests.{ne_eqb}
use Rattle.ast.specs.Image.{nodes, kind_at, start_at, op_at, field, last}
use Rattle.ast.specs.Kinds.{Class, outer, inner, decl, plain, term, ident, head, head_member, member, case, if_var, defined_then, arg, Field, cases, no_child, Kind, kinds, kind_of}
use Rattle.ast.specs.Is.{Is, kind_by}
use Rattle.ast.specs.Rows.{Kid, one, many, ones, numbers, ops_from, kids, fields_kids, field_kids, after}
use Rattle.ast.specs.Tests.{verdict}
use Rattle.ast.specs.Tree.{Tree, block, Trees, ◌◂◌, ordered, grow_all, grow, tree_at}
use Rattle.ast.specs.Items.{below}
use Rattle.ast.proofs.Row.{FormedFields, next, node_of}
use Rattle.ast.proofs.Shapes.{row as fields-of, tree_of, case-child, head_kinds}
use Rattle.ast.proofs.Accepted.{formed}
use Rattle.ast.proofs.Unfold.{numbers-ones}
use Rattle.ast.proofs.Vars.{every-kind}
use Rattle.ast.proofs.ByKind.{kind_for, kinds-for, low-kind}
use Rattle.ast.proofs.Kids.{child_kind, kid-admitted, every-pair, parent}
use Rattle.table.specs.Table.{Table}
use Rattle.rows.specs.Rows.{Row}
use Rattle.ast.proofs.Bools.{not-or}
use Rattle.bindings.specs.Errors.{defined_row, rows_of, rows_seq, decl_rows, decls_rows, plain_rows}
use Rattle.error.specs.Kinds.{asked}
use Rattle.bindings.specs.Promises.{inside, of_pattern}
use Rattle.sentences.specs.Places.{Stands, Determines, InThen, atom, down}
use Rattle.bindings.proofs.RowLaws.{rows_at, decl_kinds, decl-child, plain-rows, term_rows, member-rows, receiver-rows, head-other, case_rows, defined-none, defined-some}
use Rattle.sentences.proofs.Standing.{then_kind, then-node, below-is, kids-at, field-zero, is_at}

-- the rows l are among the rows k
abbrev pub Sub : List Row → List Row → Type 0
Sub l k = (r : Row) → Memᴰ r l → Memᴰ r k

sub_as : {l k m : List Row} → l ≡ k → Sub k m → Sub l m
sub_as {m = m} e h = subst (λ (x : List Row). Sub x m) (sym e) h

sub-to : {l k m : List Row} → k ≡ m → Sub l k → Sub l m
sub-to {l} e h = subst (Sub l) e h

-- a child's rows are among those of the trees below a node
module _ (img : List ℕ) (f : Tree → List Row) (all : Trees → List Row) (each : (u : Tree) (us : Trees) → all (u ◂ us) ≡ f u ++ all us) where
  first_of : (u : Tree) (us : Trees) → Sub (f u) (all (u ◂ us))
  first_of u us r m = subst (Memᴰ r) (sym (each u us)) (Memᴰ.append_left (all us) m)

  rest_of : (u : Tree) (us : Trees) → Sub (all us) (all (u ◂ us))
  rest_of u us r m = subst (Memᴰ r) (sym (each u us)) (Memᴰ.append_right (f u) m)

  among-all : {c : ℕ} (cs : List ℕ) → Memᴰ c cs → Sub (f (tree_at img c)) (all (grow_all (tree_at img) cs))
  unfolding grow_all
  among-all {c = c} [] x' = elim x' [ ]
  among-all (x ∷ cs) (Memᴰ.head e) = sub_as (ap (λ (i : ℕ). f (tree_at img i)) e) (first_of (tree_at img x) (grow_all (tree_at img) cs))
  among-all (x ∷ cs) (Memᴰ.tail m) = λ r k. rest_of (tree_at img x) (grow_all (tree_at img) cs) r (among-all cs m r k)

  -- without blocks
  among-ones : {c : ℕ} (cs : List ℕ) → Memᴰ c (numbers (ones cs ++ [])) → Sub (f (tree_at img c)) (all (grow (tree_at img) (ones cs ++ [])))
  unfolding grow numbers ones
  among-ones [] m = absurd (Memᴰ.not-nil m)
  among-ones {c} (x ∷ cs) m = go (among-ones cs) (Memᴰ.cases_cons m)
    where
      go : (Memᴰ c (numbers (ones cs ++ [])) → Sub (f (tree_at img c)) (all (grow (tree_at img) (ones cs ++ [])))) → (c ≡ x) ⊎ Memᴰ c (numbers (ones cs ++ []))
          → Sub (f (tree_at img c)) (all (tree_at img x ◂ grow (tree_at img) (ones cs ++ [])))
      go h (inl e) = sub_as (ap (λ (i : ℕ). f (tree_at img i)) e) (first_of (tree_at img x) (grow (tree_at img) (ones cs ++ [])))
      go h (inr k) = λ r q. rest_of (tree_at img x) (grow (tree_at img) (ones cs ++ [])) r (h k r q)

  among-grown : (blocks : (ts : Trees) → f (block ts) ≡ all ts) {c : ℕ} (ks : List Kid) → Memᴰ c (numbers ks) → Sub (f (tree_at img c)) (all (grow (tree_at img) ks))
  unfolding grow numbers
  among-grown blocks [] m = absurd (Memᴰ.not-nil m)
  among-grown blocks {c} (one x ∷ ks) m = go (among-grown blocks ks) (Memᴰ.cases_cons m)
    where
      go : (Memᴰ c (numbers ks) → Sub (f (tree_at img c)) (all (grow (tree_at img) ks))) → (c ≡ x) ⊎ Memᴰ c (numbers ks)
          → Sub (f (tree_at img c)) (all (tree_at img x ◂ grow (tree_at img) ks))
      go h (inl e) = sub_as (ap (λ (i : ℕ). f (tree_at img i)) e) (first_of (tree_at img x) (grow (tree_at img) ks))
      go h (inr k) = λ r q. rest_of (tree_at img x) (grow (tree_at img) ks) r (h k r q)
  among-grown blocks {c} (many cs ∷ ks) m = go (among-grown blocks ks) (Memᴰ.append_cases cs m)
    where
      go : (Memᴰ c (numbers ks) → Sub (f (tree_at img c)) (all (grow (tree_at img) ks))) → Memᴰ c cs ⊎ Memᴰ c (numbers ks)
          → Sub (f (tree_at img c)) (all (block (grow_all (tree_at img) cs) ◂ grow (tree_at img) ks))
      go h (inl k) = λ r q. first_of (block (grow_all (tree_at img) cs)) (grow (tree_at img) ks) r (subst (Memᴰ r) (sym (blocks (grow_all (tree_at img) cs))) (among-all cs k r q))
      go h (inr k) = λ r q. rest_of (block (grow_all (tree_at img) cs)) (grow (tree_at img) ks) r (h k r q)

module _ (img : List ℕ) (t : Table) where
  -- of a node whose children are gone through, and of a declaration list
  through-sub : {kd : Kind} {n c : ℕ} (a : Bool) → Is img kd n → ((ts : Trees) → ordered kd.class ts ≡ ts) → Stands img n c → Sub (rows_at img t a n c) (inside img t a n)
  unfolding rows_of
  through-sub {n = n} a is straight s =
      sub-to (ap (rows_seq img t a n) (sym (below-is img is straight)))
      (among-grown img (rows_of img t a n) (rows_seq img t a n) (λ u us. refl) (λ ts. refl) (kids img n) s)

  -- a list of declarations
  listing-sub : {kd : Kind} {n c : ℕ} (cs : List ℕ) → Is img kd n → ((ts : Trees) → ordered kd.class ts ≡ ts) → kids img n ≡ ones cs ++ [] → decl_rows img t (tree_at img n) ≡ decls_rows img t (below (tree_at img n))
      → Stands img n c → Sub (decl_rows img t (tree_at img c)) (decl_rows img t (tree_at img n))
  unfolding decl_rows
  listing-sub {c = c} cs is straight e d s =
      sub-to (sym (d ∙ ap (decls_rows img t) (below-is img is straight ∙ ap (grow (tree_at img)) e)))
      (among-ones img (decl_rows img t) (decls_rows img t) (λ u us. refl) cs (subst (λ (xs : List Kid). Memᴰ c (numbers xs)) e s))

  module-sub : {n c : ℕ} → Is img (kind_of 0) n → Stands img n c → Sub (decl_rows img t (tree_at img c)) (decl_rows img t (tree_at img n))
  unfolding kind_of node_of decl_rows fields_kids field_kids ordered
  module-sub {n} is s =
      listing-sub (ops_from img (op_at img (start_at img n + 2)) (start_at img n + 2 + 1)) is (λ ts. refl) (kids-at img is)
      (subst (λ (u : Tree). decl_rows img t u ≡ decls_rows img t (below u)) (sym (tree_of img is)) refl) s

  model-sub : {n c : ℕ} → Is img (kind_of 8) n → Stands img n c → Sub (decl_rows img t (tree_at img c)) (decl_rows img t (tree_at img n))
  unfolding kind_of node_of decl_rows fields_kids field_kids ordered after
  model-sub {n} is s =
      listing-sub (ops_from img (op_at img (start_at img n + 2 + 1)) (start_at img n + 2 + 1 + 1)) is (λ ts. refl) (kids-at img is)
      (subst (λ (u : Tree). decl_rows img t u ≡ decls_rows img t (below u)) (sym (tree_of img is)) refl) s

  -- the child of a case of an enum is the one that stands there
  only-case : (cl : Class) (ks : List ℕ) {n c : ℕ} → Is img (kind_by cl (cases ks ∷ [])) n → Stands img n c → (c ≡ field img n 1) × (eqb (get_or ks (field img n 0) no_child) no_child ≡ false)
  unfolding fields_kids field_kids field
  only-case cl ks {n} {c} is s =
      go (eqb (get_or ks (field img n 0) no_child) no_child)
      (subst (λ (b : Bool). Memᴰ c (numbers (elim b as (λ _. List Kid) [ true ↦ [] | false ↦ one (field img n 1) ∷ [] ] ++ [])))
      (ap (λ (x : ℕ). eqb (get_or ks x no_child) no_child) (sym (field-zero img n)))
      (subst (λ (xs : List Kid). Memᴰ c (numbers xs)) (kids-at img is) s))
    where
      go : (b : Bool) → Memᴰ c (numbers (elim b as (λ _. List Kid) [ true ↦ [] | false ↦ one (field img n 1) ∷ [] ] ++ [])) → (c ≡ field img n 1) × (b ≡ false)
      go true m = unfold numbers in absurd (Memᴰ.not-nil m)
      go false m = unfold numbers in (Memᴰ.eq_of_singleton m, refl)

  decl-sub : {n c : ℕ} → Is img (kind_of 1) n → Stands img n c → Sub (decl_rows img t (tree_at img c)) (decl_rows img t (tree_at img n))
  unfolding kind_of
  decl-sub {n} {c} is s =
      let o = only-case (outer decl) decl_kinds is s in
      sub-to (sym (decl-child img t is (field img n 0) refl o.0 o.1).1) (λ r m. m)

  rule-sub : {n c : ℕ} → Is img (kind_of 6) n → Stands img n c → Sub (rows_at img t false n c) (decl_rows img t (tree_at img n))
  unfolding kind_of node_of decl_rows ordered
  rule-sub {n} is s =
      sub-to (sym (subst (λ (u : Tree). decl_rows img t u ≡ rows_seq img t false n (below u)) (sym (tree_of img is)) refl)) (through-sub false is (λ ts. refl) s)

  -- statements
  case-sub : {n c : ℕ} (o : ℕ) → Is img (kind_of 35) n → Stands img n c → Sub (rows_at img t false n c) (rows_at img t false o n)
  unfolding kind_of ordered
  case-sub {n} o is s = sub-to (sym (case_rows img t false o is)) (λ r m. Memᴰ.append_right (of_pattern img t n) (through-sub false is (λ ts. refl) s r m))

  plain-sub : {n c : ℕ} (a : Bool) (fs : List Field) (o : ℕ) → Is img (kind_by (inner plain) fs) n → asked (kind_at img n) a ≡ a → Stands img n c → Sub (rows_at img t a n c) (rows_at img t a o n)
  unfolding ordered
  plain-sub {n} a fs o is e s =
      sub-to (sym (plain-rows img t a (kind_at img n) fs o is refl ∙ ap (λ (b : Bool). inside img t b n) e)) (through-sub a is (λ ts. refl) s)

-- up to the module -----------------------------------------------------------------------------------------------------
-- the kinds of declaration lists, and of statements down to then-atoms
abbrev pub decl_kind : ℕ → Bool
decl_kind k = eqb k 0 || (eqb k 1 || (eqb k 6 || eqb k 8))

abbrev pub stmt_kind : ℕ → Bool
stmt_kind k = eqb k 29 || (eqb k 35 || (eqb k 36 || (eqb k 38 || (eqb k 39 || eqb k 40))))

abbrev above_decl : ℕ → Kind → ℕ → Bool
above_decl k kd c = not (child_kind kd.fields c) || (not (decl_kind c) || (eqb k 0 || (eqb k 1 || eqb k 8)))

above-decl : (k c : ℕ) → k ≤ 40 → c ≤ 40 → T (above_decl k (kind_of k) c)
unfolding kinds
above-decl k c l m = every-pair above_decl tt k c l m

abbrev above_stmt : ℕ → Kind → ℕ → Bool
above_stmt k kd c = not (child_kind kd.fields c) || (not (stmt_kind c) || (eqb k 6 || (eqb k 35 || (eqb k 36 || (eqb k 38 || (eqb k 39 || eqb k 40))))))

above-stmt : (k c : ℕ) → k ≤ 40 → c ≤ 40 → T (above_stmt k (kind_of k) c)
unfolding kinds
above-stmt k c l m = every-pair above_stmt tt k c l m

either : (k x : ℕ) (b : Bool) → T (eqb k x || b) → (k ≡ x) ⊎ T b
either k x b t = go (eqb k x) (eqb→eq k x) t
  where
    go : (c : Bool) → (T c → k ≡ x) → T (c || b) → (k ≡ x) ⊎ T b
    go true f s = inl (f tt)
    go false f s = inr s

module _ (img : List ℕ) (t : Table) (accepted : verdict img ≡ 0) where
  -- the rows of a declaration, or of a statement below some node, are among the module's
  abbrev pub Up : ℕ → Type 0
  Up n = (T (decl_kind (kind_at img n)) → Sub (decl_rows img t (tree_at img n)) (plain_rows img t))
      × (T (stmt_kind (kind_at img n)) → (o : ℕ) × Sub (rows_at img t false o n) (plain_rows img t))

  module _ (p n : ℕ) (low : p < nodes img) (s : Stands img p n) (up : Up p) where
    abbrev k : ℕ
    k = kind_at img p

    adm : (n < p) × T (child_kind (kind_of k).fields (kind_at img n))
    adm = kid-admitted img p ((formed img accepted).each p low) s

    low-n : n < nodes img
    low-n = let l = adm.0 in omega arith

    decl-up : T (decl_kind (kind_at img n)) → Sub (decl_rows img t (tree_at img n)) (plain_rows img t)
    decl-up d =
        go (not-or (decl_kind (kind_at img n)) (eqb k 0 || (eqb k 1 || eqb k 8)) d
        (not-or (child_kind (kind_of k).fields (kind_at img n)) _ adm.1 (above-decl k (kind_at img n) (low-kind img accepted p low) (low-kind img accepted n low-n))))
      where
        to : (x : ℕ) → k ≡ x → T (decl_kind x) → Sub (decl_rows img t (tree_at img n)) (decl_rows img t (tree_at img p)) → Sub (decl_rows img t (tree_at img n)) (plain_rows img t)
        to x e q h r m = up.0 (subst (λ (y : ℕ). T (decl_kind y)) (sym e) q) r (h r m)

        eight : T (eqb k 8) → Sub (decl_rows img t (tree_at img n)) (plain_rows img t)
        eight q = let e = eqb→eq k 8 q in to 8 e tt (model-sub img t (is_at img t accepted low e) s)

        go : T (eqb k 0 || (eqb k 1 || eqb k 8)) → Sub (decl_rows img t (tree_at img n)) (plain_rows img t)
        go q =
            ⊎_elim (λ e. to 0 e tt (module-sub img t (is_at img t accepted low e) s))
            (λ q1. ⊎_elim (λ e. to 1 e tt (decl-sub img t (is_at img t accepted low e) s)) eight (either k 1 (eqb k 8) q1))
            (either k 0 (eqb k 1 || eqb k 8) q)

    stmt-up : T (stmt_kind (kind_at img n)) → (o : ℕ) × Sub (rows_at img t false o n) (plain_rows img t)
    unfolding kind_of asked
    stmt-up d = (
      p,
      go (not-or (stmt_kind (kind_at img n)) (eqb k 6 || (eqb k 35 || (eqb k 36 || (eqb k 38 || (eqb k 39 || eqb k 40))))) d
          (not-or (child_kind (kind_of k).fields (kind_at img n)) _ adm.1 (above-stmt k (kind_at img n) (low-kind img accepted p low) (low-kind img accepted n low-n)))),
    )
      where
        to : (x : ℕ) → k ≡ x → T (stmt_kind x) → ((o : ℕ) → Sub (rows_at img t false p n) (rows_at img t false o p)) → Sub (rows_at img t false p n) (plain_rows img t)
        to x e q h r m = let u = up.1 (subst (λ (y : ℕ). T (stmt_kind y)) (sym e) q) in u.1 r (h u.0 r m)

        in-rule : k ≡ 6 → Sub (rows_at img t false p n) (plain_rows img t)
        in-rule e r m = up.0 (subst (λ (y : ℕ). T (decl_kind y)) (sym e) tt) r (rule-sub img t (is_at img t accepted low e) s r m)

        forty : T (eqb k 40) → Sub (rows_at img t false p n) (plain_rows img t)
        forty q = let e = eqb→eq k 40 q in to 40 e tt (λ o. plain-sub img t false _ o (is_at img t accepted low e) (ap (λ (x : ℕ). asked x false) e) s)

        go : T (eqb k 6 || (eqb k 35 || (eqb k 36 || (eqb k 38 || (eqb k 39 || eqb k 40))))) → Sub (rows_at img t false p n) (plain_rows img t)
        go q =
            ⊎_elim in-rule
            (λ q1. ⊎_elim (λ e. to 35 e tt (λ o. case-sub img t o (is_at img t accepted low e) s))
            (λ q2. ⊎_elim (λ e. to 36 e tt (λ o. plain-sub img t false _ o (is_at img t accepted low e) (ap (λ (x : ℕ). asked x false) e) s))
            (λ q3. ⊎_elim (λ e. to 38 e tt (λ o. plain-sub img t false _ o (is_at img t accepted low e) (ap (λ (x : ℕ). asked x false) e) s))
            (λ q4. ⊎_elim (λ e. to 39 e tt (λ o. plain-sub img t false _ o (is_at img t accepted low e) (ap (λ (x : ℕ). asked x false) e) s)) forty (either k 39 _ q4))
            (either k 38 _ q3)) (either k 36 _ q2)) (either k 35 _ q1)) (either k 6 _ q)

  pub ups : (m n : ℕ) → nodes img ≤ n + m → n < nodes img → Up n
  unfolding plain_rows
  ups zero n l low = absurd (omega arith)
  ups (suc m) n l low = go (ℕ_discrete n (last img)) (λ p b lp. ups m p (omega arith) lp)
    where
      go : Dec (n ≡ last img) → ((p : ℕ) → n < p → p < nodes img → Up p) → Up n
      go (yes e) ih = (
        λ d. sub_as (ap (λ (x : ℕ). decl_rows img t (tree_at img x)) e) (λ r h. h),
        λ d. absurd (subst (λ (x : ℕ). T (stmt_kind x)) (ap (kind_at img) e ∙ (formed img accepted).root) d),
      )
      go (no e) ih =
          let b = parent img accepted n (let z = below_last low e in z) in
          let a = kid-admitted img b.0 ((formed img accepted).each b.0 b.1) b.2 in
          let u = ih b.0 a.0 b.1 in
          (decl-up b.0 n b.1 b.2 u, stmt-up b.0 n b.1 b.2 u)
        where
          below_last : n < nodes img → (n ≡ last img → ⊥) → n < last img
          below_last x y = unfold last in omega arith

-- down from a then-atom ------------------------------------------------------------------------------------------------
abbrev then_class : Class → Bool
then_class (outer o) = false
then_class (inner plain) = true
then_class (inner term) = true
then_class (inner ident) = true
then_class (inner head) = true
then_class (inner head_member) = true
then_class (inner member) = true
then_class (inner case) = false
then_class (inner if_var) = false
then_class (inner defined_then) = true
then_class (inner arg) = false

then-classes : (k : ℕ) → k ≤ 40 → T (not (then_kind k) || then_class (kind_of k).class)
unfolding kinds
then-classes k l = every-kind (λ x xd. not (then_kind x) || then_class xd.class) tt k l

asked-keeps : (k : ℕ) → (k ≡ 18 → ⊥) → (k ≡ 19 → ⊥) → (k ≡ 26 → ⊥) → asked k true ≡ true
unfolding asked
asked-keeps k p q r = go (eqb k 29) (eqb k 18) (eqb k 19) (eqb k 26) (ne_eqb k 18 p) (ne_eqb k 19 q) (ne_eqb k 26 r)
  where
    go : (b c d f : Bool) → c ≡ false → d ≡ false → f ≡ false → ◌≡◌ {A = Bool} (elim b [ true ↦ true | false ↦ elim (c || (d || f)) [ true ↦ false | false ↦ true ] ]) true
    go true c d f x y z = refl
    go false true d f x y z = absurd (false≢true (sym x))
    go false false true f x y z = absurd (false≢true (sym y))
    go false false false true x y z = absurd (false≢true (sym z))
    go false false false false x y z = refl

-- where a number of some operands stands
ops-mem : (img : List ℕ) (c p : ℕ) {x : ℕ} → Memᴰ x (ops_from img c p) → (j : ℕ) × (j < c) × (x ≡ op_at img (p + j))
unfolding ops_from
ops-mem img zero p m = absurd (Memᴰ.not-nil m)
ops-mem img (suc c) p {x} m = go (ops-mem img c (p + 1)) (Memᴰ.cases_cons m)
  where
    go : (Memᴰ x (ops_from img c (p + 1)) → (j : ℕ) × (j < c) × (x ≡ op_at img (p + 1 + j))) → (x ≡ op_at img p) ⊎ Memᴰ x (ops_from img c (p + 1))
        → (j : ℕ) × (j < suc c) × (x ≡ op_at img (p + j))
    go h (inl e) = (0, omega arith, e ∙ ap (op_at img) (sym (add-zero p)))
    go h (inr k) = let r = h k in (suc r.0, (let b = r.1 in omega arith), r.2 ∙ ap (op_at img) (let z : p + 1 + r.0 ≡ p + suc r.0 = omega arith in z))

module _ (img : List ℕ) (t : Table) (accepted : verdict img ≡ 0) where
  module _ (p c : ℕ) (low : p < nodes img) (s : Stands img p c) (d : Determines img p c) (no-ident : kind_at img c ≡ 13 → ⊥) (o : ℕ) where
    -- the child's rows are among the node's
    abbrev Goes : Type 0
    Goes = Sub (rows_at img t true p c) (rows_at img t true o p)

    plain-goes : (fs : List Field) → Is img (kind_by (inner plain) fs) p → Goes
    plain-goes fs is = plain-sub img t true fs o is (asked-keeps (kind_at img p) d.dom d.cod d.predicate) s

    term-goes : kind_at img p ≡ 12 → Goes
    unfolding kind_of ordered
    term-goes e = sub-to (sym (term_rows img t true o (is_at img t accepted low e))) (through-sub img t true (is_at img t accepted low e) (λ ts. refl) s)

    ident-goes : kind_at img p ≡ 13 → Goes
    unfolding kind_of
    ident-goes e = absurd (subst (λ (k : ℕ). T (child_kind (kind_of k).fields (kind_at img c))) e (kid-admitted img p ((formed img accepted).each p low) s).1)

    head-goes : kind_at img p ≡ 15 → Goes
    unfolding kind_of ordered
    head-goes e = go (field img p 0) refl
      where
        is : Is img (kind_of 15) p
        is = is_at img t accepted low e

        one-there : (c ≡ field img p 1) × (eqb (get_or head_kinds (field img p 0) no_child) no_child ≡ false)
        one-there = only-case img t (inner head) head_kinds is s

        go : (x : ℕ) → x ≡ field img p 0 → Goes
        go zero q = absurd (no-ident (case-child img (inner head) head_kinds is 0 c q one-there.0 refl).kind)
        go (suc x) q = sub-to (sym (head-other img t true o x is q)) (through-sub img t true is (λ ts. refl) s)

    member-goes : kind_at img p ≡ 17 → Goes
    unfolding kind_of fields_kids field_kids numbers after FormedFields next
    member-goes e = ⊎_elim first (λ m. absurd (second (Memᴰ.eq_of_singleton m))) (Memᴰ.cases_cons there)
      where
        is : Is img (kind_of 17) p
        is = is_at img t accepted low e

        there : Memᴰ c (op_at img (start_at img p + 2) ∷ (op_at img (start_at img p + 2 + 1) ∷ []))
        there = subst (λ (xs : List Kid). Memᴰ c (numbers xs)) (kids-at img is) s

        first : c ≡ op_at img (start_at img p + 2) → Goes
        first q = sub-to (ap (rows_at img t true p) (q ∙ sym (field-zero img p)) ∙ sym (member-rows img t true o is)) (λ r m. m)

        second : c ≡ op_at img (start_at img p + 2 + 1) → ⊥
        second q = no-ident (ap (kind_at img) q ∙ name)
          where
            name : kind_at img (op_at img (start_at img p + 2 + 1)) ≡ 13
            name = unfold field in (fields-of img is).1.0.kind

    receiver-goes : kind_at img p ≡ 16 → Goes
    unfolding kind_of fields_kids field_kids numbers after FormedFields next field
    receiver-goes e = ⊎_elim first (λ m. absurd (other (ops-mem img (op_at img (start_at img p + 2 + 1)) (start_at img p + 2 + 1 + 1) m))) (Memᴰ.cases_cons there)
      where
        is : Is img (kind_of 16) p
        is = is_at img t accepted low e

        names : List ℕ
        names = ops_from img (op_at img (start_at img p + 2 + 1)) (start_at img p + 2 + 1 + 1)

        there : Memᴰ c (op_at img (start_at img p + 2) ∷ names)
        there =
            subst (λ (ys : List ℕ). Memᴰ c (op_at img (start_at img p + 2) ∷ ys)) (ap numbers (append-nil (ones names)) ∙ numbers-ones names)
            (subst (λ (xs : List Kid). Memᴰ c (numbers xs)) (kids-at img is) s)

        first : c ≡ op_at img (start_at img p + 2) → Goes
        first q = sub-to (ap (rows_at img t true p) (q ∙ sym (field-zero img p)) ∙ sym (receiver-rows img t true o is)) (λ r m. m)

        other : (j : ℕ) × (j < op_at img (start_at img p + 2 + 1)) × (c ≡ op_at img (start_at img p + 2 + 1 + 1 + j)) → ⊥
        other w =
            let q : start_at img p + 2 + 1 + 1 + w.0 ≡ start_at img p + 2 + (2 + w.0) = omega arith in
            no-ident (ap (kind_at img) (w.2 ∙ ap (op_at img) q) ∙ ((fields-of img is).1.0 w.0 w.1).kind)

    defined-goes : kind_at img p ≡ 34 → Goes
    unfolding kind_of fields_kids field_kids after field
    defined-goes e = go (field img p 0) refl (subst (λ (x : ℕ). Memᴰ c (numbers (elim x as (λ _. List Kid) [ zero ↦ [] | suc v ↦ one v ∷ [] ] ++ (one (field img p 1) ∷ [])))) (sym (field-zero img p)) there)
      where
        is : Is img (kind_of 34) p
        is = is_at img t accepted low e

        there : Memᴰ c (numbers (elim (op_at img (start_at img p + 2)) as (λ _. List Kid) [ zero ↦ [] | suc v ↦ one v ∷ [] ] ++ (one (field img p 1) ∷ [])))
        there = subst (λ (xs : List Kid). Memᴰ c (numbers xs)) (kids-at img is) s

        go : (w : ℕ) → w ≡ field img p 0 → Memᴰ c (numbers (elim w as (λ _. List Kid) [ zero ↦ [] | suc v ↦ one v ∷ [] ] ++ (one (field img p 1) ∷ []))) → Goes
        go zero q m = unfold numbers in
            sub-to (ap (rows_at img t true p) (Memᴰ.eq_of_singleton m) ∙ sym (defined-none img t true o is q refl)) (λ r x. x)
        go (suc v) q m = unfold numbers in
            ⊎_elim (λ z. absurd (d.variable e (sym q ∙ ap suc (sym z))))
            (λ y. sub_as (ap (rows_at img t true p) (Memᴰ.eq_of_singleton y))
            (sub-to (sym (defined-some img t true o v is q refl)) (λ r x. Memᴰ.append_right (defined_row img t o (tree_at img v)) x)))
            (Memᴰ.cases_cons m)

    goes : T (then_kind (kind_at img p)) → Goes
    goes h = go (kind_of (kind_at img p)).class refl (not-or (then_kind (kind_at img p)) (then_class (kind_of (kind_at img p)).class) h (then-classes (kind_at img p) (low-kind img accepted p low)))
      where
        kind-is : (cl : Class) → (kind_of (kind_at img p)).class ≡ cl → T (kind_for cl (kind_at img p))
        kind-is cl e = subst (λ (x : Class). T (kind_for x (kind_at img p))) e (kinds-for (kind_at img p) (low-kind img accepted p low))

        by : (cl : Class) → T (then_class cl) → (kind_of (kind_at img p)).class ≡ cl → Goes
        by (outer x) h2 e = absurd h2
        by (inner plain) h2 e = plain-goes (kind_of (kind_at img p)).fields (record { accepted = accepted; below = low; kind = ap (λ (x : Class). kind_by x (kind_of (kind_at img p)).fields) e })
        by (inner term) h2 e = term-goes (eqb→eq _ _ (kind-is (inner term) e))
        by (inner ident) h2 e = ident-goes (eqb→eq _ _ (kind-is (inner ident) e))
        by (inner head) h2 e = head-goes (eqb→eq _ _ (kind-is (inner head) e))
        by (inner head_member) h2 e = receiver-goes (eqb→eq _ _ (kind-is (inner head_member) e))
        by (inner member) h2 e = member-goes (eqb→eq _ _ (kind-is (inner member) e))
        by (inner case) h2 e = absurd h2
        by (inner if_var) h2 e = absurd h2
        by (inner defined_then) h2 e = defined-goes (eqb→eq _ _ (kind-is (inner defined_then) e))
        by (inner arg) h2 e = absurd h2

        go : (cl : Class) → (kind_of (kind_at img p)).class ≡ cl → T (then_class (kind_of (kind_at img p)).class) → Goes
        go cl e h2 = by cl (subst (λ (x : Class). T (then_class x)) e h2) e

  -- what stands in a then-atom, but an IdentTerm, has its rows among the module's
  pub then-up : {c : ℕ} → InThen img c → (kind_at img c ≡ 13 → ⊥) → (o : ℕ) × Sub (rows_at img t true o c) (plain_rows img t)
  unfolding kind_of asked
  then-up (atom {n} h) no-ident =
      let u = (ups img t accepted (nodes img) n (omega arith) h.below).1 (subst (λ (k : ℕ). T (stmt_kind k)) (sym h.kind) tt) in
      (u.0, sub_as (plain-rows img t true 29 _ u.0 (is_at img t accepted h.below h.kind) h.kind ∙ sym (plain-rows img t false 29 _ u.0 (is_at img t accepted h.below h.kind) h.kind)) u.1)
  then-up (down {p} {c} h s d) no-ident =
      let q = then-node img accepted h in
      let adm = kid-admitted img p ((formed img accepted).each p q.0) s in
      let u = then-up h (λ e. subst (λ (k : ℕ). T (child_kind (kind_of k).fields (kind_at img c))) e adm.1) in
      (p, λ r m. u.1 r (goes p c q.0 s d no-ident u.0 q.1 r m))
