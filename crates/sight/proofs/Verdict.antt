-- The trees of an accepted image: rules have bodies, and no declaration has the kind of an IdentTerm. By one computed check
-- over the 41 kinds.
use mathlib.Core.Path.{◌≡◌, refl, sym, ◌∙◌, ap, subst}
use mathlib.Core.Logic.{◌⊎◌, inl, inr}
use mathlib.Core.Bool.{Bool, true, false, not, ◌&&◌, ◌||◌}
use mathlib.Core.List.{List, [], ◌∷◌, ◌++◌}
use Prim.Native.Nat.{ℕ, zero, suc, ◌+◌, ◌≤◌, ◌<◌}
use native.Mathlib.Nat.{add-zero}
use native.Mathlib.Omega.{arith}
use lib.Dec.{T, eqb, eqb→eq, T_not}
use lib.ListN.{get_or}
use Rattle.ast.specs.Image.{nodes, last, kind_at, start_at, op_at}
use Rattle.ast.specs.Kinds.{Class, outer, inner, Outer, root, decl, signature, rule, enum, model, plain, term, ident, head, head_member, member, case, if_var, defined_then, arg, Field, name, opt_name, child, opt_child, list, lists, cases, no_child, Kind, kinds, kind_of}
use Rattle.ast.specs.Is.{Is}
use Rattle.ast.specs.Named.{arg_decl_kind}
use Rattle.ast.specs.Rows.{Kid, one, many, ones, numbers, ops_from, after, block_kids, field_kids, fields_kids, field_shape, fields_shape, fields_at, kids, shape}
use Rattle.ast.specs.Tests.{verdict}
use Rattle.ast.specs.Tree.{Tree, node, Trees, none, ◌◂◌, swap, swaps, ordered, grow_all, grow, class_at, tree_at}
use Rattle.ast.proofs.Accepted.{formed, last-below}
use Rattle.ast.proofs.Formed.{Child, Items, Formed, FormedBlocks, FormedField, FormedFields}
use Rattle.ast.proofs.Unfold.{All, nil, cons, All-append, All-split, All-map, numbers-append, numbers-ones, kids-below, tree_at-is}
use Rattle.ast.proofs.Shapes.{term_kinds, head_kinds}
use Rattle.ast.proofs.Vars.{PlainVar, named, wildcard, Each, AfterFirst, PlainAt, every-kind, vars-at, and_both}
use Rattle.ast.proofs.Bools.{is_false}
use Rattle.sight.proofs.Steps.{IdentOnly, VarTerm, VarTerms, Idents, Body, Bodies, Members, Defines}
use Rattle.sight.proofs.Lists.{NoVar, Decl, Decls}

-- a test of every kind of child that a field names
cases_all : (ℕ → Bool) → List ℕ → Bool
cases_all g [] = true
cases_all g (k ∷ ks) = (eqb k no_child || g k) && cases_all g ks

field_all : (ℕ → Bool) → Field → Bool
unfolding cases_all
field_all g name = true
field_all g opt_name = true
field_all g (child k) = g k
field_all g (opt_child k) = g k
field_all g (list k) = g k
field_all g (lists k) = g k
field_all g (cases ks) = cases_all g ks

fields_all : (ℕ → Bool) → List Field → Bool
unfolding field_all
fields_all g [] = true
fields_all g (f ∷ fs) = field_all g f && fields_all g fs

-- what stands in a rule body: no declaration, no argument list, and an IdentTerm only where its parent looks for it
body_class : Class → Bool
body_class (outer o) = false
body_class (inner plain) = true
body_class (inner term) = true
body_class (inner ident) = false
body_class (inner head) = true
body_class (inner head_member) = true
body_class (inner member) = true
body_class (inner case) = true
body_class (inner if_var) = true
body_class (inner defined_then) = true
body_class (inner arg) = false

-- no child is an ArgDecl
argless : List Field → Bool
unfolding fields_all
argless fs = fields_all (λ k. not (eqb k arg_decl_kind)) fs

-- a kind of node that stands there
unfoldable pub in_body : Kind → Bool
unfolding body_class argless
in_body kd = body_class kd.class && argless kd.fields

body_kind : ℕ → Bool
unfolding in_body
body_kind k = in_body (kind_of k)

-- what the walk asks of a kind, by its class
fits_class : Class → ℕ → List Field → Bool
unfolding fields_all body_kind
fits_class (outer root) k fs = not (eqb k 13)
fits_class (outer decl) k fs = not (eqb k 13)
fits_class (outer signature) k fs = not (eqb k 13)
fits_class (outer rule) k fs = not (eqb k 13) && fields_all body_kind fs
fits_class (outer enum) k fs = not (eqb k 13)
fits_class (outer model) k fs = not (eqb k 13)
fits_class (inner plain) k fs = not (argless fs) || fields_all body_kind fs
fits_class (inner term) k fs = eqb k 12
fits_class (inner ident) k fs = true
fits_class (inner head) k fs = eqb k 15
fits_class (inner head_member) k fs = eqb k 16
fits_class (inner member) k fs = eqb k 17
fits_class (inner case) k fs = fields_all body_kind fs
fits_class (inner if_var) k fs = fields_all body_kind fs
fits_class (inner defined_then) k fs = eqb k 34
fits_class (inner arg) k fs = true

fits : ℕ → Kind → Bool
unfolding fits_class
fits k kd = fits_class kd.class k kd.fields

-- the check
every-fits : (k : ℕ) → k ≤ 40 → T (fits k (kind_of k))
unfolding fits kinds kind_of
every-fits k l = every-kind fits tt k l

or_split : (a b : Bool) → T (a || b) → T a ⊎ T b
or_split true b t = inl tt
or_split false b t = inr t

-- what a field's kinds pass, its children pass
module _ (img : List ℕ) (n : ℕ) (g : ℕ → Bool) where
  abbrev Passes : ℕ → Type 0
  Passes c = (c < n) × T (g (kind_at img c))

  child-passes : (k c : ℕ) → T (g k) → Child img n k c → Passes c
  child-passes k c t h = (h.0, subst (λ x. T (g x)) (sym h.1) t)

  ops-pass : (k c p : ℕ) → T (g k) → Items img n k c p → All Passes (ops_from img c p)
  unfolding ops_from
  ops-pass k zero p t h = nil
  ops-pass k (suc c) p t h = cons (rw add-zero at (child-passes k (op_at img (p + 0)) t (h 0 (omega arith)))) (ops-pass k c (p + 1) t rest)
    where
      rest : Items img n k c (p + 1)
      rest j l = let q : p + suc j ≡ p + 1 + j = omega arith in rw q at (h (suc j) (omega arith))

  blocks-pass : (k c p : ℕ) → T (g k) → FormedBlocks img n k c p → All Passes (numbers (block_kids img c p))
  unfolding block_kids FormedBlocks numbers
  blocks-pass k zero p t h = nil
  blocks-pass k (suc c) p t h = All-append (ops-pass k (op_at img p) (p + 1) t h.1) (blocks-pass k c (p + 1 + op_at img p) t h.2)

  option-passes : (k w : ℕ) → T (g k) → elim w as (λ x. Type 0) [ zero ↦ Unit {0} | suc c ↦ Child img n k c ]
      → All Passes (numbers (elim w [ zero ↦ [] | suc c ↦ one c ∷ [] ]))
  unfolding numbers
  option-passes k zero t h = nil
  option-passes k (suc c) t h = cons (child-passes k c t h) nil

  case-kind : (ks : List ℕ) (w : ℕ) → T (cases_all g ks) → T (eqb (get_or ks w no_child) no_child || g (get_or ks w no_child))
  unfolding cases_all
  case-kind [] w t = tt
  case-kind (k ∷ ks) zero t = (and_both (eqb k no_child || g k) (cases_all g ks) t).0
  case-kind (k ∷ ks) (suc w) t = case-kind ks w (and_both (eqb k no_child || g k) (cases_all g ks) t).1

  case-passes : (b : Bool) (k c : ℕ) → T (b || g k) → elim b as (λ x. Type 0) [ true ↦ Unit {0} | false ↦ Child img n k c ]
      → All Passes (numbers (elim b [ true ↦ [] | false ↦ one c ∷ [] ]))
  unfolding numbers
  case-passes true k c t h = nil
  case-passes false k c t h = cons (child-passes k c t h) nil

  field-passes : (f : Field) (p : ℕ) → T (field_all g f) → FormedField img n f p → All Passes (numbers (field_kids img f p))
  unfolding field_all FormedField field_kids numbers
  field-passes name p t h = nil
  field-passes opt_name p t h = nil
  field-passes (child k) p t h = cons (child-passes k (op_at img p) t h) nil
  field-passes (opt_child k) p t h = option-passes k (op_at img p) t h
  field-passes (list k) p t h = rw numbers-ones (ops-pass k (op_at img p) (p + 1) t h)
  field-passes (lists k) p t h = blocks-pass k (op_at img p) (p + 1) t h
  field-passes (cases ks) p t h =
      case-passes (eqb (get_or ks (op_at img p) no_child) no_child) (get_or ks (op_at img p) no_child) (op_at img (p + 1)) (case-kind ks (op_at img p) t) h.1

  fields-pass : (fs : List Field) (p : ℕ) → T (fields_all g fs) → FormedFields img n fs p → All Passes (numbers (fields_kids img fs p))
  unfolding fields_all FormedFields fields_kids numbers
  fields-pass [] p t h = nil
  fields-pass (f ∷ fs) p t h =
      let s = and_both (field_all g f) (fields_all g fs) t in
      rw numbers-append (All-append (field-passes f p s.0 h.1) (fields-pass fs (after img f p) s.1 h.2))

module _ (img : List ℕ) where
  bodies-all : (f : ℕ → Tree) {cs : List ℕ} → All (λ c. Body img (f c)) cs → Bodies img (grow_all f cs)
  unfolding grow_all Body
  bodies-all f nil = tt
  bodies-all f (cons h r) = (h, bodies-all f r)

  bodies-grow : (f : ℕ → Tree) (ks : List Kid) → All (λ c. Body img (f c)) (numbers ks) → Bodies img (grow f ks)
  unfolding grow numbers Body
  bodies-grow f [] h = tt
  bodies-grow f (one c ∷ ks) (cons h r) = (h, bodies-grow f ks r)
  bodies-grow f (many cs ∷ ks) h = let s = All-split cs h in (bodies-all f s.0, bodies-grow f ks s.1)

  bodies-swap : (ts : Trees) → Bodies img ts → Bodies img (swap ts)
  unfolding swap Body
  bodies-swap none h = h
  bodies-swap (t ◂ none) h = h
  bodies-swap (t ◂ (u ◂ us)) h = (h.1.0, (h.0, h.1.1))

  decls-grow : (f : ℕ → Tree) (ks : List Kid) → All (λ c. Decl img (f c)) (numbers ks) → Decls img (grow f ks)
  unfolding grow numbers Decl
  decls-grow f [] h = tt
  decls-grow f (one c ∷ ks) (cons h r) = (h, decls-grow f ks r)
  decls-grow f (many cs ∷ ks) h = (tt, decls-grow f ks (All-split cs h).1)

  -- a plain variable in a body is a defined-then's variable
  var-term : {u : Tree} → PlainVar u → Body img u → VarTerm img u
  unfolding Body
  var-term (named n i) h = go h.1
    where
      vs : Trees
      vs = node i 13 (inner ident) [] none ◂ none

      go : IdentOnly img vs ⊎ Bodies img vs → VarTerm img (node n 12 (inner term) (0 ∷ []) vs)
      go (inl o) = record { n = n; k = 12; sh = 0 ∷ []; vs = vs; is = refl; kind = h.0; only = inl o }
      go (inr o) = absurd o.0
  var-term (wildcard n) h = record { n = n; k = 12; sh = 1 ∷ []; vs = none; is = refl; kind = h.0; only = inr refl }

-- an IdentTerm, or what stands in a body
ident_or : ℕ → Bool
ident_or k = eqb k 13 || body_kind k

-- one node of an accepted image whose children's trees are known to be bodies
module _ (img : List ℕ) (f : Formed img) (n : ℕ) (n<N : n < nodes img)
    (each : (c : ℕ) → c < n → T (body_kind (kind_at img c)) → Body img (tree_at img c)) where
  ident-tree : (c : ℕ) → c < n → kind_at img c ≡ 13 → (us : Trees) × (tree_at img c ≡ node c (kind_at img c) (inner ident) (shape img c) us)
  unfolding class_at kind_of kinds
  ident-tree c l e = (
    ordered (class_at img c) (grow (tree_at img) (kids img c)),
    tree_at-is img f c (omega arith)
        ∙ ap (λ (d : Class). node c (kind_at img c) d (shape img c) (ordered (class_at img c) (grow (tree_at img) (kids img c)))) (ap (λ k. (kind_of k).class) e),
  )

  bodies_of : (fs : List Field) (p : ℕ) → T (fields_all body_kind fs) → FormedFields img n fs p → Bodies img (grow (tree_at img) (fields_kids img fs p))
  bodies_of fs p t h =
      bodies-grow img (tree_at img) (fields_kids img fs p) (All-map (λ c q. each c q.0 q.1) (fields-pass img n body_kind fs p t h))

  ident-only : (c : ℕ) → Child img n 13 c → IdentOnly img (tree_at img c ◂ none)
  ident-only c h =
      let u = ident-tree c h.0 h.1 in
      record { i = c; k = kind_at img c; sh = shape img c; us = u.0; only = ap (λ (v : Tree). v ◂ none) u.1; kind = h.1 }

  child-body : (k c : ℕ) → T (body_kind k) → Child img n k c → Body img (tree_at img c)
  child-body k c t h = let q = child-passes img n body_kind k c t h in each c q.0 q.1

  -- the case of a Term
  case-body : (ks : List ℕ) (p : ℕ) → T (cases_all ident_or ks) → FormedFields img n (cases ks ∷ []) p
      → IdentOnly img (grow (tree_at img) (fields_kids img (cases ks ∷ []) p)) ⊎ Bodies img (grow (tree_at img) (fields_kids img (cases ks ∷ []) p))
  unfolding FormedFields fields_kids field_kids ident_or grow Body
  case-body ks p t h = go (eqb (get_or ks w no_child) no_child) (case-kind img n ident_or ks w t) h.1.1
    where
      w : ℕ
      w = op_at img p

      kid : Bool → Trees
      kid b = grow (tree_at img) (elim b [ true ↦ [] | false ↦ one (op_at img (p + 1)) ∷ [] ] ++ [])

      go : (b : Bool) → T (b || ident_or (get_or ks w no_child))
          → elim b as (λ x. Type 0) [ true ↦ Unit {0} | false ↦ Child img n (get_or ks w no_child) (op_at img (p + 1)) ]
          → IdentOnly img (kid b) ⊎ Bodies img (kid b)
      go true t h = inr tt
      go false t h =
          elim (or_split (eqb (get_or ks w no_child) 13) (body_kind (get_or ks w no_child)) t) [
            | inl s ↦ inl (ident-only (op_at img (p + 1)) (h.0, h.1 ∙ eqb→eq (get_or ks w no_child) 13 s))
            | inr s ↦ inr (child-body (get_or ks w no_child) (op_at img (p + 1)) s h, tt)
          ]

  -- member names
  idents-more : (c : ℕ) (us : Trees) → Child img n 13 c → Idents img us → Idents img (tree_at img c ◂ us)
  unfolding Idents
  idents-more c us h r = subst (λ (u : Tree). Idents img (u ◂ us)) (sym (ident-tree c h.0 h.1).1) (refl, r)

  idents-ops : (c p : ℕ) → Items img n 13 c p → Idents img (grow (tree_at img) (ones (ops_from img c p) ++ []))
  unfolding ops_from ones grow Idents
  idents-ops zero p h = tt
  idents-ops (suc c) p h =
      idents-more (op_at img p) (grow (tree_at img) (ones (ops_from img c (p + 1)) ++ []))
      (subst (λ q. Child img n 13 (op_at img q)) (add-zero p) (h 0 (omega arith)))
      (idents-ops c (p + 1) (λ j l. let q : p + suc j ≡ p + 1 + j = omega arith in rw q at (h (suc j) (omega arith))))

  -- a receiver and member names
  one_name : (k p : ℕ) → T (body_kind k) → FormedFields img n (child k ∷ child 13 ∷ []) p → Members img (grow (tree_at img) (fields_kids img (child k ∷ child 13 ∷ []) p))
  unfolding FormedFields fields_kids field_kids grow Body Idents after
  one_name k p t h = (child-body k (op_at img p) t h.1, idents-more (op_at img (p + 1)) none h.2.1 tt)

  some-names : (k p : ℕ) → T (body_kind k) → FormedFields img n (child k ∷ list 13 ∷ []) p → Members img (grow (tree_at img) (fields_kids img (child k ∷ list 13 ∷ []) p))
  unfolding FormedFields fields_kids field_kids grow Body Idents after
  some-names k p t h = (child-body k (op_at img p) t h.1, idents-ops (op_at img (p + 1)) (p + 1 + 1) h.2.1)

  -- a defined-then: its term, then its variable
  defines-body : (k j p : ℕ) → T (body_kind k) → T (body_kind j) → FormedFields img n (opt_child k ∷ child j ∷ []) p
      → AfterFirst PlainVar (swap (grow (tree_at img) (fields_kids img (opt_child k ∷ child j ∷ []) p)))
      → Defines img (swap (grow (tree_at img) (fields_kids img (opt_child k ∷ child j ∷ []) p)))
  unfolding FormedFields fields_kids field_kids grow swap AfterFirst Each Body VarTerms after
  defines-body k j p t s h = go (op_at img p) h.1
    where
      q : ℕ
      q = op_at img (p + 1)

      kid : ℕ → Trees
      kid w = swap (grow (tree_at img) (elim w [ zero ↦ [] | suc c ↦ one c ∷ [] ] ++ (one q ∷ [])))

      go : (w : ℕ) → elim w as (λ x. Type 0) [ zero ↦ Unit {0} | suc c ↦ Child img n k c ] → AfterFirst PlainVar (kid w) → Defines img (kid w)
      go zero g v = (child-body j q s h.2.1, tt)
      go (suc c) g v = (child-body j q s h.2.1, var-term img v.0 (child-body k c t g))

  -- the kind decides, by its class
  abbrev kin : ℕ → ℕ → Trees
  kin k p = grow (tree_at img) (fields_kids img (kind_of k).fields p)

  term-body : (k p : ℕ) → k ≡ 12 → FormedFields img n (kind_of k).fields p → IdentOnly img (kin k p) ⊎ Bodies img (kin k p)
  unfolding kind_of kinds body_kind cases_all ident_or
  term-body k p e = subst (λ j. FormedFields img n (kind_of j).fields p → IdentOnly img (kin j p) ⊎ Bodies img (kin j p)) (sym e) (case-body term_kinds p tt)

  -- an AppHead of case Ident has its IdentTerm for its one child, and no other has
  head-case : (m w c : ℕ) → kind_at img n ≡ 15
      → elim (eqb (get_or head_kinds w no_child) no_child) as (λ x. Type 0) [ true ↦ Unit {0} | false ↦ Child img n (get_or head_kinds w no_child) c ]
      → Body img (node n m (inner head) (w ∷ []) (grow (tree_at img) (elim (eqb (get_or head_kinds w no_child) no_child) [ true ↦ [] | false ↦ one c ∷ [] ] ++ [])))
  unfolding grow Body body_kind kind_of kinds
  head-case m zero c k h = (k, ident-only c h)
  head-case m (suc zero) c k h = (child-body 16 c tt h, tt)
  head-case m (suc (suc zero)) c k h = (child-body 12 c tt h, tt)
  head-case m (suc (suc (suc w))) c k h = tt

  head-body : (k m p : ℕ) → kind_at img n ≡ 15 → k ≡ 15 → FormedFields img n (kind_of k).fields p
      → Body img (node n m (inner head) (fields_shape img (kind_of k).fields p) (kin k p))
  unfolding kind_of kinds FormedFields fields_kids field_kids fields_shape field_shape
  head-body k m p e q =
      subst (λ j. FormedFields img n (kind_of j).fields p → Body img (node n m (inner head) (fields_shape img (kind_of j).fields p) (kin j p))) (sym q)
      (λ h. head-case m (op_at img p) (op_at img (p + 1)) e h.1.1)

  head_member-body : (k p : ℕ) → k ≡ 16 → FormedFields img n (kind_of k).fields p → Members img (kin k p)
  unfolding kind_of kinds body_kind
  head_member-body k p e = subst (λ j. FormedFields img n (kind_of j).fields p → Members img (kin j p)) (sym e) (some-names 12 p tt)

  member-body : (k p : ℕ) → k ≡ 17 → FormedFields img n (kind_of k).fields p → Members img (kin k p)
  unfolding kind_of kinds body_kind
  member-body k p e = subst (λ j. FormedFields img n (kind_of j).fields p → Members img (kin j p)) (sym e) (one_name 12 p tt)

  defined_then-body : (k p : ℕ) → k ≡ 34 → FormedFields img n (kind_of k).fields p → AfterFirst PlainVar (swap (kin k p)) → Defines img (swap (kin k p))
  unfolding kind_of kinds body_kind
  defined_then-body k p e =
      subst (λ j. FormedFields img n (kind_of j).fields p → AfterFirst PlainVar (swap (kin j p)) → Defines img (swap (kin j p))) (sym e) (defines-body 12 12 p tt tt)

  -- the node n, of kind k and class c
  abbrev built : Class → ℕ → ℕ → Tree
  built c k p = node n k c (fields_shape img (kind_of k).fields p) (ordered c (kin k p))

  body_at : (c : Class) (k p : ℕ) → kind_at img n ≡ k → T (body_class c) → T (argless (kind_of k).fields) → T (fits_class c k (kind_of k).fields)
      → FormedFields img n (kind_of k).fields p → PlainAt (built c k p) → Body img (built c k p)
  unfolding body_class fits_class ordered swaps PlainAt Body
  body_at (outer o) k p e b s t h v = absurd b
  body_at (inner plain) k p e b s t h v =
      elim (or_split (not (argless (kind_of k).fields)) (fields_all body_kind (kind_of k).fields) t) [ inl z ↦ absurd (T_not (argless (kind_of k).fields) z s) | inr z ↦ bodies_of (kind_of k).fields p z h ]
  body_at (inner term) k p e b s t h v = (e ∙ eqb→eq k 12 t, term-body k p (eqb→eq k 12 t) h)
  body_at (inner ident) k p e b s t h v = absurd b
  body_at (inner head) k p e b s t h v = head-body k k p (e ∙ eqb→eq k 15 t) (eqb→eq k 15 t) h
  body_at (inner head_member) k p e b s t h v = head_member-body k p (eqb→eq k 16 t) h
  body_at (inner member) k p e b s t h v = member-body k p (eqb→eq k 17 t) h
  body_at (inner case) k p e b s t h v = bodies_of (kind_of k).fields p t h
  body_at (inner if_var) k p e b s t h v = bodies-swap img (kin k p) (bodies_of (kind_of k).fields p t h)
  body_at (inner defined_then) k p e b s t h v = defined_then-body k p (eqb→eq k 34 t) h v
  body_at (inner arg) k p e b s t h v = absurd b

  -- a declaration
  decl-at : (o : Outer) (k m p : ℕ) (sh : List ℕ) → NoVar img n → T (fits_class (outer o) k (kind_of k).fields) → FormedFields img n (kind_of k).fields p
      → Decls img (kin k p) → Decl img (node n m (outer o) sh (kin k p))
  unfolding fits_class Decl
  decl-at root k m p sh v t h d = tt
  decl-at decl k m p sh v t h d = d
  decl-at signature k m p sh v t h d = v
  decl-at rule k m p sh v t h d = (v, bodies_of (kind_of k).fields p (and_both (not (eqb k 13)) (fields_all body_kind (kind_of k).fields) t).1 h)
  decl-at enum k m p sh v t h d = (v, d)
  decl-at model k m p sh v t h d = (v, d)

-- a declaration is no IdentTerm
no-var : (o : Outer) (k : ℕ) (fs : List Field) → T (fits_class (outer o) k fs) → eqb k 13 ≡ false
unfolding fits_class
no-var root k fs t = is_false (eqb k 13) t
no-var decl k fs t = is_false (eqb k 13) t
no-var signature k fs t = is_false (eqb k 13) t
no-var rule k fs t = is_false (eqb k 13) (and_both (not (eqb k 13)) (fields_all body_kind fs) t).0
no-var enum k fs t = is_false (eqb k 13) t
no-var model k fs t = is_false (eqb k 13) t

module _ (img : List ℕ) (e : verdict img ≡ 0) where
  bodies : (m n : ℕ) → n < m → n < nodes img → T (body_kind (kind_at img n)) → Body img (tree_at img n)
  unfolding body_kind fits class_at kids shape fields_at
  bodies zero n l h t = absurd (omega arith)
  bodies (suc m) n l h t =
      let f = formed img e in
      let k = kind_at img n in
      let s = and_both (body_class (kind_of k).class) (argless (kind_of k).fields) t in
      subst (Body img) (sym (tree_at-is img f n h))
      (body_at img f n h (λ c q. bodies m c (omega arith) (omega arith)) (kind_of k).class k (start_at img n + 2) refl s.0 s.1
      (every-fits k (f.each n h).kind) (f.each n h).row (subst PlainAt (tree_at-is img f n h) (vars-at img e n h)))

  declared : (m n : ℕ) → n < m → n < nodes img → Decl img (tree_at img n)
  unfolding fits class_at kids fields_at Decl ordered swaps
  declared zero n l h = absurd (omega arith)
  declared (suc m) n l h =
      subst (Decl img) (sym (tree_at-is img (formed img e) n h))
      (go (kind_of k).class (every-fits k (f.each n h).kind)
      (decls-grow img (tree_at img) (kids img n) (All-map (λ c q. declared m c (omega arith) (omega arith)) (kids-below img n ((formed img e).each n h)))))
    where
      f : Formed img
      f = formed img e

      k : ℕ
      k = kind_at img n

      go : (c : Class) → T (fits_class c k (kind_of k).fields) → Decls img (grow (tree_at img) (kids img n))
          → Decl img (node n k c (shape img n) (ordered c (grow (tree_at img) (kids img n))))
      go (inner i) t d = tt
      go (outer o) t d =
          decl-at img f n h (λ c q. bodies n c q (omega arith)) o k k (start_at img n + 2) (shape img n) (no-var o k (kind_of k).fields t) t (f.each n h).row d

  -- the module's tree
  pub record Root : Type 0 where
    pub kind : ℕ
    pub class : Class
    pub shape : List ℕ
    pub lists : Trees
    pub is : tree_at img (last img) ≡ node (last img) kind class shape lists
    pub decls : Decls img lists

  decls-swap : (ts : Trees) → Decls img ts → Decls img (swap ts)
  unfolding swap Decl
  decls-swap none h = h
  decls-swap (t ◂ none) h = h
  decls-swap (t ◂ (u ◂ us)) h = (h.1.0, (h.0, h.1.1))

  decls-ordered : (c : Class) (ts : Trees) → Decls img ts → Decls img (ordered c ts)
  unfolding ordered
  decls-ordered c ts h = go (swaps c)
    where
      go : (b : Bool) → Decls img (elim b [ true ↦ swap ts | false ↦ ts ])
      go true = decls-swap ts h
      go false = h

  pub root-of : Root
  root-of =
      let n = last img in
      let f = formed img e in
      let h = last-below img e in
      record {
        kind = kind_at img n;
        class = class_at img n;
        shape = Rattle.ast.specs.Rows.shape img n;
        lists = ordered (class_at img n) (grow (tree_at img) (kids img n));
        is = tree_at-is img f n h;
        decls = decls-ordered (class_at img n) (grow (tree_at img) (kids img n))
            (decls-grow img (tree_at img) (kids img n) (All-map (λ c q. declared n c q (omega arith)) (kids-below img n (f.each n h))));
      }

-- the tree of a node of such a kind
pub body_of : {img : List ℕ} {kd : Kind} {n : ℕ} → Is img kd n → T (in_body kd) → Body img (tree_at img n)
unfolding body_kind
body_of {img} {n = n} is b = bodies img is.accepted (suc n) n (omega arith) is.below (subst (λ (k : Kind). T (in_body k)) (sym is.kind) b)
