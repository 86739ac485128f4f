-- What the checks of then-atoms, patterns, statements and declarations come to, step by step.
use mathlib.Core.Path.{◌≡◌, refl, sym, ap, ap₂, subst, ◌∙◌}
use mathlib.Core.Bool.{Bool, true, false}
use mathlib.Core.List.{List, [], ◌∷◌, ◌++◌}
use Prim.Native.Nat.{ℕ, zero, suc, ◌≤◌}
use native.Mathlib.Omega.{arith}
use lib.Dec.{eqb}
use lib.ListN.{get_or}
use Rattle.ast.specs.Image.{kind_at, field}
use Rattle.ast.specs.Kinds.{inner, plain, term, case, defined_then, no_child, kind_of}
use Rattle.ast.specs.Is.{Is, Run}
use Rattle.ast.specs.Tree.{Tree, Trees, node, block, none, ◌◂◌, swaps, ordered, tree_at}
use Rattle.ast.specs.Items.{items}
use Rattle.ast.proofs.Row.{Child, FormedFields, append, next, ends, node_of}
use Rattle.ast.proofs.Shapes.{row as fields-of, tree_of, child-is, case-child, term_kinds, run-list, run-tail}
use Rattle.ast.proofs.Vars.{PlainVar, named, wildcard, PlainAt, AfterFirst, Each, vars-at}
use Rattle.typed.specs.Nodes.{term_at}
use Rattle.typed.specs.RowShapes.{Two, Listed}
use Rattle.typed.specs.declared.nodes.AppTermId.{AppTermId}
use Rattle.typed.specs.declared.nodes.Term.{Term}
use Rattle.typed.specs.declared.nodes.Term.TheVariants.{App}
use Rattle.typed.specs.declared.nodes.NodeList.{NodeList}
use Rattle.typed.proofs.Enums.{term_is}
use Rattle.typed.proofs.Lists.{at-list}
use Rattle.table.specs.Table.{Table}
use Rattle.rows.specs.Rows.{Row}
use Rattle.bindings.specs.Errors.{defined_row, is_ctor, arg_row, arg_rows, rows_of, rows_seq, decl_rows, decls_rows}
use Rattle.error.specs.Kinds.{asked}
use Rattle.bindings.specs.Promises.{inside, listed, declared, of_stmts, of_decls, of_pattern, of_case, of_args}
use Rattle.bindings.proofs.RowLaws.{rows_at, plain-rows, term_rows, case_rows, defined-none, defined-some, one_inside, two-inside, case-inside, child-list-inside, pattern-first, pattern-none, pattern-app, args-inside, decl-child, rule-rows, model-rows, module-rows}
use Rattle.bindings.proofs.Quiet.{quiet}
use Rattle.bindings.proofs.Epic.{Down, Listing, seq-more}

-- the kinds of the children of a ThenAtom's cases, and of a Stmt's
abbrev pub atom_kinds : List ℕ
atom_kinds = 30 ∷ 34 ∷ 31 ∷ []

abbrev pub stmt_kinds : List ℕ
stmt_kinds = 37 ∷ 38 ∷ 39 ∷ 40 ∷ []

-- the first word of a node's shape
abbrev first_of : Tree → ℕ
first_of (block ts) = 0
first_of (node n k c [] ts) = 0
first_of (node n k c (x ∷ sh) ts) = x

plain-first : {u : Tree} → PlainVar u → first_of u ≤ 1
plain-first (named n i) = omega arith
plain-first (wildcard n) = omega arith

module _ (img : List ℕ) where
  variable-plain : {n v : ℕ} → Is img (kind_of 34) n → suc v ≡ field img n 0 → Is img (kind_of 12) v → field img v 0 ≤ 1
  unfolding kind_of node_of PlainAt swaps
  variable-plain {n} {v} is e z =
      let p = subst PlainAt (tree_of img is) (vars-at img is.accepted n is.below) in
      subst (λ (u : Tree). first_of u ≤ 1) (tree_of img z) (go (field img n 0) (sym e) p)
    where
      go : (x : ℕ) → x ≡ suc v
          → AfterFirst PlainVar (ordered (inner defined_then) (append (elim x [ zero ↦ none | suc m ↦ tree_at img m ◂ none ]) (append (tree_at img (field img n 1) ◂ none) none)))
          → first_of (tree_at img v) ≤ 1
      go x q h = pick (subst (λ (y : ℕ). AfterFirst PlainVar (ordered (inner defined_then) (append (elim y [ zero ↦ none | suc m ↦ tree_at img m ◂ none ]) (append (tree_at img (field img n 1) ◂ none) none)))) q h)
        where
          pick : AfterFirst PlainVar (tree_at img (field img n 1) ◂ (tree_at img v ◂ none)) → first_of (tree_at img v) ≤ 1
          pick k = unfold AfterFirst Each in plain-first k.0

  -- patterns -------------------------------------------------------------------------------------------------------
  pub case-pattern : {n p : ℕ} → Is img (kind_of 35) n → p ≡ field img n 0 → Is img (kind_of 12) p
  unfolding kind_of FormedFields
  case-pattern {n} is q = child-is img is (subst (Child img n 12) (sym q) (fields-of img is).0)

module _ (img : List ℕ) (t : Table) where
  -- then-atoms -----------------------------------------------------------------------------------------------------
  pub then-none : {n d : ℕ} (o : ℕ) → Is img (kind_of 34) n → 0 ≡ field img n 0 → d ≡ field img n 1 → Down img t true 12 n d (rows_at img t true o n)
  unfolding kind_of FormedFields next
  then-none {n} {d} o is e q =
      let h : Child img n 12 d = subst (Child img n 12) (sym q) (fields-of img is).1.0 in
      let z = child-is img is h in
      record { low = h.below; is = z; same = defined-none img t true o is e q ∙ term_rows img t true n z }

  -- a defined-then's variable, and its term
  pub record Defined (o n v d : ℕ) : Type 0 where
    pub is : Is img (kind_of 12) v
    pub plain : field img v 0 ≤ 1
    pub is2 : Is img (kind_of 12) d
    pub same : rows_at img t true o n ≡ defined_row img t o (tree_at img v) ++ inside img t true d

  pub then_some : {n d : ℕ} (o v : ℕ) → Is img (kind_of 34) n → suc v ≡ field img n 0 → d ≡ field img n 1 → Defined o n v d
  unfolding kind_of FormedFields next
  then_some {n} {d} o v is e q =
      let h : Child img n 12 d = subst (Child img n 12) (sym q) (fields-of img is).1.0 in
      let k : Child img n 12 v = (fields-of img is).0 v (sym e) in
      let z = child-is img is h in
      record {
        is = child-is img is k;
        plain = variable-plain img is e (child-is img is k);
        is2 = z;
        same = defined-some img t true o v is e q ∙ ap (λ (l : List Row). defined_row img t o (tree_at img v) ++ l) (term_rows img t true n z);
      }

  -- the child of a ThenAtom
  atom-down : {n d : ℕ} → Is img (kind_of 29) n → (c : ℕ) → c ≡ field img n 0 → d ≡ field img n 1 → eqb (get_or atom_kinds c no_child) no_child ≡ false
      → Child img n (get_or atom_kinds c no_child) d × (inside img t true n ≡ rows_at img t true n d)
  unfolding kind_of ordered
  atom-down is c q r s = (
    case-child img (inner plain) atom_kinds is c _ q r s,
    case-inside img t true (inner plain) atom_kinds is (λ ts. refl) c q r s,
  )

  pub atom-equal : {n d : ℕ} → Is img (kind_of 29) n → 0 ≡ field img n 0 → d ≡ field img n 1 → Down img t true 21 n d (inside img t true n)
  unfolding kind_of asked
  atom-equal {n} is q r =
      let s = atom-down is 0 q r refl in
      let i = child-is img is s.0 in
      record { low = s.0.below; is = i; same = s.1 ∙ plain-rows img t true 30 _ n i s.0.kind }

  pub atom-defined : {n d : ℕ} → Is img (kind_of 29) n → 1 ≡ field img n 0 → d ≡ field img n 1 → Is img (kind_of 34) d × (inside img t true n ≡ rows_at img t true n d)
  atom-defined is q r = let s = atom-down is 1 q r refl in (child-is img is s.0, s.1)

  -- a predicate's receiver is not asked
  pred-none : {n : ℕ} (o : ℕ) → Is img (kind_of 26) n → kind_at img n ≡ 26 → rows_at img t true o n ≡ []
  unfolding kind_of asked
  pred-none {n} o is e = plain-rows img t true 26 _ o is e ∙ sym (plain-rows img t false 26 _ o is e) ∙ quiet img t is.accepted o is.below e tt

  pub atom-pred : {n d e : ℕ} → Is img (kind_of 29) n → 2 ≡ field img n 0 → d ≡ field img n 1 → e ≡ field img d 1 → Down img t true 22 n e (inside img t true n)
  unfolding kind_of asked FormedFields next
  atom-pred {n} {d} {e} is q r z =
      let s = atom-down is 2 q r refl in
      let i = child-is img is s.0 in
      let h : Child img d 26 (field img d 0) = (fields-of img i).0 in
      let k : Child img d 22 e = subst (Child img d 22) (sym z) (fields-of img i).1.0 in
      let j = child-is img i k in
      record {
        low = (let a = s.0.below in let b = k.below in omega arith);
        is = j;
        same =
            s.1 ∙ plain-rows img t true 31 _ n i s.0.kind
            ∙ two-inside img t true 26 22 i refl z
            ∙ ap₂ ◌++◌ (pred-none d (child-is img i h) h.kind) (plain-rows img t true 22 _ d j k.kind);
      }

  pub no-pattern : {n p : ℕ} → Is img (kind_of 35) n → p ≡ field img n 0 → (2 ≡ field img p 0 → ⊥) → of_pattern img t n ≡ []
  no-pattern {n} is q h = pattern-first img t is q ∙ pattern-none img t (items img n (field img n 1) 2) (case-pattern img is q) h

  -- a pattern that applies the head h to the list l
  pub record Applied (n h l : ℕ) : Type 0 where
    pub head : Is img (kind_of 15) h
    pub args : Is img (kind_of 22) l
    pub same : of_pattern img t n ≡ elim (is_ctor img t (tree_at img h)) as (λ _. List Row) [ true ↦ of_args img t l | false ↦ [] ]

  pub applied : {n p d h l : ℕ} → Is img (kind_of 35) n → p ≡ field img n 0 → 2 ≡ field img p 0 → d ≡ field img p 1 → h ≡ field img d 0 → l ≡ field img d 1 → Applied n h l
  unfolding kind_of FormedFields next
  applied {n} {p} {d} {h} {l} is q e r x y =
      let z = case-pattern img is q in
      let k = case-child img (inner term) term_kinds z 2 d e r refl in
      let app = child-is img z k in
      record {
        head = child-is img app (subst (Child img d 15) (sym x) (fields-of img app).0);
        args = child-is img app (subst (Child img d 22) (sym y) (fields-of img app).1.0);
        same = pattern-first img t is q ∙ pattern-app img t (items img n (field img n 1) 2) z e r x y;
      }

  -- as the code finds it
  pub pattern-applied : {n p h l : ℕ} {s : Term} {app : AppTermId} → Is img (kind_of 35) n → p ≡ field img n 0 → s ≡ term_at img p → s ≡ App app → Two img app.0.0 h l → Applied n h l
  pattern-applied is q e k two = let s = term_is img (case-pattern img is q) e k in applied is q s.number s.child two.first two.second

  pub applied-yes : {n h l : ℕ} {b : Bool} → Applied n h l → b ≡ is_ctor img t (tree_at img h) → b ≡ true → of_pattern img t n ≡ of_args img t l
  applied-yes {n} {h} {l} a e z = a.same ∙ ap (λ (b : Bool). elim b as (λ _. List Row) [ true ↦ of_args img t l | false ↦ [] ]) (sym e ∙ z)

  pub applied-no : {n h l : ℕ} {b : Bool} → Applied n h l → b ≡ is_ctor img t (tree_at img h) → b ≡ false → of_pattern img t n ≡ []
  applied-no {n} {h} {l} a e z = a.same ∙ ap (λ (b : Bool). elim b as (λ _. List Row) [ true ↦ of_args img t l | false ↦ [] ]) (sym e ∙ z)

  -- the arguments of a pattern
  pub args-list : {n : ℕ} → Is img (kind_of 22) n → Run img 12 n 1 (field img n 0) × (of_args img t n ≡ arg_rows img t (items img n (field img n 0) 1))
  unfolding kind_of
  args-list is = (run-list img is refl, args-inside img t is)

  pub args-more : (x : ℕ) {us vs : Trees} → us ≡ tree_at img x ◂ vs → arg_rows img t us ≡ arg_row img t (tree_at img x) ++ arg_rows img t vs
  unfolding arg_rows
  args-more x e = ap (arg_rows img t) e

  pub args-none : {us : Trees} → us ≡ none → arg_rows img t us ≡ []
  unfolding arg_rows
  args-none e = ap (arg_rows img t) e

  -- statements -----------------------------------------------------------------------------------------------------
  stmt-down : {n d : ℕ} → Is img (kind_of 36) n → (c : ℕ) → c ≡ field img n 0 → d ≡ field img n 1 → eqb (get_or stmt_kinds c no_child) no_child ≡ false
      → Child img n (get_or stmt_kinds c no_child) d × (inside img t false n ≡ rows_at img t false n d)
  unfolding kind_of ordered
  stmt-down is c q r s = (
    case-child img (inner plain) stmt_kinds is c _ q r s,
    case-inside img t false (inner plain) stmt_kinds is (λ ts. refl) c q r s,
  )

  pub stmt-if : {n : ℕ} → Is img (kind_of 36) n → 0 ≡ field img n 0 → inside img t false n ≡ []
  stmt-if {n} is q = let s = stmt-down is 0 q refl refl in s.1 ∙ quiet img t is.accepted n (child-is img is s.0).below s.0.kind tt

  pub stmt-then : {n d e : ℕ} → Is img (kind_of 36) n → 1 ≡ field img n 0 → d ≡ field img n 1 → e ≡ field img d 0 → Down img t true 29 n e (inside img t false n)
  unfolding kind_of asked FormedFields
  stmt-then {n} {d} {e} is q r z =
      let s = stmt-down is 1 q r refl in
      let i = child-is img is s.0 in
      let k : Child img d 29 e = subst (Child img d 29) (sym z) (fields-of img i).0 in
      let j = child-is img i k in
      record {
        low = (let a = s.0.below in let b = k.below in omega arith);
        is = j;
        same =
            s.1 ∙ plain-rows img t false 38 _ n i s.0.kind
            ∙ one_inside img t false 29 i z
            ∙ plain-rows img t false 29 _ d j k.kind;
      }

  pub stmt-branch : {n d : ℕ} → Is img (kind_of 36) n → 2 ≡ field img n 0 → d ≡ field img n 1 → Down img t false 39 n d (inside img t false n)
  unfolding kind_of asked
  stmt-branch {n} is q r =
      let s = stmt-down is 2 q r refl in
      let i = child-is img is s.0 in
      record { low = s.0.below; is = i; same = s.1 ∙ plain-rows img t false 39 _ n i s.0.kind }

  pub stmt-match : {n d : ℕ} → Is img (kind_of 36) n → 3 ≡ field img n 0 → d ≡ field img n 1 → Down img t false 40 n d (inside img t false n)
  unfolding kind_of asked
  stmt-match {n} is q r =
      let s = stmt-down is 3 q r refl in
      let i = child-is img is s.0 in
      record { low = s.0.below; is = i; same = s.1 ∙ plain-rows img t false 40 _ n i s.0.kind }

  -- the statements of a block
  pub stmts-more : (n x : ℕ) {us vs : Trees} → Is img (kind_of 36) x → kind_at img x ≡ 36 → us ≡ tree_at img x ◂ vs → rows_seq img t false n us ≡ inside img t false x ++ rows_seq img t false n vs
  unfolding kind_of asked
  stmts-more n x {vs = vs} is k e = seq-more img t false n x e ∙ ap (λ (l : List Row). l ++ rows_seq img t false n vs) (plain-rows img t false 36 _ n is k)

  -- the cases of a match; the matched term gives no row
  pub cases-list : {n : ℕ} → Is img (kind_of 40) n → Run img 35 n 2 (field img n 1) × (inside img t false n ≡ listed img t false n (field img n 1) 2)
  unfolding kind_of ordered FormedFields next
  cases-list {n} is =
      let h : Child img n 12 (field img n 0) = (fields-of img is).0 in (
        run-tail img is refl refl,
        child-list-inside img t false (inner plain) 12 35 is (λ ts. refl)
            ∙ ap (λ (l : List Row). l ++ listed img t false n (field img n 1) 2) (quiet img t is.accepted n (child-is img is h).below h.kind tt),
      )

  pub cases-more : (n x : ℕ) {us vs : Trees} → Is img (kind_of 35) x → us ≡ tree_at img x ◂ vs → rows_seq img t false n us ≡ of_case img t x ++ rows_seq img t false n vs
  cases-more n x {vs = vs} is e = seq-more img t false n x e ∙ ap (λ (l : List Row). l ++ rows_seq img t false n vs) (case_rows img t false n is)

  -- a case: its pattern's rows 3, then its statements
  pub case-whole : {n c : ℕ} → Is img (kind_of 35) n → c ≡ field img n 1 → of_case img t n ≡ of_pattern img t n ++ listed img t false n c 2
  unfolding kind_of ordered FormedFields
  case-whole {n} is q =
      let h : Child img n 12 (field img n 0) = (fields-of img is).0 in
      ap (λ (l : List Row). of_pattern img t n ++ l)
      (child-list-inside img t false (inner case) 12 36 is (λ ts. refl)
      ∙ ap (λ (l : List Row). l ++ listed img t false n (field img n 1) 2) (quiet img t is.accepted n (child-is img is h).below h.kind tt)
      ∙ ap (λ (c : ℕ). listed img t false n c 2) (sym q))

  pub case-list : {n : ℕ} {ns : NodeList} → Is img (kind_of 35) n → Listed img n 1 ns
      → Listing img t 36 n ns.node.0 ns.count ns.first (of_case img t n) (of_pattern img t n ++ of_stmts img t ns)
  unfolding kind_of next
  case-list {n} is q =
      at-list img (λ (m j c : ℕ). Listing img t 36 n m c j (of_case img t n) (of_pattern img t n ++ listed img t false m c j)) q
      (record { low = omega arith; run = run-tail img is refl refl; same = case-whole is refl })

  -- the blocks of a branch -----------------------------------------------------------------------------------------
  pub blocks-more : {n : ℕ} (b : NodeList) {us vs : Trees} → b.node.0 ≡ n → us ≡ block (items img b.node.0 b.count b.first) ◂ vs → rows_seq img t false n us ≡ of_stmts img t b ++ rows_seq img t false n vs
  unfolding rows_of
  blocks-more {n} b {vs = vs} m e =
      ap (rows_seq img t false n) e
      ∙ ap (λ (o : ℕ). rows_seq img t false o (items img b.node.0 b.count b.first) ++ rows_seq img t false n vs) (sym m)

  -- declarations ---------------------------------------------------------------------------------------------------
  pub decls-more : (x : ℕ) {us vs : Trees} → us ≡ tree_at img x ◂ vs → decls_rows img t us ≡ decl_rows img t (tree_at img x) ++ decls_rows img t vs
  unfolding decl_rows
  decls-more x e = ap (decls_rows img t) e

  pub decls-none : {us : Trees} → us ≡ none → decls_rows img t us ≡ []
  unfolding decl_rows
  decls-none e = ap (decls_rows img t) e

  -- what a rule, a model and a module go down to
  pub decl-rule : {n d : ℕ} {ns : NodeList} → Is img (kind_of 1) n → 4 ≡ field img n 0 → d ≡ field img n 1 → Listed img d 1 ns
      → Listing img t 36 n ns.node.0 ns.count ns.first (decl_rows img t (tree_at img n)) (of_stmts img t ns)
  unfolding kind_of FormedFields next ends
  decl-rule {n} {d} is q r z =
      let s = decl-child img t is 4 q r refl in
      let i = child-is img is s.0 in
      at-list img (λ (m j c : ℕ). Listing img t 36 n m c j (decl_rows img t (tree_at img n)) (listed img t false m c j)) z
      (record { low = (let a = s.0.below in omega arith); run = run-tail img i refl refl; same = s.1 ∙ rule-rows img t i })

  pub decl-model : {n d : ℕ} {ns : NodeList} → Is img (kind_of 1) n → 6 ≡ field img n 0 → d ≡ field img n 1 → Listed img d 1 ns
      → Listing img t 1 n ns.node.0 ns.count ns.first (decl_rows img t (tree_at img n)) (of_decls img t ns)
  unfolding kind_of FormedFields next ends
  decl-model {n} {d} is q r z =
      let s = decl-child img t is 6 q r refl in
      let i = child-is img is s.0 in
      at-list img (λ (m j c : ℕ). Listing img t 1 n m c j (decl_rows img t (tree_at img n)) (declared img t m c j)) z
      (record { low = (let a = s.0.below in omega arith); run = run-tail img i refl refl; same = s.1 ∙ model-rows img t i })

  pub module-list : {n : ℕ} {ns : NodeList} → Is img (kind_of 0) n → Listed img n 0 ns
      → Listing img t 1 n ns.node.0 ns.count ns.first (decl_rows img t (tree_at img n)) (of_decls img t ns)
  unfolding kind_of FormedFields next ends
  module-list {n} is z =
      at-list img (λ (m j c : ℕ). Listing img t 1 n m c j (decl_rows img t (tree_at img n)) (declared img t m c j)) z
      (record { low = omega arith; run = run-list img is refl; same = module-rows img t is })
