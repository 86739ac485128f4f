-- What the checks of a then-atom's terms come to, step by step: the node that is gone down to, and its rows.
use mathlib.Core.Path.{◌≡◌, refl, sym, ap, ap₂, subst, ◌∙◌}
use mathlib.Core.Logic.{◌⊎◌, ⊎_elim}
use mathlib.Core.Bool.{Bool, true, false}
use mathlib.Core.List.{List, [], ◌++◌}
use Prim.Native.Nat.{ℕ, zero, suc, ◌<◌, ◌≤◌}
use native.Mathlib.Omega.{arith}
use lib.Dec.{eqb}
use lib.ListN.{get_or}
use Rattle.ast.specs.Image.{field}
use Rattle.ast.specs.Kinds.{inner, term, head, no_child, kind_of}
use Rattle.ast.specs.Is.{Is, Run}
use Rattle.ast.specs.Tree.{Trees, none, ◌◂◌, ordered, tree_at}
use Rattle.ast.proofs.Row.{Child, FormedFields, next}
use Rattle.ast.proofs.Shapes.{row as fields-of, child-is, case-child, case-kids, term_kinds, head_kinds, run-list}
use Rattle.typed.specs.RowShapes.{Two}
use Rattle.table.specs.Table.{Table}
use Rattle.rows.specs.Rows.{Row}
use Rattle.bindings.specs.Errors.{introduced_row, rows_of, rows_seq}
use Rattle.error.specs.Kinds.{asked}
use Rattle.bindings.specs.Promises.{inside, listed}
use Rattle.bindings.proofs.RowLaws.{rows_at, plain-rows, term_rows, ident-rows, member-rows, receiver-rows, head-ident, head-other, one_inside, two-inside, case-inside, list_inside}
use Rattle.bindings.proofs.Quiet.{quiet}

module _ (img : List ℕ) (t : Table) where
  -- the rows l are those below the node d, which is below n and of kind k
  pub record Down (a : Bool) (k n d : ℕ) (l : List Row) : Type 0 where
    pub low : d < n
    pub is : Is img (kind_of k) d
    pub same : l ≡ inside img t a d

  -- the child of a term
  term-down : {n d : ℕ} (a : Bool) → Is img (kind_of 12) n → (c : ℕ) → c ≡ field img n 0 → d ≡ field img n 1 → eqb (get_or term_kinds c no_child) no_child ≡ false
      → Child img n (get_or term_kinds c no_child) d × (inside img t a n ≡ rows_at img t a n d)
  unfolding kind_of ordered
  term-down a is c q r s = (
    case-child img (inner term) term_kinds is c _ q r s,
    case-inside img t a (inner term) term_kinds is (λ ts. refl) c q r s,
  )

  pub epic-ident : {n d : ℕ} → Is img (kind_of 12) n → 0 ≡ field img n 0 → d ≡ field img n 1 → inside img t true n ≡ introduced_row img t true n d
  epic-ident {n} is q r = let s = term-down true is 0 q r refl in s.1 ∙ ident-rows img t true n (child-is img is s.0)

  pub epic-app : {n d : ℕ} → Is img (kind_of 12) n → 2 ≡ field img n 0 → d ≡ field img n 1 → Down true 14 n d (inside img t true n)
  unfolding kind_of asked
  epic-app {n} is q r =
      let s = term-down true is 2 q r refl in
      let i = child-is img is s.0 in
      record { low = s.0.below; is = i; same = s.1 ∙ plain-rows img t true 14 _ n i s.0.kind }

  pub epic-comp : {n d : ℕ} → Is img (kind_of 12) n → 7 ≡ field img n 0 → d ≡ field img n 1 → Down true 21 n d (inside img t true n)
  unfolding kind_of asked
  epic-comp {n} is q r =
      let s = term-down true is 7 q r refl in
      let i = child-is img is s.0 in
      record { low = s.0.below; is = i; same = s.1 ∙ plain-rows img t true 21 _ n i s.0.kind }

  pub epic-member : {n d e : ℕ} → Is img (kind_of 12) n → 3 ≡ field img n 0 → d ≡ field img n 1 → e ≡ field img d 0 → Down true 12 n e (inside img t true n)
  unfolding kind_of FormedFields
  epic-member {n} {d} {e} is q r z =
      let s = term-down true is 3 q r refl in
      let i = child-is img is s.0 in
      let h : Child img d 12 (field img d 0) = (fields-of img i).0 in
      subst (λ (x : ℕ). Down true 12 n x (inside img t true n)) (sym z)
      (record {
        low = (let a = s.0.below in let b = h.below in omega arith);
        is = child-is img i h;
        same = s.1 ∙ member-rows img t true n i ∙ term_rows img t true d (child-is img i h);
      })

  pub epic-id : {n d e : ℕ} → Is img (kind_of 12) n → 6 ≡ field img n 0 → d ≡ field img n 1 → e ≡ field img d 0 → Down true 12 n e (inside img t true n)
  unfolding kind_of FormedFields asked
  epic-id {n} {d} {e} is q r z =
      let s = term-down true is 6 q r refl in
      let i = child-is img is s.0 in
      let h : Child img d 12 (field img d 0) = (fields-of img i).0 in
      subst (λ (x : ℕ). Down true 12 n x (inside img t true n)) (sym z)
      (record {
        low = (let a = s.0.below in let b = h.below in omega arith);
        is = child-is img i h;
        same = s.1 ∙ plain-rows img t true 20 _ n i s.0.kind ∙ one_inside img t true 12 i refl ∙ term_rows img t true d (child-is img i h);
      })

  -- below Dom and Cod nothing is asked for
  epic-dom : {n : ℕ} (c k : ℕ) → get_or term_kinds c no_child ≡ k → kind_of k ≡ kind_of 18 → asked k true ≡ false → eqb (get_or term_kinds c no_child) no_child ≡ false
      → Is img (kind_of 12) n → c ≡ field img n 0 → inside img t true n ≡ []
  unfolding kind_of FormedFields
  epic-dom {n} c k e w z s is q =
      let v = term-down true is c q refl s in
      let i = child-is img is v.0 in
      let j : Is img (kind_of 18) (field img n 1) = subst (λ (x : _). Is img x (field img n 1)) (ap kind_of e ∙ w) i in
      let h : Child img (field img n 1) 12 (field img (field img n 1) 0) = (fields-of img j).0 in
      v.1 ∙ plain-rows img t true k _ n j (v.0.kind ∙ e) ∙ ap (λ (a : Bool). inside img t a (field img n 1)) z
      ∙ one_inside img t false 12 j refl
      ∙ quiet img t is.accepted _ (child-is img j h).below h.kind tt

  pub epic-below : {n : ℕ} → Is img (kind_of 12) n → (4 ≡ field img n 0) ⊎ (5 ≡ field img n 0) → inside img t true n ≡ []
  unfolding kind_of asked
  epic-below is h = ⊎_elim (λ q. epic-dom 4 18 refl refl refl refl is q) (λ q. epic-dom 5 19 refl refl refl refl is q) h

  pub epic-wild : {n : ℕ} → Is img (kind_of 12) n → 1 ≡ field img n 0 → inside img t true n ≡ []
  unfolding kind_of ordered rows_of
  epic-wild {n} is q = ap (rows_seq img t true n) (case-kids img (inner term) term_kinds is (λ ts. refl) 1 q)

  -- two nodes that are gone down to
  pub record Both (k l n c d : ℕ) (rows first second : List Row) : Type 0 where
    pub low : c < n
    pub low2 : d < n
    pub is : Is img (kind_of k) c
    pub is2 : Is img (kind_of l) d
    pub same : rows ≡ first ++ second

  -- the rows of an app head
  abbrev pub head_rows : ℕ → List Row
  head_rows h = rows_of img t true h (tree_at img h)

  -- the two terms of a Comp term or an Equal atom
  pub two_down : {n m c d : ℕ} {l : List Row} → Down true 21 n m l → Two img m c d → Both 12 12 n c d l (inside img t true c) (inside img t true d)
  unfolding kind_of FormedFields next
  two_down {n} {m} {c} {d} o z =
      let is = o.is in
      let h : Child img m 12 c = subst (Child img m 12) (sym z.first) (fields-of img is).0 in
      let k : Child img m 12 d = subst (Child img m 12) (sym z.second) (fields-of img is).1.0 in
      record {
        low = (let a = o.low in let b = h.below in omega arith);
        low2 = (let a = o.low in let b = k.below in omega arith);
        is = child-is img is h;
        is2 = child-is img is k;
        same = o.same ∙ two-inside img t true 12 12 is z.first z.second ∙ ap₂ ◌++◌ (term_rows img t true m (child-is img is h)) (term_rows img t true m (child-is img is k));
      }

  -- the node above an app head does not matter
  head-alike : {h : ℕ} (a : Bool) (o p : ℕ) → Is img (kind_of 15) h → rows_at img t a o h ≡ rows_at img t a p h
  head-alike {h} a o p is = go (field img h 0) refl
    where
      go : (c : ℕ) → c ≡ field img h 0 → rows_at img t a o h ≡ rows_at img t a p h
      go zero e = head-ident img t a o is e ∙ sym (head-ident img t a p is e)
      go (suc c) e = head-other img t a o c is e ∙ sym (head-other img t a p c is e)

  -- the head and the arguments of an application
  pub app-down : {n m c d : ℕ} {l : List Row} → Down true 14 n m l → Two img m c d → Both 15 22 n c d l (head_rows c) (inside img t true d)
  unfolding kind_of FormedFields next asked
  app-down {n} {m} {c} {d} o z =
      let is = o.is in
      let h : Child img m 15 c = subst (Child img m 15) (sym z.first) (fields-of img is).0 in
      let k : Child img m 22 d = subst (Child img m 22) (sym z.second) (fields-of img is).1.0 in
      record {
        low = (let a = o.low in let b = h.below in omega arith);
        low2 = (let a = o.low in let b = k.below in omega arith);
        is = child-is img is h;
        is2 = child-is img is k;
        same =
            o.same ∙ two-inside img t true 15 22 is z.first z.second
            ∙ ap₂ ◌++◌ (head-alike true m c (child-is img is h)) (plain-rows img t true 22 _ m (child-is img is k) k.kind);
      }

  -- an app head
  pub head-none : {n : ℕ} → Is img (kind_of 15) n → 0 ≡ field img n 0 → head_rows n ≡ []
  head-none {n} is q = head-ident img t true n is q

  head-down : {n d : ℕ} (a : Bool) → Is img (kind_of 15) n → (c : ℕ) → suc c ≡ field img n 0 → d ≡ field img n 1 → eqb (get_or head_kinds (suc c) no_child) no_child ≡ false
      → Child img n (get_or head_kinds (suc c) no_child) d × (rows_at img t a n n ≡ rows_at img t a n d)
  unfolding kind_of ordered
  head-down {n} a is c q r s = (
    case-child img (inner head) head_kinds is (suc c) _ q r s,
    head-other img t a n c is q ∙ case-inside img t a (inner head) head_kinds is (λ ts. refl) (suc c) q r s,
  )

  pub head-receiver : {n d e : ℕ} → Is img (kind_of 15) n → 1 ≡ field img n 0 → d ≡ field img n 1 → e ≡ field img d 0 → Down true 12 n e (head_rows n)
  unfolding kind_of FormedFields
  head-receiver {n} {d} {e} is q r z =
      let s = head-down true is 0 q r refl in
      let i = child-is img is s.0 in
      let h : Child img d 12 (field img d 0) = (fields-of img i).0 in
      subst (λ (x : ℕ). Down true 12 n x (head_rows n)) (sym z)
      (record {
        low = (let a = s.0.below in let b = h.below in omega arith);
        is = child-is img i h;
        same = s.1 ∙ receiver-rows img t true n i ∙ term_rows img t true d (child-is img i h);
      })

  pub head-term : {n d : ℕ} → Is img (kind_of 15) n → 2 ≡ field img n 0 → d ≡ field img n 1 → Down true 12 n d (head_rows n)
  unfolding kind_of
  head-term {n} is q r =
      let s = head-down true is 1 q r refl in
      let i = child-is img is s.0 in
      record { low = s.0.below; is = i; same = s.1 ∙ term_rows img t true n i }

  -- lists: the rows of the trees that are left ---------------------------------------------------------------------
  pub seq-none : (a : Bool) (n : ℕ) {us : Trees} → us ≡ none → rows_seq img t a n us ≡ []
  unfolding rows_of
  seq-none a n e = ap (rows_seq img t a n) e

  pub seq-more : (a : Bool) (n x : ℕ) {us vs : Trees} → us ≡ tree_at img x ◂ vs → rows_seq img t a n us ≡ rows_at img t a n x ++ rows_seq img t a n vs
  unfolding rows_of
  seq-more a n x e = ap (rows_seq img t a n) e

  -- the rows l are those of the c nodes from place j of the row of d on, which is not above n
  pub record Listing (k n d c j : ℕ) (l rows : List Row) : Type 0 where
    pub low : d ≤ n
    pub run : Run img k d j c
    pub same : l ≡ rows

  -- the terms of a list
  pub terms-list : {n : ℕ} → Is img (kind_of 22) n → Run img 12 n 1 (field img n 0) × (inside img t true n ≡ listed img t true n (field img n 0) 1)
  unfolding kind_of
  terms-list is = (run-list img is refl, list_inside img t true 12 is)

  pub terms-more : (n x : ℕ) {us vs : Trees} → Is img (kind_of 12) x → us ≡ tree_at img x ◂ vs → rows_seq img t true n us ≡ inside img t true x ++ rows_seq img t true n vs
  terms-more n x {vs = vs} is e = seq-more true n x e ∙ ap (λ (l : List Row). l ++ rows_seq img t true n vs) (term_rows img t true n is)
