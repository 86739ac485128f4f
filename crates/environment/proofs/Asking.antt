-- Where a name is asked for, by the kinds and the rows of nodes; and that the names of an accepted image have words.
use mathlib.Core.Path.{◌≡◌, refl, sym, ap, ◌∙◌, subst}
use mathlib.Core.Bool.{Bool, true, false, not, ◌||◌, true≢false}
use mathlib.Core.List.{List, [], ◌∷◌}
use mathlib.Core.Option.{Option, none, some}
use Prim.Native.Nat.{ℕ, zero, suc, ◌<◌, ◌≤◌}
use native.Mathlib.Omega.{arith}
use lib.Dec.{T, eqb, eqb→eq}
use borrow.Author.Tests.{eq-eqb, ne_eqb}
use Rattle.ast.specs.Image.{kind_at, field, name_of}
use Rattle.ast.specs.Is.{Is}
use Rattle.ast.specs.Kinds.{Field, name, opt_name, child, opt_child, list, lists, cases, Kind, kinds, kind_of}
use Rattle.ast.specs.Named.{term_kind, app_head_kind, then_atom_kind}
use Rattle.ast.specs.Rows.{fields_at}
use Rattle.ast.proofs.Acceptance.{sizes, name_below, opt-name-below}
use Rattle.ast.proofs.ByKind.{low-kind}
use Rattle.ast.proofs.RowNames.{ident-word, opt-word}
use Rattle.ast.proofs.Vars.{every-kind}
use Rattle.environment.specs.Layout.{names_most}
use Rattle.environment.specs.Asked.{ident_name, var_name, defined_name, asked}
use Rattle.environment.specs.Stands.{Named}

-- the kinds of nodes at which a name may be asked for: the number of Term, AppHead or ThenAtom by the second case of its fields, else 0
unfoldable pub asking_cases : List ℕ → ℕ
asking_cases [] = 0
asking_cases (a ∷ []) = 0
asking_cases (a ∷ b ∷ cs) =
    elim (eqb b 41) [ true ↦ 12 | false ↦ elim (eqb b 16) [ true ↦ 15 | false ↦ elim (eqb b 34) [ true ↦ 29 | false ↦ 0 ] ] ]

unfoldable pub asking_fields : List Field → ℕ
unfolding asking_cases
asking_fields [] = 0
asking_fields (name ∷ fs) = 0
asking_fields (opt_name ∷ fs) = 0
asking_fields (child k ∷ fs) = 0
asking_fields (opt_child k ∷ fs) = 0
asking_fields (list k ∷ fs) = 0
asking_fields (lists k ∷ fs) = 0
asking_fields (cases ks ∷ fs) = asking_cases ks

unfoldable pub loud_fields : List Field → Bool
unfolding asking_fields
loud_fields fs = not (eqb (asking_fields fs) 0)

abbrev pub loud : Kind → Bool
loud kd = loud_fields kd.fields

-- one computed check over the table of kinds
asking : ℕ → Kind → Bool
asking k kd = eqb (asking_fields kd.fields) 0 || eqb k (asking_fields kd.fields)

asking-is : (k : ℕ) → k ≤ 40 → T (asking k (kind_of k))
unfolding asking asking_fields kinds
asking-is k l = every-kind asking tt k l

module _ (img : List ℕ) where
  -- which of the three a node is
  number : {n : ℕ} (k : ℕ) → Is img (kind_of (suc k)) n → asking_fields (kind_of (suc k)).fields ≡ suc k → kind_at img n ≡ suc k
  unfolding asking
  number {n} k is e = go (rw (is.kind, e) at (asking-is (kind_at img n) (low-kind img is.accepted n is.below)))
    where
      go : T (eqb (suc k) 0 || eqb (kind_at img n) (suc k)) → kind_at img n ≡ suc k
      go t = eqb→eq _ _ (rw (ne_eqb (suc k) 0 (λ z. absurd (omega arith))) at t)

  module _ (n : ℕ) where
    is-term : Is img (kind_of 12) n → kind_at img n ≡ term_kind
    unfolding kind_of asking_fields
    is-term is = number 11 is refl

    is-head : Is img (kind_of 15) n → kind_at img n ≡ app_head_kind
    unfolding kind_of asking_fields
    is-head is = number 14 is refl

    is-then : Is img (kind_of 29) n → kind_at img n ≡ then_atom_kind
    unfolding kind_of asking_fields
    is-then is = number 28 is refl

    at-term : kind_at img n ≡ term_kind → asked img n ≡ ident_name img n
    unfolding asked
    at-term q = rw (eq-eqb _ _ q, asked)

    at_head : kind_at img n ≡ app_head_kind → asked img n ≡ ident_name img n
    unfolding asked
    at_head q = rw (ne_eqb (kind_at img n) term_kind (λ z. absurd (omega arith)), eq-eqb _ _ q, asked)

    at-then : kind_at img n ≡ then_atom_kind → asked img n ≡ defined_name img n
    unfolding asked
    at-then q = rw (ne_eqb (kind_at img n) term_kind (λ z. absurd (omega arith)), ne_eqb (kind_at img n) app_head_kind (λ z. absurd (omega arith)), eq-eqb _ _ q, asked)

    at_other : (kind_at img n ≡ term_kind → ⊥) → (kind_at img n ≡ app_head_kind → ⊥) → (kind_at img n ≡ then_atom_kind → ⊥) → asked img n ≡ none
    unfolding asked
    at_other a b c = rw (ne_eqb _ _ a, ne_eqb _ _ b, ne_eqb _ _ c, asked)

    loud-at : {kd : Kind} (k : ℕ) → kind_of (kind_at img n) ≡ kd → loud (kind_of k) ≡ true → loud kd ≡ false → kind_at img n ≡ k → ⊥
    loud-at k e t f q = true≢false (sym t ∙ ap (λ (j : ℕ). loud (kind_of j)) (sym q) ∙ ap loud e ∙ f)

    quiet_by : {kd : Kind} → kind_of (kind_at img n) ≡ kd → loud kd ≡ false → asked img n ≡ none
    unfolding kind_of loud_fields
    quiet_by e f = at_other (loud-at 12 e refl f) (loud-at 15 e refl f) (loud-at 29 e refl f)

    -- by the case and the child of the row
    ident-some : (i : ℕ) → 0 ≡ field img n 0 → i ≡ field img n 1 → ident_name img n ≡ some (name_of img i)
    unfolding ident_name
    ident-some i z q = rw (← z, ident_name) (ap (λ (m : ℕ). some (name_of img m)) (sym q))

    ident-none : (field img n 0 ≡ 0 → ⊥) → ident_name img n ≡ none
    unfolding ident_name
    ident-none = go (field img n 0)
      where
        go : (c : ℕ) → (c ≡ 0 → ⊥) → ◌≡◌ {A = Option ℕ} (elim c [ zero ↦ some (name_of img (field img n 1)) | suc c ↦ none ]) none
        go zero f = absurd (f refl)
        go (suc c) f = refl

    -- by the variable of a ThenAtom that is of case Defined, and of one that is not
    defined-var : (d w : ℕ) → 1 ≡ field img n 0 → d ≡ field img n 1 → w ≡ field img d 0 → defined_name img n ≡ var_name img w
    unfolding defined_name
    defined-var d w z q e = rw (eq-eqb _ _ (sym z), defined_name) (ap (λ (m : ℕ). var_name img (field img m 0)) (sym q) ∙ ap (var_name img) (sym e))

    defined-none : (field img n 0 ≡ 1 → ⊥) → defined_name img n ≡ none
    unfolding defined_name
    defined-none f = rw (ne_eqb _ _ f, defined_name)

  -- no name is asked for at a node of another kind
  pub quiet : {kd : Kind} {n : ℕ} → loud kd ≡ false → Is img kd n → asked img n ≡ none
  quiet {kd} {n} f is = quiet_by n is.kind f

  -- the same by the kind's number
  pub quiet_at : (n k : ℕ) → loud (kind_of k) ≡ false → kind_at img n ≡ k → asked img n ≡ none
  quiet_at n k f q = quiet_by n (ap kind_of q) f

  -- at a Term, an AppHead of case Ident, and a ThenAtom of case Defined whose variable is of case Ident, the ident's name is
  pub asked-term : {n : ℕ} (i : ℕ) → Is img (kind_of 12) n → 0 ≡ field img n 0 → i ≡ field img n 1 → asked img n ≡ some (name_of img i)
  asked-term {n} i is z q = at-term n (is-term n is) ∙ ident-some n i z q

  pub asked-head : {n : ℕ} (i : ℕ) → Is img (kind_of 15) n → 0 ≡ field img n 0 → i ≡ field img n 1 → asked img n ≡ some (name_of img i)
  asked-head {n} i is z q = at_head n (is-head n is) ∙ ident-some n i z q

  pub asked-then : {n : ℕ} (d v i : ℕ) → Is img (kind_of 29) n → 1 ≡ field img n 0 → d ≡ field img n 1 → suc v ≡ field img d 0 → 0 ≡ field img v 0 → i ≡ field img v 1 → asked img n ≡ some (name_of img i)
  unfolding var_name
  asked-then {n} d v i is o q e z p = at-then n (is-then n is) ∙ defined-var n d (suc v) o q e ∙ ident-some v i z p

  -- at those of another case, none is
  pub quiet-term : {n : ℕ} → Is img (kind_of 12) n → (field img n 0 ≡ 0 → ⊥) → asked img n ≡ none
  quiet-term {n} is f = at-term n (is-term n is) ∙ ident-none n f

  pub quiet-head : {n : ℕ} → Is img (kind_of 15) n → (field img n 0 ≡ 0 → ⊥) → asked img n ≡ none
  quiet-head {n} is f = at_head n (is-head n is) ∙ ident-none n f

  pub quiet_then : {n : ℕ} → Is img (kind_of 29) n → (field img n 0 ≡ 1 → ⊥) → asked img n ≡ none
  quiet_then {n} is f = at-then n (is-then n is) ∙ defined-none n f

  -- whatever the case: the variable that the row would have is none, or of another case
  quiet-var : {n : ℕ} (d w : ℕ) → Is img (kind_of 29) n → d ≡ field img n 1 → w ≡ field img d 0 → var_name img w ≡ none → asked img n ≡ none
  unfolding defined_name
  quiet-var {n} d w is q e v =
      at-then n (is-then n is)
      ∙ go (eqb (field img n 0) 1) (ap (λ (m : ℕ). var_name img (field img m 0)) (sym q) ∙ ap (var_name img) (sym e) ∙ v)
    where
      go : (b : Bool) {o : Option ℕ} → o ≡ none → ◌≡◌ {A = Option ℕ} (elim b [ true ↦ o | false ↦ none ]) none
      go true h = h
      go false h = refl

  pub quiet-absent : {n : ℕ} (d : ℕ) → Is img (kind_of 29) n → d ≡ field img n 1 → field img d 0 ≡ 0 → asked img n ≡ none
  unfolding var_name
  quiet-absent d is q z = quiet-var d 0 is q (sym z) refl

  pub quiet-other : {n : ℕ} (d v : ℕ) → Is img (kind_of 29) n → d ≡ field img n 1 → suc v ≡ field img d 0 → (field img v 0 ≡ 0 → ⊥) → asked img n ≡ none
  unfolding var_name
  quiet-other d v is q e f = quiet-var d (suc v) is q e (ident-none v f)

  -- the name of an IdentTerm, and that of an ArgDecl which has one
  pub ident-below : {i : ℕ} → Is img (kind_of 13) i → name_of img i < names_most
  unfolding kind_of fields_at
  ident-below {i} is =
      let a = name_below img is.accepted i is.below [] (ap (λ (kd : Kind). kd.fields) is.kind) in
      let b = (sizes img is.accepted).few_names in
      omega arith

  pub ident-named : {i x : ℕ} → Is img (kind_of 13) i → x ≡ field img i 0 → Named img i x
  ident-named {i} {x} is q =
      let e : x ≡ name_of img i = q ∙ sym (ident-word img i is) in
      record { is = e; below = subst (λ y. y < names_most) (sym e) (ident-below is) }

  pub arg-named : {a x : ℕ} → Is img (kind_of 10) a → suc x ≡ field img a 0 → Named img a x
  unfolding kind_of fields_at
  arg-named {a} {x} is q =
      let w = opt-word img a _ (ap (λ (kd : Kind). kd.fields) is.kind) (low-kind img is.accepted a is.below) in
      let e : x ≡ name_of img a = omega arith in
      let b = opt-name-below img is.accepted a is.below _ (ap (λ (kd : Kind). kd.fields) is.kind) (λ z. absurd (omega arith)) in
      let c = (sizes img is.accepted).few_names in
      record { is = e; below = (omega arith) }
