-- The words and the names of a row: it ends past its location, the names that it holds, and the name of a node.
use mathlib.Core.Bool.{Bool, true, false, not, ◌||◌, true≢false}
use mathlib.Core.Path.{◌≡◌, refl, sym, ap, ◌∙◌}
use mathlib.Core.List.{List, [], ◌∷◌, ◌++◌}
use Prim.Native.Nat.{ℕ, zero, suc, ◌+◌, ◌-◌, ◌<◌, ◌≤◌}
use native.Mathlib.Nat.{add-zero}
use native.Mathlib.Omega.{arith}
use lib.Dec.{T, eqb, eqb→eq}
use lib.ListN.{get_or}
use Rattle.ast.specs.Image.{names, kind_at, start_at, op_at, field, name_of}
use Rattle.ast.specs.Is.{Is}
use Rattle.ast.specs.Kinds.{Field, name, opt_name, child, opt_child, list, lists, cases, no_child, Kind, kinds, kind_of}
use Rattle.ast.specs.Rows.{after, after_blocks, after_fields, fields_at}
use Rattle.ast.proofs.Formed.{FormedField, FormedFields}
use Rattle.ast.proofs.Unfold.{All, nil, cons, All-append}
use Rattle.ast.proofs.Vars.{every-kind}
use Rattle.ast.proofs.Words.{name-rule, name-arg, name-plain}

module _ (img : List ℕ) where
  -- the name numbers that a row holds
  unfoldable pub field_names : Field → ℕ → List ℕ
  field_names name p = op_at img p ∷ []
  field_names opt_name p = elim (op_at img p) [ zero ↦ [] | suc x ↦ x ∷ [] ]
  field_names (child k) p = []
  field_names (opt_child k) p = []
  field_names (list k) p = []
  field_names (lists k) p = []
  field_names (cases ks) p = []

  unfoldable pub fields_names : List Field → ℕ → List ℕ
  fields_names [] p = []
  fields_names (g ∷ gs) p = field_names g p ++ fields_names gs (after img g p)

  unfoldable pub row_names : ℕ → List ℕ
  row_names n = fields_names (fields_at img n) (start_at img n + 2)

  module _ (n : ℕ) where
    option-below : (w : ℕ) → w ≤ names img → All (λ x. x < names img) (elim w [ zero ↦ [] | suc x ↦ x ∷ [] ])
    option-below zero h = nil
    option-below (suc x) h = cons {c = x} (omega arith) nil

    field-names : (g : Field) (p : ℕ) → FormedField img n g p → All (λ x. x < names img) (field_names g p)
    unfolding FormedField field_names
    field-names name p h = cons h nil
    field-names opt_name p h = option-below (op_at img p) h
    field-names (child k) p h = nil
    field-names (opt_child k) p h = nil
    field-names (list k) p h = nil
    field-names (lists k) p h = nil
    field-names (cases ks) p h = nil

    pub fields-names : (gs : List Field) (p : ℕ) → FormedFields img n gs p → All (λ x. x < names img) (fields_names gs p)
    unfolding FormedFields fields_names
    fields-names [] p h = nil
    fields-names (g ∷ gs) p h = All-append (field-names g p h.1) (fields-names gs (after img g p) h.2)

  -- a row goes on from where it starts
  blocks-on : (c p : ℕ) → p ≤ after_blocks img c p
  unfolding after_blocks
  blocks-on zero p = omega arith
  blocks-on (suc c) p = let h = blocks-on c (p + 1 + op_at img p) in omega arith

  pub field-on : (g : Field) (p : ℕ) → p < after img g p
  unfolding after
  field-on name p = omega arith
  field-on opt_name p = omega arith
  field-on (child k) p = omega arith
  field-on (opt_child k) p = omega arith
  field-on (list k) p = omega arith
  field-on (lists k) p = let h = blocks-on (op_at img p) (p + 1) in omega arith
  field-on (cases ks) p = go (eqb (get_or ks (op_at img p) no_child) no_child)
    where
      go : (b : Bool) → p < elim b [ true ↦ p + 1 | false ↦ p + 2 ]
      go true = omega arith
      go false = omega arith

  pub fields-on : (gs : List Field) (p : ℕ) → p ≤ after_fields img gs p
  unfolding after_fields
  fields-on [] p = omega arith
  fields-on (g ∷ gs) p = let a = field-on g p in let b = fields-on gs (after img g p) in omega arith

-- a row that begins with an optional name is a RuleDecl's or an ArgDecl's: one computed check over the table of kinds
unfoldable opt_first : List Field → Bool
opt_first [] = false
opt_first (name ∷ gs) = false
opt_first (opt_name ∷ gs) = true
opt_first (child k ∷ gs) = false
opt_first (opt_child k ∷ gs) = false
opt_first (list k ∷ gs) = false
opt_first (lists k ∷ gs) = false
opt_first (cases ks ∷ gs) = false

optional : ℕ → Kind → Bool
optional k kd = eqb k 6 || eqb k 10 || not (opt_first kd.fields)

only_two : (k : ℕ) → k ≤ 40 → T (optional k (kind_of k))
unfolding optional opt_first kinds
only_two k l = every-kind optional tt k l

module _ (img : List ℕ) (n : ℕ) where
  pub place-zero : field img n 0 ≡ op_at img (start_at img n + 2)
  unfolding field
  place-zero = rw add-zero

  pub name-word : name_of img n ≤ field img n 0
  unfolding name_of
  name-word = go (eqb (kind_at img n) 6) (eqb (kind_at img n) 10)
    where
      go : (a b : Bool) → (elim a [ true ↦ field img n 0 - 1 | false ↦ elim b [ true ↦ field img n 0 - 1 | false ↦ field img n 0 ] ]) ≤ field img n 0
      go true b = omega arith
      go false true = omega arith
      go false false = omega arith

  pub opt-word : (gs : List Field) → fields_at img n ≡ opt_name ∷ gs → kind_at img n ≤ 40 → name_of img n ≡ field img n 0 - 1
  unfolding optional opt_first fields_at
  opt-word gs e h = go (eqb (kind_at img n) 6) (eqb (kind_at img n) 10) (eqb→eq _ _) (eqb→eq _ _) (rw e at (only_two (kind_at img n) h))
    where
      go : (a b : Bool) → (T a → kind_at img n ≡ 6) → (T b → kind_at img n ≡ 10) → T (a || b || false) → name_of img n ≡ field img n 0 - 1
      go true b f g t = name-rule img n (f tt)
      go false true f g t = name-arg img n (g tt)
      go false false f g t = absurd t

  -- an ident term's row is its name
  pub ident-word : Is img (kind_of 13) n → name_of img n ≡ field img n 0
  unfolding opt_first kind_of
  ident-word is = name-plain img n (λ h. other 6 h refl) (λ h. other 10 h refl)
    where
      other : (k : ℕ) → kind_at img n ≡ k → opt_first (kind_of k).fields ≡ true → ⊥
      other k h e = true≢false (sym e ∙ ap (λ (j : ℕ). opt_first (kind_of j).fields) (sym h) ∙ ap (λ (kd : Kind). opt_first kd.fields) is.kind)
