-- Errors as its code goes: its rows are written, its refusals, and what the checks find in the table that resolving fills.
use mathlib.Core.Path.{◌≡◌, refl, sym, ap, subst, ◌∙◌}
use mathlib.Core.Bool.{Bool, true, false, not}
use mathlib.Core.List.{List, [], ◌++◌}
use Prim.Native.Nat.{ℕ, zero, suc, ◌+◌, ◌<◌, ◌≤◌, ◌^◌}
use native.Mathlib.Omega.{arith}
use lib.Dec.{leb}
use lib.ListN.{length, length-append}
use borrow.Author.Tests.{eq-eqb, ne_eqb, lt-leb}
use Rattle.std.specs.Prelude.{Result, Ok, Err}
use Rattle.ast.specs.Image.{nodes, last}
use Rattle.ast.specs.Is.{Is}
use Rattle.ast.specs.Kinds.{kind_of}
use Rattle.ast.specs.Tests.{need, verdict}
use Rattle.ast.proofs.Accepted.{both, skip, stop, sized, formed, last-below}
use Rattle.error.specs.Refusals.{refusal_of}
use Rattle.error.specs.declared.Refusal.{Refusal}
use Rattle.table.specs.Table.{Table}
use Rattle.environment.specs.Reading.{table_in, seen}
use Rattle.environment.specs.declared.Scopes.{Scopes}
use Rattle.rows.specs.declared.Rows.{Rows}
use Rattle.rows.specs.Rows.{Row, rows_length, Appends}
use Rattle.scopes.specs.Resolve.{test_table}
use Rattle.scopes.specs.Calls.{test_rows}
use Rattle.scopes.proofs.Calls.{rows-table, rows_long}
use Rattle.scopes.proofs.Resolving.{table-accepted}
use Rattle.bindings.specs.declared.Mode.{Mode}
use Rattle.bindings.specs.declared.Mode.TheVariants.{Plain, Strict}
use Rattle.bindings.specs.Errors.{is_strict, strict_rows, plain_rows, error_rows, test_errors}
use Rattle.bindings.specs.Promises.{mode_of, Ready, of_decl, of_mode, mode_rows, all_rows}
use Rattle.bindings.proofs.Leaves.{fits-as}
use Rattle.bindings.proofs.Bound.{both-few}

-- writing the rows ------------------------------------------------------------------------------------------------------
module _ (img : List ℕ) where
  -- there is room for all rows
  pub rows_fit : (t : Table) → verdict img ≡ 0 → length (plain_rows img t) + length (strict_rows img) < 2 ^ 32
  rows_fit t e = let a = both-few img e t in let s = (sized img e).few_nodes in omega arith

  pub all-few : (t : Table) (mode : Mode) → verdict img ≡ 0 → length (all_rows img t mode) ≤ nodes img
  all-few t Plain e = let a = both-few img e t in let n = length-append (plain_rows img t) [] in omega arith
  all-few t Strict e = let a = both-few img e t in let n = length-append (plain_rows img t) (strict_rows img) in omega arith

  pub plain_of : (t : Table) {m : ℕ} → m ≡ last img → of_decl img t m ≡ plain_rows img t
  unfolding plain_rows
  plain_of t q = ap (λ (x : ℕ). of_decl img t x) q

  pub mode-fits : (t : Table) {a b : Rows} → verdict img ≡ 0 → a.count ≡ 0 → Appends (plain_rows img t) a b → b.count + length (strict_rows img) < 2 ^ 32
  mode-fits t e z h = let a = rows_fit t e in let b = h.appended.count in omega arith

  pub mode-strict : (mode : ℕ) → (mode ≡ 1 → ⊥) → strict_rows img ≡ of_mode img mode
  unfolding is_strict
  mode-strict mode h = sym (ap (λ (b : Bool). elim (not b) as (λ _. List Row) [ true ↦ strict_rows img | false ↦ [] ]) (ne_eqb mode 1 h))

  pub mode-plain : (mode : ℕ) → mode ≡ 1 → of_mode img mode ≡ []
  unfolding is_strict
  mode-plain mode e = ap (λ (b : Bool). elim (not b) as (λ _. List Row) [ true ↦ strict_rows img | false ↦ [] ]) (eq-eqb mode 1 e)

  pub errors-are : (t : Table) (mode : ℕ) → plain_rows img t ++ of_mode img mode ≡ error_rows img t mode
  unfolding error_rows
  errors-are t mode = refl

  -- the rows of a mode by its number; no one asks for those of a number that is no mode's
  numbered : Result Mode Refusal → List Row
  numbered (Ok mode) = mode_rows img mode
  numbered (Err r) = strict_rows img

  numbered-is : (number : ℕ) → numbered (mode_of number) ≡ of_mode img number
  unfolding is_strict numbered
  numbered-is zero = refl
  numbered-is (suc zero) = refl
  numbered-is (suc (suc zero)) = refl
  numbered-is (suc (suc (suc n))) = mode-strict (suc (suc (suc n))) (λ e. omega arith)

  pub mode-errors : (t : Table) {mode : Mode} (number : ℕ) → Ok mode ≡ mode_of number → all_rows img t mode ≡ error_rows img t number
  unfolding numbered
  mode-errors t number e = ap (λ (l : List Row). plain_rows img t ++ l) (ap numbered e ∙ numbered-is number) ∙ errors-are t number

pub root-ready : (s : Scopes) {m c : ℕ} → verdict s.image.now ≡ 0 → m ≡ last s.image.now → c ≡ 0 → Ready s (kind_of 0) m (seen of_decl s m) c
root-ready s {m} {c} e q z =
    let img = s.image.now in
    record {
      is = subst (Is img (kind_of 0)) (sym q) (record { accepted = e; below = last-below img e; kind = ap kind_of (formed img e).root });
      fits = fits-as c (sym (plain_of img (table_in s) q)) (let a = rows_fit img (table_in s) e in omega arith);
    }

-- the refusals ----------------------------------------------------------------------------------------------------------
module _ (img tab rows : List ℕ) (mode : ℕ) where
  pub errors-refused : (code : ℕ) → code ≡ test_rows img tab rows → (code ≡ 0 → ⊥) → code ≡ test_errors img tab rows mode
  unfolding test_errors
  errors-refused zero e z = absurd (z refl)
  errors-refused (suc k) e z = sym (stop _ _ k (sym e))

  -- the test of the mode
  mode-tested : (number : ℕ) → refusal_of (mode_of number) ≡ need 15 (leb number 2)
  unfolding need
  mode-tested zero = refl
  mode-tested (suc zero) = refl
  mode-tested (suc (suc zero)) = refl
  mode-tested (suc (suc (suc n))) = sym (ap (need 15) (lt-leb _ _ (omega arith)))

  pub errors-passed : 0 ≡ test_rows img tab rows → refusal_of (mode_of mode) ≡ test_errors img tab rows mode
  unfolding test_errors
  errors-passed e = mode-tested mode ∙ sym (skip _ _ (sym e))

  pub errors-rows : test_errors img tab rows mode ≡ 0 → test_rows img tab rows ≡ 0
  unfolding test_errors
  errors-rows e = (both _ _ e).0

  pub errors-table : test_errors img tab rows mode ≡ 0 → test_table img tab ≡ 0
  errors-table e = rows-table img tab rows (errors-rows e)

  -- what the checks ask
  pub errors-accepted : test_errors img tab rows mode ≡ 0 → verdict img ≡ 0
  errors-accepted p = table-accepted img tab (errors-table p)

  pub errors-long : test_errors img tab rows mode ≡ 0 → rows_length (nodes img) ≤ length rows
  errors-long p = rows_long img tab rows (errors-rows p)
