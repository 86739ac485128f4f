-- Laws of single rows: what is asked of a name, a row that stands where a test says so, and room for rows.
use mathlib.Core.Path.{◌≡◌, sym, ap, ap₂, subst, ◌∙◌}
use mathlib.Core.Bool.{Bool, true, false, ◌&&◌, not}
use mathlib.Core.Option.{Option, some}
use mathlib.Core.List.{List, [], ◌∷◌, ◌++◌}
use Prim.Native.Nat.{ℕ, ◌+◌, ◌<◌, ◌^◌}
use native.Mathlib.Omega.{arith}
use lib.ListN.{length, length-append}
use Rattle.table.specs.Table.{Table, at_entry, at_exit, is_var}
use Rattle.rows.specs.declared.Rows.{Rows}
use Rattle.rows.specs.Rows.{Row, row, when, Appends}
use Rattle.bindings.specs.Errors.{same_node, introduces, introduced_row}

module _ (img : List ℕ) (t : Table) (n i : ℕ) where
  -- introduces, by what lookup gives at the exit
  pub introduces-other : {o : Option ℕ} → o ≡ at_exit img t n i → is_var img o ≡ false → introduces img t n i ≡ false
  unfolding introduces
  introduces-other {o} e h =
      ap (λ (u : Option ℕ). is_var img u && not (same_node u (at_entry img t n i))) (sym e) ∙ ap (λ (c : Bool). c && not (same_node o (at_entry img t n i))) h

  pub introduces-var : {o : Option ℕ} {b : ℕ} {seen : Bool} → o ≡ at_exit img t n i → is_var img o ≡ true → o ≡ some b
      → seen ≡ same_node (some b) (at_entry img t n i) → introduces img t n i ≡ not seen
  unfolding introduces
  introduces-var {o} {b} {seen} e h z q =
      ap (λ (u : Option ℕ). is_var img u && not (same_node u (at_entry img t n i))) (sym e)
      ∙ ap₂ (λ (c d : Bool). c && not d) h (ap (λ (u : Option ℕ). same_node u (at_entry img t n i)) z ∙ sym q)

-- a row where the test says so
pub when_true : {b : Bool} (w : Row) → b ≡ true → when b w ≡ w ∷ []
unfolding when
when_true w e = ap (λ (c : Bool). when c w) e

pub when_false : {b : Bool} (w : Row) → b ≡ false → when b w ≡ []
unfolding when
when_false w e = ap (λ (c : Bool). when c w) e

-- rows that stand where a test says so, by what the code tests
pub when-so : {l : List Row} {b c : Bool} (w : Row) → l ≡ when c w → b ≡ c → b ≡ true → l ≡ w ∷ []
when-so w e q h = e ∙ when_true w (sym q ∙ h)

pub when-not : {l : List Row} {b c : Bool} (w : Row) → l ≡ when c w → b ≡ c → b ≡ false → l ≡ []
when-not w e q h = e ∙ when_false w (sym q ∙ h)

pub introduced-is : (img : List ℕ) (t : Table) (n i : ℕ) {b : Bool} → b ≡ introduces img t n i → introduced_row img t true n i ≡ when b (row 1 n)
unfolding introduced_row
introduced-is img t n i e = ap (λ (c : Bool). when c (row 1 n)) (sym e)

-- room for rows that are equal, for the first of them, and for the rest
pub fits-as : (c : ℕ) {l k : List Row} → l ≡ k → c + length l < 2 ^ 32 → c + length k < 2 ^ 32
fits-as c e h = subst (λ (l : List Row). c + length l < 2 ^ 32) e h

pub fits-first : (c : ℕ) {m : List Row} (l k : List Row) → m ≡ l ++ k → c + length m < 2 ^ 32 → c + length l < 2 ^ 32
fits-first c l k e h = let g = fits-as c e h in let a = length-append l k in omega arith

pub fits-rest : {l m : List Row} {a b : Rows} (k : List Row) → m ≡ l ++ k → a.count + length m < 2 ^ 32 → Appends l a b → b.count + length k < 2 ^ 32
fits-rest {l} {a = a} k e h f = let g = fits-as a.count e h in let n = length-append l k in let d = f.appended.count in omega arith
