-- Laws of packing: what a call leaves.
use mathlib.Core.Path.{◌≡◌, sym, ap, ◌∙◌}
use mathlib.Core.List.{List}
use Prim.Native.Nat.{ℕ}
use Rattle.ast.specs.Answer.{Answer, Fits}
use Rattle.scopes.specs.Resolve.{Outcome}
use Rattle.scopes.specs.Calls.{RowsOutcome}
use Rattle.rename.specs.Rename.{Outcome as RenameOutcome}
use Rattle.exports.specs.Packed.{packed, Leaves, LeavesRows, LeavesOutput}

-- what a call leaves, from the packed answer of the code's result
pub leaves : {o : Outcome} {answer : Answer} {ws : List ℕ} {r : ℕ} → o ≡ record { answer = answer; table = ws } → Fits o.answer → r ≡ packed answer → Leaves o r ws
leaves e f p =
    record {
      packs = record { number = p ∙ sym (ap (λ (x : Outcome). packed x.answer) e); fits = f };
      table_is = sym (ap (λ (x : Outcome). x.table) e);
    }

pub leaves-rows : {o : RowsOutcome} {answer : Answer} {ws vs : List ℕ} {r : ℕ} → o ≡ record { answer = answer; table = ws; rows = vs } → Fits o.answer → r ≡ packed answer → LeavesRows o r ws vs
leaves-rows e f p =
    record {
      packs = record { number = p ∙ sym (ap (λ (x : RowsOutcome). packed x.answer) e); fits = f };
      table_is = sym (ap (λ (x : RowsOutcome). x.table) e);
      rows_are = sym (ap (λ (x : RowsOutcome). x.rows) e);
    }

pub leaves-output : {o : RenameOutcome} {answer : Answer} {ws vs bs : List ℕ} {r : ℕ} → o ≡ record { answer = answer; table = ws; rows = vs; out = bs } → Fits o.answer → r ≡ packed answer
    → LeavesOutput o r ws vs bs
leaves-output e f p =
    record {
      packs = record { number = p ∙ sym (ap (λ (x : RenameOutcome). packed x.answer) e); fits = f };
      table_is = sym (ap (λ (x : RenameOutcome). x.table) e);
      rows_are = sym (ap (λ (x : RenameOutcome). x.rows) e);
      out_is = sym (ap (λ (x : RenameOutcome). x.out) e);
    }
