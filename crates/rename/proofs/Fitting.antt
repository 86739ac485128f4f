-- Every number of Rename's answer fits 16 bits; and an image that is not refused is no longer than any.
use mathlib.Core.Path.{◌≡◌}
use mathlib.Core.List.{List}
use Prim.Native.Nat.{ℕ, ◌≤◌}
use native.Mathlib.Omega.{arith}
use lib.ListN.{length}
use Rattle.ast.specs.Answer.{Fits}
use Rattle.ast.specs.declared.TheConstants.{MOST_BYTES}
use Rattle.ast.proofs.Accepted.{sized}
use Rattle.scopes.specs.Calls.{test_rows}
use Rattle.scopes.proofs.Calls.{rows-table}
use Rattle.scopes.proofs.Fitting.{refused-fits}
use Rattle.scopes.proofs.Resolving.{table-accepted}
use Rattle.occurrences.proofs.Fitting.{occurrences-fit}
use Rattle.rename.specs.Rename.{rename}
use Rattle.rename.proofs.Ways.{call-is}

pub image-short : (img tab rows : List ℕ) → test_rows img tab rows ≡ 0 → length img ≤ MOST_BYTES
image-short img tab rows e =
    let s = sized img (table-accepted img tab (rows-table img tab rows e)) in
    let a = s.few_nodes in
    let b = s.few_operands in
    let c = s.few_names in
    let d = s.few_bytes in
    let f = s.exact in
    omega arith

pub rename-fits : (img tab rows : List ℕ) (i x : ℕ) (out : List ℕ) → Fits (rename img tab rows i x out).answer
unfolding Fits
rename-fits img tab rows i x out =
    call-is img tab rows i x out (λ a bs. Fits a) refused-fits (occurrences-fit img tab rows) (λ e h l. let s = image-short img tab rows e in (omega arith, omega arith))
