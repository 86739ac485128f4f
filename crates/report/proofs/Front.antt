-- The report of the input's front is the report of the input.
use Rattle.std.proofs.Common.{◌≡◌, List, ℕ, take, IfSome, None, Some, subst, ap, ◌∙◌}
use Rattle.std.specs.Prelude.{Option}
use Rattle.std.specs.Io.KnownBytes.{Appends}
use Rattle.lines.specs.Bytes.{report_bytes}
use Rattle.lines.proofs.Long.{too_many, report-front}

pub whole : (known a b : Option (List ℕ)) (front : List ℕ) → IfSome known (λ xs. front ≡ take too_many xs) → Appends a b (report_bytes front)
    → IfSome known (λ xs. Appends a b (report_bytes xs))
whole None a b front same prints = tt
whole (Some xs) a b front same prints = subst (Appends a b) (ap report_bytes same ∙ report-front xs) prints
