-- What Once hands back: document 01's numbers and values for every case of the code's result.
use Rattle.std.specs.Prelude.{Option, Some, None, Result, Ok, Err}
use Rattle.ast.specs.Answer.{Answer, result, other}
use Rattle.error.specs.Refusals.{unresolved_answer}
use Rattle.error.specs.declared.Unresolved.{Unresolved}
use Rattle.occurrences.specs.declared.Lone.{Lone}

-- "ok", or the first lone occurrence with its binding
abbrev pub once_answer : Result (Option Lone) Unresolved → Answer
once_answer (Ok None) = result 0 0
once_answer (Ok (Some l)) = other l.node.0 l.binding.0
once_answer (Err u) = unresolved_answer u
