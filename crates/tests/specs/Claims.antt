-- How often nodes stand as children, as the code counts them.
use Rattle.std.specs.Prelude.{◌≡◌, List, ℕ, get_or, set}
use Rattle.ast.specs.Promises.{bump}
use Rattle.ast.specs.Times.{counts}
use Rattle.ast.specs.declared.times.Times.{Times}

-- node c is counted once more
abbrev pub Counted : ℕ → List Times → List Times → Type 0
Counted c us vs = counts vs ≡ set (counts us) c (bump (get_or (counts us) c 0))
