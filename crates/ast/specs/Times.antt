-- How often something stands, as the code counts it.
use Rattle.std.specs.Prelude.{List, ℕ, map}
use Rattle.ast.specs.declared.times.Times.{Times}
use Rattle.ast.specs.declared.times.Times.TheVariants as times

-- the count that the case stands for: 2 for several
abbrev pub times_number : Times → ℕ
times_number times.Never = 0
times_number times.Once = 1
times_number times.Several = 2

-- the counts of a list of them
abbrev pub counts : List Times → List ℕ
counts ts = map times_number ts
