-- What a call of document 01 hands back. What each call gives, a `Result`, is mapped to it by a definition of Answers (scopes, occurrences).
use Rattle.std.specs.Prelude.{ℕ, ◌<◌}

pub data Answer : Type 0 where
  -- a refusal, by its number in document 01's table
  refused : (number : ℕ) → Answer
  -- the finding "twice": a name number, the first node and the second
  twice : (name first second : ℕ) → Answer
  -- a result. The image test: 0 and 0; Resolve: K and Y; Errors and Occurrences: 0 and the count; Once: 0 and 0 for "ok"
  result : (a b : ℕ) → Answer
  -- Lookup's result: the scope that holds the symbol, the symbol's number and its node
  located : (scope symbol node : ℕ) → Answer
  -- the other answer. Lookup: none, 0 and 0; Once: the lone occurrence and its binding
  other : (a b : ℕ) → Answer

-- a number of 16 bits
abbrev pub Short : ℕ → Type 0
Short x = x < 65536

-- every number of the answer is one, so that a packed answer has room for each
unfoldable pub Fits : Answer → Type 0
Fits (refused number) = Short number
Fits (twice name first second) = Short name × Short first × Short second
Fits (result a b) = Short a × Short b
Fits (located scope symbol node) = Short scope × Short symbol × Short node
Fits (other a b) = Short a × Short b
