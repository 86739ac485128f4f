-- Which answers one call may give: the words of the theorem that a packed number stands for one answer.
use Rattle.std.specs.Prelude.{List, ℕ}
use Rattle.ast.specs.Answer.{Answer, refused, twice, result, located, other}
use Rattle.bindings.specs.Errors.{errors}
use Rattle.occurrences.specs.Occurrences.{occurrences, once}
use Rattle.scopes.specs.Resolve.{resolve}
use Rattle.scopes.specs.Lookup.{lookup_call}
use Rattle.index.specs.Index.{index_call, indexed_call}
use Rattle.sorted.specs.Sorted.{sorted}
use Rattle.rename.specs.Rename.{rename}

-- the result of a call that counts, which a lookup does not give, and the result of a lookup, which no other call gives
abbrev pub Counts : Answer → Type 0
Counts (refused n) = ⊥
Counts (twice x a b) = ⊥
Counts (result a b) = Unit {0}
Counts (located s k n) = ⊥
Counts (other a b) = ⊥

abbrev pub Locates : Answer → Type 0
Locates (refused n) = ⊥
Locates (twice x a b) = ⊥
Locates (result a b) = ⊥
Locates (located s k n) = Unit {0}
Locates (other a b) = ⊥

-- two answers that one call may give
abbrev pub Alike : Answer → Answer → Type 0
Alike x y = (Counts x → Locates y → ⊥) × (Locates x → Counts y → ⊥)

-- an answer of Lookup, or of lookup through an index, whatever it is lent
pub data Looking : Answer → Type 0 where
  climbing : (img tab : List ℕ) (s : ℕ) (bs : List ℕ) → Looking (lookup_call img tab s bs)
  chaining : (img tab index : List ℕ) (s : ℕ) (bs : List ℕ) → Looking (indexed_call img tab index s bs)

-- an answer of a call that fills a table, an index or an output, whatever it is lent
pub data Filling : Answer → Type 0 where
  resolving : (img tab : List ℕ) → Filling (resolve img tab).answer
  checking : (img tab rows : List ℕ) (mode : ℕ) → Filling (errors img tab rows mode).answer
  sorting : (img tab rows : List ℕ) (mode : ℕ) → Filling (sorted img tab rows mode).answer
  counting : (img tab : List ℕ) → Filling (once img tab).answer
  listing : (img tab rows : List ℕ) → Filling (occurrences img tab rows).answer
  indexing : (img tab index : List ℕ) → Filling (index_call img tab index).answer
  renaming : (img tab rows : List ℕ) (i x : ℕ) (out : List ℕ) → Filling (rename img tab rows i x out).answer
