-- Lookup (image, table, scope, name bytes): its answer for all inputs, with the scope that document 02 adds.
use Rattle.std.specs.Prelude.{List, ltb}
use Rattle.std.proofs.Math.Option.{Option, none, some}
use Prim.Native.Nat.{ℕ, zero, suc}
use Rattle.ast.specs.Image.{kind_at}
use Rattle.ast.specs.Tests.{◌▸◌, need}
use Rattle.names.specs.Number.{number_of}
use Rattle.ast.specs.Answer.{Answer, refused, located, other}
use Rattle.table.specs.Table.{Found, found, symbol_of}
use Rattle.sound.specs.Sound.{scopes_in, table_in, test_sound}
use Rattle.scopes.specs.Resolve.{test_table}

module _ (img : List ℕ) where
  -- the refusals: 1 to 13, 16, 17
  unfoldable pub test_lookup : List ℕ → ℕ → ℕ
  unfolding test_table test_sound
  test_lookup tab s = test_table img tab ▸ test_sound img tab ▸ need 17 (ltb s (scopes_in img tab))

  -- the scope that holds the symbol, its number and its node, or none
  unfoldable pub symbol_answer : Option Found → Answer
  symbol_answer none = other 0 0
  symbol_answer (some f) = located f.scope (symbol_of (kind_at img f.node)) f.node

  -- a name that the image does not have is nowhere declared
  unfoldable pub found_by : List ℕ → ℕ → Option ℕ → Option Found
  found_by tab s none = none
  found_by tab s (some x) = found img (table_in img tab) s x

  -- Lookup
  unfoldable pub lookup_call : List ℕ → ℕ → List ℕ → Answer
  unfolding test_lookup number_of found_by symbol_answer
  lookup_call tab s bs =
      elim (test_lookup tab s) [
        | zero ↦ symbol_answer (found_by tab s (number_of img bs))
        | suc r ↦ refused (suc r)
      ]
