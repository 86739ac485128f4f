-- The chains of a name index, as whoever reads its words goes along them: the words of document 02's S-3.
use Rattle.std.specs.Prelude.{true, false, List, [], ◌∷◌, ℕ, zero, suc, ◌+◌, ◌<◌, eqb, get_or}
use Rattle.std.specs.List.{range_with_len}
use Rattle.ast.specs.Image.{nodes, names}
use Rattle.table.specs.Layout.{all_ones}
use Rattle.sound.specs.Sound.{symbols_in}
use Rattle.sight.specs.Sight.{In}
use Rattle.index.specs.Index.{row_name}
use Rattle.calls.specs.Order.{passing}

module _ (img index : List ℕ) where
  -- from a row on, f rows at most; all ones is the end
  unfoldable pub follow : ℕ → ℕ → List ℕ
  follow zero y = []
  follow (suc f) y = elim (eqb y all_ones) [ true ↦ [] | false ↦ y ∷ follow f (get_or index (names img + y) 0) ]

  -- the chain of the name x: no table has more rows than there are nodes
  abbrev pub chain : ℕ → List ℕ
  chain x = follow (nodes img) (get_or index x 0)

-- the rows of a table with the name x, in insertion order
abbrev pub rows_named : List ℕ → List ℕ → ℕ → List ℕ
rows_named img tab x = passing (λ j. eqb (row_name img tab j) x) (range_with_len 0 (symbols_in img tab))

-- each row stands before all greater ones, and none twice
abbrev pub Rising : List ℕ → Type 0
Rising [] = Unit {0}
Rising (y ∷ l) = ((z : ℕ) → In z l → y < z) × Rising l
