-- What a call leaves in the words that it is lent, by its answer.
use Rattle.std.specs.Prelude.{◌≡◌, List, ℕ, ◌+◌, ◌<◌, ◌≤◌, length, get_or, drop}
use Rattle.ast.specs.Answer.{Answer, refused, twice, result, located, other}
use Rattle.ast.specs.Image.{nodes, names}
use Rattle.rows.specs.Rows.{rows_length}
use Rattle.table.specs.Layout.{all_ones, table_length}
use Rattle.sound.specs.Sound.{symbols_in, table_in}
use Rattle.scopes.specs.Resolve.{Unused}
use Rattle.index.specs.Index.{index_length}

-- the answer is a refusal; it is "twice"; it is one of the others
abbrev pub Refuses : Answer → Type 0
Refuses (refused number) = Unit {0}
Refuses (twice name first second) = ⊥
Refuses (result a b) = ⊥
Refuses (located scope symbol node) = ⊥
Refuses (other a b) = ⊥

abbrev pub Stops : Answer → Type 0
Stops (refused number) = ⊥
Stops (twice name first second) = Unit {0}
Stops (result a b) = ⊥
Stops (located scope symbol node) = ⊥
Stops (other a b) = ⊥

abbrev pub Fills : Answer → Type 0
Fills (refused number) = ⊥
Fills (twice name first second) = ⊥
Fills (result a b) = Unit {0}
Fills (located scope symbol node) = Unit {0}
Fills (other a b) = Unit {0}

module _ (img old : List ℕ) (answer : Answer) (new : List ℕ) where
  -- of a lent table: under a refusal every word stays; the length and the words past 3 + 5N always do; under "twice" the words before
  -- them are 0, and else the unused places
  pub record TableLeft : Type 0 where
    pub untouched : Refuses answer → new ≡ old
    pub long : length new ≡ length old
    pub past : drop (table_length (nodes img)) new ≡ drop (table_length (nodes img)) old
    pub zeros : Stops answer → (i : ℕ) → i < table_length (nodes img) → get_or new i 0 ≡ 0
    pub unused : Fills answer → (i : ℕ) → Unused img (table_in img new) i → get_or new i 0 ≡ 0

  -- of lent rows: under a refusal and under "twice" every word stays; the length and the words past 1 + 2N always do; else the places of
  -- both arrays past the count in front are 0
  pub record RowsLeft : Type 0 where
    pub untouched : Refuses answer → new ≡ old
    pub stopped : Stops answer → new ≡ old
    pub long : length new ≡ length old
    pub past : drop (rows_length (nodes img)) new ≡ drop (rows_length (nodes img)) old
    pub unused : Fills answer → (i : ℕ) → get_or new 0 0 ≤ i → i < nodes img → (get_or new (1 + i) 0 ≡ 0) × (get_or new (1 + nodes img + i) 0 ≡ 0)

-- of a lent index of a table: under a refusal every word stays; the length and the words past S + N always do; else the places of the
-- second array past the table's rows are all ones
pub record IndexLeft (img tab old : List ℕ) (answer : Answer) (new : List ℕ) : Type 0 where
  pub untouched : Refuses answer → new ≡ old
  pub long : length new ≡ length old
  pub past : drop (index_length img) new ≡ drop (index_length img) old
  pub unused : Fills answer → (y : ℕ) → symbols_in img tab ≤ y → y < nodes img → get_or new (names img + y) 0 ≡ all_ones
