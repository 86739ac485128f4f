-- The private vocabulary of the contracts: what is known of the words that are filled and read, and of the flags of a climb.
use Rattle.std.specs.Prelude.{◌≡◌, ◌↔◌, Bool, true, false, List, ℕ, ◌+◌, ◌<◌, ltb, length, get_or, set, take}
use Rattle.std.proofs.Math.Option.{Option, none, some}
use Rattle.ast.specs.Image.{names}
use Rattle.ast.specs.Tests.{verdict}
use Rattle.sound.specs.Sound.{table_in, test_sound}
use Rattle.table.specs.Table.{Found}
use Rattle.table.specs.Where.{Over}
use Rattle.scopes.specs.Lookup.{test_lookup}
use Rattle.index.specs.Index.{index_length, row_name, index_words}

module _ (img tab : List ℕ) where
  -- words for the index of a sound table, and no more
  pub record Room (words : List ℕ) : Type 0 where
    pub accepted : verdict img ≡ 0
    pub sound : test_sound img tab ≡ 0
    pub long : length words ≡ index_length img

  -- row y in front of the chain of its name
  abbrev pub in_front : ℕ → List ℕ → List ℕ
  in_front y words = set (set words (names img + y) (get_or words (row_name img tab y) 0)) (row_name img tab y) y

  -- words that begin with the index of a sound table, a scope of it and a name
  pub record Indexed (index : List ℕ) (s x : ℕ) : Type 0 where
    pub passed : 0 ≡ test_lookup img tab s
    pub begins : take (index_length img) index ≡ index_words img tab
    pub name : x < names img

  -- the scopes that are flagged are s and those above it
  abbrev pub Flagged : List Bool → ℕ → Type 0
  Flagged flags s = (q : ℕ) → get_or flags q false ≡ true ↔ Over img (table_in img tab) q s

-- the better of the best so far and a symbol: one of a flagged scope, and of such scopes the greatest; of one scope the earlier stays
abbrev pub better : Bool → Option Found → Found → Option Found
better false best f = best
better true none f = some f
better true (some b) f = elim (ltb b.scope f.scope) [ true ↦ some f | false ↦ some b ]
