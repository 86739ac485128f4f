-- Document 01's "sound": what refusal 16 asks of a table that is handed in.
use Rattle.std.specs.Prelude.{Bool, ◌&&◌, ◌||◌, not, List, ℕ, ◌-◌, get_or}
use Rattle.std.proofs.Math.Bool.{true, false}
use Rattle.std.proofs.Math.Dec.{leb, ltb, eqb}
use Rattle.ast.specs.Image.{nodes, kind_at, field}
use Rattle.ast.specs.Tests.{◌▸◌, need, run}
use Rattle.table.specs.Layout.{all_ones, nodes_place, scopes_place, symbols_place, parent_place, scope_place, node_place}
use Rattle.table.specs.Table.{Table}

module _ (img : List ℕ) where
  -- an optional name that is present, for a rule or an argument
  unfoldable pub has_name : ℕ → Bool
  has_name n = not (eqb (field img n 0) 0)

  -- a named node of kind 2 to 10 or 13
  unfoldable pub is_symbol : ℕ → Bool
  unfolding has_name
  is_symbol n =
      ltb n (nodes img)
      && (elim (eqb (kind_at img n) 6) [
        | true ↦ has_name n
        | false ↦ elim (eqb (kind_at img n) 10) [
          | true ↦ has_name n
          | false ↦ (leb 2 (kind_at img n) && leb (kind_at img n) 9) || eqb (kind_at img n) 13
        ]
      ])

module _ (img ws : List ℕ) where
  -- K and Y, as the words have them
  abbrev pub scopes_in : ℕ
  scopes_in = get_or ws scopes_place 0

  abbrev pub symbols_in : ℕ
  symbols_in = get_or ws symbols_place 0

  -- the table that the words hold, as Lookup reads them
  abbrev pub table_in : Table
  table_in = record { words = ws; scopes = scopes_in; symbols = symbols_in }

  -- each scope but the first has a parent below it
  unfoldable pub parent_below : ℕ → ℕ
  parent_below s = need 16 (ltb (get_or ws (parent_place (nodes img) s) 0) s)

  -- a symbol row: a scope below K and a named node
  unfoldable pub row_sound : ℕ → ℕ
  unfolding is_symbol
  row_sound j = need 16 (ltb (get_or ws (scope_place (nodes img) j) 0) scopes_in) ▸ need 16 (is_symbol img (get_or ws (node_place (nodes img) j) 0))

  -- 0 where the table is sound, else 16
  unfoldable pub test_sound : ℕ
  unfolding parent_below row_sound
  test_sound =
      need 16 (eqb (get_or ws nodes_place 0) (nodes img))
      ▸ need 16 (leb 1 scopes_in) ▸ need 16 (leb scopes_in (nodes img)) ▸ need 16 (leb symbols_in (nodes img))
      ▸ need 16 (eqb (get_or ws (parent_place (nodes img) 0) 0) all_ones)
      ▸ run parent_below (scopes_in - 1) 1
      ▸ run row_sound symbols_in 0
