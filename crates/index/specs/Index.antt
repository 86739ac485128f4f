-- Document 02's S-3: the name index of a table, the call that makes it, and lookup through it.
use Rattle.std.specs.Prelude.{true, false, List, ◌++◌, ℕ, zero, suc, ◌+◌, ◌-◌, eqb, leb, length, map, take, drop, Result, Ok, Err}
use Rattle.std.specs.List.{range_with_len}
use Rattle.ast.specs.Answer.{Answer, refused, result}
use Rattle.ast.specs.Image.{nodes, names, name_of}
use Rattle.ast.specs.Tests.{◌▸◌, need, same}
use Rattle.error.specs.Refusals.{refusal_number}
use Rattle.error.specs.declared.Refusal.{Refusal}
use Rattle.table.specs.Layout.{all_ones}
use Rattle.table.specs.Rising.{node_at}
use Rattle.sound.specs.Sound.{symbols_in, test_sound}
use Rattle.scopes.specs.Resolve.{test_table}
use Rattle.scopes.specs.Lookup.{test_lookup, lookup_call}

-- how many words an index has: one for each name, one for each node
abbrev pub index_length : List ℕ → ℕ
index_length img = names img + nodes img

-- an answer, and the words of the index afterwards
pub record Outcome : Type 0 where
  pub answer : Answer
  pub index : List ℕ

module _ (img tab : List ℕ) where
  -- the name of the symbol row j
  abbrev pub row_name : ℕ → ℕ
  row_name j = name_of img (node_at (nodes img) tab j)

  -- the first of the c rows from j on that has the name x; all ones where none has it
  unfoldable pub first_from : ℕ → ℕ → ℕ → ℕ
  first_from zero j x = all_ones
  first_from (suc c) j x = elim (eqb (row_name j) x) [ true ↦ j | false ↦ first_from c (j + 1) x ]

  -- the first row of the name x
  abbrev pub first_of : ℕ → ℕ
  first_of x = first_from (symbols_in img tab) 0 x

  -- the next row of the name of row y; none for a place past the last row
  abbrev pub next_of : ℕ → ℕ
  next_of y = first_from (symbols_in img tab - (y + 1)) (y + 1) (row_name y)

  -- S words with the first row of each name, then N words with the next row of the same name
  unfoldable pub index_words : List ℕ
  index_words = map first_of (range_with_len 0 (names img)) ++ map next_of (range_with_len 0 (nodes img))

  module _ (index : List ℕ) where
    -- the refusals of the call that makes the index: 1 to 13, 16, 18
    unfoldable pub test_index : ℕ
    test_index = test_table img tab ▸ test_sound img tab ▸ need 18 (leb (index_length img) (length index))

    -- the call: Y, and the words with the index in front; those past S + N are untouched
    unfoldable pub index_call : Outcome
    index_call =
        elim test_index [
          | zero ↦ record { answer = result 0 (symbols_in img tab); index = index_words ++ drop (index_length img) index }
          | suc r ↦ record { answer = refused (suc r); index = index }
        ]

    -- the refusals of lookup through the index: 1 to 13, 16, 17, then 18, for too few words and for words that are not the table's index
    unfoldable pub test_indexed : ℕ → ℕ
    test_indexed s =
        test_lookup img tab s ▸ need 18 (leb (index_length img) (length index)) ▸ need 18 (same (take (index_length img) index) index_words)

    -- the call: where it refuses nothing, it answers as Lookup does
    unfoldable pub indexed_call : ℕ → List ℕ → Answer
    indexed_call s bs =
        elim (test_indexed s) [
          | zero ↦ lookup_call img tab s bs
          | suc r ↦ refused (suc r)
        ]

-- what the code of the call that makes the index hands back: Y
abbrev pub index_answer : Result ℕ Refusal → Answer
index_answer (Ok count) = result 0 count
index_answer (Err r) = refused (refusal_number r)
