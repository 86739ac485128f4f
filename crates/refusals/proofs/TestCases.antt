-- The image tests and Name, computed: the sizes, case A of document 01, and a damaged image for each refusal.
use mathlib.Core.Path.{◌≡◌, refl}
use mathlib.Core.List.{List, [], ◌∷◌, ◌++◌}
use Prim.Native.Nat.{ℕ, ◌/◌, ◌%◌}
use lib.ListN.{set, replicate}
use Rattle.ast.specs.Image.{nodes, word, kind_at, start_at, op_at, name_bytes, name_start, name_end, last, bytes, names, operands}
use Rattle.ast.specs.Kinds.{kind_of}
use Rattle.names.specs.Name.{has_name, name_call}
use Rattle.ast.specs.Rows.{kids_to, kids, fields_kids, field_kids, block_kids, ops_from, ones, numbers, after, after_blocks, after_fields, fields_at, row_end}
use Rattle.ast.specs.Tests.{verdict, test_sizes, test_names, test_node, test_tree, test_parents, test_var, is_var, first, end_before, test_fields, test_field, test_blocks, child_word, is_child, in_row, same, times, is, run, need, ◌▸◌}

-- words as bytes, then the name bytes
image : List ℕ → List ℕ → List ℕ
image [] bs = bs
image (w ∷ ws) bs = w % 256 ∷ w / 256 % 256 ∷ w / 65536 % 256 ∷ w / 16777216 ∷ image ws bs

-- case A: 4 sizes, 11 kinds, 11 starts, 42 operands, 1 name end
words_a : List ℕ
words_a = 11 ∷ 42 ∷ 1 ∷ 1
    ∷ 13 ∷ 12 ∷ 13 ∷ 12 ∷ 30 ∷ 28 ∷ 37 ∷ 36 ∷ 6 ∷ 1 ∷ 0
    ∷ 0 ∷ 3 ∷ 7 ∷ 10 ∷ 14 ∷ 18 ∷ 22 ∷ 25 ∷ 29 ∷ 34 ∷ 38
    ∷ 0 ∷ 0 ∷ 0 ∷ 0 ∷ 0 ∷ 0 ∷ 0 ∷ 0 ∷ 0 ∷ 0 ∷ 0 ∷ 0 ∷ 0 ∷ 2 ∷ 0 ∷ 0 ∷ 1 ∷ 3 ∷ 0 ∷ 0 ∷ 0 ∷ 4 ∷ 0 ∷ 0 ∷ 5 ∷ 0 ∷ 0 ∷ 0 ∷ 6
    ∷ 0 ∷ 0 ∷ 0 ∷ 1 ∷ 7 ∷ 0 ∷ 0 ∷ 4 ∷ 8 ∷ 0 ∷ 0 ∷ 1 ∷ 9
    ∷ 1 ∷ []

-- `if dom x : x`
words_dom : List ℕ
words_dom = 13 ∷ 49 ∷ 1 ∷ 1
    ∷ 13 ∷ 12 ∷ 18 ∷ 12 ∷ 24 ∷ 23 ∷ 33 ∷ 28 ∷ 37 ∷ 36 ∷ 6 ∷ 1 ∷ 0
    ∷ 0 ∷ 3 ∷ 7 ∷ 10 ∷ 14 ∷ 17 ∷ 21 ∷ 25 ∷ 29 ∷ 32 ∷ 36 ∷ 41 ∷ 45
    ∷ 0 ∷ 0 ∷ 0 ∷ 0 ∷ 0 ∷ 0 ∷ 0 ∷ 0 ∷ 0 ∷ 1 ∷ 0 ∷ 0 ∷ 4 ∷ 2 ∷ 0 ∷ 0 ∷ 0 ∷ 0 ∷ 0 ∷ 0 ∷ 4 ∷ 0 ∷ 0 ∷ 3 ∷ 5 ∷ 0 ∷ 0 ∷ 3 ∷ 6 ∷ 0 ∷ 0 ∷ 7 ∷ 0 ∷ 0 ∷ 0 ∷ 8
    ∷ 0 ∷ 0 ∷ 0 ∷ 1 ∷ 9 ∷ 0 ∷ 0 ∷ 4 ∷ 10 ∷ 0 ∷ 0 ∷ 1 ∷ 11
    ∷ 1 ∷ []

-- an image without names; case A; case A with the word at i replaced
plain : List ℕ → ℕ
plain ws = verdict (image ws [])

named : List ℕ → ℕ
named ws = verdict (image ws (120 ∷ []))

damaged : ℕ → ℕ → ℕ
damaged i w = named (set words_a i w)

verdicts : List ℕ
verdicts =
    named words_a ∷ plain (1 ∷ 3 ∷ 0 ∷ 0 ∷ 0 ∷ 0 ∷ 0 ∷ 0 ∷ 0 ∷ [])  -- case A, the module alone
    ∷ verdict (replicate 15 0)  -- 15 bytes
    ∷ plain (2049 ∷ 0 ∷ 0 ∷ 0 ∷ []) ∷ plain (0 ∷ 0 ∷ 0 ∷ 0 ∷ [])  -- too many nodes, none
    ∷ plain (2048 ∷ 0 ∷ 0 ∷ 0 ∷ [])  -- the length
    ∷ damaged 68 2 ∷ damaged 68 0  -- the name's end: not B, not above 0
    ∷ verdict (image (set (set words_a 2 2) 3 2 ++ (2 ∷ [])) (120 ∷ 120 ∷ []))  -- the name twice
    ∷ damaged 4 41  -- a kind
    ∷ damaged 16 4 ∷ damaged 15 4294967295  -- a start
    ∷ damaged 66 4294967295  -- a list that runs past C
    ∷ plain (1 ∷ 3 ∷ 0 ∷ 0 ∷ 39 ∷ 0 ∷ 0 ∷ 0 ∷ 4294967295 ∷ []) ∷ plain (1 ∷ 4 ∷ 0 ∷ 0 ∷ 39 ∷ 0 ∷ 0 ∷ 0 ∷ 1 ∷ 4294967295 ∷ [])  -- blocks, a block
    ∷ damaged 28 1 ∷ damaged 57 2 ∷ damaged 31 8  -- a name, an option's name, a case
    ∷ damaged 42 4 ∷ damaged 42 4294967295 ∷ damaged 42 0  -- a child not below, a child's kind
    ∷ damaged 58 4294967295  -- a list that runs on into the next row
    ∷ damaged 66 0 ∷ plain (1 ∷ 3 ∷ 0 ∷ 0 ∷ 11 ∷ 0 ∷ 0 ∷ 0 ∷ 0 ∷ [])  -- the last row ends before C, the last node is no module
    ∷ damaged 43 1  -- node 1 is a child twice, node 3 nowhere
    ∷ named words_dom ∷ []  -- an if-var's term of case Dom

computed : verdicts ≡ 0 ∷ 0 ∷ 1 ∷ 2 ∷ 2 ∷ 3 ∷ 4 ∷ 4 ∷ 5 ∷ 6 ∷ 7 ∷ 7 ∷ 7 ∷ 7 ∷ 7 ∷ 8 ∷ 8 ∷ 8 ∷ 9 ∷ 9 ∷ 9 ∷ 9 ∷ 10 ∷ 10 ∷ 11 ∷ 12 ∷ []
unfolding image words_a words_dom plain named damaged verdicts verdict test_sizes test_names test_node test_tree test_parents test_var is_var first end_before test_fields test_field test_blocks child_word is_child in_row name_bytes name_start name_end last bytes names operands same times is run need ◌▸◌ kids_to kids fields_kids field_kids block_kids ops_from ones numbers after after_blocks after_fields fields_at row_end kind_of nodes word kind_at start_at op_at
computed = refl

-- Name of case A: the name 0, the number S, and an image that 12 refuses
name_of_a : List ℕ → ℕ → List ℕ
name_of_a ws x = name_call (image ws (120 ∷ [])) x

names-computed : name_of_a words_a 0 ∷ name_of_a words_a 1 ∷ name_of_a words_dom 0 ∷ [] ≡ (120 ∷ []) ∷ [] ∷ [] ∷ []
unfolding image words_a words_dom plain named damaged verdicts verdict test_sizes test_names test_node test_tree test_parents test_var is_var first end_before test_fields test_field test_blocks child_word is_child in_row name_bytes name_start name_end last bytes names operands same times is run need ◌▸◌ kids_to kids fields_kids field_kids block_kids ops_from ones numbers after after_blocks after_fields fields_at row_end kind_of nodes word kind_at start_at op_at name_of_a name_call has_name
names-computed = refl
