-- Known renames, computed: document 02's S-7 on small rule files.
use Rattle.std.specs.Prelude.{◌≡◌, refl, List, [], ◌∷◌, ◌++◌, ℕ, ◌+◌, length, replicate}
use Rattle.ast.specs.Answer.{refused, twice, result}
use Rattle.ast.specs.Image.{word, nodes, kind_at, start_at, op_at, field, name_of, operands, names, bytes, last, name_end, name_start, name_bytes}
use Rattle.ast.specs.Kinds.{kind_of}
use Rattle.ast.specs.Rows.{ones, numbers, ops_from, after_blocks, block_kids, block_counts, after, field_kids, field_shape, after_fields, fields_kids, fields_shape, fields_at, row_end, kids, shape, kids_to}
use Rattle.ast.specs.Tree.{swap, swaps, ordered, grow_all, grow, class_at, tree_to, tree_at}
use Rattle.ast.specs.Tests.{◌▸◌, need, run, is, times, same, test_sizes, test_names, in_row, is_child, child_word, test_blocks, test_field, test_fields, end_before, test_node, test_parents, first, is_var, test_var, test_tree, verdict}
use Rattle.table.specs.Table.{mark_words, mark, new_scope, new_symbol, row_is, find_from, climb, held, found, find, lookup, is_kind, is_value}
use Rattle.table.specs.State.{child_scope, own_symbol, introduce, marked, unmarked}
use Rattle.ordered.specs.Walk.{walk_ident, head_role, walk_arg, walk, walk_seq, walk_first}
use Rattle.scopes.specs.Walk.{enter_name, and_then, resolve_tree, enter_all, visit, visit_all, recorded, recorded_all, enter_names, mark_all}
use Rattle.scopes.specs.Resolve.{test_table, zeroed, walked, headed, way_of, way, answer_by, table_by}
use Rattle.rows.specs.Rows.{lefts, rights, filled, written, cleared, read_rows}
use Rattle.scopes.specs.Calls.{lent_table, lent_rows, test_rows, rows_by, rows_call}
use Rattle.occurrences.specs.Spots.{rule_spots, spots, spots_seq, spots_back, spots_first}
use Rattle.ast.specs.Rules.{rules_of, module_rules, rules, rules_all}
use Rattle.occurrences.specs.Occurrences.{listed, rows_for, rule_rows, all_rows, occurrence_rows, occurrences}
use Rattle.ast.specs.Declarations.{rule_node, declared, declared_all, earliest}
use Rattle.rename.specs.Rename.{set_word, set_words, offsets, renamed, is_binding, same_rows, list_left, occurrence_list, test_buffers, test_rename, Outcome, out_after, after_list, after_buffers, rename}
use Rattle.starred.specs.Encode.{File, bytes_of, kinds_of, starts_of, words_of, ends_of, joined, encode}
use Rattle.starred.specs.Starred.{enum_twice, shadowed}

-- the names x and y, by their numbers 0 and 1
abbrev xy : List (List ℕ)
xy = (120 ∷ []) ∷ (121 ∷ []) ∷ []

-- one unnamed rule `if p = q`; the occurrences are nodes 1 and 3
abbrev equal : ℕ → ℕ → File
equal p q =
    record {
      rows = (13 ∷ p ∷ []) ∷ (12 ∷ 0 ∷ 0 ∷ []) ∷ (13 ∷ q ∷ []) ∷ (12 ∷ 0 ∷ 2 ∷ []) ∷ (30 ∷ 1 ∷ 3 ∷ []) ∷ (28 ∷ 0 ∷ 4 ∷ []) ∷ (37 ∷ 5 ∷ []) ∷ (36 ∷ 0 ∷ 6 ∷ [])
          ∷ (6 ∷ 0 ∷ 1 ∷ 7 ∷ []) ∷ (1 ∷ 4 ∷ 8 ∷ []) ∷ (0 ∷ 1 ∷ 9 ∷ []) ∷ [];
      names = xy;
    }

-- `if p = p(p)`: the second occurrence is an app head, node 3
abbrev applied : ℕ → File
applied p =
    record {
      rows = (13 ∷ p ∷ []) ∷ (12 ∷ 0 ∷ 0 ∷ []) ∷ (13 ∷ p ∷ []) ∷ (15 ∷ 0 ∷ 2 ∷ []) ∷ (13 ∷ p ∷ []) ∷ (12 ∷ 0 ∷ 4 ∷ []) ∷ (22 ∷ 1 ∷ 5 ∷ []) ∷ (14 ∷ 3 ∷ 6 ∷ []) ∷ (12 ∷ 2 ∷ 7 ∷ [])
          ∷ (30 ∷ 1 ∷ 8 ∷ []) ∷ (28 ∷ 0 ∷ 9 ∷ []) ∷ (37 ∷ 10 ∷ []) ∷ (36 ∷ 0 ∷ 11 ∷ []) ∷ (6 ∷ 0 ∷ 1 ∷ 12 ∷ []) ∷ (1 ∷ 4 ∷ 13 ∷ []) ∷ (0 ∷ 1 ∷ 14 ∷ []) ∷ [];
      names = xy;
    }

-- Rename of the binding i to the name x, with an output of m bytes
abbrev asked : File → (i x m : ℕ) → Outcome
asked f i x m = rename (encode f) lent_table lent_rows i x (replicate m 7)

-- with two bytes more than the image has
abbrev with : File → (i x : ℕ) → Outcome
with f i x = asked f i x (length (encode f) + 2)

-- Answers: given, both terms with the new name; to its own name; no binding; no name; neither; x would take the place of y; an output one byte
-- too short. In `if c : T; if c = x; then x = c`, with a const c that the first c shadows, that c may be called T, and x not c. A name declared
-- twice is passed on. Outputs: the terms; the app head along with them; under 21 nothing
known :
    ((with (equal 0 0) 0 1).answer ∷ (with (equal 0 0) 0 0).answer ∷ (with (equal 0 0) 2 1).answer ∷ (with (equal 0 0) 0 2).answer ∷ (with (equal 0 0) 2 2).answer
    ∷ (with (equal 0 1) 0 1).answer ∷ (asked (equal 0 0) 0 1 281).answer ∷ (with shadowed 4 0).answer ∷ (with shadowed 14 1).answer ∷ (with enum_twice 0 0).answer ∷ []
    ≡ result 0 282 ∷ result 0 282 ∷ refused 19 ∷ refused 20 ∷ refused 19 ∷ refused 21 ∷ refused 14 ∷ result 0 751 ∷ refused 21 ∷ twice 0 2 1 ∷ [])
    × ((with (equal 0 0) 0 1).out ∷ (with (applied 0) 0 1).out ∷ (with (equal 0 1) 0 1).out ∷ []
    ≡ (encode (equal 1 1) ++ (7 ∷ 7 ∷ [])) ∷ (encode (applied 1) ++ (7 ∷ 7 ∷ [])) ∷ replicate 284 7 ∷ [])
unfolding word nodes kind_at start_at op_at field name_of operands names bytes last name_end name_start name_bytes kind_of ones numbers ops_from after_blocks block_kids block_counts after field_kids field_shape after_fields fields_kids fields_shape fields_at row_end kids shape kids_to swap swaps ordered grow_all grow class_at tree_to tree_at ◌▸◌ need run is times same test_sizes test_names in_row is_child child_word test_blocks test_field test_fields end_before test_node test_parents first is_var test_var test_tree verdict mark_words mark new_scope new_symbol row_is find_from climb held found find lookup is_kind is_value child_scope own_symbol introduce marked unmarked walk_ident head_role walk_arg walk walk_seq walk_first enter_name and_then resolve_tree enter_all visit visit_all test_table zeroed walked headed way_of way answer_by table_by lefts rights filled written cleared read_rows test_rows rows_by rows_call rule_spots rules_of module_rules spots spots_seq spots_back spots_first rules rules_all listed rows_for rule_rows all_rows occurrence_rows occurrences bytes_of kinds_of starts_of words_of ends_of joined encode recorded recorded_all enter_names mark_all rule_node declared declared_all earliest set_word set_words offsets renamed is_binding same_rows list_left occurrence_list test_buffers test_rename out_after after_list after_buffers rename
known = (refl, refl)
