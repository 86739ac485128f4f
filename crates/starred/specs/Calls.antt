-- The answers that a report does not show, computed on the small rule files: Lookup, the name index and lookup through it, strict mode,
-- refusals 13 to 18, "some list declares a name twice".
use Rattle.std.specs.Prelude.{◌≡◌, refl, true, false, List, [], ◌∷◌, ℕ, replicate, set, take}
use Rattle.ast.specs.Image.{word, nodes, kind_at, start_at, op_at, field, name_of, operands, names, bytes, last, name_end, name_start, name_bytes}
use Rattle.ast.specs.Kinds.{kind_of}
use Rattle.ast.specs.Rows.{ones, numbers, ops_from, after_blocks, block_kids, block_counts, after, field_kids, field_shape, after_fields, fields_kids, fields_shape, fields_at, row_end, kids, shape, kids_to}
use Rattle.ast.specs.Tree.{swap, swaps, ordered, grow_all, grow, class_at, tree_to, tree_at}
use Rattle.ast.specs.Tests.{◌▸◌, need, run, is, times, same, test_sizes, test_names, in_row, is_child, child_word, test_blocks, test_field, test_fields, end_before, test_node, test_parents, first, is_var, test_var, test_tree, verdict}
use Rattle.table.specs.Table.{symbol_of, mark_words, mark, new_scope, new_symbol, row_is, find_from, climb, held, found, find, lookup, is_kind, is_value}
use Rattle.table.specs.Layout.{all_ones}
use Rattle.table.specs.State.{child_scope, own_symbol, introduce, marked, unmarked}
use Rattle.ordered.specs.Walk.{walk_ident, head_role, walk_arg, walk, walk_seq, walk_first}
use Rattle.scopes.specs.Walk.{enter_name, and_then, resolve_tree, enter_all, visit, visit_all, recorded, recorded_all, enter_names, mark_all}
use Rattle.scopes.specs.Resolve.{test_table, zeroed, walked, headed, way_of, way, answer_by, table_by, table_call, resolve}
use Rattle.scopes.specs.Lookup.{test_lookup, symbol_answer, found_by, lookup_call}
use Rattle.index.specs.Index.{first_from, index_words, test_index, index_call, test_indexed, indexed_call}
use Rattle.rows.specs.Rows.{lefts, rights, filled, written, cleared, when}
use Rattle.scopes.specs.Calls.{lent_table, lent_rows, test_rows, rows_by, rows_call}
use Rattle.scopes.specs.Twice.{among, repeats, declared_twice, some_repeats}
use Rattle.bindings.specs.Errors.{same_node, introduces, introduced_row, defined_row, defined_rows, arg_row, arg_rows, list_rows, is_ctor, app_rows, pattern_rows, plain_rows, args_of, repeated, repeated_in, repeated_to, strict_from, strict_rows, is_strict, error_rows, test_errors, errors, rows_of, rows_seq, rows_first, rows_defined, decl_rows, decls_rows}
use Rattle.sound.specs.Sound.{has_name, is_symbol, parent_below, row_sound, test_sound}
use Rattle.names.specs.Number.{number_from, number_of}
use Rattle.error.specs.Kinds.{asked as asks_for}
use Rattle.sight.specs.Sight.{add, opened, head_sort, rule_places, outer_const, place, place_seq, place_then, place_first}
use Rattle.occurrences.specs.Spots.{rule_spots, spots, spots_seq, spots_back, spots_first}
use Rattle.ast.specs.Rules.{rules_of, module_rules, rules, rules_all}
use Rattle.occurrences.specs.Occurrences.{listed, rows_for, rule_rows, all_rows, occurrence_rows, times_bound, lone_in, lone, rows_by_rule, lone_answer, occurrences, once}
use Rattle.ast.specs.Declarations.{rule_node, declared, declared_all, model_lists, model_lists_all, module_lists, earliest}
use Rattle.starred.specs.Encode.{bytes_of, kinds_of, starts_of, words_of, ends_of, joined, encode}
use Rattle.ast.specs.Answer.{Answer, refused, result, located, other}
use Rattle.starred.specs.Starred.{if_equal, enum_twice, model_list, repeated_args, apart_args}

-- a table that Resolve leaves
abbrev left : List ℕ → List ℕ
left img = (resolve img lent_table).table

abbrev x : List ℕ
x = 120 ∷ []

abbrev p : List ℕ
p = 112 ∷ []

-- words for an index of the file of the model, in which N is 9 and S is 2, and one more; and what they are afterwards
abbrev lent_index : List ℕ
lent_index = replicate 12 7

abbrev indexed : List ℕ
indexed = (index_call (encode model_list) (left (encode model_list)) lent_index).index

-- a call's answer, and what it is to be
pub record Asked : Type 0 where
  pub answer : Answer
  pub wanted : Answer

abbrev asked : Answer → Answer → Asked
asked a w = record { answer = a; wanted = w }

abbrev calls : List Asked
calls =
    -- x in the rule's scope, in the module's, in no scope; a name that the image has not
    asked (lookup_call (encode if_equal) (left (encode if_equal)) 1 x) (located 1 9 0)
    ∷ asked (lookup_call (encode if_equal) (left (encode if_equal)) 0 x) (other 0 0)
    ∷ asked (lookup_call (encode if_equal) (left (encode if_equal)) 2 x) (refused 17)
    ∷ asked (lookup_call (encode if_equal) (left (encode if_equal)) 1 (121 ∷ [])) (other 0 0)
    -- p in the model's scope, which has its own, and in the module's; the model's name, asked for in its own scope, is the module's
    ∷ asked (lookup_call (encode model_list) (left (encode model_list)) 1 p) (located 1 1 4)
    ∷ asked (lookup_call (encode model_list) (left (encode model_list)) 0 p) (located 0 1 1)
    ∷ asked (lookup_call (encode model_list) (left (encode model_list)) 1 (77 ∷ [])) (located 0 6 6)
    -- the three symbol rows in chains; words too few; a lookup through the index, through other words, and in no scope beside those
    ∷ asked (index_call (encode model_list) (left (encode model_list)) lent_index).answer (result 0 3)
    ∷ asked (index_call (encode model_list) (left (encode model_list)) (take 10 lent_index)).answer (refused 18)
    ∷ asked (indexed_call (encode model_list) (left (encode model_list)) indexed 1 p) (located 1 1 4)
    ∷ asked (indexed_call (encode model_list) (left (encode model_list)) indexed 0 p) (located 0 1 1)
    ∷ asked (indexed_call (encode model_list) (left (encode model_list)) indexed 1 (77 ∷ [])) (located 0 6 6)
    ∷ asked (indexed_call (encode model_list) (left (encode model_list)) (set indexed 4 0) 1 p) (refused 18)
    ∷ asked (indexed_call (encode model_list) (left (encode model_list)) (set indexed 4 0) 2 p) (refused 17)
    ∷ asked (indexed_call (encode model_list) (set (left (encode model_list)) 0 12) indexed 1 p) (refused 16)
    -- a table too short, one with another N, one whose first parent is a scope, one whose symbol is no named node
    ∷ asked (lookup_call (encode if_equal) (take 57 (left (encode if_equal))) 1 x) (refused 13)
    ∷ asked (lookup_call (encode if_equal) (set (left (encode if_equal)) 0 12) 1 x) (refused 16)
    ∷ asked (lookup_call (encode if_equal) (set (left (encode if_equal)) 25 0) 1 x) (refused 16)
    ∷ asked (lookup_call (encode if_equal) (set (left (encode if_equal)) 47 8) 1 x) (refused 16)
    -- rows too short, a mode that is none; strict by number and by default, plain
    ∷ asked (errors (encode repeated_args) lent_table (take 20 lent_rows) 2).answer (refused 14)
    ∷ asked (errors (encode repeated_args) lent_table lent_rows 3).answer (refused 15)
    ∷ asked (errors (encode repeated_args) lent_table lent_rows 2).answer (result 0 1)
    ∷ asked (errors (encode repeated_args) lent_table lent_rows 0).answer (result 0 1)
    ∷ asked (errors (encode repeated_args) lent_table lent_rows 1).answer (result 0 0)
    ∷ asked (errors (encode apart_args) lent_table lent_rows 2).answer (result 0 1)
    ∷ asked (errors (encode apart_args) lent_table lent_rows 0).answer (result 0 1)
    ∷ asked (errors (encode apart_args) lent_table lent_rows 1).answer (result 0 0)
    ∷ []

abbrev pub AsWanted : List Asked → Type 0
AsWanted [] = Unit {0}
AsWanted (c ∷ cs) = (c.answer ≡ c.wanted) × AsWanted cs

computed : AsWanted calls
unfolding word nodes kind_at start_at op_at field name_of operands names bytes last name_end name_start name_bytes kind_of ones numbers ops_from after_blocks block_kids block_counts after field_kids field_shape after_fields fields_kids fields_shape fields_at row_end kids shape kids_to swap swaps ordered grow_all grow class_at tree_to tree_at ◌▸◌ need run is times same test_sizes test_names in_row is_child child_word test_blocks test_field test_fields end_before test_node test_parents first is_var test_var test_tree verdict symbol_of mark_words mark new_scope new_symbol row_is find_from climb held found find lookup is_kind is_value child_scope own_symbol introduce marked unmarked walk_ident head_role walk_arg walk walk_seq walk_first enter_name and_then resolve_tree enter_all visit visit_all test_table zeroed walked headed way_of way answer_by table_by table_call resolve has_name is_symbol parent_below row_sound test_sound number_from number_of test_lookup symbol_answer found_by lookup_call first_from index_words test_index index_call test_indexed indexed_call lefts rights filled written cleared test_rows rows_by rows_call among repeats declared_twice when same_node asks_for introduces introduced_row defined_row defined_rows arg_row arg_rows list_rows is_ctor app_rows pattern_rows plain_rows args_of repeated repeated_in repeated_to strict_from strict_rows is_strict error_rows test_errors errors rows_of rows_seq rows_first rows_defined decl_rows decls_rows add opened head_sort rule_places rule_spots rules_of module_rules outer_const place place_seq place_then place_first spots spots_seq spots_back spots_first rules rules_all listed rows_for rule_rows all_rows occurrence_rows times_bound lone_in lone rows_by_rule lone_answer occurrences once bytes_of kinds_of starts_of words_of ends_of joined encode recorded recorded_all enter_names mark_all some_repeats rule_node declared declared_all model_lists model_lists_all module_lists earliest
computed = (refl, (refl, (refl, (refl, (refl, (refl, (refl, (refl, (refl, (refl, (refl, (refl, (refl, (refl, (refl, (refl, (refl, (refl, (refl, (refl, (refl, (refl, (refl, (refl, (refl, (refl, (refl, tt)))))))))))))))))))))))))))

-- p first in row 0, and after that in row 2, M in row 1; the word past the index stays
chains : indexed ≡ 0 ∷ 1 ∷ 2 ∷ all_ones ∷ all_ones ∷ all_ones ∷ all_ones ∷ all_ones ∷ all_ones ∷ all_ones ∷ all_ones ∷ 7 ∷ []
unfolding word nodes kind_at start_at op_at field name_of operands names bytes last name_end name_start name_bytes kind_of ones numbers ops_from after_blocks block_kids block_counts after field_kids field_shape after_fields fields_kids fields_shape fields_at row_end kids shape kids_to swap swaps ordered grow_all grow class_at tree_to tree_at ◌▸◌ need run is times same test_sizes test_names in_row is_child child_word test_blocks test_field test_fields end_before test_node test_parents first is_var test_var test_tree verdict symbol_of mark_words mark new_scope new_symbol row_is find_from climb held found find lookup is_kind is_value child_scope own_symbol introduce marked unmarked walk_ident head_role walk_arg walk walk_seq walk_first enter_name and_then resolve_tree enter_all visit visit_all test_table zeroed walked headed way_of way answer_by table_by table_call resolve has_name is_symbol parent_below row_sound test_sound number_from number_of test_lookup symbol_answer found_by lookup_call first_from index_words test_index index_call test_indexed indexed_call lefts rights filled written cleared test_rows rows_by rows_call among repeats declared_twice when same_node asks_for introduces introduced_row defined_row defined_rows arg_row arg_rows list_rows is_ctor app_rows pattern_rows plain_rows args_of repeated repeated_in repeated_to strict_from strict_rows is_strict error_rows test_errors errors rows_of rows_seq rows_first rows_defined decl_rows decls_rows add opened head_sort rule_places rule_spots rules_of module_rules outer_const place place_seq place_then place_first spots spots_seq spots_back spots_first rules rules_all listed rows_for rule_rows all_rows occurrence_rows times_bound lone_in lone rows_by_rule lone_answer occurrences once bytes_of kinds_of starts_of words_of ends_of joined encode recorded recorded_all enter_names mark_all some_repeats rule_node declared declared_all model_lists model_lists_all module_lists earliest
chains = refl

-- row 4 stands at the second argument; and of a, b, a at the third
strict : take 21 (errors (encode repeated_args) lent_table lent_rows 2).rows ∷ take 27 (errors (encode apart_args) lent_table lent_rows 2).rows ∷ []
    ≡ (1 ∷ 4 ∷ 0 ∷ 0 ∷ 0 ∷ 0 ∷ 0 ∷ 0 ∷ 0 ∷ 0 ∷ 0 ∷ 5 ∷ 0 ∷ 0 ∷ 0 ∷ 0 ∷ 0 ∷ 0 ∷ 0 ∷ 0 ∷ 0 ∷ [])
    ∷ (1 ∷ 4 ∷ 0 ∷ 0 ∷ 0 ∷ 0 ∷ 0 ∷ 0 ∷ 0 ∷ 0 ∷ 0 ∷ 0 ∷ 0 ∷ 0 ∷ 8 ∷ 0 ∷ 0 ∷ 0 ∷ 0 ∷ 0 ∷ 0 ∷ 0 ∷ 0 ∷ 0 ∷ 0 ∷ 0 ∷ 0 ∷ []) ∷ []
unfolding word nodes kind_at start_at op_at field name_of operands names bytes last name_end name_start name_bytes kind_of ones numbers ops_from after_blocks block_kids block_counts after field_kids field_shape after_fields fields_kids fields_shape fields_at row_end kids shape kids_to swap swaps ordered grow_all grow class_at tree_to tree_at ◌▸◌ need run is times same test_sizes test_names in_row is_child child_word test_blocks test_field test_fields end_before test_node test_parents first is_var test_var test_tree verdict symbol_of mark_words mark new_scope new_symbol row_is find_from climb held found find lookup is_kind is_value child_scope own_symbol introduce marked unmarked walk_ident head_role walk_arg walk walk_seq walk_first enter_name and_then resolve_tree enter_all visit visit_all test_table zeroed walked headed way_of way answer_by table_by table_call resolve has_name is_symbol parent_below row_sound test_sound number_from number_of test_lookup symbol_answer found_by lookup_call first_from index_words test_index index_call test_indexed indexed_call lefts rights filled written cleared test_rows rows_by rows_call among repeats declared_twice when same_node asks_for introduces introduced_row defined_row defined_rows arg_row arg_rows list_rows is_ctor app_rows pattern_rows plain_rows args_of repeated repeated_in repeated_to strict_from strict_rows is_strict error_rows test_errors errors rows_of rows_seq rows_first rows_defined decl_rows decls_rows add opened head_sort rule_places rule_spots rules_of module_rules outer_const place place_seq place_then place_first spots spots_seq spots_back spots_first rules rules_all listed rows_for rule_rows all_rows occurrence_rows times_bound lone_in lone rows_by_rule lone_answer occurrences once bytes_of kinds_of starts_of words_of ends_of joined encode recorded recorded_all enter_names mark_all some_repeats rule_node declared declared_all model_lists model_lists_all module_lists earliest
strict = refl

twices : declared_twice (encode enum_twice) ∷ declared_twice (encode model_list) ∷ declared_twice (encode repeated_args) ∷ [] ≡ true ∷ false ∷ false ∷ []
unfolding word nodes kind_at start_at op_at field name_of operands names bytes last name_end name_start name_bytes kind_of ones numbers ops_from after_blocks block_kids block_counts after field_kids field_shape after_fields fields_kids fields_shape fields_at row_end kids shape kids_to swap swaps ordered grow_all grow class_at tree_to tree_at ◌▸◌ need run is times same test_sizes test_names in_row is_child child_word test_blocks test_field test_fields end_before test_node test_parents first is_var test_var test_tree verdict symbol_of mark_words mark new_scope new_symbol row_is find_from climb held found find lookup is_kind is_value child_scope own_symbol introduce marked unmarked walk_ident head_role walk_arg walk walk_seq walk_first enter_name and_then resolve_tree enter_all visit visit_all test_table zeroed walked headed way_of way answer_by table_by table_call resolve has_name is_symbol parent_below row_sound test_sound number_from number_of test_lookup symbol_answer found_by lookup_call first_from index_words test_index index_call test_indexed indexed_call lefts rights filled written cleared test_rows rows_by rows_call among repeats declared_twice when same_node asks_for introduces introduced_row defined_row defined_rows arg_row arg_rows list_rows is_ctor app_rows pattern_rows plain_rows args_of repeated repeated_in repeated_to strict_from strict_rows is_strict error_rows test_errors errors rows_of rows_seq rows_first rows_defined decl_rows decls_rows add opened head_sort rule_places rule_spots rules_of module_rules outer_const place place_seq place_then place_first spots spots_seq spots_back spots_first rules rules_all listed rows_for rule_rows all_rows occurrence_rows times_bound lone_in lone rows_by_rule lone_answer occurrences once bytes_of kinds_of starts_of words_of ends_of joined encode recorded recorded_all enter_names mark_all some_repeats rule_node declared declared_all model_lists model_lists_all module_lists earliest
twices = refl
