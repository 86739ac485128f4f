-- The starred small rule files of documents 01 and 02, and one that is not starred, as ONE computed check of the definitions.
use Rattle.std.specs.Prelude.{◌≡◌, refl, List, [], ◌∷◌, ◌++◌, ℕ, ◌+◌, replicate}
use Rattle.ast.specs.Image.{word, nodes, kind_at, start_at, op_at, field, name_of, operands, names, bytes, last, name_end, name_start, name_bytes}
use Rattle.ast.specs.Kinds.{kind_of}
use Rattle.ast.specs.Rows.{ones, numbers, ops_from, after_blocks, block_kids, block_counts, after, field_kids, field_shape, after_fields, fields_kids, fields_shape, fields_at, row_end, kids, shape, kids_to}
use Rattle.ast.specs.Tree.{swap, swaps, ordered, grow_all, grow, class_at, tree_to, tree_at}
use Rattle.ast.specs.Tests.{◌▸◌, need, run, is, times, same, test_sizes, test_names, in_row, is_child, child_word, test_blocks, test_field, test_fields, end_before, test_node, test_parents, first, is_var, test_var, test_tree, verdict}
use Rattle.table.specs.Table.{mark_words, mark, new_scope, new_symbol, row_is, find_from, climb, held, found, find, lookup, is_kind, is_value}
use Rattle.table.specs.State.{child_scope, own_symbol, introduce, marked, unmarked}
use Rattle.ordered.specs.Walk.{walk_ident, head_role, walk_arg, walk, walk_seq, walk_first}
use Rattle.scopes.specs.Walk.{enter_name, and_then, resolve_tree, enter_all, visit, visit_all, recorded, recorded_all, enter_names, mark_all}
use Rattle.scopes.specs.Resolve.{test_table, zeroed, walked, headed, way_of, way, answer_by, table_by, table_call, resolve}
use Rattle.rows.specs.Rows.{lefts, rights, filled, written, cleared, when}
use Rattle.scopes.specs.Calls.{test_rows, rows_by, rows_call}
use Rattle.scopes.specs.Twice.{among}
use Rattle.bindings.specs.Errors.{same_node, introduces, introduced_row, defined_row, defined_rows, arg_row, arg_rows, list_rows, is_ctor, app_rows, pattern_rows, plain_rows, args_of, repeated, repeated_in, repeated_to, strict_from, strict_rows, is_strict, error_rows, test_errors, errors, rows_of, rows_seq, rows_first, rows_defined, decl_rows, decls_rows}
use Rattle.error.specs.Kinds.{asked}
use Rattle.sight.specs.Sight.{add, opened, head_sort, rule_places, outer_const, place, place_seq, place_then, place_first}
use Rattle.occurrences.specs.Spots.{rule_spots, spots, spots_seq, spots_back, spots_first}
use Rattle.ast.specs.Rules.{rules_of, module_rules, rules, rules_all}
use Rattle.occurrences.specs.Occurrences.{listed, rows_for, rule_rows, all_rows, occurrence_rows, times_bound, lone_in, lone, rows_by_rule, lone_answer, occurrences, once}
use Rattle.ast.specs.Declarations.{rule_node, declared, declared_all, earliest}
use Rattle.starred.specs.Encode.{File, bytes_of, kinds_of, starts_of, words_of, ends_of, joined, encode}
use Rattle.lines.specs.Report.{Line, resolved, error, var, end_once, end_ok, refusal, declared_twice, zipped, row_lines, end_lines, body_lines, lines_of, report}

-- the rows of the statement `if x = x`, numbered from n on
abbrev if_same : ℕ → ℕ → List (List ℕ)
if_same x n =
    (13 ∷ x ∷ [])
    ∷ (12 ∷ 0 ∷ n ∷ [])
    ∷ (13 ∷ x ∷ [])
    ∷ (12 ∷ 0 ∷ (n + 2) ∷ [])
    ∷ (30 ∷ (n + 1) ∷ (n + 3) ∷ [])
    ∷ (28 ∷ 0 ∷ (n + 4) ∷ [])
    ∷ (37 ∷ (n + 5) ∷ [])
    ∷ (36 ∷ 0 ∷ (n + 6) ∷ []) ∷ []

-- ★A: one unnamed rule `if x = x`
abbrev pub if_equal : File
if_equal =
    record {
      rows = if_same 0 0
          ++ ((6 ∷ 0 ∷ 1 ∷ 7 ∷ []) ∷ (1 ∷ 4 ∷ 8 ∷ []) ∷ (0 ∷ 1 ∷ 9 ∷ []) ∷ []);
      names = (120 ∷ []) ∷ [];
    }

-- ★Module alone
abbrev module_alone : File
module_alone =
    record {
      rows = (0 ∷ 0 ∷ []) ∷ [];
      names = [];
    }

-- ★Const c, `if c = c`: no occurrence
abbrev const_equal : File
const_equal =
    record {
      rows = ((24 ∷ 0 ∷ []) ∷ (23 ∷ 0 ∷ 0 ∷ []) ∷ (5 ∷ 1 ∷ 1 ∷ []) ∷ (1 ∷ 3 ∷ 2 ∷ []) ∷ [])
          ++ if_same 1 4
          ++ ((6 ∷ 0 ∷ 1 ∷ 11 ∷ []) ∷ (1 ∷ 4 ∷ 12 ∷ []) ∷ (0 ∷ 2 ∷ 3 ∷ 13 ∷ []) ∷ []);
      names = (84 ∷ []) ∷ (99 ∷ []) ∷ [];
    }

-- ★Const c, `if c : T; if c = x; then x = c`: K = 3, five occurrences, two bindings
abbrev pub shadowed : File
shadowed =
    record {
      rows = (24 ∷ 0 ∷ [])
          ∷ (23 ∷ 0 ∷ 0 ∷ [])
          ∷ (5 ∷ 1 ∷ 1 ∷ [])
          ∷ (1 ∷ 3 ∷ 2 ∷ [])
          ∷ (13 ∷ 1 ∷ [])
          ∷ (12 ∷ 0 ∷ 4 ∷ [])
          ∷ (24 ∷ 0 ∷ [])
          ∷ (23 ∷ 0 ∷ 6 ∷ [])
          ∷ (33 ∷ 5 ∷ 7 ∷ [])
          ∷ (28 ∷ 3 ∷ 8 ∷ [])
          ∷ (37 ∷ 9 ∷ [])
          ∷ (36 ∷ 0 ∷ 10 ∷ [])
          ∷ (13 ∷ 1 ∷ [])
          ∷ (12 ∷ 0 ∷ 12 ∷ [])
          ∷ (13 ∷ 2 ∷ [])
          ∷ (12 ∷ 0 ∷ 14 ∷ [])
          ∷ (30 ∷ 13 ∷ 15 ∷ [])
          ∷ (28 ∷ 0 ∷ 16 ∷ [])
          ∷ (37 ∷ 17 ∷ [])
          ∷ (36 ∷ 0 ∷ 18 ∷ [])
          ∷ (13 ∷ 2 ∷ [])
          ∷ (12 ∷ 0 ∷ 20 ∷ [])
          ∷ (13 ∷ 1 ∷ [])
          ∷ (12 ∷ 0 ∷ 22 ∷ [])
          ∷ (30 ∷ 21 ∷ 23 ∷ [])
          ∷ (29 ∷ 0 ∷ 24 ∷ [])
          ∷ (38 ∷ 25 ∷ [])
          ∷ (36 ∷ 1 ∷ 26 ∷ [])
          ∷ (6 ∷ 0 ∷ 3 ∷ 11 ∷ 19 ∷ 27 ∷ [])
          ∷ (1 ∷ 4 ∷ 28 ∷ [])
          ∷ (0 ∷ 2 ∷ 3 ∷ 29 ∷ []) ∷ [];
      names = (84 ∷ []) ∷ (99 ∷ []) ∷ (120 ∷ []) ∷ [];
    }

-- ★`then x := f(x)!`: K = 3, row 1 at the inner x, Once gives the outer x
abbrev defined_then : File
defined_then =
    record {
      rows = (13 ∷ 0 ∷ [])
          ∷ (12 ∷ 0 ∷ 0 ∷ [])
          ∷ (13 ∷ 1 ∷ [])
          ∷ (15 ∷ 0 ∷ 2 ∷ [])
          ∷ (13 ∷ 0 ∷ [])
          ∷ (12 ∷ 0 ∷ 4 ∷ [])
          ∷ (22 ∷ 1 ∷ 5 ∷ [])
          ∷ (14 ∷ 3 ∷ 6 ∷ [])
          ∷ (12 ∷ 2 ∷ 7 ∷ [])
          ∷ (34 ∷ 2 ∷ 8 ∷ [])
          ∷ (29 ∷ 1 ∷ 9 ∷ [])
          ∷ (38 ∷ 10 ∷ [])
          ∷ (36 ∷ 1 ∷ 11 ∷ [])
          ∷ (6 ∷ 0 ∷ 1 ∷ 12 ∷ [])
          ∷ (1 ∷ 4 ∷ 13 ∷ [])
          ∷ (0 ∷ 1 ∷ 14 ∷ []) ∷ [];
      names = (120 ∷ []) ∷ (102 ∷ []) ∷ [];
    }

-- ★Branch of two blocks `if x = x`: two bindings
abbrev branches : File
branches =
    record {
      rows = if_same 0 0
          ++ if_same 0 8
          ++ ((39 ∷ 2 ∷ 1 ∷ 7 ∷ 1 ∷ 15 ∷ []) ∷ (36 ∷ 2 ∷ 16 ∷ []) ∷ (6 ∷ 0 ∷ 1 ∷ 17 ∷ []) ∷ (1 ∷ 4 ∷ 18 ∷ []) ∷ (0 ∷ 1 ∷ 19 ∷ []) ∷ []);
      names = (120 ∷ []) ∷ [];
    }

-- ★The same after `if x = x`: one binding, six occurrences
abbrev branches_after : File
branches_after =
    record {
      rows = if_same 0 0
          ++ if_same 0 8
          ++ if_same 0 16
          ++ ((39 ∷ 2 ∷ 1 ∷ 15 ∷ 1 ∷ 23 ∷ []) ∷ (36 ∷ 2 ∷ 24 ∷ []) ∷ (6 ∷ 0 ∷ 2 ∷ 7 ∷ 25 ∷ []) ∷ (1 ∷ 4 ∷ 26 ∷ []) ∷ (0 ∷ 1 ∷ 27 ∷ []) ∷ []);
      names = (120 ∷ []) ∷ [];
    }

-- ★Enum E with constructor E: twice
abbrev pub enum_twice : File
enum_twice =
    record {
      rows = (11 ∷ 0 ∷ [])
          ∷ (9 ∷ 0 ∷ 0 ∷ [])
          ∷ (7 ∷ 0 ∷ 1 ∷ 1 ∷ [])
          ∷ (1 ∷ 5 ∷ 2 ∷ [])
          ∷ (0 ∷ 1 ∷ 3 ∷ []) ∷ [];
      names = (69 ∷ []) ∷ [];
    }

-- ★Model list with pred p under an outer p: accepted
abbrev pub model_list : File
model_list =
    record {
      rows = (11 ∷ 0 ∷ [])
          ∷ (3 ∷ 0 ∷ 0 ∷ [])
          ∷ (1 ∷ 1 ∷ 1 ∷ [])
          ∷ (11 ∷ 0 ∷ [])
          ∷ (3 ∷ 0 ∷ 3 ∷ [])
          ∷ (1 ∷ 1 ∷ 4 ∷ [])
          ∷ (8 ∷ 1 ∷ 1 ∷ 5 ∷ [])
          ∷ (1 ∷ 6 ∷ 6 ∷ [])
          ∷ (0 ∷ 2 ∷ 2 ∷ 7 ∷ []) ∷ [];
      names = (112 ∷ []) ∷ (77 ∷ []) ∷ [];
    }

-- the rows of an argument of type T, numbered from n on; w is the word of its name
abbrev argument : ℕ → ℕ → List (List ℕ)
argument w n = (24 ∷ 0 ∷ []) ∷ (23 ∷ 0 ∷ n ∷ []) ∷ (10 ∷ w ∷ (n + 1) ∷ []) ∷ []

-- ★One pred with two arguments named a: accepted, K = 3, Y = 3
abbrev pub repeated_args : File
repeated_args =
    record {
      rows = argument 2 0
          ++ argument 2 3
          ++ ((11 ∷ 2 ∷ 2 ∷ 5 ∷ []) ∷ (3 ∷ 2 ∷ 6 ∷ []) ∷ (1 ∷ 1 ∷ 7 ∷ []) ∷ (0 ∷ 1 ∷ 8 ∷ []) ∷ []);
      names = (84 ∷ []) ∷ (97 ∷ []) ∷ (112 ∷ []) ∷ [];
    }

-- ★Document 02: one pred with the arguments a, b, a: accepted, K = 4, Y = 4
abbrev pub apart_args : File
apart_args =
    record {
      rows = argument 2 0
          ++ argument 3 3
          ++ argument 2 6
          ++ ((11 ∷ 3 ∷ 2 ∷ 5 ∷ 8 ∷ []) ∷ (3 ∷ 3 ∷ 9 ∷ []) ∷ (1 ∷ 1 ∷ 10 ∷ []) ∷ (0 ∷ 1 ∷ 11 ∷ []) ∷ []);
      names = (84 ∷ []) ∷ (97 ∷ []) ∷ (98 ∷ []) ∷ (112 ∷ []) ∷ [];
    }

-- ★Match case of constructor Foo on (x, x), x new: row 3 at the second
abbrev match_case : File
match_case =
    record {
      rows = (24 ∷ 0 ∷ [])
          ∷ (23 ∷ 0 ∷ 0 ∷ [])
          ∷ (10 ∷ 0 ∷ 1 ∷ [])
          ∷ (24 ∷ 0 ∷ [])
          ∷ (23 ∷ 0 ∷ 3 ∷ [])
          ∷ (10 ∷ 0 ∷ 4 ∷ [])
          ∷ (11 ∷ 2 ∷ 2 ∷ 5 ∷ [])
          ∷ (9 ∷ 1 ∷ 6 ∷ [])
          ∷ (7 ∷ 0 ∷ 1 ∷ 7 ∷ [])
          ∷ (1 ∷ 5 ∷ 8 ∷ [])
          ∷ (13 ∷ 2 ∷ [])
          ∷ (12 ∷ 0 ∷ 10 ∷ [])
          ∷ (13 ∷ 1 ∷ [])
          ∷ (15 ∷ 0 ∷ 12 ∷ [])
          ∷ (13 ∷ 3 ∷ [])
          ∷ (12 ∷ 0 ∷ 14 ∷ [])
          ∷ (13 ∷ 3 ∷ [])
          ∷ (12 ∷ 0 ∷ 16 ∷ [])
          ∷ (22 ∷ 2 ∷ 15 ∷ 17 ∷ [])
          ∷ (14 ∷ 13 ∷ 18 ∷ [])
          ∷ (12 ∷ 2 ∷ 19 ∷ [])
          ∷ (35 ∷ 20 ∷ 0 ∷ [])
          ∷ (13 ∷ 2 ∷ [])
          ∷ (12 ∷ 0 ∷ 22 ∷ [])
          ∷ (24 ∷ 0 ∷ [])
          ∷ (23 ∷ 0 ∷ 24 ∷ [])
          ∷ (33 ∷ 23 ∷ 25 ∷ [])
          ∷ (28 ∷ 3 ∷ 26 ∷ [])
          ∷ (37 ∷ 27 ∷ [])
          ∷ (36 ∷ 0 ∷ 28 ∷ [])
          ∷ (40 ∷ 11 ∷ 1 ∷ 21 ∷ [])
          ∷ (36 ∷ 3 ∷ 30 ∷ [])
          ∷ (6 ∷ 0 ∷ 2 ∷ 29 ∷ 31 ∷ [])
          ∷ (1 ∷ 4 ∷ 32 ∷ [])
          ∷ (0 ∷ 2 ∷ 9 ∷ 33 ∷ []) ∷ [];
      names = (69 ∷ []) ∷ (70 ∷ 111 ∷ 111 ∷ []) ∷ (121 ∷ []) ∷ (120 ∷ []) ∷ [];
    }

-- `then p(dom x)`, x new: no row 1
abbrev dom_term : File
dom_term =
    record {
      rows = (24 ∷ 0 ∷ [])
          ∷ (23 ∷ 0 ∷ 0 ∷ [])
          ∷ (10 ∷ 0 ∷ 1 ∷ [])
          ∷ (11 ∷ 1 ∷ 2 ∷ [])
          ∷ (3 ∷ 1 ∷ 3 ∷ [])
          ∷ (1 ∷ 1 ∷ 4 ∷ [])
          ∷ (27 ∷ 1 ∷ [])
          ∷ (26 ∷ 0 ∷ 6 ∷ [])
          ∷ (13 ∷ 2 ∷ [])
          ∷ (12 ∷ 0 ∷ 8 ∷ [])
          ∷ (18 ∷ 9 ∷ [])
          ∷ (12 ∷ 4 ∷ 10 ∷ [])
          ∷ (22 ∷ 1 ∷ 11 ∷ [])
          ∷ (31 ∷ 7 ∷ 12 ∷ [])
          ∷ (29 ∷ 2 ∷ 13 ∷ [])
          ∷ (38 ∷ 14 ∷ [])
          ∷ (36 ∷ 1 ∷ 15 ∷ [])
          ∷ (6 ∷ 0 ∷ 1 ∷ 16 ∷ [])
          ∷ (1 ∷ 4 ∷ 17 ∷ [])
          ∷ (0 ∷ 2 ∷ 5 ∷ 18 ∷ []) ∷ [];
      names = (84 ∷ []) ∷ (112 ∷ []) ∷ (120 ∷ []) ∷ [];
    }

-- ★A as the 277 bytes of document 01
abbrev pub bytes_a : List ℕ
bytes_a =
    11 ∷ 0 ∷ 0 ∷ 0 ∷ 42 ∷ 0 ∷ 0 ∷ 0 ∷ 1 ∷ 0 ∷ 0 ∷ 0 ∷ 1 ∷ 0 ∷ 0 ∷ 0 ∷ 13 ∷ 0 ∷ 0 ∷ 0 ∷ 12 ∷ 0 ∷ 0 ∷ 0 ∷ 13 ∷ 0 ∷ 0 ∷ 0 ∷ 12 ∷ 0 ∷ 0 ∷ 0 ∷ 30 ∷ 0 ∷ 0 ∷ 0 ∷ 28 ∷ 0 ∷ 0 ∷ 0 ∷ 37 ∷ 0 ∷ 0 ∷ 0 ∷ 36 ∷ 0 ∷ 0 ∷ 0 ∷ 6 ∷ 0 ∷ 0 ∷ 0 ∷ 1 ∷ 0 ∷ 0 ∷ 0 ∷ 0 ∷ 0 ∷ 0 ∷ 0 ∷ 0 ∷ 0 ∷ 0 ∷ 0 ∷ 3 ∷ 0 ∷ 0 ∷ 0 ∷ 7 ∷ 0 ∷ 0 ∷ 0 ∷ 10 ∷ 0 ∷ 0 ∷ 0 ∷ 14 ∷ 0 ∷ 0 ∷ 0 ∷ 18 ∷ 0 ∷ 0 ∷ 0 ∷ 22 ∷ 0 ∷ 0 ∷ 0 ∷ 25 ∷ 0 ∷ 0 ∷ 0 ∷ 29 ∷ 0 ∷ 0 ∷ 0 ∷ 34 ∷ 0 ∷ 0 ∷ 0 ∷ 38 ∷ 0 ∷ 0 ∷ 0 ∷ 0 ∷ 0 ∷ 0 ∷ 0 ∷ 0 ∷ 0 ∷ 0 ∷ 0 ∷ 0 ∷ 0 ∷ 0 ∷ 0 ∷ 0 ∷ 0 ∷ 0 ∷ 0 ∷ 0 ∷ 0 ∷ 0 ∷ 0 ∷ 0 ∷ 0 ∷ 0 ∷ 0 ∷ 0 ∷ 0 ∷ 0 ∷ 0 ∷ 0 ∷ 0 ∷ 0 ∷ 0 ∷ 0 ∷ 0 ∷ 0 ∷ 0 ∷ 0 ∷ 0 ∷ 0 ∷ 0 ∷ 0 ∷ 0 ∷ 0 ∷ 0 ∷ 0 ∷ 0 ∷ 0 ∷ 0 ∷ 0 ∷ 0 ∷ 0 ∷ 0 ∷ 2 ∷ 0 ∷ 0 ∷ 0 ∷ 0 ∷ 0 ∷ 0 ∷ 0 ∷ 0 ∷ 0 ∷ 0 ∷ 0 ∷ 1 ∷ 0 ∷ 0 ∷ 0 ∷ 3 ∷ 0 ∷ 0 ∷ 0 ∷ 0 ∷ 0 ∷ 0 ∷ 0 ∷ 0 ∷ 0 ∷ 0 ∷ 0 ∷ 0 ∷ 0 ∷ 0 ∷ 0 ∷ 4 ∷ 0 ∷ 0 ∷ 0 ∷ 0 ∷ 0 ∷ 0 ∷ 0 ∷ 0 ∷ 0 ∷ 0 ∷ 0 ∷ 5 ∷ 0 ∷ 0 ∷ 0 ∷ 0 ∷ 0 ∷ 0 ∷ 0 ∷ 0 ∷ 0 ∷ 0 ∷ 0 ∷ 0 ∷ 0 ∷ 0 ∷ 0 ∷ 6 ∷ 0 ∷ 0 ∷ 0 ∷ 0 ∷ 0 ∷ 0 ∷ 0 ∷ 0 ∷ 0 ∷ 0 ∷ 0 ∷ 0 ∷ 0 ∷ 0 ∷ 0 ∷ 1 ∷ 0 ∷ 0 ∷ 0 ∷ 7 ∷ 0 ∷ 0 ∷ 0 ∷ 0 ∷ 0 ∷ 0 ∷ 0 ∷ 0 ∷ 0 ∷ 0 ∷ 0 ∷ 4 ∷ 0 ∷ 0 ∷ 0 ∷ 8 ∷ 0 ∷ 0 ∷ 0 ∷ 0 ∷ 0 ∷ 0 ∷ 0 ∷ 0 ∷ 0 ∷ 0 ∷ 0 ∷ 1 ∷ 0 ∷ 0 ∷ 0 ∷ 9 ∷ 0 ∷ 0 ∷ 0 ∷ 1 ∷ 0 ∷ 0 ∷ 0 ∷ 120 ∷ []

-- an image of four sizes alone
abbrev sizes_alone : ℕ → List ℕ
sizes_alone n = bytes_of (n ∷ 0 ∷ 0 ∷ 0 ∷ [])

-- an image, and the lines that its report is to have
pub record Case : Type 0 where
  pub image : List ℕ
  pub lines : List Line

abbrev cases : List Case
cases =
    record { image = bytes_a; lines = resolved 2 1 ∷ var 1 0 ∷ var 3 0 ∷ end_ok ∷ [] }
    ∷ record { image = encode if_equal; lines = resolved 2 1 ∷ var 1 0 ∷ var 3 0 ∷ end_ok ∷ [] }
    ∷ record { image = encode module_alone; lines = resolved 1 0 ∷ end_ok ∷ [] }
    ∷ record { image = encode const_equal; lines = resolved 1 1 ∷ end_ok ∷ [] }
    ∷ record { image = encode shadowed; lines = resolved 3 3 ∷ var 5 4 ∷ var 13 4 ∷ var 15 14 ∷ var 21 14 ∷ var 23 4 ∷ end_ok ∷ [] }
    ∷ record { image = encode defined_then; lines = resolved 3 2 ∷ error 1 5 ∷ var 1 0 ∷ var 5 4 ∷ end_once 1 0 ∷ [] }
    ∷ record { image = encode branches; lines = resolved 3 2 ∷ var 1 0 ∷ var 3 0 ∷ var 9 8 ∷ var 11 8 ∷ end_ok ∷ [] }
    ∷ record { image = encode branches_after; lines = resolved 2 1 ∷ var 1 0 ∷ var 3 0 ∷ var 9 0 ∷ var 11 0 ∷ var 17 0 ∷ var 19 0 ∷ end_ok ∷ [] }
    ∷ record { image = encode enum_twice; lines = declared_twice 0 2 1 ∷ [] }
    ∷ record { image = encode model_list; lines = resolved 2 3 ∷ end_ok ∷ [] }
    ∷ record { image = encode repeated_args; lines = resolved 3 3 ∷ end_ok ∷ [] }
    ∷ record { image = encode apart_args; lines = resolved 4 4 ∷ end_ok ∷ [] }
    ∷ record { image = encode match_case; lines = resolved 3 4 ∷ error 3 17 ∷ var 23 22 ∷ var 11 22 ∷ var 15 14 ∷ var 17 14 ∷ end_ok ∷ [] }
    ∷ record { image = encode dom_term; lines = resolved 2 2 ∷ var 9 8 ∷ end_once 9 8 ∷ [] }
    -- N = 2,048 passes 2, N = 2,049 is 2, 15 bytes are 1
    ∷ record { image = sizes_alone 2048; lines = refusal 3 ∷ [] }
    ∷ record { image = sizes_alone 2049; lines = refusal 2 ∷ [] }
    ∷ record { image = replicate 15 0; lines = refusal 1 ∷ [] }
    ∷ []

-- each report is as expected
abbrev pub AsExpected : List Case → Type 0
AsExpected [] = Unit {0}
AsExpected (c ∷ cs) = (report c.image ≡ c.lines) × AsExpected cs

-- ★A's report by itself
pub case_a : report bytes_a ≡ resolved 2 1 ∷ var 1 0 ∷ var 3 0 ∷ end_ok ∷ []
unfolding word nodes kind_at start_at op_at field name_of operands names bytes last name_end name_start name_bytes kind_of ones numbers ops_from after_blocks block_kids block_counts after field_kids field_shape after_fields fields_kids fields_shape fields_at row_end kids shape kids_to swap swaps ordered grow_all grow class_at tree_to tree_at ◌▸◌ need run is times same test_sizes test_names in_row is_child child_word test_blocks test_field test_fields end_before test_node test_parents first is_var test_var test_tree verdict mark_words mark new_scope new_symbol row_is find_from climb held found find lookup is_kind is_value child_scope own_symbol introduce marked unmarked walk_ident head_role walk_arg walk walk_seq walk_first enter_name and_then resolve_tree enter_all visit visit_all test_table zeroed walked headed way_of way answer_by table_by table_call resolve lefts rights filled written cleared test_rows rows_by rows_call among when same_node asked introduces introduced_row defined_row defined_rows arg_row arg_rows list_rows is_ctor app_rows pattern_rows plain_rows args_of repeated repeated_in repeated_to strict_from strict_rows is_strict error_rows test_errors errors rows_of rows_seq rows_first rows_defined decl_rows decls_rows add opened head_sort rule_places rule_spots rules_of module_rules outer_const place place_seq place_then place_first spots spots_seq spots_back spots_first rules rules_all listed rows_for rule_rows all_rows occurrence_rows times_bound lone_in lone rows_by_rule lone_answer occurrences once bytes_of kinds_of starts_of words_of ends_of joined encode zipped row_lines end_lines body_lines lines_of report recorded recorded_all enter_names mark_all rule_node declared declared_all earliest
case_a = refl

pub starred : AsExpected cases
unfolding word nodes kind_at start_at op_at field name_of operands names bytes last name_end name_start name_bytes kind_of ones numbers ops_from after_blocks block_kids block_counts after field_kids field_shape after_fields fields_kids fields_shape fields_at row_end kids shape kids_to swap swaps ordered grow_all grow class_at tree_to tree_at ◌▸◌ need run is times same test_sizes test_names in_row is_child child_word test_blocks test_field test_fields end_before test_node test_parents first is_var test_var test_tree verdict mark_words mark new_scope new_symbol row_is find_from climb held found find lookup is_kind is_value child_scope own_symbol introduce marked unmarked walk_ident head_role walk_arg walk walk_seq walk_first enter_name and_then resolve_tree enter_all visit visit_all test_table zeroed walked headed way_of way answer_by table_by table_call resolve lefts rights filled written cleared test_rows rows_by rows_call among when same_node asked introduces introduced_row defined_row defined_rows arg_row arg_rows list_rows is_ctor app_rows pattern_rows plain_rows args_of repeated repeated_in repeated_to strict_from strict_rows is_strict error_rows test_errors errors rows_of rows_seq rows_first rows_defined decl_rows decls_rows add opened head_sort rule_places rule_spots rules_of module_rules outer_const place place_seq place_then place_first spots spots_seq spots_back spots_first rules rules_all listed rows_for rule_rows all_rows occurrence_rows times_bound lone_in lone rows_by_rule lone_answer occurrences once bytes_of kinds_of starts_of words_of ends_of joined encode zipped row_lines end_lines body_lines lines_of report recorded recorded_all enter_names mark_all rule_node declared declared_all earliest
starred = (case_a, (refl, (refl, (refl, (refl, (refl, (refl, (refl, (refl, (refl, (refl, (refl, (refl, (refl, (refl, (refl, (refl, tt)))))))))))))))))
