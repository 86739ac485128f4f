-- The kinds' numbers under the names of ast.rs, in document 01's order.
use Rattle.std.specs.Prelude.{ℕ}

abbrev pub module_kind : ℕ
module_kind = 0

abbrev pub decl_kind : ℕ
decl_kind = 1

abbrev pub type_decl_kind : ℕ
type_decl_kind = 2

abbrev pub pred_decl_kind : ℕ
pred_decl_kind = 3

abbrev pub func_decl_kind : ℕ
func_decl_kind = 4

abbrev pub const_decl_kind : ℕ
const_decl_kind = 5

abbrev pub rule_decl_kind : ℕ
rule_decl_kind = 6

abbrev pub enum_decl_kind : ℕ
enum_decl_kind = 7

abbrev pub model_decl_kind : ℕ
model_decl_kind = 8

abbrev pub ctor_decl_kind : ℕ
ctor_decl_kind = 9

abbrev pub arg_decl_kind : ℕ
arg_decl_kind = 10

abbrev pub arg_decl_list_kind : ℕ
arg_decl_list_kind = 11

abbrev pub term_kind : ℕ
term_kind = 12

abbrev pub ident_term_kind : ℕ
ident_term_kind = 13

abbrev pub app_term_kind : ℕ
app_term_kind = 14

abbrev pub app_head_kind : ℕ
app_head_kind = 15

abbrev pub app_head_member_kind : ℕ
app_head_member_kind = 16

abbrev pub term_member_kind : ℕ
term_member_kind = 17

abbrev pub dom_term_kind : ℕ
dom_term_kind = 18

abbrev pub cod_term_kind : ℕ
cod_term_kind = 19

abbrev pub id_term_kind : ℕ
id_term_kind = 20

abbrev pub comp_term_kind : ℕ
comp_term_kind = 21

abbrev pub term_list_kind : ℕ
term_list_kind = 22

abbrev pub type_expr_kind : ℕ
type_expr_kind = 23

abbrev pub ambient_type_expr_kind : ℕ
ambient_type_expr_kind = 24

abbrev pub mor_type_expr_kind : ℕ
mor_type_expr_kind = 25

abbrev pub pred_expr_kind : ℕ
pred_expr_kind = 26

abbrev pub ambient_pred_expr_kind : ℕ
ambient_pred_expr_kind = 27

abbrev pub if_atom_kind : ℕ
if_atom_kind = 28

abbrev pub then_atom_kind : ℕ
then_atom_kind = 29

abbrev pub equal_atom_kind : ℕ
equal_atom_kind = 30

abbrev pub pred_atom_kind : ℕ
pred_atom_kind = 31

abbrev pub defined_if_atom_kind : ℕ
defined_if_atom_kind = 32

abbrev pub var_if_atom_kind : ℕ
var_if_atom_kind = 33

abbrev pub defined_then_atom_kind : ℕ
defined_then_atom_kind = 34

abbrev pub match_case_kind : ℕ
match_case_kind = 35

abbrev pub stmt_kind : ℕ
stmt_kind = 36

abbrev pub if_stmt_kind : ℕ
if_stmt_kind = 37

abbrev pub then_stmt_kind : ℕ
then_stmt_kind = 38

abbrev pub branch_stmt_kind : ℕ
branch_stmt_kind = 39

abbrev pub match_stmt_kind : ℕ
match_stmt_kind = 40
