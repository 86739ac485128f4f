-- What the typed reads of rows promise of an answer that is an enum: its case by document 01's number, in declared order from 0, and
-- the child. A number that is no case's, which is refused (8), is taken for the last.
use Rattle.std.specs.Prelude.{List, [], ◌∷◌, ℕ, suc, get_or, Option, Some, None}
use Rattle.ast.specs.Image.{field}
use Rattle.ast.specs.declared.NodeId.{NodeId}
use Rattle.typed.specs.declared.nodes.TermId.{TermId}
use Rattle.typed.specs.declared.nodes.Decl.{Decl}
use Rattle.typed.specs.declared.nodes.Decl.TheVariants as decl
use Rattle.typed.specs.declared.nodes.Term.{Term}
use Rattle.typed.specs.declared.nodes.Term.TheVariants as term
use Rattle.typed.specs.declared.nodes.AppHead.{AppHead}
use Rattle.typed.specs.declared.nodes.AppHead.TheVariants as app_head
use Rattle.typed.specs.declared.nodes.TypeExpr.{TypeExpr}
use Rattle.typed.specs.declared.nodes.TypeExpr.TheVariants as type_expr
use Rattle.typed.specs.declared.nodes.PredExpr.{PredExpr}
use Rattle.typed.specs.declared.nodes.PredExpr.TheVariants as pred_expr
use Rattle.typed.specs.declared.nodes.IfAtom.{IfAtom}
use Rattle.typed.specs.declared.nodes.IfAtom.TheVariants as if_atom
use Rattle.typed.specs.declared.nodes.ThenAtom.{ThenAtom}
use Rattle.typed.specs.declared.nodes.ThenAtom.TheVariants as then_atom
use Rattle.typed.specs.declared.nodes.Stmt.{Stmt}
use Rattle.typed.specs.declared.nodes.Stmt.TheVariants as stmt

-- the word of an option: 0, or the number plus 1
abbrev pub name_word : Option ℕ → ℕ
name_word None = 0
name_word (Some x) = suc x

abbrev pub term_word : Option TermId → ℕ
term_word None = 0
term_word (Some t) = suc t.0.0

-- Decl: all cases but the last, and the case by its number
abbrev pub decl_cases : NodeId → List Decl
decl_cases i = decl.Type (record { 0 = i }) ∷ decl.Pred (record { 0 = i }) ∷ decl.Func (record { 0 = i }) ∷ decl.Const (record { 0 = i }) ∷ decl.Rule (record { 0 = i }) ∷ decl.Enum (record { 0 = i }) ∷ []

unfoldable pub decl_of : ℕ → NodeId → Decl
decl_of case i = get_or (decl_cases i) case (decl.Model (record { 0 = i }))

abbrev pub decl_at : List ℕ → ℕ → Decl
decl_at img n = decl_of (field img n 0) (record { 0 = field img n 1 })

-- Term: all cases but the last, and the case by its number
abbrev pub term_cases : NodeId → List Term
term_cases i = term.Ident (record { 0 = i }) ∷ term.Wildcard ∷ term.App (record { 0 = i }) ∷ term.Member (record { 0 = i }) ∷ term.Dom (record { 0 = i }) ∷ term.Cod (record { 0 = i }) ∷ term.Id (record { 0 = i }) ∷ []

unfoldable pub term_of : ℕ → NodeId → Term
term_of case i = get_or (term_cases i) case (term.Comp (record { 0 = i }))

abbrev pub term_at : List ℕ → ℕ → Term
term_at img n = term_of (field img n 0) (record { 0 = field img n 1 })

-- AppHead: all cases but the last, and the case by its number
abbrev pub app_head_cases : NodeId → List AppHead
app_head_cases i = app_head.Ident (record { 0 = i }) ∷ app_head.Member (record { 0 = i }) ∷ []

unfoldable pub app_head_of : ℕ → NodeId → AppHead
app_head_of case i = get_or (app_head_cases i) case (app_head.Term (record { 0 = i }))

abbrev pub app_head_at : List ℕ → ℕ → AppHead
app_head_at img n = app_head_of (field img n 0) (record { 0 = field img n 1 })

-- TypeExpr: all cases but the last, and the case by its number
abbrev pub type_expr_cases : NodeId → List TypeExpr
type_expr_cases i = type_expr.Ambient (record { 0 = i }) ∷ type_expr.Member (record { 0 = i }) ∷ []

unfoldable pub type_expr_of : ℕ → NodeId → TypeExpr
type_expr_of case i = get_or (type_expr_cases i) case (type_expr.Mor (record { 0 = i }))

abbrev pub type_expr_at : List ℕ → ℕ → TypeExpr
type_expr_at img n = type_expr_of (field img n 0) (record { 0 = field img n 1 })

-- PredExpr: all cases but the last, and the case by its number
abbrev pub pred_expr_cases : NodeId → List PredExpr
pred_expr_cases i = pred_expr.Ambient (record { 0 = i }) ∷ []

unfoldable pub pred_expr_of : ℕ → NodeId → PredExpr
pred_expr_of case i = get_or (pred_expr_cases i) case (pred_expr.Member (record { 0 = i }))

abbrev pub pred_expr_at : List ℕ → ℕ → PredExpr
pred_expr_at img n = pred_expr_of (field img n 0) (record { 0 = field img n 1 })

-- IfAtom: all cases but the last, and the case by its number
abbrev pub if_atom_cases : NodeId → List IfAtom
if_atom_cases i = if_atom.Equal (record { 0 = i }) ∷ if_atom.Defined (record { 0 = i }) ∷ if_atom.Pred (record { 0 = i }) ∷ []

unfoldable pub if_atom_of : ℕ → NodeId → IfAtom
if_atom_of case i = get_or (if_atom_cases i) case (if_atom.Var (record { 0 = i }))

abbrev pub if_atom_at : List ℕ → ℕ → IfAtom
if_atom_at img n = if_atom_of (field img n 0) (record { 0 = field img n 1 })

-- ThenAtom: all cases but the last, and the case by its number
abbrev pub then_atom_cases : NodeId → List ThenAtom
then_atom_cases i = then_atom.Equal (record { 0 = i }) ∷ then_atom.Defined (record { 0 = i }) ∷ []

unfoldable pub then_atom_of : ℕ → NodeId → ThenAtom
then_atom_of case i = get_or (then_atom_cases i) case (then_atom.Pred (record { 0 = i }))

abbrev pub then_atom_at : List ℕ → ℕ → ThenAtom
then_atom_at img n = then_atom_of (field img n 0) (record { 0 = field img n 1 })

-- Stmt: all cases but the last, and the case by its number
abbrev pub stmt_cases : NodeId → List Stmt
stmt_cases i = stmt.If (record { 0 = i }) ∷ stmt.Then (record { 0 = i }) ∷ stmt.Branch (record { 0 = i }) ∷ []

unfoldable pub stmt_of : ℕ → NodeId → Stmt
stmt_of case i = get_or (stmt_cases i) case (stmt.Match (record { 0 = i }))

abbrev pub stmt_at : List ℕ → ℕ → Stmt
stmt_at img n = stmt_of (field img n 0) (record { 0 = field img n 1 })
