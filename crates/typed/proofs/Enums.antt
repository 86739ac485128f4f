-- The case that an enum's read hands back, by the row: its number and its child, for a node of an accepted image.
use mathlib.Core.Path.{◌≡◌, refl, sym, subst, ◌∙◌}
use mathlib.Core.List.{List, [], ◌∷◌}
use Prim.Native.Nat.{ℕ, zero, suc, ◌<◌}
use native.Mathlib.Omega.{arith}
use denote.Enum.Declared.{tag_of}
use Rattle.ast.specs.Image.{field}
use Rattle.ast.specs.Is.{Is}
use Rattle.ast.specs.Kinds.{no_child, kind_of}
use Rattle.ast.specs.Named.{decl_kind, term_kind, app_head_kind, type_expr_kind, pred_expr_kind, if_atom_kind, then_atom_kind, stmt_kind}
use Rattle.ast.specs.declared.NodeId.{NodeId}
use Rattle.ast.proofs.Shapes.{case-last}
use Rattle.typed.specs.Nodes.{decl_of, decl_at, term_of, term_at, app_head_of, app_head_at, type_expr_of, type_expr_at, pred_expr_of, pred_expr_at, if_atom_of, if_atom_at, then_atom_of, then_atom_at, stmt_of, stmt_at}
use Rattle.typed.specs.declared.nodes.Decl.{Decl}
use Rattle.typed.specs.declared.nodes.Decl.TheVariants as decl
use Rattle.typed.specs.declared.nodes.IdentTermId.{IdentTermId}
use Rattle.typed.specs.declared.nodes.Term.{Term}
use Rattle.typed.specs.declared.nodes.Term.TheVariants as term
use Rattle.typed.specs.declared.nodes.AppHead.{AppHead}
use Rattle.typed.specs.declared.nodes.AppHead.TheVariants as app_head
use Rattle.typed.specs.declared.nodes.TypeExpr.{TypeExpr}
use Rattle.typed.specs.declared.nodes.TypeExpr.TheVariants as type_expr
use Rattle.typed.specs.declared.nodes.PredExpr.{PredExpr}
use Rattle.typed.specs.declared.nodes.PredExpr.TheVariants as pred_expr
use Rattle.typed.specs.declared.nodes.IfAtom.{IfAtom}
use Rattle.typed.specs.declared.nodes.IfAtom.TheVariants as if_atom
use Rattle.typed.specs.declared.nodes.ThenAtom.{ThenAtom}
use Rattle.typed.specs.declared.nodes.ThenAtom.TheVariants as then_atom
use Rattle.typed.specs.declared.nodes.Stmt.{Stmt}
use Rattle.typed.specs.declared.nodes.Stmt.TheVariants as stmt
use Rattle.typed.specs.contracts.nodes.Term as TermCode

module _ (img : List ℕ) (n : ℕ) where
  -- the row's case number is k, its child i
  pub record Cased (k : ℕ) (i : NodeId) : Type 0 where
    pub number : k ≡ field img n 0
    pub child : i.0 ≡ field img n 1

  abbrev pub DeclIs : Decl → Type 0
  DeclIs (decl.Type i) = Cased 0 i.0
  DeclIs (decl.Pred i) = Cased 1 i.0
  DeclIs (decl.Func i) = Cased 2 i.0
  DeclIs (decl.Const i) = Cased 3 i.0
  DeclIs (decl.Rule i) = Cased 4 i.0
  DeclIs (decl.Enum i) = Cased 5 i.0
  DeclIs (decl.Model i) = Cased 6 i.0

  abbrev pub TermIs : Term → Type 0
  TermIs (term.Ident i) = Cased 0 i.0
  TermIs term.Wildcard = 1 ≡ field img n 0
  TermIs (term.App i) = Cased 2 i.0
  TermIs (term.Member i) = Cased 3 i.0
  TermIs (term.Dom i) = Cased 4 i.0
  TermIs (term.Cod i) = Cased 5 i.0
  TermIs (term.Id i) = Cased 6 i.0
  TermIs (term.Comp i) = Cased 7 i.0

  abbrev pub AppHeadIs : AppHead → Type 0
  AppHeadIs (app_head.Ident i) = Cased 0 i.0
  AppHeadIs (app_head.Member i) = Cased 1 i.0
  AppHeadIs (app_head.Term i) = Cased 2 i.0

  abbrev pub TypeExprIs : TypeExpr → Type 0
  TypeExprIs (type_expr.Ambient i) = Cased 0 i.0
  TypeExprIs (type_expr.Member i) = Cased 1 i.0
  TypeExprIs (type_expr.Mor i) = Cased 2 i.0

  abbrev pub PredExprIs : PredExpr → Type 0
  PredExprIs (pred_expr.Ambient i) = Cased 0 i.0
  PredExprIs (pred_expr.Member i) = Cased 1 i.0

  abbrev pub IfAtomIs : IfAtom → Type 0
  IfAtomIs (if_atom.Equal i) = Cased 0 i.0
  IfAtomIs (if_atom.Defined i) = Cased 1 i.0
  IfAtomIs (if_atom.Pred i) = Cased 2 i.0
  IfAtomIs (if_atom.Var i) = Cased 3 i.0

  abbrev pub ThenAtomIs : ThenAtom → Type 0
  ThenAtomIs (then_atom.Equal i) = Cased 0 i.0
  ThenAtomIs (then_atom.Defined i) = Cased 1 i.0
  ThenAtomIs (then_atom.Pred i) = Cased 2 i.0

  abbrev pub StmtIs : Stmt → Type 0
  StmtIs (stmt.If i) = Cased 0 i.0
  StmtIs (stmt.Then i) = Cased 1 i.0
  StmtIs (stmt.Branch i) = Cased 2 i.0
  StmtIs (stmt.Match i) = Cased 3 i.0

-- the case s of the answer t
module _ (img : List ℕ) where
  pub decl-is : {n : ℕ} {t s : Decl} → Is img (kind_of decl_kind) n → t ≡ decl_at img n → t ≡ s → DeclIs img n s
  unfolding decl_of kind_of
  decl-is {n} is q r = subst (DeclIs img n) (sym q ∙ r) (go (field img n 0) refl (case-last img _ (2 ∷ 3 ∷ 4 ∷ 5 ∷ 6 ∷ 7 ∷ 8 ∷ []) is))
    where
      go : (c : ℕ) → c ≡ field img n 0 → c < 7 → DeclIs img n (decl_of c (record { 0 = field img n 1 }))
      go zero h l = record { number = h; child = refl }
      go (suc zero) h l = record { number = h; child = refl }
      go (suc (suc zero)) h l = record { number = h; child = refl }
      go (suc (suc (suc zero))) h l = record { number = h; child = refl }
      go (suc (suc (suc (suc zero)))) h l = record { number = h; child = refl }
      go (suc (suc (suc (suc (suc zero))))) h l = record { number = h; child = refl }
      go (suc (suc (suc (suc (suc (suc zero)))))) h l = record { number = h; child = refl }
      go (suc (suc (suc (suc (suc (suc (suc c))))))) h l = absurd (omega arith)

  pub term_is : {n : ℕ} {t s : Term} → Is img (kind_of term_kind) n → t ≡ term_at img n → t ≡ s → TermIs img n s
  unfolding term_of kind_of
  term_is {n} is q r = subst (TermIs img n) (sym q ∙ r) (go (field img n 0) refl (case-last img _ (13 ∷ no_child ∷ 14 ∷ 17 ∷ 18 ∷ 19 ∷ 20 ∷ 21 ∷ []) is))
    where
      go : (c : ℕ) → c ≡ field img n 0 → c < 8 → TermIs img n (term_of c (record { 0 = field img n 1 }))
      go zero h l = record { number = h; child = refl }
      go (suc zero) h l = h
      go (suc (suc zero)) h l = record { number = h; child = refl }
      go (suc (suc (suc zero))) h l = record { number = h; child = refl }
      go (suc (suc (suc (suc zero)))) h l = record { number = h; child = refl }
      go (suc (suc (suc (suc (suc zero))))) h l = record { number = h; child = refl }
      go (suc (suc (suc (suc (suc (suc zero)))))) h l = record { number = h; child = refl }
      go (suc (suc (suc (suc (suc (suc (suc zero))))))) h l = record { number = h; child = refl }
      go (suc (suc (suc (suc (suc (suc (suc (suc c)))))))) h l = absurd (omega arith)

  pub app-head-is : {n : ℕ} {t s : AppHead} → Is img (kind_of app_head_kind) n → t ≡ app_head_at img n → t ≡ s → AppHeadIs img n s
  unfolding app_head_of kind_of
  app-head-is {n} is q r = subst (AppHeadIs img n) (sym q ∙ r) (go (field img n 0) refl (case-last img _ (13 ∷ 16 ∷ 12 ∷ []) is))
    where
      go : (c : ℕ) → c ≡ field img n 0 → c < 3 → AppHeadIs img n (app_head_of c (record { 0 = field img n 1 }))
      go zero h l = record { number = h; child = refl }
      go (suc zero) h l = record { number = h; child = refl }
      go (suc (suc zero)) h l = record { number = h; child = refl }
      go (suc (suc (suc c))) h l = absurd (omega arith)

  pub type-expr-is : {n : ℕ} {t s : TypeExpr} → Is img (kind_of type_expr_kind) n → t ≡ type_expr_at img n → t ≡ s → TypeExprIs img n s
  unfolding type_expr_of kind_of
  type-expr-is {n} is q r = subst (TypeExprIs img n) (sym q ∙ r) (go (field img n 0) refl (case-last img _ (24 ∷ 17 ∷ 25 ∷ []) is))
    where
      go : (c : ℕ) → c ≡ field img n 0 → c < 3 → TypeExprIs img n (type_expr_of c (record { 0 = field img n 1 }))
      go zero h l = record { number = h; child = refl }
      go (suc zero) h l = record { number = h; child = refl }
      go (suc (suc zero)) h l = record { number = h; child = refl }
      go (suc (suc (suc c))) h l = absurd (omega arith)

  pub pred-expr-is : {n : ℕ} {t s : PredExpr} → Is img (kind_of pred_expr_kind) n → t ≡ pred_expr_at img n → t ≡ s → PredExprIs img n s
  unfolding pred_expr_of kind_of
  pred-expr-is {n} is q r = subst (PredExprIs img n) (sym q ∙ r) (go (field img n 0) refl (case-last img _ (27 ∷ 17 ∷ []) is))
    where
      go : (c : ℕ) → c ≡ field img n 0 → c < 2 → PredExprIs img n (pred_expr_of c (record { 0 = field img n 1 }))
      go zero h l = record { number = h; child = refl }
      go (suc zero) h l = record { number = h; child = refl }
      go (suc (suc c)) h l = absurd (omega arith)

  pub if-atom-is : {n : ℕ} {t s : IfAtom} → Is img (kind_of if_atom_kind) n → t ≡ if_atom_at img n → t ≡ s → IfAtomIs img n s
  unfolding if_atom_of kind_of
  if-atom-is {n} is q r = subst (IfAtomIs img n) (sym q ∙ r) (go (field img n 0) refl (case-last img _ (30 ∷ 32 ∷ 31 ∷ 33 ∷ []) is))
    where
      go : (c : ℕ) → c ≡ field img n 0 → c < 4 → IfAtomIs img n (if_atom_of c (record { 0 = field img n 1 }))
      go zero h l = record { number = h; child = refl }
      go (suc zero) h l = record { number = h; child = refl }
      go (suc (suc zero)) h l = record { number = h; child = refl }
      go (suc (suc (suc zero))) h l = record { number = h; child = refl }
      go (suc (suc (suc (suc c)))) h l = absurd (omega arith)

  pub then-atom-is : {n : ℕ} {t s : ThenAtom} → Is img (kind_of then_atom_kind) n → t ≡ then_atom_at img n → t ≡ s → ThenAtomIs img n s
  unfolding then_atom_of kind_of
  then-atom-is {n} is q r = subst (ThenAtomIs img n) (sym q ∙ r) (go (field img n 0) refl (case-last img _ (30 ∷ 34 ∷ 31 ∷ []) is))
    where
      go : (c : ℕ) → c ≡ field img n 0 → c < 3 → ThenAtomIs img n (then_atom_of c (record { 0 = field img n 1 }))
      go zero h l = record { number = h; child = refl }
      go (suc zero) h l = record { number = h; child = refl }
      go (suc (suc zero)) h l = record { number = h; child = refl }
      go (suc (suc (suc c))) h l = absurd (omega arith)

  pub stmt-is : {n : ℕ} {t s : Stmt} → Is img (kind_of stmt_kind) n → t ≡ stmt_at img n → t ≡ s → StmtIs img n s
  unfolding stmt_of kind_of
  stmt-is {n} is q r = subst (StmtIs img n) (sym q ∙ r) (go (field img n 0) refl (case-last img _ (37 ∷ 38 ∷ 39 ∷ 40 ∷ []) is))
    where
      go : (c : ℕ) → c ≡ field img n 0 → c < 4 → StmtIs img n (stmt_of c (record { 0 = field img n 1 }))
      go zero h l = record { number = h; child = refl }
      go (suc zero) h l = record { number = h; child = refl }
      go (suc (suc zero)) h l = record { number = h; child = refl }
      go (suc (suc (suc zero))) h l = record { number = h; child = refl }
      go (suc (suc (suc (suc c)))) h l = absurd (omega arith)

  -- the place of the variant is the row's number
  pub term-number : {n : ℕ} {t : Term} → Is img (kind_of term_kind) n → t ≡ term_at img n → tag_of TermCode.the_type t ≡ field img n 0
  term-number {n} {t} is q = go t q
    where
      go : (s : Term) → s ≡ term_at img n → tag_of TermCode.the_type s ≡ field img n 0
      go (term.Ident i) e = (term_is is e refl).number
      go term.Wildcard e = term_is is e refl
      go (term.App i) e = (term_is is e refl).number
      go (term.Member i) e = (term_is is e refl).number
      go (term.Dom i) e = (term_is is e refl).number
      go (term.Cod i) e = (term_is is e refl).number
      go (term.Id i) e = (term_is is e refl).number
      go (term.Comp i) e = (term_is is e refl).number

  -- a term that is no ident
  pub no-ident : {n : ℕ} {t : Term} → Is img (kind_of term_kind) n → t ≡ term_at img n → ((i : IdentTermId) → t ≡ term.Ident i → ⊥) → 0 ≡ field img n 0 → ⊥
  no-ident {t = t} is q h z = go t refl (term-number is q ∙ sym z)
    where
      go : (s : Term) → t ≡ s → tag_of TermCode.the_type s ≡ 0 → ⊥
      go (term.Ident i) e k = h i e
      go term.Wildcard e k = absurd (omega arith)
      go (term.App i) e k = absurd (omega arith)
      go (term.Member i) e k = absurd (omega arith)
      go (term.Dom i) e k = absurd (omega arith)
      go (term.Cod i) e k = absurd (omega arith)
      go (term.Id i) e k = absurd (omega arith)
      go (term.Comp i) e k = absurd (omega arith)
