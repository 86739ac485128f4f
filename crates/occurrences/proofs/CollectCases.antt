-- What each case of an enum asks of its collector, and whose rows the node's are: by the answer of the typed read.
use mathlib.Core.Path.{◌≡◌, refl, sym, ap, ◌∙◌}
use mathlib.Core.List.{List, [], ◌∷◌}
use Prim.Native.Nat.{ℕ}
use denote.Enum.Declared.{tag_of}
use types.Run.{OneOf, miss}
use Rattle.ast.specs.Image.{field}
use Rattle.ast.specs.Is.{kind_by, one_term, two_terms}
use Rattle.ast.specs.Kinds.{inner, plain, term, head, name, kind_of}
use Rattle.ast.specs.Named.{ambient_pred_expr_kind, ambient_type_expr_kind, app_head_kind, app_head_member_kind, app_term_kind, branch_stmt_kind, defined_if_atom_kind, defined_then_atom_kind, equal_atom_kind, if_atom_kind, if_stmt_kind, match_stmt_kind, mor_type_expr_kind, pred_atom_kind, pred_expr_kind, stmt_kind, term_kind, term_member_kind, then_atom_kind, then_stmt_kind, type_expr_kind, var_if_atom_kind}
use Rattle.ast.specs.Tree.{ordered}
use Rattle.ast.proofs.Shapes.{term_kinds, head_kinds}
use Rattle.typed.specs.Nodes.{term_at, app_head_at, type_expr_at, pred_expr_at, if_atom_at, then_atom_at, stmt_at}
use Rattle.typed.specs.declared.nodes.Term.{Term}
use Rattle.typed.specs.declared.nodes.Term.TheVariants as in_term
use Rattle.typed.specs.declared.nodes.AppHead.{AppHead}
use Rattle.typed.specs.declared.nodes.AppHead.TheVariants as in_head
use Rattle.typed.specs.declared.nodes.TypeExpr.{TypeExpr}
use Rattle.typed.specs.declared.nodes.TypeExpr.TheVariants as in_type
use Rattle.typed.specs.declared.nodes.PredExpr.{PredExpr}
use Rattle.typed.specs.declared.nodes.PredExpr.TheVariants as in_pred
use Rattle.typed.specs.declared.nodes.IfAtom.{IfAtom}
use Rattle.typed.specs.declared.nodes.IfAtom.TheVariants as in_if
use Rattle.typed.specs.declared.nodes.ThenAtom.{ThenAtom}
use Rattle.typed.specs.declared.nodes.ThenAtom.TheVariants as in_then
use Rattle.typed.specs.declared.nodes.Stmt.{Stmt}
use Rattle.typed.specs.declared.nodes.Stmt.TheVariants as in_stmt
use Rattle.typed.specs.contracts.nodes.Term as Terms
use Rattle.typed.specs.contracts.nodes.TypeExpr as TypeExprs
use Rattle.typed.proofs.Enums.{TermIs, AppHeadIs, TypeExprIs, PredExprIs, IfAtomIs, ThenAtomIs, StmtIs, term_is, app-head-is, type-expr-is, pred-expr-is, if-atom-is, then-atom-is, stmt-is}
use Rattle.table.specs.Table.{Table}
use Rattle.environment.proofs.Asking.{asked-term, asked-head}
use Rattle.occurrences.specs.Promises.{rows_in, Ready}
use Rattle.occurrences.proofs.CollectRows.{bare, threads, leaf-rows, case-none}
use Rattle.occurrences.proofs.CollectSteps.{Sub, Ident, wrapped, ident_of, one-term}

module _ (img : List ℕ) (t : Table) (n c : ℕ) where
  -- a node with no rows
  abbrev pub Bare : Type 0
  Bare = rows_in img t n ≡ []

  abbrev pub TermCase : Term → Type 0
  TermCase (in_term.Ident i) = Ident img t n i.0.0 c
  TermCase in_term.Wildcard = Bare
  TermCase (in_term.App i) = Sub img t (kind_of app_term_kind) n i.0.0 c
  TermCase (in_term.Member i) = Sub img t (kind_of term_member_kind) n i.0.0 c
  TermCase (in_term.Dom i) = Sub img t one_term n i.0.0 c
  TermCase (in_term.Cod i) = Sub img t one_term n i.0.0 c
  TermCase (in_term.Id i) = Sub img t one_term n i.0.0 c
  TermCase (in_term.Comp i) = Sub img t two_terms n i.0.0 c

  abbrev pub HeadCase : AppHead → Type 0
  HeadCase (in_head.Ident i) = Ident img t n i.0.0 c
  HeadCase (in_head.Member i) = Sub img t (kind_of app_head_member_kind) n i.0.0 c
  HeadCase (in_head.Term i) = Sub img t (kind_of term_kind) n i.0.0 c

  abbrev pub TypeCase : TypeExpr → Type 0
  TypeCase (in_type.Ambient i) = Bare
  TypeCase (in_type.Member i) = Sub img t (kind_of term_member_kind) n i.0.0 c
  TypeCase (in_type.Mor i) = Bare

  abbrev pub PredCase : PredExpr → Type 0
  PredCase (in_pred.Ambient i) = Bare
  PredCase (in_pred.Member i) = Sub img t (kind_of term_member_kind) n i.0.0 c

  abbrev pub IfCase : IfAtom → Type 0
  IfCase (in_if.Equal i) = Sub img t two_terms n i.0.0 c
  IfCase (in_if.Defined i) = Sub img t one_term n i.0.0 c
  IfCase (in_if.Pred i) = Sub img t (kind_of pred_atom_kind) n i.0.0 c
  IfCase (in_if.Var i) = Sub img t (kind_of var_if_atom_kind) n i.0.0 c

  abbrev pub ThenCase : ThenAtom → Type 0
  ThenCase (in_then.Equal i) = Sub img t two_terms n i.0.0 c
  ThenCase (in_then.Defined i) = Sub img t (kind_of defined_then_atom_kind) n i.0.0 c
  ThenCase (in_then.Pred i) = Sub img t (kind_of pred_atom_kind) n i.0.0 c

  abbrev pub StmtCase : Stmt → Type 0
  StmtCase (in_stmt.If i) = Sub img t (kind_of if_stmt_kind) n i.0.0 c
  StmtCase (in_stmt.Then i) = Sub img t (kind_of then_stmt_kind) n i.0.0 c
  StmtCase (in_stmt.Branch i) = Sub img t (kind_of branch_stmt_kind) n i.0.0 c
  StmtCase (in_stmt.Match i) = Sub img t (kind_of match_stmt_kind) n i.0.0 c

-- the kinds of the children of a type expression's cases, of a predicate expression's, of atoms' and of a statement's
abbrev type_kinds : List ℕ
type_kinds = ambient_type_expr_kind ∷ term_member_kind ∷ mor_type_expr_kind ∷ []

abbrev pred_kinds : List ℕ
pred_kinds = ambient_pred_expr_kind ∷ term_member_kind ∷ []

abbrev if_kinds : List ℕ
if_kinds = equal_atom_kind ∷ defined_if_atom_kind ∷ pred_atom_kind ∷ var_if_atom_kind ∷ []

abbrev then_kinds : List ℕ
then_kinds = equal_atom_kind ∷ defined_then_atom_kind ∷ pred_atom_kind ∷ []

abbrev stmt_kinds : List ℕ
stmt_kinds = if_stmt_kind ∷ then_stmt_kind ∷ branch_stmt_kind ∷ match_stmt_kind ∷ []

-- the case s of the answer o
module _ (img : List ℕ) (t : Table) where
  pub term-case : {n c : ℕ} {o s : Term} → Ready img t (kind_of term_kind) n c → o ≡ term_at img n → o ≡ s → TermCase img t n c s
  unfolding kind_of bare threads ordered
  term-case {n} {c} {s = s} p q r = go s (term_is img p.is q r)
    where
      go : (s : Term) → TermIs img n s → TermCase img t n c s
      go (in_term.Ident i) h = ident_of img t (inner term) _ refl (λ ts. refl) p h.number h.child (asked-term img i.0.0 p.is h.number h.child)
      go in_term.Wildcard h = case-none img t (inner term) term_kinds p.is refl (λ ts. refl) 1 h refl
      go (in_term.App i) h = wrapped img t (inner term) term_kinds refl (λ ts. refl) p 2 h.number h.child refl refl
      go (in_term.Member i) h = wrapped img t (inner term) term_kinds refl (λ ts. refl) p 3 h.number h.child refl refl
      go (in_term.Dom i) h = wrapped img t (inner term) term_kinds refl (λ ts. refl) p 4 h.number h.child refl refl
      go (in_term.Cod i) h = wrapped img t (inner term) term_kinds refl (λ ts. refl) p 5 h.number h.child refl refl
      go (in_term.Id i) h = wrapped img t (inner term) term_kinds refl (λ ts. refl) p 6 h.number h.child refl refl
      go (in_term.Comp i) h = wrapped img t (inner term) term_kinds refl (λ ts. refl) p 7 h.number h.child refl refl

  -- Dom, Cod or Id: the term below it
  pub term-one : {n c a : ℕ} {o : Term} → Ready img t (kind_of term_kind) n c → o ≡ term_at img n → OneOf (4 ∷ 5 ∷ 6 ∷ []) (tag_of Terms.the_type o) → a ≡ field img (field img n 1) 0
      → Sub img t (kind_of term_kind) n a c
  term-one {n} {c} {a} {o} p q k e = go o refl k
    where
      below : (d : ℕ) → d ≡ field img n 1 → Sub img t one_term n d c → Sub img t (kind_of term_kind) n a c
      below d h s = one-term img t s (e ∙ ap (λ (x : ℕ). field img x 0) (sym h))

      go : (s : Term) → o ≡ s → OneOf (4 ∷ 5 ∷ 6 ∷ []) (tag_of Terms.the_type s) → Sub img t (kind_of term_kind) n a c
      go (in_term.Ident i) r k = absurd (miss (4 ∷ 5 ∷ 6 ∷ []) 0 tt k)
      go in_term.Wildcard r k = absurd (miss (4 ∷ 5 ∷ 6 ∷ []) 1 tt k)
      go (in_term.App i) r k = absurd (miss (4 ∷ 5 ∷ 6 ∷ []) 2 tt k)
      go (in_term.Member i) r k = absurd (miss (4 ∷ 5 ∷ 6 ∷ []) 3 tt k)
      go (in_term.Dom i) r k = below i.0.0 (term_is img p.is q r).child (term-case p q r)
      go (in_term.Cod i) r k = below i.0.0 (term_is img p.is q r).child (term-case p q r)
      go (in_term.Id i) r k = below i.0.0 (term_is img p.is q r).child (term-case p q r)
      go (in_term.Comp i) r k = absurd (miss (4 ∷ 5 ∷ 6 ∷ []) 7 tt k)

  pub head-case : {n c : ℕ} {o s : AppHead} → Ready img t (kind_of app_head_kind) n c → o ≡ app_head_at img n → o ≡ s → HeadCase img t n c s
  unfolding kind_of bare threads ordered
  head-case {n} {c} {s = s} p q r = go s (app-head-is img p.is q r)
    where
      go : (s : AppHead) → AppHeadIs img n s → HeadCase img t n c s
      go (in_head.Ident i) h = ident_of img t (inner head) _ refl (λ ts. refl) p h.number h.child (asked-head img i.0.0 p.is h.number h.child)
      go (in_head.Member i) h = wrapped img t (inner head) head_kinds refl (λ ts. refl) p 1 h.number h.child refl refl
      go (in_head.Term i) h = wrapped img t (inner head) head_kinds refl (λ ts. refl) p 2 h.number h.child refl refl

  leaf : {n d c : ℕ} → Sub img t (kind_by (inner plain) (name ∷ [])) n d c → Bare img t n c
  leaf s = s.whole ∙ leaf-rows img t s.ready.is

  pub type-case : {n c : ℕ} {o s : TypeExpr} → Ready img t (kind_of type_expr_kind) n c → o ≡ type_expr_at img n → o ≡ s → TypeCase img t n c s
  unfolding kind_of bare threads ordered
  type-case {n} {c} {s = s} p q r = go s (type-expr-is img p.is q r)
    where
      go : (s : TypeExpr) → TypeExprIs img n s → TypeCase img t n c s
      go (in_type.Ambient i) h = leaf (wrapped img t (inner plain) type_kinds refl (λ ts. refl) p 0 h.number h.child refl refl)
      go (in_type.Member i) h = wrapped img t (inner plain) type_kinds refl (λ ts. refl) p 1 h.number h.child refl refl
      go (in_type.Mor i) h = leaf (wrapped img t (inner plain) type_kinds refl (λ ts. refl) p 2 h.number h.child refl refl)

  -- Ambient or Mor
  pub type-none : {n c : ℕ} {o : TypeExpr} → Ready img t (kind_of type_expr_kind) n c → o ≡ type_expr_at img n → OneOf (0 ∷ 2 ∷ []) (tag_of TypeExprs.the_type o) → Bare img t n c
  type-none {n} {c} {o} p q k = go o refl k
    where
      go : (s : TypeExpr) → o ≡ s → OneOf (0 ∷ 2 ∷ []) (tag_of TypeExprs.the_type s) → Bare img t n c
      go (in_type.Ambient i) r k = type-case p q r
      go (in_type.Member i) r k = absurd (miss (0 ∷ 2 ∷ []) 1 tt k)
      go (in_type.Mor i) r k = type-case p q r

  pub pred-case : {n c : ℕ} {o s : PredExpr} → Ready img t (kind_of pred_expr_kind) n c → o ≡ pred_expr_at img n → o ≡ s → PredCase img t n c s
  unfolding kind_of bare threads ordered
  pred-case {n} {c} {s = s} p q r = go s (pred-expr-is img p.is q r)
    where
      go : (s : PredExpr) → PredExprIs img n s → PredCase img t n c s
      go (in_pred.Ambient i) h = leaf (wrapped img t (inner plain) pred_kinds refl (λ ts. refl) p 0 h.number h.child refl refl)
      go (in_pred.Member i) h = wrapped img t (inner plain) pred_kinds refl (λ ts. refl) p 1 h.number h.child refl refl

  pub if-case : {n c : ℕ} {o s : IfAtom} → Ready img t (kind_of if_atom_kind) n c → o ≡ if_atom_at img n → o ≡ s → IfCase img t n c s
  unfolding kind_of bare threads ordered
  if-case {n} {c} {s = s} p q r = go s (if-atom-is img p.is q r)
    where
      go : (s : IfAtom) → IfAtomIs img n s → IfCase img t n c s
      go (in_if.Equal i) h = wrapped img t (inner plain) if_kinds refl (λ ts. refl) p 0 h.number h.child refl refl
      go (in_if.Defined i) h = wrapped img t (inner plain) if_kinds refl (λ ts. refl) p 1 h.number h.child refl refl
      go (in_if.Pred i) h = wrapped img t (inner plain) if_kinds refl (λ ts. refl) p 2 h.number h.child refl refl
      go (in_if.Var i) h = wrapped img t (inner plain) if_kinds refl (λ ts. refl) p 3 h.number h.child refl refl

  pub then-case : {n c : ℕ} {o s : ThenAtom} → Ready img t (kind_of then_atom_kind) n c → o ≡ then_atom_at img n → o ≡ s → ThenCase img t n c s
  unfolding kind_of bare threads ordered
  then-case {n} {c} {s = s} p q r = go s (then-atom-is img p.is q r)
    where
      go : (s : ThenAtom) → ThenAtomIs img n s → ThenCase img t n c s
      go (in_then.Equal i) h = wrapped img t (inner plain) then_kinds refl (λ ts. refl) p 0 h.number h.child refl refl
      go (in_then.Defined i) h = wrapped img t (inner plain) then_kinds refl (λ ts. refl) p 1 h.number h.child refl refl
      go (in_then.Pred i) h = wrapped img t (inner plain) then_kinds refl (λ ts. refl) p 2 h.number h.child refl refl

  pub stmt-case : {n c : ℕ} {o s : Stmt} → Ready img t (kind_of stmt_kind) n c → o ≡ stmt_at img n → o ≡ s → StmtCase img t n c s
  unfolding kind_of bare threads ordered
  stmt-case {n} {c} {s = s} p q r = go s (stmt-is img p.is q r)
    where
      go : (s : Stmt) → StmtIs img n s → StmtCase img t n c s
      go (in_stmt.If i) h = wrapped img t (inner plain) stmt_kinds refl (λ ts. refl) p 0 h.number h.child refl refl
      go (in_stmt.Then i) h = wrapped img t (inner plain) stmt_kinds refl (λ ts. refl) p 1 h.number h.child refl refl
      go (in_stmt.Branch i) h = wrapped img t (inner plain) stmt_kinds refl (λ ts. refl) p 2 h.number h.child refl refl
      go (in_stmt.Match i) h = wrapped img t (inner plain) stmt_kinds refl (λ ts. refl) p 3 h.number h.child refl refl
