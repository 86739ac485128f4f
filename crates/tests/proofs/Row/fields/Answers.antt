use mathlib.Core.Logic.{inl, inr}
use mathlib.Core.Path.{refl}
use mathlib.Core.List.{[], ◌∷◌}
use native.Mathlib.Omega.{arith}
use Rattle.ast.specs.KindNumbers.{kind_number}
use Rattle.ast.specs.Kinds.{child, kind_of, kinds}
use Rattle.tests.specs.Grid.{places, places_of, admitted}
use Rattle.tests.proofs.Entries.{every, childed, wraps}
use Rattle.tests.proofs.Steps.{handed}
use Rattle.tests.proofs.Fields.{fields-out, fields-in, fields-last}
use Rattle.tests.proofs.Row.fields.Goals as goal

pub returns-in-TypeDecl : goal.returns-in-TypeDecl
unfolding kind_of kinds places places_of admitted
returns-in-TypeDecl c = fields-last _ _ _ _ _ (elim c.in-TypeDecl.is [ inl e ↦ rw e refl | inr (inl e) ↦ rw e refl | inr (inr (inl e)) ↦ rw e refl | inr (inr (inr (inl e))) ↦ rw e refl | inr (inr (inr (inr e))) ↦ rw e refl ]) _ (c.name.ensures _)

pub returns-in_err-name-in-PredDecl : goal.returns-in_err-name-in-PredDecl
unfolding kind_of kinds places places_of admitted
returns-in_err-name-in-PredDecl c = handed _ _ _ c.from_residual.ensures.1 (fields-out _ _ _ _ _ (elim c.in-PredDecl.is [ inl e ↦ rw e refl | inr (inl e) ↦ rw e refl | inr (inr e) ↦ rw e refl ]) _ (c.in_err-name-in-PredDecl.ensures _))

pub returns-in_ok-name-in-PredDecl : goal.returns-in_ok-name-in-PredDecl
unfolding kind_of kinds places places_of admitted
returns-in_ok-name-in-PredDecl c = fields-in _ _ _ _ _ _ (elim c.in-PredDecl.is [ inl e ↦ rw e refl | inr (inl e) ↦ rw e refl | inr (inr e) ↦ rw e refl ]) _ _ (c.in_ok-name-in-PredDecl.ensures _) (fields-last _ _ _ _ _ refl _ c.child.ensures)

pub returns-in_err-name-in-FuncDecl : goal.returns-in_err-name-in-FuncDecl
unfolding kind_of kinds places places_of admitted
returns-in_err-name-in-FuncDecl c = handed _ _ _ c.from_residual-in_err-name-in-FuncDecl.ensures.1 (fields-out _ _ _ _ _ (rw c.in-FuncDecl.is refl) _ (c.in_err-name-in-FuncDecl.ensures _))

pub returns-in_err-child-in-FuncDecl : goal.returns-in_err-child-in-FuncDecl
unfolding kind_of kinds places places_of admitted
returns-in_err-child-in-FuncDecl c = handed _ _ _ c.from_residual-in_err-child-in-FuncDecl.ensures.1 (fields-in _ _ _ _ _ (child (admitted (kind_number c.args.kind) 0) ∷ child (admitted (kind_number c.args.kind) 1) ∷ []) (rw c.in-FuncDecl.is refl) _ _ (c.in_ok-name-in-FuncDecl.ensures _) (fields-out _ _ _ _ _ refl _ c.in_err-child-in-FuncDecl.ensures))

pub returns-in_ok-child-in-FuncDecl : goal.returns-in_ok-child-in-FuncDecl
unfolding kind_of kinds places places_of admitted
returns-in_ok-child-in-FuncDecl c = fields-in _ _ _ _ _ _ (rw c.in-FuncDecl.is refl) _ _ (c.in_ok-name-in-FuncDecl.ensures _) (fields-in _ _ _ _ _ _ refl _ _ c.in_ok-child-in-FuncDecl.ensures (fields-last _ _ _ _ _ refl _ c.child-in-FuncDecl-2.ensures))

pub returns-in_err-name-in-EnumDecl : goal.returns-in_err-name-in-EnumDecl
unfolding kind_of kinds places places_of admitted
returns-in_err-name-in-EnumDecl c = handed _ _ _ c.from_residual-in_err-name-in-EnumDecl.ensures.1 (fields-out _ _ _ _ _ (elim c.in-EnumDecl.is [ inl e ↦ rw e refl | inr e ↦ rw e refl ]) _ (c.in_err-name-in-EnumDecl.ensures _))

pub returns-in_ok-name-in-EnumDecl : goal.returns-in_ok-name-in-EnumDecl
unfolding kind_of kinds places places_of admitted
returns-in_ok-name-in-EnumDecl c = fields-in _ _ _ _ _ _ (elim c.in-EnumDecl.is [ inl e ↦ rw e refl | inr e ↦ rw e refl ]) _ _ (c.in_ok-name-in-EnumDecl.ensures _) (fields-last _ _ _ _ _ refl _ c.list.ensures)

pub returns-in_err-opt_name-in-RuleDecl : goal.returns-in_err-opt_name-in-RuleDecl
unfolding kind_of kinds places places_of admitted
returns-in_err-opt_name-in-RuleDecl c = handed _ _ _ c.from_residual-in_err-opt_name-in-RuleDecl.ensures.1 (fields-out _ _ _ _ _ (rw c.in-RuleDecl.is refl) _ (c.in_err-opt_name-in-RuleDecl.ensures _))

pub returns-in_ok-opt_name-in-RuleDecl : goal.returns-in_ok-opt_name-in-RuleDecl
unfolding kind_of kinds places places_of admitted
returns-in_ok-opt_name-in-RuleDecl c = fields-in _ _ _ _ _ _ (rw c.in-RuleDecl.is refl) _ _ (c.in_ok-opt_name-in-RuleDecl.ensures _) (fields-last _ _ _ _ _ refl _ c.list-in-RuleDecl.ensures)

pub returns-in_err-opt_name-in-ArgDecl : goal.returns-in_err-opt_name-in-ArgDecl
unfolding kind_of kinds places places_of admitted
returns-in_err-opt_name-in-ArgDecl c = handed _ _ _ c.from_residual-in_err-opt_name-in-ArgDecl.ensures.1 (fields-out _ _ _ _ _ (rw c.in-ArgDecl.is refl) _ (c.in_err-opt_name-in-ArgDecl.ensures _))

pub returns-in_ok-opt_name-in-ArgDecl : goal.returns-in_ok-opt_name-in-ArgDecl
unfolding kind_of kinds places places_of admitted
returns-in_ok-opt_name-in-ArgDecl c = fields-in _ _ _ _ _ _ (rw c.in-ArgDecl.is refl) _ _ (c.in_ok-opt_name-in-ArgDecl.ensures _) (fields-last _ _ _ _ _ refl _ c.child-in-ArgDecl.ensures)

pub returns-in-Module : goal.returns-in-Module
unfolding kind_of kinds places places_of admitted
returns-in-Module c = fields-last _ _ _ _ _ (elim c.in-Module.is [ inl e ↦ rw e refl | inr (inl e) ↦ rw e refl | inr (inr e) ↦ rw e refl ]) _ c.list-in-Module.ensures

pub cases-requires : goal.cases-requires
unfolding kind_of kinds places places_of every childed
cases-requires c = rw c.in-Decl.is (wraps _ _ _ refl (omega arith) refl)

pub returns-in-Decl : goal.returns-in-Decl
unfolding kind_of kinds places places_of admitted
returns-in-Decl c = fields-last _ _ _ _ _ (rw c.in-Decl.is refl) _ c.cases.ensures

pub cases-requires-in-Term : goal.cases-requires-in-Term
unfolding kind_of kinds places places_of every childed
cases-requires-in-Term c = rw c.in-Term.is (wraps _ _ _ refl (omega arith) refl)

pub returns-in-Term : goal.returns-in-Term
unfolding kind_of kinds places places_of admitted
returns-in-Term c = fields-last _ _ _ _ _ (rw c.in-Term.is refl) _ c.cases-in-Term.ensures

pub cases-requires-in-AppHead : goal.cases-requires-in-AppHead
unfolding kind_of kinds places places_of every childed
cases-requires-in-AppHead c = elim c.in-AppHead.is [ inl e ↦ rw e (wraps _ _ _ refl (omega arith) refl) | inr (inl e) ↦ rw e (wraps _ _ _ refl (omega arith) refl) | inr (inr e) ↦ rw e (wraps _ _ _ refl (omega arith) refl) ]

pub returns-in-AppHead : goal.returns-in-AppHead
unfolding kind_of kinds places places_of admitted
returns-in-AppHead c = fields-last _ _ _ _ _ (elim c.in-AppHead.is [ inl e ↦ rw e refl | inr (inl e) ↦ rw e refl | inr (inr e) ↦ rw e refl ]) _ c.cases-in-AppHead.ensures

pub cases-requires-in-PredExpr : goal.cases-requires-in-PredExpr
unfolding kind_of kinds places places_of every childed
cases-requires-in-PredExpr c = rw c.in-PredExpr.is (wraps _ _ _ refl (omega arith) refl)

pub returns-in-PredExpr : goal.returns-in-PredExpr
unfolding kind_of kinds places places_of admitted
returns-in-PredExpr c = fields-last _ _ _ _ _ (rw c.in-PredExpr.is refl) _ c.cases-in-PredExpr.ensures

pub cases-requires-in-IfAtom : goal.cases-requires-in-IfAtom
unfolding kind_of kinds places places_of every childed
cases-requires-in-IfAtom c = elim c.in-IfAtom.is [ inl e ↦ rw e (wraps _ _ _ refl (omega arith) refl) | inr e ↦ rw e (wraps _ _ _ refl (omega arith) refl) ]

pub returns-in-IfAtom : goal.returns-in-IfAtom
unfolding kind_of kinds places places_of admitted
returns-in-IfAtom c = fields-last _ _ _ _ _ (elim c.in-IfAtom.is [ inl e ↦ rw e refl | inr e ↦ rw e refl ]) _ c.cases-in-IfAtom.ensures

pub returns-in-DomTerm : goal.returns-in-DomTerm
unfolding kind_of kinds places places_of admitted
returns-in-DomTerm c = fields-last _ _ _ _ _ (elim c.in-DomTerm.is [ inl e ↦ rw e refl | inr (inl e) ↦ rw e refl | inr (inr (inl e)) ↦ rw e refl | inr (inr (inr (inl e))) ↦ rw e refl | inr (inr (inr (inr (inl e)))) ↦ rw e refl | inr (inr (inr (inr (inr e)))) ↦ rw e refl ]) _ c.child-in-DomTerm.ensures

pub returns-in_err-child-in-AppTerm : goal.returns-in_err-child-in-AppTerm
unfolding kind_of kinds places places_of admitted
returns-in_err-child-in-AppTerm c = handed _ _ _ c.from_residual-in_err-child-in-AppTerm.ensures.1 (fields-out _ _ _ _ _ (elim c.in-AppTerm.is [ inl e ↦ rw e refl | inr (inl e) ↦ rw e refl | inr (inr (inl e)) ↦ rw e refl | inr (inr (inr (inl e))) ↦ rw e refl | inr (inr (inr (inr (inl e)))) ↦ rw e refl | inr (inr (inr (inr (inr e)))) ↦ rw e refl ]) _ c.in_err-child-in-AppTerm.ensures)

pub returns-in_ok-child-in-AppTerm : goal.returns-in_ok-child-in-AppTerm
unfolding kind_of kinds places places_of admitted
returns-in_ok-child-in-AppTerm c = fields-in _ _ _ _ _ _ (elim c.in-AppTerm.is [ inl e ↦ rw e refl | inr (inl e) ↦ rw e refl | inr (inr (inl e)) ↦ rw e refl | inr (inr (inr (inl e))) ↦ rw e refl | inr (inr (inr (inr (inl e)))) ↦ rw e refl | inr (inr (inr (inr (inr e)))) ↦ rw e refl ]) _ _ c.in_ok-child-in-AppTerm.ensures (fields-last _ _ _ _ _ refl _ c.child-in-AppTerm-2.ensures)

pub returns-in_err-opt_child-in-DefinedThenAtom : goal.returns-in_err-opt_child-in-DefinedThenAtom
unfolding kind_of kinds places places_of admitted
returns-in_err-opt_child-in-DefinedThenAtom c = handed _ _ _ c.from_residual-in_err-opt_child-in-DefinedThenAtom.ensures.1 (fields-out _ _ _ _ _ (rw c.in-DefinedThenAtom.is refl) _ c.in_err-opt_child-in-DefinedThenAtom.ensures)

pub returns-in_ok-opt_child-in-DefinedThenAtom : goal.returns-in_ok-opt_child-in-DefinedThenAtom
unfolding kind_of kinds places places_of admitted
returns-in_ok-opt_child-in-DefinedThenAtom c = fields-in _ _ _ _ _ _ (rw c.in-DefinedThenAtom.is refl) _ _ c.in_ok-opt_child-in-DefinedThenAtom.ensures (fields-last _ _ _ _ _ refl _ c.child-in-DefinedThenAtom.ensures)

pub returns-in_err-child-in-AppHeadMember : goal.returns-in_err-child-in-AppHeadMember
unfolding kind_of kinds places places_of admitted
returns-in_err-child-in-AppHeadMember c = handed _ _ _ c.from_residual-in_err-child-in-AppHeadMember.ensures.1 (fields-out _ _ _ _ _ (elim c.in-AppHeadMember.is [ inl e ↦ rw e refl | inr (inl e) ↦ rw e refl | inr (inr e) ↦ rw e refl ]) _ c.in_err-child-in-AppHeadMember.ensures)

pub returns-in_ok-child-in-AppHeadMember : goal.returns-in_ok-child-in-AppHeadMember
unfolding kind_of kinds places places_of admitted
returns-in_ok-child-in-AppHeadMember c = fields-in _ _ _ _ _ _ (elim c.in-AppHeadMember.is [ inl e ↦ rw e refl | inr (inl e) ↦ rw e refl | inr (inr e) ↦ rw e refl ]) _ _ c.in_ok-child-in-AppHeadMember.ensures (fields-last _ _ _ _ _ refl _ c.list-in-AppHeadMember.ensures)

pub returns-in-BranchStmt : goal.returns-in-BranchStmt
unfolding kind_of kinds places places_of admitted
returns-in-BranchStmt c = fields-last _ _ _ _ _ (rw c.in-BranchStmt.is refl) _ c.lists.ensures
