use mathlib.Core.Path.{refl, sym}
use native.Mathlib.Omega.{arith}
use Rattle.ast.specs.Kinds.{kind_of}
use Rattle.scopes.proofs.Decls.{decl-enters}
use Rattle.scopes.proofs.Entries.{entering-less, sig-asked, model-name, model-ent, model-enter, enters-as}
use Rattle.scopes.proofs.enter_decl.Goals as goal

pub enter_signature-requires : goal.enter_signature-requires
unfolding kind_of
enter_signature-requires c = let d = decl-enters _ c.insert_unordered.ensures.keeps.image c.decl.ensures c.requires c.insert_unordered.ensures.walk c.insert_unordered.ensures.env _ c.in-Type.is in sig-asked d.is c.type_decl-name.ensures d.entering

pub enter_signature-requires-in-Pred : goal.enter_signature-requires-in-Pred
unfolding kind_of
enter_signature-requires-in-Pred c = let d = decl-enters _ c.insert_unordered.ensures.keeps.image c.decl.ensures c.requires c.insert_unordered.ensures.walk c.insert_unordered.ensures.env _ c.in-Pred.is in sig-asked d.is c.pred_decl-name.ensures.first d.entering

pub enter_signature-requires-in-Func : goal.enter_signature-requires-in-Func
unfolding kind_of
enter_signature-requires-in-Func c = let d = decl-enters _ c.insert_unordered.ensures.keeps.image c.decl.ensures c.requires c.insert_unordered.ensures.walk c.insert_unordered.ensures.env _ c.in-Func.is in sig-asked d.is c.func_decl-name.ensures.first d.entering

pub enter_signature-requires-in-Const : goal.enter_signature-requires-in-Const
unfolding kind_of
enter_signature-requires-in-Const c = let d = decl-enters _ c.insert_unordered.ensures.keeps.image c.decl.ensures c.requires c.insert_unordered.ensures.walk c.insert_unordered.ensures.env _ c.in-Const.is in sig-asked d.is c.const_decl-name.ensures.first d.entering

pub enter_rule-requires : goal.enter_rule-requires
enter_rule-requires c = let d = decl-enters _ c.insert_unordered.ensures.keeps.image c.decl.ensures c.requires c.insert_unordered.ensures.walk c.insert_unordered.ensures.env _ c.in-Rule.is in (d.is, d.entering)

pub enter_enum-requires : goal.enter_enum-requires
enter_enum-requires c = let d = decl-enters _ c.insert_unordered.ensures.keeps.image c.decl.ensures c.requires c.insert_unordered.ensures.walk c.insert_unordered.ensures.env _ c.in-Enum.is in (d.is, d.entering)

pub insert_decl_symbol-requires : goal.insert_decl_symbol-requires
insert_decl_symbol-requires c = let d = decl-enters _ c.insert_unordered.ensures.keeps.image c.decl.ensures c.requires c.insert_unordered.ensures.walk c.insert_unordered.ensures.env _ c.in-Model.is in let z = model-ent _ d.is in record { name = model-name _ d.is c.model_decl-name.ensures.first; entering = entering-less _ (omega arith) d.entering }

pub returns-in-Type-clause-walk : goal.returns-in-Type-clause-walk
returns-in-Type-clause-walk c = let d = decl-enters _ c.insert_unordered.ensures.keeps.image c.decl.ensures c.requires c.insert_unordered.ensures.walk c.insert_unordered.ensures.env _ c.in-Type.is in d.enters c.enter_signature.ensures.walk

pub returns-in-Pred-clause-walk : goal.returns-in-Pred-clause-walk
returns-in-Pred-clause-walk c = let d = decl-enters _ c.insert_unordered.ensures.keeps.image c.decl.ensures c.requires c.insert_unordered.ensures.walk c.insert_unordered.ensures.env _ c.in-Pred.is in d.enters c.enter_signature-in-Pred.ensures.walk

pub returns-in-Func-clause-walk : goal.returns-in-Func-clause-walk
returns-in-Func-clause-walk c = let d = decl-enters _ c.insert_unordered.ensures.keeps.image c.decl.ensures c.requires c.insert_unordered.ensures.walk c.insert_unordered.ensures.env _ c.in-Func.is in d.enters c.enter_signature-in-Func.ensures.walk

pub returns-in-Const-clause-walk : goal.returns-in-Const-clause-walk
returns-in-Const-clause-walk c = let d = decl-enters _ c.insert_unordered.ensures.keeps.image c.decl.ensures c.requires c.insert_unordered.ensures.walk c.insert_unordered.ensures.env _ c.in-Const.is in d.enters c.enter_signature-in-Const.ensures.walk

pub returns-in-Rule-clause-walk : goal.returns-in-Rule-clause-walk
returns-in-Rule-clause-walk c = let d = decl-enters _ c.insert_unordered.ensures.keeps.image c.decl.ensures c.requires c.insert_unordered.ensures.walk c.insert_unordered.ensures.env _ c.in-Rule.is in d.enters c.enter_rule.ensures.walk

pub returns-in-Enum-clause-walk : goal.returns-in-Enum-clause-walk
returns-in-Enum-clause-walk c = let d = decl-enters _ c.insert_unordered.ensures.keeps.image c.decl.ensures c.requires c.insert_unordered.ensures.walk c.insert_unordered.ensures.env _ c.in-Enum.is in d.enters c.enter_enum.ensures.walk

pub returns-in-Model-clause-walk : goal.returns-in-Model-clause-walk
returns-in-Model-clause-walk c = let d = decl-enters _ c.insert_unordered.ensures.keeps.image c.decl.ensures c.requires c.insert_unordered.ensures.walk c.insert_unordered.ensures.env _ c.in-Model.is in d.enters (enters-as _ (sym (model-enter _ _ d.is).0) refl c.insert_decl_symbol.ensures.walk)
