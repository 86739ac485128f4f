use mathlib.Core.Path.{refl}
use Rattle.ast.specs.Kinds.{kind_of}
use Rattle.scopes.proofs.Entries.{enter_item, enter-ended, enum_enter, sig-asked, handed-on}
use Rattle.scopes.proofs.enter_enum.Goals as goal

pub insert_decl_symbol-requires : goal.insert_decl_symbol-requires
insert_decl_symbol-requires c =
    let o = enum_enter c.insert_unordered.ensures.keeps c.requires c.insert_unordered.ensures.walk c.insert_unordered.ensures.env c.enum_decl-name.ensures.list in
    record { name = o.name c.enum_decl-name.ensures.first; entering = o.own }

pub returns-in_err-insert_decl_symbol-clause-walk : goal.returns-in_err-insert_decl_symbol-clause-walk
returns-in_err-insert_decl_symbol-clause-walk c =
    (enum_enter c.insert_unordered.ensures.keeps c.requires c.insert_unordered.ensures.walk c.insert_unordered.ensures.env c.enum_decl-name.ensures.list).stop _ refl c.in_err-insert_decl_symbol.ensures.walk
    (handed-on _ _ c.from_residual.ensures.1)

pub of-ctor-items-requires : goal.of-ctor-items-requires
of-ctor-items-requires c = (enum_enter c.insert_unordered.ensures.keeps c.requires c.insert_unordered.ensures.walk c.insert_unordered.ensures.env c.enum_decl-name.ensures.list).short

pub loop-ctor-init : goal.loop-ctor-init
loop-ctor-init c =
    (enum_enter c.insert_unordered.ensures.keeps c.requires c.insert_unordered.ensures.walk c.insert_unordered.ensures.env c.enum_decl-name.ensures.list).begins refl c.in_ok-insert_decl_symbol.ensures.keeps
    c.in_ok-insert_decl_symbol.ensures.walk c.into_iter-ctor-iterator.ensures.into_iter_gives c.of-ctor-items.ensures

pub enter_signature-requires : goal.enter_signature-requires
unfolding kind_of
enter_signature-requires c = let o = enter_item c.loop-ctor.invariant c.in-Some.ensures.steps in sig-asked o.is c.ctor_decl-name.ensures.first o.entering

pub returns-in_err-enter_signature-clause-walk : goal.returns-in_err-enter_signature-clause-walk
returns-in_err-enter_signature-clause-walk c =
    (enter_item c.loop-ctor.invariant c.in-Some.ensures.steps).stop _ refl c.in_err-enter_signature.ensures.walk (handed-on _ _ c.from_residual-in_err-enter_signature.ensures.1)

pub loop-ctor-preserved : goal.loop-ctor-preserved
loop-ctor-preserved c = (enter_item c.loop-ctor.invariant c.in-Some.ensures.steps).more refl c.in_ok-enter_signature.ensures.keeps c.in_ok-enter_signature.ensures.walk

pub returns-clause-walk : goal.returns-clause-walk
returns-clause-walk c = enter-ended c.loop-ctor.invariant c.in-None.ensures.steps
