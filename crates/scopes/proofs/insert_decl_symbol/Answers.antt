use mathlib.Core.Path.{refl}
use Rattle.scopes.proofs.Entries.{free_new, free-old, few, enters-new, enters-old, enters-twice}
use Rattle.scopes.proofs.insert_decl_symbol.Goals as goal
use Rattle.scopes.proofs.insert_decl_symbol.Goals.{then-not-stamp+in_default, else-not-stamp}

pub returns-in-Some-clause-walk : goal.returns-in-Some-clause-walk
returns-in-Some-clause-walk c = enters-twice _ c.requires.entering _ _ c.requires.name _ _ refl refl c.in-Some.ensures refl

pub enter-requires : goal.enter-requires
enter-requires c =
    elim c.if-not-stamp.branch [
      | then-not-stamp+in_default w ↦ (c.requires.entering.opens, c.requires.name, free-old _ c.requires.entering _ _ c.requires.name w.in_default.ensures, few _ c.requires.entering _ _ c.requires.name)
      | else-not-stamp w ↦ (c.requires.entering.opens, c.requires.name, free_new _ c.requires.entering _ _ c.requires.name c.stamp.ensures w.if-not-stamp.false, few _ c.requires.entering _ _ c.requires.name)
    ]

pub returns-clause-walk : goal.returns-clause-walk
returns-clause-walk c =
    elim c.if-not-stamp.branch [
      | then-not-stamp+in_default w ↦ enters-old _ c.requires.entering _ _ c.requires.name c.stamp.ensures w.if-not-stamp.true w.in_default.ensures c.enter.ensures.walk c.enter.ensures.stands
      | else-not-stamp w ↦ enters-new _ c.requires.entering _ _ c.requires.name c.stamp.ensures w.if-not-stamp.false c.enter.ensures.walk c.enter.ensures.stands
    ]
