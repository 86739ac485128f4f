use mathlib.Core.Path.{ap, ◌∙◌}
use Rattle.environment.specs.Layout.{noted}
use Rattle.environment.proofs.Laws.{left-asked}
use Rattle.environment.proofs.ScopeBuilder.leave_asked.Goals as goal

pub returns-clause-stands : goal.returns-clause-stands
returns-clause-stands c =
    left-asked _ c.leave.ensures.walk
    (c.leave.ensures.env ∙ c.note.ensures ∙ ap (noted c.args.self.now.env.now c.args.node.0 c.args.before) c.stands-after.ensures)
    c.requires
