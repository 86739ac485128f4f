use Rattle.environment.proofs.Parts.{noted-is}
use Rattle.environment.proofs.Environment.note.Goals as goal

pub returns : goal.returns
returns c = noted-is c.self.inside c.self.invariant _ c.self.view_is c.args.node.0 _ c.requires
