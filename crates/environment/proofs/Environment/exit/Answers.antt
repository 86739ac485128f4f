use Rattle.environment.proofs.Parts.{exit-is}
use Rattle.environment.proofs.Environment.exit.Goals as goal

pub returns : goal.returns
returns c = exit-is c.self.inside c.self.invariant _ c.self.view_is c.args.node.0 _ c.requires
