use Rattle.environment.proofs.Parts.{entry-is}
use Rattle.environment.proofs.Environment.entry.Goals as goal

pub returns : goal.returns
returns c = entry-is c.self.inside c.self.invariant _ c.self.view_is c.args.node.0 _ c.requires
