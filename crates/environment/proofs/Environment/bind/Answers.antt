use Rattle.environment.proofs.Parts.{bound-is}
use Rattle.environment.proofs.Environment.bind.Goals as goal

pub returns : goal.returns
returns c = bound-is c.self.inside c.self.invariant _ c.self.view_is c.args.name c.args.row _ c.requires.0 c.requires.1
