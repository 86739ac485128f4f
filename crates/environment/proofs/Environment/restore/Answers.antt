use Rattle.environment.proofs.Parts.{restored-is}
use Rattle.environment.proofs.Environment.restore.Goals as goal

pub returns : goal.returns
returns c = restored-is c.self.inside c.self.invariant _ c.self.view_is c.args.name c.args.row _ c.requires.0 c.requires.1
