use Rattle.tests.proofs.Entries.{admits-is}
use Rattle.tests.proofs.Fields.{kind-low}
use Rattle.tests.proofs.grid.admits.Goals as goal

pub returns : goal.returns
returns c =
    let e = c.from.ensures in
    let k = kind-low c.args.parent in
    rw e (admits-is _ _ _ k c.requires.1)
