use Rattle.scopes.specs.Resolve.{headed}
use Rattle.scopes.proofs.insert_counts.Goals as goal

pub returns-clause-words : goal.returns-clause-words
unfolding headed
returns-clause-words c = cc
