use Rattle.table.proofs.+lookup.Given as goal

abbrev pub decreases-lookup : goal.decreases-lookup
decreases-lookup l = l.scope.0
