use Prim.Native.Nat.{◌+◌, ◌*◌}
use Rattle.ast.specs.Times.{counts}
use Rattle.environment.specs.Reading.{seen}
use Rattle.occurrences.proofs.CollectLone.{ChecksLeft}
use Rattle.occurrences.proofs.OccurrencesChecker.+check.Given as goal

abbrev pub decreases-check_decl : goal.decreases-check_decl
decreases-check_decl l = 2 * l.decl.0.0

abbrev pub decreases-check_decls : goal.decreases-check_decls
decreases-check_decls l = 2 * l.decls.list.node.0 + 1

abbrev pub invariant-check_decls-loop-decl : goal.invariant-check_decls-loop-decl
invariant-check_decls-loop-decl l = seen ChecksLeft l.self.scopes l.fn.decls.list l.decl-iterator (counts l.initial.scratch.counts) (counts l.scratch.counts)
