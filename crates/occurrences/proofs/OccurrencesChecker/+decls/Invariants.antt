use Prim.Native.Nat.{◌+◌, ◌*◌}
use Rattle.environment.specs.Reading.{seen}
use Rattle.occurrences.specs.Promises.{joined, lists_of}
use Rattle.occurrences.proofs.CollectRules.{DeclsLeft}
use Rattle.occurrences.proofs.OccurrencesChecker.+decls.Given as goal

abbrev pub decreases-collect_decl : goal.decreases-collect_decl
decreases-collect_decl l = 2 * l.decl.0.0

abbrev pub decreases-collect_decls : goal.decreases-collect_decls
decreases-collect_decls l = 2 * l.decls.list.node.0 + 1

abbrev pub invariant-collect_decls-loop-decl : goal.invariant-collect_decls-loop-decl
invariant-collect_decls-loop-decl l = seen DeclsLeft l.self.scopes l.fn.decls.list.node.0 (joined (seen lists_of l.self.scopes l.fn.decls.list)) l.decl-iterator l.initial.rows l.rows
