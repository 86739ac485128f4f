use Prim.Native.Nat.{◌+◌, ◌*◌}
use Rattle.typed.specs.Items.{trees_of}
use Rattle.typed.proofs.Lists.{Within}
use Rattle.rows.proofs.Parts.{Left}
use Rattle.bindings.specs.Errors.{decls_rows}
use Rattle.environment.specs.Reading.{seen}
use Rattle.bindings.specs.Promises.{of_decls}
use Rattle.bindings.proofs.BindingsChecker.+decls.Given as goal

abbrev pub decreases-walk_decl : goal.decreases-walk_decl
decreases-walk_decl l = 2 * l.decl.0.0 + 1

abbrev pub decreases-walk_decls : goal.decreases-walk_decls
decreases-walk_decls l = 2 * l.decls.list.node.0

abbrev pub invariant-walk_decls-loop-decl : goal.invariant-walk_decls-loop-decl
invariant-walk_decls-loop-decl l =
    Within l.self.scopes.image.now 1 l.fn.decls.list.node.0 l.decl-iterator × Left (seen of_decls l.self.scopes l.fn.decls.list) (seen decls_rows l.self.scopes (trees_of l.decl-iterator)) l.initial.rows l.rows
