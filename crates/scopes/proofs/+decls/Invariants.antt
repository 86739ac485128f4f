use Prim.Native.Nat.{◌+◌, ◌*◌}
use Rattle.ast.specs.Named.{decl_kind}
use Rattle.environment.specs.Builder.{walked_of}
use Rattle.scopes.specs.Promises.{whole_list}
use Rattle.scopes.proofs.Entries.{EnterLeft, names_of}
use Rattle.scopes.proofs.Visiting.{VisitLeft}
use Rattle.scopes.proofs.+decls.Given as goal

abbrev pub decreases-visit_decl : goal.decreases-visit_decl
decreases-visit_decl l = 3 * l.decl.0.0

abbrev pub decreases-visit_model_decl : goal.decreases-visit_model_decl
decreases-visit_model_decl l = 3 * l.id.0.0 + 2

abbrev pub decreases-walk_decls : goal.decreases-walk_decls
decreases-walk_decls l = 3 * l.decls.list.node.0 + 1

abbrev pub invariant-walk_decls-loop-decl : goal.invariant-walk_decls-loop-decl
invariant-walk_decls-loop-decl l = EnterLeft l.seen decl_kind l.fn.decls.list.node.0 (names_of l.fn.decls.list l.fn.builder l.fn.current) l.decl-iterator l.fn.builder l.current l.builder

abbrev pub invariant-walk_decls-loop-decl-2 : goal.invariant-walk_decls-loop-decl-2
invariant-walk_decls-loop-decl-2 l =
    VisitLeft decl_kind l.fn.decls.list.node.0 (whole_list l.fn.builder.image.now l.fn.decls.list (walked_of l.fn.builder l.fn.current)) l.decl-iterator l.fn.builder l.current l.builder
