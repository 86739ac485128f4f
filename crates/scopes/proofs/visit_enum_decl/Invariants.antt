use Rattle.ast.specs.Named.{ctor_decl_kind}
use Rattle.ast.specs.Tree.{tree_at}
use Rattle.environment.specs.Builder.{walked_of}
use Rattle.scopes.specs.Walk.{visit}
use Rattle.scopes.proofs.Visiting.{VisitLeft}
use Rattle.scopes.proofs.visit_enum_decl.Given as goal

abbrev pub invariant-loop-ctor : goal.invariant-loop-ctor
invariant-loop-ctor l =
    VisitLeft ctor_decl_kind l.fn.id.0.0 (visit l.fn.builder.image.now (tree_at l.fn.builder.image.now l.fn.id.0.0) (walked_of l.fn.builder l.fn.current)) l.ctor-iterator l.fn.builder l.current l.builder
