use Rattle.typed.specs.Items.{trees_of}
use Rattle.typed.proofs.Lists.{Within}
use Rattle.rows.proofs.Parts.{Left}
use Rattle.bindings.specs.Errors.{arg_rows}
use Rattle.environment.specs.Reading.{seen}
use Rattle.bindings.specs.Promises.{of_args}
use Rattle.bindings.proofs.BindingsChecker.check_pattern_args.Given as goal

abbrev pub invariant-loop-arg : goal.invariant-loop-arg
invariant-loop-arg l =
    Within l.self.scopes.image.now 12 l.fn.args.0.0 l.arg-iterator × Left (seen of_args l.self.scopes l.fn.args.0.0) (seen arg_rows l.self.scopes (trees_of l.arg-iterator)) l.initial.rows l.rows
