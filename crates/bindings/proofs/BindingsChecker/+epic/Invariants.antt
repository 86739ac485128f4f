use mathlib.Core.Bool.{true}
use Rattle.typed.specs.Items.{trees_of}
use Rattle.typed.proofs.Lists.{Within}
use Rattle.rows.proofs.Parts.{Left}
use Rattle.bindings.specs.Errors.{rows_seq}
use Rattle.environment.specs.Reading.{seen}
use Rattle.bindings.specs.Promises.{inside}
use Rattle.bindings.proofs.BindingsChecker.+epic.Given as goal

abbrev pub decreases-check_epic_app_head : goal.decreases-check_epic_app_head
decreases-check_epic_app_head l = l.head.0.0

abbrev pub decreases-check_epic_term : goal.decreases-check_epic_term
decreases-check_epic_term l = l.term.0.0

abbrev pub decreases-check_epic_terms : goal.decreases-check_epic_terms
decreases-check_epic_terms l = l.args.0.0

abbrev pub invariant-check_epic_terms-loop-arg : goal.invariant-check_epic_terms-loop-arg
invariant-check_epic_terms-loop-arg l =
    Within l.self.scopes.image.now 12 l.fn.args.0.0 l.arg-iterator × Left (seen inside l.self.scopes true l.fn.args.0.0) (seen rows_seq l.self.scopes true l.fn.args.0.0 (trees_of l.arg-iterator)) l.initial.rows l.rows
