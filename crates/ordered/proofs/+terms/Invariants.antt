use Prim.Native.Nat.{◌+◌, ◌*◌}
use Rattle.typed.specs.Items.{trees_of}
use Rattle.typed.proofs.Lists.{Within}
use Rattle.environment.specs.Builder.{walked_of}
use Rattle.ordered.specs.Walk.{occurs}
use Rattle.ordered.specs.Walk as roles
use Rattle.ordered.specs.Promises.{inside}
use Rattle.ordered.proofs.Lists.{in_member, Left}
use Rattle.ordered.proofs.+terms.Given as goal

abbrev pub decreases-walk_app_head : goal.decreases-walk_app_head
decreases-walk_app_head l = 2 * l.head.0.0 + 1

abbrev pub decreases-walk_app_head_member : goal.decreases-walk_app_head_member
decreases-walk_app_head_member l = 2 * l.id.0.0 + 1

abbrev pub decreases-walk_one_term : goal.decreases-walk_one_term
decreases-walk_one_term l = 2 * l.id.0 + 1

abbrev pub decreases-walk_term : goal.decreases-walk_term
decreases-walk_term l = 2 * l.term.0.0 + 1

abbrev pub decreases-walk_term_case : goal.decreases-walk_term_case
decreases-walk_term_case l = 2 * l.term.0.0

abbrev pub decreases-walk_term_list : goal.decreases-walk_term_list
decreases-walk_term_list l = 2 * l.list.0.0 + 1

abbrev pub decreases-walk_term_member : goal.decreases-walk_term_member
decreases-walk_term_member l = 2 * l.id.0.0 + 1

abbrev pub decreases-walk_two_terms : goal.decreases-walk_two_terms
decreases-walk_two_terms l = 2 * l.id.0 + 1

abbrev pub invariant-walk_app_head_member-loop-name : goal.invariant-walk_app_head_member-loop-name
invariant-walk_app_head_member-loop-name l =
    Within l.fn.builder.image.now 13 l.fn.id.0.0 l.name-iterator
    × Left roles.names (in_member l.fn.builder.image.now l.fn.id.0.0 (walked_of l.fn.builder l.fn.current)) (trees_of l.name-iterator) l.fn.builder l.builder l.scope

abbrev pub invariant-walk_term_list-loop-term : goal.invariant-walk_term_list-loop-term
invariant-walk_term_list-loop-term l =
    Within l.fn.builder.image.now 12 l.fn.list.0.0 l.term-iterator
    × Left occurs (inside l.fn.builder.image.now occurs l.fn.list.0.0 (walked_of l.fn.builder l.fn.current)) (trees_of l.term-iterator) l.fn.builder l.builder l.cur
