use borrow.Author.Rules.{rules}
use mathlib.Core.Path.{ap}
use native.Mathlib.Omega.{arith}
use Prim.Native.Nat.{◌-◌}
use Rattle.ast.specs.Image.{last}
use Rattle.ast.proofs.Accepted.{sized}
use Rattle.rows.proofs.Appends.{wrote}
use Rattle.rows.proofs.Parts.{appends-as, appends-next}
use Rattle.bindings.proofs.Calls.{root-ready, plain_of, mode-fits, all-few}
use Rattle.bindings.proofs.BindingsChecker.write_rows.Goals as goal

pub overflow_sub-n : goal.overflow_sub-n
overflow_sub-n c = let s = (sized _ c.args.self.now.accepted).some in omega arith

pub walk_module-requires : goal.walk_module-requires
unfolding last
walk_module-requires c = root-ready _ c.args.self.now.accepted (ap (λ k. k - 1) c.node_count-n.ensures) c.begin-rows.ensures.count

pub check_mode-requires : goal.check_mode-requires
unfolding last
check_mode-requires c = mode-fits _ _ c.args.self.now.accepted c.begin-rows.ensures.count (appends-as (plain_of _ _ (ap (λ k. k - 1) c.node_count-n.ensures)) c.walk_module.ensures)

pub returns : goal.returns
unfolding last
returns c = wrote (all-few _ _ _ c.args.self.now.accepted) c.node_count-n.ensures c.begin-rows.ensures (appends-next (appends-as (plain_of _ _ (ap (λ k. k - 1) c.node_count-n.ensures)) c.walk_module.ensures) c.check_mode.ensures) (search rules)
