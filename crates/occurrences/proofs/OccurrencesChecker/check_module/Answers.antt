use mathlib.Core.Path.{sym, ap, ◌∙◌}
use native.Mathlib.Omega.{arith}
use Prim.Native.Nat.{ℕ, ◌-◌}
use Rattle.ast.specs.Image.{last}
use Rattle.ast.proofs.Accepted.{sized}
use Rattle.occurrences.specs.Occurrences.{lone}
use Rattle.occurrences.proofs.CollectRules.{module_run}
use Rattle.occurrences.proofs.OccurrencesChecker.check_module.Goals as goal

pub overflow_sub-module : goal.overflow_sub-module
overflow_sub-module c = let s = (sized _ c.args.self.now.whole.accepted).some in let e = c.node_count.ensures in omega arith

pub check_decls-requires-clause-listing : goal.check_decls-requires-clause-listing
unfolding last
check_decls-requires-clause-listing c = (module_run _ _ c.args.self.now.whole (ap (λ (x : ℕ). x - 1) c.node_count.ensures) c.module.ensures).run

pub returns : goal.returns
unfolding last
returns c = c.check_decls.ensures.lone ∙ sym (ap lone (module_run _ _ c.args.self.now.whole (ap (λ (x : ℕ). x - 1) c.node_count.ensures) c.module.ensures).by_rule)
