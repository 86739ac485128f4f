use mathlib.Core.Path.{sym, ap, subst}
use native.Mathlib.Omega.{arith}
use Prim.Native.Nat.{ℕ, ◌-◌}
use Rattle.ast.specs.Image.{last}
use Rattle.ast.proofs.Accepted.{sized}
use Rattle.occurrences.specs.Promises.{ListingRun}
use Rattle.occurrences.proofs.CollectRules.{module_run}
use Rattle.occurrences.proofs.CollectSteps.{appends-to}
use Rattle.occurrences.proofs.OccurrencesChecker.collect_module.Goals as goal

pub overflow_sub-module : goal.overflow_sub-module
overflow_sub-module c = let s = (sized _ c.args.self.now.whole.accepted).some in let e = c.node_count.ensures in omega arith

pub collect_decls-requires : goal.collect_decls-requires
unfolding last
collect_decls-requires c = subst (ListingRun _ _ _ _ _) (sym c.requires) (module_run _ _ c.args.self.now.whole (ap (λ (x : ℕ). x - 1) c.node_count.ensures) c.module.ensures).run

pub returns : goal.returns
unfolding last
returns c = appends-to (module_run _ _ c.args.self.now.whole (ap (λ (x : ℕ). x - 1) c.node_count.ensures) c.module.ensures).whole c.collect_decls.ensures
