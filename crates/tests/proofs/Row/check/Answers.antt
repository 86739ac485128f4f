use mathlib.Core.Path.{sym, ◌∙◌}
use native.Mathlib.Omega.{arith}
use borrow.Author.Tests.{eqb-true, eqb-false}
use Rattle.tests.proofs.Steps.{passes, refuses}
use Rattle.tests.proofs.Fields.{child-in, child-high, child-other, counts-more}
use Rattle.tests.proofs.Row.check.Goals as goal
use Rattle.tests.proofs.Row.check.Goals.{then-self-node-via-then-self-node, then-self-node-via-else-self-node+then-not-admits}

pub returns-then-self-node : goal.returns-then-self-node
returns-then-self-node c =
    refuses _ _ (elim c.then-self-node.branch [
      | then-self-node-via-then-self-node w ↦ child-high _ _ _ _ w.if-self-node.true
      | then-self-node-via-else-self-node+then-not-admits w ↦ child-other _ _ _ _ (omega arith) (λ q. eqb-false _ _ (sym w.admits.ensures ∙ w.if-not-admits.true) (w.kind_at.ensures ∙ q))
    ])

pub returns : goal.returns
returns c = passes _ _ (child-in _ _ _ _ (omega arith) (sym c.kind_at.ensures ∙ eqb-true _ _ (sym c.admits.ensures ∙ c.if-not-admits.false))) (counts-more _ _ _ c.more.ensures)
