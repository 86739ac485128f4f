use borrow.Author.Rules.{rules}
use mathlib.Core.Path.{◌≡◌, refl}
use native.Mathlib.Omega.{arith}
use Rattle.ast.specs.Kinds.{kind_of}
use Rattle.typed.proofs.Enums.{then-atom-is}
use Rattle.ordered.proofs.Atoms.{plain-wrapped}
use Rattle.ordered.proofs.Idents.{then-ends}
use Rattle.ordered.proofs.Ends.{ends_in}
use Rattle.ordered.proofs.walk_then_atom.Goals as goal
use Rattle.ordered.proofs.walk_then_atom.Goals.{in-Equal, in-Pred}

pub walk_two_terms-exit-requires : goal.walk_two_terms-exit-requires
unfolding kind_of
walk_two_terms-exit-requires c = let k = then-atom-is _ c.requires.0.is c.then_atom.ensures c.in-Equal.is in (((plain-wrapped _ c.requires.0 k refl).ready, c.requires.1), c.equal_atom.ensures)

pub walk_then_defined_atom-requires : goal.walk_then_defined_atom-requires
walk_then_defined_atom-requires c = let k = then-atom-is _ c.requires.0.is c.then_atom.ensures c.in-Defined.is in (c.requires, record { first = k.number; second = k.child })

pub walk_pred_atom-exit-requires : goal.walk_pred_atom-exit-requires
unfolding kind_of
walk_pred_atom-exit-requires c = let k = then-atom-is _ c.requires.0.is c.then_atom.ensures c.in-Pred.is in ((plain-wrapped _ c.requires.0 k refl).ready, c.requires.1)

pub returns-clause-walk : goal.returns-clause-walk
returns-clause-walk c =
    let j : c.match-then_atom.builder.image.now ≡ c.args.builder.now.image.now = search rules in
    let l = rw j at c.leave.ensures.walk in
    elim c.match-then_atom.branch [
      | in-Equal w ↦
          let k = then-atom-is _ c.requires.0.is c.then_atom.ensures w.in-Equal.is in
          then-ends _ c.requires.0 k (λ z. omega arith) refl (ends_in _ w.builder-is w.exit-is refl w.walk_two_terms-exit.ensures.walk) l c.leave.ensures.env
      | in-Pred w ↦
          let k = then-atom-is _ c.requires.0.is c.then_atom.ensures w.in-Pred.is in
          then-ends _ c.requires.0 k (λ z. omega arith) refl (ends_in _ w.builder-is w.exit-is refl w.walk_pred_atom-exit.ensures.walk) l c.leave.ensures.env
    ]
