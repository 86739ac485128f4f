use Rattle.names.proofs.Names.{ChainLeft}
use Rattle.names.proofs.meets.Given as goal

abbrev pub invariant-loop-j : goal.invariant-loop-j
invariant-loop-j l = ChainLeft l.names.sized.image.now l.i l.first l.next l.link

abbrev pub decreases-loop-j : goal.decreases-loop-j
decreases-loop-j l = l.link
