-- `chains::release` undoes the chain of a cell. Assumes nothing.
use Rattle.collect.proofs.chains.Releasing.{Releasing, left}
use Rattle.collect.proofs.chains.release.Given as goal

abbrev pub invariant-loop-k : goal.invariant-loop-k
invariant-loop-k l = Releasing l.initial.ws l.c l.w l.to l.initial.low l.ws l.first l.second l.low

abbrev pub decreases-loop-k : goal.decreases-loop-k
decreases-loop-k l = left l.ws l.second
