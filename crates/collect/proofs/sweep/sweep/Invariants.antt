-- `sweep::sweep` gives every cell its turn. Assumes nothing.
use Rattle.collect.proofs.sweep.Descending.{Descending}
use Rattle.collect.proofs.sweep.sweep.Given as goal

abbrev pub invariant-loop-c : goal.invariant-loop-c
invariant-loop-c g l = Descending l.initial.ws l.top (goal.F-post g l.lift) l.ws l.dead l.c

abbrev pub decreases-loop-c : goal.decreases-loop-c
decreases-loop-c g l = l.c
