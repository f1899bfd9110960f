-- `sweep::sweep_known` gives the cells that become known their turns. Assumes nothing.
use Rattle.collect.proofs.sweep.Running.{Running}
use Rattle.collect.proofs.sweep.sweep_known.Given as goal

abbrev pub invariant-loop-low : goal.invariant-loop-low
invariant-loop-low l = Running l.initial.ws l.initial.c l.d l.initial.low l.ws l.low l.c

abbrev pub decreases-loop-low : goal.decreases-loop-low
decreases-loop-low l = l.c
