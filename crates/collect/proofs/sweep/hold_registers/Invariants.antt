-- `sweep::hold_registers` gives each register its turn. Assumes nothing.
use Rattle.collect.proofs.sweep.Standing.{Registers}
use Rattle.collect.proofs.sweep.hold_registers.Given as goal

abbrev pub invariant-loop-r : goal.invariant-loop-r
invariant-loop-r l = Registers l.initial.ws l.ws l.r
