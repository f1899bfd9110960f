-- `calls::run_calls` meets its contract. Assumes nothing.
use Rattle.calls.proofs.Running.{Running}
use Rattle.calls.proofs.run_calls.Given as goal

abbrev pub invariant-loop-i : goal.invariant-loop-i
invariant-loop-i l = Running l.initial.ws l.initial.top l.calls l.initial.answers l.ws l.top l.answers l.i
