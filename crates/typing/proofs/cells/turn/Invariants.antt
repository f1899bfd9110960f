-- `typing::cells::turn` meets its contract. Assumes nothing.
use Rattle.typing.proofs.Turning.{Turning}
use Rattle.typing.proofs.cells.turn.Given as goal

abbrev pub invariant-loop-i : goal.invariant-loop-i
invariant-loop-i l = Turning l.initial.ws l.low l.high l.ws l.i
