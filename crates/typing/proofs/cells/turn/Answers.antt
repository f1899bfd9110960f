use native.Mathlib.Omega.{arith}
use Rattle.typing.proofs.Turning.{finish}
use Rattle.typing.proofs.cells.turn.Goals as goal

pub returns : goal.returns
returns c =
    finish _ _ _ _ _ c.loop-i.invariant _ (omega arith)
    (omega (arith, c.min-i-end.ensures, c.loop-i.auto.i-end, c.loop-i-test.false))
