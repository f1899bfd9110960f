-- `calls::asking::length` meets its contract. Assumes nothing.
use native.Mathlib.Omega.{arith}
use Rattle.meaning.proofs.sound.Cells.{limit_fits}
use Rattle.store.proofs.Registers.{run_below}
use Rattle.calls.proofs.asking.length.Goals as goal

pub overflow_cast-result : goal.overflow_cast-result
overflow_cast-result c =
    let s = c.requires.1 in
    omega (arith, limit_fits, s.high, s.allowed.small, run_below c.args.a.cell s c.args.a.below)
