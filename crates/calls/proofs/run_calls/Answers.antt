-- `calls::run_calls` meets its contract. Assumes nothing.
use native.Mathlib.Omega.{arith}
use Rattle.calls.proofs.Running.{onward}
use Rattle.calls.proofs.run_calls.Goals as goal

pub run_call-requires : goal.run_call-requires
run_call-requires c =
    let k = c.loop-i.invariant in
    (k.sound, omega (arith, c.requires.1, c.loop-i-test.true), omega (arith, k.long, c.requires.2, c.loop-i-test.true))

pub loop-i-preserved : goal.loop-i-preserved
loop-i-preserved c = onward c.loop-i.invariant c.loop-i-test.true c.requires.2 c.run_call.ensures
