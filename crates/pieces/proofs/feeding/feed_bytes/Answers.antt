use Rattle.pieces.proofs.Bytes.{can_read, can_count, onward, halted}
use Rattle.pieces.proofs.feeding.feed_bytes.Goals as goal

pub after-state-requires-clause-goes : goal.after-state-requires-clause-goes
after-state-requires-clause-goes c = (can_read _ _ c.loop-b.invariant.can, c.in-Ok.ensures.1)

pub after-state-requires-clause-counts : goal.after-state-requires-clause-counts
after-state-requires-clause-counts c = can_count _ _ c.loop-b.invariant.can _ _ c.in-Ok.ensures.0

pub loop-b-preserved : goal.loop-b-preserved
loop-b-preserved c =
    onward _ _ _ _ _ c.loop-b.invariant _ _ _ c.loop-b-test.true c.in-Ok.ensures c.after-state.ensures

-- a byte is refused
pub returns-in-Err : goal.returns-in-Err
returns-in-Err c = halted _ _ _ _ _ c.loop-b.invariant _ c.loop-b-test.true c.in-Err.ensures
