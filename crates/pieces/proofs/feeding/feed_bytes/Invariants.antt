-- `pieces::feeding::feed_bytes` meets its contract. Assumes nothing.
use Rattle.pieces.specs.Feeding.{state_is}
use Rattle.pieces.proofs.Bytes.{Fed}
use Rattle.pieces.proofs.feeding.feed_bytes.Given as goal

abbrev pub invariant-loop-b : goal.invariant-loop-b
invariant-loop-b l = Fed l.piece (state_is l.initial.state l.initial.counts) l.state l.counts l.b-index
