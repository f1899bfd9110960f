-- `pieces::feeding::State::after` meets its contract. Assumes nothing.
use Rattle.reader.specs.Readers.{move_of}
use Rattle.pieces.specs.Feeding.{state_is}
use Rattle.pieces.proofs.Bytes.{counted_as}
use Rattle.pieces.proofs.feeding.State.after.Goals as goal

pub returns : goal.returns
returns c =
    let k = c.count_byte.ensures in
    counted_as (move_of c.args.m) (state_is c.args.self c.args.counts.now) c.after.ensures k.own k.most k.waiting
