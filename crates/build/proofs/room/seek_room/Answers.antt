-- `build::room::seek_room` meets its contract. Assumes nothing.
use native.Mathlib.Omega.{arith}
use Rattle.build.proofs.Rooms.{there, gained}
use Rattle.build.proofs.room.seek_room.Goals as goal

pub returns-then-n-cells : goal.returns-then-n-cells
returns-then-n-cells c = let s = c.requires in there s (omega (arith, s.high, c.if-n-cells.true))

pub returns : goal.returns
returns c =
    let s = c.requires in
    let g = c.collect_sound.ensures in
    gained s (omega (arith, s.high, c.if-n-cells.false)) g.0 g.1
