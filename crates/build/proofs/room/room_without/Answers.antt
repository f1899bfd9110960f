-- `build::room::room_without` meets its contract: with d empty there is room above `top`, or once the store is
-- collected; or there is none, and d's words are put back before the store is collected, if that frees any cell.
-- Assumes nothing.
use mathlib.Core.Path.{◌≡◌, ◌∙◌}
use native.Mathlib.Omega.{arith}
use Rattle.build.proofs.Rooms.{vacated_sound, vacated, no_higher, freed, put_back, nothing_dead, given_up}
use Rattle.build.proofs.room.room_without.Goals as goal
use Rattle.build.proofs.room.room_without.Goals.{After-put_cell}

-- there is no room, and d's words are put back
restored : (c : After-put_cell) → c.put_cell.new.ws ≡ c.args.ws.now
restored c =
    put_back c.args.n c.args.ws.now c.args.top c.args.d c.requires.0 c.requires.1
    c.put_empty.ensures (omega arith)
    c.collect_for-low.ensures.0 c.collect_for-low.ensures.1
    (omega arith) c.put_cell.ensures
    c.first_word-first.ensures c.second_word-second.ensures

pub returns-then-n-free : goal.returns-then-n-free
returns-then-n-free c =
    vacated c.args.n c.args.ws.now c.args.top c.args.d c.requires.0 c.requires.1
    c.put_empty.ensures c.if-n-free.true

pub collect_for-low-requires : goal.collect_for-low-requires
collect_for-low-requires c =
    vacated_sound c.args.n c.args.ws.now c.args.top c.args.d c.requires.0 c.requires.1
    c.put_empty.ensures

pub overflow_sub-top : goal.overflow_sub-top
overflow_sub-top c =
    no_higher c.args.n c.args.ws.now c.args.top c.args.d c.requires.0 c.requires.1
    c.put_empty.ensures (omega arith)
    c.collect_for-low.ensures.0 c.collect_for-low.ensures.1

pub returns-then-n-free-2 : goal.returns-then-n-free-2
returns-then-n-free-2 c =
    freed c.args.n c.args.ws.now c.args.top c.args.d c.requires.0 c.requires.1
    c.put_empty.ensures (omega arith)
    c.collect_for-low.ensures.0 c.collect_for-low.ensures.1 c.if-n-free-2.true

-- no cell is dead even without d
pub returns-then-low-top : goal.returns-then-low-top
returns-then-low-top c =
    let whole = nothing_dead c.args.n c.args.ws.now c.args.top c.args.d c.requires.0 c.requires.1
    c.put_empty.ensures (omega arith) c.collect_for-low.ensures.0
    c.collect_for-low.ensures.1 (omega arith) c.if-low-top.true in
    given_up c.args.n c.args.ws.now c.args.top c.args.d c.requires.0 c.requires.1
    c.put_empty.ensures (omega arith) c.collect_for-low.ensures.0
    c.collect_for-low.ensures.1 (omega arith)
    (restored (goal.at.returns-then-low-top c).After-put_cell ∙ whole.0) whole.1

pub collect_sound-requires : goal.collect_sound-requires
collect_sound-requires c = rw (restored (goal.at.collect_sound-requires c).After-put_cell) c.requires.0

pub returns : goal.returns
returns c =
    let g = rw (restored (goal.at.returns c).After-put_cell) at c.collect_sound.ensures in
    given_up c.args.n c.args.ws.now c.args.top c.args.d c.requires.0 c.requires.1
    c.put_empty.ensures (omega arith)
    c.collect_for-low.ensures.0 c.collect_for-low.ensures.1
    (omega arith) g.0 g.1
