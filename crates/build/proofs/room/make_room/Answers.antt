-- `build::room::make_room` meets its contract: room is sought in the store as it is where that is the store without d's
-- old expression too, or where d is kept. Assumes nothing.
use mathlib.Core.Path.{sym, ◌∙◌}
use Rattle.meaning.specs.Limits.{first_heap_cell}
use Rattle.meaning.proofs.call.Sought.{sought_stays}
use Rattle.store.proofs.Sounds.{first_heap_cell_pos}
use Rattle.build.proofs.room.make_room.Goals as goal

pub returns-then-stays : goal.returns-then-stays
returns-then-stays c =
    let t = rw c.cell-cell.ensures at (sym c.stays.ensures ∙ c.if-stays.true) in
    let e = sought_stays first_heap_cell c.args.ws.now c.args.top first_heap_cell_pos c.requires c.args.kept
    c.args.d.cell c.args.d.below t in
    rw e c.room_beside.ensures
