-- `capi::zelmotar_collect` meets its contract. Assumes nothing.
use Rattle.meaning.specs.Limits.{first_heap_cell}
use Rattle.meaning.proofs.batch.Fits.{collect_fits}
use Rattle.store.proofs.Sounds.{first_heap_cell_pos}
use Rattle.capi.proofs.Values.{value_fits}
use Rattle.capi.proofs.zelmotar_collect.Goals as goal

pub new-requires-in-Ok : goal.new-requires-in-Ok
new-requires-in-Ok c =
    value_fits _ _ c.new.ensures (collect_fits first_heap_cell _ _ first_heap_cell_pos c.in-Ok.ensures)

pub new-requires-in-Err : goal.new-requires-in-Err
new-requires-in-Err c =
    value_fits _ _ c.into.ensures (collect_fits first_heap_cell _ _ first_heap_cell_pos c.in-Err.ensures)
