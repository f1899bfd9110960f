-- `capi::zelmotar_run` meets its contract. Assumes nothing.
use Rattle.meaning.specs.Limits.{first_heap_cell}
use Rattle.meaning.proofs.batch.Fits.{batch_fits}
use Rattle.capi.proofs.Values.{value_fits}
use Rattle.capi.proofs.zelmotar_run.Goals as goal

pub new-requires-in-Err : goal.new-requires-in-Err
new-requires-in-Err c =
    value_fits _ _ c.into.ensures (batch_fits first_heap_cell _ _ _ _ c.in-Err.ensures)
