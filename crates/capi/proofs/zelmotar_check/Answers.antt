-- `capi::zelmotar_check` meets its contract. Assumes nothing.
use Rattle.meaning.specs.Limits.{first_heap_cell}
use Rattle.meaning.proofs.batch.Fits.{check_fits}
use Rattle.capi.proofs.Values.{value_fits}
use Rattle.capi.proofs.zelmotar_check.Goals as goal

pub new-requires-in-Err : goal.new-requires-in-Err
new-requires-in-Err c = value_fits _ _ c.into.ensures (check_fits first_heap_cell _ _ c.in-Err.ensures)
