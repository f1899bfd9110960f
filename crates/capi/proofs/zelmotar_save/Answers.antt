-- `capi::zelmotar_save` meets its contract. Assumes nothing.
use Rattle.meaning.specs.Limits.{first_heap_cell, edition}
use Rattle.meaning.proofs.file.Fits.{save_fits}
use Rattle.capi.proofs.Values.{value_fits}
use Rattle.capi.proofs.zelmotar_save.Goals as goal

pub new-requires-in-Err : goal.new-requires-in-Err
new-requires-in-Err c =
    value_fits _ _ c.into-in-Err.ensures (save_fits edition first_heap_cell _ _ _ c.in-Err.ensures)
