-- `capi::zelmotar_load` meets its contract. Assumes nothing.
use Rattle.meaning.proofs.file.Fits.{load_fits}
use Rattle.capi.proofs.Values.{value_fits}
use Rattle.capi.proofs.zelmotar_load.Goals as goal

pub new-requires-in-Err : goal.new-requires-in-Err
new-requires-in-Err c = value_fits _ _ c.into.ensures (load_fits _ _ c.in-Err.ensures)
