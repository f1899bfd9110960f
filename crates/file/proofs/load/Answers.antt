-- `file::load` meets its contract: all is judged, then the store is written. Assumes nothing.
use Rattle.std.proofs.lemmas.Result.{err_from_is_err_and}
use Rattle.file.proofs.Judges.{room}
use Rattle.file.proofs.Loads.{load_refused, load_filled}
use Rattle.file.proofs.load.Goals as goal

pub returns-in_err-image : goal.returns-in_err-image
returns-in_err-image c =
    let p = err_from_is_err_and c.from_residual.result c.from_residual.ensures.1 in
    rw (p.1, p.2) (load_refused _ _ _ c.in_err-image.ensures)

pub fill-requires : goal.fill-requires
fill-requires c = room _ _ _ c.in_ok-image.ensures.0

pub returns : goal.returns
returns c = load_filled _ _ _ c.in_ok-image.ensures _ c.fill.ensures _ c.top.ensures
