-- `collect` meets its contract: the check decides, and only a sound store is collected. Assumes nothing.
use Rattle.std.proofs.lemmas.Result.{err_from_is_err_and}
use Rattle.meaning.specs.Limits.{first_heap_cell}
use Rattle.store.proofs.Sounds.{found_sound}
use Rattle.store.proofs.Alone.{refuses, alone_done}
use Rattle.collect.proofs.collect.Goals as goal

pub returns-in_err-check : goal.returns-in_err-check
returns-in_err-check c =
    let p = err_from_is_err_and c.from_residual.result c.from_residual.ensures.1 in
    rw (p.1, p.2) (refuses _ _ _ _ c.in_err-check.ensures)

pub collect_sound-new-requires : goal.collect_sound-new-requires
collect_sound-new-requires c = found_sound first_heap_cell _ _ c.in_ok-check.ensures

pub returns : goal.returns
returns c =
    let s = found_sound first_heap_cell _ _ c.in_ok-check.ensures in
    alone_done _ _ _ s _ _ c.collect_sound-new.ensures.0 c.collect_sound-new.ensures.1
