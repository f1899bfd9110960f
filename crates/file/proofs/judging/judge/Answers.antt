-- `file::judging::judge` meets its contract. Assumes nothing.
use Rattle.std.proofs.Common.{sym, ◌∙◌}
use Rattle.std.proofs.lemmas.Result.{err_from_is_err_and}
use Rattle.file.proofs.Judges.{judged, found_ready, found_uncollected}
use Rattle.file.proofs.judging.judge.Goals as goal

pub returns-in_err-check_cells : goal.returns-in_err-check_cells
returns-in_err-check_cells c =
    let exit = c.from_residual-in_err-check_cells in
    let p = err_from_is_err_and exit.result exit.ensures.1 in
    rw (p.1, p.2) (judged _ _ _ c.in_ok-image.ensures ∙ c.in_err-check_cells.ensures)

pub returns-then-not-all_held : goal.returns-then-not-all_held
returns-then-not-all_held c =
    judged _ _ _ c.in_ok-image.ensures
    ∙ found_uncollected _ _ _ c.in_ok-check_cells.ensures (sym c.if-not-all_held.ensures)

pub returns : goal.returns
returns c = (
  c.in_ok-image.ensures,
  judged _ _ _ c.in_ok-image.ensures
      ∙ found_ready _ _ _ c.in_ok-check_cells.ensures (sym c.if-not-all_held.ensures),
)
