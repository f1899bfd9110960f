-- `calls::run` meets its contract. Assumes nothing.
use Rattle.std.proofs.lemmas.Result.{err_from_is_err_and}
use mathlib.Core.Path.{sym, ◌∙◌}
use Rattle.meaning.specs.Limits.{first_heap_cell}
use Rattle.meaning.specs.Verdicts.{Verdict}
use Rattle.meaning.specs.Batch.{as_lent, batch}
use Rattle.meaning.proofs.batch.Cases.{batch_sound}
use Rattle.store.proofs.Sounds.{found_sound, found_refused}
use Rattle.calls.proofs.run.Goals as goal

pub returns-in_err-check : goal.returns-in_err-check
unfolding batch
returns-in_err-check c =
    let p = err_from_is_err_and c.from_residual.result c.from_residual.ensures.1 in
    rw (p.1, p.2)
    (found_refused first_heap_cell _ _ _ _ (λ (v : Verdict). as_lent v c.args.ws.now c.args.top c.args.answers.now)
    c.in_err-check.ensures)

pub run_sound-requires : goal.run_sound-requires
run_sound-requires c = found_sound first_heap_cell _ _ c.in_ok-check.ensures

pub returns : goal.returns
returns c =
    c.run_sound.ensures ∙ sym (batch_sound _ _ _ _ _ (found_sound first_heap_cell _ _ c.in_ok-check.ensures))
