use Rattle.std.proofs.Common.{refl, arith, ◌*◌, ◌∙◌}
use Rattle.octets.proofs.Spaces.{passed}
use Rattle.serve.proofs.Spacing.{lines_next, lines_cut, lines_none}
use Rattle.serve.proofs.writing.lines.Goals as goal

pub loop-status-preserved : goal.loop-status-preserved
loop-status-preserved c =
    let cut = c.as_chunks.ensures in
    lines_next c.args.answers.now _ cut.front cut.front_len c.loop-status.status-index c.loop-status-test.true _ _ _
    c.in_ok-next.ensures c.loop-status.invariant

pub returns-in_err-next : goal.returns-in_err-next
returns-in_err-next c =
    let cut = c.as_chunks.ensures in
    passed _ _ c.from_residual.ensures.1
    ∙ lines_cut c.args.answers.now _ cut.front cut.front_len c.loop-status.status-index c.loop-status-test.true _ _ _
    refl c.in_err-next.ensures c.loop-status.invariant

pub returns : goal.returns
returns c =
    let cut = c.as_chunks.ensures in
    lines_none c.args.answers.now (2 * c.loop-status.status-index) _ _ (omega (arith, cut.front_len))
    c.loop-status.invariant
