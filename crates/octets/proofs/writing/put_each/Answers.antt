use Rattle.std.proofs.Common.{refl, ◌∙◌}
use Rattle.octets.proofs.Spaces.{passed, words_cut}
use Rattle.octets.proofs.writing.put_each.Goals as goal

pub returns-in_err-next : goal.returns-in_err-next
returns-in_err-next c =
    passed _ _ c.from_residual.ensures.1
    ∙ words_cut c.args.ws.now c.loop-w.w-index _ _ _ c.loop-w-test.true refl c.in_err-next.ensures c.loop-w.invariant
