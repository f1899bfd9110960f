use Rattle.std.proofs.Common.{refl, ◌∙◌}
use Rattle.octets.proofs.Spaces.{passed, bytes_cut}
use Rattle.octets.proofs.writing.put_bytes.Goals as goal

pub returns-in_err-next : goal.returns-in_err-next
returns-in_err-next c =
    passed _ _ c.from_residual.ensures.1
    ∙ bytes_cut c.args.s.now c.loop-b.b-index _ _ _ c.loop-b-test.true refl c.in_err-next.ensures c.loop-b.invariant
