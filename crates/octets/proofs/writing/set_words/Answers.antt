use Rattle.std.proofs.Common.{arith, ◌∙◌}
use Rattle.octets.proofs.Endian.{bytes_one}
use Rattle.octets.proofs.Spaces.{sets_next}
use Rattle.octets.proofs.writing.set_words.Goals as goal

pub loop-i-preserved : goal.loop-i-preserved
loop-i-preserved c =
    sets_next c.args.ws.now c.loop-i.out _ _ c.args.place c.loop-i.i c.loop-i-test.true
    (omega (arith, c.requires, c.loop-i.auto.out))
    (c.copy_from_slice.ensures.after ∙ (c.to_le_bytes.ensures ∙ bytes_one _ (c.type_inv.ws c.loop-i.i).fits))
    c.loop-i.invariant
