-- `octets::writing::put` meets its contract: a case for each of the definition's. Assumes nothing.
use Rattle.std.proofs.Common.{refl, sym}
use Rattle.octets.proofs.Spaces.{put_in, put_past}
use Rattle.octets.proofs.writing.put.Goals as goal

pub returns-then-out-place : goal.returns-then-out-place
returns-then-out-place c = sym (put_past _ _ refl c.if-out-place.true)

pub returns : goal.returns
returns c = sym (put_in _ _ refl c.if-out-place.false)
