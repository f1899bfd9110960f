use Rattle.std.proofs.Common.{arith}
use Rattle.octets.proofs.Filling.{finish}
use Rattle.octets.proofs.reading.fill_words.Goals as goal

pub returns : goal.returns
returns c = finish c.loop-i.invariant (omega arith)
