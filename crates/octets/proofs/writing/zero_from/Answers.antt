-- `octets::writing::zero_from` meets its contract. Assumes nothing.
use Rattle.std.proofs.Common.{arith}
use Rattle.octets.proofs.Filling.{zeros_from, zeros_none}
use Rattle.octets.proofs.writing.zero_from.Goals as goal

pub returns-then-from-out : goal.returns-then-from-out
returns-then-from-out c = zeros_from c.args.out.now c.args.from _ (omega arith) (c.fill.ensures.after (λ y h. h))

pub returns-else-from-out : goal.returns-else-from-out
returns-else-from-out c = zeros_none c.args.out.now c.args.from c.if-from-out.false
