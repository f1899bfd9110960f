-- `words::is_bracket` meets its contract: a mask of bit 31. Assumes nothing.
use Rattle.words.specs.Second.{decode}
use Rattle.words.proofs.Masks.{test}
use Rattle.words.proofs.is_bracket.Goals as goal

pub returns : goal.returns
unfolding decode
returns c = test 31 c.args.w
