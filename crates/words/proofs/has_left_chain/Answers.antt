-- `words::has_left_chain` meets its contract: a mask of bit 29. Assumes nothing.
use Rattle.words.specs.Second.{decode}
use Rattle.words.proofs.Masks.{test}
use Rattle.words.proofs.has_left_chain.Goals as goal

pub returns : goal.returns
unfolding decode
returns c = test 29 c.args.w
