-- `words::is_stray` meets its contract: masks of bits 30, 29 and 28. Assumes nothing.
use Rattle.words.specs.Second.{decode}
use Rattle.words.proofs.Masks.{test}
use Rattle.words.proofs.is_stray.Goals as goal

pub returns : goal.returns
unfolding decode
returns c = let w = c.args.w in simp (test 30 w, test 29 w, test 28 w)
