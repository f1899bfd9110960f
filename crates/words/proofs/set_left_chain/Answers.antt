-- `words::set_left_chain` meets its contract. Assumes nothing.
use Rattle.words.proofs.Fields.{lc_on}
use Rattle.words.proofs.set_left_chain.Goals as goal

pub returns : goal.returns
returns c = lc_on c.ranges.w.fits
