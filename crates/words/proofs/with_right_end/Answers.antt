-- `words::with_right_end` meets its contract. Assumes nothing.
use Rattle.words.proofs.Fields.{end_put}
use Rattle.words.proofs.with_right_end.Goals as goal

pub returns : goal.returns
returns c = end_put c.ranges.w.fits c.requires
