-- `words::take_left_link` meets its contract. Assumes nothing.
use Rattle.words.proofs.Fields.{left_to_right}
use Rattle.words.proofs.take_left_link.Goals as goal

pub returns : goal.returns
returns c = left_to_right c.ranges.w.fits c.args.b c.requires
