-- `words::take_right_link` meets its contract. Assumes nothing.
use Rattle.words.proofs.Fields.{right_to_left}
use Rattle.words.proofs.take_right_link.Goals as goal

pub returns : goal.returns
returns c = right_to_left c.ranges.w.fits c.args.b
