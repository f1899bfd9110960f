-- `words::is_full` meets its contract. Assumes nothing.
use Rattle.words.proofs.Plain.{plain_full}
use Rattle.words.proofs.is_full.Goals as goal

pub returns : goal.returns
returns c = plain_full c.args.w c.ranges.w.fits c.requires
