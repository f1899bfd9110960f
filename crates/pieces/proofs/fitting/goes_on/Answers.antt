-- `pieces::fitting::goes_on` meets its contract: the counts decide where all else is in
-- range. Assumes nothing.
use Rattle.std.proofs.Common.{arith}
use Rattle.std.proofs.lemmas.Grind.{common_steps}
use Rattle.meaning.specs.Limits.{depth_limit, terms_limit}
use Rattle.meaning.specs.Pieces.{fits}
use Rattle.pieces.proofs.Looking.{all_within}
use Rattle.pieces.proofs.fitting.goes_on.Goals as goal

pub returns-then-offset_fits : goal.returns-then-offset_fits
unfolding fits depth_limit terms_limit
returns-then-offset_fits c = grind (arith, common_steps, all_within)

pub returns-else-offset_fits : goal.returns-else-offset_fits
unfolding fits depth_limit terms_limit
returns-else-offset_fits c = grind (arith, common_steps)
