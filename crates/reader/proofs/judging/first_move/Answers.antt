-- `reader::judging::first_move` meets its contract: a bracket, by how many may be open. Assumes nothing.
use Rattle.std.proofs.Common.{arith}
use Rattle.std.proofs.lemmas.Grind.{common_steps}
use Rattle.meaning.specs.Limits.{depth_limit}
use Rattle.meaning.specs.Judge.{first_move, is_digit}
use Rattle.reader.proofs.judging.first_move.Goals as goal

pub returns-in-40 : goal.returns-in-40
unfolding first_move is_digit depth_limit
returns-in-40 c = grind (arith, common_steps)

pub returns-in-40-2 : goal.returns-in-40-2
unfolding first_move is_digit depth_limit
returns-in-40-2 c = grind (arith, common_steps)

pub returns-in-40-3 : goal.returns-in-40-3
unfolding first_move is_digit depth_limit
returns-in-40-3 c = grind (arith, common_steps)
