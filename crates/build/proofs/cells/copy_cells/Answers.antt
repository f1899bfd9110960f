use Rattle.meaning.proofs.actions.Copying.{onward}
use Rattle.build.proofs.cells.copy_cells.Goals as goal

pub loop-i-preserved : goal.loop-i-preserved
loop-i-preserved c = onward c.loop-i.invariant c.loop-i-test.true c.copy_cell.ensures
