-- `build::laying::lay_run` meets its contract. Assumes nothing.
use native.Mathlib.Omega.{arith}
use Rattle.store.proofs.Registers.{run_below}
use Rattle.build.proofs.Runs.{run_laid}
use Rattle.build.proofs.laying.lay_run.Goals as goal

pub copy_cells-requires : goal.copy_cells-requires
copy_cells-requires c =
    (omega arith, omega (arith, run_below c.args.a.cell c.requires.roomy.0 c.args.a.below))

pub copy_cells-requires-2 : goal.copy_cells-requires-2
copy_cells-requires-2 c =
    (omega arith, omega (arith, run_below c.args.b.cell c.requires.roomy.0 c.args.b.below))

pub returns : goal.returns
returns c =
    run_laid c.args.ws.now c.args.top c.args.d.cell c.args.a.cell c.args.b.cell c.run_of-p.result c.run_of-q.result
    c.run_of-p.ensures c.run_of-q.ensures c.copy_cells.ensures c.copy_cells-2.ensures
    (rw c.cell.ensures at c.put_ends.ensures)
