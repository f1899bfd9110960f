-- `build::cells::copy_cells` meets its contract. Assumes nothing.
use Rattle.meaning.proofs.actions.Copying.{Copying}
use Rattle.build.proofs.cells.copy_cells.Given as goal

abbrev pub invariant-loop-i : goal.invariant-loop-i
invariant-loop-i l = Copying l.initial.ws l.c l.x l.n l.ws l.i
