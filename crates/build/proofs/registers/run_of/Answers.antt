-- `build::registers::run_of` meets its contract. Assumes nothing.
use Rattle.store.proofs.Registers.{readable}
use Rattle.build.proofs.registers.run_of.Goals as goal

pub run_at-requires-clause-bracketed : goal.run_at-requires-clause-bracketed
run_at-requires-clause-bracketed c = rw c.cell.ensures (readable c.requires.1 c.args.a.below).1
