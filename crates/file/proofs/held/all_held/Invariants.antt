-- `file::held::all_held` meets its contract: the cells below `start` are held. Assumes nothing.
use Rattle.std.proofs.Common.{◌≡◌, ◌-◌}
use Rattle.file.specs.Images.{top_in, cell_in}
use Rattle.file.specs.Windows.{held_from}
use Rattle.file.proofs.held.all_held.Given as goal

abbrev pub invariant-loop-start : goal.invariant-loop-start
invariant-loop-start l =
    let i = l.image in
    held_from (cell_in i) (top_in i) l.start (top_in i - l.start) ≡ held_from (cell_in i) (top_in i) i.first i.cells
