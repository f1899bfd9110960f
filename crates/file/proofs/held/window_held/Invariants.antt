-- `file::held::window_held` meets its contract: the runs of the cells below c are noted. Assumes nothing.
use Rattle.std.proofs.Common.{◌≡◌, length}
use Rattle.file.specs.declared.held.TheConstants.{WINDOW}
use Rattle.file.specs.Images.{cell_in}
use Rattle.file.specs.Windows.{Noted}
use Rattle.file.proofs.held.window_held.Given as goal

abbrev pub invariant-loop-c : goal.invariant-loop-c
invariant-loop-c l =
    (l.window.start ≡ l.start) × (length l.window.far ≡ WINDOW)
    × Noted (cell_in l.image) l.c l.start l.window.far
