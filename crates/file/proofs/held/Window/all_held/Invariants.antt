-- `file::held::Window::all_held` meets its contract: what is left of the look is the same as the whole.
-- Assumes nothing.
use Rattle.std.proofs.Common.{◌≡◌, ◌+◌, drop}
use Rattle.file.specs.Windows.{along}
use Rattle.file.proofs.held.Window.all_held.Given as goal

abbrev pub invariant-loop-j : goal.invariant-loop-j
invariant-loop-j l = along (l.self.start + l.j) l.reach (drop l.j l.far) ≡ along l.self.start 0 l.far
