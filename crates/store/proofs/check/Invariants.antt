-- `store::check` meets its contract. The scan's invariant: the first damaged cell of those left is the first of all.
-- Assumes nothing.
use mathlib.Core.Path.{◌≡◌}
use Prim.Native.Nat.{◌-◌}
use Rattle.meaning.specs.Limits.{first_heap_cell}
use Rattle.meaning.specs.Check.{damaged}
use Rattle.store.proofs.check.Given as goal

abbrev pub invariant-loop-c : goal.invariant-loop-c
invariant-loop-c l =
    damaged first_heap_cell l.ws l.top l.c (l.cells - l.c) ≡ damaged first_heap_cell l.ws l.top 0 l.cells
