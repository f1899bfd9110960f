-- `lower::lower` meets its contract. The loop's invariant: the cells below i are done. Assumes nothing.
use mathlib.Core.Path.{◌≡◌}
use Prim.Native.Nat.{ℕ, ◌+◌, ◌≤◌, ◌<◌}
use Rattle.collect.specs.Cells.{cell}
use Rattle.collect.specs.Step.{lowered}
use Rattle.collect.proofs.lower.lower.Given as goal

abbrev pub invariant-loop-i : goal.invariant-loop-i
invariant-loop-i l =
    ((c x : ℕ) → c + l.by ≡ x → l.low ≤ x → x < l.i → cell l.ws c ≡ lowered l.d (cell l.initial.ws x))
    × ((c : ℕ) → (l.low ≤ c + l.by → l.i ≤ c + l.by) → cell l.ws c ≡ cell l.initial.ws c)
