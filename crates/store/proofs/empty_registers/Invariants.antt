-- `store::empty_registers` meets its contract. The loop's invariant: the cells passed are empty registers. Assumes
-- nothing.
use mathlib.Core.Path.{◌≡◌}
use Prim.Native.Nat.{◌*◌}
use lib.ListN.{take}
use Rattle.meaning.specs.Fresh.{empty_registers}
use Rattle.store.proofs.empty_registers.Given as goal

abbrev pub invariant-loop-c : goal.invariant-loop-c
invariant-loop-c l = take (2 * l.c) l.ws ≡ empty_registers l.c
