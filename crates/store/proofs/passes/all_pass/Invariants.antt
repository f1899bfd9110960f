-- `store::passes::all_pass` meets its contract. The loop's invariant: nothing is gathered only where the cells passed
-- passed the test. Assumes nothing.
use mathlib.Core.Bool.{true}
use Rattle.store.proofs.Damage.{Clear}
use Rattle.store.proofs.passes.all_pass.Given as goal

abbrev pub invariant-loop-c : goal.invariant-loop-c
invariant-loop-c g l = Clear (λ c. goal.F-post g l.test c true) l.low l.damage l.c
