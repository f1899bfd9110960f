use mathlib.Core.Path.{ap, ◌∙◌}
use Prim.Native.Nat.{◌+◌, ◌*◌}
use native.Mathlib.Omega.{arith}
use lib.ListN.{take}
use Rattle.meaning.proofs.fresh.Making.{one_more}
use Rattle.store.proofs.empty_registers.Goals as goal

pub loop-c-preserved : goal.loop-c-preserved
loop-c-preserved c =
    let more = one_more c.loop-c.ws c.loop-c.c (omega arith) c.loop-c.invariant in
    ap (take (2 * (c.loop-c.c + 1))) c.put_cell.ensures ∙ more
