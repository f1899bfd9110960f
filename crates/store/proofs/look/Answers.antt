-- `store::look` meets its contract. Assumes nothing.
use mathlib.Core.Path.{refl, ap}
use Prim.Native.Nat.{◌-◌}
use native.Mathlib.Omega.{arith}
use lib.ListN.{take, drop}
use Rattle.meaning.specs.Look.{Span, look}
use Rattle.store.proofs.look.Goals as goal

pub returns : goal.returns
unfolding look
returns c =
    let e = c.look_span-from.ensures.0 in (
      ap (λ (s : Span). take (s.to - s.from) (drop s.from c.args.ws.now)) e,
      (refl, omega (arith, ap (λ (s : Span). s.from) e)),
    )
