-- `collect_for` collects where that frees enough cells. Assumes nothing.
use mathlib.Core.Path.{◌≡◌, ap}
use Prim.Native.Nat.{ℕ, ◌+◌}
use native.Mathlib.Omega.{arith}
use Rattle.meaning.specs.Limits.{first_heap_cell}
use Rattle.meaning.specs.Collected.{collected_top}
use Rattle.meaning.proofs.sound.Cells.{limit_fits}
use Rattle.collect.proofs.Wanted.{low_top, at_once}
use Rattle.collect.proofs.collect_for.Goals as goal
use Rattle.collect.proofs.collect_for.Goals.{After-live-low}

-- the count and the first heap cell are the collected store's `top`
low_is : (c : After-live-low) →
    first_heap_cell + c.live-low.result ≡ collected_top first_heap_cell c.args.ws.now c.args.top
low_is c = ap (λ (x : ℕ). first_heap_cell + x) c.live-low.ensures.1

pub returns-then-wanted-le1 : goal.returns-then-wanted-le1
returns-then-wanted-le1 c =
    let g = c.collect_sound.ensures in
    (at_once c.args.ws.now c.args.top c.args.wanted c.requires _ g.1 c.if-wanted-le1.true g.0, g.1)

pub overflow_add-low : goal.overflow_add-low
overflow_add-low c =
    omega (
      arith,
      limit_fits,
      low_is (goal.at.overflow_add-low c).After-live-low,
      low_top c.args.ws.now c.args.top c.args.wanted c.requires,
      c.requires.high,
      c.requires.allowed.small,
    )

pub overflow_sub-top : goal.overflow_sub-top
overflow_sub-top c =
    let l = low_is (goal.at.overflow_sub-top c).After-live-low in
    omega (arith, l, low_top c.args.ws.now c.args.top c.args.wanted c.requires)
