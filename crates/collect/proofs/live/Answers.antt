-- `live` counts the reached cells and leaves every word. Assumes nothing.
use mathlib.Core.Bool.{false}
use mathlib.Core.Path.{refl}
use native.Mathlib.Omega.{arith}
use borrow.Author.Rules.{rules}
use Rattle.meaning.specs.Limits.{first_heap_cell}
use Rattle.collect.proofs.Heaps.{begun}
use Rattle.collect.proofs.Restored.{Kept, kept, live_is, live_low, restored}
use Rattle.collect.proofs.live.Goals as goal
use Rattle.collect.proofs.live.Goals.{After-sweep-dead}

swept : (c : After-sweep-dead) → Kept c.args.ws.now c.args.top c.requires c.sweep-dead.new.ws c.sweep-dead.result
swept c = kept _ _ c.requires _ c.sweep-dead.ensures (λ n d e. search rules)

pub sweep-dead-requires-clause-start : goal.sweep-dead-requires-clause-start
sweep-dead-requires-clause-start c =
    (_, begun first_heap_cell c.args.ws.now c.args.top false (omega arith) c.requires refl (λ n d e. search rules))

pub overflow_sub-result-2 : goal.overflow_sub-result-2
overflow_sub-result-2 c = live_low _ _ c.requires (swept (goal.at.overflow_sub-result-2 c).After-sweep-dead)

pub returns : goal.returns
returns c =
    let w = swept (goal.at.returns c).After-sweep-dead in (
      restored _ _ c.requires w c.sweep-dead.auto.ws (λ i. omega (arith, c.type_inv.ws i)),
      live_is _ _ c.requires w,
    )
