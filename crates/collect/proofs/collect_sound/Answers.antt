-- `collect_sound` collects a sound store. Assumes nothing.
use mathlib.Core.Bool.{true}
use mathlib.Core.Path.{refl, ◌∙◌}
use native.Mathlib.Omega.{arith}
use borrow.Author.Rules.{rules}
use Rattle.meaning.specs.Limits.{first_heap_cell}
use Rattle.meaning.proofs.sound.Cells.{limit_fits}
use Rattle.collect.proofs.Heaps.{begun}
use Rattle.collect.proofs.Compacted.{Packed, packed, top_is, lowerable, settleable, compacted, not_lowered}
use Rattle.collect.proofs.collect_sound.Goals as goal
use Rattle.collect.proofs.collect_sound.Goals.{After-sweep-dead}

swept : (c : After-sweep-dead) → Packed c.args.ws.now c.args.top c.requires c.sweep-dead.new.ws c.sweep-dead.result
swept c = packed _ _ c.requires _ c.sweep-dead.ensures (λ n d e. search rules)

pub sweep-dead-requires-clause-start : goal.sweep-dead-requires-clause-start
sweep-dead-requires-clause-start c =
    (_, begun first_heap_cell c.args.ws.now c.args.top true (omega arith) c.requires refl (λ n d e. search rules))

pub returns-then-dead-eq0 : goal.returns-then-dead-eq0
returns-then-dead-eq0 c =
    let w = swept (goal.at.returns-then-dead-eq0 c).After-sweep-dead in (
      not_lowered _ _ c.requires w c.if-dead-eq0.true c.sweep-dead.auto.ws (λ i. omega (arith, c.type_inv.ws i)),
      omega (arith, top_is _ _ c.requires w, c.if-dead-eq0.true),
    )

pub overflow_cast-d : goal.overflow_cast-d
overflow_cast-d c =
    omega (
      arith,
      (swept (goal.at.overflow_cast-d c).After-sweep-dead).gone,
      c.requires.high,
      c.requires.allowed.small,
      limit_fits,
    )

pub overflow_add-dead : goal.overflow_add-dead
overflow_add-dead c =
    let w = swept (goal.at.overflow_add-dead c).After-sweep-dead in
    omega (arith, w.gone, c.requires.high, c.requires.allowed.small)

pub lower-requires : goal.lower-requires
lower-requires c = lowerable _ _ c.requires (swept (goal.at.lower-requires c).After-sweep-dead)

pub lower-requires-2 : goal.lower-requires-2
lower-requires-2 c =
    settleable _ _ c.requires (swept (goal.at.lower-requires-2 c).After-sweep-dead) c.lower.auto.ws c.lower.ensures

pub overflow_sub-top : goal.overflow_sub-top
overflow_sub-top c = omega (arith, (swept (goal.at.overflow_sub-top c).After-sweep-dead).gone)

pub overflow_sub-result : goal.overflow_sub-result
overflow_sub-result c = omega (arith, (swept (goal.at.overflow_sub-result c).After-sweep-dead).gone)

pub returns : goal.returns
returns c =
    let w = swept (goal.at.returns c).After-sweep-dead in (
      compacted _ _ c.requires w c.lower.ensures c.lower-2.ensures c.clear.ensures
          (c.clear.auto.ws ∙ c.lower-2.auto.ws ∙ c.lower.auto.ws ∙ c.sweep-dead.auto.ws)
          (λ i. omega (arith, c.type_inv.ws i)),
      top_is _ _ c.requires w,
    )
