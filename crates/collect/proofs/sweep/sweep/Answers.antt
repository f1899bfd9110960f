use mathlib.Core.Path.{sym, ◌∙◌}
use native.Mathlib.Omega.{arith}
use Rattle.collect.proofs.sweep.Descending.{registered, down_start, down_pred, down_room, down_head}
use Rattle.collect.proofs.sweep.Descending.{down_known, down_less, down_dead, down_end}
use Rattle.collect.proofs.sweep.sweep.Goals as goal

pub second_word-w-requires : goal.second_word-w-requires
second_word-w-requires g c =
    let o = c.requires.start in
    (down_room (down_pred c.loop-c-test.true c.loop-c.invariant) (omega arith) o.0
    (registered c.hold_registers.ensures o.0 o.1)).0

pub sweep_known-c-requires : goal.sweep_known-c-requires
sweep_known-c-requires g c =
    let o = c.requires.start in
    down_head (down_pred c.loop-c-test.true c.loop-c.invariant) (omega arith) c.second_word-w.ensures o.0
    (registered c.hold_registers.ensures o.0 o.1) (sym c.has_left_chain.ensures ∙ c.if-has_left_chain.true)
    c.lift.ensures

pub loop-c-smaller-then-has_left_chain : goal.loop-c-smaller-then-has_left_chain
loop-c-smaller-then-has_left_chain g c =
    let o = c.requires.start in
    let q =
    down_less (down_pred c.loop-c-test.true c.loop-c.invariant) (omega arith) c.second_word-w.ensures o.0
    (registered c.hold_registers.ensures o.0 o.1) (sym c.has_left_chain.ensures ∙ c.if-has_left_chain.true)
    c.lift.ensures c.sweep_known-c.ensures in
    omega (arith, q, c.loop-c-test.true)

pub loop-c-preserved-then-has_left_chain : goal.loop-c-preserved-then-has_left_chain
loop-c-preserved-then-has_left_chain g c =
    down_known (down_pred c.loop-c-test.true c.loop-c.invariant) (omega arith) c.second_word-w.ensures
    (sym c.has_left_chain.ensures ∙ c.if-has_left_chain.true) c.lift.ensures c.sweep_known-c.auto.ws
    c.sweep_known-c.ensures

pub overflow_add-dead : goal.overflow_add-dead
overflow_add-dead g c =
    let o = c.requires.start in
    let k = down_room (down_pred c.loop-c-test.true c.loop-c.invariant) (omega arith) o.0
    (registered c.hold_registers.ensures o.0 o.1) in
    omega (arith, k.1)

pub loop-c-preserved : goal.loop-c-preserved
loop-c-preserved g c =
    down_dead (down_pred c.loop-c-test.true c.loop-c.invariant) (omega arith) c.second_word-w.ensures
    (sym c.has_left_chain.ensures ∙ c.if-has_left_chain.false)

pub returns : goal.returns
returns g c = down_end c.loop-c.invariant c.loop-c-test.false c.hold_registers.ensures

pub loop-c-init : goal.loop-c-init
loop-c-init g c = down_start
