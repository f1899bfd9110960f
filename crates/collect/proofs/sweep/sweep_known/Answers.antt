use native.Mathlib.Omega.{arith}
use Rattle.collect.proofs.sweep.Running.{run_turn, run_place, run_within, run_pred, run_room}
use Rattle.collect.proofs.sweep.Running.{run_next, run_again, run_end}
use Rattle.collect.proofs.sweep.sweep_known.Goals as goal

pub overflow_add-c : goal.overflow_add-c
overflow_add-c c = let k = run_place c.requires in omega (arith, k.1)

pub turn-low-requires : goal.turn-low-requires
turn-low-requires c = run_turn c.requires

pub second_word-w-requires : goal.second_word-w-requires
second_word-w-requires c =
    (run_room (run_pred c.loop-low-test.true c.loop-low.invariant) (omega arith)
    (run_within c.turn-low.ensures c.requires)).0

pub overflow_add-c-in-loop-low : goal.overflow_add-c-in-loop-low
overflow_add-c-in-loop-low c =
    let k =
    run_room (run_pred c.loop-low-test.true c.loop-low.invariant) (omega arith)
    (run_within c.turn-low.ensures c.requires) in
    omega (arith, k.1)

pub turn-low-requires-in-loop-low : goal.turn-low-requires-in-loop-low
turn-low-requires-in-loop-low c =
    run_next (run_pred c.loop-low-test.true c.loop-low.invariant) (omega arith)
    (run_within c.turn-low.ensures c.requires)
    c.second_word-w.ensures

pub loop-low-preserved : goal.loop-low-preserved
loop-low-preserved c =
    run_again (run_pred c.loop-low-test.true c.loop-low.invariant) (omega arith) c.second_word-w.ensures
    c.turn-low-in-loop-low.auto.ws c.turn-low-in-loop-low.ensures

pub returns : goal.returns
returns c = run_end c.turn-low.ensures c.loop-low.invariant c.loop-low-test.false
