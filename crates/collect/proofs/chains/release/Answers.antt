use mathlib.Core.Path.{sym, ◌∙◌}
use native.Mathlib.Omega.{arith}
use Rattle.collect.proofs.chains.Releasing.{Taken, release_room, release_start, release_next}
use Rattle.collect.proofs.chains.Releasing.{release_again, release_less, release_end}
use Rattle.collect.proofs.chains.release.Goals as goal
use Rattle.collect.proofs.chains.release.Goals.{In-loop-k}

-- what is known of the holder that the chain leads to
took : (c : In-loop-k) → Taken c.loop-k.invariant (sym c.has_left_chain.ensures ∙ c.loop-k-test.true)
took c = release_next c.loop-k.invariant (sym c.has_left_chain.ensures ∙ c.loop-k-test.true) c.requires

pub first_word-first-requires : goal.first_word-first-requires
first_word-first-requires c = release_room c.requires

pub loop-k-init : goal.loop-k-init
loop-k-init c = rw c.first_word-first.ensures release_start

pub first_word-n-requires : goal.first_word-n-requires
first_word-n-requires c =
    (took (goal.at.first_word-n-requires c).In-loop-k).k_in

pub second_word-b-requires : goal.second_word-b-requires
second_word-b-requires c =
    (took (goal.at.second_word-b-requires c).In-loop-k).k_in

pub overflow_sub-to : goal.overflow_sub-to
overflow_sub-to c =
    omega (arith, (took (goal.at.overflow_sub-to c).In-loop-k).short, c.first_word-n.ensures)

pub with_right_end-requires : goal.with_right_end-requires
with_right_end-requires c =
    (took (goal.at.with_right_end-requires c).In-loop-k).small

pub put_cell-requires : goal.put_cell-requires
put_cell-requires c =
    (took (goal.at.put_cell-requires c).In-loop-k).k_in

pub overflow_sub-c : goal.overflow_sub-c
overflow_sub-c c =
    omega (arith, (took (goal.at.overflow_sub-c c).In-loop-k).within, c.first_word-n.ensures)

pub loop-k-smaller : goal.loop-k-smaller
loop-k-smaller c =
    release_less c.loop-k.invariant (sym c.has_left_chain.ensures ∙ c.loop-k-test.true)
    c.take_right_link-second.result c.with_right_end.result c.first_word-n.ensures
    c.second_word-b.ensures c.right_end-first.ensures c.take_right_link-second.ensures
    c.with_right_end.ensures c.put_cell.ensures c.min-low.ensures c.requires

pub loop-k-preserved : goal.loop-k-preserved
loop-k-preserved c =
    release_again c.loop-k.invariant (sym c.has_left_chain.ensures ∙ c.loop-k-test.true)
    c.take_right_link-second.result c.with_right_end.result c.first_word-n.ensures
    c.second_word-b.ensures c.right_end-first.ensures c.take_right_link-second.ensures
    c.with_right_end.ensures c.put_cell.ensures c.min-low.ensures

pub returns : goal.returns
returns c = release_end c.loop-k.invariant (sym c.has_left_chain.ensures ∙ c.loop-k-test.false)
