use mathlib.Core.Path.{◌≡◌, sym, ap, ◌∙◌}
use mathlib.Core.Bool.{true}
use Prim.Native.Nat.{◌/◌}
use lib.ListN.{length}
use borrow.Author.Rules.{rules}
use Rattle.meaning.specs.Limits.{first_heap_cell}
use Rattle.meaning.specs.Check.{length_test, top_test, verdict_at}
use Rattle.meaning.proofs.check.Scanning.{check_length, check_top, check_cells, check_kept, placed, ruled, turn, stop}
use Rattle.meaning.proofs.check.Scanning.{finish, verdict_damaged, verdict_sound}
use Rattle.store.proofs.Refusals.{rule_some}
use Rattle.store.proofs.check.Goals as goal
use Rattle.store.proofs.check.Goals.{Else-not-top_ok}

-- the tests that were passed
passed : (c : Else-not-top_ok) →
    (length_test first_heap_cell (length c.args.ws.now) ≡ true)
    × (top_test first_heap_cell (length c.args.ws.now / 2) c.args.top ≡ true)
passed c = (sym c.if-not-length_ok.ensures, sym c.if-not-top_ok.ensures)

pub returns-then-not-length_ok : goal.returns-then-not-length_ok
returns-then-not-length_ok c =
    sym (check_length first_heap_cell _ _ (sym c.if-not-length_ok.ensures))

pub returns-then-not-top_ok : goal.returns-then-not-top_ok
returns-then-not-top_ok c =
    sym (check_top first_heap_cell _ _ (sym c.if-not-length_ok.ensures) (sym c.if-not-top_ok.ensures))

pub all_ok-requires : goal.all_ok-requires
all_ok-requires c =
    let t = passed (goal.at.all_ok-requires c).Else-not-top_ok in
    placed first_heap_cell c.args.ws.now c.args.top t.0 t.1

pub returns-then-all_ok : goal.returns-then-all_ok
returns-then-all_ok c =
    let t = passed (goal.at.returns-then-all_ok c).Else-not-top_ok in
    sym (check_kept first_heap_cell _ _ t.0 t.1 (c.all_ok.ensures c.if-all_ok.true))

pub returns-in-Some : goal.returns-in-Some
returns-in-Some c =
    let t = passed (goal.at.returns-in-Some c).Else-not-top_ok in
    let e = ruled first_heap_cell _ _ c.first_word.ensures c.second_word.ensures c.in-Some.ensures in
    sym (verdict_damaged first_heap_cell _ _ _ _ (search rules) e)
    ∙ ap (verdict_at first_heap_cell _ _)
    (sym (stop first_heap_cell _ _ _ _ (search rules) (λ z. rule_some c.in-Some.rule (sym e ∙ z))) ∙ c.loop-c.invariant)
    ∙ sym (check_cells first_heap_cell _ _ t.0 t.1)

pub loop-c-preserved : goal.loop-c-preserved
loop-c-preserved c =
    let e = ruled first_heap_cell _ _ c.first_word.ensures c.second_word.ensures c.in_default.ensures in
    turn first_heap_cell _ _ _ _ (search rules) e ∙ c.loop-c.invariant

pub returns-after-loop-c : goal.returns-after-loop-c
returns-after-loop-c c =
    let t = passed (goal.at.returns-after-loop-c c).Else-not-top_ok in
    sym (verdict_sound first_heap_cell _ _ _ c.loop-c-test.false)
    ∙ ap (verdict_at first_heap_cell _ _) (sym (finish first_heap_cell _ _ _ _ c.loop-c-test.false)
    ∙ c.loop-c.invariant)
    ∙ sym (check_cells first_heap_cell _ _ t.0 t.1)
