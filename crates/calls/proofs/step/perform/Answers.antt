-- `calls::step::perform` meets its contract: an arm for each operation, whose words the table of uses has shown to be
-- registers. Assumes nothing.
use mathlib.Core.Path.{refl, sym, ◌∙◌}
use Rattle.meaning.specs.Limits.{first_heap_cell}
use Rattle.meaning.specs.Operands.{SYMBOL, WRAP, JOIN, uses}
use Rattle.meaning.specs.Actions.{share}
use Rattle.meaning.specs.Call.{plan_of, carry_out, perform}
use Rattle.meaning.proofs.collected.Again.{live_kept}
use Rattle.meaning.proofs.operands.Uses.{keeps_operand, keeps_a, keeps_b}
use Rattle.store.proofs.Sounds.{first_heap_cell_pos}
use Rattle.calls.proofs.step.perform.Goals as goal

-- JOIN keeps d where it is an operand register
pub join-requires-clause-survives : goal.join-requires-clause-survives
unfolding uses
join-requires-clause-survives c =
    let k = keeps_operand JOIN c.args.call.d c.args.call.a c.args.call.b refl in
    let q = rw c.in-Join.is at c.is_operand-kept-in-Join.ensures ∙ sym k in
    rw (c.register-d.ensures, c.register-a.ensures, c.register-b.ensures) (
      λ h. q ∙ keeps_a JOIN c.args.call.d c.args.call.a c.args.call.b refl h,
      λ h. q ∙ keeps_b JOIN c.args.call.d c.args.call.a c.args.call.b refl h,
    )

-- ---- what an arm leaves

pub returns-in-Clear : goal.returns-in-Clear
unfolding plan_of carry_out perform
returns-in-Clear c = rw (c.in-Clear.is, c.clear.ensures, c.register.ensures) refl

pub returns-in-Copy : goal.returns-in-Copy
unfolding plan_of carry_out perform share
returns-in-Copy c =
    rw (c.in-Copy.is, c.share.ensures, c.register-in-Copy.ensures, c.register-in-Copy-2.ensures) refl

pub returns-in-Symbol : goal.returns-in-Symbol
unfolding uses plan_of carry_out perform
returns-in-Symbol c =
    let k = keeps_operand SYMBOL c.args.call.d c.args.call.a c.args.call.b refl in
    let q = rw c.in-Symbol.is at c.is_operand-kept.ensures in
    rw (c.in-Symbol.is, k, ← q) (rw c.register-in-Symbol.ensures at c.symbol.ensures)

pub returns-in-Wrap : goal.returns-in-Wrap
unfolding uses plan_of carry_out perform
returns-in-Wrap c =
    let k = keeps_operand WRAP c.args.call.d c.args.call.a c.args.call.b refl in
    let q = rw c.in-Wrap.is at c.is_operand-kept-in-Wrap.ensures in
    rw (c.in-Wrap.is, k, ← q) (rw (c.register-in-Wrap.ensures, c.register-in-Wrap-2.ensures) at c.wrap.ensures)

pub returns-in-Join : goal.returns-in-Join
unfolding uses plan_of carry_out perform
returns-in-Join c =
    let k = keeps_operand JOIN c.args.call.d c.args.call.a c.args.call.b refl in
    let q = rw c.in-Join.is at c.is_operand-kept-in-Join.ensures in
    rw (c.in-Join.is, k, ← q)
    (rw (c.register-d.ensures, c.register-a.ensures, c.register-b.ensures) at c.join.ensures)

pub returns-in-Head : goal.returns-in-Head
unfolding plan_of carry_out perform
returns-in-Head c =
    rw c.in-Head.is (rw (c.register-in-Head.ensures, c.register-in-Head-2.ensures) at (c.head.ensures c.args.top.now))

pub returns-in-Rest : goal.returns-in-Rest
unfolding plan_of carry_out perform
returns-in-Rest c =
    rw c.in-Rest.is (rw (c.register-in-Rest.ensures, c.register-in-Rest-2.ensures) at (c.rest.ensures c.args.top.now))

pub returns-in-Open : goal.returns-in-Open
unfolding plan_of carry_out perform
returns-in-Open c =
    rw c.in-Open.is
    (rw (c.register-in-Open.ensures, c.register-in-Open-2.ensures) at (c.open_first.ensures c.args.top.now))

pub returns-in-Length : goal.returns-in-Length
unfolding plan_of carry_out perform
returns-in-Length c = rw (c.in-Length.is, c.length.ensures, c.register-in-Length.ensures) refl

pub returns-in-First : goal.returns-in-First
unfolding plan_of carry_out perform
returns-in-First c = rw c.in-First.is (rw c.register-in-First.ensures at (c.first.ensures c.args.top.now))

pub returns-in-Live : goal.returns-in-Live
unfolding plan_of carry_out perform
returns-in-Live c = rw (c.in-Live.is, c.live.ensures.0, c.live.ensures.1) refl

pub returns-in-Collect : goal.returns-in-Collect
unfolding plan_of carry_out perform
returns-in-Collect c =
    let kept = live_kept first_heap_cell c.args.ws.now c.args.top.now first_heap_cell_pos c.requires.0 in
    rw (c.in-Collect.is, kept) c.collect_store.ensures
