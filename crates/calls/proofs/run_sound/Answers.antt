-- `calls::run_sound` meets its contract. Assumes nothing.
use mathlib.Core.Path.{sym, ◌∙◌}
use borrow.Author.Rules.{rules}
use Rattle.meaning.specs.Limits.{first_heap_cell}
use Rattle.meaning.proofs.batch.Cases.{calls_yes, bad_calls_lem, short_answers_lem}
use Rattle.calls.proofs.Batching.{filled}
use Rattle.calls.proofs.run_sound.Goals as goal

pub returns-then-not-calls_ok : goal.returns-then-not-calls_ok
returns-then-not-calls_ok c =
    sym (bad_calls_lem first_heap_cell c.args.ws.now c.args.top c.args.calls.now c.args.answers.now
    (sym c.calls_ok.ensures ∙ c.if-not-calls_ok.true))

pub returns-then-answers-used : goal.returns-then-answers-used
returns-then-answers-used c =
    sym (short_answers_lem first_heap_cell c.args.ws.now c.args.top c.args.calls.now c.args.answers.now
    (sym c.calls_ok.ensures ∙ c.if-not-calls_ok.false) c.if-answers-used.true)

pub run_calls-requires : goal.run_calls-requires
run_calls-requires c = (
  c.requires,
  (calls_yes _ (sym c.calls_ok.ensures ∙ c.if-not-calls_ok.false)).whole,
  c.if-answers-used.false,
)

pub returns : goal.returns
returns c =
    sym (filled c.args.ws.now c.args.top c.args.calls.now c.args.answers.now
    c.run_calls.new.answers (sym c.calls_ok.ensures ∙ c.if-not-calls_ok.false)
    c.if-answers-used.false
    c.run_calls.ensures (search rules) c.zero_from.ensures)
