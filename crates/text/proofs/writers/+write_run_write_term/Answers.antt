use Rattle.std.proofs.Common.{arith, false, refl, ◌∙◌}
use Rattle.store.proofs.Sounds.{heap_termed}
use Rattle.text.proofs.Steps.{with_space, passed_on, page_short, one_more, gap_stopped, term_stopped, term_filled}
use Rattle.text.proofs.Steps.{symbol_arm, bracket_arm, symbol_written, deep_stopped, stop_here}
use Rattle.text.proofs.Steps.{open_stopped, inside_stopped, bracket_written}
use Rattle.text.proofs.writers.+write_run_write_term.Goals as goal

-- one term more, or no more
pub write_run-loop-i-preserved : goal.write_run-loop-i-preserved
write_run-loop-i-preserved t c =
    let w = c.requires.1 c.loop-i.i c.loop-i-test.true in
    one_more _ _ _ _ c.loop-i.i _ _ _ _ c.loop-i-test.true (term_filled _ _ c.requires.0 _ w.0 w.1)
    c.in_ok-next.ensures c.in_ok-next-2.ensures c.loop-i.invariant

pub write_run-returns-in_err-next : goal.write_run-returns-in_err-next
write_run-returns-in_err-next t c =
    let w = c.requires.1 c.loop-i.i c.loop-i-test.true in
    passed_on _ _ _ c.from_residual.ensures.1
    ∙ gap_stopped _ _ _ _ c.loop-i.i _ _ _ c.loop-i-test.true (term_filled _ _ c.requires.0 _ w.0 w.1) (page_short _ _)
    c.in_err-next.ensures c.loop-i.invariant

pub write_run-returns-in_err-next-2 : goal.write_run-returns-in_err-next-2
write_run-returns-in_err-next-2 t c =
    let w = c.requires.1 c.loop-i.i c.loop-i-test.true in
    passed_on _ _ _ c.from_residual-in_err-next-2.ensures.1
    ∙ term_stopped _ _ _ _ c.loop-i.i _ _ _ _ c.loop-i-test.true (term_filled _ _ c.requires.0 _ w.0 w.1)
    (page_short _ _) c.in_ok-next.ensures c.in_err-next-2.ensures c.loop-i.invariant

pub write_term-term_at-requires-clause-termed : goal.write_term-term_at-requires-clause-termed
write_term-term_at-requires-clause-termed t c = let p = c.requires in heap_termed _ _ p.0 _ p.1 p.2

-- a symbol
pub write_term-returns-in_ok-put_code-in-Symbol : goal.write_term-returns-in_ok-put_code-in-Symbol
write_term-returns-in_ok-put_code-in-Symbol t c =
    let p = c.requires in
    symbol_written _ _ _ _ _ (symbol_arm _ _ p.0 _ p.1 p.2 c.term_at.ensures c.in-Symbol.is)
    (with_space false c.in_ok-put_code-in-Symbol.ensures)

pub write_term-returns-in_err-put_code-in-Symbol : goal.write_term-returns-in_err-put_code-in-Symbol
write_term-returns-in_err-put_code-in-Symbol t c =
    let p = c.requires in
    passed_on _ _ _ c.from_residual.ensures.1
    ∙ symbol_written _ _ _ _ _ (symbol_arm _ _ p.0 _ p.1 p.2 c.term_at.ensures c.in-Symbol.is)
    (with_space false c.in_err-put_code-in-Symbol.ensures)

-- a bracket that is one too many
pub write_term-returns-then-left-eq0 : goal.write_term-returns-then-left-eq0
write_term-returns-then-left-eq0 t c =
    let p = c.requires in
    let x = bracket_arm _ _ p.0 _ p.1 p.2 c.term_at.ensures c.in-Bracket.is in
    deep_stopped _ _ _ _ _ x.0 c.if-left-eq0.true (stop_here _ refl)

-- any other
pub write_term-returns-in_err-opened-in-Bracket : goal.write_term-returns-in_err-opened-in-Bracket
write_term-returns-in_err-opened-in-Bracket t c =
    let p = c.requires in
    let x = bracket_arm _ _ p.0 _ p.1 p.2 c.term_at.ensures c.in-Bracket.is in
    passed_on _ _ _ c.from_residual-in_err-opened-in-Bracket.ensures.1
    ∙ open_stopped _ _ _ _ _ x.0 c.if-left-eq0.false refl (with_space false c.in_err-opened-in-Bracket.ensures)

pub write_term-write_run-requires : goal.write_term-write_run-requires
write_term-write_run-requires t c =
    let p = c.requires in
    let x = bracket_arm _ _ p.0 _ p.1 p.2 c.term_at.ensures c.in-Bracket.is in
    (omega (arith, c.decreases, c.if-left-eq0.false), (p.0, x.1))

pub write_term-returns-in_err-written-in-Bracket : goal.write_term-returns-in_err-written-in-Bracket
write_term-returns-in_err-written-in-Bracket t c =
    let p = c.requires in
    let x = bracket_arm _ _ p.0 _ p.1 p.2 c.term_at.ensures c.in-Bracket.is in
    passed_on _ _ _ c.from_residual-in_err-written-in-Bracket.ensures.1
    ∙ inside_stopped _ _ _ _ _ _ x.0 c.if-left-eq0.false (page_short _ _)
    (with_space false c.in_ok-opened-in-Bracket.ensures) c.in_err-written-in-Bracket.ensures

pub write_term-returns-in_err-put-in-Bracket : goal.write_term-returns-in_err-put-in-Bracket
write_term-returns-in_err-put-in-Bracket t c =
    let p = c.requires in
    let x = bracket_arm _ _ p.0 _ p.1 p.2 c.term_at.ensures c.in-Bracket.is in
    passed_on _ _ _ c.from_residual-in_err-put-in-Bracket.ensures.1
    ∙ bracket_written _ _ _ _ _ _ _ x.0 c.if-left-eq0.false (with_space false c.in_ok-opened-in-Bracket.ensures)
    c.in_ok-written-in-Bracket.ensures (with_space false c.in_err-put-in-Bracket.ensures)

pub write_term-returns-in_ok-put-in-Bracket : goal.write_term-returns-in_ok-put-in-Bracket
write_term-returns-in_ok-put-in-Bracket t c =
    let p = c.requires in
    let x = bracket_arm _ _ p.0 _ p.1 p.2 c.term_at.ensures c.in-Bracket.is in
    bracket_written _ _ _ _ _ _ _ x.0 c.if-left-eq0.false (with_space false c.in_ok-opened-in-Bracket.ensures)
    c.in_ok-written-in-Bracket.ensures (with_space false c.in_ok-put-in-Bracket.ensures)
