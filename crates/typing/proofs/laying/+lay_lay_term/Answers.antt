use Rattle.std.proofs.Common.{arith, refl, sym, ◌∙◌}
use Rattle.typing.proofs.Going.{begin, room, ready_term, filled, some_terms, onward, finish}
use Rattle.typing.proofs.Terming.{room_high, own_inside, left_some, can_lay_inside, inside_long, inside_small}
use Rattle.typing.proofs.Terming.{bracket_laid, code_small, symbol_laid}
use Rattle.typing.proofs.laying.+lay_lay_term.Goals as goal

pub lay-loop-ws-init : goal.lay-loop-ws-init
lay-loop-ws-init t c = λ e rest r. begin r

-- one term more
pub lay-lay_term-requires : goal.lay-lay_term-requires
lay-lay_term-requires t c =
    let p = c.requires in
    let g = c.loop-ws.invariant p.0 p.1 p.2 in
    let f = filled p.2 g (sym c.goes_on.ensures ∙ c.loop-ws-test.true) in
    (omega (arith, c.decreases), (g.todo, p.1, ready_term p.2 g, f))

pub lay-overflow_sub-wait : goal.lay-overflow_sub-wait
lay-overflow_sub-wait t c =
    let p = c.requires in
    let g = c.loop-ws.invariant p.0 p.1 p.2 in
    let f = filled p.2 g (sym c.goes_on.ensures ∙ c.loop-ws-test.true) in
    omega (arith, room p.2 g, some_terms g.todo f)

pub lay-loop-ws-smaller : goal.lay-loop-ws-smaller
lay-loop-ws-smaller t c =
    let p = c.requires in
    let g = c.loop-ws.invariant p.0 p.1 p.2 in
    let f = filled p.2 g (sym c.goes_on.ensures ∙ c.loop-ws-test.true) in
    omega (arith, room p.2 g, some_terms g.todo f)

pub lay-loop-ws-preserved : goal.lay-loop-ws-preserved
lay-loop-ws-preserved t c = λ e rest r.
    let g = c.loop-ws.invariant e rest r in
    let f = filled r g (sym c.goes_on.ensures ∙ c.loop-ws-test.true) in
    onward r g f (c.lay_term.ensures g.todo rest (ready_term r g) f)

-- the last is done, and what waits is turned round
pub lay-turn-requires : goal.lay-turn-requires
lay-turn-requires t c =
    let p = c.requires in
    let g = c.loop-ws.invariant p.0 p.1 p.2 in
    (omega (arith, room p.2 g, g.there), omega (arith, p.2.room, g.kept.long))

pub lay-overflow_add-result : goal.lay-overflow_add-result
lay-overflow_add-result t c =
    let p = c.requires in
    let g = c.loop-ws.invariant p.0 p.1 p.2 in
    omega (arith, room p.2 g, g.there)

pub lay-returns : goal.lay-returns
lay-returns t c = λ e rest r.
    finish r (c.loop-ws.invariant e rest r) (sym c.goes_on.ensures ∙ c.loop-ws-test.false) c.turn.ensures
    c.loop-ws.rest refl

pub lay_term-overflow_sub-own : goal.lay_term-overflow_sub-own
lay_term-overflow_sub-own t c = let p = c.requires in room_high p.0 p.1 p.2 p.3

-- a bracket: its contents, then its own cell
pub lay_term-overflow_sub-left : goal.lay_term-overflow_sub-left
lay_term-overflow_sub-left t c = let p = c.requires in left_some c.in-Some.ensures p.0 p.1 p.2 p.3

pub lay_term-lay-inner-requires : goal.lay_term-lay-inner-requires
lay_term-lay-inner-requires t c =
    let p = c.requires in
    let b = c.in-Some.ensures in
    (omega (arith, c.decreases, left_some b p.0 p.1 p.2 p.3), can_lay_inside b p.0 p.1 p.2 p.3)

pub lay_term-put_last-requires-clause-c_in_bounds :
    goal.lay_term-put_last-requires-clause-c_in_bounds
lay_term-put_last-requires-clause-c_in_bounds t c =
    let p = c.requires in
    omega (
      arith,
      inside_long c.in-Some.ensures c.lay-inner.ensures p.0 p.1 p.2 p.3,
      own_inside p.0 p.1 p.2 p.3,
    )

pub lay_term-put_last-requires-clause-n_le_end : goal.lay_term-put_last-requires-clause-n_le_end
lay_term-put_last-requires-clause-n_le_end t c =
    let p = c.requires in inside_small c.in-Some.ensures c.lay-inner.ensures p.0 p.1 p.2 p.3

pub lay_term-returns-in-Some : goal.lay_term-returns-in-Some
lay_term-returns-in-Some t c = λ e rest r f.
    bracket_laid c.in-Some.ensures c.lay-inner.ensures c.put_last.ensures c.past_bracket.ensures e rest r f

-- a symbol
pub lay_term-number-code-requires : goal.lay_term-number-code-requires
lay_term-number-code-requires t c = let p = c.requires in code_small c.in_default.ensures p.0 p.1 p.2 p.3

pub lay_term-put_symbol-requires : goal.lay_term-put_symbol-requires
lay_term-put_symbol-requires t c = let p = c.requires in own_inside p.0 p.1 p.2 p.3

pub lay_term-returns : goal.lay_term-returns
lay_term-returns t c = λ e rest r f.
    symbol_laid c.in_default.ensures c.number-code.ensures.code c.number-code.ensures.rest c.put_symbol.ensures
    c.past_space.ensures e rest r f
