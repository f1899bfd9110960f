-- `store::run_at` meets its contract. Assumes nothing.
use Prim.Native.Nat.{ℕ, ◌+◌, ◌-◌}
use mathlib.Core.Path.{sym, ap, ◌∙◌}
use native.Mathlib.Omega.{arith}
use Rattle.words.specs.Cell.{first_word}
use Rattle.meaning.specs.Limits.{first_heap_cell}
use Rattle.meaning.specs.Sound.{at}
use Rattle.store.proofs.Sounds.{first_heap_cell_pos}
use Rattle.store.proofs.Held.{Contents, contents}
use Rattle.store.proofs.run_at.Goals as goal
use Rattle.store.proofs.run_at.Goals.{After-right_end-last}

-- what the bracket has, by its two words
known : (c : After-right_end-last) →
    Contents (first_word c.args.ws.now c.args.c) c.right_end-last.result (at c.args.ws.now c.args.c)
known c =
    let p = c.requires.bracketed in
    contents first_heap_cell p.0 first_heap_cell_pos p.1 _ _ c.second_word.ensures c.right_end-last.ensures p.2

pub returns-then-last-eq0 : goal.returns-then-last-eq0
returns-then-last-eq0 c =
    let e = (known (goal.at.returns-then-last-eq0 c).After-right_end-last).no_contents c.if-last-eq0.true in
    (sym e.0, sym e.1)

pub overflow_sub-size : goal.overflow_sub-size
overflow_sub-size c =
    let k = known (goal.at.overflow_sub-size c).After-right_end-last in
    omega (arith, (k.full c.if-last-eq0.false).0, c.first_word-start.ensures)

pub returns : goal.returns
returns c =
    let f = (known (goal.at.returns c).After-right_end-last).full c.if-last-eq0.false in
    let e = c.first_word-start.ensures in
    (e ∙ sym f.1, ap (λ (x : ℕ). c.right_end-last.result + 1 - x) e ∙ sym f.2)
