-- `store::term_at` meets its contract. Assumes nothing.
use mathlib.Core.Path.{refl, sym, ap, ◌∙◌}
use Rattle.meaning.specs.Limits.{first_heap_cell}
use Rattle.meaning.specs.Sound.{code}
use Rattle.store.specs.Holds.{Bracketed}
use Rattle.store.proofs.Sounds.{first_heap_cell_pos}
use Rattle.store.proofs.Held.{br_tested, contents, term_bracket, term_symbol}
use borrow.Author.Rules.{rules}
use Rattle.store.proofs.term_at.Goals as goal
use Rattle.store.proofs.term_at.Goals.{Then-is_bracket}

bracketed : (c : Then-is_bracket) → Bracketed c.args.ws.now c.args.c
bracketed c =
    let p = c.requires.termed in
    let e = br_tested c.second_word.ensures c.is_bracket.ensures c.if-is_bracket.true in
    (p.0, p.1, term_bracket first_heap_cell p.0 first_heap_cell_pos p.1 p.2 e)

pub run_at-requires : goal.run_at-requires
run_at-requires c =
    record {
      c_in_bounds = search rules;
      bracketed = bracketed (goal.at.run_at-requires c).Then-is_bracket;
    }

pub returns-then-is_bracket : goal.returns-then-is_bracket
returns-then-is_bracket c =
    let b = bracketed (goal.at.returns-then-is_bracket c).Then-is_bracket in
    ((contents first_heap_cell b.0 first_heap_cell_pos b.1 _ _ refl refl b.2).not_code, c.run_at.ensures)

pub returns : goal.returns
returns c =
    let p = c.requires.termed in
    let e = br_tested c.second_word.ensures c.is_bracket.ensures c.if-is_bracket.false in
    term_symbol first_heap_cell p.0 first_heap_cell_pos p.1 _ _ p.2 e ∙ ap code (sym c.first_word.ensures)
