-- `lower::lay` puts a cell down. Assumes nothing.
use mathlib.Core.Path.{sym, ◌∙◌}
use native.Mathlib.Omega.{arith}
use Rattle.words.proofs.Laws.{ri_lt}
use Rattle.collect.proofs.lower.Laying.{lays_full, lays_other}
use Rattle.collect.proofs.lower.lay.Goals as goal

pub bracket_to-requires : goal.bracket_to-requires
bracket_to-requires c = omega (arith, c.right_end.ensures, ri_lt c.args.w)

pub returns-then-is_full : goal.returns-then-is_full
returns-then-is_full c =
    rw (c.put_cell.ensures, c.bracket_to.ensures, c.right_end.ensures)
    (lays_full c.requires (sym c.is_full.ensures ∙ c.if-is_full.true))

pub returns-else-is_full : goal.returns-else-is_full
returns-else-is_full c =
    rw c.put_cell-else-is_full.ensures (lays_other c.requires (sym c.is_full.ensures ∙ c.if-is_full.false))
