-- `text::writers::write_run` and `write_term`, which call each other. The measure is twice the brackets that may still
-- be open, and one more for an expression: it falls from an expression to its terms, and from a term to the expression
-- in it. Assumes nothing.
use Rattle.std.proofs.Common.{◌≡◌, ◌+◌, ◌*◌}
use Rattle.meaning.specs.Meaning.{run, term_at}
use Rattle.meaning.specs.Text.{text}
use Rattle.text.specs.Page.{reached, writes}
use Rattle.text.proofs.Steps.{finished}
use Rattle.text.proofs.writers.+write_run_write_term.Given as goal

abbrev pub decreases-write_run : goal.decreases-write_run
decreases-write_run l = 2 * l.left + 1

abbrev pub decreases-write_term : goal.decreases-write_term
decreases-write_term l = 2 * l.left

-- i terms are written, and what is left of the expression comes to the whole
abbrev pub invariant-write_run-loop-i : goal.invariant-write_run-loop-i
invariant-write_run-loop-i l =
    finished l.left (term_at l.ws) l.l l.n l.i (reached l.out l.next)
    ≡ writes l.left (text (run (term_at l.ws) l.l l.n)) (reached l.initial.out l.initial.next)
