-- The proofs of `lay` and of `lay_term`, which call each other. The measure is twice the brackets that may still be
-- open, and one more for `lay`: it falls from an expression to its terms, and from a bracket to what is in it. So no
-- more than `left` brackets are laid within one another. Assumes nothing.
use Rattle.std.proofs.Common.{◌+◌, ◌*◌, List, ℕ}
use Rattle.meaning.specs.Expr.{Expr}
use Rattle.typing.specs.Laying.{Ready}
use Rattle.typing.proofs.Going.{Going}
use Rattle.typing.proofs.laying.+lay_lay_term.Given as goal

abbrev pub decreases-lay : goal.decreases-lay
decreases-lay l = 2 * l.left + 1

abbrev pub decreases-lay_term : goal.decreases-lay_term
decreases-lay_term l = 2 * l.left

-- whatever expression is ready, it is laid as far as the loop has come
abbrev pub invariant-lay-loop-ws : goal.invariant-lay-loop-ws
invariant-lay-loop-ws l =
    (e : Expr) (rest : List ℕ) → Ready l.initial.ws l.text l.low l.high l.left e rest
    → Going l.initial.ws l.low l.high l.left e rest l.ws l.rest l.end l.wait

abbrev pub decreases-lay-loop-ws : goal.decreases-lay-loop-ws
decreases-lay-loop-ws l = l.wait
