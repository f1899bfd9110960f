-- The claims of specs/Claims.antt. Assumes nothing.
use mathlib.Core.Path.{sym, ◌∙◌}
use Rattle.calls.specs.Claims.{OneOutcome}
use Rattle.calls.proofs.Outcomes.{ran_in_inj}

pub one_outcome : OneOutcome
one_outcome ws top calls out r r' v v' a a' p q = ran_in_inj top r r' v v' a a' (p ∙ sym q)
