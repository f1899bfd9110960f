-- A register typed in (SCOPE 5.8): the text is read whole, and then its expression is laid where there is room.
-- Assumes nothing.
use Rattle.std.specs.Prelude.{false, cond, List, ℕ, ltb}
use Rattle.meaning.specs.Expr.{Expr}
use Rattle.meaning.specs.Verdicts.{Done, refused, only, if_sound}
use Rattle.meaning.specs.Check.{check}
use Rattle.meaning.specs.Call.{Plan, laying, sought, carry_out}
use Rattle.meaning.specs.Reader.{Draft, reads, blank, is_whole, stop_verdict, expression}
use Rattle.meaning.specs.Lay.{all_terms, new_cells}

-- Register d is set to the expression e in new cells. It has no operand registers, so d is not kept while room is
-- sought.
abbrev pub type_plan : ℕ → Expr → List ℕ → Plan
type_plan d e ws = laying (all_terms e) (sought false d ws) (new_cells d e)

-- into register d of a sound store, once the text is read: the text's refusal, then 16
unfoldable pub typed_of : ℕ → List ℕ → ℕ → ℕ → Draft → Done
typed_of F ws top d r =
    cond (is_whole r.place) (carry_out F (type_plan d (expression r) ws) ws top)
    (refused ws top (stop_verdict r.place))

-- the text bs into register d of any words: 1 to 3 first, then 20 for a register that is none
unfoldable pub type_in : ℕ → List ℕ → ℕ → ℕ → List ℕ → Done
type_in F ws top d bs =
    if_sound (check F ws top)
    (cond (ltb d F) (typed_of F ws top d (reads blank bs)) (refused ws top (only 20)))
    (refused ws top (check F ws top))
