use native.Mathlib.Omega.{arith}
use Rattle.std.proofs.lemmas.Grind.{common_steps}
use Rattle.typing.proofs.Bytes.{digit_as, number_onward, number_fits, number_end}
use Rattle.typing.proofs.scanning.number.Goals as goal

-- a byte that is no digit
pub returns-then-not-is_ascii_digit-clause-code : goal.returns-then-not-is_ascii_digit-clause-code
returns-then-not-is_ascii_digit-clause-code c =
    (number_end _ _ _ c.loop-i.invariant c.loop-i-test.true (digit_as _ c.if-not-is_ascii_digit.ensures.value)).0

pub returns-then-not-is_ascii_digit-clause-rest : goal.returns-then-not-is_ascii_digit-clause-rest
returns-then-not-is_ascii_digit-clause-rest c =
    let e = number_end _ _ _ c.loop-i.invariant c.loop-i-test.true (digit_as _ c.if-not-is_ascii_digit.ensures.value) in
    grind (arith, common_steps, e.1)

-- a digit
pub invariant_of-with_digit : goal.invariant_of-with_digit
invariant_of-with_digit c = record { small = number_fits _ _ _ c.loop-i.invariant c.requires }

pub loop-i-preserved : goal.loop-i-preserved
loop-i-preserved c =
    rw c.with_digit-code.ensures
    (number_onward _ _ _ c.loop-i.invariant c.loop-i-test.true (digit_as _ c.if-not-is_ascii_digit.ensures.value))
