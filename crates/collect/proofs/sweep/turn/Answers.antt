-- `sweep::turn` gives a reached cell its turn. Assumes nothing.
use native.Mathlib.Omega.{arith}
use Rattle.collect.proofs.sweep.Standing.{turn_small, turn_stands, turn_over}
use Rattle.collect.proofs.sweep.turn.Goals as goal

pub overflow_cast-to : goal.overflow_cast-to
overflow_cast-to c = let k = turn_small c.requires in omega (arith, k)

pub stand-requires : goal.stand-requires
stand-requires c =
    turn_stands c.release-own.new.ws c.release-own.result.first c.release-own.result.second
    c.release-own.result.low c.release-own.auto.ws c.release-own.ensures c.requires

pub returns : goal.returns
returns c =
    turn_over c.release-own.new.ws c.release-own.result.first c.release-own.result.second
    c.release-own.result.low c.release-own.auto.ws c.release-own.ensures c.stand.new.ws c.stand.auto.ws
    c.stand.ensures
