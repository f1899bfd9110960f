use Rattle.collect.proofs.sweep.Standing.{registers_stand, registers_again, registers_end}
use Rattle.collect.proofs.sweep.hold_registers.Goals as goal

pub stand-requires : goal.stand-requires
stand-requires c =
    registers_stand c.loop-r.invariant c.loop-r-test.true c.first_word-a.ensures c.second_word-w.ensures c.requires

pub loop-r-preserved : goal.loop-r-preserved
loop-r-preserved c =
    registers_again c.loop-r.invariant c.loop-r-test.true c.first_word-a.ensures c.second_word-w.ensures
    c.stand.auto.ws c.stand.ensures

pub returns : goal.returns
returns c = registers_end c.loop-r.invariant c.loop-r-test.false
