use Rattle.std.proofs.Common.{arith, ap₂, ◌∙◌}
use Rattle.octets.specs.Space.{up_to, write}
use Rattle.octets.proofs.Turned.{turned_room, turned_more, turned_end}
use Rattle.octets.proofs.writing.put_decimal.Goals as goal

pub returns-then-rest-eq0 : goal.returns-then-rest-eq0
returns-then-rest-eq0 c =
    let loop = c.loop-first in
    c.put_bytes.ensures
    ∙ ap₂ (λ x out. write x (up_to out c.args.place))
    (turned_end _ _ _ _ loop.invariant.turned c.loop-first-test.true loop.auto.first c.if-rest-eq0.true)
    loop.invariant.same

pub loop-first-preserved : goal.loop-first-preserved
loop-first-preserved c =
    let loop = c.loop-first in
    record {
      same = loop.invariant.same;
      turned = turned_more _ _ _ _ loop.invariant.turned c.loop-first-test.true loop.auto.first c.if-rest-eq0.false;
    }

pub unreachable-requires : goal.unreachable-requires
unreachable-requires c =
    omega (arith, turned_room _ _ _ _ c.loop-first.invariant.turned c.ranges.n.fits c.loop-first.auto.first)
