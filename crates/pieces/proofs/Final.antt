-- The claims of specs/Unique.antt. An answer is got back from what it says. Assumes nothing.
use mathlib.Core.Path.{sym, ap, ◌∙◌}
use Rattle.meaning.specs.Pieces.{Count}
use Rattle.pieces.specs.Unique.{OneStart, OneFeed, OneEnd}
use Rattle.pieces.specs.declared.Counted.{Counted}

pub one_start : OneStart
one_start r r' p q = p ∙ sym q

pub one_feed : OneFeed
one_feed s bs r r' p q = p ∙ sym q

pub one_end : OneEnd
one_end s r r' p q =
    ap {B = Counted} (λ (x : Count). record {
      status = x.verdict.status;
      value = x.verdict.value;
      terms = x.need;
      most = x.most;
    }) (p ∙ sym q)
