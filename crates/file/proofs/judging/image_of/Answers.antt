-- `file::judging::image_of` meets its contract: a law for each test. Assumes nothing.
use Rattle.std.proofs.Common.{refl}
use Rattle.meaning.specs.Limits.{limit}
use Rattle.file.proofs.Trailers.{far_off, too_long, too_small, too_large, no_slice, image_whole, image_is}
use Rattle.file.proofs.judging.image_of.Goals as goal
use Rattle.file.proofs.judging.image_of.Goals.{then-t-via-then-t, then-t-via-else-t+then-file-t}
use Rattle.file.proofs.judging.image_of.Goals.{then-t-2-via-then-t-2, then-t-2-via-else-t-2+then-t-gt-LIMIT}

pub returns-then-t : goal.returns-then-t
returns-then-t c =
    elim c.then-t.branch [
      | then-t-via-then-t w ↦ far_off _ _ _ c.in_ok-t.ensures w.if-t.true
      | then-t-via-else-t+then-file-t w ↦ too_long _ _ _ c.in_ok-t.ensures w.if-t.false w.if-file-t.true
    ]

pub returns-then-t-2 : goal.returns-then-t-2
unfolding limit
returns-then-t-2 c =
    elim c.then-t-2.branch [
      | then-t-2-via-then-t-2 w ↦ too_small _ _ _ c.in_ok-t.ensures c.if-t.false c.if-file-t.false w.if-t-2.true
      | then-t-2-via-else-t-2+then-t-gt-LIMIT w ↦ too_large _ _ _ c.in_ok-t.ensures c.if-t.false c.if-file-t.false
          w.if-t-2.false w.if-t-gt-LIMIT.true
    ]

pub returns-then-len-t : goal.returns-then-len-t
unfolding limit
returns-then-len-t c =
    no_slice _ _ _ c.in_ok-t.ensures c.if-t.false c.if-file-t.false c.if-t-2.false c.if-t-gt-LIMIT.false
    c.if-len-t.true

pub invariant_of-result : goal.invariant_of-result
unfolding limit
invariant_of-result c = record {
  whole = image_whole _ c.args.len _ c.in_ok-t.ensures c.if-t.false c.if-file-t.false c.if-t-2.false
      c.if-t-gt-LIMIT.false;
}

pub returns : goal.returns
unfolding limit
returns c =
    image_is _ _ _ c.in_ok-t.ensures c.if-t.false c.if-file-t.false c.if-t-2.false c.if-t-gt-LIMIT.false
    c.if-len-t.false _ refl refl refl
