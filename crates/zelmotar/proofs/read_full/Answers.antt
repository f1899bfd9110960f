-- `zelmotar::read_full` meets its contract. What a read puts behind what was filled before is what the reader gave next.
-- Assumes nothing.
use borrow.Rule.Slice.PartMut.{post_of, put_mid}
use lib.Seq.{take-add, take-append-le}
use Rattle.std.proofs.Common.{◌≡◌, ℕ, ◌+◌, ◌≤◌, List, ◌++◌, rules, length, take, le_refl, drop_at, length-take-le}
use Rattle.std.proofs.KnownBytes.{Consumes-trans}
use Rattle.std.proofs.lemmas.Slice.{take-put_mid_below}
use Rattle.zelmotar.proofs.read_full.Goals as goal

-- the front of a list, part of which was written over from a on
take_filled : (a k n : ℕ) (xs ys : List ℕ) → a ≤ length xs → n ≤ length ys
    → take (a + n) (put_mid a k xs ys) ≡ take a xs ++ take n ys
take_filled a k n xs ys within fits =
    rw (take-add a n (put_mid a k xs ys), take-put_mid_below a k xs ys a (le_refl a) within)
    rw (drop_at (take a xs) (ys ++ post_of a k xs) a (length-take-le a xs within))
    rw (take-append-le n ys (post_of a k xs) fits)

pub loop-done-preserved : goal.loop-done-preserved
loop-done-preserved g c = (
  search rules,
  rw (take_filled _ _ _ _ _ c.loop-done.invariant.0 c.in-Ok.ensures.bound.0)
      (Consumes-trans _ _ _ _ _ c.loop-done.invariant.1 c.in-Ok.ensures.bytes.0),
)
