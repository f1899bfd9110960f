-- The states that go on, and that every byte that is not refused keeps them so. In order:
--   each_within_lem, within_each   numbers that are each at most n
--   Fits, fits_yes, yes_fits   a state that goes on, and its test;  not_fits  one that does not
--   fits_each                  where all but the counts are in range, they decide
--   feed_fits                  a byte that is not refused leads to another such
-- Assumes nothing.
use mathlib.Core.Path.{◌≡◌, refl, ◌∙◌}
use mathlib.Core.Logic.{◌≢◌}
use mathlib.Core.Bool.{Bool, true, false, false≢true}
use mathlib.Core.List.{List, [], ◌∷◌}
use Prim.Native.Nat.{ℕ, zero, suc, ◌+◌, ◌-◌, ◌*◌, ◌^◌, ◌≤◌, ◌<◌}
use native.Mathlib.Omega.{arith}
use native.Mathlib.Nat.{not-suc-le-zero}
use lib.Dec.{leb, eqb}
use lib.ListN.{get_or, set, take}
use borrow.Author.Tests.{ltb-true, lt-ltb, leb-true, le-leb}
use Rattle.meaning.specs.Limits.{depth_limit, terms_limit}
use Rattle.meaning.specs.Sound.{IsCode}
use Rattle.meaning.specs.Judge.{Stand, begun, spaced, number, closed, stopped}
use Rattle.meaning.specs.Judge.{Move, stops, begins, grows, opens, closes, parts, judge}
use Rattle.meaning.specs.Reader.{Reader, moved, is_full}
use Rattle.meaning.specs.Pieces.{Pieces, next, feed, stand_fits, ahead, each_within, fits}
use Rattle.meaning.proofs.Counting.{both_true}
use Rattle.meaning.proofs.sound.Cells.{code_range, code_fits}
use Rattle.meaning.proofs.reader.Moves.{either, first_cases, later_cases, more_cases}
use Rattle.meaning.proofs.reader.Completing.{Going}
use Rattle.meaning.proofs.reader.Freely.{unfull_terms}

-- ---- numbers that are each at most n

each_within_lem : (n d : ℕ) (l : List ℕ) → each_within n (take d l) ≡ true → (i : ℕ) → i < d → get_or l i 0 ≤ n
each_within_lem n zero l e i h = absurd (not-suc-le-zero h)
each_within_lem n (suc d) [] e i h = omega arith
each_within_lem n (suc d) (x ∷ l) e zero h = leb-true x n (both_true (leb x n) (each_within n (take d l)) e).0
each_within_lem n (suc d) (x ∷ l) e (suc i) h =
    each_within_lem n d l (both_true (leb x n) (each_within n (take d l)) e).1 i (omega arith)

within_each : (n d : ℕ) (l : List ℕ) → ((i : ℕ) → i < d → get_or l i 0 ≤ n) → each_within n (take d l) ≡ true
within_each n zero l f = refl
within_each n (suc d) [] f = refl
within_each n (suc d) (x ∷ l) f =
    rw (le-leb x n (f 0 (omega arith))) (within_each n d l (λ i h. f (suc i) (omega arith)))

-- one of them put anew
within_set : (l : List ℕ) (j x n i : ℕ) → x ≤ n → (i ≢ j → get_or l i 0 ≤ n) → get_or (set l j x) i 0 ≤ n
within_set [] j x n i h g = omega arith
within_set (y ∷ l) zero x n zero h g = h
within_set (y ∷ l) zero x n (suc i) h g = g (λ e. omega arith)
within_set (y ∷ l) (suc j) x n zero h g = g (λ e. omega arith)
within_set (y ∷ l) (suc j) x n (suc i) h g = within_set l j x n i h (λ d. g (λ e. d (omega arith)))

-- ---- the state

pub record Fits (p : Pieces) : Type 0 where
  pub stand : stand_fits p.place.stand ≡ true
  pub deep : p.place.depth ≤ depth_limit
  pub many : p.place.total ≤ terms_limit
  pub ours : p.own ≤ p.place.total
  pub most : p.most ≤ p.place.total
  pub far : p.place.offset + p.place.depth + ahead p.place.stand ≤ 2 ^ 28 * p.place.total + 1
  pub each : (i : ℕ) → i < p.place.depth → get_or p.waiting i 0 ≤ p.place.total

pub fits_yes : (p : Pieces) → fits p ≡ true → Fits p
unfolding fits
fits_yes p e =
    let a = both_true _ _ e in
    let b = both_true _ _ a.1 in
    let c = both_true _ _ b.1 in
    let d = both_true _ _ c.1 in
    let f = both_true _ _ d.1 in
    let g = both_true _ _ f.1 in
    record {
      stand = a.0;
      deep = leb-true _ _ b.0;
      many = leb-true _ _ c.0;
      ours = leb-true _ _ d.0;
      most = leb-true _ _ f.0;
      far = leb-true _ _ g.0;
      each = each_within_lem p.place.total p.place.depth p.waiting g.1;
    }

-- where all but the counts are in range
pub fits_each : (p : Pieces) → stand_fits p.place.stand ≡ true → p.place.depth ≤ depth_limit
    → p.place.total ≤ terms_limit → p.own ≤ p.place.total → p.most ≤ p.place.total
    → leb (p.place.offset + p.place.depth + ahead p.place.stand) (2 ^ 28 * p.place.total + 1) ≡ true
    → fits p ≡ each_within p.place.total (take p.place.depth p.waiting)
unfolding fits
fits_each p s d n o m f = rw (s, le-leb _ _ d, le-leb _ _ n, le-leb _ _ o, le-leb _ _ m, f) refl

pub yes_fits : (p : Pieces) → Fits p → fits p ≡ true
yes_fits p k =
    fits_each p k.stand k.deep k.many k.ours k.most (le-leb _ _ k.far)
    ∙ within_each p.place.total p.place.depth p.waiting k.each

pub not_fits : (p : Pieces) → (Fits p → ⊥) → fits p ≡ false
not_fits p n = go (fits p) refl
  where
    go : (t : Bool) → fits p ≡ t → t ≡ false
    go true e = absurd (n (fits_yes p e))
    go false e = refl

-- ---- a byte

module _ (p : Pieces) (k : Fits p) (b : ℕ) where
  abbrev at : Reader
  at = p.place

  After : Move → Type 0
  After m = Going (moved m at).stand → Fits (next m p)

  refused : (s : ℕ) → After (stops s)
  unfolding After
  refused s g = absurd g

  -- the offset, with so many bytes ahead
  abbrev Far : ℕ → Type 0
  Far n = at.offset + at.depth + n ≤ 2 ^ 28 * at.total + 1

  begin : Far 0 → (d : ℕ) → b ≡ 48 + d → d ≤ 9 → IsCode d → is_full at ≡ false → After (begins d)
  unfolding After
  begin f d e l c n g =
      let i = code_range d c in
      record {
        stand = lt-ltb d (2 ^ 28) (code_fits d c);
        deep = k.deep;
        many = unfull_terms at n;
        ours = omega (arith, k.ours);
        most = omega (arith, k.most, k.ours);
        far = omega (arith, i.0, f);
        each = λ j h. omega (arith, k.each j h);
      }

  bracket : Far 0 → b ≡ 40 → at.depth < depth_limit → is_full at ≡ false → After opens
  unfolding After
  bracket f e d n g = record {
    stand = refl;
    deep = d;
    many = unfull_terms at n;
    ours = omega arith;
    most = omega (arith, k.most, k.ours);
    far = omega (arith, f);
    each = λ j h. within_set p.waiting at.depth (suc p.own) (suc at.total) j (omega (arith, k.ours))
        (λ d. omega (arith, k.each j (omega (arith, d))));
  }

  close : Far 1 → b ≡ 41 → 0 < at.depth → After closes
  unfolding After
  close f e d g = record {
    stand = refl;
    deep = omega (arith, k.deep);
    many = k.many;
    ours = k.each (at.depth - 1) (omega arith);
    most = k.most;
    far = omega (arith, f);
    each = λ j h. k.each j (omega arith);
  }

  part : Far 1 → b ≡ 32 → After parts
  unfolding After
  part f e g = record {
    stand = refl;
    deep = k.deep;
    many = k.many;
    ours = k.ours;
    most = k.most;
    far = omega (arith, f);
    each = k.each;
  }

  -- a digit makes the code larger
  grow : (a : ℕ) → a < 2 ^ 28 → Far (2 ^ 28 - a) → (d : ℕ) → b ≡ 48 + d → d ≤ 9 → IsCode (10 * a + d)
      → After (grows (10 * a + d))
  unfolding After
  grow a l f d e h c g =
      let i = code_range (10 * a + d) c in
      let m = code_fits (10 * a + d) c in
      record {
        stand = lt-ltb (10 * a + d) (2 ^ 28) m;
        deep = k.deep;
        many = k.many;
        ours = k.ours;
        most = k.most;
        far = omega (arith, i.0, m, f);
        each = k.each;
      }

  judged : (s : Stand) → stand_fits s ≡ true → Far (ahead s) → After (judge s at.depth (is_full at) b)
  judged begun e f =
      either After (eqb b 41) (λ _. later_cases After b refused at.depth (close f) (part f))
      (λ _. first_cases After b refused at.depth (is_full at) (begin (omega arith)) (bracket (omega arith)))
  judged spaced e f = first_cases After b refused at.depth (is_full at) (begin f) (bracket f)
  judged (number a) e f =
      let l = ltb-true a (2 ^ 28) e in
      more_cases After b refused a at.depth (grow a l f) (close (omega arith)) (part (omega arith))
  judged closed e f = later_cases After b refused at.depth (close f) (part f)
  judged (stopped s) e f = absurd (false≢true e)

  pub feed_fits : Going (feed b p).place.stand → Fits (feed b p)
  unfolding After feed
  feed_fits = judged at.stand k.stand k.far
