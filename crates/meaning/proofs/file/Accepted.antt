-- What a file that is not refused must be. In order:
--   Framed                             30 to 33 are passed
--   body_long, words_long, occupied    how many bytes and words the file has from its first heap cell on
--   image_long, image_is               the store in it, its words and zeros after them
--   distance_yes, yes_distance, capacity_yes, yes_capacity   what the tests of the trailer say
--   as_edition to as_store             the verdict, test by test
--   checked_short, checked_long        30, or those
--   Accepted, accepted_as, accepted    all tests are passed
-- Assumes nothing.
use mathlib.Core.Path.{◌≡◌, refl, ◌∙◌}
use mathlib.Core.Logic.{◌≢◌}
use mathlib.Core.Bool.{Bool, true, false, cond, false≢true}
use mathlib.Core.List.{List, ◌++◌}
use Prim.Native.Nat.{ℕ, zero, suc, ◌+◌, ◌-◌, ◌*◌, ◌≤◌, ◌<◌}
use native.Mathlib.Omega.{arith}
use lib.Dec.{ltb, leb, eqb}
use lib.ListN.{length, replicate, length-drop}
use borrow.Author.Tests.{leb-true, ltb-false, eqb-true, lt-ltb, le-ltb, le-leb, eq-eqb, ne_eqb}
use Rattle.octets.specs.Little.{words_of}
use Rattle.octets.proofs.Endian.{words_length}
use Rattle.octets.proofs.Filling.{filled_length, filled_fits}
use Rattle.meaning.specs.Limits.{limit}
use Rattle.meaning.specs.Sound.{Sound}
use Rattle.meaning.specs.Reach.{live}
use Rattle.meaning.specs.Verdicts.{Verdict, only, on_zero}
use Rattle.meaning.specs.Check.{check}
use Rattle.meaning.specs.File.{first_of, distance_for, file_distance, file_cells, file_capacity, file_edition, body}
use Rattle.meaning.specs.File.{cells_in, image, distance_test, capacity_test, check_store, check_as, check_file}
use Rattle.meaning.proofs.Counting.{positive}
use Rattle.meaning.proofs.check.Checking.{check_sound}
use Rattle.meaning.proofs.file.Images.{cells_long}

pub record Framed (f : ℕ) (bs : List ℕ) : Type 0 where
  pub long : 16 ≤ length bs
  pub kind : 0 < f
  pub reach : file_distance bs ≡ distance_for f (file_cells bs)
  pub within : file_distance bs ≤ length bs
  pub enough : f + file_cells bs ≤ file_capacity bs
  pub allowed : file_capacity bs ≤ limit

module _ (f : ℕ) (bs : List ℕ) (a : Framed f bs) where
  abbrev n : ℕ
  n = file_cells bs

  pub body_long : length (body bs) ≡ distance_for f (file_cells bs)
  body_long = omega (arith, length-drop (length bs - file_distance bs) bs, a.reach, a.within)

  pub words_long : length (words_of (body bs)) ≡ 2 * file_cells bs + (2 * f + 4)
  words_long = omega (arith, words_length (body bs), body_long)

  pub occupied : length (cells_in f (file_cells bs) (words_of (body bs))) ≡ 2 * (f + file_cells bs)
  occupied = cells_long f n (words_of (body bs)) (omega (arith, words_long))

  pub image_is : image f bs
      ≡ cells_in f (file_cells bs) (words_of (body bs)) ++ replicate (2 * (file_capacity bs - (f + file_cells bs))) 0
  unfolding image
  image_is =
      let k : 2 * file_capacity bs - 2 * (f + n) ≡ 2 * (file_capacity bs - (f + n)) = omega arith in
      filled_fits (2 * file_capacity bs) (cells_in f n (words_of (body bs))) (omega (arith, occupied, a.enough))
      ∙ rw (occupied, k) refl

pub image_long : (f : ℕ) (bs : List ℕ) → length (image f bs) ≡ 2 * file_capacity bs
unfolding image
image_long f bs = filled_length (2 * file_capacity bs) (cells_in f (file_cells bs) (words_of (body bs)))

-- ---- the tests of the trailer

both : (s t : Bool) → cond s t false ≡ true → (s ≡ true) × (t ≡ true)
both true t e = (refl, e)
both false t e = absurd (false≢true e)

module _ (f : ℕ) (bs : List ℕ) where
  pub distance_yes : distance_test f bs ≡ true
      → (file_distance bs ≡ distance_for f (file_cells bs)) × (file_distance bs ≤ length bs)
  unfolding distance_test
  distance_yes e =
      let d = distance_for f (file_cells bs) in
      let q = both (eqb (file_distance bs) d) (leb (file_distance bs) (length bs)) e in
      (eqb-true (file_distance bs) d q.0, leb-true (file_distance bs) (length bs) q.1)

  pub yes_distance : file_distance bs ≡ distance_for f (file_cells bs) → file_distance bs ≤ length bs
      → distance_test f bs ≡ true
  unfolding distance_test
  yes_distance e h =
      rw (eq-eqb (file_distance bs) (distance_for f (file_cells bs)) e, le-leb (file_distance bs) (length bs) h) refl

  pub capacity_yes : capacity_test f bs ≡ true → (f + file_cells bs ≤ file_capacity bs) × (file_capacity bs ≤ limit)
  unfolding capacity_test
  capacity_yes e =
      let q = both (leb (f + file_cells bs) (file_capacity bs)) (leb (file_capacity bs) limit) e in
      (leb-true (f + file_cells bs) (file_capacity bs) q.0, leb-true (file_capacity bs) limit q.1)

  pub yes_capacity : f + file_cells bs ≤ file_capacity bs → file_capacity bs ≤ limit → capacity_test f bs ≡ true
  unfolding capacity_test
  yes_capacity e h = rw (le-leb (f + file_cells bs) (file_capacity bs) e, le-leb (file_capacity bs) limit h) refl

-- ---- the verdict, test by test

module _ (f : ℕ) (bs : List ℕ) (len : ℕ) where
  pub as_edition : f ≡ 0 → check_as f bs len ≡ only 31
  unfolding check_as
  as_edition e = rw e refl

  module _ (p : 0 < f) where
    is_kind : eqb f 0 ≡ false
    is_kind = ne_eqb f 0 (λ q. omega arith)

    pub as_distance : distance_test f bs ≡ false → check_as f bs len ≡ only 32
    unfolding check_as
    as_distance e = rw (is_kind, e) refl

    module _ (d : distance_test f bs ≡ true) where
      pub as_capacity : capacity_test f bs ≡ false → check_as f bs len ≡ only 33
      unfolding check_as
      as_capacity e = rw (is_kind, d, e) refl

      module _ (c : capacity_test f bs ≡ true) where
        pub as_slice : len ≢ 2 * file_capacity bs → check_as f bs len ≡ only 35
        unfolding check_as
        as_slice h = rw (is_kind, d, c, ne_eqb len (2 * file_capacity bs) h) refl

        pub as_store : len ≡ 2 * file_capacity bs → check_as f bs len ≡ check_store f (image f bs) (file_cells bs)
        unfolding check_as
        as_store h = rw (is_kind, d, c, eq-eqb len (2 * file_capacity bs) h) refl

module _ (bs : List ℕ) (len : ℕ) where
  pub checked_short : length bs < 16 → check_file bs len ≡ only 30
  unfolding check_file
  checked_short h = rw (lt-ltb (length bs) 16 h) refl

  pub checked_long : 16 ≤ length bs → check_file bs len ≡ check_as (first_of (file_edition bs)) bs len
  unfolding check_file
  checked_long l = rw (le-ltb (length bs) 16 l) refl

-- ---- all tests passed

pub record Accepted (f : ℕ) (bs : List ℕ) (len : ℕ) : Type 0 where
  pub frame : Framed f bs
  pub slice : len ≡ 2 * file_capacity bs
  pub sound : Sound f (image f bs) (f + file_cells bs)
  pub whole : live f (image f bs) (f + file_cells bs) ≡ file_cells bs

-- a chain of tests that ends in 0
first : (t : Bool) (x y : Verdict) → 0 < y.status → (cond t x y).status ≡ 0 → (t ≡ true) × (x.status ≡ 0)
first true x y h e = (refl, e)
first false x y h e = absurd (omega arith)

second : (t : Bool) (x y : Verdict) → 0 < x.status → (cond t x y).status ≡ 0 → (t ≡ false) × (y.status ≡ 0)
second true x y h e = absurd (omega arith)
second false x y h e = (refl, e)

stored : (s : ℕ) (x v : Verdict) → v.status ≡ s → (on_zero s x v).status ≡ 0 → (s ≡ 0) × (x.status ≡ 0)
stored zero x v e h = (refl, h)
stored (suc s) x v e h = absurd (omega arith)

module _ (f : ℕ) (bs : List ℕ) (len : ℕ) (l : 16 ≤ length bs) (e : (check_as f bs len).status ≡ 0) where
  abbrev v : Verdict
  v = check f (image f bs) (f + file_cells bs)

  abbrev t : Bool
  t = eqb (live f (image f bs) (f + file_cells bs)) (file_cells bs)

  -- the tests that are passed
  record Passed : Type 0 where
    edition : eqb f 0 ≡ false
    distance : distance_test f bs ≡ true
    capacity : capacity_test f bs ≡ true
    slice : eqb len (2 * file_capacity bs) ≡ true
    sound : v.status ≡ 0
    whole : t ≡ true

  passed : Passed
  unfolding check_as check_store
  passed =
      let last = check_store f (image f bs) (file_cells bs) in
      let a3 = cond (eqb len (2 * file_capacity bs)) last (only 35) in
      let a2 = cond (capacity_test f bs) a3 (only 33) in
      let a1 = cond (distance_test f bs) a2 (only 32) in
      let q0 = second (eqb f 0) (only 31) a1 (omega arith) e in
      let q1 = first (distance_test f bs) a2 (only 32) (omega arith) q0.1 in
      let q2 = first (capacity_test f bs) a3 (only 33) (omega arith) q1.1 in
      let q3 = first (eqb len (2 * file_capacity bs)) last (only 35) (omega arith) q2.1 in
      let q4 = stored v.status (cond t (only 0) (only 34)) v refl q3.1 in
      let q5 = first t (only 0) (only 34) (omega arith) q4.1 in
      record { edition = q0.0; distance = q1.0; capacity = q2.0; slice = q3.0; sound = q4.0; whole = q5.0 }

  pub accepted_as : Accepted f bs len
  accepted_as =
      let p = passed in
      let d = distance_yes f bs p.distance in
      let c = capacity_yes f bs p.capacity in
      record {
        frame = record {
          long = l;
          kind = positive f p.edition;
          reach = d.0;
          within = d.1;
          enough = c.0;
          allowed = c.1;
        };
        slice = eqb-true len (2 * file_capacity bs) p.slice;
        sound = check_sound f (image f bs) (f + file_cells bs) p.sound;
        whole = eqb-true (live f (image f bs) (f + file_cells bs)) (file_cells bs) p.whole;
      }

pub accepted : (bs : List ℕ) (len : ℕ) → (check_file bs len).status ≡ 0 → Accepted (first_of (file_edition bs)) bs len
unfolding check_file
accepted bs len e =
    let f = first_of (file_edition bs) in
    let q = second (ltb (length bs) 16) (only 30) (check_as f bs len) (omega arith) e in
    accepted_as f bs len (ltb-false (length bs) 16 q.0) q.1
