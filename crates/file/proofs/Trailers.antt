-- The trailer of a file, as the code reads it. In order:
--   edition_no, edition_yes   an edition without stores, and one with them
--   no_stores                 31
--   far_off, too_long         32: another distance than that of its cells, or one beyond the file
--   too_small, too_large      33: a capacity that the cells do not fit, or that is not allowed
--   no_slice                  35
--   image_is, image_whole     none of these: the store in the file
-- Assumes nothing.
use mathlib.Core.Path.{◌≡◌, refl, ap, ◌∙◌}
use mathlib.Core.Logic.{◌≢◌}
use mathlib.Core.Bool.{true}
use mathlib.Core.List.{List}
use Prim.Native.Nat.{ℕ, ◌+◌, ◌-◌, ◌*◌, ◌≤◌, ◌<◌}
use native.Mathlib.Omega.{arith}
use lib.ListN.{length, drop, length-drop}
use borrow.Author.Tests.{eq-eqb, ne_eqb, le-leb, lt-leb}
use Rattle.std.specs.Prelude.{Option, Some, None, Result, Ok, Err}
use Rattle.std.specs.Option.{ok_or}
use Rattle.meaning.specs.Limits.{first_heap_cell, limit}
use Rattle.meaning.specs.Verdicts.{Verdict, only}
use Rattle.meaning.specs.File.{first_of, distance_for, file_distance, file_cells, file_capacity, file_edition}
use Rattle.meaning.specs.File.{distance_test, capacity_test, check_as, check_file}
use Rattle.meaning.proofs.file.Accepted.{as_edition, as_distance, as_capacity, as_slice, checked_long}
use Rattle.meaning.proofs.file.Accepted.{yes_distance, yes_capacity}
use Rattle.file.specs.Body.{Whole}
use Rattle.file.specs.Judged.{FirstOf, TrailerOf, ImageOf}
use Rattle.file.specs.declared.image.Image.{Image}
use Rattle.file.specs.declared.judging.Trailer.{Trailer}
use Rattle.file.specs.declared.NotLoaded.{NotLoaded}
use Rattle.file.specs.declared.NotLoaded.TheVariants as not_loaded
use Rattle.file.proofs.Parts.{part, part_drop}

pub edition_no : (e : ℕ) (o : Option ℕ) (y : NotLoaded) → FirstOf e o
    → ◌≡◌ {A = Result ℕ NotLoaded} (Err y) (ok_or o not_loaded.BadEdition)
    → (first_of e ≡ 0) × (y ≡ not_loaded.BadEdition)
edition_no e None y f p = (f, cc)
edition_no e (Some x) y f p = cc

pub edition_yes : (e : ℕ) (o : Option ℕ) (x : ℕ) → FirstOf e o
    → ◌≡◌ {A = Result ℕ NotLoaded} (Ok x) (ok_or o not_loaded.BadEdition)
    → (x ≡ first_of e) × (0 < x) × (x ≤ first_heap_cell)
edition_yes e None x f p = cc
edition_yes e (Some y) x f p = let q : x ≡ y = cc in rw q f

pub no_stores : (bs : List ℕ) → 16 ≤ length bs → first_of (file_edition bs) ≡ 0 → (len : ℕ)
    → check_file bs len ≡ only 31
no_stores bs l h len = checked_long bs len l ∙ as_edition (first_of (file_edition bs)) bs len h

module _ (bs : List ℕ) (len : ℕ) (t : Trailer) (o : TrailerOf bs t) where
  abbrev F : ℕ
  F = first_of (file_edition bs)

  is_kind : 0 < F
  is_kind = rw o.first at o.kind

  -- the verdict, once the edition is right
  checked : (v : Verdict) → check_as F bs len ≡ v → check_file bs len ≡ v
  checked v e = checked_long bs len o.long ∙ e

  pub far_off : t.distance ≢ distance_for t.first t.cells → check_file bs len ≡ only 32
  unfolding distance_test
  far_off h =
      checked (only 32) (as_distance F bs len is_kind
      (rw (ne_eqb (file_distance bs) (distance_for F (file_cells bs)) (rw (o.distance, o.first, o.cells) at h)) refl))

  module _ (d : t.distance ≡ distance_for t.first t.cells) where
    at_distance : file_distance bs ≡ distance_for F (file_cells bs)
    at_distance = rw (o.distance, o.first, o.cells) at d

    pub too_long : length bs < t.distance → check_file bs len ≡ only 32
    unfolding distance_test
    too_long h =
        checked (only 32) (as_distance F bs len is_kind
        (rw (
          eq-eqb (file_distance bs) (distance_for F (file_cells bs)) at_distance,
          lt-leb (file_distance bs) (length bs) (rw o.distance at h),
        ) refl))

    module _ (l : t.distance ≤ length bs) where
      right_distance : distance_test F bs ≡ true
      right_distance = yes_distance F bs at_distance (rw o.distance at l)

      pub too_small : t.capacity < t.first + t.cells → check_file bs len ≡ only 33
      unfolding capacity_test
      too_small h =
          checked (only 33) (as_capacity F bs len is_kind right_distance
          (rw (lt-leb (F + file_cells bs) (file_capacity bs) (rw (o.capacity, o.first, o.cells) at h)) refl))

      module _ (e : t.first + t.cells ≤ t.capacity) where
        enough : F + file_cells bs ≤ file_capacity bs
        enough = rw (o.capacity, o.first, o.cells) at e

        pub too_large : limit < t.capacity → check_file bs len ≡ only 33
        unfolding capacity_test
        too_large h =
            checked (only 33) (as_capacity F bs len is_kind right_distance
            (rw (
              le-leb (F + file_cells bs) (file_capacity bs) enough,
              lt-leb (file_capacity bs) limit (rw o.capacity at h),
            ) refl))

        module _ (a : t.capacity ≤ limit) where
          right_capacity : capacity_test F bs ≡ true
          right_capacity = yes_capacity F bs enough (rw o.capacity at a)

          pub no_slice : len ≢ 2 * t.capacity → check_file bs len ≡ only 35
          no_slice h =
              checked (only 35)
              (as_slice F bs len is_kind right_distance right_capacity (rw o.capacity at h))

          pub image_whole : Whole t.first t.cells (part bs (length bs - t.distance))
          image_whole =
              let s : length (part bs (length bs - t.distance)) ≡ length (drop (length bs - t.distance) bs) =
              ap (λ (x : List ℕ). length x) (part_drop bs (length bs - t.distance)) in
              record {
                long = omega (arith, s, length-drop (length bs - t.distance) bs);
                few = omega arith;
              }

          pub image_is : len ≡ 2 * t.capacity → (i : Image) → i.first ≡ t.first → i.cells ≡ t.cells
              → i.body.now ≡ part bs (length bs - t.distance) → ImageOf bs len i
          image_is s i p q b =
              record {
                long = o.long;
                bytes = b ∙ (part_drop bs (length bs - t.distance) ∙ rw o.distance refl);
                cells = q ∙ o.cells;
                first = p ∙ o.first;
                kind = rw p o.kind;
                distance = rw (p, o.first) right_distance;
                capacity = rw (p, o.first) right_capacity;
                slice = rw o.capacity at s;
              }
