-- The verdict on the store in a file, from its occupied cells. In order:
--   found_damaged, found_ready, found_uncollected   3 and 34, as the code finds them
--   store_found                                     what the code finds is what the definition says
--   judged, room                                    a file whose trailer is right: its verdict, and its slice
-- Assumes nothing.
use mathlib.Core.Path.{◌≡◌, refl, sym, ap, ◌∙◌}
use mathlib.Core.Logic.{◌⊎◌, inl, inr}
use mathlib.Core.Bool.{Bool, true, false, cond}
use mathlib.Core.List.{List, ◌++◌}
use Prim.Native.Nat.{ℕ, zero, suc, ◌+◌, ◌-◌, ◌*◌, ◌≤◌, ◌<◌}
use native.Mathlib.Omega.{arith}
use lib.ListN.{length, get_or, replicate, get_or-eq_default}
use borrow.Author.Tests.{lt-ltb, le-ltb}
use Rattle.words.specs.Cell.{first_word, second_word}
use Rattle.octets.specs.Little.{words_of}
use Rattle.octets.proofs.Filling.{padded_at}
use Rattle.meaning.specs.Sound.{at, Sound, capacity}
use Rattle.meaning.specs.Reach.{held_below}
use Rattle.meaning.specs.Verdicts.{only, damaged_at}
use Rattle.meaning.specs.Check.{broken_rule, cell_test, damaged, length_test, top_test, verdict_at, check}
use Rattle.meaning.specs.File.{file_cells, file_capacity, body, cells_in, image}
use Rattle.meaning.specs.File.{check_store, check_file}
use Rattle.meaning.proofs.Lists.{lt_or_ge}
use Rattle.meaning.proofs.sound.Cells.{limit_fits}
use Rattle.meaning.proofs.check.Checking.{yes_length, yes_top, yes_cell, damaged_before, tests_sound, sound_check}
use Rattle.meaning.proofs.check.Scanning.{check_cells, verdict_damaged}
use Rattle.meaning.proofs.file.Images.{held_zeros, cell_zeros, damaged_zeros}
use Rattle.meaning.proofs.file.Accepted.{Framed, occupied, image_is, image_long, distance_yes, capacity_yes}
use Rattle.meaning.proofs.file.Accepted.{as_store, checked_long}
use Rattle.file.specs.Images.{words_in, top_in}
use Rattle.file.specs.Windows.{held_from}
use Rattle.file.specs.Judged.{ImageOf, rule_in, found_in}
use Rattle.file.specs.declared.image.Image.{Image}
use Rattle.file.proofs.Windowed.{held_live}

-- ---- 3 and 34, as the code finds them

module _ (f n : ℕ) (ws : List ℕ) where
  pub found_damaged : (c q : ℕ) → damaged f ws (f + n) 0 (f + n) ≡ c → rule_in f n ws c ≡ q → c < f + n
      → found_in f n ws ≡ damaged_at c q
  unfolding found_in
  found_damaged c q e r h = rw (e, lt-ltb c (f + n) h, r) refl

  module _ (e : damaged f ws (f + n) 0 (f + n) ≡ f + n) where
    pub found_ready : held_from (at ws) (f + n) f n ≡ true → found_in f n ws ≡ only 0
    unfolding found_in
    found_ready h = rw (e, le-ltb (f + n) (f + n) (omega arith), h) refl

    pub found_uncollected : held_from (at ws) (f + n) f n ≡ false → found_in f n ws ≡ only 34
    unfolding found_in
    found_uncollected h = rw (e, le-ltb (f + n) (f + n) (omega arith), h) refl

-- ---- and as the definition has them

-- damage is found among more cells at the same place
damaged_early : (F : ℕ) (ws : List ℕ) (top c a b : ℕ) → damaged F ws top c a < c + a
    → damaged F ws top c (a + b) ≡ damaged F ws top c a
damaged_early F ws top c zero b h = absurd (omega arith)
damaged_early F ws top c (suc a) b h =
    let z : suc a + b ≡ suc (a + b) = omega arith in
    ap (λ (j : ℕ). damaged F ws top c j) z
    ∙ go (cell_test F top c (first_word ws c) (second_word ws c)) h (damaged_early F ws top (suc c) a b)
  where
    go : (t : Bool) → (elim t [ true ↦ damaged F ws top (suc c) a | false ↦ c ]) < c + suc a
        → (damaged F ws top (suc c) a < suc c + a → damaged F ws top (suc c) (a + b) ≡ damaged F ws top (suc c) a)
        → ◌≡◌ {A = ℕ} (elim t [ true ↦ damaged F ws top (suc c) (a + b) | false ↦ c ])
        (elim t [ true ↦ damaged F ws top (suc c) a | false ↦ c ])
    go true h r = r (omega arith)
    go false h r = refl

held_ext : (ws xs : List ℕ) (m : ℕ) → ((c : ℕ) → held_below (at ws) m c ≡ held_below (at xs) m c) → (x n : ℕ)
    → held_from (at ws) m x n ≡ held_from (at xs) m x n
held_ext ws xs m h x zero = refl
held_ext ws xs m h x (suc n) = rw (h x, held_ext ws xs m h (suc x) n) refl

module _ (f : ℕ) (bs : List ℕ) (a : Framed f bs) where
  abbrev n : ℕ
  n = file_cells bs

  abbrev xs : List ℕ
  xs = cells_in f (file_cells bs) (words_of (body bs))

  abbrev m : ℕ
  m = 2 * (file_capacity bs - (f + file_cells bs))

  abbrev ws : List ℕ
  ws = xs ++ replicate m 0

  long : length ws ≡ 2 * file_capacity bs
  long = rw (image_is f bs a) at (image_long f bs)

  cells : capacity ws ≡ file_capacity bs
  cells = omega (arith, long)

  length_right : length_test f (length ws) ≡ true
  length_right =
      yes_length f (length ws) (record {
        even = omega (arith, long);
        large = omega (arith, long, a.enough);
        small = omega (arith, long, a.allowed);
      })

  top_right : top_test f (capacity ws) (f + n) ≡ true
  top_right = yes_top f (capacity ws) (f + n) (omega arith) (omega (arith, cells, a.enough))

  free_right : (c : ℕ) → f + n ≤ c → cell_test f (f + n) c (first_word ws c) (second_word ws c) ≡ true
  free_right c h =
      let z = occupied f bs a in
      let p : get_or xs (2 * c) 0 ≡ 0 = get_or-eq_default xs 0 (omega arith) in
      let q : get_or xs (2 * c + 1) 0 ≡ 0 = get_or-eq_default xs 0 (omega arith) in
      yes_cell f ws (f + n) (omega (arith, a.enough, a.allowed, limit_fits)) c (record {
        register = λ l. absurd (omega arith);
        occupied = λ l r. absurd (omega arith);
        free = λ l. (padded_at xs m (2 * c) ∙ p, padded_at xs m (2 * c + 1) ∙ q);
      })

  -- no damage below `top`
  sound : f + n ≤ damaged f ws (f + n) 0 (f + n) → Sound f ws (f + n)
  sound h = tests_sound f ws (f + n) length_right top_right (λ c l. go c (lt_or_ge c (f + n)))
    where
      go : (c : ℕ) → (c < f + n) ⊎ (f + n ≤ c) → cell_test f (f + n) c (first_word ws c) (second_word ws c) ≡ true
      go c (inl l) = damaged_before f ws (f + n) 0 (f + n) c (omega arith) (omega arith)
      go c (inr l) = free_right c l

  checked_damaged : (d : ℕ) → damaged f ws (f + n) 0 (f + n) ≡ d → d < f + n
      → check f ws (f + n) ≡ damaged_at d (rule_in f n ws d)
  checked_damaged d e h =
      let k : capacity ws ≡ f + n + (file_capacity bs - (f + n)) = omega (arith, cells, a.enough) in
      let early : damaged f ws (f + n) 0 (capacity ws) ≡ d =
      ap (λ (j : ℕ). damaged f ws (f + n) 0 j) k
      ∙ (damaged_early f ws (f + n) 0 (f + n) (file_capacity bs - (f + n)) (omega arith) ∙ e) in
      check_cells f ws (f + n) length_right top_right
      ∙ (ap (verdict_at f ws (f + n)) early
      ∙ verdict_damaged f ws (f + n) d (rule_in f n ws d) (omega (arith, cells, a.enough)) refl)

  store_found : check_store f (image f bs) (file_cells bs)
      ≡ found_in f (file_cells bs) (cells_in f (file_cells bs) (words_of (body bs)))
  unfolding check_store found_in
  store_found =
      rw (image_is f bs a)
      (go (damaged f ws (f + n) 0 (f + n)) refl (lt_or_ge (damaged f ws (f + n) 0 (f + n)) (f + n)))
    where
      go : (d : ℕ) → damaged f ws (f + n) 0 (f + n) ≡ d → (d < f + n) ⊎ (f + n ≤ d)
          → check_store f ws n ≡ found_in f n xs
      go d e (inl h) =
          let x = sym (damaged_zeros xs m f (f + n) 0 (f + n)) ∙ e in
          rw (checked_damaged d e h, x, lt-ltb d (f + n) h, cell_zeros xs m (broken_rule f (f + n) d) d) refl
      go d e (inr h) =
          let x = sym (damaged_zeros xs m f (f + n) 0 (f + n)) ∙ e in
          let s = sound (omega arith) in
          rw (sound_check f ws (f + n) s, x, le-ltb d (f + n) h)
          (ap (λ (t : Bool). cond t (only 0) (only 34))
          (sym (held_live f n ws a.kind s) ∙ held_ext ws xs (f + n) (held_zeros xs m (f + n)) f n))

-- ---- a file whose trailer is right

module _ (bs : List ℕ) (len : ℕ) (i : Image) (o : ImageOf bs len i) where
  framed : Framed i.first bs
  framed =
      let d = distance_yes i.first bs o.distance in
      let c = capacity_yes i.first bs o.capacity in
      record { long = o.long; kind = o.kind; reach = d.0; within = d.1; enough = c.0; allowed = c.1 }

  -- its verdict
  pub judged : check_file bs len ≡ found_in i.first i.cells (words_in i)
  judged =
      checked_long bs len o.long
      ∙ (rw (← o.first) (as_store i.first bs len o.kind o.distance o.capacity o.slice)
      ∙ (store_found i.first bs framed ∙ rw (o.cells, o.bytes) refl))

  -- its slice has room for the store
  pub room : 2 * top_in i ≤ len
  room = omega (arith, o.slice, o.cells, framed.enough)
