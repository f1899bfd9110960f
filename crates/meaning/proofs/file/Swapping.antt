-- Saving and loading gives the collected store; loading and saving gives the bytes from the first heap cell on.
-- In order:
--   judged, read_back        the file of a store that is its own collection, after any bytes
--   saved_loads              the file of any sound store
--   words_again, file_again  the words and bytes of a file are those of the store in it
--   LoadedFrom, loaded_from  a loaded store
-- Assumes nothing.
use mathlib.Core.Path.{◌≡◌, refl, sym, ap, ◌∙◌}
use mathlib.Core.List.{List, [], ◌∷◌, ◌++◌, append_assoc}
use Prim.Native.Nat.{ℕ, ◌+◌, ◌-◌, ◌*◌, ◌/◌, ◌≤◌, ◌<◌}
use native.Mathlib.Omega.{arith}
use lib.ListN.{length, get_or, take, drop, replicate, length-drop, take-append-drop}
use lib.Seq.{get_or-drop, drop-drop, length-take-le, take_at, drop_at}
use borrow.Author.Tests.{eq-eqb}
use Rattle.octets.specs.Little.{words_of, bytes_of}
use Rattle.octets.proofs.Endian.{bytes_back, words_drop, words_length}
use Rattle.meaning.specs.Sound.{Sound}
use Rattle.meaning.specs.Reach.{live}
use Rattle.meaning.specs.Collected.{collected, collected_top}
use Rattle.meaning.specs.Verdicts.{only, done}
use Rattle.meaning.specs.File.{first_of, distance_for, file_words, file_of, trailer, file_distance, file_cells}
use Rattle.meaning.specs.File.{file_capacity, file_edition, body, cells_in, image}
use Rattle.meaning.specs.File.{check_store, check_file, load_in}
use Rattle.meaning.proofs.check.Checking.{sound_check}
use Rattle.meaning.proofs.collected.Collecting.{collected_sound, length_collected}
use Rattle.meaning.proofs.collected.Again.{live_kept}
use Rattle.meaning.proofs.collected.Whole.{collected_whole}
use Rattle.meaning.proofs.file.Images.{regs_long}
use Rattle.meaning.proofs.file.Accepted.{Framed, accepted, body_long, words_long, image_is, image_long}
use Rattle.meaning.proofs.file.Accepted.{yes_distance, yes_capacity, as_store, checked_long}
use Rattle.meaning.proofs.file.Written.{file_long, distance_of, cells_of, capacity_of, edition_of, image_of}

-- ---- saving, then loading

module _ (e F : ℕ) (ws : List ℕ) (top : ℕ) (p : 0 < F) (k : first_of e ≡ F) (s : Sound F ws top)
    (whole : live F ws top ≡ top - F) (pre lent : List ℕ) (len : length lent ≡ length ws) where
  abbrev bs : List ℕ
  bs = pre ++ file_of e F ws top

  judged : check_file (pre ++ file_of e F ws top) (length lent) ≡ only 0
  unfolding check_store
  judged =
      let l = file_long e F ws top s pre in
      let d = distance_of e F ws top s pre in
      let n = cells_of e F ws top s pre in
      let c = capacity_of e F ws top s pre in
      let a : F + (top - F) ≡ top = omega (arith, s.low) in
      checked_long bs (length lent) (omega arith)
      ∙ rw (edition_of e F ws top s pre, k)
      (as_store F bs (length lent) p (yes_distance F bs (d ∙ rw n refl) (omega (arith, d)))
      (yes_capacity F bs (omega (arith, n, c, s.low, s.high)) (omega (arith, c, s.allowed.small)))
      (omega (arith, c, s.allowed.even))
      ∙ rw (image_of e F ws top s pre, n, a, sound_check F ws top s, eq-eqb (live F ws top) (top - F) whole) refl)

  read_back : load_in (pre ++ file_of e F ws top) lent ≡ done ws top 0
  unfolding load_in
  read_back =
      let a : F + (top - F) ≡ top = omega (arith, s.low) in
      rw (judged, edition_of e F ws top s pre, k, cells_of e F ws top s pre, image_of e F ws top s pre, a) refl

pub saved_loads : (e F : ℕ) (ws : List ℕ) (top : ℕ) → 0 < F → first_of e ≡ F → Sound F ws top → (pre lent : List ℕ)
    → length lent ≡ length ws
    → load_in (pre ++ file_of e F (collected F ws top) (collected_top F ws top)) lent
    ≡ done (collected F ws top) (collected_top F ws top) 0
saved_loads e F ws top p k s pre lent h =
    let c = length_collected F ws top p s in
    let t : collected_top F ws top - F ≡ live F ws top = omega arith in
    read_back e F (collected F ws top) (collected_top F ws top) p k (collected_sound F ws top p s)
    (live_kept F ws top p s ∙ sym t) pre lent (omega arith)

-- ---- loading, then saving

-- the words of a trailer are four
four_of : (xs : List ℕ) → length xs ≡ 4 → xs ≡ get_or xs 0 0 ∷ get_or xs 1 0 ∷ get_or xs 2 0 ∷ get_or xs 3 0 ∷ []
four_of [] e = absurd (omega arith)
four_of (a ∷ []) e = absurd (omega arith)
four_of (a ∷ b ∷ []) e = absurd (omega arith)
four_of (a ∷ b ∷ c ∷ []) e = absurd (omega arith)
four_of (a ∷ b ∷ c ∷ d ∷ []) e = refl
four_of (a ∷ b ∷ c ∷ d ∷ x ∷ xs) e = absurd (omega arith)

module _ (f : ℕ) (bs : List ℕ) (a : Framed f bs) where
  abbrev n : ℕ
  n = file_cells bs

  abbrev w : List ℕ
  w = words_of (body bs)

  abbrev A : List ℕ
  A = take (2 * f) (drop (2 * n) w)

  abbrev B : List ℕ
  B = take (2 * n) w

  abbrev Z : List ℕ
  Z = replicate (2 * (file_capacity bs - (f + n))) 0

  regs_are : length A ≡ 2 * f
  regs_are = regs_long f n w (omega (arith, words_long f bs a))

  image_parts : image f bs ≡ A ++ (B ++ Z)
  unfolding cells_in
  image_parts = image_is f bs a ∙ append_assoc A B Z

  image_regs : take (2 * f) (image f bs) ≡ A
  image_regs = rw image_parts (take_at A (B ++ Z) (2 * f) regs_are)

  image_heap : take (2 * n) (drop (2 * f) (image f bs)) ≡ B
  image_heap =
      rw image_parts
      (ap (λ (x : List ℕ). take (2 * n) x) (drop_at A (B ++ Z) (2 * f) regs_are)
      ∙ take_at B Z (2 * n) (length-take-le (2 * n) w (omega (arith, words_long f bs a))))

  -- what follows the registers is the trailer
  trailer_is : drop (2 * f) (drop (2 * n) w) ≡ trailer bs
  unfolding trailer
  trailer_is =
      let base = length bs - file_distance bs in
      let k : base + 4 * (2 * n + 2 * f) ≡ length bs - 16 = omega (arith, a.reach, a.within) in
      drop-drop (2 * f) (2 * n) w
      ∙ (sym (words_drop (2 * n + 2 * f) (body bs))
      ∙ ap words_of (drop-drop (4 * (2 * n + 2 * f)) base bs ∙ ap (λ (x : ℕ). drop x bs) k))

  trailer_words : trailer bs ≡ file_distance bs ∷ file_cells bs ∷ file_capacity bs ∷ file_edition bs ∷ []
  unfolding trailer
  trailer_words =
      let xs = drop (length bs - 16) bs in
      four_of (words_of xs) (omega (arith, words_length xs, length-drop (length bs - 16) bs, a.long))

  pub words_again : file_words (file_edition bs) f (image f bs) (f + file_cells bs) ≡ words_of (body bs)
  unfolding file_words
  words_again =
      let k : f + n - f ≡ n = omega arith in
      let c : 2 * file_capacity bs / 2 ≡ file_capacity bs = omega arith in
      let t : distance_for f n ∷ n ∷ file_capacity bs ∷ file_edition bs ∷ [] ≡ trailer bs =
      sym (trailer_words ∙ ap (λ (x : ℕ). x ∷ n ∷ file_capacity bs ∷ file_edition bs ∷ []) a.reach) in
      rw (k, image_heap, image_regs, image_long f bs, c, t)
      (ap (λ (x : List ℕ). B ++ (A ++ x)) (sym trailer_is)
      ∙ (ap (λ (x : List ℕ). B ++ x) (take-append-drop (2 * f) (drop (2 * n) w)) ∙ take-append-drop (2 * n) w))

  file_again : ((i : ℕ) → get_or bs i 0 < 256)
      → file_of (file_edition bs) f (image f bs) (f + file_cells bs) ≡ body bs
  unfolding file_of
  file_again b =
      let base = length bs - file_distance bs in
      ap bytes_of words_again
      ∙ bytes_back (body bs) (omega (arith, body_long f bs a)) (λ i. rw (get_or-drop base bs i 0) (b (base + i)))

-- a loaded store: sound, its own collection, and with the bytes that it was loaded from
pub record LoadedFrom (bs ws : List ℕ) (top : ℕ) : Type 0 where
  pub positive : 0 < first_of (file_edition bs)
  pub within : file_distance bs ≤ length bs
  pub sound : Sound (first_of (file_edition bs)) ws top
  pub same : collected (first_of (file_edition bs)) ws top ≡ ws
  pub stays : collected_top (first_of (file_edition bs)) ws top ≡ top
  pub bytes : ((i : ℕ) → get_or bs i 0 < 256)
      → file_of (file_edition bs) (first_of (file_edition bs)) ws top ≡ body bs

pub loaded_from : (bs lent : List ℕ) → (load_in bs lent).verdict.status ≡ 0
    → LoadedFrom bs (load_in bs lent).words (load_in bs lent).top
unfolding load_in
loaded_from bs lent e =
    let f = first_of (file_edition bs) in
    let a = accepted bs (length lent) e in
    let p = a.frame.kind in
    let t = f + file_cells bs in
    let stays : collected_top f (image f bs) t ≡ t = ap (λ (x : ℕ). f + x) a.whole in
    rw e (record {
      positive = p;
      within = a.frame.within;
      sound = a.sound;
      same = collected_whole f (image f bs) t p a.sound stays;
      stays = stays;
      bytes = file_again f bs a.frame;
    })
