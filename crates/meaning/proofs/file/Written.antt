-- The file of a store, part by part, and its store read back, whatever bytes stand before it. In order:
--   heap_long, regs_long                 how many words its cells have, sound or not
--   file_parts                           its bytes part by part
--   file_words, file_bytes               how many there are
--   trailer_of, distance_of, cells_of, capacity_of, edition_of   its trailer
--   body_of, image_of                    its bytes, and the store in it
-- Assumes nothing.
use mathlib.Core.Path.{◌≡◌, sym, ap, ◌∙◌}
use mathlib.Core.List.{List, [], ◌∷◌, ◌++◌, append_assoc}
use Prim.Native.Nat.{ℕ, ◌+◌, ◌-◌, ◌*◌, ◌≤◌, ◌<◌}
use native.Mathlib.Omega.{arith}
use lib.ListN.{length, get_or, take, drop, replicate, length-append, length-drop, length-replicate, get_or-replicate}
use lib.ListN.{take-append-drop}
use lib.Seq.{get_or-drop, length-take-le, ext_get_or, take-add, take_at, drop_at, drop-append-add, drop-append_seam}
use Rattle.octets.specs.Little.{words_of, bytes_of}
use Rattle.octets.proofs.Endian.{bytes_length, bytes_append, words_drop, words_back}
use Rattle.octets.proofs.Filling.{filled_fits}
use Rattle.meaning.specs.Sound.{Sound, capacity}
use Rattle.meaning.specs.File.{distance_for, file_words, file_of, trailer, file_distance, file_cells, file_capacity}
use Rattle.meaning.specs.File.{file_edition, body, cells_in, image}
use Rattle.meaning.proofs.sound.Cells.{free_words}

module _ (F : ℕ) (ws : List ℕ) (top : ℕ) (low : F ≤ top) (high : 2 * top ≤ length ws) where
  pub heap_long : length (take (2 * (top - F)) (drop (2 * F) ws)) ≡ 2 * (top - F)
  heap_long = length-take-le (2 * (top - F)) (drop (2 * F) ws) (omega (arith, length-drop (2 * F) ws))

  pub regs_long : length (take (2 * F) ws) ≡ 2 * F
  regs_long = length-take-le (2 * F) ws (omega arith)

module _ (e F : ℕ) (ws : List ℕ) (top : ℕ) (s : Sound F ws top) where
  abbrev heap : List ℕ
  heap = take (2 * (top - F)) (drop (2 * F) ws)

  abbrev regs : List ℕ
  regs = take (2 * F) ws

  abbrev tail : List ℕ
  tail = distance_for F (top - F) ∷ (top - F) ∷ capacity ws ∷ e ∷ []

  heap_part : length heap ≡ 2 * (top - F)
  heap_part = heap_long F ws top s.low (omega (arith, s.high))

  regs_part : length regs ≡ 2 * F
  regs_part = regs_long F ws top s.low (omega (arith, s.high))

  pub file_parts : file_of e F ws top
      ≡ bytes_of (take (2 * (top - F)) (drop (2 * F) ws))
      ++ (bytes_of (take (2 * F) ws) ++ bytes_of (distance_for F (top - F) ∷ (top - F) ∷ capacity ws ∷ e ∷ []))
  unfolding file_of file_words
  file_parts = bytes_append heap (regs ++ tail) ∙ ap (λ (x : List ℕ). bytes_of heap ++ x) (bytes_append regs tail)

  cells_part : length (heap ++ regs) ≡ 2 * top
  cells_part = omega (arith, length-append heap regs, heap_part, regs_part, s.low)

  file_words_lem : file_words e F ws top ≡ (heap ++ regs) ++ tail
  unfolding file_words
  file_words_lem = sym (append_assoc heap regs tail)

  pub file_bytes : length (file_of e F ws top) ≡ 8 * top + 16
  unfolding file_of
  file_bytes =
      omega (
        arith,
        bytes_length (file_words e F ws top),
        ap (λ (x : List ℕ). length x) file_words_lem,
        length-append (heap ++ regs) tail,
        cells_part,
      )

  free : replicate (length ws - 2 * top) 0 ≡ drop (2 * top) ws
  free =
      let m = length ws - 2 * top in
      ext_get_or 0 (replicate m 0) (drop (2 * top) ws) (length-replicate m 0 ∙ sym (length-drop (2 * top) ws)) at_zero
    where
      at_zero : (i : ℕ) → i < length (replicate {A = ℕ} (length ws - 2 * top) 0)
          → get_or (replicate (length ws - 2 * top) 0) i 0 ≡ get_or (drop (2 * top) ws) i 0
      at_zero i h =
          let g = length-replicate {A = ℕ} (length ws - 2 * top) 0 in
          get_or-replicate (length ws - 2 * top) i 0 0 (omega arith)
          ∙ sym (get_or-drop (2 * top) ws i 0 ∙ free_words F ws top s (2 * top + i) (omega arith) (omega arith))

  -- the words of the store are those of its parts
  parts : (regs ++ heap) ++ replicate (length ws - 2 * top) 0 ≡ ws
  parts =
      let k : 2 * F + 2 * (top - F) ≡ 2 * top = omega (arith, s.low) in
      let a : regs ++ heap ≡ take (2 * top) ws =
      sym (take-add (2 * F) (2 * (top - F)) ws) ∙ ap (λ (x : ℕ). take x ws) k in
      rw (a, free) (take-append-drop (2 * top) ws)

  module _ (pre : List ℕ) where
    abbrev bs : List ℕ
    bs = pre ++ file_of e F ws top

    pub file_long : length (pre ++ file_of e F ws top) ≡ length pre + distance_for F (top - F)
    file_long = omega (arith, length-append pre (file_of e F ws top), file_bytes, s.low)

    trailer_of : trailer (pre ++ file_of e F ws top) ≡ distance_for F (top - F) ∷ (top - F) ∷ capacity ws ∷ e ∷ []
    unfolding trailer file_of
    trailer_of =
        let W = file_words e F ws top in
        let k : length (pre ++ bytes_of W) - 16 ≡ length pre + 4 * (2 * top) =
        unfold file_of in omega (arith, file_long, s.low) in
        rw k
        (ap words_of (drop-append-add pre (bytes_of W) (4 * (2 * top)))
        ∙ (words_drop (2 * top) (bytes_of W)
        ∙ (ap (λ (x : List ℕ). drop (2 * top) x) (words_back W ∙ file_words_lem)
        ∙ drop_at (heap ++ regs) tail (2 * top) cells_part)))

    pub distance_of : file_distance (pre ++ file_of e F ws top) ≡ distance_for F (top - F)
    distance_of = ap (λ (x : List ℕ). get_or x 0 0) trailer_of

    pub cells_of : file_cells (pre ++ file_of e F ws top) ≡ top - F
    cells_of = ap (λ (x : List ℕ). get_or x 1 0) trailer_of

    pub capacity_of : file_capacity (pre ++ file_of e F ws top) ≡ capacity ws
    capacity_of = ap (λ (x : List ℕ). get_or x 2 0) trailer_of

    pub edition_of : file_edition (pre ++ file_of e F ws top) ≡ e
    edition_of = ap (λ (x : List ℕ). get_or x 3 0) trailer_of

    body_of : body (pre ++ file_of e F ws top) ≡ file_of e F ws top
    body_of =
        let k : length bs - file_distance bs ≡ length pre = omega (arith, file_long, distance_of) in
        rw k (drop-append_seam pre (file_of e F ws top))

    pub image_of : image F (pre ++ file_of e F ws top) ≡ ws
    unfolding image cells_in file_of file_words
    image_of =
        let W = heap ++ (regs ++ tail) in
        let b : words_of (body bs) ≡ W = ap words_of body_of ∙ words_back W in
        let h : take (2 * (top - F)) W ≡ heap = take_at heap (regs ++ tail) (2 * (top - F)) heap_part in
        let r : take (2 * F) (drop (2 * (top - F)) W) ≡ regs =
        ap (λ (x : List ℕ). take (2 * F) x) (drop_at heap (regs ++ tail) (2 * (top - F)) heap_part)
        ∙ take_at regs tail (2 * F) regs_part in
        let l = length-append regs heap in
        let k : 2 * capacity ws - length (regs ++ heap) ≡ length ws - 2 * top =
        omega (arith, heap_part, regs_part, s.low, s.allowed.even) in
        rw (cells_of, capacity_of, b, h, r)
        (filled_fits (2 * capacity ws) (regs ++ heap)
        (omega (arith, heap_part, regs_part, s.low, s.high, s.allowed.even))
        ∙ (ap (λ (x : ℕ). (regs ++ heap) ++ replicate x 0) k ∙ parts))
