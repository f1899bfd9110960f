-- Parts of lists: the part of bytes from one on; and a store in two parts, its registers and its heap. In order:
--   part, part_drop       the part from a place on
--   cell_low, cell_high   the words of a cell of the store: of a register, of a heap cell
--   filled_parts          a slice into which the two parts are written, and zeros after them
-- Assumes nothing.
use mathlib.Core.Path.{◌≡◌, sym, ap, ◌∙◌}
use mathlib.Core.List.{List, ◌++◌}
use Prim.Native.Nat.{ℕ, ◌+◌, ◌-◌, ◌*◌, ◌≤◌, ◌<◌}
use native.Mathlib.Omega.{arith}
use lib.ListN.{length, get_or, take, drop, length-drop}
use lib.Seq.{take_all}
use Rattle.words.specs.Cell.{first_word, second_word}
use Rattle.octets.specs.Little.{words_of}
use Rattle.octets.specs.Space.{filled}
use Rattle.octets.proofs.Endian.{words_length, words_take, words_drop}
use Rattle.octets.proofs.Filling.{filled_long, filled_then}
use Rattle.meaning.specs.File.{cells_in}
use Rattle.meaning.proofs.file.Images as images
use Rattle.file.specs.Body.{store_in, Whole}

abbrev pub part : List ℕ → ℕ → List ℕ
part bs s = take (length bs - s) (drop s bs)

pub part_drop : (bs : List ℕ) (s : ℕ) → part bs s ≡ drop s bs
part_drop bs s = take_all (length bs - s) (drop s bs) (omega (arith, length-drop s bs))

module _ (f n : ℕ) (body : List ℕ) (o : Whole f n body) (c : ℕ) where
  enough : 2 * n + 2 * f ≤ length (words_of body)
  enough = omega (arith, words_length body, o.long)

  pub cell_low : c < f
      → (first_word (store_in f n body) c ≡ get_or (words_of body) (2 * (n + c)) 0)
      × (second_word (store_in f n body) c ≡ get_or (words_of body) (2 * (n + c) + 1) 0)
  cell_low h =
      let w = words_of body in
      let e : 2 * n + 2 * c ≡ 2 * (n + c) = omega arith in
      let d : 2 * n + (2 * c + 1) ≡ 2 * (n + c) + 1 = omega arith in (
        images.cells_low f n w enough (2 * c) (omega arith) ∙ ap (λ (i : ℕ). get_or w i 0) e,
        images.cells_low f n w enough (2 * c + 1) (omega arith) ∙ ap (λ (i : ℕ). get_or w i 0) d,
      )

  pub cell_high : f ≤ c → c < f + n
      → (first_word (store_in f n body) c ≡ get_or (words_of body) (2 * (c - f)) 0)
      × (second_word (store_in f n body) c ≡ get_or (words_of body) (2 * (c - f) + 1) 0)
  cell_high l h =
      let w = words_of body in
      let e : 2 * c - 2 * f ≡ 2 * (c - f) = omega arith in
      let d : 2 * c + 1 - 2 * f ≡ 2 * (c - f) + 1 = omega arith in (
        images.cells_high f n w enough (2 * c) (omega arith) (omega arith) ∙ ap (λ (i : ℕ). get_or w i 0) e,
        images.cells_high f n w enough (2 * c + 1) (omega arith) (omega arith) ∙ ap (λ (i : ℕ). get_or w i 0) d,
      )

module _ (f n : ℕ) (body ws : List ℕ) (o : Whole f n body) (h : 2 * (f + n) ≤ length ws) where
  abbrev w : List ℕ
  w = words_of body

  abbrev regs : List ℕ
  regs = take (2 * f) (drop (2 * n) w)

  abbrev m : ℕ
  m = length ws - 2 * f

  four : 8 * n ≡ 4 * (2 * n)
  four = omega arith

  -- low and high are the lengths of the two parts
  pub filled_parts : (low high : ℕ) (P Q : List ℕ) → low ≡ 2 * f → high + 2 * f ≡ length ws
      → P ≡ filled low (words_of (drop (8 * n) body)) → Q ≡ filled high (words_of (take (8 * n) body))
      → P ++ Q ≡ filled (length ws) (store_in f n body)
  unfolding cells_in
  filled_parts low high P Q l g p q =
      let heap = take (2 * n) w in
      let a : words_of (drop (8 * n) body) ≡ drop (2 * n) w =
      ap (λ (x : ℕ). words_of (drop x body)) four ∙ words_drop (2 * n) body in
      let b : words_of (take (8 * n) body) ≡ heap =
      ap (λ (x : ℕ). words_of (take x body)) four ∙ words_take (2 * n) body in
      let k : high ≡ m = omega arith in
      let r : length regs ≡ 2 * f = images.regs_long f n w (omega (arith, words_length body, o.long)) in
      let e : length regs + m ≡ length ws = omega arith in
      rw (
        p,
        q,
        l,
        k,
        a,
        b,
        filled_long (2 * f) (drop (2 * n) w)
            (omega (arith, length-drop (2 * n) w, words_length body, o.long)),
      )
      (sym (filled_then m regs heap) ∙ ap (λ (x : ℕ). filled x (regs ++ heap)) e)
