-- The store in a file, word by word, and its verdict from its occupied cells alone. In order:
--   at_zeros, held_zeros, damaged_zeros     zeros after the words of some cells change nothing
--   regs_long, heap_long, cells_long        how many words there are
--   cells_low, cells_high                   word i of the store: in a register, in the heap
-- Assumes nothing.
use mathlib.Core.Path.{◌≡◌, refl, ap₂, ◌∙◌, subst}
use mathlib.Core.Bool.{Bool, true, false}
use mathlib.Core.List.{List, ◌++◌}
use Prim.Native.Nat.{ℕ, zero, suc, ◌+◌, ◌-◌, ◌*◌, ◌≤◌, ◌<◌}
use native.Mathlib.Omega.{arith}
use lib.ListN.{length, get_or, take, drop, replicate, length-append, length-drop, get_or-append}
use lib.Seq.{get_or-append-add, get_or-drop, get_or-take, length-take-le}
use Rattle.words.specs.Cell.{first_word, second_word}
use Rattle.octets.proofs.Filling.{padded_at}
use Rattle.meaning.specs.Sound.{at}
use Rattle.meaning.specs.Reach.{held_below}
use Rattle.meaning.specs.Check.{cell_test, damaged}
use Rattle.meaning.specs.File.{cells_in}

-- ---- zeros after a list

module _ (xs : List ℕ) (m : ℕ) where
  at_zeros : (c : ℕ) → at (xs ++ replicate m 0) c ≡ at xs c
  unfolding at
  at_zeros c = rw (padded_at xs m (2 * c), padded_at xs m (2 * c + 1)) refl

  pub held_zeros : (n c : ℕ) → held_below (at (xs ++ replicate m 0)) n c ≡ held_below (at xs) n c
  held_zeros zero c = refl
  held_zeros (suc n) c = rw (at_zeros n, held_zeros n c) refl

  -- whatever is asked of a cell's two words
  pub cell_zeros : {A : Type 0} (f : ℕ → ℕ → A) (c : ℕ)
      → f (first_word (xs ++ replicate m 0) c) (second_word (xs ++ replicate m 0) c)
      ≡ f (first_word xs c) (second_word xs c)
  cell_zeros f c = rw (padded_at xs m (2 * c), padded_at xs m (2 * c + 1)) refl

  pub damaged_zeros : (F top c n : ℕ) → damaged F (xs ++ replicate m 0) top c n ≡ damaged F xs top c n
  damaged_zeros F top c zero = refl
  damaged_zeros F top c (suc n) =
      ap₂ (λ (t : Bool) (d : ℕ). elim t [ true ↦ d | false ↦ c ]) (cell_zeros (cell_test F top c) c)
      (damaged_zeros F top (suc c) n)

-- ---- the occupied cells

module _ (f n : ℕ) (w : List ℕ) (l : 2 * n + 2 * f ≤ length w) where
  abbrev regs : List ℕ
  regs = take (2 * f) (drop (2 * n) w)

  pub regs_long : length (take (2 * f) (drop (2 * n) w)) ≡ 2 * f
  regs_long = length-take-le (2 * f) (drop (2 * n) w) (omega (arith, length-drop (2 * n) w))

  heap_long : length (take (2 * n) w) ≡ 2 * n
  heap_long = length-take-le (2 * n) w (omega arith)

  pub cells_long : length (cells_in f n w) ≡ 2 * (f + n)
  unfolding cells_in
  cells_long = omega (arith, length-append regs (take (2 * n) w), regs_long, heap_long)

  pub cells_low : (i : ℕ) → i < 2 * f → get_or (cells_in f n w) i 0 ≡ get_or w (2 * n + i) 0
  unfolding cells_in
  cells_low i h =
      get_or-append regs (take (2 * n) w) 0 i (omega (arith, regs_long))
      ∙ (get_or-take (2 * f) (drop (2 * n) w) i 0 h ∙ get_or-drop (2 * n) w i 0)

  pub cells_high : (i : ℕ) → 2 * f ≤ i → i < 2 * (f + n) → get_or (cells_in f n w) i 0 ≡ get_or w (i - 2 * f) 0
  unfolding cells_in
  cells_high i g h =
      let j = i - 2 * f in
      let e : length regs + (i - 2 * f) ≡ i = omega (arith, regs_long) in
      subst (λ (x : ℕ). get_or (regs ++ take (2 * n) w) x 0 ≡ get_or w (i - 2 * f) 0) e
      (get_or-append-add regs (take (2 * n) w) j 0 ∙ get_or-take (2 * n) w j 0 (omega arith))
