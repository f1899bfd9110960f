-- The words of a store, cell by cell: what a cell put leaves at each cell, and that the words of all cells are the
-- store. In order:
--   put_cell_length                      as many words as before
--   first_word_same, second_word_same     at the cell put, the two words put
--   first_word_other, second_word_other   at any other cell, its own
--   words_ext                           two stores as long, with the same words at every cell, are the same
-- Assumes nothing.
use mathlib.Core.Path.{◌≡◌, ◌∙◌}
use mathlib.Core.Logic.{◌≢◌}
use mathlib.Core.List.{List}
use Prim.Native.Nat.{ℕ, ◌+◌, ◌*◌, ◌/◌, ◌%◌, ◌<◌}
use native.Mathlib.Decide.{ℕ_discrete}
use native.Mathlib.Omega.{arith}
use lib.ListN.{length, get_or, set, length-set}
use lib.Seq.{get_or-set_same, get_or-set_other, ext_get_or}
use Rattle.words.specs.Cell.{first_word, second_word, put_cell}

module _ (ws : List ℕ) (c a b : ℕ) where
  pub put_cell_length : length (put_cell ws c a b) ≡ length ws
  put_cell_length = simp length-set

  -- at c, the two words put
  pub first_word_same : 2 * c + 1 < length ws → first_word (put_cell ws c a b) c ≡ a
  first_word_same h =
      get_or-set_other (set ws (2 * c) a) (2 * c + 1) (2 * c) b 0 (omega arith)
      ∙ get_or-set_same ws (2 * c) a 0 (omega arith)

  pub second_word_same : 2 * c + 1 < length ws → second_word (put_cell ws c a b) c ≡ b
  second_word_same h = get_or-set_same (set ws (2 * c) a) (2 * c + 1) b 0 (rw length-set h)

  -- at any other cell, its own
  module _ (x : ℕ) (n : x ≢ c) where
    pub first_word_other : first_word (put_cell ws c a b) x ≡ first_word ws x
    first_word_other =
        get_or-set_other (set ws (2 * c) a) (2 * c + 1) (2 * x) b 0 (omega arith)
        ∙ get_or-set_other ws (2 * c) (2 * x) a 0 (λ e. n (omega arith))

    pub second_word_other : second_word (put_cell ws c a b) x ≡ second_word ws x
    second_word_other =
        get_or-set_other (set ws (2 * c) a) (2 * c + 1) (2 * x + 1) b 0 (λ e. n (omega arith))
        ∙ get_or-set_other ws (2 * c) (2 * x + 1) a 0 (omega arith)

-- two stores as long, of whole cells, with the same words at every cell, are the same
pub words_ext : (vs ws : List ℕ) → length vs ≡ length ws → length vs % 2 ≡ 0
    → ((c : ℕ) → 2 * c + 1 < length vs → first_word vs c ≡ first_word ws c)
    → ((c : ℕ) → 2 * c + 1 < length vs → second_word vs c ≡ second_word ws c) → vs ≡ ws
words_ext vs ws e even f s = ext_get_or 0 vs ws e (λ i h. go i h (ℕ_discrete (i % 2) 0))
  where
    go : (i : ℕ) → i < length vs → Dec (i % 2 ≡ 0) → get_or vs i 0 ≡ get_or ws i 0
    go i h (yes p) = let q : 2 * (i / 2) ≡ i = omega arith in rw q at (f (i / 2) (omega (arith, even)))
    go i h (no p) = let q : 2 * (i / 2) + 1 ≡ i = omega arith in rw q at (s (i / 2) (omega (arith, even)))
