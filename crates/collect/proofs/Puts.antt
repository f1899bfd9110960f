-- The cells of the words after a cell is put. Assumes nothing.
use mathlib.Core.Path.{◌≡◌}
use mathlib.Core.Logic.{◌≢◌}
use mathlib.Core.List.{List}
use Prim.Native.Nat.{ℕ, ◌+◌, ◌*◌, ◌<◌}
use native.Mathlib.Decide.{ℕ_discrete}
use lib.ListN.{length}
use Rattle.words.specs.Cell.{first_word, second_word, put_cell}
use Rattle.words.specs.Second.{decode}
use Rattle.words.proofs.Cells.{first_word_same, second_word_same, first_word_other, second_word_other}
use Rattle.collect.specs.Cells.{linked, cell}

module _ (s : List ℕ) (m a b : ℕ) where
  pub cell_put : 2 * m + 1 < length s → cell (put_cell s m a b) m ≡ linked a (decode b)
  cell_put h = rw (first_word_same s m a b h, second_word_same s m a b h)

  pub cell_put_other : (c : ℕ) → c ≢ m → cell (put_cell s m a b) c ≡ cell s c
  cell_put_other c n = rw (first_word_other s m a b c n, second_word_other s m a b c n)

module _ (s : List ℕ) (m : ℕ) where
  -- a cell's own words put back
  pub cell_put_own : 2 * m + 1 < length s → (c : ℕ)
      → cell (put_cell s m (first_word s m) (second_word s m)) c ≡ cell s c
  cell_put_own h c = go (ℕ_discrete c m)
    where
      go : Dec (c ≡ m) → cell (put_cell s m (first_word s m) (second_word s m)) c ≡ cell s c
      go (yes e) = rw e (cell_put s m (first_word s m) (second_word s m) h)
      go (no n) = cell_put_other s m (first_word s m) (second_word s m) c n
