-- What one step of the collector makes of the cells: a cell put down, a holder linked, a holder taken off a chain, a
-- cell lowered. Assumes nothing.
use Rattle.std.specs.Prelude.{◌≡◌, ◌≢◌, cond, ℕ, ◌-◌}
use Rattle.words.specs.Second.{full}
use Rattle.collect.specs.Cells.{ChainCell, val, ptr, mk}

-- The cell x is put down at m, and nothing else changes.
pub record Laid (M M' : ℕ → ChainCell) (m : ℕ) (x : ChainCell) : Type 0 where
  pub at : M' m ≡ x
  pub rest : (c : ℕ) → c ≢ m → M' c ≡ M c

-- The holder x is put down at m with its length less one, and linked to its right end k.
pub record Linked (M M' : ℕ → ChainCell) (m k : ℕ) (x : ChainCell) : Type 0 where
  pub at_m : M' m ≡ mk x.br x.used (val (k - x.l.num)) (M k).l
  pub at_k : M' k ≡ mk (M k).br (M k).used (ptr m) (M k).r
  pub rest : (c : ℕ) → c ≢ m → c ≢ k → M' c ≡ M c

-- The first holder k of m's chain is taken off it and given its ends, the right one `to`.
pub record Unlinked (M M' : ℕ → ChainCell) (m k to : ℕ) : Type 0 where
  pub at_m : M' m ≡ mk (M m).br (M m).used (M k).r (M m).r
  pub at_k : M' k ≡ mk (M k).br (M k).used (val (to - (M k).l.num)) (val to)
  pub rest : (c : ℕ) → c ≢ m → c ≢ k → M' c ≡ M c

-- a cell on no chain with both ends d lower, if it has contents
unfoldable pub lowered : ℕ → ChainCell → ChainCell
lowered d x =
    mk x.br x.used (val (cond (full x.br x.r.num) (x.l.num - d) x.l.num))
    (val (cond (full x.br x.r.num) (x.r.num - d) x.r.num))
