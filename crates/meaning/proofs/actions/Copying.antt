-- A run copied cell by cell: at each turn what is left to copy gives the whole. In order:
--   copy_length   a copied cell leaves the length as it is
--   Copying       i of the n cells are copied
--   begin         none is;  onward  one more is;  finish  all are
-- Assumes nothing.
use mathlib.Core.Path.{◌≡◌, refl, ◌∙◌}
use mathlib.Core.List.{List}
use Prim.Native.Nat.{ℕ, suc, ◌+◌, ◌-◌, ◌≤◌, ◌<◌}
use native.Mathlib.Nat.{add-zero, sub-zero}
use native.Mathlib.Omega.{arith}
use lib.ListN.{length}
use Rattle.words.specs.Cell.{first_word, second_word}
use Rattle.words.proofs.Cells.{put_cell_length}
use Rattle.meaning.specs.Actions.{copy, copies}

pub copy_length : (ws : List ℕ) (c x : ℕ) → length (copy ws c x) ≡ length ws
unfolding copy
copy_length ws c x = put_cell_length ws c (first_word ws x) (second_word ws x)

-- i of the n cells are copied
pub record Copying (ws₀ : List ℕ) (c x n : ℕ) (ws : List ℕ) (i : ℕ) : Type 0 where
  pub most : i ≤ n
  pub left : copies ws (c + i) (x + i) (n - i) ≡ copies ws₀ c x n
  pub len : length ws ≡ length ws₀

pub begin : {ws : List ℕ} {c x n : ℕ} → Copying ws c x n ws 0
begin {ws} {c} {x} {n} =
    record { most = omega arith; left = rw (add-zero c, add-zero x, sub-zero n) refl; len = refl }

pub onward : {ws₀ : List ℕ} {c x n : ℕ} {ws : List ℕ} {i : ℕ} {ws' : List ℕ} → Copying ws₀ c x n ws i → i < n
    → ws' ≡ copy ws (c + i) (x + i) → Copying ws₀ c x n ws' (i + 1)
onward {ws₀} {c} {x} {n} {ws} {i} k h e =
    let p : n - i ≡ suc (n - (i + 1)) = omega arith in
    let q : c + (i + 1) ≡ suc (c + i) = omega arith in
    let r : x + (i + 1) ≡ suc (x + i) = omega arith in
    record {
      most = omega arith;
      left = rw (e, q, r) (rw p at k.left);
      len = rw e (copy_length ws (c + i) (x + i) ∙ k.len);
    }

pub finish : {ws₀ : List ℕ} {c x n : ℕ} {ws : List ℕ} {i : ℕ} → Copying ws₀ c x n ws i → n ≤ i → ws ≡ copies ws₀ c x n
finish {n = n} {i = i} k h = let p : n - i ≡ 0 = omega arith in rw p at k.left
