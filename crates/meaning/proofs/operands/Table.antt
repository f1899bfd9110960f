-- A list of numbers as a table with three to a row; by its row of the table of uses, a test over the three words of a
-- call, and its operand registers. Assumes nothing.
use mathlib.Core.Path.{◌≡◌, refl}
use mathlib.Core.Bool.{Bool, true, false, ◌||◌}
use mathlib.Core.List.{List, [], ◌∷◌}
use Prim.Native.Nat.{ℕ, zero, suc, ◌+◌, ◌*◌, ◌<◌}
use native.Mathlib.Nat.{add-zero}
use native.Mathlib.Omega.{arith}
use lib.ListN.{length, get_or}
use Rattle.meaning.specs.Operands.{uses, op_at, names, is_operand}
use Rattle.meaning.proofs.operands.Uses.{index_op_at, three}

abbrev pub rows : List ℕ → List (List ℕ)
rows [] = []
rows (x ∷ []) = []
rows (x ∷ y ∷ []) = []
rows (x ∷ y ∷ z ∷ xs) = (x ∷ y ∷ z ∷ []) ∷ rows xs

-- number k of row o
pub rows_at : (xs : List ℕ) (o k : ℕ) → 3 * o + 2 < length xs → k < 3
    → get_or (get_or (rows xs) o []) k 0 ≡ get_or xs (3 * o + k) 0
rows_at [] o k h l = absurd (omega arith)
rows_at (x ∷ []) o k h l = absurd (omega arith)
rows_at (x ∷ y ∷ []) o k h l = absurd (omega arith)
rows_at (x ∷ y ∷ z ∷ xs) zero zero h l = refl
rows_at (x ∷ y ∷ z ∷ xs) zero (suc zero) h l = refl
rows_at (x ∷ y ∷ z ∷ xs) zero (suc (suc zero)) h l = refl
rows_at (x ∷ y ∷ z ∷ xs) zero (suc (suc (suc k))) h l = absurd (omega arith)
rows_at (x ∷ y ∷ z ∷ xs) (suc o) k h l =
    let e : 3 * suc o + k ≡ suc (suc (suc (3 * o + k))) = omega arith in rw e (rows_at xs o k (omega arith) l)

-- ---- a test over the three words of a call

module _ (o d a b : ℕ) where
  -- from the row that was read
  pub three_read : (wrong : ℕ → ℕ → Bool) {r : Bool} → 3 * o + 2 < length uses
      → (let row = get_or (rows uses) o [] in
      r ≡ (wrong (get_or row 0 0) d || wrong (get_or row 1 0) a || wrong (get_or row 2 0) b))
      → three wrong o d a b ≡ r
  three_read wrong h k =
      let u = rows_at uses o 0 h (omega arith) in
      let v = rows_at uses o 1 h (omega arith) in
      let w = rows_at uses o 2 h (omega arith) in
      simp (k, u, v, w, add-zero)

-- ---- the operand registers, from the row that was read

module _ (o r a b : ℕ) (h : o < 12) (k : 3 * o + 2 < length uses) where
  pub by_first : names (get_or (get_or (rows uses) o []) 1 0) a r ≡ true → is_operand (op_at o) r a b ≡ true
  unfolding is_operand
  by_first t =
      let u = rows_at uses o 1 k (omega arith) in
      rw (index_op_at o h, ← u, t) refl

  pub by_second : names (get_or (get_or (rows uses) o []) 1 0) a r ≡ false
      → is_operand (op_at o) r a b ≡ names (get_or (get_or (rows uses) o []) 2 0) b r
  unfolding is_operand
  by_second t =
      let u = rows_at uses o 1 k (omega arith) in
      let v = rows_at uses o 2 k (omega arith) in
      rw (index_op_at o h, ← u, ← v, t) refl
