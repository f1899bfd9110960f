-- A fresh store is sound, and each of its registers is empty.
-- Assumes nothing.
use mathlib.Core.Path.{◌≡◌, refl}
use mathlib.Core.List.{List, ◌++◌}
use Prim.Native.Nat.{ℕ, zero, suc, ◌+◌, ◌-◌, ◌*◌, ◌≤◌, ◌<◌}
use native.Mathlib.Nat.{le_refl, not-suc-le-zero, le_of_suc-le-suc}
use native.Mathlib.Omega.{arith}
use lib.ListN.{length, get_or, length-append, replicate, length-replicate}
use Rattle.meaning.specs.Limits.{limit}
use Rattle.meaning.specs.Expr.{nothing}
use Rattle.meaning.specs.Sound.{at, Sound, is_empty}
use Rattle.meaning.specs.Meaning.{meaning}
use Rattle.meaning.specs.Fresh.{empty_registers, fresh}
use Rattle.meaning.proofs.collected.Laid.{zeros_after}

empties_length : (n : ℕ) → length (empty_registers n) ≡ 2 * n
empties_length zero = refl
empties_length (suc n) = omega (arith, empties_length n)

empties_one : (n : ℕ) (zs : List ℕ) (i : ℕ) → i < n → get_or (empty_registers n ++ zs) (2 * i) 0 ≡ 0
empties_one zero zs i h = absurd (not-suc-le-zero h)
empties_one (suc n) zs zero h = refl
empties_one (suc n) zs (suc i) h =
    let e : 2 * suc i ≡ suc (suc (2 * i)) = omega arith in rw e (empties_one n zs i (le_of_suc-le-suc h))

empties_two : (n : ℕ) (zs : List ℕ) (i : ℕ) → i < n → get_or (empty_registers n ++ zs) (2 * i + 1) 0 ≡ 2147483648
empties_two zero zs i h = absurd (not-suc-le-zero h)
empties_two (suc n) zs zero h = refl
empties_two (suc n) zs (suc i) h =
    let e : 2 * suc i + 1 ≡ suc (suc (2 * i + 1)) = omega arith in rw e (empties_two n zs i (le_of_suc-le-suc h))

module _ (F n : ℕ) (l : F ≤ n) (m : n ≤ limit) where
  pub fresh_length : length (fresh F n) ≡ 2 * n
  unfolding fresh
  fresh_length =
      let a = length-append (empty_registers F) (replicate (2 * (n - F)) 0) in
      let b = length-replicate {A = ℕ} (2 * (n - F)) 0 in
      omega (arith, a, b, empties_length F)

  zero_at : (i : ℕ) → 2 * F ≤ i → i < 2 * n → get_or (fresh F n) i 0 ≡ 0
  unfolding fresh
  zero_at i f h = zeros_after (empty_registers F) (2 * (n - F)) i (omega (arith, empties_length F))
      (omega (arith, empties_length F, fresh_length))

  pub fresh_sound : Sound F (fresh F n) F
  unfolding fresh
  fresh_sound = record {
    allowed = record {
      even = omega (arith, fresh_length);
      large = omega (arith, fresh_length);
      small = omega (arith, fresh_length);
    };
    low = le_refl F;
    high = omega (arith, fresh_length);
    cells = λ c k. record {
      register = λ h. rw (empties_one F (replicate (2 * (n - F)) 0) c h, empties_two F (replicate (2 * (n - F)) 0) c h)
          is_empty;
      occupied = λ f h. absurd (omega arith);
      free = λ f. (
        zero_at (2 * c) (omega arith) (omega (arith, fresh_length)),
        zero_at (2 * c + 1) (omega arith) (omega (arith, fresh_length)),
      );
    };
  }

  pub fresh_empty : (i : ℕ) → i < F → meaning (fresh F n) i ≡ nothing
  unfolding meaning at fresh
  fresh_empty i h =
      rw (empties_one F (replicate (2 * (n - F)) 0) i h, empties_two F (replicate (2 * (n - F)) 0) i h) refl
