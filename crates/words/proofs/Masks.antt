-- Masks in plain arithmetic: what reading, testing, setting and clearing the bit k, or all below it, do to a number.
-- In order:
--   read, test                 `w & (1 << k)`, and `w & (1 << k) != 0`
--   or_bit, xor_bit            `w | (1 << k)`, and `w ^ (1 << k)`
--   low_bits                   the bits up to k are bit k and those below
--   and_not_bit, and_not_low   `w & !(1 << k)`, and `w & !ones`, where the ones are the k low bits
--   or_low                     `v | n`, where the k low bits of v are free and n has no others
-- Assumes nothing.
use mathlib.Core.Path.{◌≡◌, sym, ap, ap₂, ◌∙◌}
use mathlib.Core.Bool.{not}
use Prim.Native.Nat.{ℕ, zero, suc, ◌+◌, ◌-◌, ◌*◌, ◌/◌, ◌%◌, ◌^◌, ◌<◌}
use native.Mathlib.Nat.{mod-lt, zero-lt-suc, one-mul, zero-mul}
use native.Mathlib.Omega.{arith}
use lib.Dec.{eqb}
use lib.Pow.{pow_pos, split, pow-lt, recompose, shr_mod, mod-mod-pow, mod-pow-add}
use lib.Bits.{bit_and, bit_or, bit_xor, and_high, and_mask, and_block, or_add_and, or_shifted, xor_add_and}
use borrow.Author.Tests.{ne_eqb}
use Rattle.words.specs.Second.{bit, flag}
use Rattle.words.proofs.Laws.{bit_flag}

-- `w & (1 << k)`
pub read : (k w : ℕ) → bit_and w (2 ^ (1 + k) - 2 ^ k) ≡ bit (flag k w) * 2 ^ k
read k w = and_high w 1 k ∙ ap (λ (n : ℕ). n * 2 ^ k) (sym (bit_flag k w))

-- `w & (1 << k) != 0`
pub test : (k w : ℕ) → not (eqb (bit_and w (2 ^ (1 + k) - 2 ^ k)) 0) ≡ flag k w
unfolding flag
test k w = ap (λ (n : ℕ). not (eqb n 0)) (and_high w 1 k) ∙ go (w / 2 ^ k % 2) (mod-lt (w / 2 ^ k) (zero-lt-suc 1))
  where
    go : (n : ℕ) → n < 2 → not (eqb (n * 2 ^ k) 0) ≡ eqb n 1
    go zero h = ap (λ (m : ℕ). not (eqb m 0)) (zero-mul (2 ^ k))
    go (suc zero) h =
        ap (λ (m : ℕ). not (eqb m 0)) (one-mul (2 ^ k))
        ∙ ap not (ne_eqb (2 ^ k) 0 (λ e. omega (arith, pow_pos k)))
    go (suc (suc n)) h = absurd (omega arith)

-- `w | (1 << k)` adds the bit where it is not there
pub or_bit : (k w : ℕ) → bit_or w (2 ^ (1 + k) - 2 ^ k) + bit (flag k w) * 2 ^ k ≡ w + (2 ^ (1 + k) - 2 ^ k)
or_bit k w =
    ap (λ (n : ℕ). bit_or w (2 ^ (1 + k) - 2 ^ k) + n) (sym (read k w)) ∙ or_add_and w (2 ^ (1 + k) - 2 ^ k)

-- `w ^ (1 << k)` adds the bit where it is not there, and takes it away where it is
pub xor_bit : (k w : ℕ) → bit_xor w (2 ^ (1 + k) - 2 ^ k) + bit (flag k w) * 2 ^ k * 2 ≡ w + (2 ^ (1 + k) - 2 ^ k)
xor_bit k w =
    ap (λ (n : ℕ). bit_xor w (2 ^ (1 + k) - 2 ^ k) + n * 2) (sym (read k w)) ∙ xor_add_and w (2 ^ (1 + k) - 2 ^ k)

-- the bits up to k are bit k and those below
pub low_bits : (k w : ℕ) → w % 2 ^ (1 + k) ≡ bit (flag k w) * 2 ^ k + w % 2 ^ k
low_bits k w = mod-pow-add w 1 k ∙ ap (λ (n : ℕ). n * 2 ^ k + w % 2 ^ k) (sym (bit_flag k w))

-- `w & !(1 << k)` takes the bit away where it is there, of a w of j + 1 + k bits: the mask is j ones, a zero and k ones
pub and_not_bit : (j k : ℕ) {w : ℕ} → w < 2 ^ (j + (1 + k))
    → bit_and w ((2 ^ j - 1) * 2 ^ (1 + k) + (2 ^ k - 1)) + bit (flag k w) * 2 ^ k ≡ w
and_not_bit j k {w} h =
    let p : ℕ = 1 + k in
    let m : ℕ = (2 ^ j - 1) * 2 ^ p + (2 ^ k - 1) in
    let masked : bit_and w m ≡ w / 2 ^ p * 2 ^ p + w % 2 ^ k =
    ap (λ (n : ℕ). bit_and n m) (sym (split w p))
    ∙ and_block p (w / 2 ^ p) (2 ^ j - 1) (w % 2 ^ p) (2 ^ k - 1) (mod-lt w (pow_pos p))
    (omega (arith, pow-lt {i = k} {j = p} (omega arith)))
    ∙ ap₂ (λ (x y : ℕ). x * 2 ^ p + y) (and_mask (w / 2 ^ p) j ∙ shr_mod j p h)
    (and_mask (w % 2 ^ p) k ∙ mod-mod-pow w 1 k) in
    omega (arith, masked, split w p, low_bits k w)

-- `w & !ones`, of a w of j + k bits: the k low ones go
pub and_not_low : (j k : ℕ) {w : ℕ} → w < 2 ^ (j + k) → bit_and w (2 ^ (j + k) - 2 ^ k) + w % 2 ^ k ≡ w
and_not_low j k {w} h = rw and_high (recompose {n = w} j k h)

-- `v | n`, where the k low bits of v are free and n has no others
pub or_low : (k v : ℕ) {n : ℕ} → v % 2 ^ k ≡ 0 → n < 2 ^ k → bit_or v n ≡ v + n
or_low k v {n} z l = let e : v / 2 ^ k * 2 ^ k ≡ v = omega (arith, split v k) in rw e at (or_shifted (v / 2 ^ k) k n l)
