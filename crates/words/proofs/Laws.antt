-- A second word and its five fields: each is known from the other. In order:
--   bit_le, bit_flag               a bit is 0 or 1;  a flag as a number
--   ri_lt                          a right end is below 2 ^ 28
--   decode_encode, encode_decode   fields to a word and back, a word to its fields and back
--   decode_inj                     two words with the same fields are one word
--   decodes                        what a word decodes to, from what it is the code of
-- Assumes nothing.
use mathlib.Core.Path.{◌≡◌, refl, sym, ap, ◌∙◌}
use mathlib.Core.Bool.{Bool, true, false}
use Prim.Native.Nat.{ℕ, zero, suc, ◌+◌, ◌*◌, ◌/◌, ◌%◌, ◌^◌, ◌≤◌, ◌<◌}
use native.Mathlib.Nat.{mod-lt, zero-lt-suc}
use native.Mathlib.Omega.{arith}
use lib.Dec.{eqb}
use Rattle.words.specs.Second.{Second, bit, flag, decode, encode}

pub bit_le : (b : Bool) → bit b ≤ 1
bit_le true = omega arith
bit_le false = omega arith

bit_of : (n : ℕ) → n < 2 → bit (eqb n 1) ≡ n
bit_of zero h = refl
bit_of (suc zero) h = refl
bit_of (suc (suc n)) h = omega arith

-- a flag as a number
pub bit_flag : (k w : ℕ) → bit (flag k w) ≡ w / 2 ^ k % 2
unfolding flag
bit_flag k w = bit_of (w / 2 ^ k % 2) (mod-lt (w / 2 ^ k) (zero-lt-suc 1))

eqb_bit : (b : Bool) → eqb (bit b) 1 ≡ b
eqb_bit true = refl
eqb_bit false = refl

flag_is : (k w : ℕ) (b : Bool) → w / 2 ^ k % 2 ≡ bit b → flag k w ≡ b
unfolding flag
flag_is k w b e = ap (λ (n : ℕ). eqb n 1) e ∙ eqb_bit b

pub ri_lt : (w : ℕ) → (decode w).ri < 2 ^ 28
unfolding decode
ri_lt w = omega arith

pub decode_encode : (s : Second) → s.ri < 2 ^ 28 → decode (encode s) ≡ s
unfolding decode
decode_encode s h =
    let b₁ : bit s.br ≤ 1 = bit_le s.br in
    let b₂ : bit s.used ≤ 1 = bit_le s.used in
    let b₃ : bit s.lc ≤ 1 = bit_le s.lc in
    let b₄ : bit s.rc ≤ 1 = bit_le s.rc in
    let w : ℕ = encode s in
    let p₁ : flag 31 w ≡ s.br = flag_is 31 w s.br (omega arith) in
    let p₂ : flag 30 w ≡ s.used = flag_is 30 w s.used (omega arith) in
    let p₃ : flag 29 w ≡ s.lc = flag_is 29 w s.lc (omega arith) in
    let p₄ : flag 28 w ≡ s.rc = flag_is 28 w s.rc (omega arith) in
    let p₅ : w % 2 ^ 28 ≡ s.ri = omega arith in
    λ i. record { br = p₁ i; used = p₂ i; lc = p₃ i; rc = p₄ i; ri = p₅ i }

-- a number by its digits: the four high bits one by one, and the rest
digits : (w p q r s n a b c d : ℕ) → w ≡ p * 2 ^ 28 + n → p ≡ q * 2 + d → q ≡ r * 2 + c → r ≡ s * 2 + b → s ≡ a
    → a * 2 ^ 31 + b * 2 ^ 30 + c * 2 ^ 29 + d * 2 ^ 28 + n ≡ w
digits w p q r s n a b c d e₁ e₂ e₃ e₄ e₅ = omega arith

pub encode_decode : (w : ℕ) → w < 2 ^ 32 → encode (decode w) ≡ w
unfolding decode
encode_decode w h =
    simp bit_flag
    (digits w (w / 2 ^ 28) (w / 2 ^ 29) (w / 2 ^ 30) (w / 2 ^ 31) (w % 2 ^ 28)
    (w / 2 ^ 31 % 2) (w / 2 ^ 30 % 2) (w / 2 ^ 29 % 2) (w / 2 ^ 28 % 2)
    (omega arith) (omega arith) (omega arith) (omega arith) (omega arith))

-- two words with the same fields are one word: an equation of fields determines the word
pub decode_inj : (v w : ℕ) → v < 2 ^ 32 → w < 2 ^ 32 → decode v ≡ decode w → v ≡ w
decode_inj v w hv hw e = sym (encode_decode v hv) ∙ ap encode e ∙ encode_decode w hw

-- what a word decodes to, from what it is the code of
pub decodes : {v : ℕ} {s : Second} → v ≡ encode s → s.ri < 2 ^ 28 → decode v ≡ s
decodes {s = s} e h = ap decode e ∙ decode_encode s h
