-- What each mask does to a second word's fields. Assumes nothing.
use mathlib.Core.Path.{◌≡◌, ap, ◌∙◌}
use mathlib.Core.Bool.{Bool, true, false}
use Prim.Native.Nat.{ℕ, ◌+◌, ◌*◌, ◌/◌, ◌%◌, ◌^◌, ◌<◌}
use native.Mathlib.Omega.{arith}
use native.Mathlib.Nat.{lt_of_le_of_lt}
use lib.Bits.{bit_and, bit_or, or_zero_r, and_le_l}
use Rattle.words.specs.Second.{bit, flag, decode, with_ri, with_lc, with_rc}
use Rattle.words.proofs.Laws.{ri_lt, encode_decode, decodes, bit_le}
use Rattle.words.proofs.Masks.{read, or_bit, and_not_bit, and_not_low, low_bits, or_low}

module _ {w : ℕ} (h : w < 2 ^ 32) where
  pub lc_on : decode (bit_or w (2 ^ 29)) ≡ with_lc true (decode w)
  unfolding decode
  lc_on = decodes (omega (arith, encode_decode w h, or_bit 29 w)) (ri_lt w)

  lc_off : decode (bit_and w 0xdfff_ffff) ≡ with_lc false (decode w)
  unfolding decode
  lc_off = decodes (omega (arith, encode_decode w h, and_not_bit 2 29 h)) (ri_lt w)

  -- the right link, its flag and its end, replaced
  right_put : (on : Bool) {v r : ℕ} → v ≡ bit_and w 0xe000_0000 + (bit on * 2 ^ 28 + r) → r < 2 ^ 28
      → decode v ≡ with_ri r (with_rc on (decode w))
  unfolding decode
  right_put on e l = decodes (omega (arith, encode_decode w h, and_not_low 3 29 h, low_bits 28 w)) l

module _ {w : ℕ} (h : w < 2 ^ 32) where
  lc_put : (on : Bool) → decode (bit_or (bit_and w 0xdfff_ffff) (bit on * 2 ^ 29)) ≡ with_lc on (decode w)
  lc_put false = ap decode (or_zero_r (bit_and w 0xdfff_ffff)) ∙ lc_off h
  lc_put true = lc_on (lt_of_le_of_lt (and_le_l w 0xdfff_ffff) h) ∙ ap (with_lc true) (lc_off h)

  -- a link handed over, its flag moved by one bit
  pub right_to_left : (b : ℕ)
      → decode (bit_or (bit_and w 0xdfff_ffff) (bit_and b (2 ^ 28) * 2 % 2 ^ 32)) ≡ with_lc (decode b).rc (decode w)
  unfolding decode
  right_to_left b =
      let moved : bit_and b (2 ^ 28) * 2 % 2 ^ 32 ≡ bit (flag 28 b) * 2 ^ 29 =
      omega (arith, read 28 b, bit_le (flag 28 b)) in
      rw moved (lc_put (flag 28 b))

  pub left_to_right : {a : ℕ} (b : ℕ) → a < 2 ^ 28
      → decode (bit_or (bit_or (bit_and w 0xe000_0000) (bit_and b (2 ^ 29) / 2)) a)
      ≡ with_ri a (with_rc (decode b).lc (decode w))
  unfolding decode
  left_to_right {a} b l =
      let x : ℕ = bit_and w 0xe000_0000 in
      let y : ℕ = bit (flag 29 b) * 2 ^ 28 in
      let free : x % 2 ^ 29 ≡ 0 = omega (arith, and_not_low 3 29 h) in
      let moved : bit_and b (2 ^ 29) / 2 ≡ y = omega (arith, read 29 b) in
      let small : y < 2 ^ 29 = omega (arith, bit_le (flag 29 b)) in
      rw (moved, or_low 29 x free small, or_low 28 (x + y) (omega arith) l)
      (right_put h (flag 29 b) (omega arith) l)

  pub end_put : {r : ℕ} → r < 2 ^ 28 → decode (bit_or (bit_and w 0xe000_0000) r) ≡ with_ri r (with_rc false (decode w))
  end_put {r} l =
      let x : ℕ = bit_and w 0xe000_0000 in
      let free : x % 2 ^ 28 ≡ 0 = omega (arith, and_not_low 3 29 h) in
      right_put h false (omega (arith, or_low 28 x free l)) l
