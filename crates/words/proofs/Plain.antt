-- The second words that stand between calls, which have no mark and no chain: a bracket's, and any other cell's.
-- In order:
--   decode_code, decode_zero   the fields of a number below 2 ^ 28, and of 0;  decode_bracket  of a bracket's word
--   plain_word, plain_code     and back: the fields say which word it is
--   plain_full                 one is larger than an empty bracket's only where the bracket has contents
-- Assumes nothing.
use mathlib.Core.Path.{◌≡◌, refl, ap}
use mathlib.Core.Bool.{Bool, true, false, not}
use Prim.Native.Nat.{ℕ, zero, suc, ◌+◌, ◌*◌, ◌^◌, ◌<◌}
use native.Mathlib.Omega.{arith}
use lib.Dec.{ltb, eqb}
use borrow.Author.Tests.{lt-ltb, le-ltb, ne_eqb}
use Rattle.words.specs.Second.{bit, decode, encode, plain, full, full_word, bracket_to}
use Rattle.words.proofs.Laws.{ri_lt, encode_decode, decodes}

pub decode_code : (r : ℕ) → r < 2 ^ 28 → decode r ≡ plain false r
decode_code r h = decodes {s = plain false r} (omega arith) h

pub decode_zero : decode 0 ≡ plain false 0
decode_zero = decode_code 0 (omega arith)

pub decode_bracket : (r : ℕ) → r < 2 ^ 28 → decode (bracket_to r) ≡ plain true r
decode_bracket r h = decodes {s = plain true r} (omega arith) h

-- and back: the fields say which word it is
pub plain_word : (w r : ℕ) → w < 2 ^ 32 → decode w ≡ plain true r → w ≡ bracket_to r
plain_word w r h e = omega (arith, encode_decode w h, ap encode e)

pub plain_code : (w r : ℕ) → w < 2 ^ 32 → decode w ≡ plain false r → w ≡ r
plain_code w r h e = omega (arith, encode_decode w h, ap encode e)

-- one is larger than an empty bracket's only where it is that of a bracket with contents
pub plain_full : (w : ℕ) → w < 2 ^ 32 → decode w ≡ plain (decode w).br (decode w).ri
    → ltb 2147483648 w ≡ full_word w
plain_full w h e = go (decode w).br (decode w).ri (omega (arith, encode_decode w h, ap encode e)) (ri_lt w)
  where
    some : (n : ℕ) → ltb 2147483648 (bracket_to n) ≡ not (eqb n 0)
    some zero = refl
    some (suc n) = rw (lt-ltb 2147483648 (bracket_to (suc n)) (omega arith), ne_eqb (suc n) 0 (λ z. omega arith)) refl

    go : (b : Bool) (n : ℕ) → w ≡ bit b * 2 ^ 31 + n → n < 2 ^ 28 → ltb 2147483648 w ≡ full b n
    go true n q m = let z : w ≡ bracket_to n = omega arith in rw z (some n)
    go false n q m = le-ltb 2147483648 w (omega arith)
