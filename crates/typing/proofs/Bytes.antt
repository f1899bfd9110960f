-- The bytes of a text that are left. In order:
--   code_at_le                                     a code only grows
--   Numbering, number_onward .. number_all         a number, a digit a turn
--   NoDigit, decimal_code, decimal_left            the digits of a code, read where no digit follows
--   decimal_first, decimal_goes_on                 its first byte is a digit, so a term stands there
-- Assumes nothing.
use mathlib.Core.Path.{◌≡◌, refl, sym, ap, ◌∙◌}
use mathlib.Core.Bool.{Bool, true, false, cond}
use mathlib.Core.List.{List, [], ◌∷◌, ◌++◌}
use mathlib.Core.Logic.{◌⊎◌, inl, inr}
use Prim.Native.Nat.{ℕ, suc, ◌+◌, ◌^◌, ◌≤◌, ◌<◌}
use native.Mathlib.Omega.{arith}
use native.Mathlib.Nat.{not-suc-le-zero}
use native.Mathlib.Numerals.{add-one}
use lib.ListN.{length, get_or, drop, drop_of_length-le}
use lib.Seq.{drop-cons}
use borrow.Author.Tests.{le-leb, ne_eqb}
use Rattle.std.specs.Char.{is_ascii_digit}
use Rattle.octets.specs.Decimal.{decimal}
use Rattle.octets.specs.Claims.{value_after, AllDigits}
use Rattle.octets.proofs.Decimals.{length_one, length_more, decimal_back, only_digits}
use Rattle.meaning.specs.Judge.{is_digit, with_digit}
use Rattle.meaning.proofs.Lists.{lt_or_ge}
use Rattle.typing.specs.Scanning.{goes_on, code_at, less_digits}

-- a code only grows
pub code_at_le : (a : ℕ) (bs : List ℕ) → a ≤ code_at a bs
unfolding with_digit
code_at_le a [] = omega arith
code_at_le a (b ∷ bs) = go (is_digit b) (code_at_le (with_digit a b) bs)
  where
    go : (t : Bool) → with_digit a b ≤ code_at (with_digit a b) bs
        → a ≤ cond t (code_at (with_digit a b) bs) a
    go true h = omega arith
    go false h = omega arith

-- what the library says of a byte
pub digit_as : (b : ℕ) {t : Bool} → t ≡ is_ascii_digit b → is_digit b ≡ t
unfolding is_digit
digit_as b e = sym e

-- ---- the number, a digit a turn: the code of what is left is that of the whole
pub record Numbering (bs : List ℕ) (code i : ℕ) : Type 0 where
  pub value : code_at code (drop i bs) ≡ code_at 0 bs
  pub rest : less_digits (drop i bs) ≡ less_digits bs

module _ (bs : List ℕ) (code i : ℕ) (k : Numbering bs code i) where
  pub number_onward : i < length bs → is_digit (get_or bs i 0) ≡ true
      → Numbering bs (with_digit code (get_or bs i 0)) (i + 1)
  number_onward h e = record {
    value = rw add-one (sym (ap (code_at code) (drop-cons bs i 0 h) ∙ rw e refl) ∙ k.value);
    rest = rw add-one (sym (ap less_digits (drop-cons bs i 0 h) ∙ rw e refl) ∙ k.rest);
  }

  -- a code that fits 28 bits in the end does so before its next digit
  pub number_fits : code_at 0 bs < 2 ^ 28 → code < 2 ^ 28
  number_fits h = omega (arith, k.value, code_at_le code (drop i bs))

  -- a byte that is no digit
  pub number_end : i < length bs → is_digit (get_or bs i 0) ≡ false
      → (code ≡ code_at 0 bs) × (drop i bs ≡ less_digits bs)
  number_end h e = (
    sym (ap (code_at code) (drop-cons bs i 0 h) ∙ rw e refl) ∙ k.value,
    drop-cons bs i 0 h ∙ (sym (ap less_digits (drop-cons bs i 0 h) ∙ rw e refl) ∙ k.rest),
  )

  -- the bytes end
  pub number_all : length bs ≤ i → (code ≡ code_at 0 bs) × (drop i bs ≡ less_digits bs)
  number_all h =
      let e = drop_of_length-le bs h in
      (sym (ap (code_at code) e) ∙ k.value, e ∙ (sym (ap less_digits e) ∙ k.rest))

-- ---- the decimal digits of a code

-- no digit comes next
abbrev pub NoDigit : List ℕ → Type 0
NoDigit [] = Unit {0}
NoDigit (b ∷ bs) = is_digit b ≡ false

in_range : (b : ℕ) → 48 ≤ b → b ≤ 57 → is_digit b ≡ true
unfolding is_digit
in_range b h k = simp (le-leb 48 b h, le-leb b 57 k)

-- bytes that are all digits, where no digit follows
first_digit : (x : ℕ) (xs : List ℕ) → AllDigits (x ∷ xs) → is_digit x ≡ true
first_digit x xs h = let r = h 0 (omega arith) in in_range x r.0 r.1

code_at_digits : (a : ℕ) (xs ys : List ℕ) → AllDigits xs → NoDigit ys → code_at a (xs ++ ys) ≡ value_after a xs
unfolding with_digit
code_at_digits a [] [] h n = refl
code_at_digits a [] (y ∷ ys) h n = rw n refl
code_at_digits a (x ∷ xs) ys h n =
    rw (first_digit x xs h) (code_at_digits (with_digit a x) xs ys (λ i l. h (suc i) (omega arith)) n)

less_digits_digits : (xs ys : List ℕ) → AllDigits xs → NoDigit ys → less_digits (xs ++ ys) ≡ ys
less_digits_digits [] [] h n = refl
less_digits_digits [] (y ∷ ys) h n = rw n refl
less_digits_digits (x ∷ xs) ys h n =
    rw (first_digit x xs h) (less_digits_digits xs ys (λ i l. h (suc i) (omega arith)) n)

decimal_some : (a : ℕ) → 0 < length (decimal a)
decimal_some a = go (lt_or_ge a 10)
  where
    go : (a < 10) ⊎ (10 ≤ a) → 0 < length (decimal a)
    go (inl h) = omega (arith, length_one a h)
    go (inr h) = omega (arith, length_more a h)

module _ (a : ℕ) (ys : List ℕ) where
  pub decimal_code : NoDigit ys → code_at 0 (decimal a ++ ys) ≡ a
  decimal_code n = code_at_digits 0 (decimal a) ys (only_digits a) n ∙ decimal_back a

  pub decimal_left : NoDigit ys → less_digits (decimal a ++ ys) ≡ ys
  decimal_left n = less_digits_digits (decimal a) ys (only_digits a) n

  -- its first byte is a digit, and no bracket
  pub decimal_first : {b : ℕ} {cs : List ℕ} → b ∷ cs ≡ decimal a ++ ys → is_digit b ≡ true
  decimal_first {b} {cs} e = go (decimal a) (only_digits a) (decimal_some a) e
    where
      go : (xs : List ℕ) → AllDigits xs → 0 < length xs → b ∷ cs ≡ xs ++ ys → is_digit b ≡ true
      go [] h l e = absurd (not-suc-le-zero l)
      go (x ∷ xs) h l e = let f : b ≡ x = cc in ap is_digit f ∙ first_digit x xs h

  pub decimal_goes_on : goes_on (decimal a ++ ys) ≡ true
  decimal_goes_on = go (decimal a) (only_digits a) (decimal_some a)
    where
      go : (xs : List ℕ) → AllDigits xs → 0 < length xs → goes_on (xs ++ ys) ≡ true
      go [] h l = absurd (not-suc-le-zero l)
      go (x ∷ xs) h l = let r = h 0 (omega arith) in rw (ne_eqb x 41 (λ e. omega (arith, r.0))) refl
