-- Laws of decimal digits. In order:
--   by_digits                   what holds of one digit, and of a number if it holds of the number less its last digit
--   decimal_one, decimal_more   the digits of a number; decimal_rows
--   length_most                 a number below 10 to the d has at most d digits; word_digits, long_digits
--   decimal_back                they stand for the number
--   only_digits, no_leading_zero
-- Assumes nothing.
use mathlib.Core.Path.{◌≡◌, refl, sym, ap, ◌∙◌}
use mathlib.Core.Bool.{Bool, true, false}
use mathlib.Core.List.{List, [], ◌∷◌, ◌++◌}
use Prim.Native.Nat.{ℕ, zero, suc, ◌+◌, ◌-◌, ◌*◌, ◌/◌, ◌%◌, ◌^◌, ◌≤◌, ◌<◌}
use native.Mathlib.Nat.{not-suc-le-zero, pow-suc}
use native.Mathlib.Omega.{arith}
use lib.Dec.{ltb}
use lib.ListN.{length, get_or, length-append}
use borrow.Author.Tests.{lt-ltb, le-ltb, ltb-true, ltb-false}
use Rattle.octets.specs.Decimal.{digits, decimal}
use Rattle.octets.specs.Claims.{DecimalRows, value_after, DecimalBack, AllDigits, OnlyDigits}
use Rattle.octets.specs.Claims.{NoLeadingZero}

module _ (P : ℕ → Type 0) (one : (n : ℕ) → n < 10 → P n) (more : (n : ℕ) → 10 ≤ n → P (n / 10) → P n) where
  by_steps : (k n : ℕ) → n < k → P n
  by_steps zero n h = absurd (not-suc-le-zero h)
  by_steps (suc k) n h = go (ltb n 10) refl (λ l. by_steps k (n / 10) (omega arith))
    where
      go : (t : Bool) → ltb n 10 ≡ t → (10 ≤ n → P (n / 10)) → P n
      go true e r = one n (ltb-true n 10 e)
      go false e r = more n (ltb-false n 10 e) (r (ltb-false n 10 e))

  by_digits : (n : ℕ) → P n
  by_digits n = by_steps (suc n) n (omega arith)

-- ---- the digits of a number

digits_one : (k n : ℕ) → n < 10 → digits (suc k) n ≡ (48 + n) ∷ []
digits_one k n h = rw (lt-ltb n 10 h, digits) refl

digits_more : (k n : ℕ) → 10 ≤ n → digits (suc k) n ≡ digits k (n / 10) ++ ((48 + n % 10) ∷ [])
digits_more k n h = rw (le-ltb n 10 h, digits) refl

-- more steps than enough give the same digits
digits_enough : (n k : ℕ) → n < k → digits k n ≡ decimal n
unfolding decimal
digits_enough = by_digits (λ n. (k : ℕ) → n < k → digits k n ≡ digits (suc n) n) one more
  where
    one : (n : ℕ) → n < 10 → (k : ℕ) → n < k → digits k n ≡ digits (suc n) n
    one n l zero h = absurd (not-suc-le-zero h)
    one n l (suc k) h = digits_one k n l ∙ sym (digits_one n n l)

    more : (n : ℕ) → 10 ≤ n → ((k : ℕ) → n / 10 < k → digits k (n / 10) ≡ digits (suc (n / 10)) (n / 10))
        → (k : ℕ) → n < k → digits k n ≡ digits (suc n) n
    more n l r zero h = absurd (not-suc-le-zero h)
    more n l r (suc k) h =
        digits_more k n l
        ∙ (ap (λ (x : List ℕ). x ++ ((48 + n % 10) ∷ [])) (r k (omega arith) ∙ sym (r n (omega arith)))
        ∙ sym (digits_more n n l))

pub decimal_one : (n : ℕ) → n < 10 → decimal n ≡ (48 + n) ∷ []
unfolding decimal
decimal_one n h = digits_one n n h

pub decimal_more : (n : ℕ) → 10 ≤ n → decimal n ≡ decimal (n / 10) ++ ((48 + n % 10) ∷ [])
unfolding decimal
decimal_more n h =
    digits_more n n h ∙ ap (λ (x : List ℕ). x ++ ((48 + n % 10) ∷ [])) (digits_enough (n / 10) n (omega arith))

pub decimal_rows : DecimalRows
unfolding decimal
decimal_rows = (refl, refl)

-- ---- how many they are

pub length_one : (n : ℕ) → n < 10 → length (decimal n) ≡ 1
length_one n h = ap length (decimal_one n h)

pub length_more : (n : ℕ) → 10 ≤ n → length (decimal n) ≡ length (decimal (n / 10)) + 1
length_more n h = ap length (decimal_more n h) ∙ simp length-append

-- a number below 10 to the d has at most d digits
length_most : (n d : ℕ) → n < 10 ^ suc d → length (decimal n) ≤ suc d
length_most = by_digits (λ n. (d : ℕ) → n < 10 ^ suc d → length (decimal n) ≤ suc d) one more
  where
    one : (n : ℕ) → n < 10 → (d : ℕ) → n < 10 ^ suc d → length (decimal n) ≤ suc d
    one n l d h = omega (arith, length_one n l)

    more : (n : ℕ) → 10 ≤ n → ((d : ℕ) → n / 10 < 10 ^ suc d → length (decimal (n / 10)) ≤ suc d)
        → (d : ℕ) → n < 10 ^ suc d → length (decimal n) ≤ suc d
    more n l r zero h = absurd (omega arith)
    more n l r (suc d) h = omega (arith, length_more n l, r d (omega (arith, pow-suc 10 (suc d))))

pub word_digits : (n : ℕ) → n < 2 ^ 32 → length (decimal n) ≤ 10
word_digits n h = length_most n 9 (omega arith)

pub long_digits : (n : ℕ) → n < 2 ^ 64 → length (decimal n) ≤ 20
long_digits n h = length_most n 19 (omega arith)

-- ---- what they are

value_last : (a : ℕ) (xs : List ℕ) (b : ℕ) → value_after a (xs ++ (b ∷ [])) ≡ 10 * value_after a xs + (b - 48)
value_last a [] b = refl
value_last a (x ∷ xs) b = value_last (10 * a + (x - 48)) xs b

pub decimal_back : DecimalBack
decimal_back = by_digits (λ n. value_after 0 (decimal n) ≡ n) one more
  where
    one : (n : ℕ) → n < 10 → value_after 0 (decimal n) ≡ n
    one n l = ap (value_after 0) (decimal_one n l) ∙ omega arith

    more : (n : ℕ) → 10 ≤ n → value_after 0 (decimal (n / 10)) ≡ n / 10 → value_after 0 (decimal n) ≡ n
    more n l r =
        ap (value_after 0) (decimal_more n l)
        ∙ (value_last 0 (decimal (n / 10)) (48 + n % 10) ∙ omega (arith, r))

digits_last : (xs : List ℕ) (b : ℕ) → AllDigits xs → 48 ≤ b → b ≤ 57 → AllDigits (xs ++ (b ∷ []))
digits_last [] b h p q zero g = (p, q)
digits_last [] b h p q (suc i) g = absurd (omega arith)
digits_last (x ∷ xs) b h p q zero g = h 0 (omega arith)
digits_last (x ∷ xs) b h p q (suc i) g = digits_last xs b (λ j l. h (suc j) (omega arith)) p q i (omega arith)

pub only_digits : OnlyDigits
only_digits = by_digits (λ n. AllDigits (decimal n)) one more
  where
    one : (n : ℕ) → n < 10 → AllDigits (decimal n)
    one n l = rw (decimal_one n l) (digits_last [] (48 + n) (λ j g. absurd (omega arith)) (omega arith) (omega arith))

    more : (n : ℕ) → 10 ≤ n → AllDigits (decimal (n / 10)) → AllDigits (decimal n)
    more n l r = rw (decimal_more n l) (digits_last (decimal (n / 10)) (48 + n % 10) r (omega arith) (omega arith))

-- the first digit of a list is that of a list after it
first_kept : (xs ys : List ℕ) → 48 < get_or xs 0 0 → 48 < get_or (xs ++ ys) 0 0
first_kept [] ys h = absurd (omega arith)
first_kept (x ∷ xs) ys h = h

pub no_leading_zero : NoLeadingZero
no_leading_zero = by_digits (λ n. 0 < n → 48 < get_or (decimal n) 0 0) one more
  where
    one : (n : ℕ) → n < 10 → 0 < n → 48 < get_or (decimal n) 0 0
    one n l h = rw (decimal_one n l) (omega arith)

    more : (n : ℕ) → 10 ≤ n → (0 < n / 10 → 48 < get_or (decimal (n / 10)) 0 0) → 0 < n → 48 < get_or (decimal n) 0 0
    more n l r h = rw (decimal_more n l) (first_kept (decimal (n / 10)) ((48 + n % 10) ∷ []) (r (omega arith)))
