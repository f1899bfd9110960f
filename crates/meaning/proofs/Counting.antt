-- Tests of numbers, and how many cells below one are in a set. In order:
--   leb_suc                      a test at the next number is the test at this one, but for one number
--   positive                     a number that is not 0
--   both_true                    two tests that hold together hold each;  refuted  one that fails refutes what it tests
--   within, yes_within           a test of two bounds
--   count                        how many cells below c are in a set
--   count_same, count_less_one   of two sets alike, and of a set with one cell taken out
-- Assumes nothing.
use mathlib.Core.Path.{◌≡◌, refl, sym, ◌∙◌}
use mathlib.Core.Logic.{◌≢◌}
use mathlib.Core.Bool.{Bool, true, false, cond, ◌&&◌, false≢true}
use Prim.Native.Nat.{ℕ, zero, suc, ◌≤◌, ◌<◌}
use native.Mathlib.Omega.{arith}
use native.Mathlib.Decide.{ℕ_discrete}
use lib.Dec.{leb, eqb}
use borrow.Author.Tests.{leb-true, le-leb, eqb-false}

iff_eq : (a b : Bool) → (a ≡ true → b ≡ true) → (b ≡ true → a ≡ true) → a ≡ b
iff_eq true b f h = sym (f refl)
iff_eq false true f h = h refl
iff_eq false false f h = refl

pub leb_suc : (c x : ℕ) → c ≢ x → leb (suc x) c ≡ leb x c
leb_suc c x n =
    iff_eq (leb (suc x) c) (leb x c) (λ e. le-leb x c (omega (arith, leb-true (suc x) c e)))
    (λ e. le-leb (suc x) c (omega (arith, leb-true x c e)))

pub positive : (a : ℕ) → eqb a 0 ≡ false → 0 < a
positive a z = let n = eqb-false a 0 z in omega (arith, n)

pub both_true : (a b : Bool) → (a && b) ≡ true → (a ≡ true) × (b ≡ true)
both_true true b e = (refl, e)
both_true false b e = (e, cc)

pub refuted : {A : Type 0} (t : Bool) → (A → t ≡ true) → t ≡ false → A → ⊥
refuted t f e a = false≢true (sym e ∙ f a)

pub within : (l r x : ℕ) → (leb l x && leb x r) ≡ true → (l ≤ x) × (x ≤ r)
within l r x e = let b = both_true (leb l x) (leb x r) e in (leb-true l x b.0, leb-true x r b.1)

pub yes_within : (l r x : ℕ) → l ≤ x → x ≤ r → (leb l x && leb x r) ≡ true
yes_within l r x h k = simp (le-leb l x h, le-leb x r k)

-- ---- counting

-- how many cells below c are in f
unfoldable pub count : (ℕ → Bool) → ℕ → ℕ
count f zero = 0
count f (suc c) = cond (f c) (suc (count f c)) (count f c)

count_true : (f : ℕ → Bool) (c : ℕ) → f c ≡ true → count f (suc c) ≡ suc (count f c)
unfolding count
count_true f c e = rw e

count_false : (f : ℕ → Bool) (c : ℕ) → f c ≡ false → count f (suc c) ≡ count f c
unfolding count
count_false f c e = rw e

-- two sets alike below n
pub count_same : (f h : ℕ → Bool) (n : ℕ) → ((c : ℕ) → c < n → h c ≡ f c) → count h n ≡ count f n
unfolding count
count_same f h zero e = refl
count_same f h (suc n) e = rw (e n (omega arith), count_same f h n (λ c lt. e c (omega arith)))

-- one cell taken out
pub count_less_one : (f h : ℕ → Bool) (k n : ℕ) → k < n → f k ≡ true → h k ≡ false
    → ((c : ℕ) → c ≢ k → h c ≡ f c) → suc (count h n) ≡ count f n
count_less_one f h k zero lt p q e = absurd (let z : ⊥ = omega arith in z)
count_less_one f h k (suc n) lt p q e = go (ℕ_discrete k n) (count_less_one f h k n)
  where
    again : (b : Bool) → f n ≡ b → h n ≡ b → suc (count h n) ≡ count f n → suc (count h (suc n)) ≡ count f (suc n)
    again true x y ih = omega (arith, count_true f n x, count_true h n y)
    again false x y ih = omega (arith, count_false f n x, count_false h n y)

    go : Dec (k ≡ n) → (k < n → f k ≡ true → h k ≡ false → ((c : ℕ) → c ≢ k → h c ≡ f c) → suc (count h n) ≡ count f n)
        → suc (count h (suc n)) ≡ count f (suc n)
    go (yes i) ih =
        omega (
          arith,
          count_false h n (rw i at q),
          count_true f n (rw i at p),
          count_same f h n (λ c l. e c (λ z. omega arith)),
        )
    go (no i) ih = again (f n) refl (e n (λ z. i (sym z))) (ih (omega arith) p q e)
