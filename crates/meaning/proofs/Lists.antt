-- Ascending lists of numbers: membership, places, and counts of what is below a number. In order:
--   lt_or_ge                   a number is below another or not
--   In, Asc                    membership;  strictly ascending, from lo on
--   asc_weaken, asc_in         from a lower number on;  no member is below lo
--   in_get_d                    what stands at a place is a member
--   below_low                  none is below lo
--   place, below_get_d          at the place that a member's count gives stands the member, and back
--   count_if_mono, below_mono   a greater number has no fewer below it
--   below_suc, below_run       past a member one more, past a run of n members n more
--   below_le                   lo and the count below c come to c at most
--   asc_length                 there are no more members than numbers between
--   asc_within                 nor more than a list has that has them all
-- Assumes nothing.
use mathlib.Core.Path.{◌≡◌, refl, sym, ap, ◌∙◌}
use mathlib.Core.Logic.{◌⊎◌, inl, inr}
use mathlib.Core.Bool.{Bool, true, false}
use mathlib.Core.List.{List, [], ◌∷◌}
use Prim.Native.Nat.{ℕ, zero, suc, ◌+◌, ◌≤◌, ◌<◌}
use native.Mathlib.Nat.{le_refl, le_trans, not-suc-le-zero, le_of_suc-le-suc, add-zero, add-suc}
use native.Mathlib.Omega.{arith}
use lib.Dec.{ltb}
use lib.ListN.{length, get_or}
use borrow.Author.Tests.{ltb-true, ltb-false, lt-ltb, le-ltb}
use Rattle.meaning.specs.Collected.{below, count_if}

pub lt_or_ge : (a b : ℕ) → (a < b) ⊎ (b ≤ a)
lt_or_ge a b = go (ltb a b) refl
  where
    go : (t : Bool) → ltb a b ≡ t → (a < b) ⊎ (b ≤ a)
    go true e = inl (ltb-true a b e)
    go false e = inr (ltb-false a b e)

abbrev pub In : ℕ → List ℕ → Type 0
In c [] = ⊥
In c (x ∷ xs) = (c ≡ x) ⊎ In c xs

-- strictly ascending, from lo on
abbrev pub Asc : ℕ → List ℕ → Type 0
Asc lo [] = Unit {0}
Asc lo (x ∷ xs) = (lo ≤ x) × Asc (suc x) xs

pub asc_weaken : (lo lo' : ℕ) (xs : List ℕ) → lo' ≤ lo → Asc lo xs → Asc lo' xs
asc_weaken lo lo' [] h a = tt
asc_weaken lo lo' (x ∷ xs) h a = (le_trans h a.0, a.1)

pub asc_in : (lo c : ℕ) (xs : List ℕ) → Asc lo xs → In c xs → lo ≤ c
asc_in lo c [] a i = absurd i
asc_in lo c (x ∷ xs) a (inl e) = omega (arith, a.0)
asc_in lo c (x ∷ xs) a (inr i) = omega (arith, a.0, asc_in (suc x) c xs a.1 i)

pub in_get_d : (xs : List ℕ) (j : ℕ) → j < length xs → In (get_or xs j 0) xs
in_get_d [] j h = absurd (not-suc-le-zero h)
in_get_d (x ∷ xs) zero h = inl refl
in_get_d (x ∷ xs) (suc j) h = inr (in_get_d xs j (le_of_suc-le-suc h))

pub below_low : (lo c : ℕ) (xs : List ℕ) → Asc lo xs → c ≤ lo → below c xs ≡ 0
below_low lo c [] a h = refl
below_low lo c (x ∷ xs) a h = rw (le-ltb x c (le_trans h a.0)) (below_low (suc x) c xs a.1 (omega (arith, a.0)))

-- the place of a member
pub place : (lo c : ℕ) (xs : List ℕ) → Asc lo xs → In c xs → (below c xs < length xs) × (get_or xs (below c xs) 0 ≡ c)
place lo c [] a i = absurd i
place lo c (x ∷ xs) a (inl e) =
    rw (le-ltb x c (omega arith), below_low (suc x) c xs a.1 (omega arith)) (omega arith, sym e)
place lo c (x ∷ xs) a (inr i) =
    let p = place (suc x) c xs a.1 i in
    rw (lt-ltb x c (asc_in (suc x) c xs a.1 i)) (omega arith, p.1)

-- the k-th has k below it
pub below_get_d : (lo : ℕ) (xs : List ℕ) (j : ℕ) → Asc lo xs → j < length xs → below (get_or xs j 0) xs ≡ j
below_get_d lo [] j a h = absurd (not-suc-le-zero h)
below_get_d lo (x ∷ xs) zero a h = rw (le-ltb x x (le_refl x)) (below_low (suc x) x xs a.1 (omega arith))
below_get_d lo (x ∷ xs) (suc j) a h =
    rw (lt-ltb x (get_or xs j 0) (asc_in (suc x) (get_or xs j 0) xs a.1 (in_get_d xs j (le_of_suc-le-suc h))))
    (ap suc (below_get_d (suc x) xs j a.1 (le_of_suc-le-suc h)))

pub count_if_mono : (x c c' : ℕ) {m n : ℕ} → c ≤ c' → m ≤ n → count_if (ltb x c) m ≤ count_if (ltb x c') n
count_if_mono x c c' {m} {n} h l = go (ltb x c) refl
  where
    go' : (t : Bool) → m ≤ count_if t n
    go' true = omega arith
    go' false = l

    go : (t : Bool) → ltb x c ≡ t → count_if t m ≤ count_if (ltb x c') n
    go true e = rw (lt-ltb x c' (omega (arith, ltb-true x c e))) (omega arith)
    go false e = go' (ltb x c')

pub below_mono : (xs : List ℕ) (c c' : ℕ) → c ≤ c' → below c xs ≤ below c' xs
below_mono [] c c' h = omega arith
below_mono (x ∷ xs) c c' h = count_if_mono x c c' h (below_mono xs c c' h)

pub below_suc : (lo c : ℕ) (xs : List ℕ) → Asc lo xs → In c xs → below (suc c) xs ≡ suc (below c xs)
below_suc lo c [] a i = absurd i
below_suc lo c (x ∷ xs) a (inl e) =
    rw (
      lt-ltb x (suc c) (omega arith),
      le-ltb x c (omega arith),
      below_low (suc x) (suc c) xs a.1 (omega arith),
      below_low (suc x) c xs a.1 (omega arith),
    ) refl
below_suc lo c (x ∷ xs) a (inr i) =
    let l = asc_in (suc x) c xs a.1 i in
    rw (lt-ltb x (suc c) (omega arith), lt-ltb x c l) (ap suc (below_suc (suc x) c xs a.1 i))

-- along a run of members the count goes up by one a step
pub below_run : (lo : ℕ) (xs : List ℕ) → Asc lo xs → (l n : ℕ) → ((j : ℕ) → j < n → In (l + j) xs)
    → below (l + n) xs ≡ below l xs + n
below_run lo xs a l zero h = rw (add-zero l) (sym (add-zero (below l xs)))
below_run lo xs a l (suc n) h =
    rw (add-suc l n, add-suc (below l xs) n)
    (below_suc lo (l + n) xs a (h n (omega arith)) ∙ ap suc (below_run lo xs a l n (λ j p. h j (omega arith))))

-- no member moves up
below_le_at : (lo x c n : ℕ) (t : Bool) → ltb x c ≡ t → lo ≤ x → lo ≤ c → (x < c → suc x + n ≤ c) → (c ≤ x → n ≡ 0)
    → lo + count_if t n ≤ c
below_le_at lo x c n true e h l p q = omega (arith, p (ltb-true x c e))
below_le_at lo x c n false e h l p q = omega (arith, q (ltb-false x c e))

pub below_le : (lo c : ℕ) (xs : List ℕ) → Asc lo xs → lo ≤ c → lo + below c xs ≤ c
below_le lo c [] a h = omega arith
below_le lo c (x ∷ xs) a h =
    below_le_at lo x c (below c xs) (ltb x c) refl a.0 h (λ l. below_le (suc x) c xs a.1 l)
    (λ l. below_low (suc x) c xs a.1 (omega arith))

-- there are no more of them than numbers between
pub asc_length : (lo hi : ℕ) (xs : List ℕ) → Asc lo xs → lo ≤ hi → ((c : ℕ) → In c xs → c < hi) → lo + length xs ≤ hi
asc_length lo hi [] a h b = omega arith
asc_length lo hi (x ∷ xs) a h b =
    omega (arith, a.0, asc_length (suc x) hi xs a.1 (b x (inl refl)) (λ c i. b c (inr i)))

pub asc_within : (lo : ℕ) (xs ys : List ℕ) → Asc lo xs → Asc lo ys → ((c : ℕ) → In c xs → In c ys)
    → length xs ≤ length ys
asc_within lo [] ys a b h = omega arith
asc_within lo (x ∷ xs) [] a b h = absurd (h x (inl refl))
asc_within lo (x ∷ xs) (y ∷ ys) a b h =
    go (h x (inl refl)) (asc_within (suc x) xs ys a.1) (asc_within (suc y) (x ∷ xs) ys)
  where
    behind : (c : ℕ) → y < c → In c (y ∷ ys) → In c ys
    behind c l (inl e) = absurd (omega arith)
    behind c l (inr i) = i

    go : (x ≡ y) ⊎ In x ys → (Asc (suc x) ys → ((c : ℕ) → In c xs → In c ys) → length xs ≤ length ys)
        → (Asc (suc y) (x ∷ xs) → Asc (suc y) ys → ((c : ℕ) → In c (x ∷ xs) → In c ys) → suc (length xs) ≤ length ys)
        → suc (length xs) ≤ suc (length ys)
    go (inl e) r q =
        let m = r (rw e b.1) (λ c i. behind c (omega (arith, asc_in (suc x) c xs a.1 i)) (h c (inr i))) in
        omega arith
    go (inr i) r q =
        let l = asc_in (suc y) x ys b.1 i in
        let m = q (l, a.1) b.1
        (λ c k. behind c (omega (arith, asc_in x c (x ∷ xs) (le_refl x, a.1) k)) (h c k)) in
        omega arith
