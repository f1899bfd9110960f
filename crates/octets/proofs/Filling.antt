-- A list that is filled, an element a turn. In order:
--   padded_at                 zeros after a list
--   filled_length, filled_at  the length and the elements of a filled list
--   filled_fits               a list that fits is filled up with zeros
--   filled_long, filled_then  a list that is too long; a list, then what fills the rest
--   zeros_from, zeros_none    zeros from a place on, and none where that is past the end
--   Filling                   the elements below i are as they are to be
--   finish                    so are all of them
-- Assumes nothing.
use mathlib.Core.Path.{◌≡◌, refl, sym, ◌∙◌, ap, subst}
use mathlib.Core.Bool.{Bool, true, false}
use mathlib.Core.List.{List, [], ◌∷◌, ◌++◌, append-nil}
use Prim.Native.Nat.{ℕ, zero, suc, ◌+◌, ◌-◌, ◌≤◌, ◌<◌}
use native.Mathlib.Omega.{arith}
use lib.Dec.{ltb}
use lib.ListN.{length, get_or, take, drop, replicate, length-append, length-replicate, length-take}
use lib.ListN.{length-drop, get_or-append, drop_of_length-le}
use lib.Seq.{length-take-le, get_or-take, ext_get_or, get_or-append-add}
use lib.Seq.{take-append-le, take_all}
use borrow.Rule.Slice.PartMut.{put_mid}
use borrow.Author.Tests.{ltb-true, ltb-false}
use Rattle.octets.specs.Space.{filled}
use Rattle.octets.specs.Claims.{PaddedAt, FilledFits}

-- zeros after a list are what is read beyond it
zeros_at : (n i : ℕ) → ◌≡◌ {A = ℕ} (get_or (replicate n 0) i 0) 0
zeros_at zero i = refl
zeros_at (suc n) zero = refl
zeros_at (suc n) (suc i) = zeros_at n i

pub padded_at : PaddedAt
padded_at [] m i = zeros_at m i
padded_at (x ∷ xs) m zero = refl
padded_at (x ∷ xs) m (suc i) = padded_at xs m i

pub filled_length : (n : ℕ) (xs : List ℕ) → length (filled n xs) ≡ n
unfolding filled
filled_length n xs =
    length-take-le n (xs ++ replicate n 0)
    (omega (arith, length-append xs (replicate n 0), length-replicate {A = ℕ} n 0))

filled_at : (n : ℕ) (xs : List ℕ) (i : ℕ) → i < n → get_or (filled n xs) i 0 ≡ get_or xs i 0
unfolding filled
filled_at n xs i h = get_or-take n (xs ++ replicate n 0) i 0 h ∙ padded_at xs n i

pub filled_fits : FilledFits
filled_fits n xs h =
    ext_get_or 0 (filled n xs) (xs ++ replicate (n - length xs) 0)
    (omega (
      arith,
      filled_length n xs,
      length-append xs (replicate (n - length xs) 0),
      length-replicate {A = ℕ} (n - length xs) 0,
    ))
    (λ i l. filled_at n xs i (omega (arith, filled_length n xs)) ∙ sym (padded_at xs (n - length xs) i))

pub filled_long : (n : ℕ) (xs : List ℕ) → n ≤ length xs → filled n xs ≡ take n xs
unfolding filled
filled_long n xs h = take-append-le n xs (replicate n 0) h

pub filled_then : (n : ℕ) (xs ys : List ℕ) → filled (length xs + n) (xs ++ ys) ≡ xs ++ filled n ys
filled_then n xs ys =
    let m = length xs + n in
    let k = length-append xs (filled n ys) in
    ext_get_or 0 (filled m (xs ++ ys)) (xs ++ filled n ys)
    (omega (arith, filled_length m (xs ++ ys), filled_length n ys))
    (λ i l.
    let h : i < m = omega (arith, filled_length m (xs ++ ys)) in
    filled_at m (xs ++ ys) i h ∙ go i h (ltb i (length xs)) refl)
  where
    go : (i : ℕ) → i < length xs + n → (t : Bool) → ltb i (length xs) ≡ t
        → get_or (xs ++ ys) i 0 ≡ get_or (xs ++ filled n ys) i 0
    go i h true e =
        let l = ltb-true i (length xs) e in
        get_or-append xs ys 0 i l ∙ sym (get_or-append xs (filled n ys) 0 i l)
    go i h false e =
        let l = ltb-false i (length xs) e in
        let j = i - length xs in
        let q : length xs + (i - length xs) ≡ i = omega arith in
        subst (λ (x : ℕ). get_or (xs ++ ys) x 0 ≡ get_or (xs ++ filled n ys) x 0) q
        (get_or-append-add xs ys j 0
        ∙ (sym (filled_at n ys j (omega arith)) ∙ sym (get_or-append-add xs (filled n ys) j 0)))

-- zeros from a place on, and none where the place is past the end
pub zeros_from : (l : List ℕ) (n : ℕ) (zeros : List ℕ) → n ≤ length l
    → zeros ≡ replicate (length (take (length l - n) (drop n l))) 0
    → put_mid n (length l - n) l zeros ≡ filled (length l) (take n l)
zeros_from l n zeros h z =
    let m = length l - n in
    let first : length (take n l) ≡ n = omega (arith, length-take n l) in
    let many : length (take m (drop n l)) ≡ m = omega (arith, length-take m (drop n l), length-drop n l) in
    let rest : drop m (drop n l) ≡ [] = drop_of_length-le (drop n l) (omega (arith, length-drop n l)) in
    rw (z, many, filled_fits (length l) (take n l) (omega (arith, first)), first, rest)
    (ap (λ (x : List ℕ). take n l ++ x) (append-nil (replicate m 0)))

pub zeros_none : (l : List ℕ) (n : ℕ) → length l ≤ n → l ≡ filled (length l) (take n l)
zeros_none l n h =
    let z : length l - length l ≡ 0 = omega arith in
    rw (take_all n l h, filled_fits (length l) l (omega arith), z) (sym (append-nil l))

-- l was l₀ and becomes a filled list of xs: its elements below i are those of xs
pub record Filling (l₀ xs l : List ℕ) (i : ℕ) : Type 0 where
  pub same : length l ≡ length l₀
  pub below : (j : ℕ) → j < i → get_or l j 0 ≡ get_or xs j 0

pub finish : {l₀ xs l : List ℕ} {i : ℕ} → Filling l₀ xs l i → length l ≤ i → l ≡ filled (length l₀) xs
finish {l₀} {xs} {l} {i} f h =
    ext_get_or 0 l (filled (length l₀) xs) (f.same ∙ sym (filled_length (length l₀) xs))
    (λ j g. f.below j (omega arith) ∙ sym (filled_at (length l₀) xs j (omega (arith, f.same))))
