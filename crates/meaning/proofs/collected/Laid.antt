-- The words of cells laid out one after the other. In order:
--   lay_length                         two words a cell;  lay_fst, lay_snd  the two of the j-th
--   up_from_length, up_from_get_d         n numbers from c on: how many, and the j-th
--   kept_low, kept_high, kept_length   the numbers below F and then a list
--   zeros_after                        past the cells stand zeros
-- Assumes nothing.
use mathlib.Core.Path.{◌≡◌, refl, sym, ap, ◌∙◌}
use mathlib.Core.List.{List, [], ◌∷◌, ◌++◌}
use Prim.Native.Nat.{ℕ, zero, suc, ◌+◌, ◌-◌, ◌*◌, ◌≤◌, ◌<◌}
use native.Mathlib.Nat.{not-suc-le-zero, le_of_suc-le-suc, add-zero, zero-add, suc-add, add-suc}
use native.Mathlib.Omega.{arith}
use lib.ListN.{length, get_or, length-append, get_or-append, replicate, get_or-replicate}
use lib.Seq.{get_or-append-add}
use Rattle.meaning.specs.Sound.{Cell, fst, snd}
use Rattle.meaning.specs.Collected.{lay, up_from}

pub lay_length : (k : ℕ → Cell) (xs : List ℕ) → length (lay k xs) ≡ 2 * length xs
lay_length k [] = refl
lay_length k (x ∷ xs) = omega (arith, lay_length k xs)

pub lay_fst : (k : ℕ → Cell) (xs zs : List ℕ) (j : ℕ) → j < length xs
    → get_or (lay k xs ++ zs) (2 * j) 0 ≡ fst (k (get_or xs j 0))
lay_fst k [] zs j h = absurd (not-suc-le-zero h)
lay_fst k (x ∷ xs) zs zero h = refl
lay_fst k (x ∷ xs) zs (suc j) h =
    let e : 2 * suc j ≡ suc (suc (2 * j)) = omega arith in
    rw e (lay_fst k xs zs j (le_of_suc-le-suc h))

pub lay_snd : (k : ℕ → Cell) (xs zs : List ℕ) (j : ℕ) → j < length xs
    → get_or (lay k xs ++ zs) (2 * j + 1) 0 ≡ snd (k (get_or xs j 0))
lay_snd k [] zs j h = absurd (not-suc-le-zero h)
lay_snd k (x ∷ xs) zs zero h = refl
lay_snd k (x ∷ xs) zs (suc j) h =
    let e : 2 * suc j + 1 ≡ suc (suc (2 * j + 1)) = omega arith in
    rw e (lay_snd k xs zs j (le_of_suc-le-suc h))

pub up_from_length : (c n : ℕ) → length (up_from c n) ≡ n
up_from_length c zero = refl
up_from_length c (suc n) = ap suc (up_from_length (suc c) n)

pub up_from_get_d : (c n j : ℕ) → j < n → get_or (up_from c n) j 0 ≡ c + j
up_from_get_d c zero j h = absurd (not-suc-le-zero h)
up_from_get_d c (suc n) zero h = sym (add-zero c)
up_from_get_d c (suc n) (suc j) h = up_from_get_d (suc c) n j (le_of_suc-le-suc h) ∙ (suc-add c j ∙ sym (add-suc c j))

-- the numbers below F and then xs
pub kept_low : (F : ℕ) (xs : List ℕ) (i : ℕ) → i < F → get_or (up_from 0 F ++ xs) i 0 ≡ i
kept_low F xs i h =
    get_or-append (up_from 0 F) xs 0 i (omega (arith, up_from_length 0 F)) ∙ (up_from_get_d 0 F i h ∙ zero-add i)

pub kept_high : (F : ℕ) (xs : List ℕ) (j : ℕ) → get_or (up_from 0 F ++ xs) (F + j) 0 ≡ get_or xs j 0
kept_high F xs j = rw (up_from_length 0 F) at (get_or-append-add (up_from 0 F) xs j 0)

pub kept_length : (F : ℕ) (xs : List ℕ) → length (up_from 0 F ++ xs) ≡ F + length xs
kept_length F xs = length-append (up_from 0 F) xs ∙ ap (λ (n : ℕ). n + length xs) (up_from_length 0 F)

-- past the cells stand zeros
pub zeros_after : (xs : List ℕ) (n i : ℕ) → length xs ≤ i → i < length xs + n → get_or (xs ++ replicate n 0) i 0 ≡ 0
zeros_after xs n i h l =
    let e : i ≡ length xs + (i - length xs) = omega arith in
    rw e (get_or-append-add xs (replicate n 0) (i - length xs) 0 ∙ get_or-replicate n (i - length xs) 0 0 (omega arith))
