-- Laws of what the program writes. In order:
--   too_short to right   what is wrong with an input, by its tests in their order;  long  whatever its calls are
--   fault_few            it is at most 4;  fits  what an input is that nothing is wrong with
--   program_refused, program_output   what is written by what is wrong
--   program_take         bytes after the first that is too many change nothing
--   program_cells        every capacity that it takes is one that a store may have
-- Assumes nothing.
use mathlib.Core.Path.{◌≡◌, refl, sym, ap, ◌∙◌}
use mathlib.Core.Logic.{◌⊎◌, inl, inr, ◌≢◌}
use mathlib.Core.Bool.{Bool, true, false, cond, ◌||◌}
use mathlib.Core.List.{List, [], ◌∷◌}
use Prim.Native.Nat.{ℕ, zero, suc, ◌+◌, ◌-◌, ◌%◌, ◌≤◌, ◌<◌}
use native.Mathlib.Omega.{arith}
use lib.Dec.{ltb}
use lib.ListN.{length, get_or, take, drop}
use lib.Seq.{length-take-le, take_all}
use borrow.Author.Tests.{lt-ltb, le-ltb}
use Rattle.octets.specs.Little.{words_of}
use Rattle.meaning.specs.Limits.{limit, program_cells, program_bytes}
use Rattle.meaning.specs.Program.{refusal, output, input_fault, program}
use Rattle.meaning.proofs.Lists.{lt_or_ge}

module _ (F : ℕ) (input : List ℕ) where
  -- ---- what is wrong with an input, by the first test that it fails

  pub too_short : length input < 4 → input_fault F input ≡ 1
  unfolding input_fault
  too_short a = rw (lt-ltb (length input) 4 a)

  module _ (a : 4 ≤ length input) (cells : ℕ) (e : cells ≡ get_or (words_of input) 0 0) where
    pub too_small : cells < F → input_fault F input ≡ 1
    unfolding input_fault
    too_small b = rw (le-ltb (length input) 4 a, ← e, lt-ltb cells F b)

    -- too long, whatever its calls are
    pub long : program_bytes < length input → input_fault F input ≡ cond (ltb cells F || ltb program_cells cells) 1 4
    unfolding input_fault
    long d = rw (le-ltb (length input) 4 a, ← e, lt-ltb program_bytes (length input) d)

    module _ (b : F ≤ cells) where
      pub too_large : program_cells < cells → input_fault F input ≡ 1
      unfolding input_fault
      too_large c = rw (le-ltb (length input) 4 a, ← e, le-ltb cells F b, lt-ltb program_cells cells c)

      module _ (c : cells ≤ program_cells) where
        pub too_long : program_bytes < length input → input_fault F input ≡ 4
        too_long d = long d ∙ rw (le-ltb cells F b, le-ltb program_cells cells c)

        module _ (d : length input ≤ program_bytes) where
          past_length : input_fault F input ≡ cond (ltb 0 ((length input - 4) % 16)) 4 0
          unfolding input_fault
          past_length =
              rw (
                le-ltb (length input) 4 a,
                ← e,
                le-ltb cells F b,
                le-ltb program_cells cells c,
                le-ltb program_bytes (length input) d,
              )

          pub broken : 0 < (length input - 4) % 16 → input_fault F input ≡ 4
          broken f = rw (past_length, lt-ltb 0 ((length input - 4) % 16) f)

          pub right : (length input - 4) % 16 ≤ 0 → input_fault F input ≡ 0
          right f = rw (past_length, le-ltb 0 ((length input - 4) % 16) f)

  -- a number of one digit
  pub fault_few : input_fault F input ≤ 4
  unfolding input_fault
  fault_few =
      go (ltb (length input) 4 || ltb (get_or (words_of input) 0 0) F || ltb program_cells
      (get_or (words_of input) 0 0))
      (ltb program_bytes (length input) || ltb 0 ((length input - 4) % 16))
    where
      go : (t u : Bool) → cond t 1 (cond u 4 0) ≤ 4
      go true u = omega arith
      go false true = omega arith
      go false false = omega arith

  -- an input that is right
  pub record Fits : Type 0 where
    pub some : 4 ≤ length input
    pub low : F ≤ get_or (words_of input) 0 0
    pub high : get_or (words_of input) 0 0 ≤ program_cells
    pub most : length input ≤ program_bytes
    pub whole : (length input - 4) % 16 ≡ 0

  pub fits : input_fault F input ≡ 0 → Fits
  fits z =
      go (lt_or_ge (length input) 4) (lt_or_ge cells F) (lt_or_ge program_cells cells)
      (lt_or_ge program_bytes (length input)) (lt_or_ge 0 ((length input - 4) % 16))
    where
      cells : ℕ
      cells = get_or (words_of input) 0 0

      go : (length input < 4) ⊎ (4 ≤ length input) → (cells < F) ⊎ (F ≤ cells)
          → (program_cells < cells) ⊎ (cells ≤ program_cells)
          → (program_bytes < length input) ⊎ (length input ≤ program_bytes)
          → (0 < (length input - 4) % 16) ⊎ ((length input - 4) % 16 ≤ 0) → Fits
      go (inl a) b c d f = absurd (omega (arith, z, too_short a))
      go (inr a) (inl b) c d f = absurd (omega (arith, z, too_small a cells refl b))
      go (inr a) (inr b) (inl c) d f = absurd (omega (arith, z, too_large a cells refl b c))
      go (inr a) (inr b) (inr c) (inl d) f = absurd (omega (arith, z, too_long a cells refl b c d))
      go (inr a) (inr b) (inr c) (inr d) (inl f) = absurd (omega (arith, z, broken a cells refl b c d f))
      go (inr a) (inr b) (inr c) (inr d) (inr f) =
          record { some = a; low = b; high = c; most = d; whole = omega arith }

  -- ---- what is written, by what is wrong

  pub program_refused : (f : ℕ) → f ≡ input_fault F input → f ≢ 0 → program F input ≡ refusal f 0
  unfolding program
  program_refused zero e n = absurd (n refl)
  program_refused (suc f) e n = rw (← e) refl

  pub program_output : input_fault F input ≡ 0
      → program F input ≡ output F (get_or (words_of input) 0 0) (drop 1 (words_of input))
  unfolding program
  program_output e = rw e refl

-- the first word is in the first four bytes
first_word_lem : (k : ℕ) (bs : List ℕ)
    → get_or (words_of (take (suc (suc (suc (suc k)))) bs)) 0 0 ≡ get_or (words_of bs) 0 0
first_word_lem k [] = refl
first_word_lem k (a ∷ []) = refl
first_word_lem k (a ∷ b ∷ []) = refl
first_word_lem k (a ∷ b ∷ c ∷ []) = refl
first_word_lem k (a ∷ b ∷ c ∷ d ∷ bs) = refl

-- the first byte that is too many says all there is to say of those after it
pub program_take : (F : ℕ) (input : List ℕ) → program F (take (program_bytes + 1) input) ≡ program F input
unfolding program_bytes
program_take F input = go (lt_or_ge (program_bytes + 1) (length input))
  where
    some : (t : Bool) → ◌≢◌ {A = ℕ} (cond t 1 4) 0
    some true z = omega arith
    some false z = omega arith

    go : (program_bytes + 1 < length input) ⊎ (length input ≤ program_bytes + 1)
        → program F (take (program_bytes + 1) input) ≡ program F input
    go (inl h) =
        let n : length (take (program_bytes + 1) input) ≡ program_bytes + 1 =
        length-take-le (program_bytes + 1) input (omega arith) in
        let x = long F (take (program_bytes + 1) input) (omega arith) (get_or (words_of input) 0 0)
        (sym (first_word_lem (program_bytes - 3) input)) (omega arith) in
        let y = long F input (omega arith) (get_or (words_of input) 0 0) refl (omega arith) in
        let e : input_fault F (take (program_bytes + 1) input) ≡ input_fault F input = x ∙ sym y in
        let b = some (ltb (get_or (words_of input) 0 0) F || ltb program_cells (get_or (words_of input) 0 0)) in
        program_refused F (take (program_bytes + 1) input) _ refl (λ z. b (sym x ∙ z))
        ∙ ap (λ (f : ℕ). refusal f 0) e ∙ sym (program_refused F input _ refl (λ z. b (sym y ∙ z)))
    go (inr h) = ap (program F) (take_all (program_bytes + 1) input h)

pub program_cells_lem : program_cells ≤ limit
unfolding program_cells limit
program_cells_lem = omega arith
