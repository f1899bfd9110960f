-- The words of a fresh store: registers emptied one after the other, then zeros.
-- Assumes nothing.
use mathlib.Core.Path.{◌≡◌, refl, sym, ap, ◌∙◌}
use mathlib.Core.Bool.{true, false}
use mathlib.Core.List.{List, [], ◌∷◌, ◌++◌, append_assoc}
use Prim.Native.Nat.{ℕ, zero, suc, ◌+◌, ◌-◌, ◌*◌, ◌<◌}
use native.Mathlib.Numerals.{add-one}
use native.Mathlib.Omega.{arith}
use lib.ListN.{length, set, take, replicate, length-set}
use lib.Seq.{take-suc-set}
use Rattle.words.specs.Cell.{put_cell}
use Rattle.words.specs.Second.{bracket_to}
use Rattle.meaning.specs.Sound.{capacity}
use Rattle.meaning.specs.Verdicts.{done, refused, only}
use Rattle.meaning.specs.Check.{length_test}
use Rattle.meaning.specs.Fresh.{empty_registers, fresh, fresh_in}
use Rattle.meaning.proofs.check.Checking.{length_yes}

-- ---- the registers, a turn at a time

empties_more : (n : ℕ) → empty_registers n ++ (0 ∷ bracket_to 0 ∷ []) ≡ empty_registers (suc n)
empties_more zero = refl
empties_more (suc n) = ap (λ (l : List ℕ). 0 ∷ bracket_to 0 ∷ l) (empties_more n)

module _ (ws : List ℕ) (c : ℕ) (h : 2 * c + 1 < length ws) (e : take (2 * c) ws ≡ empty_registers c) where
  one_word : take (2 * c + 1) (set ws (2 * c) 0) ≡ empty_registers c ++ (0 ∷ [])
  one_word =
      ap (λ (n : ℕ). take n (set ws (2 * c) 0)) (add-one (2 * c))
      ∙ (take-suc-set ws (2 * c) 0 (omega arith) ∙ ap (λ (l : List ℕ). l ++ (0 ∷ [])) e)

  pub one_more : take (2 * (c + 1)) (put_cell ws c 0 (bracket_to 0)) ≡ empty_registers (c + 1)
  one_more =
      let n : 2 * (c + 1) ≡ suc (2 * c + 1) = omega arith in
      let both = take-suc-set (set ws (2 * c) 0) (2 * c + 1) (bracket_to 0) (omega (arith, length-set ws (2 * c) 0)) in
      ap (λ (m : ℕ). take m (put_cell ws c 0 (bracket_to 0))) n
      ∙ (both ∙ ap (λ (l : List ℕ). l ++ (bracket_to 0 ∷ [])) one_word)
      ∙ (append_assoc (empty_registers c) (0 ∷ []) (bracket_to 0 ∷ []) ∙ empties_more c
      ∙ ap empty_registers (sym (add-one c)))

-- ---- the whole store

module _ (F : ℕ) (ws : List ℕ) where
  pub fresh_refused : length_test F (length ws) ≡ false → fresh_in F ws ≡ refused ws 0 (only 1)
  unfolding fresh_in
  fresh_refused e = rw (e, fresh_in)

  -- vs is the store with its registers emptied, and out what it becomes
  pub fresh_done : length_test F (length ws) ≡ true → (vs : List ℕ) {out : List ℕ} → length vs ≡ length ws
      → take (2 * F) vs ≡ empty_registers F → out ≡ take (2 * F) vs ++ replicate (length vs - 2 * F) 0
      → fresh_in F ws ≡ done out F 0
  unfolding fresh_in fresh
  fresh_done e vs q f z =
      let a = length_yes F (length ws) e in
      let n : length vs - 2 * F ≡ 2 * (capacity ws - F) = omega (arith, a.even, a.large) in
      rw (e, z, f, n, fresh_in) refl
