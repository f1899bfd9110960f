-- Calls one after the other: a list of whole calls, which may be cut anywhere; two answers a call; a sound store stays
-- sound. Assumes nothing.
use mathlib.Core.Path.{◌≡◌, refl, ap}
use mathlib.Core.List.{List, [], ◌∷◌, ◌++◌}
use Prim.Native.Nat.{ℕ, zero, suc, ◌*◌, ◌/◌, ◌%◌, ◌<◌}
use native.Mathlib.Omega.{arith}
use lib.ListN.{length}
use Rattle.meaning.specs.Sound.{Sound}
use Rattle.meaning.specs.Call.{step}
use Rattle.meaning.specs.Batch.{Ran, then, runs}
use Rattle.meaning.proofs.effect.Steps.{step_meets}

-- a list of four words a call
pub data WholeCalls : List ℕ → Type 0 where
  none : WholeCalls []
  four : {o d a b : ℕ} {cs : List ℕ} → WholeCalls cs → WholeCalls (o ∷ d ∷ a ∷ b ∷ cs)

-- a length that is a multiple of four
pub fours : (n : ℕ) (cs : List ℕ) → length cs ≡ 4 * n → WholeCalls cs
fours zero [] e = none
fours zero (o ∷ cs) e = absurd (omega arith)
fours (suc n) [] e = absurd (omega arith)
fours (suc n) (o ∷ []) e = absurd (omega arith)
fours (suc n) (o ∷ d ∷ []) e = absurd (omega arith)
fours (suc n) (o ∷ d ∷ a ∷ []) e = absurd (omega arith)
fours (suc n) (o ∷ d ∷ a ∷ b ∷ cs) e = four (fours n cs (omega arith))

pub fours_of : (cs : List ℕ) → length cs % 4 ≡ 0 → WholeCalls cs
fours_of cs h = fours (length cs / 4) cs (omega arith)

-- a sound store stays sound
pub runs_sound : (F : ℕ) → 0 < F → (ws : List ℕ) (top : ℕ) (cs : List ℕ) → Sound F ws top
    → Sound F (runs F ws top cs).words (runs F ws top cs).top
runs_sound F p ws top [] s = s
runs_sound F p ws top (o ∷ []) s = s
runs_sound F p ws top (o ∷ d ∷ []) s = s
runs_sound F p ws top (o ∷ d ∷ a ∷ []) s = s
runs_sound F p ws top (o ∷ d ∷ a ∷ b ∷ cs) s =
    let c = step F ws top o d a b in
    runs_sound F p c.words c.top cs (step_meets F ws top p s o d a b).sound

-- cut anywhere
pub runs_cut : (F : ℕ) (ws : List ℕ) (top : ℕ) {cs : List ℕ} (ds : List ℕ) → WholeCalls cs
    → runs F ws top (cs ++ ds) ≡ record {
      words = (runs F (runs F ws top cs).words (runs F ws top cs).top ds).words;
      top = (runs F (runs F ws top cs).words (runs F ws top cs).top ds).top;
      answers = (runs F ws top cs).answers ++ (runs F (runs F ws top cs).words (runs F ws top cs).top ds).answers;
    }
runs_cut F ws top ds none = refl
runs_cut F ws top ds (four {o} {d} {a} {b} {cs} c) =
    ap (λ (q : Ran). then (step F ws top o d a b) q) (runs_cut F (step F ws top o d a b).words
    (step F ws top o d a b).top ds c)

pub runs_length : (F : ℕ) (ws : List ℕ) (top : ℕ) (cs : List ℕ)
    → length (runs F ws top cs).answers ≡ 2 * (length cs / 4)
runs_length F ws top [] = refl
runs_length F ws top (o ∷ []) = refl
runs_length F ws top (o ∷ d ∷ []) = refl
runs_length F ws top (o ∷ d ∷ a ∷ []) = refl
runs_length F ws top (o ∷ d ∷ a ∷ b ∷ cs) =
    let c = step F ws top o d a b in
    omega (arith, runs_length F c.words c.top cs)
