-- Collecting alone, by the answer of the check. Assumes nothing.
use mathlib.Core.Path.{◌≡◌, refl}
use mathlib.Core.List.{List}
use Prim.Native.Nat.{ℕ, ◌-◌}
use native.Mathlib.Omega.{arith}
use Rattle.meaning.specs.Sound.{Sound}
use Rattle.meaning.specs.Reach.{live}
use Rattle.meaning.specs.Collected.{collected, collected_top}
use Rattle.meaning.specs.Verdicts.{done, refused}
use Rattle.meaning.specs.Check.{check, collect_in}
use Rattle.meaning.proofs.check.Checking.{sound_check}
use Rattle.store.specs.Answers.{refusal_of}
use Rattle.store.specs.declared.Unsound.{Unsound}
use Rattle.store.proofs.Sounds.{found_refused}

module _ (F : ℕ) (ws : List ℕ) (top : ℕ) where
  -- the check refuses
  pub refuses : (u : Unsound) → refusal_of u ≡ check F ws top → refused ws top (refusal_of u) ≡ collect_in F ws top
  unfolding collect_in
  refuses u e = found_refused F ws top u _ (refused ws top) e

  -- what is left of a sound store: its words collected, and the new `top`
  pub alone_done : Sound F ws top → (ws' : List ℕ) (top' : ℕ) → ws' ≡ collected F ws top → top' ≡ collected_top F ws top
      → done ws' top' (top' - F) ≡ collect_in F ws top
  unfolding collect_in
  alone_done s ws' top' e q =
      let n : top' - F ≡ live F ws top = omega arith in
      rw (sound_check F ws top s, n, e, q) refl
