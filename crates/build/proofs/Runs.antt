-- The top-level cells of two registers laid one run after the other, as the code does it. Assumes nothing.
use mathlib.Core.Path.{◌≡◌, refl}
use mathlib.Core.List.{List}
use Prim.Native.Nat.{ℕ, ◌+◌, ◌-◌}
use native.Mathlib.Nat.{add_assoc}
use Rattle.meaning.specs.Sound.{at, ends, size}
use Rattle.meaning.specs.Verdicts.{done}
use Rattle.meaning.specs.Actions.{put, copies, new_run, new_run_of}
use Rattle.store.specs.Holds.{RunIs}
use Rattle.store.specs.declared.Run.{Run}

module _ (ws : List ℕ) (top d a b : ℕ) (p q : Run) where
  pub run_laid : {ws₁ ws₂ ws₃ : List ℕ} → RunIs p (at ws a) → RunIs q (at ws b)
      → ws₁ ≡ copies ws top p.start p.size
      → ws₂ ≡ copies ws₁ (top + p.size) q.start q.size → ws₃ ≡ put ws₂ d (ends top (top + p.size + q.size - 1))
      → done ws₃ (top + p.size + q.size) 0 ≡ new_run d a b ws top
  unfolding new_run new_run_of
  run_laid h k e₁ e₂ e₃ =
      rw (e₃, e₂, e₁, h.0, h.1, k.0, k.1, add_assoc top (size (at ws a)) (size (at ws b))) refl
