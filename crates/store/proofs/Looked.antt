-- Where a register's cells lie, by the tests of `span`.
-- Assumes nothing.
use mathlib.Core.Path.{◌≡◌, refl, sym, ◌∙◌}
use mathlib.Core.List.{List}
use Prim.Native.Nat.{ℕ, ◌+◌, ◌*◌, ◌≤◌, ◌<◌}
use native.Mathlib.Omega.{arith}
use lib.ListN.{length}
use Rattle.meaning.specs.Sound.{at, Sound, start, size}
use Rattle.meaning.specs.Check.{check}
use Rattle.meaning.specs.Look.{span_of, look_span}
use Rattle.meaning.proofs.look.Looking.{span_register, run_fits}
use Rattle.meaning.proofs.look.Looking as looking
use Rattle.store.specs.Answers.{refusal_of}
use Rattle.store.specs.declared.Unsound.{Unsound}
use Rattle.store.proofs.Sounds.{found_refused}

module _ (F : ℕ) (ws : List ℕ) (top i : ℕ) where
  pub span_unsound : (u : Unsound) → refusal_of u ≡ check F ws top → look_span F ws top i ≡ record { from = 0; to = 0 }
  unfolding look_span span_of
  span_unsound u e = sym (found_refused F ws top u _ (λ v. record { from = 0; to = 0 }) e)

  module _ (s : Sound F ws top) where
    pub span_none : F ≤ i → look_span F ws top i ≡ record { from = 0; to = 0 }
    unfolding span_of
    span_none h = looking.span_none F ws top s i h

    pub span_run : i < F → {x n : ℕ} → x ≡ start (at ws i) → n ≡ size (at ws i)
        → record { from = 2 * x; to = 2 * x + 2 * n } ≡ look_span F ws top i
    unfolding span_of
    span_run h e f = sym (span_register F ws top s i h ∙ rw (← e, ← f) refl)

pub run_inside : (F : ℕ) (ws : List ℕ) (top i : ℕ) → 0 < F → Sound F ws top → i < F → {x n : ℕ}
    → x ≡ start (at ws i) → n ≡ size (at ws i) → 2 * x + 2 * n ≤ length ws
run_inside F ws top i p s h e f = omega (arith, run_fits F ws top p s i h)
