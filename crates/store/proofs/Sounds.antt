-- What the answer of the check says of the store, for those that go on only where it is sound. In order:
--   first_heap_cell_pos                 there is a register
--   found_sound, found_refused        the arms of a `match` or a `?` on the answer of the check
--   register_bracketed, heap_termed   a sound store's registers and heap cells may be read
--   register_inside, heap_inside      their words lie in the store
-- Assumes nothing.
use mathlib.Core.Path.{◌≡◌, sym, ap}
use mathlib.Core.List.{List}
use Prim.Native.Nat.{ℕ, ◌+◌, ◌*◌, ◌≤◌, ◌<◌}
use native.Mathlib.Omega.{arith}
use lib.Dec.{lit<}
use lib.ListN.{length}
use Rattle.meaning.specs.Limits.{first_heap_cell, limit}
use Rattle.meaning.specs.Sound.{Sound}
use Rattle.meaning.specs.Verdicts.{Verdict, only, if_sound}
use Rattle.meaning.specs.Check.{check}
use Rattle.meaning.proofs.check.Checking.{check_sound}
use Rattle.meaning.proofs.sound.Cells.{register_rule, heap_rule}
use Rattle.store.specs.Answers.{refusal_of}
use Rattle.store.specs.Holds.{Bracketed, Termed}
use Rattle.store.specs.declared.Unsound.{Unsound}
use Rattle.store.proofs.Refusals.{if_sound_refusal}

pub first_heap_cell_pos : 0 < first_heap_cell
first_heap_cell_pos = lit< tt

-- in the arms of a `match` or a `?` on the answer of `check`, what the arm knows of it is the premise
module _ (F : ℕ) (ws : List ℕ) (top : ℕ) where
  -- `Ok`: the store is sound
  pub found_sound : only 0 ≡ check F ws top → Sound F ws top
  found_sound e = check_sound F ws top (ap (λ (v : Verdict). v.status) (sym e))

  -- `Err`: it is refused, and what depends on the check is what the refusal gives
  pub found_refused : {A : Type 0} (u : Unsound) (x : A) (f : Verdict → A) → refusal_of u ≡ check F ws top
      → f (refusal_of u) ≡ if_sound (check F ws top) x (f (check F ws top))
  found_refused u x f e = rw (← e) (sym (if_sound_refusal u x (f (refusal_of u))))

-- a sound store's cells may be read
module _ (ws : List ℕ) (top : ℕ) (s : Sound first_heap_cell ws top) where
  top_limit : top ≤ limit
  top_limit = omega (arith, s.high, s.allowed.small)

  pub register_bracketed : (i : ℕ) → i < first_heap_cell → Bracketed ws i
  register_bracketed i h = (top, top_limit, register_rule s i h)

  pub heap_termed : (c : ℕ) → first_heap_cell ≤ c → c < top → Termed ws c
  heap_termed c l h = (c, omega (arith, top_limit), heap_rule s c l h)

  -- its words lie in the store
  pub register_inside : (i : ℕ) → i < first_heap_cell → 2 * i + 1 < length ws
  register_inside i h = omega (arith, s.allowed.large)

  pub heap_inside : (c : ℕ) → c < top → 2 * c + 1 < length ws
  heap_inside c h = omega (arith, s.high)
