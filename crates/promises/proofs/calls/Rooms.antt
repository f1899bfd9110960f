-- New cells where room is sought in a store v, which differs from the store at register d at most. In order:
--   as_was                   a refusal but 16 leaves the words and `top`
--   stays                    without need there is no collecting
--   room_top, room_leaves    `top` of the store in which the cells are laid, and what is left of that store
-- Assumes nothing.
use mathlib.Core.Path.{◌≡◌, refl}
use mathlib.Core.Logic.{◌≢◌}
use mathlib.Core.Bool.{Bool, true, false, cond}
use mathlib.Core.List.{List}
use Prim.Native.Nat.{ℕ, zero, suc, ◌+◌, ◌*◌, ◌≤◌, ◌<◌}
use native.Mathlib.Omega.{arith}
use lib.Dec.{ltb, eqb}
use lib.ListN.{length}
use borrow.Author.Tests.{le-ltb, ne_eqb}
use Rattle.meaning.specs.Sound.{capacity, Sound}
use Rattle.meaning.specs.Meaning.{meaning}
use Rattle.meaning.specs.Collected.{collected, collected_top}
use Rattle.meaning.specs.Verdicts.{Done, refused, only}
use Rattle.meaning.specs.Call.{lacks, room_words, room_top, with_room}
use Rattle.meaning.proofs.effect.Effects.{Denote}
use Rattle.meaning.proofs.call.Plans.{top_after, WordsAfter, room_sound, room_denote, room_fits}
use Rattle.promises.specs.Cells.{laid_on, laid_from}

-- the words and `top` of a refused request
module _ (ws ws₁ v : List ℕ) (x y top u : ℕ) where
  pub as_was : (s : ℕ) → WordsAfter s ws ws₁ v → u ≡ top_after s x y top → s ≢ 0 → s ≢ 16 → (v ≡ ws) × (u ≡ top)
  as_was zero w t n m = absurd (n refl)
  as_was (suc s) w t n m = let z : eqb s 15 ≡ false = ne_eqb s 15 (omega arith) in (rw z at w, rw z at t)

pub stays : (F : ℕ) (ws : List ℕ) (top : ℕ) → Sound F ws top → ltb (capacity ws) (top + 0) ≡ false
stays F ws top s = le-ltb (capacity ws) (top + 0) (omega (arith, s.high))

module _ (F n : ℕ) (v ws : List ℕ) (top : ℕ) (p : 0 < F) (w : Sound F v top) (l : length v ≡ length ws) where
  pub room_top_lem : room_top F n v top ≡ laid_from F n v ws top
  unfolding room_top
  room_top_lem = rw l refl

  room_words_lem : room_words F n v top ≡ cond (ltb (capacity ws) (top + n)) (collected F v top) v
  unfolding room_words
  room_words_lem = rw l refl

  -- what an action leaves where it acts: L of the words before, their `top` and the words after; it may not tell v from
  -- the store
  pub room_leaves : (L : List ℕ → ℕ → List ℕ → Type 0) (act : List ℕ → ℕ → Done)
      → ((t : ℕ) (u : List ℕ) → L v t u → L ws t u)
      → ((u : List ℕ) (t : ℕ) → Sound F u t → Denote F u (meaning v) → 2 * (t + n) ≤ length u → L u t (act u t).words)
      → (with_room F n v act ws top).verdict.status ≡ 0
      → L (laid_on F n v ws top) (laid_from F n v ws top) (with_room F n v act ws top).words
  unfolding with_room
  room_leaves L act from h e = go (lacks F n v top) refl e
    where
      there : (y : Bool) (t : ℕ) (u : List ℕ) → L (cond y (collected F v top) v) t u
          → L (cond y (collected F v top) ws) t u
      there true t u k = k
      there false t u k = from t u k

      go : (t : Bool) → lacks F n v top ≡ t
          → (cond t (refused (collected F ws top) (collected_top F ws top) (only 16))
          (act (room_words F n v top) (room_top F n v top))).verdict.status ≡ 0
          → L (laid_on F n v ws top) (laid_from F n v ws top)
          (cond t (refused (collected F ws top) (collected_top F ws top) (only 16))
          (act (room_words F n v top) (room_top F n v top))).words
      go true r z = absurd (omega arith)
      go false r z =
          let u = room_words F n v top in
          let t = room_top F n v top in
          rw (← room_top_lem) (there (ltb (capacity ws) (top + n)) t (act u t).words
          (rw (← room_words_lem)
          (h u t (room_sound F n v top p w) (room_denote F n v top p w) (room_fits F n v top p w r))))
