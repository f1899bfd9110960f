-- The look: the words from a register's left end to its right end, and no word where there is nothing to look at.
-- In order:
--   run_in                     a bracket's cells lie below the limit of its right end
--   span_register, span_none   the word numbers of a look at a register, and at what is none
--   look_none, look_empty      no word where there is no register, or an empty one
--   run_fits                   a register's run lies within the words
--   look_size                  two words a cell
--   look_word                  the words from the left end on
--   look_unsound               no word of an unsound store
-- Assumes nothing.
use mathlib.Core.Path.{◌≡◌, refl}
use mathlib.Core.Logic.{◌⊎◌, inl, inr}
use mathlib.Core.List.{List, []}
use Prim.Native.Nat.{ℕ, suc, ◌+◌, ◌-◌, ◌*◌, ◌≤◌, ◌<◌}
use native.Mathlib.Omega.{arith}
use lib.ListN.{length, get_or, length-take, length-drop}
use lib.Seq.{get_or-take, get_or-drop}
use borrow.Author.Tests.{lt-ltb, le-ltb}
use Rattle.meaning.specs.Sound.{Cell, code, empty, ends, at, Sound, size, start}
use Rattle.meaning.specs.Check.{check}
use Rattle.meaning.specs.Look.{span_of, look_span, look}
use Rattle.meaning.proofs.sound.Cells.{BracketIn, good}
use Rattle.meaning.proofs.Lists.{lt_or_ge}
use Rattle.meaning.proofs.check.Checking.{sound_check}

-- a bracket's cells lie below the limit of its right end
pub run_in : (F lim : ℕ) (b : Cell) → BracketIn F lim b → start b + size b ≤ lim
run_in F lim (code a) t = absurd t
run_in F lim empty t = omega arith
run_in F lim (ends l r) t = omega (arith, t.1, t.2)

module _ (F : ℕ) (ws : List ℕ) (top : ℕ) (s : Sound F ws top) (i : ℕ) where
  pub span_register : i < F → look_span F ws top i ≡ span_of (at ws i)
  unfolding look_span
  span_register h = rw (sound_check F ws top s, lt-ltb i F h) refl

  pub span_none : F ≤ i → look_span F ws top i ≡ span_of empty
  unfolding look_span
  span_none h = rw (sound_check F ws top s, le-ltb i F h) refl

  pub look_none : F ≤ i → look F ws top i ≡ []
  unfolding look span_of
  look_none h = rw (span_none h) refl

  -- an empty register, and a cell that is none
  pub look_empty : at ws i ≡ empty → look F ws top i ≡ []
  unfolding look span_of
  look_empty e = go (lt_or_ge i F)
    where
      go : (i < F) ⊎ (F ≤ i) → look F ws top i ≡ []
      go (inl h) = rw (span_register h, e) refl
      go (inr h) = look_none h

module _ (F : ℕ) (ws : List ℕ) (top : ℕ) (p : 0 < F) (s : Sound F ws top) (i : ℕ) where
  pub run_fits : i < F → 2 * start (at ws i) + 2 * size (at ws i) ≤ length ws
  run_fits h = omega (arith, run_in F top (at ws i) ((good F ws top p s).regs i h), s.high)

  -- two words a cell, and so two words a term
  pub look_size : i < F → length (look F ws top i) ≡ 2 * size (at ws i)
  unfolding look span_of
  look_size h = rw (span_register F ws top s i h) (simp (length-take, length-drop) (omega (arith, run_fits h)))

  -- the words from the left end on
  pub look_word : i < F → (k : ℕ) → k < 2 * size (at ws i)
      → get_or (look F ws top i) k 0 ≡ get_or ws (2 * start (at ws i) + k) 0
  unfolding look span_of
  look_word h k l =
      let m : k < 2 * start (at ws i) + 2 * size (at ws i) - 2 * start (at ws i) = omega arith in
      rw (span_register F ws top s i h) (rw (get_or-take, get_or-drop) refl)

-- an unsound store
pub look_unsound : (F : ℕ) (ws : List ℕ) (top i n : ℕ) → (check F ws top).status ≡ suc n → look F ws top i ≡ []
unfolding look look_span span_of
look_unsound F ws top i n e = rw e refl
