-- The store in which room is sought, by laws. Nothing else unfolds it, but for `sought_twin` (twins/Twins) and rows
-- that compute. In order:
--   sought_length, sought_kept   it is as long as the store, and where d is kept the store itself
--   sought_empty, sought_other   where d is not kept it is empty;  no cell but d differs
--   sought_back                  the store again, once d's words are put back
--   sought_sound, sought_stays   it is sound;  where d is kept or empty it is the store itself
--   sought_meaning               what its registers denote
--   sought_live                  no more is reached in it
-- Assumes nothing.
use mathlib.Core.Path.{◌≡◌, refl, ◌∙◌}
use mathlib.Core.Logic.{◌≢◌}
use mathlib.Core.Bool.{Bool, true, false, cond, false≢true}
use mathlib.Core.List.{List}
use Prim.Native.Nat.{ℕ, ◌+◌, ◌*◌, ◌%◌, ◌≤◌, ◌<◌}
use native.Mathlib.Nat.{le_refl}
use native.Mathlib.Decide.{ℕ_discrete}
use native.Mathlib.Omega.{arith}
use lib.Dec.{eqb}
use lib.ListN.{length}
use borrow.Author.Tests.{eqb-true}
use Rattle.words.specs.Cell.{first_word, second_word, put_cell}
use Rattle.words.specs.Second.{bracket_to}
use Rattle.words.proofs.Cells.{put_cell_length, first_word_same, second_word_same, first_word_other, second_word_other}
use Rattle.words.proofs.Cells.{words_ext}
use Rattle.meaning.specs.Sound.{empty, fst, snd, at, IsBracket, is_empty, is_full, Sound}
use Rattle.meaning.specs.Meaning.{meaning}
use Rattle.meaning.specs.Reach.{Between, Reached, by_register, by_bracket, reached, live}
use Rattle.meaning.specs.Actions.{put}
use Rattle.meaning.specs.Call.{sought}
use Rattle.meaning.proofs.Lists.{asc_within}
use Rattle.meaning.proofs.sound.Cells.{register_rule}
use Rattle.meaning.proofs.reach.Reaching.{listed_iff, reached_asc}
use Rattle.meaning.proofs.actions.Writing.{length_put, at_put, at_put_other, sound_register, meaning_other}

pub sought_length : (kept : Bool) (d : ℕ) (ws : List ℕ) → length (sought kept d ws) ≡ length ws
unfolding sought
sought_length true d ws = refl
sought_length false d ws = length_put ws d empty

-- where d is kept it is the store
pub sought_kept : (d : ℕ) (ws : List ℕ) → sought true d ws ≡ ws
unfolding sought
sought_kept d ws = refl

-- where it is not, d is empty
pub sought_empty : (d : ℕ) (ws : List ℕ) → sought false d ws ≡ put ws d empty
unfolding sought
sought_empty d ws = refl

-- no cell but d differs
pub sought_other : (kept : Bool) (d : ℕ) (ws : List ℕ) (c : ℕ) → c ≢ d
    → (first_word (sought kept d ws) c ≡ first_word ws c) × (second_word (sought kept d ws) c ≡ second_word ws c)
unfolding sought put
sought_other true d ws c n = (refl, refl)
sought_other false d ws c n =
    (first_word_other ws d (fst empty) (snd empty) c n, second_word_other ws d (fst empty) (snd empty) c n)

-- with d's words put back it is the store
module _ (kept : Bool) (d : ℕ) (ws : List ℕ) (h : 2 * d + 1 < length ws) where
  abbrev v : List ℕ
  v = sought kept d ws

  abbrev back : List ℕ
  back = put_cell v d (first_word ws d) (second_word ws d)

  inside : 2 * d + 1 < length v
  inside = rw (sought_length kept d ws) h

  back_cell : (c : ℕ) → Dec (c ≡ d) → (first_word back c ≡ first_word ws c) × (second_word back c ≡ second_word ws c)
  back_cell c (yes e) =
      rw e (
        first_word_same v d (first_word ws d) (second_word ws d) inside,
        second_word_same v d (first_word ws d) (second_word ws d) inside,
      )
  back_cell c (no n) = (
    first_word_other v d (first_word ws d) (second_word ws d) c n ∙ (sought_other kept d ws c n).0,
    second_word_other v d (first_word ws d) (second_word ws d) c n ∙ (sought_other kept d ws c n).1,
  )

  pub sought_back : length ws % 2 ≡ 0 → put_cell (sought kept d ws) d (first_word ws d) (second_word ws d) ≡ ws
  sought_back even =
      let long = put_cell_length v d (first_word ws d) (second_word ws d) ∙ sought_length kept d ws in
      words_ext back ws long (rw long even) (λ c k. (back_cell c (ℕ_discrete c d)).0)
      (λ c k. (back_cell c (ℕ_discrete c d)).1)

-- the first word of a register whose second word says that it is empty
empty_first : (F top a b : ℕ) → 0 < F → IsBracket F top a b → b ≡ bracket_to 0 → a ≡ 0
empty_first F top a b p is_empty e = refl
empty_first F top a b p (is_full f g h) e = absurd (omega arith)

module _ (F : ℕ) (ws : List ℕ) (top : ℕ) (p : 0 < F) (s : Sound F ws top) where
  pub sought_sound : (kept : Bool) (d : ℕ) → (kept ≡ false → d < F) → Sound F (sought kept d ws) top
  unfolding sought
  sought_sound true d l = s
  sought_sound false d l = sound_register F ws top p s d (l refl) empty tt

  -- where d is kept, or empty already, it is the store
  pub sought_stays : (kept : Bool) (d : ℕ) → d < F → cond kept true (eqb (second_word ws d) (bracket_to 0)) ≡ true
      → sought kept d ws ≡ ws
  unfolding sought put
  sought_stays true d l e = refl
  sought_stays false d l e =
      let b = eqb-true (second_word ws d) (bracket_to 0) e in
      let a = empty_first F top (first_word ws d) (second_word ws d) p (register_rule s d l) b in
      rw (a, b) at (sought_back true d ws (omega (arith, s.allowed.large)) s.allowed.even)

  -- a register that is not d, or is kept, denotes in it what it denotes
  pub sought_meaning : (kept : Bool) (d : ℕ) → (kept ≡ false → d < F) → (i : ℕ) → i < F → (i ≡ d → kept ≡ true)
      → meaning (sought kept d ws) i ≡ meaning ws i
  unfolding sought
  sought_meaning true d l i h k = refl
  sought_meaning false d l i h k = meaning_other F ws top p s d (l refl) empty tt i h (λ x. false≢true (k x))

  -- what is reached in it is reached in the store
  module _ (d : ℕ) (l : d < F) where
    held_still : (c i : ℕ) → Dec (i ≡ d) → Between (at (put ws d empty) i) c → Between (at ws i) c
    held_still c i (yes e) h =
        absurd (rw (e, at_put ws d empty F top p (omega (arith, s.allowed.large)) tt) at h)
    held_still c i (no n) h = rw (at_put_other ws d empty i n) at h

    reached_still : {c : ℕ} → Reached F (at (put ws d empty)) c → Reached F (at ws) c
    reached_still {c} (by_register i h b) = by_register {c = c} i h (held_still c i (ℕ_discrete i d) b)
    reached_still {c} (by_bracket b r h) =
        by_bracket {c = c} b (reached_still r) (held_still c b (ℕ_discrete b d) h)

  -- so no more is
  pub sought_live : (kept : Bool) (d : ℕ) → (kept ≡ false → d < F) → live F (sought kept d ws) top ≤ live F ws top
  unfolding sought live
  sought_live true d l = le_refl (live F ws top)
  sought_live false d l =
      let v = put ws d empty in
      let t = sound_register F ws top p s d (l refl) empty tt in
      asc_within F (reached F v top) (reached F ws top) (reached_asc F v top p t) (reached_asc F ws top p s)
      (λ c i. (listed_iff F ws top p s c).1 (reached_still d (l refl) ((listed_iff F v top p t c).0 i)))
