-- A plan carried out: what a call does where it acts, it does to the store; and the rule for room. In order:
--   plan_lacks, plan_top           is there no room for a plan, and `top` when it is done
--   top_after, WordsAfter         `top` and the words after a call, by its status
--   PlanMeets                    what carrying out a plan has to give for its effect
--   room_sound, room_length      the store with room for n cells is sound, and as long
--   room_denote, room_fits       its registers denote what they did, and n cells of it are free
--   as_it_is, once_collected     as the code goes about it: a test of `top`, then one of the collected store's
--   PlanDoes                     what a plan's action has to do
--   carry_meets                  a plan whose action does so gives what it has to
-- Assumes nothing.
use mathlib.Core.Path.{◌≡◌, refl, sym, ◌∙◌}
use mathlib.Core.Bool.{Bool, true, false, cond}
use mathlib.Core.List.{List}
use Prim.Native.Nat.{ℕ, zero, suc, ◌+◌, ◌*◌, ◌/◌, ◌≤◌, ◌<◌}
use native.Mathlib.Nat.{add-zero}
use native.Mathlib.Omega.{arith}
use lib.Dec.{ltb, eqb}
use lib.ListN.{length}
use borrow.Author.Tests.{ltb-false, le-ltb, ne_eqb}
use Rattle.meaning.specs.Sound.{Sound, capacity}
use Rattle.meaning.specs.Meaning.{meaning}
use Rattle.meaning.specs.Reach.{live}
use Rattle.meaning.specs.Collected.{collected, collected_top}
use Rattle.meaning.specs.Verdicts.{Done, only, refused}
use Rattle.meaning.specs.Call.{Plan, plain, in_collected, laying, lacks, room_words, room_top, with_room}
use Rattle.meaning.specs.Call.{carry_out}
use Rattle.meaning.specs.Effect.{Effect, or_else, after, answer}
use Rattle.meaning.proofs.reach.Reaching.{live_le}
use Rattle.meaning.proofs.collected.Collecting.{collected_sound, length_collected, meaning_kept}
use Rattle.meaning.proofs.effect.Effects.{Denote, Acts}

-- ---- what carrying out a plan has to give

-- is there no room for it? and `top`, when it is done
unfoldable pub plan_lacks : ℕ → Plan → List ℕ → ℕ → Bool
plan_lacks F (plain act) ws top = false
plan_lacks F (in_collected act) ws top = false
plan_lacks F (laying n v act) ws top = lacks F n v top

unfoldable pub plan_top : ℕ → Plan → List ℕ → ℕ → ℕ
plan_top F (plain act) ws top = top
plan_top F (in_collected act) ws top = collected_top F ws top
plan_top F (laying n v act) ws top = room_top F n v top + n

-- `top` after a call, by its status: x where it is done, y, the collected store's, where it is refused with 16, else
-- as it was
abbrev pub top_after : ℕ → ℕ → ℕ → ℕ → ℕ
top_after zero x y top = x
top_after (suc s) x y top = cond (eqb s 15) y top

-- the words of a refused call: collected where it is 16, else as they were
abbrev pub WordsAfter : ℕ → List ℕ → List ℕ → List ℕ → Type 0
WordsAfter zero ws ws₁ ws' = Unit {0}
WordsAfter (suc s) ws ws₁ ws' = ws' ≡ cond (eqb s 15) ws₁ ws

-- r is what the plan has to give, in the store ws, for its effect to be x
pub record PlanMeets (F : ℕ) (ws : List ℕ) (top : ℕ) (x : Effect) (plan : Plan) (r : Done) : Type 0 where
  pub sound : Sound F r.words r.top
  pub len : length r.words ≡ length ws
  pub status : r.verdict.status ≡ or_else x.unfit (cond (plan_lacks F plan ws top) 16 0)
  pub value : r.verdict.value ≡ answer r.verdict.status x
  pub rule : r.verdict.rule ≡ 0
  pub registers : (i : ℕ) → i < F → meaning r.words i ≡ after r.verdict.status x (meaning ws) i
  pub tops : r.top ≡ top_after r.verdict.status (plan_top F plan ws top) (collected_top F ws top) top
  pub left : WordsAfter r.verdict.status ws (collected F ws top) r.words

-- ---- room for n cells

module _ (F : ℕ) (n : ℕ) (ws : List ℕ) (top : ℕ) (p : 0 < F) (s : Sound F ws top) where
  pub room_sound : Sound F (room_words F n ws top) (room_top F n ws top)
  unfolding room_words room_top
  room_sound = go (ltb (capacity ws) (top + n))
    where
      go : (t : Bool) → Sound F (cond t (collected F ws top) ws) (cond t (collected_top F ws top) top)
      go true = collected_sound F ws top p s
      go false = s

  pub room_length : length (room_words F n ws top) ≡ length ws
  unfolding room_words
  room_length = go (ltb (capacity ws) (top + n))
    where
      go : (t : Bool) → length (cond t (collected F ws top) ws) ≡ length ws
      go true = length_collected F ws top p s
      go false = refl

  pub room_denote : Denote F (room_words F n ws top) (meaning ws)
  unfolding room_words
  room_denote i h = go (ltb (capacity ws) (top + n))
    where
      go : (t : Bool) → meaning (cond t (collected F ws top) ws) i ≡ meaning ws i
      go true = meaning_kept F ws top p s i h
      go false = refl

  pub room_fits : lacks F n ws top ≡ false → 2 * (room_top F n ws top + n) ≤ length (room_words F n ws top)
  unfolding lacks room_top
  room_fits l = rw room_length (go (ltb (length ws / 2) (top + n)) refl)
    where
      k : F + live F ws top + n ≤ length ws / 2
      k = ltb-false (length ws / 2) (F + live F ws top + n) l

      go : (u : Bool) → ltb (length ws / 2) (top + n) ≡ u → 2 * (cond u (F + live F ws top) top + n) ≤ length ws
      go true e = omega (arith, k)
      go false e = omega (arith, ltb-false (length ws / 2) (top + n) e)

-- ---- as the code goes about it: a test of `top`, then one of the collected store's

module _ (F : ℕ) (n : ℕ) (v : List ℕ) (top : ℕ) (p : 0 < F) (s : Sound F v top) (act : List ℕ → ℕ → Done)
    (ws : List ℕ) where
  pub as_it_is : ltb (capacity v) (top + n) ≡ false → with_room F n v act ws top ≡ act v top
  unfolding with_room lacks room_words room_top
  as_it_is e = rw (
    e,
    le-ltb (capacity v) (F + live F v top + n)
        (omega (arith, ltb-false (capacity v) (top + n) e, live_le F v top p s)),
  ) refl

  pub once_collected : ltb (capacity v) (top + n) ≡ true
      → with_room F n v act ws top ≡ cond (ltb (capacity v) (collected_top F v top + n))
      (refused (collected F ws top) (collected_top F ws top) (only 16))
      (act (collected F v top) (collected_top F v top))
  unfolding with_room lacks room_words room_top
  once_collected e = rw e refl

-- ---- what a plan's action has to do, for the plan to meet the effect x

abbrev pub PlanDoes : ℕ → List ℕ → ℕ → Effect → Plan → Type 0
PlanDoes F ws top x (plain act) = Acts F (meaning ws) x 0 ws top (act ws top)
PlanDoes F ws top x (in_collected act) =
    (x.unfit ≡ 0) × Acts F (meaning ws) x 0 (collected F ws top) (collected_top F ws top)
    (act (collected F ws top) (collected_top F ws top))
PlanDoes F ws top x (laying n v act) =
    (x.unfit ≡ 0) × Sound F v top × (length v ≡ length ws)
    × ((u : List ℕ) (t : ℕ) → Sound F u t → Denote F u (meaning v) → 2 * (t + n) ≤ length u
    → Acts F (meaning ws) x n u t (act u t))

module _ (F : ℕ) (ws : List ℕ) (top : ℕ) (p : 0 < F) (s : Sound F ws top) (x : Effect) (small : x.unfit ≤ 15) where
  -- done without fail, in a store v with its `top` t
  done_meets : (plan : Plan) (n : ℕ) (v : List ℕ) (t : ℕ) (r : Done) → length v ≡ length ws
      → plan_top F plan ws top ≡ t + n → plan_lacks F plan ws top ≡ false → x.unfit ≡ 0
      → Acts F (meaning ws) x n v t r → PlanMeets F ws top x plan r
  done_meets plan n v t r l y k z m =
      let u = m.status ∙ z in
      record {
        sound = m.sound;
        len = m.len ∙ l;
        status = u ∙ rw (z, k) refl;
        value = m.value;
        rule = m.rule;
        registers = m.registers;
        tops = rw u (m.tops ∙ sym y);
        left = rw u tt;
      }

  plain_meets : (act : List ℕ → ℕ → Done) (r : Done) → Acts F (meaning ws) x 0 ws top r
      → (u : ℕ) → x.unfit ≡ u → PlanMeets F ws top x (plain act) r
  unfolding plan_top plan_lacks
  plain_meets act r m zero z = done_meets (plain act) 0 ws top r refl (sym (add-zero top)) refl z m
  plain_meets act r m (suc u) z =
      let t = m.status ∙ z in
      let y : eqb u 15 ≡ false = ne_eqb u 15 (omega (arith, small)) in
      record {
        sound = m.sound;
        len = m.len;
        status = t ∙ rw z refl;
        value = m.value;
        rule = m.rule;
        registers = m.registers;
        tops = rw (t, y) (m.tops ∙ add-zero top);
        left = rw (t, y) (rw t at m.left);
      }

  pub carry_meets : (plan : Plan) → PlanDoes F ws top x plan → PlanMeets F ws top x plan (carry_out F plan ws top)
  unfolding carry_out with_room plan_top plan_lacks
  carry_meets (plain act) m = plain_meets act (act ws top) m x.unfit refl
  carry_meets (in_collected act) m =
      done_meets (in_collected act) 0 (collected F ws top) (collected_top F ws top)
      (act (collected F ws top) (collected_top F ws top)) (length_collected F ws top p s)
      (sym (add-zero (collected_top F ws top))) refl m.0 m.1
  carry_meets (laying n v act) m = go (lacks F n v top) refl
    where
      go : (t : Bool) → lacks F n v top ≡ t
          → PlanMeets F ws top x (laying n v act)
          (cond t (refused (collected F ws top) (collected_top F ws top) (only 16))
          (act (room_words F n v top) (room_top F n v top)))
      go true l = record {
        sound = collected_sound F ws top p s;
        len = length_collected F ws top p s;
        status = rw (m.0, l) refl;
        value = refl;
        rule = refl;
        registers = meaning_kept F ws top p s;
        tops = refl;
        left = refl;
      }
      go false l =
          done_meets (laying n v act) n (room_words F n v top) (room_top F n v top)
          (act (room_words F n v top) (room_top F n v top)) (room_length F n v top p m.1 ∙ m.2) refl l m.0
          (m.3 (room_words F n v top) (room_top F n v top) (room_sound F n v top p m.1)
          (room_denote F n v top p m.1) (room_fits F n v top p m.1 l))
