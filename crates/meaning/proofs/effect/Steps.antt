-- One call, whatever its words are. In order:
--   sound_by, length_by   the store in which a call seeks room is sound and as long
--   size_a, size_b        an operand has as many terms in it as before
--   no_need               a call that needs no cell never lacks room
--   Steps, step_meets     what one call has to give, and that it does, whatever its words are
-- Assumes nothing.
use mathlib.Core.Path.{◌≡◌, refl, sym, ap, ◌∙◌}
use mathlib.Core.Bool.{Bool, true, false}
use mathlib.Core.List.{List}
use Prim.Native.Nat.{ℕ, zero, suc, ◌+◌, ◌<◌}
use native.Mathlib.Omega.{arith}
use lib.Dec.{ltb, eqb}
use lib.ListN.{length}
use borrow.Author.Tests.{ne_eqb, le-ltb}
use Rattle.meaning.specs.Expr.{Expr, terms}
use Rattle.meaning.specs.Sound.{at, Sound, capacity, size}
use Rattle.meaning.specs.Meaning.{meaning}
use Rattle.meaning.specs.Reach.{live}
use Rattle.meaning.specs.Collected.{collected, collected_top}
use Rattle.meaning.specs.Verdicts.{Done}
use Rattle.meaning.specs.Operands.{use_a, use_b, uses, Op, CLEAR, COPY, SYMBOL, WRAP, JOIN, HEAD, REST, OPEN}
use Rattle.meaning.specs.Operands.{LENGTH, FIRST, LIVE, COLLECT, fault, op_at}
use Rattle.meaning.specs.Call.{join_need, join_plan, keeps, sought_by, lacks, plan_of, perform, step_after, step}
use Rattle.meaning.specs.Effect.{Facts, facts, does, effect, live_for_room, after, answer, call_status}
use Rattle.meaning.proofs.sound.Cells.{good}
use Rattle.meaning.proofs.collected.Collecting.{collected_sound, meaning_kept}
use Rattle.meaning.proofs.reach.Reaching.{live_le}
use Rattle.meaning.proofs.collected.Again.{live_kept}
use Rattle.meaning.proofs.effect.Effects.{Denote, Others, meaning_at}
use Rattle.meaning.proofs.effect.Stepping.{clear_acts, copy_acts, head_at, rest_at, open_at, code_at}
use Rattle.meaning.proofs.effect.Stepping.{length_acts}
use Rattle.meaning.proofs.effect.Stepping.{live_acts, collect_acts, size_terms, unfit_small}
use Rattle.meaning.proofs.effect.Building.{symbol_acts, wrap_acts, join_left_acts, join_right_acts}
use Rattle.meaning.proofs.effect.Building.{join_both_acts}
use Rattle.meaning.proofs.operands.Uses.{keeps_a, keeps_b, unkept_register, WordsRight, right, is_register_lem}
use Rattle.meaning.proofs.operands.Uses.{is_code_lem}
use Rattle.meaning.proofs.operands.Uses.{fault_small}
use Rattle.meaning.proofs.call.Sought.{sought_sound, sought_length, sought_meaning}
use Rattle.meaning.proofs.call.Plans.{plan_lacks, plan_top, top_after}
use Rattle.meaning.proofs.call.Plans.{WordsAfter, PlanMeets, PlanDoes, carry_meets}

-- ---- a call whose own words are right

module _ (F : ℕ) (ws : List ℕ) (top : ℕ) (p : 0 < F) (s : Sound F ws top) (d a b : ℕ) where
  abbrev e : ℕ → Expr
  e = meaning ws

  abbrev fs : Facts
  fs = facts F ws top

  still : Denote F ws (meaning ws)
  still i h = refl

  -- ---- the store in which the call seeks room

  pub sound_by : (o : Op) → WordsRight F o d a b → Sound F (sought_by o d a b ws) top
  sound_by o q = sought_sound F ws top p s (keeps o d a b) d (unkept_register o d a b F q)

  pub length_by : (o : Op) → length (sought_by o d a b ws) ≡ length ws
  length_by o = sought_length (keeps o d a b) d ws

  -- in a store u that denotes what it denotes, an operand register and every register but d denote what they did
  module _ (o : Op) (q : WordsRight F o d a b) (u : List ℕ) (m : Denote F u (meaning (sought_by o d a b ws))) where
    as_before : (i : ℕ) → i < F → (i ≡ d → keeps o d a b ≡ true) → meaning u i ≡ meaning ws i
    as_before i h k = m i h ∙ sought_meaning F ws top p s (keeps o d a b) d (unkept_register o d a b F q) i h k

    others : Others F u (meaning ws) d
    others i h n = as_before i h (λ y. absurd (n y))

    operand_a : use_a o ≡ 1 → a < F → meaning u a ≡ meaning ws a
    operand_a y h = as_before a h (keeps_a o d a b y)

    operand_b : use_b o ≡ 1 → b < F → meaning u b ≡ meaning ws b
    operand_b y h = as_before b h (keeps_b o d a b y)

    -- and an operand has as many terms as before
    module _ (t : ℕ) (w : Sound F u t) where
      size_same : (i : ℕ) → i < F → meaning u i ≡ meaning ws i → size (at u i) ≡ size (at ws i)
      size_same i h y = size_terms F u t p w i h ∙ (ap terms y ∙ sym (size_terms F ws top p s i h))

      pub size_a : use_a o ≡ 1 → a < F → size (at u a) ≡ size (at ws a)
      size_a y h = size_same a h (operand_a y h)

      pub size_b : use_b o ≡ 1 → b < F → size (at u b) ≡ size (at ws b)
      size_b y h = size_same b h (operand_b y h)

  -- ---- what each plan does

  join_does : WordsRight F JOIN d a b → d < F → a < F → b < F → (n m : ℕ) → size (at ws a) ≡ n → size (at ws b) ≡ m
      → PlanDoes F ws top (does JOIN e fs d a b) (join_plan n m (sought_by JOIN d a b ws) d a b)
  unfolding uses
  join_does q hd ha hb zero m x y = join_left_acts F p e fs ws top s d a b (λ i h g. refl) refl refl hd ha hb x
  join_does q hd ha hb (suc n) zero x y = join_right_acts F p e fs ws top s d a b (λ i h g. refl) refl refl hd ha hb y
  join_does q hd ha hb (suc n) (suc m) x y = (
    refl,
    sound_by JOIN q,
    length_by JOIN,
    λ u t w f r.
        let za = size_a JOIN q u f t w refl ha in
        let zb = size_b JOIN q u f t w refl hb in
        join_both_acts F p e fs u t w d a b (others JOIN q u f) (operand_a JOIN q u f refl ha)
        (operand_b JOIN q u f refl hb) hd ha hb (omega arith) (omega arith) (suc n + suc m) (omega arith) r,
  )

  plan_does : (o : Op) → WordsRight F o d a b → PlanDoes F ws top (does o e fs d a b) (plan_of o F ws top d a b)
  unfolding plan_of uses
  plan_does CLEAR q = clear_acts F p e fs ws top s d still a b (is_register_lem F d q.d11)
  plan_does COPY q = copy_acts F p e fs ws top s d still a b (is_register_lem F d q.d11) (is_register_lem F a q.a11)
  plan_does SYMBOL q = (
    refl,
    sound_by SYMBOL q,
    length_by SYMBOL,
    λ u t w m r.
        symbol_acts F p e fs u t w d a b (others SYMBOL q u m) (is_register_lem F d q.d11) (is_code_lem a q.a13) r,
  )
  plan_does WRAP q =
      let h = is_register_lem F a q.a11 in (
        refl,
        sound_by WRAP q,
        length_by WRAP,
        λ u t w m r.
            wrap_acts F p e fs u t w d a b (others WRAP q u m) (operand_a WRAP q u m refl h) (is_register_lem F d q.d11)
            h r,
      )
  plan_does JOIN q = join_does q (is_register_lem F d q.d11) (is_register_lem F a q.a11) (is_register_lem F b q.b11)
      (size (at ws a)) (size (at ws b)) refl refl
  plan_does HEAD q = head_at F p e fs ws top s d still a b (is_register_lem F d q.d11) (at ws a)
      ((good F ws top p s).regs a (is_register_lem F a q.a11)) (meaning_at F ws top p s a)
  plan_does REST q = rest_at F p e fs ws top s d still a b (is_register_lem F d q.d11) (at ws a)
      ((good F ws top p s).regs a (is_register_lem F a q.a11)) (meaning_at F ws top p s a)
  plan_does OPEN q = open_at F p e fs ws top s d still a b (is_register_lem F d q.d11) (at ws a)
      ((good F ws top p s).regs a (is_register_lem F a q.a11)) (meaning_at F ws top p s a)
  plan_does LENGTH q = length_acts F p e fs ws top s d still a b (is_register_lem F a q.a11)
  plan_does FIRST q = code_at F p e fs ws top s d still a b (at ws a)
      ((good F ws top p s).regs a (is_register_lem F a q.a11)) (meaning_at F ws top p s a)
  plan_does LIVE q = live_acts F p e fs ws top s d still a b
  plan_does COLLECT q = (
    refl,
    rw (live_kept F ws top p s) (collect_acts F p e fs (collected F ws top) (collected_top F ws top)
        (collected_sound F ws top p s) d (meaning_kept F ws top p s) a b),
  )

  perform_meets : (o : Op) → WordsRight F o d a b
      → PlanMeets F ws top (does o e fs d a b) (plan_of o F ws top d a b) (perform o F ws top d a b)
  unfolding perform
  perform_meets o q =
      carry_meets F ws top p s (does o e fs d a b) (unfit_small o e fs d a b) (plan_of o F ws top d a b) (plan_does o q)

  -- ---- the rule for room, in the words of SCOPE 4.4: F + live for room + need exceeds the capacity

  abbrev short : Op → ℕ → Bool
  short o n = ltb (capacity ws) (F + live F (sought_by o d a b ws) top + n)

  pub no_need_lem : (o : Op) → WordsRight F o d a b → false ≡ short o 0
  no_need_lem o q = sym (le-ltb (capacity ws) (F + live F (sought_by o d a b ws) top + 0)
      (omega (arith, live_le F (sought_by o d a b ws) top p (sound_by o q), s.high)))

  some_need : (o : Op) (n : ℕ) → lacks F n (sought_by o d a b ws) top ≡ short o n
  unfolding lacks
  some_need o n = rw (length_by o) refl

  join_need_lem : WordsRight F JOIN d a b → (n m : ℕ)
      → plan_lacks F (join_plan n m (sought_by JOIN d a b ws) d a b) ws top ≡ short JOIN (join_need n m)
  unfolding plan_lacks
  join_need_lem q zero m = no_need_lem JOIN q
  join_need_lem q (suc n) zero = no_need_lem JOIN q
  join_need_lem q (suc n) (suc m) = some_need JOIN (suc n + suc m)

  lacks_need : (o : Op) → WordsRight F o d a b
      → plan_lacks F (plan_of o F ws top d a b) ws top ≡ short o (does o e fs d a b).need
  unfolding plan_lacks plan_of uses
  lacks_need CLEAR q = no_need_lem CLEAR q
  lacks_need COPY q = no_need_lem COPY q
  lacks_need SYMBOL q = some_need SYMBOL 1
  lacks_need WRAP q = some_need WRAP 1
  lacks_need JOIN q =
      rw (
        ← size_terms F ws top p s a (is_register_lem F a q.a11),
        ← size_terms F ws top p s b (is_register_lem F b q.b11),
      )
      (join_need_lem q (size (at ws a)) (size (at ws b)))
  lacks_need HEAD q = no_need_lem HEAD q
  lacks_need REST q = no_need_lem REST q
  lacks_need OPEN q = no_need_lem OPEN q
  lacks_need LENGTH q = no_need_lem LENGTH q
  lacks_need FIRST q = no_need_lem FIRST q
  lacks_need LIVE q = no_need_lem LIVE q
  lacks_need COLLECT q = no_need_lem COLLECT q

-- ---- any call

pub record Steps (F : ℕ) (ws : List ℕ) (top o d a b : ℕ) (r : Done) : Type 0 where
  pub sound : Sound F r.words r.top
  pub len : length r.words ≡ length ws
  pub status : r.verdict.status ≡ call_status (fault F o d a b) (effect F ws top o d a b)
      (ltb (capacity ws) (F + live_for_room F ws top o d a b + (effect F ws top o d a b).need))
  pub value : r.verdict.value ≡ answer r.verdict.status (effect F ws top o d a b)
  pub rule : r.verdict.rule ≡ 0
  pub registers : (i : ℕ) → i < F
      → meaning r.words i ≡ after r.verdict.status (effect F ws top o d a b) (meaning ws) i
  pub tops : r.top ≡ top_after r.verdict.status (plan_top F (plan_of (op_at o) F ws top d a b) ws top)
      (collected_top F ws top) top
  pub left : WordsAfter r.verdict.status ws (collected F ws top) r.words

module _ (F : ℕ) (ws : List ℕ) (top : ℕ) (p : 0 < F) (s : Sound F ws top) where
  pub step_meets : (o d a b : ℕ) → Steps F ws top o d a b (step F ws top o d a b)
  unfolding step step_after call_status
  step_meets o d a b = go (fault F o d a b) refl
    where
      go : (f : ℕ) → fault F o d a b ≡ f → Steps F ws top o d a b (step_after f F ws top o d a b)
      go zero q =
          let m = perform_meets F ws top p s d a b (op_at o) (right F o d a b q) in
          record {
            sound = m.sound;
            len = m.len;
            status = rw (q, ← lacks_need F ws top p s d a b (op_at o) (right F o d a b q)) m.status;
            value = m.value;
            rule = m.rule;
            registers = m.registers;
            tops = m.tops;
            left = m.left;
          }
      go (suc f) q =
          let z : eqb f 15 ≡ false = ne_eqb f 15 (omega (arith, fault_small F o d a b, q)) in
          record {
            sound = s;
            len = refl;
            status = rw q refl;
            value = refl;
            rule = refl;
            registers = λ i h. refl;
            tops = rw z refl;
            left = rw z refl;
          }
