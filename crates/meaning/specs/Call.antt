-- One call (SCOPE 4). It is planned on the store as lent: to act in the store as it is, in the store collected, or
-- where there is room for n new cells. `carry_out` alone has the rule for room. Assumes nothing.
use Rattle.std.specs.Prelude.{Bool, true, cond, List, ℕ, zero, suc, ◌+◌, ltb, eqb}
use Rattle.meaning.specs.Sound.{empty, at, capacity, size}
use Rattle.meaning.specs.Reach.{live}
use Rattle.meaning.specs.Collected.{collected, collected_top}
use Rattle.meaning.specs.Verdicts.{Done, done, refused, only}
use Rattle.meaning.specs.Operands.{Op, CLEAR, COPY, SYMBOL, WRAP, JOIN, HEAD, REST, OPEN, LENGTH, FIRST, LIVE}
use Rattle.meaning.specs.Operands.{COLLECT}
use Rattle.meaning.specs.Operands.{op_at, use_d, is_operand, fault}
use Rattle.meaning.specs.Actions.{put, share, head, rest, open_first, code_first, new_symbol, new_bracket, new_run}

-- ---- plans

pub data Plan : Type 0 where
  plain : (List ℕ → ℕ → Done) → Plan
  in_collected : (List ℕ → ℕ → Done) → Plan
  laying : ℕ → List ℕ → (List ℕ → ℕ → Done) → Plan

-- whether the call keeps register d while it seeks room: it does not set d, or d is one of its operand registers
unfoldable pub keeps : Op → ℕ → ℕ → ℕ → Bool
keeps o d a b = cond (eqb (use_d o) 1) (is_operand o d a b) true

-- The store in which room is sought. Where register d is not kept it is empty there: its old expression is about to go,
-- and does not count.
unfoldable pub sought : Bool → ℕ → List ℕ → List ℕ
sought kept d ws = cond kept ws (put ws d empty)

-- and for the call o d a b
abbrev pub sought_by : Op → ℕ → ℕ → ℕ → List ℕ → List ℕ
sought_by o d a b ws = sought (keeps o d a b) d ws

-- the new cells that JOIN needs for n terms and m terms
abbrev pub join_need : ℕ → ℕ → ℕ
join_need zero m = 0
join_need (suc n) zero = 0
join_need (suc n) (suc m) = suc n + suc m

-- JOIN of n terms and m terms: with a empty it shares b; else with b empty it shares a; else it copies, where v is the
-- store in which room is sought
abbrev pub join_plan : ℕ → ℕ → List ℕ → ℕ → ℕ → ℕ → Plan
join_plan zero m v d a b = plain (share d b)
join_plan (suc n) zero v d a b = plain (share d a)
join_plan (suc n) (suc m) v d a b = laying (join_need (suc n) (suc m)) v (new_run d a b)

unfoldable pub plan_of : Op → ℕ → List ℕ → ℕ → ℕ → ℕ → ℕ → Plan
plan_of CLEAR F ws top d a b = plain (λ v t. done (put v d empty) t 0)
plan_of COPY F ws top d a b = plain (share d a)
plan_of SYMBOL F ws top d a b = laying 1 (sought_by SYMBOL d a b ws) (new_symbol d a)
plan_of WRAP F ws top d a b = laying 1 (sought_by WRAP d a b ws) (new_bracket d a)
plan_of JOIN F ws top d a b = join_plan (size (at ws a)) (size (at ws b)) (sought_by JOIN d a b ws) d a b
plan_of HEAD F ws top d a b = plain (λ v t. head v t d (at v a))
plan_of REST F ws top d a b = plain (λ v t. rest v t d (at v a))
plan_of OPEN F ws top d a b = plain (λ v t. open_first v t d (at v a))
plan_of LENGTH F ws top d a b = plain (λ v t. done v t (size (at v a)))
plan_of FIRST F ws top d a b = plain (λ v t. code_first v t (at v a))
plan_of LIVE F ws top d a b = plain (λ v t. done v t (live F v t))
plan_of COLLECT F ws top d a b = in_collected (λ v t. done v t (live F v t))

-- ---- room for n new cells

-- in the store v there is none: F + live + n exceeds the capacity
unfoldable pub lacks : ℕ → ℕ → List ℕ → ℕ → Bool
lacks F n v top = ltb (capacity v) (F + live F v top + n)

-- the store with room, and its `top`: collected where `top` + n exceeds the capacity, and only then
unfoldable pub room_words : ℕ → ℕ → List ℕ → ℕ → List ℕ
room_words F n v top = cond (ltb (capacity v) (top + n)) (collected F v top) v

unfoldable pub room_top : ℕ → ℕ → List ℕ → ℕ → ℕ
room_top F n v top = cond (ltb (capacity v) (top + n)) (collected_top F v top) top

-- room is sought in v; 16 leaves the store itself, collected
unfoldable pub with_room : ℕ → ℕ → List ℕ → (List ℕ → ℕ → Done) → List ℕ → ℕ → Done
with_room F n v act ws top =
    cond (lacks F n v top) (refused (collected F ws top) (collected_top F ws top) (only 16))
    (act (room_words F n v top) (room_top F n v top))

unfoldable pub carry_out : ℕ → Plan → List ℕ → ℕ → Done
carry_out F (plain act) ws top = act ws top
carry_out F (in_collected act) ws top = act (collected F ws top) (collected_top F ws top)
carry_out F (laying n v act) ws top = with_room F n v act ws top

-- ---- one call

-- a call whose own words are right
unfoldable pub perform : Op → ℕ → List ℕ → ℕ → ℕ → ℕ → ℕ → Done
perform o F ws top d a b = carry_out F (plan_of o F ws top d a b) ws top

unfoldable pub step_after : ℕ → ℕ → List ℕ → ℕ → ℕ → ℕ → ℕ → ℕ → Done
step_after zero F ws top o d a b = perform (op_at o) F ws top d a b
step_after (suc s) F ws top o d a b = refused ws top (only (suc s))

unfoldable pub step : ℕ → List ℕ → ℕ → ℕ → ℕ → ℕ → ℕ → Done
step F ws top o d a b = step_after (fault F o d a b) F ws top o d a b
