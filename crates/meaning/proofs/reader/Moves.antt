-- What a byte can do, by cases: what holds of every move that can be judged, with what the byte is, holds of the one
-- that is. In order:
--   either, stops_once                     a choice by a test;  a byte stops the reader with one status
--   digit_range, is_digit_lem                  a byte that is a digit
--   first_digit, more_digit                a digit where a term may begin, and after a digit
--   first_bracket                          a bracket where a term may begin
--   first_cases, later_cases, more_cases   a byte where a term may begin, after a whole term, after a digit
--   judge_cases                            a byte wherever the reader stands
-- Assumes nothing.
use mathlib.Core.Path.{◌≡◌, refl, ap}
use mathlib.Core.Bool.{Bool, true, false, cond}
use Prim.Native.Nat.{ℕ, ◌+◌, ◌-◌, ◌*◌, ◌≤◌, ◌<◌}
use native.Mathlib.Omega.{arith}
use lib.Dec.{ltb, eqb}
use borrow.Author.Tests.{ltb-true, lt-ltb, eqb-true, eq-eqb}
use Rattle.meaning.specs.Limits.{code_test, depth_limit}
use Rattle.meaning.specs.Sound.{IsCode}
use Rattle.meaning.specs.Judge.{Stand, begun, spaced, number, closed, stopped}
use Rattle.meaning.specs.Judge.{Move, stops, begins, grows, opens, closes, parts}
use Rattle.meaning.specs.Judge.{is_digit, with_digit, if_term, first_move, later_move, more_move, judge}
use Rattle.meaning.proofs.Counting.{within, yes_within}

pub either : {A : Type 0} (P : A → Type 0) (t : Bool) {x y : A} → (t ≡ true → P x) → (t ≡ false → P y)
    → P (cond t x y)
either P true f g = f refl
either P false f g = g refl

-- one status
pub stops_once : (s t : ℕ) → stops s ≡ stops t → s ≡ t
stops_once s t e = ap status_of e
  where
    status_of : Move → ℕ
    status_of (stops n) = n
    status_of (begins a) = 0
    status_of (grows a) = 0
    status_of opens = 0
    status_of closes = 0
    status_of parts = 0

pub digit_range : (b : ℕ) → is_digit b ≡ true → (48 ≤ b) × (b ≤ 57)
unfolding is_digit
digit_range b e = within 48 57 b e

pub is_digit_lem : (b : ℕ) → 48 ≤ b → b ≤ 57 → is_digit b ≡ true
unfolding is_digit
is_digit_lem b h l = yes_within 48 57 b h l

-- a digit, by whether the number with it is a code
pub first_digit : (depth : ℕ) (full : Bool) (b : ℕ) (t : Bool) → is_digit b ≡ true → code_test (with_digit 0 b) ≡ t
    → first_move depth full b ≡ if_term full (cond t (begins (with_digit 0 b)) (stops 13))
unfolding first_move
first_digit depth full b t e f = rw (e, f) refl

-- an opening bracket that is not one too many
pub first_bracket_lem : (depth : ℕ) (full : Bool) (b : ℕ) → is_digit b ≡ false → b ≡ 40 → depth < depth_limit
    → first_move depth full b ≡ if_term full opens
unfolding first_move
first_bracket_lem depth full b d e l = rw (d, eq-eqb b 40 e, lt-ltb depth depth_limit l) refl

pub more_digit : (a depth b : ℕ) (t : Bool) → is_digit b ≡ true → code_test (with_digit a b) ≡ t
    → more_move a depth b ≡ cond t (grows (with_digit a b)) (stops 13)
unfolding more_move
more_digit a depth b t e f = rw (e, f) refl

-- what the byte is at each move
module _ (P : Move → Type 0) (b : ℕ) (stop : (s : ℕ) → P (stops s)) where
  pub first_cases : (depth : ℕ) (full : Bool)
      → ((d : ℕ) → b ≡ 48 + d → d ≤ 9 → IsCode d → full ≡ false → P (begins d))
      → (b ≡ 40 → depth < depth_limit → full ≡ false → P opens) → P (first_move depth full b)
  unfolding first_move with_digit
  first_cases depth full begin bracket =
      either P (is_digit b)
      (λ e. either P full (λ _. stop 24)
      (λ n. either P (code_test (with_digit 0 b))
      (λ f. let i = digit_range b e in begin (with_digit 0 b) (omega (arith, i.0)) (omega (arith, i.1)) f n)
      (λ _. stop 13)))
      (λ _. either P (eqb b 40)
      (λ g. either P (ltb depth depth_limit)
      (λ d. either P full (λ _. stop 24) (λ n. bracket (eqb-true b 40 g) (ltb-true depth depth_limit d) n))
      (λ _. stop 21))
      (λ _. stop 23))

  pub later_cases : (depth : ℕ) → (b ≡ 41 → 0 < depth → P closes) → (b ≡ 32 → P parts) → P (later_move depth b)
  unfolding later_move
  later_cases depth close part =
      either P (eqb b 32) (λ e. part (eqb-true b 32 e))
      (λ _. either P (eqb b 41)
      (λ f. either P (ltb 0 depth) (λ e. close (eqb-true b 41 f) (ltb-true 0 depth e)) (λ _. stop 23)) (λ _. stop 23))

  pub more_cases : (a depth : ℕ) → ((d : ℕ) → b ≡ 48 + d → d ≤ 9 → IsCode (10 * a + d) → P (grows (10 * a + d)))
      → (b ≡ 41 → 0 < depth → P closes) → (b ≡ 32 → P parts) → P (more_move a depth b)
  unfolding more_move with_digit
  more_cases a depth grow close part =
      either P (is_digit b)
      (λ e. either P (code_test (with_digit a b))
      (λ f. let i = digit_range b e in grow (b - 48) (omega (arith, i.0)) (omega (arith, i.1)) f)
      (λ _. stop 13))
      (λ _. later_cases depth close part)

-- a byte wherever the reader stands
module _ (P : Move → Type 0) (b depth : ℕ) (full : Bool) (stop : (s : ℕ) → P (stops s))
    (begin : (d : ℕ) → b ≡ 48 + d → d ≤ 9 → IsCode d → full ≡ false → P (begins d))
    (bracket : b ≡ 40 → depth < depth_limit → full ≡ false → P opens)
    (grow : (a d : ℕ) → b ≡ 48 + d → d ≤ 9 → IsCode (10 * a + d) → P (grows (10 * a + d)))
    (close : b ≡ 41 → 0 < depth → P closes) (part : b ≡ 32 → P parts) where
  pub judge_cases : (s : Stand) → P (judge s depth full b)
  judge_cases begun =
      either P (eqb b 41) (λ e. later_cases P b stop depth close part)
      (λ e. first_cases P b stop depth full begin bracket)
  judge_cases spaced = first_cases P b stop depth full begin bracket
  judge_cases (number a) = more_cases P b stop a depth (grow a) close part
  judge_cases closed = later_cases P b stop depth close part
  judge_cases (stopped s) = stop s
