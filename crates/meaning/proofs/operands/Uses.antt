-- How a call uses its words, by operation; a call whose own words are right; its operand registers. In order:
--   all_below, all_at              a test of all numbers below n, by computation, and what it says of each
--   index_op_at                    operation o has the number o
--   three                          a test over the three words of a call
--   Faults, faults                 what is wrong with a call's own words, by cases, and that it is one of them
--   WordsRight, right              own words that are right, and that they are where nothing is wrong
--   op_small                       the operation is then one of the twelve
--   is_register_lem, is_code_lem   a word that is right as a register or as a code is one
--   keeps_operand                  where a call sets d, d is kept exactly if it is an operand register
--   keeps_a, keeps_b               an operand register that is d is kept
--   unkept_register                where d is not kept, it is a register
--   fault_small                    the status of what is wrong with a call's own words is at most 13
-- Assumes nothing.
use mathlib.Core.Path.{◌≡◌, refl, sym}
use mathlib.Core.Logic.{◌⊎◌, inl, inr}
use mathlib.Core.Bool.{Bool, true, false, cond, ◌&&◌, ◌||◌, true≢false, false≢true}
use Prim.Native.Nat.{ℕ, zero, suc, ◌+◌, ◌*◌, ◌≤◌, ◌<◌}
use native.Mathlib.Omega.{arith}
use lib.Dec.{ltb, eqb}
use lib.ListN.{get_or}
use native.Mathlib.Nat.{eq-or-lt_of_le, le_of_suc-le-suc}
use borrow.Author.Tests.{leb-false, ltb-true, ltb-false, eqb-true, eq-eqb}
use Rattle.meaning.specs.Limits.{code_test}
use Rattle.meaning.specs.Sound.{IsCode}
use Rattle.meaning.specs.Operands.{Op, ops, op_at, uses, index, use_d, use_a, use_b, names, is_operand, wrong11}
use Rattle.meaning.specs.Operands.{wrong12, wrong13, fault}
use Rattle.meaning.specs.Call.{keeps}

-- ---- the table's row of an operation

-- a test that holds of all numbers below n, by computation
abbrev pub all_below : (ℕ → Bool) → ℕ → Bool
all_below f zero = true
all_below f (suc n) = f n && all_below f n

pub all_at : (f : ℕ → Bool) (n o : ℕ) → all_below f n ≡ true → o < n → f o ≡ true
all_at f zero o e h = absurd (omega arith)
all_at f (suc n) o e h = go (f n) refl e (eq-or-lt_of_le (le_of_suc-le-suc h)) (all_at f n o)
  where
    go : (t : Bool) → f n ≡ t → (t && all_below f n) ≡ true → (o ≡ n) ⊎ (o < n)
        → (all_below f n ≡ true → o < n → f o ≡ true) → f o ≡ true
    go true q r (inl x) k = rw x q
    go true q r (inr x) k = k r x
    go false q r x k = absurd (false≢true r)

pub index_op_at : (o : ℕ) → o < 12 → index (op_at o) ≡ o
unfolding op_at ops
index_op_at o h = eqb-true (index (op_at o)) o (all_at (λ x. eqb (index (op_at x)) x) 12 o refl h)

-- ---- what is wrong with a call's own words, by cases

-- a test over the three words of a call
abbrev pub three : (ℕ → ℕ → Bool) → ℕ → ℕ → ℕ → ℕ → Bool
three wrong o d a b =
    wrong (get_or uses (3 * o) 0) d || wrong (get_or uses (3 * o + 1) 0) a || wrong (get_or uses (3 * o + 2) 0) b

pub data Faults (F o d a b : ℕ) : ℕ → Type 0 where
  ten : 11 < o → Faults F o d a b 10
  eleven : o ≤ 11 → three (wrong11 F) o d a b ≡ true → Faults F o d a b 11
  twelve : o ≤ 11 → three (wrong11 F) o d a b ≡ false → three wrong12 o d a b ≡ true → Faults F o d a b 12
  thirteen : o ≤ 11 → three (wrong11 F) o d a b ≡ false → three wrong12 o d a b ≡ false
      → three wrong13 o d a b ≡ true → Faults F o d a b 13
  none : o ≤ 11 → three (wrong11 F) o d a b ≡ false → three wrong12 o d a b ≡ false
      → three wrong13 o d a b ≡ false → Faults F o d a b 0

pub faults : (F o d a b : ℕ) → Faults F o d a b (fault F o d a b)
unfolding fault
faults F o d a b =
    go (ltb 11 o) (three (wrong11 F) o d a b) (three wrong12 o d a b) (three wrong13 o d a b) refl refl refl refl
  where
    go : (q r s t : Bool) → ltb 11 o ≡ q → three (wrong11 F) o d a b ≡ r → three wrong12 o d a b ≡ s
        → three wrong13 o d a b ≡ t → Faults F o d a b (cond q 10 (cond r 11 (cond s 12 (cond t 13 0))))
    go true r s t e f g h = ten (ltb-true 11 o e)
    go false true s t e f g h = eleven (ltb-false 11 o e) f
    go false false true t e f g h = twelve (ltb-false 11 o e) f g
    go false false false true e f g h = thirteen (ltb-false 11 o e) f g h
    go false false false false e f g h = none (ltb-false 11 o e) f g h

-- ---- a call whose own words are right

or_false : (a b : Bool) → (a || b) ≡ false → (a ≡ false) × (b ≡ false)
or_false true b q = absurd (true≢false q)
or_false false b q = (refl, q)

three_false : (wrong : ℕ → ℕ → Bool) (o d a b : ℕ) → three wrong o d a b ≡ false
    → (wrong (get_or uses (3 * o) 0) d ≡ false) × (wrong (get_or uses (3 * o + 1) 0) a ≡ false)
    × (wrong (get_or uses (3 * o + 2) 0) b ≡ false)
three_false wrong o d a b e =
    let y = or_false (wrong (get_or uses (3 * o) 0) d || wrong (get_or uses (3 * o + 1) 0) a)
    (wrong (get_or uses (3 * o + 2) 0) b) e in
    let z = or_false (wrong (get_or uses (3 * o) 0) d) (wrong (get_or uses (3 * o + 1) 0) a) y.0 in
    (z.0, z.1, y.1)

pub record WordsRight (F : ℕ) (o : Op) (d a b : ℕ) : Type 0 where
  pub d11 : wrong11 F (use_d o) d ≡ false
  pub a11 : wrong11 F (use_a o) a ≡ false
  pub b11 : wrong11 F (use_b o) b ≡ false
  pub a13 : wrong13 (use_a o) a ≡ false

pub right : (F o d a b : ℕ) → fault F o d a b ≡ 0 → WordsRight F (op_at o) d a b
right F o d a b = go (faults F o d a b)
  where
    go : {f : ℕ} → Faults F o d a b f → f ≡ 0 → WordsRight F (op_at o) d a b
    go (ten h) z = absurd (omega arith)
    go (eleven h x) z = absurd (omega arith)
    go (twelve h x y) z = absurd (omega arith)
    go (thirteen h x y w) z = absurd (omega arith)
    go (none h x y w) z =
        let q = three_false (wrong11 F) o d a b x in
        let c = three_false wrong13 o d a b w in
        let t = index_op_at o (omega arith) in
        record { d11 = rw t q.0; a11 = rw t q.1; b11 = rw t q.2; a13 = rw t c.1 }

pub op_small : (F o d a b : ℕ) → fault F o d a b ≡ 0 → o < 12
op_small F o d a b = go (faults F o d a b)
  where
    go : {f : ℕ} → Faults F o d a b f → f ≡ 0 → o < 12
    go (ten h) z = absurd (omega arith)
    go (eleven h x) z = omega arith
    go (twelve h x y) z = omega arith
    go (thirteen h x y w) z = omega arith
    go (none h x y w) z = omega arith

pub is_register_lem : (F w : ℕ) → wrong11 F 1 w ≡ false → w < F
unfolding wrong11
is_register_lem F w q = leb-false F w q

pub is_code_lem : (w : ℕ) → wrong13 2 w ≡ false → IsCode w
unfolding wrong13
is_code_lem w q = go (code_test w) q
  where
    go : (t : Bool) → cond t false true ≡ false → t ≡ true
    go true q = refl
    go false q = sym q

-- ---- the operand registers: one that is d is kept, and d is kept unless the call sets it

module _ (o : Op) (d a b : ℕ) where
  pub keeps_operand : use_d o ≡ 1 → keeps o d a b ≡ is_operand o d a b
  unfolding keeps
  keeps_operand u = rw u refl

  kept : is_operand o d a b ≡ true → keeps o d a b ≡ true
  unfolding keeps
  kept h = go (eqb (use_d o) 1)
    where
      go : (t : Bool) → cond t (is_operand o d a b) true ≡ true
      go true = h
      go false = refl

  pub keeps_a : use_a o ≡ 1 → a ≡ d → keeps o d a b ≡ true
  unfolding is_operand names
  keeps_a u h = kept (rw (u, eq-eqb a d h) refl)

  pub keeps_b : use_b o ≡ 1 → b ≡ d → keeps o d a b ≡ true
  unfolding is_operand names
  keeps_b u h = kept (rw (u, eq-eqb b d h) (go (eqb (use_a o) 1 && eqb a d)))
    where
      go : (t : Bool) → (t || true) ≡ true
      go true = refl
      go false = refl

  pub unkept_register : (F : ℕ) → WordsRight F o d a b → keeps o d a b ≡ false → d < F
  unfolding keeps
  unkept_register F q = go (eqb (use_d o) 1) refl
    where
      go : (t : Bool) → eqb (use_d o) 1 ≡ t → cond t (is_operand o d a b) true ≡ false → d < F
      go true e k = is_register_lem F d (rw (eqb-true (use_d o) 1 e) at q.d11)
      go false e k = absurd (true≢false k)

pub fault_small : (F o d a b : ℕ) → fault F o d a b ≤ 13
fault_small F o d a b = go (faults F o d a b)
  where
    go : {f : ℕ} → Faults F o d a b f → f ≤ 13
    go (ten h) = omega arith
    go (eleven h x) = omega arith
    go (twelve h x y) = omega arith
    go (thirteen h x y w) = omega arith
    go (none h x y w) = omega arith
