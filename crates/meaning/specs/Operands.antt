-- The twelve operations, the table of their operand words, and what is wrong with a call's own words (SCOPE 4.1,
-- 4.5). Assumes nothing.
use Rattle.std.specs.Prelude.{Bool, true, false, cond, ◌&&◌, ◌||◌, List, [], ◌∷◌, ℕ, ◌+◌, ◌*◌, ltb, leb, eqb, get_or}
use Rattle.meaning.specs.Limits.{code_test}

pub data Op : Type 0 where
  CLEAR COPY SYMBOL WRAP JOIN HEAD REST OPEN LENGTH FIRST LIVE COLLECT : Op

unfoldable pub ops : List Op
ops = CLEAR ∷ COPY ∷ SYMBOL ∷ WRAP ∷ JOIN ∷ HEAD ∷ REST ∷ OPEN ∷ LENGTH ∷ FIRST ∷ LIVE ∷ COLLECT ∷ []

unfoldable pub op_at : ℕ → Op
op_at o = get_or ops o COLLECT

-- how each operation uses d, a and b: 0 not at all, 1 as a register, 2 as a code
unfoldable pub uses : List ℕ
uses =
    1 ∷ 0 ∷ 0 ∷  -- CLEAR d
    1 ∷ 1 ∷ 0 ∷  -- COPY d a
    1 ∷ 2 ∷ 0 ∷  -- SYMBOL d a
    1 ∷ 1 ∷ 0 ∷  -- WRAP d a
    1 ∷ 1 ∷ 1 ∷  -- JOIN d a b
    1 ∷ 1 ∷ 0 ∷  -- HEAD d a
    1 ∷ 1 ∷ 0 ∷  -- REST d a
    1 ∷ 1 ∷ 0 ∷  -- OPEN d a
    0 ∷ 1 ∷ 0 ∷  -- LENGTH a
    0 ∷ 1 ∷ 0 ∷  -- FIRST a
    0 ∷ 0 ∷ 0 ∷  -- LIVE
    0 ∷ 0 ∷ 0 ∷ []  -- COLLECT

-- the row of an operation, and how it uses d, a and b
abbrev pub index : Op → ℕ
index CLEAR = 0
index COPY = 1
index SYMBOL = 2
index WRAP = 3
index JOIN = 4
index HEAD = 5
index REST = 6
index OPEN = 7
index LENGTH = 8
index FIRST = 9
index LIVE = 10
index COLLECT = 11

abbrev pub use_d : Op → ℕ
use_d o = get_or uses (3 * index o) 0

abbrev pub use_a : Op → ℕ
use_a o = get_or uses (3 * index o + 1) 0

abbrev pub use_b : Op → ℕ
use_b o = get_or uses (3 * index o + 2) 0

-- a word w that is used as u says names register r
unfoldable pub names : ℕ → ℕ → ℕ → Bool
names u w r = eqb u 1 && eqb w r

-- register r is one of the call's operand registers
unfoldable pub is_operand : Op → ℕ → ℕ → ℕ → Bool
is_operand o r a b = names (use_a o) a r || names (use_b o) b r

-- a word w that is used as u says breaks the rule of status 11, 12 or 13
unfoldable pub wrong11 : ℕ → ℕ → ℕ → Bool
wrong11 F u w = eqb u 1 && leb F w

unfoldable pub wrong12 : ℕ → ℕ → Bool
wrong12 u w = eqb u 0 && ltb 0 w

unfoldable pub wrong13 : ℕ → ℕ → Bool
wrong13 u w = eqb u 2 && cond (code_test w) false true

-- what is wrong with the call's own words: 10 to 13, or 0
unfoldable pub fault : ℕ → ℕ → ℕ → ℕ → ℕ → ℕ
fault F o d a b =
    let u = get_or uses (3 * o) 0 in
    let v = get_or uses (3 * o + 1) 0 in
    let w = get_or uses (3 * o + 2) 0 in
    cond (ltb 11 o) 10
    (cond (wrong11 F u d || wrong11 F v a || wrong11 F w b) 11
    (cond (wrong12 u d || wrong12 v a || wrong12 w b) 12
    (cond (wrong13 u d || wrong13 v a || wrong13 w b) 13 0)))
