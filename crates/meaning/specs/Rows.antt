-- The rows of SCOPE 7.1, P1 to P16, as one table with one test of a row. The rows are for a heap that begins at cell F.
-- Assumes nothing.
use Rattle.std.specs.Prelude.{Bool, true, false, ◌&&◌, List, [], ◌∷◌, ◌++◌, ℕ, ◌+◌, ◌-◌, eqb, T}
use Rattle.words.specs.Cell.{put_cell}
use Rattle.words.specs.Second.{bracket_to}
use Rattle.octets.specs.Little.{bytes_of}
use Rattle.octets.specs.Decimal.{decimal}
use Rattle.meaning.specs.Verdicts.{Verdict, valued, only, damaged_at, Done}
use Rattle.meaning.specs.Check.{check, collect_in}
use Rattle.meaning.specs.Fresh.{fresh, empty_registers}
use Rattle.meaning.specs.Batch.{Ran, runs}
use Rattle.meaning.specs.Program.{program}

-- a store and `top`, then: the calls, the answers, the store and `top` after them; or the store and `top` once
-- collected, with live; or the check's verdict. Or what the program reads, and what it writes.
pub data Row : Type 0 where
  runs_to : List ℕ → ℕ → List ℕ → List ℕ → List ℕ → ℕ → Row
  collects_to : List ℕ → ℕ → ℕ → List ℕ → ℕ → Row
  checks_to : List ℕ → ℕ → Verdict → Row
  writes : List ℕ → List ℕ → Row

abbrev pub same : List ℕ → List ℕ → Bool
same [] [] = true
same [] (y ∷ ys) = false
same (x ∷ xs) [] = false
same (x ∷ xs) (y ∷ ys) = eqb x y && same xs ys

unfoldable pub verdict_test : Verdict → Verdict → Bool
verdict_test v w = eqb v.status w.status && eqb v.value w.value && eqb v.rule w.rule

unfoldable pub done_test : Done → ℕ → List ℕ → ℕ → Bool
done_test r n ws top = verdict_test r.verdict (valued 0 n) && same r.words ws && eqb r.top top

unfoldable pub ran_test : Ran → List ℕ → List ℕ → ℕ → Bool
ran_test r ans ws top = same r.answers ans && same r.words ws && eqb r.top top

unfoldable pub row_test : ℕ → Row → Bool
row_test F (runs_to ws top calls ans ws' top') = ran_test (runs F ws top calls) ans ws' top'
row_test F (collects_to ws top n ws' top') = done_test (collect_in F ws top) n ws' top'
row_test F (checks_to ws top v) = verdict_test (check F ws top) v
row_test F (writes input output) = same (program F input) output

abbrev pub every : {A : Type 0} → (A → Bool) → List A → Bool
every f [] = true
every f (r ∷ rs) = f r && every f rs

-- SYMBOL 0 65, SYMBOL 1 66, JOIN 2 0 1, JOIN 3 2 0, CLEAR 0, CLEAR 1, JOIN 3 2 2, WRAP 3 2, LIVE
unfoldable pub p1 : List ℕ
p1 =
    2 ∷ 0 ∷ 65 ∷ 0 ∷ 2 ∷ 1 ∷ 66 ∷ 0 ∷ 4 ∷ 2 ∷ 0 ∷ 1 ∷ 4 ∷ 3 ∷ 2 ∷ 0 ∷ 0 ∷ 0 ∷ 0 ∷ 0 ∷ 0 ∷ 1 ∷ 0 ∷ 0 ∷
    4 ∷ 3 ∷ 2 ∷ 2 ∷ 3 ∷ 3 ∷ 2 ∷ 0 ∷ 10 ∷ 0 ∷ 0 ∷ 0 ∷ []

-- the lines `0 0`, `0 0`, `0 0`, `16 0`, `0 0`, `0 0`, `16 0`, `0 0`, `0 3`, and `top ` before its number
unfoldable pub p1_lines : List ℕ
p1_lines =
    48 ∷ 32 ∷ 48 ∷ 10 ∷ 48 ∷ 32 ∷ 48 ∷ 10 ∷ 48 ∷ 32 ∷ 48 ∷ 10 ∷ 49 ∷ 54 ∷ 32 ∷ 48 ∷ 10 ∷ 48 ∷ 32 ∷ 48 ∷ 10 ∷ 48 ∷ 32 ∷
    48 ∷
    10 ∷ 49 ∷ 54 ∷ 32 ∷ 48 ∷ 10 ∷ 48 ∷ 32 ∷ 48 ∷ 10 ∷ 48 ∷ 32 ∷ 51 ∷ 10 ∷ 116 ∷ 111 ∷ 112 ∷ 32 ∷ []

-- (B C D)(A B C) of Abramov and Romanenko 1988, 2.2, before and after it is collected
unfoldable pub p2 : ℕ → List ℕ
p2 F =
    (5 + F) ∷ bracket_to (6 + F) ∷ empty_registers (F - 1) ++
    (70 ∷ 0 ∷ 65 ∷ 0 ∷ 66 ∷ 0 ∷ 67 ∷ 0 ∷ 68 ∷ 0 ∷ (2 + F) ∷ bracket_to (4 + F) ∷ (1 + F) ∷ bracket_to (3 + F) ∷ 0 ∷ 0 ∷
    [])

unfoldable pub p3_heap : ℕ → List ℕ
p3_heap F =
    65 ∷ 0 ∷ 66 ∷ 0 ∷ 67 ∷ 0 ∷ 68 ∷ 0 ∷ (1 + F) ∷ bracket_to (3 + F) ∷ F ∷ bracket_to (2 + F) ∷ 0 ∷ 0 ∷ 0 ∷ 0 ∷ []

unfoldable pub p3 : ℕ → List ℕ
p3 F = (4 + F) ∷ bracket_to (5 + F) ∷ empty_registers (F - 1) ++ p3_heap F

-- two symbols and a bracket with ends l and r
unfoldable pub p6 : ℕ → ℕ → ℕ → List ℕ
p6 F l r = empty_registers F ++ (65 ∷ 0 ∷ 66 ∷ 0 ∷ l ∷ bracket_to r ∷ 0 ∷ 0 ∷ [])

-- one symbol in register 0
unfoldable pub lone : ℕ → ℕ → List ℕ
lone F a = F ∷ bracket_to F ∷ empty_registers (F - 1) ++ (a ∷ 0 ∷ [])

-- SYMBOL 0 65, SYMBOL 1 66, SYMBOL 2 67, COPY 3 2, JOIN 2 1 0, and what they leave where there are four heap cells
unfoldable pub p11 : List ℕ
p11 =
    2 ∷ 0 ∷ 65 ∷ 0 ∷ 2 ∷ 1 ∷ 66 ∷ 0 ∷ 2 ∷ 2 ∷ 67 ∷ 0 ∷ 1 ∷ 3 ∷ 2 ∷ 0 ∷ 4 ∷ 2 ∷ 1 ∷ 0 ∷ []

unfoldable pub p11_store : ℕ → List ℕ
p11_store F =
    F ∷ bracket_to F ∷ (1 + F) ∷ bracket_to (1 + F) ∷ (2 + F) ∷ bracket_to (2 + F) ∷ (2 + F) ∷ bracket_to (2 + F) ∷
    empty_registers (F - 4) ++ (65 ∷ 0 ∷ 66 ∷ 0 ∷ 67 ∷ 0 ∷ 0 ∷ 0 ∷ [])

-- register 0 on 65 and register 1 on 66 and 67, from cell c on
unfoldable pub two : ℕ → ℕ → List ℕ
two F c = c ∷ bracket_to c ∷ (1 + c) ∷ bracket_to (2 + c) ∷ empty_registers (F - 2)

-- one symbol that no register holds and a free cell, but for the words a and b of cell c, which break rule q
unfoldable pub breaks : ℕ → ℕ → ℕ → ℕ → ℕ → Row
breaks F c a b q = checks_to (put_cell (empty_registers F ++ (65 ∷ 0 ∷ 0 ∷ 0 ∷ [])) c a b) (1 + F) (damaged_at c q)

unfoldable pub rows : ℕ → List Row
rows F =
    -- P1
    runs_to (fresh F (4 + F)) F p1
    (0 ∷ 0 ∷ 0 ∷ 0 ∷ 0 ∷ 0 ∷ 16 ∷ 0 ∷ 0 ∷ 0 ∷ 0 ∷ 0 ∷ 16 ∷ 0 ∷ 0 ∷ 0 ∷ 0 ∷ 3 ∷ [])
    (empty_registers 2 ++ (F ∷ bracket_to (1 + F) ∷ (2 + F) ∷ bracket_to (2 + F) ∷ empty_registers (F - 4)) ++
    (65 ∷ 0 ∷ 66 ∷ 0 ∷ F ∷ bracket_to (1 + F) ∷ 0 ∷ 0 ∷ [])) (3 + F) ∷
    writes (bytes_of ((4 + F) ∷ p1)) (p1_lines ++ decimal (3 + F) ++ (10 ∷ [])) ∷
    -- P2, P3
    collects_to (p2 F) (7 + F) 6 (p3 F) (6 + F) ∷
    collects_to (p3 F) (6 + F) 6 (p3 F) (6 + F) ∷
    -- P4: SYMBOL 0 1, WRAP 0 0, JOIN 0 0 0
    runs_to (fresh F F) F (2 ∷ 0 ∷ 1 ∷ 0 ∷ 3 ∷ 0 ∷ 0 ∷ 0 ∷ 4 ∷ 0 ∷ 0 ∷ 0 ∷ []) (16 ∷ 0 ∷ 16 ∷ 0 ∷ 0 ∷ 0 ∷ [])
    (fresh F F) F ∷
    -- P5: SYMBOL 0 with the largest code, and with one more
    runs_to (fresh F (1 + F)) F (2 ∷ 0 ∷ 268435455 ∷ 0 ∷ 2 ∷ 0 ∷ 268435456 ∷ 0 ∷ []) (0 ∷ 0 ∷ 13 ∷ 0 ∷ [])
    (lone F 268435455) (1 + F) ∷
    -- P6
    checks_to (p6 F F (1 + F)) (3 + F) (only 0) ∷
    checks_to (p6 F F (2 + F)) (3 + F) (damaged_at (2 + F) 5) ∷
    checks_to (p6 F (1 + F) F) (3 + F) (damaged_at (2 + F) 5) ∷
    -- P7: HEAD 0 0
    runs_to (fresh F (1 + F)) F (5 ∷ 0 ∷ 0 ∷ 0 ∷ []) (14 ∷ 0 ∷ []) (fresh F (1 + F)) F ∷
    runs_to (lone F 7) (1 + F) (5 ∷ 0 ∷ 0 ∷ 0 ∷ []) (0 ∷ 0 ∷ []) (lone F 7) (1 + F) ∷
    -- P8
    runs_to (fresh F F) F (12 ∷ 99 ∷ 0 ∷ 0 ∷ []) (10 ∷ 0 ∷ []) (fresh F F) F ∷
    -- P9: SYMBOL 0 65, SYMBOL 0 66, for which the old symbol goes; WRAP 0 0, for which it counts
    runs_to (fresh F (1 + F)) F (2 ∷ 0 ∷ 65 ∷ 0 ∷ 2 ∷ 0 ∷ 66 ∷ 0 ∷ 3 ∷ 0 ∷ 0 ∷ 0 ∷ []) (0 ∷ 0 ∷ 0 ∷ 0 ∷ 16 ∷ 0 ∷ [])
    (lone F 66) (1 + F) ∷
    -- P10: SYMBOL 0 65, SYMBOL 1 66, JOIN 0 0 1, JOIN 1 0 1: d counts as the one operand and as the other
    runs_to (fresh F (3 + F)) F (2 ∷ 0 ∷ 65 ∷ 0 ∷ 2 ∷ 1 ∷ 66 ∷ 0 ∷ 4 ∷ 0 ∷ 0 ∷ 1 ∷ 4 ∷ 1 ∷ 0 ∷ 1 ∷ [])
    (0 ∷ 0 ∷ 0 ∷ 0 ∷ 16 ∷ 0 ∷ 16 ∷ 0 ∷ [])
    (F ∷ bracket_to F ∷ (1 + F) ∷ bracket_to (1 + F) ∷ empty_registers (F - 2) ++ (65 ∷ 0 ∷ 66 ∷ 0 ∷ 0 ∷ 0 ∷ []))
    (2 + F) ∷
    -- P11: JOIN 2 1 0 is refused while register 3 holds d's cell, and keeps d; CLEAR 3, and it is done in that place
    runs_to (fresh F (4 + F)) F p11 (0 ∷ 0 ∷ 0 ∷ 0 ∷ 0 ∷ 0 ∷ 0 ∷ 0 ∷ 16 ∷ 0 ∷ []) (p11_store F) (3 + F) ∷
    runs_to (p11_store F) (3 + F) (0 ∷ 3 ∷ 0 ∷ 0 ∷ 4 ∷ 2 ∷ 1 ∷ 0 ∷ []) (0 ∷ 0 ∷ 0 ∷ 0 ∷ [])
    (F ∷ bracket_to F ∷ (1 + F) ∷ bracket_to (1 + F) ∷ (2 + F) ∷ bracket_to (3 + F) ∷ empty_registers (F - 3) ++
    (65 ∷ 0 ∷ 66 ∷ 0 ∷ 66 ∷ 0 ∷ 65 ∷ 0 ∷ [])) (4 + F) ∷
    -- P12: JOIN 0 1 1 behind a dead symbol: 16 leaves the store collected, register 0 counted
    runs_to (two F (1 + F) ++ (70 ∷ 0 ∷ 65 ∷ 0 ∷ 66 ∷ 0 ∷ 67 ∷ 0 ∷ [])) (4 + F) (4 ∷ 0 ∷ 1 ∷ 1 ∷ []) (16 ∷ 0 ∷ [])
    (two F F ++ (65 ∷ 0 ∷ 66 ∷ 0 ∷ 67 ∷ 0 ∷ 0 ∷ 0 ∷ [])) (3 + F) ∷
    -- P13: SYMBOL 0 1, which is the least code, SYMBOL 0 0, and FIRST 0
    runs_to (fresh F (1 + F)) F (2 ∷ 0 ∷ 1 ∷ 0 ∷ 2 ∷ 0 ∷ 0 ∷ 0 ∷ 9 ∷ 0 ∷ 0 ∷ 0 ∷ []) (0 ∷ 0 ∷ 13 ∷ 0 ∷ 0 ∷ 1 ∷ [])
    (lone F 1) (1 + F) ∷
    -- P14: a wiped cell that register 0 holds, one that is dead below a symbol, and one that is free
    checks_to (lone F 0) (1 + F) (damaged_at F 4) ∷
    checks_to (empty_registers F ++ (0 ∷ 0 ∷ 65 ∷ 0 ∷ [])) (2 + F) (damaged_at F 4) ∷
    checks_to (empty_registers F ++ (65 ∷ 0 ∷ 0 ∷ 0 ∷ [])) (1 + F) (only 0) ∷
    -- P15: each rule in a register, in an occupied heap cell and in a free one; (F, B) is 3 though its left end is
    -- above its right end
    breaks F 0 F (bracket_to (1073741824 + F)) 1 ∷
    breaks F 0 65 0 2 ∷
    breaks F 0 F (bracket_to 0) 3 ∷
    breaks F 0 (1 + F) (bracket_to F) 5 ∷
    breaks F F 65 268435456 1 ∷
    breaks F F F (bracket_to 0) 3 ∷
    breaks F F 65 1 4 ∷
    breaks F F F (bracket_to F) 5 ∷
    breaks F (1 + F) 0 536870912 1 ∷
    breaks F (1 + F) 65 0 6 ∷
    -- P16: two rules at once: 1 with 2, 2 with 4, 1 with 3; 1 with 4, and with 5; 1 with 6
    breaks F 0 65 1073741824 1 ∷
    breaks F 0 0 0 2 ∷
    breaks F 0 F (bracket_to 536870912) 1 ∷
    breaks F F 0 268435456 1 ∷
    breaks F F (1 + F) (bracket_to (1073741824 + F)) 1 ∷
    breaks F (1 + F) 7 536870912 1 ∷
    -- of the rows of SCOPE 7.2: CLEAR of the last register, of one more, and with a third word of 1
    runs_to (fresh F F) F (0 ∷ (F - 1) ∷ 0 ∷ 0 ∷ 0 ∷ F ∷ 0 ∷ 0 ∷ 0 ∷ 0 ∷ 1 ∷ 0 ∷ []) (0 ∷ 0 ∷ 11 ∷ 0 ∷ 12 ∷ 0 ∷ [])
    (fresh F F) F ∷
    -- in P3: COPY 1 0, REST 2 0, OPEN 3 0, which share; and CLEAR of one register too many with a stray word, 11
    -- before 12
    runs_to (p3 F) (6 + F) (1 ∷ 1 ∷ 0 ∷ 0 ∷ 6 ∷ 2 ∷ 0 ∷ 0 ∷ 7 ∷ 3 ∷ 0 ∷ 0 ∷ 0 ∷ F ∷ 1 ∷ 0 ∷ [])
    (0 ∷ 0 ∷ 0 ∷ 0 ∷ 0 ∷ 0 ∷ 11 ∷ 0 ∷ [])
    ((4 + F) ∷ bracket_to (5 + F) ∷ (4 + F) ∷ bracket_to (5 + F) ∷ (5 + F) ∷ bracket_to (5 + F) ∷ (1 + F) ∷
    bracket_to (3 + F) ∷ empty_registers (F - 4) ++ p3_heap F) (6 + F) ∷ []

-- every row holds
abbrev pub RowsRight : ℕ → Type 0
RowsRight F = T (every (row_test F) (rows F))
