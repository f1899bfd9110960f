-- Texts to try (SCOPE 7.1, T1 to T27), as one table with one test of a row. The rows are for a heap that begins at
-- cell F. Assumes nothing.
use Rattle.std.specs.Prelude.{Bool, ◌&&◌, List, [], ◌∷◌, ◌++◌, ℕ, zero, suc, ◌+◌, ◌-◌, eqb, T, replicate}
use Rattle.words.specs.Second.{bracket_to}
use Rattle.meaning.specs.Verdicts.{Verdict, valued, only, damaged_at, Done}
use Rattle.meaning.specs.Fresh.{fresh, empty_registers}
use Rattle.meaning.specs.Text.{Printed, print_in}
use Rattle.meaning.specs.Typed.{type_in}
use Rattle.meaning.specs.Rows.{every, same, verdict_test, p6, lone}

-- A store, `top`, a register and the length of the text space, then: the verdict, the length and the space. Or a store,
-- `top`, a register and a text, then: the verdict, the store and `top`.
pub data TextRow : Type 0 where
  prints : List ℕ → ℕ → ℕ → ℕ → Verdict → ℕ → List ℕ → TextRow
  types : List ℕ → ℕ → ℕ → List ℕ → Verdict → List ℕ → ℕ → TextRow

unfoldable pub print_test : Printed → Verdict → ℕ → List ℕ → Bool
print_test p v n t = verdict_test p.verdict v && eqb p.size n && same p.space t

unfoldable pub type_test : Done → Verdict → List ℕ → ℕ → Bool
type_test r v ws top = verdict_test r.verdict v && same r.words ws && eqb r.top top

unfoldable pub text_row_test : ℕ → TextRow → Bool
text_row_test F (prints ws top i n v m t) = print_test (print_in F ws top i n) v m t
text_row_test F (types ws top d bs v ws' top') = type_test (type_in F ws top d bs) v ws' top'

-- `65 (66 67) ()`, and a store with it in register 1
unfoldable pub t1 : List ℕ
t1 = 54 ∷ 53 ∷ 32 ∷ 40 ∷ 54 ∷ 54 ∷ 32 ∷ 54 ∷ 55 ∷ 41 ∷ 32 ∷ 40 ∷ 41 ∷ []

unfoldable pub t1_store : ℕ → List ℕ
t1_store F =
    empty_registers 1 ++ ((2 + F) ∷ bracket_to (4 + F) ∷ empty_registers (F - 2)) ++
    (66 ∷ 0 ∷ 67 ∷ 0 ∷ 65 ∷ 0 ∷ F ∷ bracket_to (1 + F) ∷ 0 ∷ bracket_to 0 ∷ [])

-- n brackets from cell c on, each around the one before it
abbrev pub nested : ℕ → ℕ → List ℕ
nested c zero = []
nested c (suc n) = c ∷ bracket_to c ∷ nested (suc c) n

-- an empty bracket inside n others, in register 0: its text opens n + 1 brackets, then closes them
unfoldable pub nest : ℕ → ℕ → List ℕ
nest F n = (F + n) ∷ bracket_to (F + n) ∷ empty_registers (F - 1) ++ (0 ∷ bracket_to 0 ∷ nested F n)

-- `1 (2 (3) 4) 5 ()`, and register 0 with it: 3, then 2 (3) 4, then its own four terms
unfoldable pub t11 : List ℕ
t11 = 49 ∷ 32 ∷ 40 ∷ 50 ∷ 32 ∷ 40 ∷ 51 ∷ 41 ∷ 32 ∷ 52 ∷ 41 ∷ 32 ∷ 53 ∷ 32 ∷ 40 ∷ 41 ∷ []

unfoldable pub t11_store : ℕ → List ℕ
t11_store F =
    ((4 + F) ∷ bracket_to (7 + F) ∷ empty_registers (F - 1)) ++
    (3 ∷ 0 ∷ 2 ∷ 0 ∷ F ∷ bracket_to F ∷ 4 ∷ 0 ∷ 1 ∷ 0 ∷ (1 + F) ∷ bracket_to (3 + F) ∷ 5 ∷ 0 ∷ 0 ∷ bracket_to 0 ∷ [])

-- a dead symbol and room for no other cell
unfoldable pub dead : ℕ → ℕ → List ℕ
dead F a = empty_registers F ++ (a ∷ 0 ∷ [])

-- a dead symbol, then one that register 0 holds, and room for no other cell
unfoldable pub behind : ℕ → List ℕ
behind F = (1 + F) ∷ bracket_to (1 + F) ∷ empty_registers (F - 1) ++ (70 ∷ 0 ∷ 65 ∷ 0 ∷ [])

-- one symbol that registers 0 and 1 hold
unfoldable pub held : ℕ → List ℕ
held F = F ∷ bracket_to F ∷ F ∷ bracket_to F ∷ empty_registers (F - 2) ++ (65 ∷ 0 ∷ [])

-- a text that is refused by itself, in a fresh store without room: its status and offset, and nothing changes
unfoldable pub refuses : ℕ → List ℕ → Verdict → TextRow
refuses F bs v = types (fresh F F) F 0 bs v (fresh F F) F

unfoldable pub text_rows : ℕ → List TextRow
text_rows F =
    -- T1: a space that fits to the byte, one with two bytes more, and one that is a byte short
    prints (t1_store F) (5 + F) 1 13 (only 0) 13 t1 ∷
    prints (t1_store F) (5 + F) 1 15 (only 0) 13 (t1 ++ (0 ∷ 0 ∷ [])) ∷
    prints (t1_store F) (5 + F) 1 12 (only 22) 0 (replicate 12 0) ∷
    -- T2: an empty register, in three bytes and in none
    prints (t1_store F) (5 + F) 0 3 (only 0) 0 (0 ∷ 0 ∷ 0 ∷ []) ∷
    prints (t1_store F) (5 + F) 0 0 (only 0) 0 [] ∷
    -- T3: `()`
    prints (nest F 0) (1 + F) 0 2 (only 0) 2 (40 ∷ 41 ∷ []) ∷
    -- T4: codes of nine digits, one with zeros inside, and the least code in two bytes
    prints (lone F 268435455) (1 + F) 0 9 (only 0) 9 (50 ∷ 54 ∷ 56 ∷ 52 ∷ 51 ∷ 53 ∷ 52 ∷ 53 ∷ 53 ∷ []) ∷
    prints (lone F 100000002) (1 + F) 0 9 (only 0) 9 (49 ∷ 48 ∷ 48 ∷ 48 ∷ 48 ∷ 48 ∷ 48 ∷ 48 ∷ 50 ∷ []) ∷
    prints (lone F 1) (1 + F) 0 2 (only 0) 1 (49 ∷ 0 ∷ []) ∷
    -- T5: 64 brackets, T6: 65
    prints (nest F 63) (64 + F) 0 128 (only 0) 128 (replicate 64 40 ++ replicate 64 41) ∷
    prints (nest F 64) (65 + F) 0 200 (only 21) 0 (replicate 200 0) ∷
    -- T7: the same where its 65th byte does not fit either, and where the 64th does not
    prints (nest F 64) (65 + F) 0 64 (only 21) 0 (replicate 64 0) ∷
    prints (nest F 64) (65 + F) 0 63 (only 22) 0 (replicate 63 0) ∷
    -- T8: the last register, and one that is none
    prints (t1_store F) (5 + F) (F - 1) 1 (only 0) 0 (0 ∷ []) ∷
    prints (t1_store F) (5 + F) F 1 (only 20) 0 (0 ∷ []) ∷
    -- T9: that one in a damaged store
    prints (p6 F F (2 + F)) (3 + F) F 1 (damaged_at (2 + F) 5) 0 (0 ∷ []) ∷
    -- T10: T1's text read back, the capacity exactly right; and once more, where there is no room
    types (fresh F (5 + F)) F 1 t1 (only 0) (t1_store F) (5 + F) ∷
    types (t1_store F) (5 + F) 0 t1 (only 16) (t1_store F) (5 + F) ∷
    -- T11: the order of laying; and `(1) (1)`, of which nothing is shared
    types (fresh F (8 + F)) F 0 t11 (only 0) (t11_store F) (8 + F) ∷
    types (fresh F (4 + F)) F 0 (40 ∷ 49 ∷ 41 ∷ 32 ∷ 40 ∷ 49 ∷ 41 ∷ []) (only 0)
    (((2 + F) ∷ bracket_to (3 + F) ∷ empty_registers (F - 1)) ++
    (1 ∷ 0 ∷ 1 ∷ 0 ∷ F ∷ bracket_to F ∷ (1 + F) ∷ bracket_to (1 + F) ∷ [])) (4 + F) ∷
    -- T12: the texts of T3, T4 and T5 read back
    types (fresh F (1 + F)) F 0 (40 ∷ 41 ∷ []) (only 0) (nest F 0) (1 + F) ∷
    types (fresh F (1 + F)) F 0 (50 ∷ 54 ∷ 56 ∷ 52 ∷ 51 ∷ 53 ∷ 52 ∷ 53 ∷ 53 ∷ []) (only 0) (lone F 268435455) (1 + F) ∷
    types (fresh F (1 + F)) F 0 (49 ∷ 48 ∷ 48 ∷ 48 ∷ 48 ∷ 48 ∷ 48 ∷ 48 ∷ 50 ∷ []) (only 0) (lone F 100000002) (1 + F) ∷
    types (fresh F (1 + F)) F 0 (49 ∷ []) (only 0) (lone F 1) (1 + F) ∷
    types (fresh F (64 + F)) F 0 (replicate 64 40 ++ replicate 64 41) (only 0) (nest F 63) (64 + F) ∷
    -- T13: no bytes, in a full store
    types (lone F 7) (1 + F) 0 [] (only 0) (dead F 7) (1 + F) ∷
    -- T14: 16 with the store collected, `1 1` and `9` where one dead symbol fills the heap
    types (dead F 7) (1 + F) 0 (49 ∷ 32 ∷ 49 ∷ []) (only 16) (fresh F (1 + F)) F ∷
    types (dead F 7) (1 + F) 0 (57 ∷ []) (only 0) (lone F 9) (1 + F) ∷
    refuses F (49 ∷ []) (only 16) ∷
    -- T15: the first byte: ` `, `)`, `x`; and `x` where one dead symbol fills the heap, which stays
    refuses F (32 ∷ []) (only 23) ∷
    refuses F (41 ∷ []) (only 23) ∷
    refuses F (120 ∷ []) (only 23) ∷
    types (dead F 7) (1 + F) 0 (120 ∷ []) (only 23) (dead F 7) (1 + F) ∷
    -- T16: a later one: `1)`, `1(`, `1  2`, `( )`, `(1 )`, `()1`, `)` behind `()`
    refuses F (49 ∷ 41 ∷ []) (valued 23 1) ∷
    refuses F (49 ∷ 40 ∷ []) (valued 23 1) ∷
    refuses F (49 ∷ 32 ∷ 32 ∷ 50 ∷ []) (valued 23 2) ∷
    refuses F (40 ∷ 32 ∷ 41 ∷ []) (valued 23 1) ∷
    refuses F (40 ∷ 49 ∷ 32 ∷ 41 ∷ []) (valued 23 3) ∷
    refuses F (40 ∷ 41 ∷ 49 ∷ []) (valued 23 2) ∷
    refuses F (40 ∷ 41 ∷ 41 ∷ []) (valued 23 2) ∷
    -- T17: the end comes too soon: `1 `, `(`, `(1`, `() `
    refuses F (49 ∷ 32 ∷ []) (valued 23 2) ∷
    refuses F (40 ∷ []) (valued 23 1) ∷
    refuses F (40 ∷ 49 ∷ []) (valued 23 2) ∷
    refuses F (40 ∷ 41 ∷ 32 ∷ []) (valued 23 3) ∷
    -- T18: a code over the limit: 268435456, eleven digits, and `(268435456` before the end that comes too soon
    refuses F (50 ∷ 54 ∷ 56 ∷ 52 ∷ 51 ∷ 53 ∷ 52 ∷ 53 ∷ 54 ∷ []) (valued 13 8) ∷
    refuses F (replicate 11 57) (valued 13 8) ∷
    refuses F (40 ∷ 50 ∷ 54 ∷ 56 ∷ 52 ∷ 51 ∷ 53 ∷ 52 ∷ 53 ∷ 54 ∷ []) (valued 13 9) ∷
    -- T19: 70 brackets; 64 and `1(`; 64, `() (` and 21; 64 that close, then `x`
    refuses F (replicate 70 40) (valued 21 64) ∷
    refuses F (replicate 64 40 ++ (49 ∷ 40 ∷ [])) (valued 23 65) ∷
    refuses F (replicate 64 40 ++ (41 ∷ 32 ∷ 40 ∷ 40 ∷ [])) (valued 21 67) ∷
    refuses F (replicate 64 40 ++ (replicate 64 41 ++ (120 ∷ []))) (valued 23 128) ∷
    -- T20: the last register, and one that is none
    types (fresh F (1 + F)) F (F - 1) (55 ∷ []) (only 0)
    (empty_registers (F - 1) ++ (F ∷ bracket_to F ∷ 7 ∷ 0 ∷ [])) (1 + F) ∷
    types (t1_store F) (5 + F) F (120 ∷ []) (only 20) (t1_store F) (5 + F) ∷
    -- T21: that one in a damaged store
    types (p6 F F (2 + F)) (3 + F) F (120 ∷ []) (damaged_at (2 + F) 5) (p6 F F (2 + F)) (3 + F) ∷
    -- T22: `66` where the register's old symbol fills the heap
    types (lone F 65) (1 + F) 0 (54 ∷ 54 ∷ []) (only 0) (lone F 66) (1 + F) ∷
    -- T23: the same where another register holds that symbol too
    types (held F) (1 + F) 0 (54 ∷ 54 ∷ []) (only 16) (held F) (1 + F) ∷
    -- T24: `1 2` and `1 2 3` where the old symbol and a dead one fill the heap; 16 keeps the old one and drops the dead
    types (behind F) (2 + F) 0 (49 ∷ 32 ∷ 50 ∷ []) (only 0)
    (F ∷ bracket_to (1 + F) ∷ empty_registers (F - 1) ++ (1 ∷ 0 ∷ 2 ∷ 0 ∷ [])) (2 + F) ∷
    types (behind F) (2 + F) 0 (49 ∷ 32 ∷ 50 ∷ 32 ∷ 51 ∷ []) (only 16) (lone F 65 ++ (0 ∷ 0 ∷ [])) (1 + F) ∷
    -- T25: a 0 that begins a term: `0`, `01`, `0x`, `10 0`, `(0)`, `(1 0`, `1 0 x`; and where one dead symbol fills the
    -- heap, which stays
    refuses F (48 ∷ []) (only 13) ∷
    refuses F (48 ∷ 49 ∷ []) (only 13) ∷
    refuses F (48 ∷ 120 ∷ []) (only 13) ∷
    refuses F (49 ∷ 48 ∷ 32 ∷ 48 ∷ []) (valued 13 3) ∷
    refuses F (40 ∷ 48 ∷ 41 ∷ []) (valued 13 1) ∷
    refuses F (40 ∷ 49 ∷ 32 ∷ 48 ∷ []) (valued 13 3) ∷
    refuses F (49 ∷ 32 ∷ 48 ∷ 32 ∷ 120 ∷ []) (valued 13 2) ∷
    types (dead F 7) (1 + F) 0 (48 ∷ []) (only 13) (dead F 7) (1 + F) ∷
    -- T26: a 0 that begins none: `10`, `100 20`; and behind a bracket, where no term may begin
    types (fresh F (1 + F)) F 0 (49 ∷ 48 ∷ []) (only 0) (lone F 10) (1 + F) ∷
    types (fresh F (2 + F)) F 0 (49 ∷ 48 ∷ 48 ∷ 32 ∷ 50 ∷ 48 ∷ []) (only 0)
    (F ∷ bracket_to (1 + F) ∷ empty_registers (F - 1) ++ (100 ∷ 0 ∷ 20 ∷ 0 ∷ [])) (2 + F) ∷
    refuses F (40 ∷ 41 ∷ 48 ∷ []) (valued 23 2) ∷
    -- T27: a register that holds a wiped cell is not printed, and no text is typed there
    prints (lone F 0) (1 + F) 0 2 (damaged_at F 4) 0 (0 ∷ 0 ∷ []) ∷
    types (lone F 0) (1 + F) 0 (49 ∷ []) (damaged_at F 4) (lone F 0) (1 + F) ∷ []

-- every row holds
abbrev pub TextRowsRight : ℕ → Type 0
TextRowsRight F = T (every (text_row_test F) (text_rows F))
