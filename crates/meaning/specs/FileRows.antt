-- Files to try (SCOPE 7.1, S1 to S8 and L1 to L13), as one table with one test of a row. The rows are of edition e,
-- for a heap that begins at cell F. Assumes nothing.
use Rattle.std.specs.Prelude.{Bool, ◌&&◌, List, [], ◌∷◌, ◌++◌, ℕ, ◌+◌, ◌-◌, ◌*◌, eqb, T, replicate, drop, set}
use Rattle.words.specs.Second.{bracket_to}
use Rattle.octets.specs.Little.{bytes_of}
use Rattle.meaning.specs.Limits.{limit}
use Rattle.meaning.specs.Verdicts.{Verdict, only, damaged_at, Done}
use Rattle.meaning.specs.Fresh.{fresh, empty_registers}
use Rattle.meaning.specs.File.{Saved, load_in, save_in}
use Rattle.meaning.specs.Rows.{every, same, verdict_test, p2, p3, lone}

-- A store, `top` and the length of the space, then: the verdict, length of the file, store, `top` and space. Or a
-- file and the slice lent for it, then: the verdict, `top` and the slice.
pub data FileRow : Type 0 where
  saves : List ℕ → ℕ → ℕ → Verdict → ℕ → List ℕ → ℕ → List ℕ → FileRow
  loads : List ℕ → List ℕ → Verdict → ℕ → List ℕ → FileRow

unfoldable pub save_test : Saved → Verdict → ℕ → List ℕ → ℕ → List ℕ → Bool
save_test r v m ws top space =
    verdict_test r.verdict v && eqb r.size m && same r.words ws && eqb r.top top && same r.space space

unfoldable pub load_test : Done → Verdict → ℕ → List ℕ → Bool
load_test r v top ws = verdict_test r.verdict v && eqb r.top top && same r.words ws

unfoldable pub file_row_test : ℕ → ℕ → FileRow → Bool
file_row_test e F (saves ws top n v m ws' top' space) = save_test (save_in e F ws top n) v m ws' top' space
file_row_test e F (loads bs ws v top ws') = load_test (load_in bs ws) v top ws'

-- n words or bytes of no meaning
unfoldable pub junk : ℕ → List ℕ
junk n = replicate n 7

-- a file without heap cells whose trailer says so: distance, number of heap cells, capacity, edition
unfoldable pub bare : ℕ → ℕ → ℕ → ℕ → ℕ → List ℕ
bare F d n cap e = bytes_of (empty_registers F ++ (d ∷ n ∷ cap ∷ e ∷ []))

-- that of a fresh store of F + 4 cells
unfoldable pub empty : ℕ → ℕ → List ℕ
empty e F = bare F (16 + 8 * F) 0 (4 + F) e

-- a file with one heap cell, of the words a and b, and with register 0 of the words l and r
unfoldable pub one : ℕ → ℕ → ℕ → ℕ → ℕ → ℕ → ℕ → List ℕ
one e F a b l r cap = bytes_of (a ∷ b ∷ l ∷ r ∷ empty_registers (F - 1) ++ ((24 + 8 * F) ∷ 1 ∷ cap ∷ e ∷ []))

-- P3's file: six heap cells, of F + 8
unfoldable pub full : ℕ → ℕ → List ℕ
full e F =
    bytes_of
    (65 ∷ 0 ∷ 66 ∷ 0 ∷ 67 ∷ 0 ∷ 68 ∷ 0 ∷ (1 + F) ∷ bracket_to (3 + F) ∷ F ∷ bracket_to (2 + F) ∷ (4 + F) ∷
    bracket_to (5 + F) ∷ empty_registers (F - 1) ++ ((64 + 8 * F) ∷ 6 ∷ (8 + F) ∷ e ∷ []))

-- P2 with a left end that lies beyond its right end, in cell F + 5
unfoldable pub broken : ℕ → List ℕ
broken F = set (p2 F) (10 + 2 * F) (7 + F)

-- a file that is refused, for a slice of n words: the slice is as lent, and `top` is 0
unfoldable pub turns_away : List ℕ → ℕ → Verdict → FileRow
turns_away bs n v = loads bs (junk n) v 0 (junk n)

unfoldable pub saving_rows : ℕ → ℕ → List FileRow
saving_rows e F =
    -- S1: a fresh store, whose file has 144 bytes where F is 16
    saves (fresh F (4 + F)) F (16 + 8 * F) (only 0) (16 + 8 * F) (fresh F (4 + F)) F (empty e F) ∷
    -- S2: P2 in a space that fits to the byte, and in one with three bytes more
    saves (p2 F) (7 + F) (64 + 8 * F) (only 0) (64 + 8 * F) (p3 F) (6 + F) (full e F) ∷
    saves (p2 F) (7 + F) (67 + 8 * F) (only 0) (64 + 8 * F) (p3 F) (6 + F) (full e F ++ (0 ∷ 0 ∷ 0 ∷ [])) ∷
    -- S3: P2 in a space that is a byte short, and in none: the store is collected
    saves (p2 F) (7 + F) (63 + 8 * F) (only 22) 0 (p3 F) (6 + F) (replicate (63 + 8 * F) 0) ∷
    saves (p2 F) (7 + F) 0 (only 22) 0 (p3 F) (6 + F) [] ∷
    -- S4: P3 again
    saves (p3 F) (6 + F) (64 + 8 * F) (only 0) (64 + 8 * F) (p3 F) (6 + F) (full e F) ∷
    -- S5: 1, and not 2; S6: 2, and not 3; S7: 3, and not 22
    saves (junk 3) 0 5 (only 1) 0 (junk 3) 0 (replicate 5 0) ∷
    saves (broken F) (9 + F) 5 (only 2) 0 (broken F) (9 + F) (replicate 5 0) ∷
    saves (broken F) (7 + F) 5 (damaged_at (5 + F) 5) 0 (broken F) (7 + F) (replicate 5 0) ∷
    -- S8: 3: a wiped cell
    saves (lone F 0) (1 + F) 5 (damaged_at F 4) 0 (lone F 0) (1 + F) (replicate 5 0) ∷ []

unfoldable pub loading_rows : ℕ → ℕ → List FileRow
loading_rows e F =
    -- L1: the files of S1 and S2
    loads (empty e F) (junk (8 + 2 * F)) (only 0) F (fresh F (4 + F)) ∷
    loads (full e F) (junk (16 + 2 * F)) (only 0) (6 + F) (p3 F) ∷
    -- L2: five bytes before the file
    loads (junk 5 ++ full e F) (junk (16 + 2 * F)) (only 0) (6 + F) (p3 F) ∷
    -- L3: 30: no byte, and 15, of which no word is an edition's
    turns_away [] 40 (only 30) ∷
    turns_away (junk 15) 40 (only 30) ∷
    -- L4: 31: a trailer alone, another edition, and edition 0 with a wrong distance, 31 before 32
    turns_away (junk 16) 40 (only 31) ∷
    turns_away (bare F (16 + 8 * F) 0 (4 + F) (1 + e)) (8 + 2 * F) (only 31) ∷
    turns_away (bare F (15 + 8 * F) 0 (4 + F) 0) (8 + 2 * F) (only 31) ∷
    -- L5: 32: one too few, and one too many; a file that is a cell short of it, and a byte; no bytes but the trailer
    turns_away (bare F (15 + 8 * F) 0 (4 + F) e) (8 + 2 * F) (only 32) ∷
    turns_away (bare F (17 + 8 * F) 0 (4 + F) e) (8 + 2 * F) (only 32) ∷
    turns_away (bare F (24 + 8 * F) 1 (4 + F) e) (8 + 2 * F) (only 32) ∷
    turns_away (drop 1 (empty e F)) (8 + 2 * F) (only 32) ∷
    turns_away (bytes_of ((16 + 8 * F) ∷ 0 ∷ (4 + F) ∷ e ∷ [])) (8 + 2 * F) (only 32) ∷
    -- L6: 32 without a wrap at 2 to the 32: too many cells by 2 to the 29, and the largest distance there is; and with
    -- a capacity that is too small, 32 before 33
    turns_away (bare F (16 + 8 * F) 536870912 (4 + F) e) (8 + 2 * F) (only 32) ∷
    turns_away (bare F 4294967288 (536870909 - F) (4 + F) e) (8 + 2 * F) (only 32) ∷
    turns_away (bare F (15 + 8 * F) 0 (F - 1) e) (8 + 2 * F) (only 32) ∷
    -- L7: 33: too small, too large, too small for its cell; and with a slice of another length, 33 before 35
    turns_away (bare F (16 + 8 * F) 0 (F - 1) e) (2 * F - 2) (only 33) ∷
    turns_away (bare F (16 + 8 * F) 0 (1 + limit) e) 40 (only 33) ∷
    turns_away (one e F 65 0 F (bracket_to F) F) (2 * F) (only 33) ∷
    turns_away (one e F 65 0 F (bracket_to F) F) 40 (only 33) ∷
    -- L8: 35: two words too many, and one too few; and with a damaged cell, 35 before 3
    turns_away (empty e F) (10 + 2 * F) (only 35) ∷
    turns_away (empty e F) (7 + 2 * F) (only 35) ∷
    turns_away (one e F 65 1 F (bracket_to F) (1 + F)) (2 * F) (only 35) ∷
    -- L9: 3: a heap cell, a register, the register where both are
    turns_away (one e F 65 1 F (bracket_to F) (1 + F)) (2 + 2 * F) (damaged_at F 4) ∷
    turns_away (one e F 65 0 (1 + F) (bracket_to (1 + F)) (1 + F)) (2 + 2 * F) (damaged_at 0 5) ∷
    turns_away (one e F 65 1 F F (1 + F)) (2 + 2 * F) (damaged_at 0 2) ∷
    -- L10: 3 before 34: the damaged heap cell is not reached either
    turns_away (one e F 65 1 0 (bracket_to 0) (1 + F)) (2 + 2 * F) (damaged_at F 4) ∷
    -- L11: 34, and L12: the same cell held
    turns_away (one e F 65 0 0 (bracket_to 0) (1 + F)) (2 + 2 * F) (only 34) ∷
    loads (one e F 65 0 F (bracket_to F) (1 + F)) (junk (2 + 2 * F)) (only 0) (1 + F) (lone F 65) ∷
    -- L13: 3: a wiped cell, held, and not held, 3 before 34; and the least code
    turns_away (one e F 0 0 F (bracket_to F) (1 + F)) (2 + 2 * F) (damaged_at F 4) ∷
    turns_away (one e F 0 0 0 (bracket_to 0) (1 + F)) (2 + 2 * F) (damaged_at F 4) ∷
    loads (one e F 1 0 F (bracket_to F) (1 + F)) (junk (2 + 2 * F)) (only 0) (1 + F) (lone F 1) ∷ []

-- every row holds
abbrev pub FileRowsRight : ℕ → ℕ → Type 0
FileRowsRight e F = T (every (file_row_test e F) (saving_rows e F ++ loading_rows e F))
