-- The program byte for byte, for a heap that begins at cell 16: what is read, and what is written for it (SCOPE 6).
-- Assumes nothing.
use Rattle.std.specs.Prelude.{List, [], ◌∷◌, ◌++◌, ℕ, zero, suc, T, replicate}
use Rattle.meaning.specs.Rows.{Row, writes, row_test, every}
use Rattle.promises.specs.Program.{refused_one, refused_four}

-- the line `top 16`
abbrev pub top16 : List ℕ
top16 = 116 ∷ 111 ∷ 112 ∷ 32 ∷ 49 ∷ 54 ∷ 10 ∷ []

-- the line `0 0`, n times
abbrev pub done_lines : ℕ → List ℕ
done_lines zero = []
done_lines (suc n) = 48 ∷ 32 ∷ 48 ∷ 10 ∷ done_lines n

abbrev pub zeros : ℕ → List ℕ
zeros n = replicate n 0

abbrev pub program_rows : List Row
program_rows =
    -- nothing, and three bytes
    writes [] refused_one ∷
    writes (16 ∷ 0 ∷ 0 ∷ []) refused_one ∷
    -- capacity 15, 16, 4,096, 4,097, and 16 with its bytes the other way round
    writes (15 ∷ 0 ∷ 0 ∷ 0 ∷ []) refused_one ∷
    writes (16 ∷ 0 ∷ 0 ∷ 0 ∷ []) top16 ∷
    writes (0 ∷ 16 ∷ 0 ∷ 0 ∷ []) top16 ∷
    writes (1 ∷ 16 ∷ 0 ∷ 0 ∷ []) refused_one ∷
    writes (0 ∷ 0 ∷ 0 ∷ 16 ∷ []) refused_one ∷
    -- 5, 8 and 19 bytes are a broken call, 20 are CLEAR 0, 21 are broken
    writes (20 ∷ 0 ∷ 0 ∷ 0 ∷ 0 ∷ []) refused_four ∷
    writes (20 ∷ 0 ∷ 0 ∷ 0 ∷ zeros 4) refused_four ∷
    writes (20 ∷ 0 ∷ 0 ∷ 0 ∷ zeros 15) refused_four ∷
    writes (20 ∷ 0 ∷ 0 ∷ 0 ∷ zeros 16) (done_lines 1 ++ top16) ∷
    writes (20 ∷ 0 ∷ 0 ∷ 0 ∷ zeros 17) refused_four ∷
    -- 16,388 bytes are CLEAR 0 1,024 times; 16,389 are broken, and 16,404 are whole calls, but too many
    writes (20 ∷ 0 ∷ 0 ∷ 0 ∷ zeros 16384) (done_lines 1024 ++ top16) ∷
    writes (20 ∷ 0 ∷ 0 ∷ 0 ∷ zeros 16385) refused_four ∷
    writes (20 ∷ 0 ∷ 0 ∷ 0 ∷ zeros 16400) refused_four ∷
    -- bad both ways: 1
    writes (15 ∷ 0 ∷ 0 ∷ 0 ∷ 0 ∷ []) refused_one ∷
    writes (15 ∷ 0 ∷ 0 ∷ 0 ∷ zeros 16385) refused_one ∷
    -- SYMBOL 0 16909060, FIRST 0, CLEAR 16: the lines `0 0`, `0 16909060`, `11 0`, `top 17`
    writes
    (20 ∷ 0 ∷ 0 ∷ 0 ∷
    2 ∷ 0 ∷ 0 ∷ 0 ∷ 0 ∷ 0 ∷ 0 ∷ 0 ∷ 4 ∷ 3 ∷ 2 ∷ 1 ∷ 0 ∷ 0 ∷ 0 ∷ 0 ∷
    9 ∷ 0 ∷ 0 ∷ 0 ∷ 0 ∷ 0 ∷ 0 ∷ 0 ∷ 0 ∷ 0 ∷ 0 ∷ 0 ∷ 0 ∷ 0 ∷ 0 ∷ 0 ∷
    0 ∷ 0 ∷ 0 ∷ 0 ∷ 16 ∷ 0 ∷ 0 ∷ 0 ∷ 0 ∷ 0 ∷ 0 ∷ 0 ∷ 0 ∷ 0 ∷ 0 ∷ 0 ∷ [])
    (48 ∷ 32 ∷ 48 ∷ 10 ∷
    48 ∷ 32 ∷ 49 ∷ 54 ∷ 57 ∷ 48 ∷ 57 ∷ 48 ∷ 54 ∷ 48 ∷ 10 ∷
    49 ∷ 49 ∷ 32 ∷ 48 ∷ 10 ∷
    116 ∷ 111 ∷ 112 ∷ 32 ∷ 49 ∷ 55 ∷ 10 ∷ []) ∷ []

abbrev pub ProgramRows : Type 0
ProgramRows = T (every (row_test 16) program_rows)
