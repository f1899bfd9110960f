-- Texts in pieces to try (SCOPE 7.1, C1 to C12), as one table with one test of a row. Assumes nothing.
use Rattle.std.specs.Prelude.{Bool, ◌&&◌, List, [], ◌∷◌, ℕ, eqb, T, replicate}
use Rattle.meaning.specs.Verdicts.{Verdict, valued, only}
use Rattle.meaning.specs.Judge.{Stand, begun, spaced, number, closed}
use Rattle.meaning.specs.Reader.{reader}
use Rattle.meaning.specs.Pieces.{Count, Pieces, fed_all, no_pieces, counted}
use Rattle.meaning.specs.Rows.{every, verdict_test}
use Rattle.meaning.specs.TextRows.{t1, t11}

-- a state and the pieces that are fed to it, then what the end gives: the verdict, the terms on all levels, the most of
-- one level
pub data PieceRow : Type 0 where
  ends : Pieces → List (List ℕ) → Verdict → ℕ → ℕ → PieceRow

unfoldable pub count_test : Count → Verdict → ℕ → ℕ → Bool
count_test c v n m = verdict_test c.verdict v && eqb c.need n && eqb c.most m

unfoldable pub piece_row_test : PieceRow → Bool
piece_row_test (ends p ps v n m) = count_test (counted (fed_all p ps)) v n m

-- a text from its start
unfoldable pub text : List (List ℕ) → Verdict → ℕ → ℕ → PieceRow
text ps v n m = ends no_pieces ps v n m

-- a byte a piece
abbrev pub bytewise : List ℕ → List (List ℕ)
bytewise [] = []
bytewise (b ∷ bs) = (b ∷ []) ∷ bytewise bs

-- after `1 ` has come 65,535 times
unfoldable pub many : Pieces
many = record { place = reader spaced 131070 0 65535; own = 65535; most = 65535; waiting = replicate 64 0 }

-- after 64 opening brackets, and `1 ` 65,472 times: 65,536 terms
unfoldable pub deepest : Pieces
deepest = record { place = reader spaced 131008 64 65536; own = 65472; most = 65472; waiting = replicate 64 1 }

-- numbers to which no text leads: where the reader stands, the offset, the brackets, the terms, those of the level, the
-- most, and one count for all levels around
unfoldable pub odd : Stand → ℕ → ℕ → ℕ → ℕ → ℕ → ℕ → Pieces
odd s n d t o m w = record { place = reader s n d t; own = o; most = m; waiting = replicate 64 w }

unfoldable pub piece_rows : List PieceRow
piece_rows =
    -- C1: no piece, and one of no bytes
    text [] (only 0) 0 0 ∷
    text ([] ∷ []) (only 0) 0 0 ∷
    -- C2: T1's text whole; as `65 (6`, nothing, `6 67) (` and `)`; a byte a piece
    text (t1 ∷ []) (only 0) 5 3 ∷
    text ((54 ∷ 53 ∷ 32 ∷ 40 ∷ 54 ∷ []) ∷ [] ∷ (54 ∷ 32 ∷ 54 ∷ 55 ∷ 41 ∷ 32 ∷ 40 ∷ []) ∷ (41 ∷ []) ∷ []) (only 0) 5 3 ∷
    text (bytewise t1) (only 0) 5 3 ∷
    -- C3: T11's text; `(1 2 3) 4` as `(1 2` and ` 3) 4`; `((1 2))`, a byte a piece
    text (t11 ∷ []) (only 0) 8 4 ∷
    text ((40 ∷ 49 ∷ 32 ∷ 50 ∷ []) ∷ (32 ∷ 51 ∷ 41 ∷ 32 ∷ 52 ∷ []) ∷ []) (only 0) 5 3 ∷
    text (bytewise (40 ∷ 40 ∷ 49 ∷ 32 ∷ 50 ∷ 41 ∷ 41 ∷ [])) (only 0) 4 2 ∷
    -- C4: 268435455 and 268435456, cut before the last digit
    text ((50 ∷ 54 ∷ 56 ∷ 52 ∷ 51 ∷ 53 ∷ 52 ∷ 53 ∷ []) ∷ (53 ∷ []) ∷ []) (only 0) 1 1 ∷
    text ((50 ∷ 54 ∷ 56 ∷ 52 ∷ 51 ∷ 53 ∷ 52 ∷ 53 ∷ []) ∷ (54 ∷ []) ∷ []) (valued 13 8) 0 0 ∷
    -- C5: `(1 `, nothing, `2)` and `)`;  `1 ` and `0`
    text ((40 ∷ 49 ∷ 32 ∷ []) ∷ [] ∷ (50 ∷ 41 ∷ []) ∷ (41 ∷ []) ∷ []) (valued 23 5) 0 0 ∷
    text ((49 ∷ 32 ∷ []) ∷ (48 ∷ []) ∷ []) (valued 13 2) 0 0 ∷
    -- C6: the end comes too soon: `1` and ` `;  `(` and `1`
    text ((49 ∷ []) ∷ (32 ∷ []) ∷ []) (valued 23 2) 0 0 ∷
    text ((40 ∷ []) ∷ (49 ∷ []) ∷ []) (valued 23 2) 0 0 ∷
    -- C7: pieces behind a byte that is refused: `1)`, then ` 2` and `x`;  `0`, then `(`
    text ((49 ∷ 41 ∷ []) ∷ (32 ∷ 50 ∷ []) ∷ (120 ∷ []) ∷ []) (valued 23 1) 0 0 ∷
    text ((48 ∷ []) ∷ (40 ∷ []) ∷ []) (valued 13 0) 0 0 ∷
    -- C8: 64 brackets, opened by one piece and closed by another; a 65th by the second piece
    text (replicate 64 40 ∷ replicate 64 41 ∷ []) (only 0) 64 1 ∷
    text (replicate 64 40 ∷ (40 ∷ []) ∷ []) (valued 21 64) 0 0 ∷
    -- C9: behind 65,535 terms `1`;  `()`;  `1`, then ` `
    ends many ((49 ∷ []) ∷ []) (only 0) 65536 65536 ∷
    ends many ((40 ∷ []) ∷ (41 ∷ []) ∷ []) (only 0) 65536 65536 ∷
    ends many ((49 ∷ []) ∷ (32 ∷ []) ∷ []) (valued 23 131072) 0 0 ∷
    -- C10: `1`, then ` 1`;  `1 0`;  `1 (`;  `((`;  and `0` for the last term that may be
    ends many ((49 ∷ []) ∷ (32 ∷ 49 ∷ []) ∷ []) (valued 24 131072) 0 0 ∷
    ends many ((49 ∷ 32 ∷ 48 ∷ []) ∷ []) (valued 24 131072) 0 0 ∷
    ends many ((49 ∷ 32 ∷ 40 ∷ []) ∷ []) (valued 24 131072) 0 0 ∷
    ends many ((40 ∷ 40 ∷ []) ∷ []) (valued 24 131071) 0 0 ∷
    ends many ((48 ∷ []) ∷ []) (valued 13 131070) 0 0 ∷
    -- C11: with 65,536 terms and 64 brackets open `(`;  `1`;  `0`;  `x`
    ends deepest ((40 ∷ []) ∷ []) (valued 21 131008) 0 0 ∷
    ends deepest ((49 ∷ []) ∷ []) (valued 24 131008) 0 0 ∷
    ends deepest ((48 ∷ []) ∷ []) (valued 24 131008) 0 0 ∷
    ends deepest ((120 ∷ []) ∷ []) (valued 23 131008) 0 0 ∷
    -- C12: `)` to numbers to which no text leads: 65 brackets; 65,537 terms; more terms at one level, of the most or
    -- around it than there are; an offset too far for them; a code too large
    ends (odd begun 70 65 66 0 1 1) ((41 ∷ []) ∷ []) (valued 23 70) 0 0 ∷
    ends (odd begun 70 1 65537 0 1 1) ((41 ∷ []) ∷ []) (valued 23 70) 0 0 ∷
    ends (odd closed 7 1 3 4 3 1) ((41 ∷ []) ∷ []) (valued 23 7) 0 0 ∷
    ends (odd closed 7 1 3 1 4 1) ((41 ∷ []) ∷ []) (valued 23 7) 0 0 ∷
    ends (odd closed 7 1 3 1 3 4) ((41 ∷ []) ∷ []) (valued 23 7) 0 0 ∷
    ends (odd closed 805306368 1 3 1 3 1) ((41 ∷ []) ∷ []) (valued 23 805306368) 0 0 ∷
    ends (odd (number 268435456) 7 1 3 1 3 1) ((41 ∷ []) ∷ []) (valued 23 7) 0 0 ∷
    []

abbrev pub PieceRowsRight : Type 0
PieceRowsRight = T (every piece_row_test piece_rows)
