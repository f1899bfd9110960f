-- The rules of a cell by number, the check, and collecting alone, which refuses what it refuses (SCOPE 1.6, 5.1, 5.2,
-- 5.4). The tests are chains of `cond` in the order in which the code makes them. Assumes nothing.
use Rattle.std.specs.Prelude.{Bool, true, false, cond, ◌&&◌, List, ℕ, zero, suc, ◌-◌, ◌*◌, ◌%◌, ltb, leb, eqb, length}
use Rattle.words.specs.Cell.{first_word, second_word}
use Rattle.words.specs.Second.{stray, decode, bracket_to}
use Rattle.meaning.specs.Limits.{limit, code_test}
use Rattle.meaning.specs.Sound.{capacity}
use Rattle.meaning.specs.Reach.{live}
use Rattle.meaning.specs.Collected.{collected, collected_top}
use Rattle.meaning.specs.Verdicts.{Verdict, only, damaged_at, Done, done, refused, if_sound}

-- ---- the rules of a cell: the number of the first that the words a and b break, or 0 where they break none

-- a bracket with the ends a and r, which lie from F on and below `lim`: 3 for the form of an empty one, 5 for the ends
unfoldable pub bracket_rule : ℕ → ℕ → ℕ → ℕ → ℕ
bracket_rule F lim a r = cond (eqb r 0) (cond (eqb a 0) 0 3) (cond (leb F a && leb a r && ltb r lim) 0 5)

-- below which cell the ends of cell c lie: `top` for a register, and c itself in the heap
abbrev pub ends_below : ℕ → ℕ → ℕ → ℕ
ends_below F top c = cond (ltb c F) top c

-- cell c below `top`: 2 for a register that is no bracket, 4 for a heap cell that is neither a bracket nor a symbol
unfoldable pub below_rule : ℕ → ℕ → ℕ → ℕ → ℕ → ℕ
below_rule F top c a b =
    cond (ltb b (bracket_to 0)) (cond (ltb c F) 2 (cond (code_test a && eqb b 0) 0 4))
    (bracket_rule F (ends_below F top c) a (b - bracket_to 0))

-- cell c: 1 for a mark or a chain flag, wherever it is; 6 for words beyond `top`
unfoldable pub broken_rule : ℕ → ℕ → ℕ → ℕ → ℕ → ℕ
broken_rule F top c a b =
    cond (stray (decode b)) 1 (cond (ltb c top) (below_rule F top c a b) (cond (eqb a 0 && eqb b 0) 0 6))

-- the words a and b keep the rules of cell c
unfoldable pub cell_test : ℕ → ℕ → ℕ → ℕ → ℕ → Bool
cell_test F top c a b = eqb (broken_rule F top c a b) 0

-- ---- the check

-- the first damaged one of n cells from c on; where none is, the cell after them
abbrev pub damaged : ℕ → List ℕ → ℕ → ℕ → ℕ → ℕ
damaged F ws top c zero = c
damaged F ws top c (suc n) =
    elim (cell_test F top c (first_word ws c) (second_word ws c)) [ true ↦ damaged F ws top (suc c) n | false ↦ c ]

-- a store of n words may be
unfoldable pub length_test : ℕ → ℕ → Bool
length_test F n = cond (eqb (n % 2) 0) (cond (ltb n (2 * F)) false (leb n (2 * limit))) false

unfoldable pub top_test : ℕ → ℕ → ℕ → Bool
top_test F cells top = cond (ltb top F) false (leb top cells)

-- 3 with the damaged cell c and its rule, or 0 where c is past the last cell
unfoldable pub verdict_at : ℕ → List ℕ → ℕ → ℕ → Verdict
verdict_at F ws top c =
    cond (ltb c (capacity ws)) (damaged_at c (broken_rule F top c (first_word ws c) (second_word ws c))) (only 0)

unfoldable pub check : ℕ → List ℕ → ℕ → Verdict
check F ws top =
    cond (length_test F (length ws))
    (cond (top_test F (capacity ws) top) (verdict_at F ws top (damaged F ws top 0 (capacity ws))) (only 2))
    (only 1)

-- Collecting alone: 1 to 3 with everything as it came, or 0 with live and the new `top`.
unfoldable pub collect_in : ℕ → List ℕ → ℕ → Done
collect_in F ws top =
    if_sound (check F ws top)
    (done (collected F ws top) (collected_top F ws top) (live F ws top))
    (refused ws top (check F ws top))
