-- A store as a file: its bytes, a file loaded, a store saved (SCOPE 2.5, 5.9, 5.10).
-- A file has the heap cells of a collected store from the first on, then its register cells, then a trailer of four
-- words: the distance in bytes from the end of the file back to the first heap cell, the number of heap cells, the
-- capacity and the edition. All words are little-endian. Bytes before the first heap cell are ignored.
-- bs are the bytes of a file, f is the first heap cell of the store in it, e is an edition. Assumes nothing.
use Rattle.std.specs.Prelude.{Bool, false, cond, List, [], ◌∷◌, ◌++◌, ℕ, ◌+◌, ◌-◌, ◌*◌, ltb, leb, eqb, length, get_or}
use Rattle.std.specs.Prelude.{take, drop}
use Rattle.octets.specs.Little.{words_of, bytes_of}
use Rattle.octets.specs.Space.{filled}
use Rattle.meaning.specs.Limits.{limit, kinds}
use Rattle.meaning.specs.Sound.{capacity}
use Rattle.meaning.specs.Reach.{live}
use Rattle.meaning.specs.Collected.{collected, collected_top}
use Rattle.meaning.specs.Verdicts.{Verdict, only, Done, if_sound}
use Rattle.meaning.specs.Check.{check}

-- ---- the bytes of a file

-- the first heap cell of the stores in files of an edition; 0 where there is no such edition
unfoldable pub first_of : ℕ → ℕ
first_of e = get_or kinds e 0

-- the distance, where there are n heap cells and F registers: two words a cell, and the four words of the trailer
abbrev pub distance_for : ℕ → ℕ → ℕ
distance_for F n = 8 * (n + F) + 16

-- the file of a collected store
unfoldable pub file_words : ℕ → ℕ → List ℕ → ℕ → List ℕ
file_words e F ws top =
    take (2 * (top - F)) (drop (2 * F) ws)
    ++ (take (2 * F) ws ++ (distance_for F (top - F) ∷ (top - F) ∷ capacity ws ∷ e ∷ []))

unfoldable pub file_of : ℕ → ℕ → List ℕ → ℕ → List ℕ
file_of e F ws top = bytes_of (file_words e F ws top)

-- ---- the store in a file

-- the four words of the trailer
unfoldable pub trailer : List ℕ → List ℕ
trailer bs = words_of (drop (length bs - 16) bs)

abbrev pub file_distance : List ℕ → ℕ
file_distance bs = get_or (trailer bs) 0 0

abbrev pub file_cells : List ℕ → ℕ
file_cells bs = get_or (trailer bs) 1 0

abbrev pub file_capacity : List ℕ → ℕ
file_capacity bs = get_or (trailer bs) 2 0

abbrev pub file_edition : List ℕ → ℕ
file_edition bs = get_or (trailer bs) 3 0

-- the bytes from the first heap cell on
abbrev pub body : List ℕ → List ℕ
body bs = drop (length bs - file_distance bs) bs

-- the occupied cells of a store in the order of their addresses, from words in which its n heap cells come first
unfoldable pub cells_in : ℕ → ℕ → List ℕ → List ℕ
cells_in f n ws = take (2 * f) (drop (2 * n) ws) ++ take (2 * n) ws

-- the store: its occupied cells, and zeros up to the capacity
unfoldable pub image : ℕ → List ℕ → List ℕ
image f bs = filled (2 * file_capacity bs) (cells_in f (file_cells bs) (words_of (body bs)))

-- ---- a file loaded: 30 to 33, 35, 3, 34 in this order

-- 32: the distance is the one for its cells, and lies within the file
unfoldable pub distance_test : ℕ → List ℕ → Bool
distance_test f bs =
    cond (eqb (file_distance bs) (distance_for f (file_cells bs))) (leb (file_distance bs) (length bs)) false

-- 33: the capacity holds the cells and is allowed
unfoldable pub capacity_test : ℕ → List ℕ → Bool
capacity_test f bs = cond (leb (f + file_cells bs) (file_capacity bs)) (leb (file_capacity bs) limit) false

-- 3 and 34: a store with n heap cells is sound, by the check of a lent one, and each of them is reached
unfoldable pub check_store : ℕ → List ℕ → ℕ → Verdict
check_store f ws n =
    if_sound (check f ws (f + n)) (cond (eqb (live f ws (f + n)) n) (only 0) (only 34)) (check f ws (f + n))

-- 31 to 34, where the edition has stores whose first heap cell is f, and a slice of `len` words is lent
unfoldable pub check_as : ℕ → List ℕ → ℕ → Verdict
check_as f bs len =
    cond (eqb f 0) (only 31)
    (cond (distance_test f bs)
    (cond (capacity_test f bs)
    (cond (eqb len (2 * file_capacity bs)) (check_store f (image f bs) (file_cells bs)) (only 35))
    (only 33))
    (only 32))

unfoldable pub check_file : List ℕ → ℕ → Verdict
check_file bs len = cond (ltb (length bs) 16) (only 30) (check_as (first_of (file_edition bs)) bs len)

-- into a slice: the store in the file with its `top`, or a refusal with the slice as lent and `top` 0
unfoldable pub load_in : List ℕ → List ℕ → Done
load_in bs ws =
    let f = first_of (file_edition bs) in
    let v = check_file bs (length ws) in
    record { verdict = v; words = if_sound v (image f bs) ws; top = if_sound v (f + file_cells bs) 0 }

-- ---- a store saved: 1 to 3, else it is collected; then 22

-- what saving answers: a verdict, the store and `top` as they are left, the length of the file, and the space lent for
-- it as it is left, every byte of it
pub record Saved : Type 0 where
  pub verdict : Verdict
  pub words : List ℕ
  pub top : ℕ
  pub size : ℕ
  pub space : List ℕ

-- refused: length 0, and n bytes that are all zero
abbrev pub unsaved : Verdict → List ℕ → ℕ → ℕ → Saved
unsaved v ws top n = record { verdict = v; words = ws; top = top; size = 0; space = filled n [] }

-- the file bs of a store in a space of n bytes: zeros after it, or 22
unfoldable pub saved_as : List ℕ → List ℕ → ℕ → ℕ → Saved
saved_as bs ws top n =
    cond (leb (length bs) n)
    (record { verdict = only 0; words = ws; top = top; size = length bs; space = filled n bs })
    (unsaved (only 22) ws top n)

unfoldable pub save_in : ℕ → ℕ → List ℕ → ℕ → ℕ → Saved
save_in e F ws top n =
    let low = collected F ws top in
    let end = collected_top F ws top in
    if_sound (check F ws top) (saved_as (file_of e F low end) low end n) (unsaved (check F ws top) ws top n)
