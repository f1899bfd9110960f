-- Demands 1 and 2, files (SCOPE 2.5, 5.9, 5.10): what the file of a store is, word by word, and every answer of saving
-- and loading from its table. In order:
--   word_at, FileIs, FileInWords, OneFile    the file of a store;  `file_of` alone is such
--   OneEdition                              the editions that there are
--   StoreIn, AllReached                     the store in a file;  a store that is collected
--   DistanceRule, CapacityRule, Passed      what a trailer must say: 32, 33;  30 to 35 are passed
--   LoadedAs, LoadTable, LoadAnswers        a file loaded, by cases in the table's order
--   SavedAs, SaveTable, SaveAnswers         a store saved
-- bs are the bytes of a file, f is the first heap cell of the store in it, e is an edition. Assumes nothing.
use Rattle.std.specs.Prelude.{◌≡◌, ◌≢◌, List, [], ◌∷◌, ◌++◌, ℕ, ◌+◌, ◌-◌, ◌*◌, ◌≤◌, ◌<◌, length, get_or, replicate}
use Rattle.words.specs.Cell.{first_word, second_word}
use Rattle.meaning.specs.Limits.{first_heap_cell, limit}
use Rattle.meaning.specs.Sound.{at, capacity, CellRule, Sound}
use Rattle.meaning.specs.Reach.{Reached, live}
use Rattle.meaning.specs.Verdicts.{Verdict, only, damaged_at, Done, done, refused}
use Rattle.meaning.specs.File.{first_of, file_of, file_distance, file_cells, file_capacity, file_edition, body, load_in}
use Rattle.meaning.specs.File.{Saved}
use Rattle.meaning.specs.File.{save_in}
use Rattle.promises.specs.Table.{OneOf, Not, rules, FirstOf, Judged}
use Rattle.promises.specs.Collecting.{CollectedFrom}

-- ---- the file of a store

-- word j of bytes, the lowest byte first
abbrev pub word_at : List ℕ → ℕ → ℕ
word_at bs j =
    get_or bs (4 * j) 0 + 256 * get_or bs (4 * j + 1) 0 + 65536 * get_or bs (4 * j + 2) 0 + 16777216 * get_or bs
    (4 * j + 3) 0

-- the file of a store: its heap cells from the first on, its registers, and the trailer of four words
pub record FileIs (e F : ℕ) (ws : List ℕ) (top : ℕ) (bs : List ℕ) : Type 0 where
  pub long : length bs ≡ 8 * top + 16
  pub heap : (j : ℕ) → j < 2 * (top - F) → word_at bs j ≡ get_or ws (2 * F + j) 0
  pub registers : (j : ℕ) → j < 2 * F → word_at bs (2 * (top - F) + j) ≡ get_or ws j 0
  pub distance : word_at bs (2 * top) ≡ 8 * (top - F + F) + 16
  pub cells : word_at bs (2 * top + 1) ≡ top - F
  pub size : word_at bs (2 * top + 2) ≡ capacity ws
  pub edition : word_at bs (2 * top + 3) ≡ e

abbrev pub FileInWords : Type 0
FileInWords =
    (e F : ℕ) (ws : List ℕ) (top : ℕ) → Sound F ws top → FileIs e F ws top (file_of e F ws top)

-- no other bytes are such
abbrev pub OneFile : Type 0
OneFile =
    (e F : ℕ) (ws : List ℕ) (top : ℕ) (bs : List ℕ) → Sound F ws top → ((i : ℕ) → get_or bs i 0 < 256)
    → FileIs e F ws top bs → bs ≡ file_of e F ws top

-- 1 is an edition, of stores with the first heap cell of the code's, and there is no other
abbrev pub OneEdition : Type 0
OneEdition = (e : ℕ) → (e ≡ 1 → first_of e ≡ first_heap_cell) × (e ≢ 1 → first_of e ≡ 0)

-- ---- the store in a file

-- v is the store whose file these bytes are, from the first heap cell on; its free cells are zero
pub record StoreIn (f : ℕ) (bs v : List ℕ) : Type 0 where
  pub file : FileIs (file_edition bs) f v (f + file_cells bs) (body bs)
  pub long : length v ≡ 2 * file_capacity bs
  pub free : (i : ℕ) → 2 * (f + file_cells bs) ≤ i → i < length v → get_or v i 0 ≡ 0

-- every occupied heap cell is reached
abbrev pub AllReached : ℕ → List ℕ → ℕ → Type 0
AllReached F ws top = (c : ℕ) → F ≤ c → c < top → Reached F (at ws) c

-- ---- a file loaded

-- 32: the distance is the one for its cells, and lies within the file
abbrev pub DistanceRule : ℕ → List ℕ → Type 0
DistanceRule f bs = (file_distance bs ≡ 8 * (file_cells bs + f) + 16) × (file_distance bs ≤ length bs)

-- 33: the capacity holds registers and heap cells, and is allowed
abbrev pub CapacityRule : ℕ → List ℕ → Type 0
CapacityRule f bs = (f + file_cells bs ≤ file_capacity bs) × (file_capacity bs ≤ limit)

-- 30 to 33 and 35 are passed
pub record Passed (f : ℕ) (bs ws : List ℕ) : Type 0 where
  pub long : 16 ≤ length bs
  pub kind : 0 < f
  pub distance : DistanceRule f bs
  pub room : CapacityRule f bs
  pub slice : length ws ≡ 2 * file_capacity bs

-- by what comes first
pub data LoadedAs (f : ℕ) (bs ws : List ℕ) : Done → Type 0 where
  short_file : length bs < 16 → LoadedAs f bs ws (refused ws 0 (only 30))
  bad_edition : 16 ≤ length bs → f ≡ 0 → LoadedAs f bs ws (refused ws 0 (only 31))
  bad_distance : 16 ≤ length bs → 0 < f → Not (DistanceRule f bs) → LoadedAs f bs ws (refused ws 0 (only 32))
  bad_capacity : 16 ≤ length bs → 0 < f → DistanceRule f bs → Not (CapacityRule f bs)
      → LoadedAs f bs ws (refused ws 0 (only 33))
  wrong_slice : 16 ≤ length bs → 0 < f → DistanceRule f bs → CapacityRule f bs → length ws ≢ 2 * file_capacity bs
      → LoadedAs f bs ws (refused ws 0 (only 35))
  damaged : Passed f bs ws → (v : List ℕ) → StoreIn f bs v → (c q : ℕ) → c < capacity v
      → Not (CellRule f v (f + file_cells bs) c)
      → FirstOf (rules f (f + file_cells bs) c (first_word v c) (second_word v c)) q
      → ((x : ℕ) → x < c → CellRule f v (f + file_cells bs) x) → LoadedAs f bs ws (refused ws 0 (damaged_at c q))
  not_collected : Passed f bs ws → (v : List ℕ) → StoreIn f bs v → Sound f v (f + file_cells bs)
      → Not (AllReached f v (f + file_cells bs)) → LoadedAs f bs ws (refused ws 0 (only 34))
  loaded : Passed f bs ws → (v : List ℕ) → StoreIn f bs v → Sound f v (f + file_cells bs)
      → AllReached f v (f + file_cells bs) → LoadedAs f bs ws (done v (f + file_cells bs) 0)

pub record LoadTable (bs ws : List ℕ) (r : Done) : Type 0 where
  pub number : OneOf r.verdict.status (0 ∷ 3 ∷ 30 ∷ 31 ∷ 32 ∷ 33 ∷ 34 ∷ 35 ∷ [])
  pub value : r.verdict.status ≢ 3 → r.verdict.value ≡ 0
  pub rule : r.verdict.status ≢ 3 → r.verdict.rule ≡ 0
  pub kept : r.verdict.status ≢ 0 → (r.words ≡ ws) × (r.top ≡ 0)
  pub loads : LoadedAs (first_of (file_edition bs)) bs ws r

abbrev pub LoadAnswers : Type 0
LoadAnswers = (bs ws : List ℕ) → LoadTable bs ws (load_in bs ws)

-- ---- a store saved, to a space of n bytes

pub data SavedAs (e F : ℕ) (ws : List ℕ) (top n : ℕ) : Saved → Type 0 where
  unsound : (v : Verdict) → Judged F ws top v → v.status ≢ 0
      → SavedAs e F ws top n (record { verdict = v; words = ws; top = top; size = 0; space = replicate n 0 })
  short_space : Sound F ws top → n < 8 * (F + live F ws top) + 16 → (low : List ℕ) → CollectedFrom F ws top low
      → SavedAs e F ws top n
      (record { verdict = only 22; words = low; top = F + live F ws top; size = 0; space = replicate n 0 })
  saved : Sound F ws top → (low : List ℕ) → CollectedFrom F ws top low → (bs : List ℕ)
      → FileIs e F low (F + live F ws top) bs → length bs ≤ n
      → SavedAs e F ws top n
      (record {
        verdict = only 0;
        words = low;
        top = F + live F ws top;
        size = length bs;
        space = bs ++ replicate (n - length bs) 0;
      })

pub record SaveTable (e F : ℕ) (ws : List ℕ) (top n : ℕ) (r : Saved) : Type 0 where
  pub number : OneOf r.verdict.status (0 ∷ 1 ∷ 2 ∷ 3 ∷ 22 ∷ [])
  pub value : r.verdict.status ≢ 3 → r.verdict.value ≡ 0
  pub rule : r.verdict.status ≢ 3 → r.verdict.rule ≡ 0
  -- a refusal: no length, and every byte of the space zero
  pub refused : r.verdict.status ≢ 0 → (r.size ≡ 0) × (r.space ≡ replicate n 0)
  pub saves : SavedAs e F ws top n r

abbrev pub SaveAnswers : Type 0
SaveAnswers =
    (e F : ℕ) → 0 < F → (ws : List ℕ) (top n : ℕ) → SaveTable e F ws top n (save_in e F ws top n)
