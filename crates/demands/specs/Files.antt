-- Demands 1 and 2 of a file loaded and a store saved (SCOPE 8.1, 8.2), as Run has them of the other functions; and a
-- controller swap: what was saved is loaded, and what was loaded is saved. In order:
--   Loading, LoadMeets          what is left, where it is done and where it is refused;  one use of `file::load`
--   Saving, SaveMeets           one use of `file::save`
--   SaveThenLoad, LoadThenSave  back and forth
-- Assumes nothing.
use Rattle.std.specs.Prelude.{◌≡◌, List, ◌++◌, ℕ, ◌+◌, ◌-◌, ◌≤◌, ◌<◌, length, get_or, take, replicate, Result, Ok, Err}
use Rattle.meaning.specs.Limits.{first_heap_cell, edition}
use Rattle.meaning.specs.Sound.{Sound}
use Rattle.meaning.specs.Meaning.{meaning}
use Rattle.meaning.specs.Reach.{live}
use Rattle.meaning.specs.File.{file_distance, body}
use Rattle.file.specs.Answers.{loaded_in, saved_in, Loads, Saves}
use Rattle.file.specs.declared.NotLoaded.{NotLoaded}
use Rattle.file.specs.declared.NotLoaded.TheVariants as loaded
use Rattle.file.specs.declared.Saved.{Saved}
use Rattle.file.specs.declared.NotSaved.{NotSaved}
use Rattle.file.specs.declared.NotSaved.TheVariants as saved
use Rattle.promises.specs.Collecting.{CollectedFrom}
use Rattle.promises.specs.Files.{StoreIn, AllReached, FileIs, LoadTable, SaveTable}
use Rattle.promises.specs.Alike.{Alike}

-- ---- a file loaded

-- done, with the `top` t: v is the store in the file, sound, each of its heap cells reached; refused, it leaves all as
-- lent
abbrev pub Loading : List ℕ → List ℕ → Result ℕ NotLoaded → List ℕ → Type 0
Loading bs ws (Ok t) v =
    StoreIn first_heap_cell bs v × Sound first_heap_cell v t × AllReached first_heap_cell v t × (length v ≡ length ws)
Loading bs ws (Err loaded.ShortFile) v = v ≡ ws
Loading bs ws (Err loaded.BadEdition) v = v ≡ ws
Loading bs ws (Err loaded.BadDistance) v = v ≡ ws
Loading bs ws (Err loaded.BadCapacity) v = v ≡ ws
Loading bs ws (Err loaded.WrongSlice) v = v ≡ ws
Loading bs ws (Err (loaded.Damaged c q)) v = v ≡ ws
Loading bs ws (Err loaded.NotCollected) v = v ≡ ws

abbrev pub LoadMeets : Type 0
LoadMeets =
    (bs ws : List ℕ) (r : Result ℕ NotLoaded) (v : List ℕ) → Loads bs ws r v
    → LoadTable bs ws (loaded_in r v) × Loading bs ws r v

-- ---- a store saved

-- done, with the `top` and the length: v is the collected store, and the space a has its file and zeros after it;
-- where the space is short, v is the collected store too, and a is all zero; refused, the words are as lent
abbrev pub Saving : List ℕ → ℕ → List ℕ → Result Saved NotSaved → List ℕ → List ℕ → Type 0
Saving ws top out (Ok s) v a =
    Sound first_heap_cell ws top × (s.top ≡ first_heap_cell + live first_heap_cell ws top)
    × CollectedFrom first_heap_cell ws top v × FileIs edition first_heap_cell v s.top (take s.length a)
    × (a ≡ take s.length a ++ replicate (length out - s.length) 0)
Saving ws top out (Err (saved.ShortSpace t)) v a =
    Sound first_heap_cell ws top × (t ≡ first_heap_cell + live first_heap_cell ws top)
    × CollectedFrom first_heap_cell ws top v × (a ≡ replicate (length out) 0)
Saving ws top out (Err (saved.Unsound u)) v a = (v ≡ ws) × (a ≡ replicate (length out) 0)

abbrev pub SaveMeets : Type 0
SaveMeets =
    (ws : List ℕ) (top : ℕ) (out : List ℕ) (r : Result Saved NotSaved) (v a : List ℕ) → Saves ws top out r v a
    → SaveTable edition first_heap_cell ws top (length out) (saved_in r v top a) × Saving ws top out r v a

-- ---- back and forth

-- a store that is saved, its file of m bytes loaded after any bytes into any slice as long as it: it is done, the words
-- are those that saving left, each register denotes what it did, and the store is alike to the one that was saved
abbrev pub SaveThenLoad : Type 0
SaveThenLoad =
    (ws : List ℕ) (top : ℕ) (out : List ℕ) (t m : ℕ) (v a : List ℕ)
    → Saves ws top out (Ok (record { top = t; length = m })) v a
    → (pre lent : List ℕ) → length lent ≡ length ws → (r : Result ℕ NotLoaded) (w : List ℕ)
    → Loads (pre ++ take m a) lent r w
    → (r ≡ Ok t) × (w ≡ v) × ((i : ℕ) → i < first_heap_cell → meaning w i ≡ meaning ws i)
    × Alike first_heap_cell ws top w t

-- a file of bytes that is loaded, the store saved to a space that is long enough: it is done, with the bytes from the
-- first heap cell on and zeros after them, and no word changes
abbrev pub LoadThenSave : Type 0
LoadThenSave =
    (bs lent : List ℕ) (t : ℕ) (v : List ℕ) → ((i : ℕ) → get_or bs i 0 < 256) → Loads bs lent (Ok t) v
    → (out : List ℕ) → file_distance bs ≤ length out → (r : Result Saved NotSaved) (w a : List ℕ) → Saves v t out r w a
    → (r ≡ Ok (record { top = t; length = file_distance bs })) × (w ≡ v)
    × (a ≡ body bs ++ replicate (length out - file_distance bs) 0)
