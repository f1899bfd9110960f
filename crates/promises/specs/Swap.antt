-- Demand 2, a controller swap (SCOPE 5.9, 5.10): a store saved and loaded is the collected store, and a file loaded and
-- saved is the same bytes. e is the edition that is written, and F the first heap cell of its stores.
-- Assumes nothing.
use Rattle.std.specs.Prelude.{◌≡◌, List, ◌++◌, ℕ, ◌-◌, ◌≤◌, ◌<◌, length, get_or, take, replicate}
use Rattle.meaning.specs.Sound.{Sound}
use Rattle.meaning.specs.Meaning.{meaning}
use Rattle.meaning.specs.Collected.{collected, collected_top}
use Rattle.meaning.specs.Verdicts.{Done, done, only}
use Rattle.meaning.specs.File.{first_of, file_distance, file_edition, body, load_in, Saved, save_in}
use Rattle.promises.specs.Alike.{Alike}

-- ---- saving, then loading

-- the file in a space, after any bytes
abbrev pub file_in : List ℕ → Saved → List ℕ
file_in pre r = pre ++ take r.size r.space

-- l is what is loaded: the collected store, which saving left too; registers denote what they denoted, and the store is
-- alike to the one that was saved, so that demand 3 holds of the two
pub record Restored (F : ℕ) (ws : List ℕ) (top : ℕ) (r : Saved) (l : Done) : Type 0 where
  pub loaded : l ≡ done (collected F ws top) (collected_top F ws top) 0
  pub words : l.words ≡ r.words
  pub tops : l.top ≡ r.top
  pub registers : (i : ℕ) → i < F → meaning l.words i ≡ meaning ws i
  pub alike : Alike F ws top l.words l.top

abbrev pub SavedLoads : Type 0
SavedLoads =
    (e F : ℕ) → 0 < F → first_of e ≡ F → (ws : List ℕ) (top n : ℕ) (pre lent : List ℕ)
    → (save_in e F ws top n).verdict.status ≡ 0 → length lent ≡ length ws
    → Restored F ws top (save_in e F ws top n) (load_in (file_in pre (save_in e F ws top n)) lent)

-- ---- loading, then saving

-- a loaded store is sound, and collecting changes nothing of it
abbrev pub LoadedIsSound : Type 0
LoadedIsSound =
    (bs lent : List ℕ) → (load_in bs lent).verdict.status ≡ 0
    → Sound (first_of (file_edition bs)) (load_in bs lent).words (load_in bs lent).top
    × (collected (first_of (file_edition bs)) (load_in bs lent).words (load_in bs lent).top ≡ (load_in bs lent).words)
    × (collected_top (first_of (file_edition bs)) (load_in bs lent).words (load_in bs lent).top ≡ (load_in bs lent).top)

-- r is what is saved, to a space of n bytes: the bytes from the first heap cell on, and no word changes
pub record Rewritten (bs : List ℕ) (l : Done) (n : ℕ) (r : Saved) : Type 0 where
  pub verdict : r.verdict ≡ only 0
  pub words : r.words ≡ l.words
  pub tops : r.top ≡ l.top
  pub size : r.size ≡ file_distance bs
  pub bytes : r.space ≡ body bs ++ replicate (n - file_distance bs) 0

abbrev pub LoadedSaves : Type 0
LoadedSaves =
    (bs lent : List ℕ) (n : ℕ) → ((i : ℕ) → get_or bs i 0 < 256) → (load_in bs lent).verdict.status ≡ 0
    → file_distance bs ≤ n
    → Rewritten bs (load_in bs lent) n
    (save_in (file_edition bs) (first_of (file_edition bs)) (load_in bs lent).words (load_in bs lent).top n)
