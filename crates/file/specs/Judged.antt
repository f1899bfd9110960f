-- What the code finds of a file: its trailer, and the store in it by its occupied cells. Assumes nothing.
use Rattle.std.specs.Prelude.{◌≡◌, true, cond, List, ℕ, ◌+◌, ◌*◌, ◌^◌, ◌≤◌, ◌<◌, ltb, length, Option, Some, None}
use Rattle.std.specs.Prelude.{Result, Ok, Err}
use Rattle.words.specs.Cell.{first_word, second_word}
use Rattle.meaning.specs.Limits.{first_heap_cell}
use Rattle.meaning.specs.Sound.{at}
use Rattle.meaning.specs.Verdicts.{Verdict, only, damaged_at}
use Rattle.meaning.specs.Check.{broken_rule, damaged}
use Rattle.meaning.specs.File.{first_of, file_distance, file_cells, file_capacity, file_edition, body}
use Rattle.meaning.specs.File.{distance_test, capacity_test, check_file}
use Rattle.file.specs.Answers.{not_loaded_of}
use Rattle.file.specs.Images.{words_in, top_in}
use Rattle.file.specs.Windows.{held_from}
use Rattle.file.specs.declared.NotLoaded.{NotLoaded}
use Rattle.file.specs.declared.image.Image.{Image}
use Rattle.file.specs.declared.judging.Trailer.{Trailer}

-- the first heap cell of the stores of an edition, or that there is no such edition
abbrev pub FirstOf : ℕ → Option ℕ → Type 0
FirstOf e None = first_of e ≡ 0
FirstOf e (Some f) = (f ≡ first_of e) × (0 < f) × (f ≤ first_heap_cell)

-- the trailer of the file bs; `first` stands for the edition
pub record TrailerOf (bs : List ℕ) (t : Trailer) : Type 0 where
  pub long : 16 ≤ length bs
  pub distance : t.distance ≡ file_distance bs
  pub cells : t.cells ≡ file_cells bs
  pub capacity : t.capacity ≡ file_capacity bs
  pub first : t.first ≡ first_of (file_edition bs)
  pub kind : 0 < t.first
  pub low : t.first ≤ first_heap_cell
  pub few : t.cells < 2 ^ 32
  pub small : t.capacity < 2 ^ 32

-- the trailer, or 30 and 31, whatever slice is lent
abbrev pub Reads : List ℕ → Result Trailer NotLoaded → Type 0
Reads bs (Ok t) = TrailerOf bs t
Reads bs (Err e) = (len : ℕ) → check_file bs len ≡ not_loaded_of e

-- the store in the file bs, whose trailer is right for a slice of `len` words
pub record ImageOf (bs : List ℕ) (len : ℕ) (i : Image) : Type 0 where
  pub long : 16 ≤ length bs
  pub bytes : i.body.now ≡ body bs
  pub cells : i.cells ≡ file_cells bs
  pub first : i.first ≡ first_of (file_edition bs)
  pub kind : 0 < i.first
  pub distance : distance_test i.first bs ≡ true
  pub capacity : capacity_test i.first bs ≡ true
  pub slice : len ≡ 2 * file_capacity bs

-- the store, or 30 to 33 and 35
abbrev pub Frames : List ℕ → ℕ → Result Image NotLoaded → Type 0
Frames bs len (Ok i) = ImageOf bs len i
Frames bs len (Err e) = check_file bs len ≡ not_loaded_of e

-- the rule that cell c of a store with n heap cells breaks, or 0
abbrev pub rule_in : ℕ → ℕ → List ℕ → ℕ → ℕ
rule_in f n ws c = broken_rule f (f + n) c (first_word ws c) (second_word ws c)

-- 3 and 34 of such a store, from its occupied cells: the first damaged one, or whether each is held
unfoldable pub found_in : ℕ → ℕ → List ℕ → Verdict
found_in f n ws =
    let c = damaged f ws (f + n) 0 (f + n) in
    cond (ltb c (f + n)) (damaged_at c (rule_in f n ws c)) (cond (held_from (at ws) (f + n) f n) (only 0) (only 34))

-- no cell is damaged, or 3
abbrev pub CellsChecked : Image → Result (Unit {0}) NotLoaded → Type 0
CellsChecked i (Ok u) = damaged i.first (words_in i) (top_in i) 0 (top_in i) ≡ top_in i
CellsChecked i (Err e) = found_in i.first i.cells (words_in i) ≡ not_loaded_of e

-- the store in a file that is taken, or why the file is refused
abbrev pub Judges : List ℕ → ℕ → Result Image NotLoaded → Type 0
Judges bs len (Ok i) = ImageOf bs len i × (check_file bs len ≡ only 0)
Judges bs len (Err e) = check_file bs len ≡ not_loaded_of e
