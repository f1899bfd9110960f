-- Demands 1 and 2 of a text that is typed in (SCOPE 8.1, 8.2), as Run has them of the other functions; and texts back
-- and forth: what was printed is typed in, and what was typed in is printed. In order:
--   TypedDone, Typing               what is left, where it is done and where it is refused
--   TypeMeets                       one use of `typing::type_in`
--   PrintThenType, TypeThenPrint    back and forth
-- Assumes nothing.
use Rattle.std.specs.Prelude.{◌≡◌, ◌≢◌, false, List, ◌++◌, ℕ, ◌+◌, ◌-◌, ◌≤◌, ◌<◌, length, take, replicate, Result, Ok, Err}
use Rattle.meaning.specs.Limits.{first_heap_cell}
use Rattle.meaning.specs.Sound.{capacity, Sound}
use Rattle.meaning.specs.Meaning.{meaning}
use Rattle.meaning.specs.Reach.{live}
use Rattle.meaning.specs.Text.{text}
use Rattle.meaning.specs.Lay.{all_terms}
use Rattle.meaning.specs.Call.{sought}
use Rattle.text.specs.Answers.{Prints}
use Rattle.text.specs.declared.NoText.{NoText}
use Rattle.typing.specs.Answers.{typed_in, Types}
use Rattle.typing.specs.declared.NotTyped.{NotTyped}
use Rattle.typing.specs.declared.NotTyped.TheVariants as typed
use Rattle.promises.specs.Collecting.{CollectedFrom}
use Rattle.promises.specs.Typing.{said, Whole, typed_from, TypeTable}
use Rattle.promises.specs.Holding.{OwnAlone}

-- ---- a typed text

-- done, with the `top` t: bs is the text of what it says; register d denotes that, and every other register what it
-- did; the new cells refer to one another alone, and none is shared; t is a cell for each term above the `top` of the
-- store in which room is found
pub record TypedDone (ws : List ℕ) (top d : ℕ) (bs : List ℕ) (t : ℕ) (v : List ℕ) : Type 0 where
  pub sound : Sound first_heap_cell ws top × Sound first_heap_cell v t
  pub register : d < first_heap_cell
  pub whole : Whole bs × (text (said bs) ≡ bs)
  pub denotes : meaning v d ≡ said bs
  pub others : (i : ℕ) → i < first_heap_cell → i ≢ d → meaning v i ≡ meaning ws i
  pub alone : OwnAlone d (typed_from first_heap_cell ws top d bs) (all_terms (said bs)) v
  pub new_top : t ≡ typed_from first_heap_cell ws top d bs + all_terms (said bs)

-- refused for room, it leaves the collected store and tells its `top`; refused otherwise, it leaves all as lent
abbrev pub Typing : List ℕ → ℕ → ℕ → List ℕ → Result ℕ NotTyped → List ℕ → Type 0
Typing ws top d bs (Ok t) v = TypedDone ws top d bs t v
Typing ws top d bs (Err (typed.Unsound u)) v = v ≡ ws
Typing ws top d bs (Err typed.NoRegister) v = v ≡ ws
Typing ws top d bs (Err (typed.BadText b)) v = v ≡ ws
Typing ws top d bs (Err (typed.NoRoom t)) v =
    Sound first_heap_cell ws top × (t ≡ first_heap_cell + live first_heap_cell ws top)
    × CollectedFrom first_heap_cell ws top v

abbrev pub TypeMeets : Type 0
TypeMeets =
    (ws : List ℕ) (top d : ℕ) (bs : List ℕ) (r : Result ℕ NotTyped) (v : List ℕ) → Types ws top d bs r v
    → TypeTable first_heap_cell ws top d bs (typed_in r top v) × Typing ws top d bs r v

-- ---- back and forth

-- a print that is done, its m bytes typed into register d of any sound store u with room for them: it is done, and d
-- denotes what was printed
abbrev pub PrintThenType : Type 0
PrintThenType =
    (ws : List ℕ) (top i : ℕ) (out : List ℕ) (m : ℕ) (a : List ℕ) → Prints ws top i out (Ok m) a
    → (u : List ℕ) (t d : ℕ) → Sound first_heap_cell u t → d < first_heap_cell
    → first_heap_cell + live first_heap_cell (sought false d u) t + all_terms (meaning ws i) ≤ capacity u
    → (r : Result ℕ NotTyped) (v : List ℕ) → Types u t d (take m a) r v
    → ((n : ℕ) × (r ≡ Ok n)) × (meaning v d ≡ meaning ws i)

-- a typed text that is done, printed into a space that is long enough: it is done, with the same bytes and zeros after
-- them
abbrev pub TypeThenPrint : Type 0
TypeThenPrint =
    (ws : List ℕ) (top d : ℕ) (bs : List ℕ) (t : ℕ) (v : List ℕ) → Types ws top d bs (Ok t) v
    → (out : List ℕ) → length bs ≤ length out → (r : Result ℕ NoText) (a : List ℕ) → Prints v t d out r a
    → (r ≡ Ok (length bs)) × (a ≡ bs ++ replicate (length out - length bs) 0)
