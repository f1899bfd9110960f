-- What making room leaves, for a call that needs n new cells in a sound store ws and seeks room in the store v.
-- Assumes nothing.
use Rattle.std.specs.Prelude.{◌≡◌, Bool, true, List, ℕ, ◌+◌, ◌*◌, ◌≤◌, ◌<◌, length, Result, Ok, Err}
use Rattle.meaning.specs.Limits.{first_heap_cell}
use Rattle.meaning.specs.Sound.{Sound, capacity}
use Rattle.meaning.specs.Meaning.{meaning}
use Rattle.meaning.specs.Verdicts.{Done, refused, only}
use Rattle.meaning.specs.Call.{with_room}
use Rattle.build.specs.declared.room.NoRoom.{NoRoom}

-- the words of a sound store, whatever its `top` is
abbrev pub SoundWords : List ℕ → Type 0
SoundWords ws = (top : ℕ) × Sound first_heap_cell ws top

-- a sound store with room for n new cells
abbrev pub Roomy : ℕ → List ℕ → ℕ → Type 0
Roomy n ws top = Sound first_heap_cell ws top × (2 * (top + n) ≤ length ws)

-- the call's action, where there is room; else 16
abbrev pub room_then : Result ℕ NoRoom → List ℕ → (List ℕ → ℕ → Done) → Done
room_then (Ok t) ws act = act ws t
room_then (Err e) ws act = refused ws e.top (only 16)

abbrev pub ReadyFor : ℕ → Result ℕ NoRoom → List ℕ → Type 0
ReadyFor n (Ok t) ws = Roomy n ws t
ReadyFor n (Err e) ws = Unit {0}

-- the store whose expressions are kept: the one in which room is sought, where there is room; else the store itself
abbrev pub kept_of : Result ℕ NoRoom → List ℕ → List ℕ → List ℕ
kept_of (Ok t) v ws = v
kept_of (Err e) v ws = ws

pub record RoomMade (n : ℕ) (v ws : List ℕ) (top : ℕ) (r : Result ℕ NoRoom) (ws' : List ℕ) : Type 0 where
  -- whatever the call's action is, it is carried out as the rule for room says
  pub does : (act : List ℕ → ℕ → Done) → with_room first_heap_cell n v act ws top ≡ room_then r ws' act
  pub ready : ReadyFor n r ws'
  pub denote : (i : ℕ) → i < first_heap_cell → meaning ws' i ≡ meaning (kept_of r v ws) i

-- n cells are to be laid from t on in the store v, which is the store itself or the store collected; one test says
-- whether there is room for them
pub record Sought (n : ℕ) (ws : List ℕ) (top : ℕ) (v : List ℕ) (t : ℕ) : Type 0 where
  pub small : t ≤ top
  pub ready : t + n ≤ capacity ws → RoomMade n ws ws top (Ok t) v
  pub lacking : capacity ws < t + n → RoomMade n ws ws top (Err (record { top = t })) v

-- register i is not d, or d is kept: the store in which room is sought has its expression
abbrev pub Survives : Bool → ℕ → ℕ → Type 0
Survives kept d i = i ≡ d → kept ≡ true
