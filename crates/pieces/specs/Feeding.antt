-- The state as bytes are fed to it: the code's reader and counts as the definitions have them. Assumes nothing.
use Rattle.std.specs.Prelude.{◌≡◌, true, false, List, replicate, ℕ, suc, ◌^◌, ◌≤◌, ◌<◌, Result, Ok, Err}
use Rattle.meaning.specs.Limits.{depth_limit}
use Rattle.meaning.specs.Judge.{Move, stops, begins, grows, opens, closes, parts}
use Rattle.meaning.specs.Reader.{stop_verdict}
use Rattle.meaning.specs.Pieces as said
use Rattle.meaning.specs.Pieces.{own_next, most_next, waiting_next, next, fits, no_pieces}
use Rattle.reader.specs.Readers.{fault_of, reader_of, refused_at}
use Rattle.reader.specs.declared.judging.Fault.{Fault}
use Rattle.reader.specs.declared.BadText.{BadText}
use Rattle.pieces.specs.States.{state_of}
use Rattle.pieces.specs.declared.Pieces.{Pieces}
use Rattle.pieces.specs.declared.feeding.Level.{Level}
use Rattle.pieces.specs.declared.feeding.State.{State}
use Rattle.pieces.specs.declared.feeding.Stopped.{Stopped}

-- w are the counts of the expressions around
abbrev pub state_is : State → List ℕ → said.Pieces
state_is s w = record { place = reader_of s.place; own = s.level.own; most = s.level.most; waiting = w }

-- and the next byte is refused
abbrev pub stopped_is : Fault → State → List ℕ → said.Pieces
stopped_is f s w = next (stops (fault_of f)) (state_is s w)

-- what bytes lead to
abbrev pub fed_to : Result State Stopped → List ℕ → said.Pieces
fed_to (Ok t) w = state_is t w
fed_to (Err e) w = stopped_is e.fault e.state w

-- no byte is fed
abbrev pub Begins : State → Type 0
Begins s = state_is s (replicate depth_limit 0) ≡ no_pieces

-- a count that a move puts or asks for has a place
abbrev pub Placed : Move → ℕ → Type 0
Placed (stops s) d = Unit {0}
Placed (begins a) d = Unit {0}
Placed (grows a) d = Unit {0}
Placed opens d = d < depth_limit
Placed closes d = (0 < d) × (d ≤ depth_limit)
Placed parts d = Unit {0}

pub record CanCount (m : Move) (s : State) : Type 0 where
  pub few : suc s.level.own < 2 ^ 32
  pub placed : Placed m s.place.depth

-- the counts after it
pub record Counts (m : Move) (s : State) (w : List ℕ) (r : Level) (w' : List ℕ) : Type 0 where
  pub own : r.own ≡ own_next m (state_is s w)
  pub most : r.most ≡ most_next m (state_is s w)
  pub waiting : w' ≡ waiting_next m (state_is s w)

-- the state goes on
abbrev pub CanFeed : State → List ℕ → Type 0
CanFeed s w = fits (state_is s w) ≡ true

-- a struct that goes on is taken, or a text that ended there would be refused
abbrev pub Resumes : Pieces → Result State BadText → Type 0
Resumes s (Ok t) = (state_is t s.counts ≡ state_of s) × (fits (state_of s) ≡ true)
Resumes s (Err e) = (fits (state_of s) ≡ false) × (stop_verdict (state_of s).place ≡ refused_at e)
