-- Demand 2, room: the store in which a call or a typed text seeks room, by its operand registers (SCOPE 4.4, 5.8).
-- Of that store live is taken for room, and that store is collected where new cells do not fit above `top`: so say
-- Calls and Typing, which name it by its definition. In order:
--   without       the store with register d empty
--   RoomInWords   the store in which room is sought, for each that lays new cells
--   RoomNotLess   what counts for room is never more than live
-- Assumes nothing.
use Rattle.std.specs.Prelude.{◌≡◌, ◌⊎◌, ◌≢◌, false, List, ℕ, ◌≤◌, ◌<◌}
use Rattle.meaning.specs.Sound.{empty, Sound}
use Rattle.meaning.specs.Reach.{live}
use Rattle.meaning.specs.Operands.{op_at}
use Rattle.meaning.specs.Actions.{put}
use Rattle.meaning.specs.Call.{sought, sought_by}

-- the store with register d empty, so that its old expression does not count
abbrev pub without : ℕ → List ℕ → List ℕ
without d ws = put ws d empty

pub record RoomSought (ws : List ℕ) (d a b : ℕ) : Type 0 where
  -- 2 SYMBOL and typed text have no operand registers
  pub symbols : sought_by (op_at 2) d a b ws ≡ without d ws
  pub texts : sought false d ws ≡ without d ws
  -- 3 WRAP has a: where d is it, the store as it is
  pub wraps : d ≢ a → sought_by (op_at 3) d a b ws ≡ without d ws
  pub wraps_own : d ≡ a → sought_by (op_at 3) d a b ws ≡ ws
  -- 4 JOIN has a and b
  pub joins : d ≢ a → d ≢ b → sought_by (op_at 4) d a b ws ≡ without d ws
  pub joins_own : (d ≡ a) ⊎ (d ≡ b) → sought_by (op_at 4) d a b ws ≡ ws

abbrev pub RoomInWords : Type 0
RoomInWords = (ws : List ℕ) (d a b : ℕ) → RoomSought ws d a b

-- with d empty no more is reached: where there is room beside d's old expression, there is room without it
abbrev pub RoomNotLess : Type 0
RoomNotLess =
    (F : ℕ) → 0 < F → (ws : List ℕ) (top : ℕ) → Sound F ws top → (d : ℕ) → d < F
    → live F (without d ws) top ≤ live F ws top
