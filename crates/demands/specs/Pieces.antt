-- Demands 1 and 2 of a text that arrives in pieces (SCOPE 5.11; 8.1, 8.2), with the contracts of `pieces::start`,
-- `pieces::feed` and `pieces::end` alone as premises. In order:
--   FedBy                      a struct goes from piece to piece
--   PiecesCount, PiecesAlike   however a text is cut, the end is that of the whole, and the struct the same
--   RefusedForGood             after a refusal no field changes
--   EndTable, EndMeets         the end of any struct
--   FeedsAppend                any struct is fed a piece as it is fed its parts
--   PiecesThenType             what the end says of a text is what typing it in answers
-- Assumes nothing.
use Rattle.std.specs.Prelude.{◌≡◌, ◌≢◌, List, [], ◌∷◌, ◌++◌, ℕ, ◌≤◌, ◌<◌, Result}
use Rattle.meaning.specs.Limits.{first_heap_cell, terms_limit}
use Rattle.meaning.specs.Sound.{Sound}
use Rattle.typing.specs.Answers.{typed_in, Types}
use Rattle.typing.specs.declared.NotTyped.{NotTyped}
use Rattle.pieces.specs.States.{count_is, Starts, Feeds, Ends}
use Rattle.pieces.specs.declared.Counted.{Counted}
use Rattle.pieces.specs.declared.Pieces.{Pieces}
use Rattle.promises.specs.Table.{Not, OneOf}
use Rattle.promises.specs.Reading.{MayBegin}
use Rattle.promises.specs.Pieces.{joined, CountTable, Told}

-- s is fed these pieces, one after the other, and t comes back
pub data FedBy : Pieces → List (List ℕ) → Pieces → Type 0 where
  none : (s : Pieces) → FedBy s [] s
  more : (s r t : Pieces) (x : List ℕ) (ps : List (List ℕ)) → Feeds s x r → FedBy r ps t → FedBy s (x ∷ ps) t

-- ---- from the start

abbrev pub PiecesCount : Type 0
PiecesCount =
    (s r : Pieces) (ps : List (List ℕ)) (c : Counted) → Starts s → FedBy s ps r → Ends r c
    → CountTable (joined ps) (count_is c)

-- every field of the struct and of the answer
abbrev pub PiecesAlike : Type 0
PiecesAlike =
    (s r : Pieces) (ps : List (List ℕ)) (c : Counted) → Starts s → FedBy s ps r → Ends r c
    → (s' r' : Pieces) (qs : List (List ℕ)) (c' : Counted) → Starts s' → FedBy s' qs r' → Ends r' c'
    → joined ps ≡ joined qs → (r ≡ r') × (c ≡ c')

abbrev pub RefusedForGood : Type 0
RefusedForGood =
    (s r t : Pieces) (ps : List (List ℕ)) (x : List ℕ) → Starts s → FedBy s ps r → Not (MayBegin (joined ps))
    → Feeds r x t → t ≡ r

-- ---- of any struct

-- done, it has its own counts, which are within their limits; refused, its own offset and no count
pub record EndTable (s : Pieces) (c : Counted) : Type 0 where
  pub number : OneOf c.status (0 ∷ 13 ∷ 21 ∷ 23 ∷ 24 ∷ [])
  pub done : c.status ≡ 0 → (c.value ≡ 0) × (c.terms ≡ s.terms) × (c.most ≡ s.most)
  pub within : (c.most ≤ c.terms) × (c.terms ≤ terms_limit)
  pub refused : c.status ≢ 0 → (c.value ≡ s.offset) × (c.terms ≡ 0) × (c.most ≡ 0)

abbrev pub EndMeets : Type 0
EndMeets = (s : Pieces) (c : Counted) → Ends s c → EndTable s c

abbrev pub FeedsAppend : Type 0
FeedsAppend = (s r t : Pieces) (xs ys : List ℕ) → Feeds s xs r → Feeds r ys t → Feeds s (xs ++ ys) t

-- ---- what it is for

-- typed into a register of a sound store, the text is refused alike, or done exactly where its terms have room
abbrev pub PiecesThenType : Type 0
PiecesThenType =
    (s r : Pieces) (ps : List (List ℕ)) (c : Counted) → Starts s → FedBy s ps r → Ends r c
    → (ws : List ℕ) (top d : ℕ) → Sound first_heap_cell ws top → d < first_heap_cell
    → (a : Result ℕ NotTyped) (v : List ℕ) → Types ws top d (joined ps) a v
    → Told first_heap_cell ws top d (count_is c) (typed_in a top v).verdict
