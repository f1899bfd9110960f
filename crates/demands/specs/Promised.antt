-- What a caller knows once a public function is back: what its contract promises, over plain lists. `Asked` and
-- `Learnt` are what Rattle reads off the contract in the lib.rt of `store`, `collect`, `calls`, `text`, `typing`,
-- `pieces` or `file`: what a caller must show, and what it may use. Each claim says that nothing is asked, and that
-- this is learnt, whatever the lifetimes κs are. ws and top are lent, r is returned, v are the words that are left.
-- Assumes nothing.
use Rattle.std.specs.Prelude.{List, ℕ, Result}
use Rattle.std.specs.Borrow.{Bor, MutBor}
use contract.Lifetimes.{Lfts}
use Rattle.meaning.specs.Limits.{first_heap_cell}
use Rattle.store.specs.Answers.{Placed, Looks, Checks, Makes}
use Rattle.store.specs.declared.Unsound.{Unsound}
use Rattle.store.specs.declared.BadLength.{BadLength}
use Rattle.store.specs.declared.Span.{Span}
use Rattle.collect.specs.Answers.{Collects}
use Rattle.collect.specs.declared.Collected.{Collected}
use Rattle.calls.specs.Answers.{Runs}
use Rattle.calls.specs.declared.NotRun.{NotRun}
use Rattle.text.specs.Answers.{Prints}
use Rattle.text.specs.declared.NoText.{NoText}
use Rattle.typing.specs.Answers.{Types}
use Rattle.typing.specs.declared.NotTyped.{NotTyped}
use Rattle.pieces.specs.States.{Starts, Feeds, Ends}
use Rattle.pieces.specs.declared.Counted.{Counted}
use Rattle.pieces.specs.declared.Pieces.{Pieces}
use Rattle.file.specs.Answers.{Loads, Saves}
use Rattle.file.specs.declared.NotLoaded.{NotLoaded}
use Rattle.file.specs.declared.Saved.{Saved}
use Rattle.file.specs.declared.NotSaved.{NotSaved}
use Rattle.store.proofs.check.Reads as check-contract
use Rattle.store.proofs.fresh.Reads as fresh-contract
use Rattle.store.proofs.look.Reads as look-contract
use Rattle.store.proofs.look_span.Reads as span-contract
use Rattle.collect.proofs.collect.Reads as collect-contract
use Rattle.calls.proofs.run.Reads as run-contract
use Rattle.text.proofs.print.Reads as print-contract
use Rattle.typing.proofs.type_in.Reads as type-contract
use Rattle.pieces.proofs.start.Reads as start-contract
use Rattle.pieces.proofs.feed.Reads as feed-contract
use Rattle.pieces.proofs.end.Reads as end-contract
use Rattle.file.proofs.load.Reads as load-contract
use Rattle.file.proofs.save.Reads as save-contract

-- a slice as it is lent, or as it is left: to be read, or to be written
abbrev pub Slice : Type 0
Slice = Bor (List ℕ)

abbrev pub MutSlice : Type 0
MutSlice = MutBor (List ℕ)

-- ---- `store::check`

abbrev pub CheckSays : Type 0
CheckSays =
    (κs : Lfts 1) (ws : Slice) (top : ℕ) → check-contract.Asked κs (ws, (top, tt))
    × ((r : Result (Unit {0}) Unsound) (v : Slice) → check-contract.Learnt κs (ws, (top, tt)) r (v, (top, tt))
    → Checks ws.now top r)

-- ---- `store::fresh`

abbrev pub FreshSays : Type 0
FreshSays =
    (κs : Lfts 1) (ws : MutSlice) → fresh-contract.Asked κs (ws, tt)
    × ((r : Result ℕ BadLength) (v : MutSlice) → fresh-contract.Learnt κs (ws, tt) r (v, tt) → Makes ws.now r v.now)

-- ---- `store::look`, at register i: the words of the part r, and where it lies; `store::look_span`, by word numbers

abbrev pub LookSays : Type 0
LookSays =
    (κs : Lfts 1) (ws : Slice) (top i : ℕ) → look-contract.Asked κs (ws, (top, (i, tt)))
    × ((r v : Slice) → look-contract.Learnt κs (ws, (top, (i, tt))) r (v, (top, (i, tt))) → Looks ws top i r)

abbrev pub SpanSays : Type 0
SpanSays =
    (κs : Lfts 1) (ws : Slice) (top i : ℕ) → span-contract.Asked κs (ws, (top, (i, tt)))
    × ((r : Span) (v : Slice) → span-contract.Learnt κs (ws, (top, (i, tt))) r (v, (top, (i, tt)))
    → Placed first_heap_cell ws.now top i r)

-- ---- `collect::collect`

abbrev pub CollectSays : Type 0
CollectSays =
    (κs : Lfts 1) (ws : MutSlice) (top : ℕ) → collect-contract.Asked κs (ws, (top, tt))
    × ((r : Result Collected Unsound) (v : MutSlice) → collect-contract.Learnt κs (ws, (top, tt)) r (v, (top, tt))
    → Collects ws.now top r v.now)

-- ---- `calls::run`, with a call list and an answer space `out`, which is left as a

abbrev pub RunSays : Type 0
RunSays =
    (κs : Lfts 3) (ws : MutSlice) (top : ℕ) (calls : Slice) (out : MutSlice)
    → run-contract.Asked κs (ws, (top, (calls, (out, tt))))
    × ((r : Result ℕ NotRun) (v : MutSlice) (c : Slice) (a : MutSlice)
    → run-contract.Learnt κs (ws, (top, (calls, (out, tt)))) r (v, (top, (c, (a, tt))))
    → Runs ws.now top calls.now out.now r v.now a.now)

-- ---- `text::print`, of register i, with a text space `out`, which is left as a

abbrev pub PrintSays : Type 0
PrintSays =
    (κs : Lfts 2) (ws : Slice) (top i : ℕ) (out : MutSlice) → print-contract.Asked κs (ws, (top, (i, (out, tt))))
    × ((r : Result ℕ NoText) (v : Slice) (a : MutSlice)
    → print-contract.Learnt κs (ws, (top, (i, (out, tt)))) r (v, (top, (i, (a, tt))))
    → Prints ws.now top i out.now r a.now)

-- ---- `typing::type_in`, into register d, with a text bs, which is only read

abbrev pub TypeSays : Type 0
TypeSays =
    (κs : Lfts 2) (ws : MutSlice) (top d : ℕ) (bs : Slice) → type-contract.Asked κs (ws, (top, (d, (bs, tt))))
    × ((r : Result ℕ NotTyped) (v : MutSlice) (b : Slice)
    → type-contract.Learnt κs (ws, (top, (d, (bs, tt)))) r (v, (top, (d, (b, tt))))
    → Types ws.now top d bs.now r v.now)

-- ---- `pieces::start`, `pieces::feed`, of a piece, which is only read, to any struct s, and `pieces::end`

abbrev pub StartSays : Type 0
StartSays =
    (κs : Lfts 0) → start-contract.Asked κs tt × ((r : Pieces) → start-contract.Learnt κs tt r tt → Starts r)

abbrev pub FeedSays : Type 0
FeedSays =
    (κs : Lfts 1) (s : Pieces) (piece : Slice) → feed-contract.Asked κs (s, (piece, tt))
    × ((r : Pieces) (b : Slice) → feed-contract.Learnt κs (s, (piece, tt)) r (s, (b, tt)) → Feeds s piece.now r)

abbrev pub EndSays : Type 0
EndSays =
    (κs : Lfts 0) (s : Pieces) → end-contract.Asked κs (s, tt)
    × ((r : Counted) → end-contract.Learnt κs (s, tt) r (s, tt) → Ends s r)

-- ---- `file::load`, of a file bs, which is only read, into the slice ws

abbrev pub LoadSays : Type 0
LoadSays =
    (κs : Lfts 2) (ws : MutSlice) (bs : Slice) → load-contract.Asked κs (ws, (bs, tt))
    × ((r : Result ℕ NotLoaded) (v : MutSlice) (b : Slice) → load-contract.Learnt κs (ws, (bs, tt)) r (v, (b, tt))
    → Loads bs.now ws.now r v.now)

-- ---- `file::save`, with a space `out`, which is left as a

abbrev pub SaveSays : Type 0
SaveSays =
    (κs : Lfts 2) (ws : MutSlice) (top : ℕ) (out : MutSlice) → save-contract.Asked κs (ws, (top, (out, tt)))
    × ((r : Result Saved NotSaved) (v a : MutSlice)
    → save-contract.Learnt κs (ws, (top, (out, tt))) r (v, (top, (a, tt)))
    → Saves ws.now top out.now r v.now a.now)
