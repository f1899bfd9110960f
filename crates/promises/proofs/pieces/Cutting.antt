-- However a text is cut, and after a refusal. In order:
--   start_joined, cut_anywhere   pieces are fed as what they make together
--   refused_stays                where a byte is refused, nothing changes any more
-- Assumes nothing.
use mathlib.Core.Path.{◌≡◌, sym, ap, ◌∙◌, subst}
use mathlib.Core.Logic.{◌⊎◌, inl, inr}
use mathlib.Core.List.{List, [], ◌∷◌, ◌++◌, append-nil}
use Prim.Native.Nat.{ℕ}
use Rattle.meaning.specs.Judge.{stopped}
use Rattle.meaning.specs.Reader.{Reader}
use Rattle.meaning.specs.Pieces.{Pieces, fed, fed_all, no_pieces, counted}
use Rattle.meaning.proofs.reader.Completing.{Going}
use Rattle.meaning.proofs.pieces.Cutting as cutting
use Rattle.meaning.proofs.pieces.Cutting.{going_or, fed_stopped, start_fed, start_place}
use Rattle.meaning.proofs.pieces.Agreeing.{whole_counted}
use Rattle.promises.specs.Pieces.{joined, CutAnywhere, FedAppend, RefusedStays}
use Rattle.promises.proofs.reading.Beginning.{going_may}

pub fed_append : FedAppend
fed_append = cutting.fed_append

-- behind a piece, which may have no bytes
fed_joined : (p : Pieces) (x : List ℕ) (ps : List (List ℕ)) → fed_all (fed p x) ps ≡ fed p (x ++ joined ps)
fed_joined p x [] = ap (fed p) (sym (append-nil x))
fed_joined p x (y ∷ ps) = fed_joined (fed p x) y ps ∙ sym (fed_append p x (y ++ joined ps))

pub start_joined : (ps : List (List ℕ)) → fed_all no_pieces ps ≡ fed no_pieces (joined ps)
start_joined [] = sym (start_fed [])
start_joined (x ∷ ps) = fed_joined no_pieces x ps

pub cut_anywhere : CutAnywhere
cut_anywhere ps = ap counted (start_joined ps) ∙ whole_counted (joined ps)

pub refused_stays : RefusedStays
refused_stays bs cs n = go (going_or (fed no_pieces bs).place.stand)
  where
    go : Going (fed no_pieces bs).place.stand ⊎ ((s : ℕ) × ((fed no_pieces bs).place.stand ≡ stopped s))
        → fed (fed no_pieces bs) cs ≡ fed no_pieces bs
    go (inl g) = absurd (n (going_may bs (subst (λ (r : Reader). Going r.stand) (start_place bs) g)))
    go (inr (s, e)) = fed_stopped cs s (fed no_pieces bs) e
