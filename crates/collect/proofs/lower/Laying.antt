-- A cell put down with its ends lower: a bracket with contents anew, by its ends, any other by its own two words.
-- Assumes nothing.
use mathlib.Core.Path.{◌≡◌, refl, ap, ◌∙◌}
use mathlib.Core.Bool.{Bool, true, false, ◌&&◌}
use mathlib.Core.List.{List}
use Prim.Native.Nat.{ℕ, ◌-◌}
use native.Mathlib.Omega.{arith}
use Rattle.words.specs.Cell.{put_cell}
use Rattle.words.specs.Second.{Second, decode, bracket_to, full_word}
use Rattle.words.proofs.Laws.{ri_lt}
use Rattle.words.proofs.Plain.{decode_bracket}
use Rattle.collect.specs.Cells.{linked}
use Rattle.collect.specs.Step.{lowered}
use Rattle.collect.specs.Lowering.{Layable, Lays}
use Rattle.collect.proofs.Puts.{cell_put, cell_put_other}

and_left : (a b : Bool) → (a && b) ≡ true → a ≡ true
and_left true b e = refl
and_left false b e = e

module _ {s : List ℕ} {to a w d : ℕ} (o : Layable s to a w d) where
  unmarked : (decode w).used ≡ false
  unmarked = ap (λ (t : Second). t.used) o.bare

  full_lower : full_word w ≡ true
      → linked (a - d) (decode (bracket_to ((decode w).ri - d))) ≡ lowered d (linked a (decode w))
  unfolding lowered
  full_lower f =
      let e = decode_bracket ((decode w).ri - d) (omega (arith, ri_lt w)) in
      rw (e, f, unmarked, and_left (decode w).br _ f)

  other_lower : full_word w ≡ false → linked a (decode w) ≡ lowered d (linked a (decode w))
  unfolding lowered
  other_lower f = rw (f, ap (λ (t : Second). t.lc) o.bare, ap (λ (t : Second). t.rc) o.bare)

  pub lays_full : full_word w ≡ true → Lays s (put_cell s to (a - d) (bracket_to ((decode w).ri - d))) to a w d
  lays_full f =
      let v : ℕ = bracket_to ((decode w).ri - d) in
      record {
        at = cell_put s to (a - d) v o.to_in ∙ full_lower f;
        rest = λ c n. cell_put_other s to (a - d) v c n;
      }

  pub lays_other : full_word w ≡ false → Lays s (put_cell s to a w) to a w d
  lays_other f = record {
    at = cell_put s to a w o.to_in ∙ other_lower f;
    rest = λ c n. cell_put_other s to a w c n;
  }
