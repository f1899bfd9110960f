-- The contents of a register of a sound store. In order:
--   bracket_in          a register is a bracket whose ends lie in the heap, below `top`
--   readable            its words may be read as a bracket's
--   is_empty, is_full   by its run: empty, or a bracket with ends
--   first_in            the first cell of a run that is not empty is an occupied heap cell
--   run_below           its run ends below `top`
-- Assumes nothing.
use mathlib.Core.Path.{◌≡◌, refl, sym, ◌∙◌, subst}
use mathlib.Core.Logic.{◌≢◌}
use mathlib.Core.List.{List}
use Prim.Native.Nat.{ℕ, suc, ◌+◌, ◌-◌, ◌*◌, ◌≤◌, ◌<◌}
use native.Mathlib.Omega.{arith}
use lib.ListN.{length}
use Rattle.meaning.specs.Limits.{first_heap_cell}
use Rattle.meaning.specs.Sound.{Cell, code, empty, ends, at, Sound, start, size}
use Rattle.meaning.proofs.sound.Cells.{BracketIn, good}
use Rattle.store.specs.Holds.{Bracketed, RunIs}
use Rattle.store.specs.declared.Run.{Run}
use Rattle.store.proofs.Sounds.{first_heap_cell_pos, register_bracketed, register_inside}

pub bracket_in : {ws : List ℕ} {top i : ℕ} → Sound first_heap_cell ws top → i < first_heap_cell
    → BracketIn first_heap_cell top (at ws i)
bracket_in {ws} {top} {i} s h = (good first_heap_cell ws top first_heap_cell_pos s).regs i h

-- its words may be read as a bracket's
pub readable : {ws : List ℕ} {top i : ℕ} → Sound first_heap_cell ws top → i < first_heap_cell
    → (2 * i + 1 < length ws) × Bracketed ws i
readable {ws} {top} {i} s h = (register_inside ws top s i h, register_bracketed ws top s i h)

end_below : (F lim : ℕ) (k : Cell) → BracketIn F lim k → start k + size k ≤ lim
end_below F lim (code a) t = absurd t
end_below F lim empty t = omega arith
end_below F lim (ends l r) t = omega (arith, t.1, t.2)

-- by its run: empty, or a bracket with ends
empty_cell : (F lim : ℕ) (k : Cell) → BracketIn F lim k → size k ≡ 0 → k ≡ empty
empty_cell F lim (code a) t e = absurd t
empty_cell F lim empty t e = refl
empty_cell F lim (ends l r) t e = absurd (omega (arith, t.1))

full_cell : (F lim : ℕ) (k : Cell) → BracketIn F lim k → size k ≢ 0 → k ≡ ends (start k) (start k + size k - 1)
full_cell F lim (code a) t n = absurd t
full_cell F lim empty t n = absurd (n refl)
full_cell F lim (ends l r) t n = let e : l + (suc r - l) - 1 ≡ r = omega (arith, t.1) in rw e refl

module _ {ws : List ℕ} {top : ℕ} (i : ℕ) (r : Run) (s : Sound first_heap_cell ws top) (h : i < first_heap_cell)
    (k : RunIs r (at ws i)) where
  pub is_empty_lem : r.size ≡ 0 → at ws i ≡ empty
  is_empty_lem e = empty_cell first_heap_cell top (at ws i) (bracket_in s h) (sym k.1 ∙ e)

  pub is_full_lem : r.size ≢ 0 → at ws i ≡ ends r.start (r.start + r.size - 1)
  is_full_lem n = rw (k.0, k.1) (full_cell first_heap_cell top (at ws i) (bracket_in s h) (λ e. n (k.1 ∙ e)))

  -- the first cell of a run that is not empty
  pub first_in : r.size ≢ 0 → (first_heap_cell ≤ r.start) × (r.start < top)
  first_in n =
      let t = subst (λ (b : Cell). BracketIn first_heap_cell top b) (is_full_lem n) (bracket_in s h) in
      (t.0, omega (arith, t.1, t.2))

pub run_below : {ws : List ℕ} {top : ℕ} (i : ℕ) → Sound first_heap_cell ws top → i < first_heap_cell
    → start (at ws i) + size (at ws i) ≤ top
run_below {ws} {top} i s h = end_below first_heap_cell top (at ws i) (bracket_in s h)
