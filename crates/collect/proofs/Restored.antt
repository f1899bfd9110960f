-- The sweep that packs nothing: what it leaves of a sound store is the store, and the cells that it does not count as
-- unreached are live. Assumes nothing.
use mathlib.Core.Path.{◌≡◌, refl, sym, ◌∙◌, ap}
use mathlib.Core.Bool.{false}
use mathlib.Core.List.{List}
use Prim.Native.Nat.{ℕ, ◌+◌, ◌-◌, ◌*◌, ◌^◌, ◌≤◌, ◌<◌}
use native.Mathlib.Omega.{arith}
use lib.ListN.{length, get_or}
use Rattle.words.specs.Cell.{second_word}
use Rattle.words.proofs.Laws.{decode_inj}
use Rattle.words.proofs.Cells.{words_ext}
use Rattle.meaning.specs.Limits.{first_heap_cell}
use Rattle.meaning.specs.Sound as S
use Rattle.meaning.specs.Reach.{live}
use Rattle.meaning.specs.Collected.{new}
use Rattle.meaning.proofs.collected.Determined.{new_last}
use Rattle.meaning.proofs.sound.Fields.{second_lt}
use Rattle.collect.specs.Cells.{ChainCell, cell}
use Rattle.collect.specs.Heap.{Heap}
use Rattle.collect.specs.Phases.{Sweeping}
use Rattle.collect.specs.Passes.{Sweeps}
use Rattle.collect.proofs.turn.Swept.{swept_kept}
use Rattle.collect.proofs.lower.Lowered.{fields_of}
use Rattle.collect.proofs.Heaps.{heap_of, proper, old_cell_lem, begun}

module _ (ws : List ℕ) (top : ℕ) (s : S.Sound first_heap_cell ws top) where
  abbrev some : 0 < first_heap_cell
  some = omega arith

  abbrev k : Heap
  k = heap_of first_heap_cell ws top false

  -- what the sweep leaves: no cell went up
  pub record Kept (s₁ : List ℕ) (dead : ℕ) : Type 0 where
    pub swept : Sweeping k s₁ top
    pub gone : dead + new first_heap_cell ws top top ≡ top

  pub kept : {lifts : ℕ → ℕ → Type 0} {s₁ : List ℕ} (dead : ℕ) → Sweeps ws s₁ top lifts dead
      → ((n d : ℕ) → lifts n d → d ≡ 0) → Kept s₁ dead
  kept dead w up =
      let x = w k (begun first_heap_cell ws top false some s refl up) in
      record { swept = x.0; gone = x.1 }

  module _ {s₁ : List ℕ} {dead : ℕ} (w : Kept s₁ dead) where
    pub live_is : top - first_heap_cell - dead ≡ live first_heap_cell ws top
    live_is = omega (arith, w.gone, new_last first_heap_cell ws top some s)

    pub live_low : dead ≤ top - first_heap_cell
    live_low = omega (arith, w.gone, new_last first_heap_cell ws top some s)

    pub restored : length s₁ ≡ length ws → ((i : ℕ) → get_or s₁ i 0 < 2 ^ 32) → s₁ ≡ ws
    restored len fits =
        words_ext s₁ ws len (omega (arith, s.allowed.even)) (λ c lt. ap (λ (x : ChainCell). x.l.num) (same c))
        (λ c lt. decode_inj (second_word s₁ c) (second_word ws c) (fits (2 * c + 1))
        (second_lt first_heap_cell ws top some s c)
        (ap fields_of (same c)))
      where
        same : (c : ℕ) → cell s₁ c ≡ cell ws c
        same c =
            swept_kept k (proper first_heap_cell ws top false some s) (cell s₁) w.swept.at refl c
            ∙ sym (old_cell_lem first_heap_cell ws top false some s c)
