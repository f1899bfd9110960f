-- The words of a store's registers and reached cells, once collected: its canonical words. Stores of one length are
-- collected to the same store where these are equal. Assumes nothing.
use mathlib.Core.Path.{◌≡◌, refl, sym, ap, ap₂, ◌∙◌}
use mathlib.Core.List.{List, ◌++◌}
use Prim.Native.Nat.{ℕ, ◌-◌, ◌*◌}
use native.Mathlib.Omega.{arith}
use lib.ListN.{length, replicate}
use Rattle.meaning.specs.Sound.{Cell, at}
use Rattle.meaning.specs.Reach.{reached, live}
use Rattle.meaning.specs.Collected.{map_ends, lay, up_from, new_address, collected, collected_of, collected_top, new}
use Rattle.meaning.proofs.collected.Laid.{lay_length, kept_length}

unfoldable pub canon_of : ℕ → (ℕ → Cell) → List ℕ → List ℕ
canon_of F k rs = lay (λ c. map_ends (new_address F rs) (k c)) (up_from 0 F ++ rs)

unfoldable pub canon : ℕ → List ℕ → ℕ → List ℕ
canon F ws top = canon_of F (at ws) (reached F ws top)

pub length_canon : (F : ℕ) (ws : List ℕ) (top : ℕ) → length (canon F ws top) ≡ 2 * collected_top F ws top
unfolding canon canon_of live
length_canon F ws top =
    lay_length (λ c. map_ends (new F ws top) (at ws c)) (up_from 0 F ++ reached F ws top)
    ∙ ap (λ (n : ℕ). 2 * n) (kept_length F (reached F ws top))

pub collected_canon : (F : ℕ) (ws : List ℕ) (top : ℕ)
    → collected F ws top ≡ canon F ws top ++ replicate (length ws - length (canon F ws top)) 0
unfolding collected collected_of
collected_canon F ws top = rw (length_canon F ws top) (unfold canon canon_of live in refl)

-- stores of one length with the same canonical words are collected to the same store
pub same_collected : (F : ℕ) (ws : List ℕ) (top : ℕ) (ws' : List ℕ) (top' : ℕ) → length ws ≡ length ws'
    → canon F ws top ≡ canon F ws' top'
    → (collected F ws top ≡ collected F ws' top') × (collected_top F ws top ≡ collected_top F ws' top')
same_collected F ws top ws' top' l e = (
  collected_canon F ws top ∙ (ap₂ {C = List ℕ} (λ x n. x ++ replicate (n - length x) 0) e l ∙ sym
      (collected_canon F ws' top')),
  omega (arith, length_canon F ws top, length_canon F ws' top', ap length e),
)
