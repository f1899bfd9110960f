-- An expression laid in new cells, where there is room: what that does in a store, it does in that store collected. New
-- cells refer to new cells only, so that they lie in the one as in the other, further down. Assumes nothing.
use mathlib.Core.Path.{◌≡◌, refl}
use mathlib.Core.List.{List}
use Prim.Native.Nat.{ℕ, zero, suc, ◌+◌, ◌-◌, ◌*◌, ◌≤◌, ◌<◌}
use native.Mathlib.Nat.{le_refl}
use native.Mathlib.Omega.{arith}
use lib.ListN.{length}
use Rattle.meaning.specs.Expr.{Expr, terms}
use Rattle.meaning.specs.Sound.{Cell, at, Sound}
use Rattle.meaning.specs.Collected.{map_ends, collected, collected_top}
use Rattle.meaning.specs.Lay.{all_terms, last_below, laid, puts, new_cells}
use Rattle.meaning.proofs.meaning.Terms.{Along}
use Rattle.meaning.proofs.lay.Places.{laid_length}
use Rattle.meaning.proofs.lay.Each.{Coded, laid_each, terms_le}
use Rattle.meaning.proofs.lay.Denoting.{each_at, laid_more, laid_at, laid_in}
use Rattle.meaning.proofs.twins.Pairs.{sound', Kept, far, new_along, new_register}
use Rattle.meaning.proofs.twins.Agree.{Agree}
use Rattle.meaning.proofs.twins.Builds.{room'}

module _ (F : ℕ) (ws : List ℕ) (top : ℕ) (p : 0 < F) (s : Sound F ws top) (e : Expr) (q : Coded e)
    (r : 2 * (top + all_terms e) ≤ length ws) where
  abbrev ws' : List ℕ
  ws' = collected F ws top

  abbrev top' : ℕ
  top' = collected_top F ws top

  abbrev s' : Sound F ws' top'
  s' = sound' F ws top p s

  abbrev n : ℕ
  n = all_terms e

  r' : 2 * (top' + n) ≤ length ws'
  r' = room' F ws top p s n r

  abbrev Moved : ℕ → Cell → Cell → Type 0
  Moved x b b' = Along (Kept F ws top p s n) (far F ws top p s n) b × (b' ≡ map_ends (far F ws top p s n) b)

  last_moved : (x c c' k : ℕ) → top + k ≤ c → c + top' ≡ c' + top → c ≤ top + n
      → Moved x (last_below c k) (last_below c' k)
  last_moved x c c' zero h m l = (tt, refl)
  last_moved x c c' (suc k) h m l =
      new_along F ws top p s n (c - suc k) (c - 1) (c' - suc k) (c' - 1) (omega arith) (omega arith) (omega arith)
      (omega arith) (omega arith)

  cell_moved : (j : ℕ) → j < n
      → Moved (top + j) (at (puts ws top (laid top e)) (top + j)) (at (puts ws' top' (laid top' e)) (top' + j))
  cell_moved j h =
      rw (laid_at F p ws top s e q r j h, laid_at F p ws' top' s' e q r' j h)
      (each_at Moved top (laid top e) (laid top' e)
      (laid_each top top' n Moved (λ c a u. (tt, refl)) (λ x c c' k u m g l. last_moved x c c' k u m (omega arith)) e q
      top top' (le_refl top) (omega arith) (le_refl (top + n))) j (omega (arith, laid_length top e)))

  pub text_same : (d : ℕ) → d < F → Agree F (new_cells d e ws top) (new_cells d e ws' top')
  unfolding new_cells
  text_same d l =
      let b = last_moved top (top + n) (top' + n) (terms e) (omega (arith, terms_le e)) (omega arith) (omega arith) in
      record {
        verdict = refl;
        same = new_register F ws top p s n (puts ws top (laid top e)) (puts ws' top' (laid top' e))
            (laid_more F p ws top s e q r) (laid_more F p ws' top' s' e q r') cell_moved d l
            (last_below (top + n) (terms e)) (last_below (top' + n) (terms e)) (laid_in F p ws top s e q r)
            (laid_in F p ws' top' s' e q r') b.0 b.1;
      }
