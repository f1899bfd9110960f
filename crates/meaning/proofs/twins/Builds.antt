-- The actions that lay new cells, where there is room: what SYMBOL, WRAP and JOIN do in a store, they do in that
-- store collected. In order:
--   room'                              where there is room in a store, there is in that store collected
--   symbol_same, wrap_same, run_same   SYMBOL, WRAP and JOIN
-- Assumes nothing.
use mathlib.Core.Path.{◌≡◌, refl, sym, ap, ◌∙◌}
use mathlib.Core.Logic.{◌⊎◌, inl, inr}
use mathlib.Core.List.{List}
use Prim.Native.Nat.{ℕ, suc, ◌+◌, ◌-◌, ◌*◌, ◌≤◌, ◌<◌}
use native.Mathlib.Nat.{le_trans, not-suc-le-zero}
use native.Mathlib.Omega.{arith}
use lib.ListN.{length}
use Rattle.meaning.specs.Sound.{IsCode, Cell, code, empty, ends, at, Sound, size}
use Rattle.meaning.specs.Reach.{reached}
use Rattle.meaning.specs.Collected.{map_ends, collected, collected_top, new}
use Rattle.meaning.specs.Verdicts.{done}
use Rattle.meaning.specs.Actions.{put, copies, new_symbol, new_bracket, new_run_of, new_run}
use Rattle.meaning.proofs.Lists.{lt_or_ge, In, asc_in}
use Rattle.meaning.proofs.sound.Cells.{good, TermIn, BracketIn, term_of_bracket}
use Rattle.meaning.proofs.meaning.Terms.{Along}
use Rattle.meaning.proofs.reach.Reaching.{live_le, reached_asc, reached_below}
use Rattle.meaning.proofs.collected.Collecting.{at_register, at_new, length_collected}
use Rattle.meaning.proofs.actions.Writing.{copy_put, at_put}
use Rattle.meaning.proofs.actions.Laying.{Extends, extends_put, Both, both, both_of}
use Rattle.meaning.proofs.twins.Canons.{canon}
use Rattle.meaning.proofs.twins.Pairs.{sound', along_register, along_heap, Kept, far, old_along, new_both}
use Rattle.meaning.proofs.twins.Agree.{Agree, size_moved, moved_in}

module _ (F : ℕ) (ws : List ℕ) (top : ℕ) (p : 0 < F) (s : Sound F ws top) where
  abbrev ws' : List ℕ
  ws' = collected F ws top

  abbrev top' : ℕ
  top' = collected_top F ws top

  abbrev P : ℕ → Type 0
  P c = In c (reached F ws top)

  abbrev s' : Sound F ws' top'
  s' = sound' F ws top p s

  low' : top' ≤ top
  low' = live_le F ws top p s

  pub room' : (n : ℕ) → 2 * (top + n) ≤ length ws → 2 * (top' + n) ≤ length ws'
  room' n h = omega (arith, low', length_collected F ws top p s)

  -- one new cell in both
  one_agree : (d : ℕ) → d < F → (b b' : Cell) → TermIn F top b → TermIn F top' b' → Along P (new F ws top) b
      → b' ≡ map_ends (new F ws top) b
      → 2 * (top + 1) ≤ length ws
      → Agree F (done (put (put ws top b) d (ends top top)) (suc top) 0)
      (done (put (put ws' top' b') d (ends top' top')) (suc top') 0)
  one_agree d l b b' t t' a e r =
      let z : top + 1 ≡ suc top = omega arith in
      let z' : top' + 1 ≡ suc top' = omega arith in
      let y : top + 1 - 1 ≡ top = omega arith in
      let y' : top' + 1 - 1 ≡ top' = omega arith in
      let x : Extends F ws top (put ws top b) (top + 1) = rw z (extends_put F ws top p s (omega arith) b t) in
      let x' : Extends F ws' top' (put ws' top' b') (top' + 1) =
      rw z' (extends_put F ws' top' p s' (omega (arith, room' 1 r)) b' t') in
      let c : canon F (put (put ws top b) d (ends top (top + 1 - 1))) (top + 1)
      ≡ canon F (put (put ws' top' b') d (ends top' (top' + 1 - 1))) (top' + 1) =
      new_both F ws top p s 1 (put ws top b) (put ws' top' b') x x'
      (λ j h. let u : top + j ≡ top = omega arith in let u' : top' + j ≡ top' = omega arith in
      rw (u, u', at_put ws top b F top p (omega arith) t, at_put ws' top' b' F top' p (omega (arith, room' 1 r)) t')
      (old_along F ws top p s 1 top b b' t a e)) d l (omega arith) in
      record { verdict = refl; same = rw (y, y', z, z') at c }

  pub symbol_same : (d a : ℕ) → d < F → IsCode a → 2 * (top + 1) ≤ length ws
      → Agree F (new_symbol d a ws top) (new_symbol d a (collected F ws top) (collected_top F ws top))
  unfolding new_symbol
  symbol_same d a l h r = one_agree d l (code a) (code a) h h tt refl r

  pub wrap_same : (d a : ℕ) → d < F → a < F → 2 * (top + 1) ≤ length ws
      → Agree F (new_bracket d a ws top) (new_bracket d a (collected F ws top) (collected_top F ws top))
  unfolding new_bracket
  wrap_same d a l h r =
      rw (copy_put F ws top top a p s (le_trans h s.low), copy_put F ws' top' top' a p s' (le_trans h s'.low))
      (one_agree d l (at ws a) (at ws' a) (term_of_bracket F top (at ws a) ((good F ws top p s).regs a h))
      (term_of_bracket F top' (at ws' a) ((good F ws' top' p s').regs a h))
      (along_register F ws top p s a h) (at_register F ws top p s a h) r)

  -- ---- JOIN

  -- a copy of the reached cell c at y, and of its new place at y'
  copy_laid : (m : ℕ) (v v' : List ℕ) (y y' c c' : ℕ) → In c (reached F ws top) → new F ws top c ≡ c'
      → at v y ≡ at ws c → at v' y' ≡ at ws' c'
      → Along (Kept F ws top p s m) (far F ws top p s m) (at v y)
      × (at v' y' ≡ map_ends (far F ws top p s m) (at v y))
  copy_laid m v v' y y' c c' i z e e' =
      let g = (good F ws top p s).heap c (asc_in F c (reached F ws top) (reached_asc F ws top p s) i)
      (reached_below F ws top p s c i) in
      rw (e, e') (old_along F ws top p s m c (at ws c) (at ws' c') g (along_heap F ws top p s c i)
      (ap (λ (q : ℕ). at ws' q) (sym z) ∙ at_new F ws top p s c i))

  -- two runs, from l to r and from x to y, and their new places
  module _ (l r x y : ℕ) (t : BracketIn F top (ends l r)) (u : BracketIn F top (ends x y))
      (a : Along P (new F ws top) (ends l r)) (b : Along P (new F ws top) (ends x y))
      (h : 2 * (top + ((suc r - l) + (suc y - x))) ≤ length ws) where
    abbrev n : ℕ
    n = suc r - l

    abbrev k : ℕ
    k = suc y - x

    abbrev v : List ℕ
    v = copies (copies ws top l n) (top + n) x k

    abbrev v' : List ℕ
    v' = copies (copies ws' top' (new F ws top l) n) (top' + n) (new F ws top x) k

    size_l : suc (new F ws top r) - new F ws top l ≡ n
    size_l = size_moved F ws top p s top (ends l r) t a

    size_x : suc (new F ws top y) - new F ws top x ≡ k
    size_x = size_moved F ws top p s top (ends x y) u b

    runs : Both F ws top l n x k v
    runs = both_of F ws top l r x y p s t u h

    runs' : Both F ws' top' (new F ws top l) n (new F ws top x) k v'
    runs' =
        let t' = moved_in F ws top p s top l r t a in
        let u' = moved_in F ws top p s top x y u b in
        both F ws' top' (new F ws top l) n (new F ws top x) k p s' t'.0 (omega (arith, t'.1, t'.2, size_l))
        u'.0 (omega (arith, u'.1, u'.2, size_x)) (room' (n + k) h)

    laid : (j : ℕ) → j < n + k → (j < n) ⊎ (n ≤ j)
        → Along (Kept F ws top p s (n + k)) (far F ws top p s (n + k)) (at v (top + j))
        × (at v' (top' + j) ≡ map_ends (far F ws top p s (n + k)) (at v (top + j)))
    laid j m (inl g) =
        let q = a j (omega arith) in
        copy_laid (n + k) v v' (top + j) (top' + j) (l + j) (new F ws top l + j) q.0 q.1 (runs.one j g)
        (runs'.one j g)
    laid j m (inr g) =
        let i : ℕ = j - n in
        let e : n + i ≡ j = omega arith in
        let q = b i (omega arith) in
        copy_laid (n + k) v v' (top + j) (top' + j) (x + i) (new F ws top x + i) q.0 q.1
        (rw e at (runs.two i (omega arith))) (rw e at (runs'.two i (omega arith)))

    runs_agree : (d : ℕ) → d < F → 0 < n
        → Agree F (new_run_of d (ends l r) (ends x y) ws top)
        (new_run_of d (map_ends (new F ws top) (ends l r)) (map_ends (new F ws top) (ends x y)) ws' top')
    unfolding new_run_of
    runs_agree d hd z =
        rw (size_l, size_x)
        (record {
          verdict = refl;
          same = new_both F ws top p s (n + k) v v' runs.more runs'.more (λ j m. laid j m (lt_or_ge j n)) d hd
              (omega arith);
        })

  run_agree : (d : ℕ) → d < F → (x y : Cell) → BracketIn F top x → BracketIn F top y → Along P (new F ws top) x
      → Along P (new F ws top) y
      → 0 < size x → 0 < size y → 2 * (top + (size x + size y)) ≤ length ws
      → Agree F (new_run_of d x y ws top) (new_run_of d (map_ends (new F ws top) x) (map_ends (new F ws top) y)
      ws' top')
  run_agree d l (code c) y t u a b z w r = absurd t
  run_agree d l empty y t u a b z w r = absurd (not-suc-le-zero z)
  run_agree d l (ends x₁ x₂) (code c) t u a b z w r = absurd u
  run_agree d l (ends x₁ x₂) empty t u a b z w r = absurd (not-suc-le-zero w)
  run_agree d l (ends x₁ x₂) (ends y₁ y₂) t u a b z w r = runs_agree x₁ x₂ y₁ y₂ t u a b r d l z

  pub run_same : (d a b : ℕ) → d < F → a < F → b < F → 0 < size (at ws a) → 0 < size (at ws b)
      → 2 * (top + (size (at ws a) + size (at ws b))) ≤ length ws
      → Agree F (new_run d a b ws top) (new_run d a b (collected F ws top) (collected_top F ws top))
  unfolding new_run
  run_same d a b l ha hb za zb r =
      rw (at_register F ws top p s a ha, at_register F ws top p s b hb)
      (run_agree d l (at ws a) (at ws b) ((good F ws top p s).regs a ha) ((good F ws top p s).regs b hb)
      (along_register F ws top p s a ha) (along_register F ws top p s b hb) za zb r)
