-- The heap window by window. In order:
--   turn, stop, finish    cells that are held one after the other, a part of them and the rest
--   held_each, each_held  all of them are held where each is;  there and back
--   held_live             a store all of whose heap cells are held is collected
-- Assumes nothing.
use mathlib.Core.Path.{◌≡◌, refl, sym, ap, ◌∙◌, subst}
use mathlib.Core.Bool.{Bool, true, false, ◌&&◌}
use mathlib.Core.List.{List}
use Prim.Native.Nat.{ℕ, zero, suc, ◌+◌, ◌-◌, ◌≤◌, ◌<◌}
use native.Mathlib.Omega.{arith}
use lib.Dec.{eqb}
use borrow.Author.Tests.{eqb-true, eq-eqb}
use Rattle.meaning.specs.Sound.{Cell, at, Sound}
use Rattle.meaning.specs.Reach.{held_below, live}
use Rattle.meaning.proofs.Counting.{both_true}
use Rattle.meaning.proofs.collected.Held.{held_whole, whole_held}
use Rattle.file.specs.Windows.{held_from}

and_assoc : (a b c : Bool) → ((a && b) && c) ≡ (a && (b && c))
and_assoc true b c = refl
and_assoc false b c = refl

module _ (k : ℕ → Cell) (m : ℕ) where
  held_split : (x a b : ℕ) → held_from k m x (a + b) ≡ (held_from k m x a && held_from k m (x + a) b)
  held_split x zero b =
      let e : 0 + b ≡ b = omega arith in let f : x + 0 ≡ x = omega arith in rw (e, f) refl
  held_split x (suc a) b =
      let e : suc a + b ≡ suc (a + b) = omega arith in
      let f : x + suc a ≡ suc x + a = omega arith in
      rw (e, f)
      (ap (λ (t : Bool). held_below k m x && t) (held_split (suc x) a b)
      ∙ sym (and_assoc (held_below k m x) (held_from k m (suc x) a) (held_from k m (suc x + a) b)))

  -- of the cells from x up to `top`, the first n
  module _ (top x n : ℕ) (h : x + n ≤ top) where
    first_part : held_from k m x (top - x) ≡ (held_from k m x n && held_from k m (x + n) (top - (x + n)))
    first_part =
        let e : top - x ≡ n + (top - (x + n)) = omega arith in
        ap (λ (y : ℕ). held_from k m x y) e ∙ held_split x n (top - (x + n))

    pub turn : held_from k m x n ≡ true → held_from k m (x + n) (top - (x + n)) ≡ held_from k m x (top - x)
    turn e = sym (first_part ∙ ap (λ (t : Bool). t && held_from k m (x + n) (top - (x + n))) e)

    pub stop : held_from k m x n ≡ false → held_from k m x (top - x) ≡ false
    stop e = first_part ∙ ap (λ (t : Bool). t && held_from k m (x + n) (top - (x + n))) e

  pub finish : (top x : ℕ) → top ≤ x → held_from k m x (top - x) ≡ true
  finish top x h = let e : top - x ≡ 0 = omega arith in rw e refl

  -- one by one
  held_each : (x n : ℕ) → held_from k m x n ≡ true → (c : ℕ) → x ≤ c → c < x + n → held_below k m c ≡ true
  held_each x zero e c l h = absurd (omega arith)
  held_each x (suc n) e c l h =
      let q = both_true (held_below k m x) (held_from k m (suc x) n) e in
      go (c - x) refl q.0 (held_each (suc x) n q.1 c)
    where
      go : (d : ℕ) → c - x ≡ d → held_below k m x ≡ true
          → (suc x ≤ c → c < suc x + n → held_below k m c ≡ true) → held_below k m c ≡ true
      go zero f p r = let z : x ≡ c = omega arith in subst (λ (y : ℕ). held_below k m y ≡ true) z p
      go (suc d) f p r = r (omega arith) (omega arith)

  each_held : (x n : ℕ) → ((c : ℕ) → x ≤ c → c < x + n → held_below k m c ≡ true) → held_from k m x n ≡ true
  each_held x zero h = refl
  each_held x (suc n) h =
      rw (h x (omega arith) (omega arith)) (each_held (suc x) n (λ c l g. h c (omega arith) (omega arith)))

-- each heap cell of a sound store is held exactly where each is reached
pub held_live : (F n : ℕ) (ws : List ℕ) → 0 < F → Sound F ws (F + n)
    → held_from (at ws) (F + n) F n ≡ eqb (live F ws (F + n)) n
held_live F n ws p s = go (held_from (at ws) (F + n) F n) (eqb (live F ws (F + n)) n) refl refl
  where
    z : F + n - F ≡ n
    z = omega arith

    go : (t u : Bool) → held_from (at ws) (F + n) F n ≡ t → eqb (live F ws (F + n)) n ≡ u → t ≡ u
    go true u e f =
        let l = held_whole F ws (F + n) p s (held_each (at ws) (F + n) F n e) in
        sym (eq-eqb (live F ws (F + n)) n (l ∙ z)) ∙ f
    go false true e f =
        let l = eqb-true (live F ws (F + n)) n f in
        sym e ∙ each_held (at ws) (F + n) F n (whole_held F ws (F + n) p s (l ∙ sym z))
    go false false e f = refl
