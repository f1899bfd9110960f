-- A cell's rules as src/cells.rt tests them, with no branch: `bracket_test`, and `term_test` by it; and that a test
-- says yes exactly where no rule is broken: `register_right`, `heap_right`, `free_right`. Assumes nothing.
use mathlib.Core.Path.{◌≡◌, refl, subst}
use mathlib.Core.Logic.{◌⊎◌, inl, inr, ◌↔◌}
use mathlib.Core.Bool.{Bool, true, ◌&&◌, ◌||◌, or-true}
use Prim.Native.Nat.{ℕ, ◌-◌, ◌^◌, ◌≤◌, ◌<◌}
use native.Mathlib.Omega.{arith}
use lib.Dec.{ltb, leb, eqb}
use lib.Bits.{bit_xor}
use borrow.Author.Tests.{leb-true, le-leb, ltb-true, lt-ltb, eqb-true, eq-eqb}
use Rattle.words.specs.Second.{bracket_to}
use Rattle.words.proofs.Laws.{bit_flag}
use Rattle.words.proofs.Masks.{xor_bit}
use Rattle.meaning.specs.Limits.{code_test}
use Rattle.meaning.specs.Sound.{IsBracket, is_empty, is_full, IsTerm, is_symbol, is_bracket}
use Rattle.meaning.specs.Check.{broken_rule}
use Rattle.meaning.proofs.Lists.{lt_or_ge}
use Rattle.meaning.proofs.Counting.{both_true}
use Rattle.meaning.proofs.reach.Reaching.{or_cases}
use Rattle.meaning.proofs.check.Rules.{free, none_kept, kept_rule, register_kept, kept_register, heap_kept, kept_heap}
use Rattle.meaning.proofs.check.Rules.{kept_free}

-- the bracket bit turned over: what is left is a bracket's right end, and of any other word more than an address
module _ (b : ℕ) (w : b < 2 ^ 32) where
  end_of : 2 ^ 31 ≤ b → bit_xor b (bracket_to 0) ≡ b - bracket_to 0
  end_of h = omega (arith, xor_bit 31 b, bit_flag 31 b)

  no_end : b < 2 ^ 31 → 2 ^ 31 ≤ bit_xor b (bracket_to 0)
  no_end h = omega (arith, xor_bit 31 b, bit_flag 31 b)

abbrev bracket_ok : ℕ → ℕ → ℕ → ℕ → Bool
bracket_ok F lim a b =
    eqb b (bracket_to 0) && eqb a 0
    || leb F a && leb a (bit_xor b (bracket_to 0)) && ltb (bit_xor b (bracket_to 0)) lim

pub bracket_test : (F lim a b : ℕ) → b < 2 ^ 32 → lim < 2 ^ 31 → (bracket_ok F lim a b ≡ true) ↔ IsBracket F lim a b
bracket_test F lim a b w fits = (λ e. go (or_cases _ _ e), λ k. back w k)
  where
    go : ((eqb b (bracket_to 0) && eqb a 0) ≡ true)
        ⊎ ((leb F a && leb a (bit_xor b (bracket_to 0)) && ltb (bit_xor b (bracket_to 0)) lim) ≡ true)
        → IsBracket F lim a b
    go (inl e) =
        let y = both_true (eqb b (bracket_to 0)) (eqb a 0) e in
        rw (eqb-true b (bracket_to 0) y.0, eqb-true a 0 y.1) is_empty
    go (inr e) =
        let x = both_true (leb F a && leb a (bit_xor b (bracket_to 0))) (ltb (bit_xor b (bracket_to 0)) lim) e in
        let y = both_true (leb F a) (leb a (bit_xor b (bracket_to 0))) x.0 in
        full (lt_or_ge b (2 ^ 31)) (leb-true _ _ y.0) (leb-true _ _ y.1) (ltb-true _ _ x.1)
      where
        full : (b < 2 ^ 31) ⊎ (2 ^ 31 ≤ b) → F ≤ a → a ≤ bit_xor b (bracket_to 0) → bit_xor b (bracket_to 0) < lim
            → IsBracket F lim a b
        full (inl h) f g l = absurd (omega (arith, no_end b w h))
        full (inr h) f g l =
            let z : bracket_to (bit_xor b (bracket_to 0)) ≡ b = omega (arith, end_of b w h) in
            subst (λ (v : ℕ). IsBracket F lim a v) z (is_full f g l)

    back : {x y : ℕ} → y < 2 ^ 32 → IsBracket F lim x y → bracket_ok F lim x y ≡ true
    back v is_empty = refl
    back v (is_full {l} {r} f g h) =
        let e : bit_xor (bracket_to r) (bracket_to 0) ≡ r = omega (arith, end_of (bracket_to r) v (omega arith)) in
        rw (e, le-leb F l f, le-leb l r g, lt-ltb r lim h) (or-true (eqb (bracket_to r) (bracket_to 0) && eqb l 0))

-- r is the test of a bracket
pub term_test : (F c a b : ℕ) (r : Bool) → (r ≡ true) ↔ IsBracket F c a b
    → ((eqb b 0 && code_test a || r) ≡ true) ↔ IsTerm F c a b
term_test F c a b r q = (λ e. go (or_cases _ _ e), λ k. back k (λ h. q.1 h))
  where
    go : ((eqb b 0 && code_test a) ≡ true) ⊎ (r ≡ true) → IsTerm F c a b
    go (inl e) = let y = both_true (eqb b 0) (code_test a) e in rw (eqb-true b 0 y.0) (is_symbol y.1)
    go (inr e) = is_bracket (q.0 e)

    back : {x y : ℕ} → IsTerm F c x y → (IsBracket F c x y → r ≡ true) → (eqb y 0 && code_test x || r) ≡ true
    back (is_symbol h) f = rw h refl
    back (is_bracket {a = x} {b = y} h) f = rw (f h) (or-true (eqb y 0 && code_test x))

-- ---- no rule is broken

module _ (F top c a b : ℕ) (m : top ≤ 268435456) where
  pub register_right : (r : Bool) → c < top → c < F → (r ≡ true) ↔ IsBracket F top a b
      → (r ≡ true) ↔ (broken_rule F top c a b ≡ 0)
  register_right r h l q = (
    λ e. kept_rule F top c m (register_kept F top c h l (q.0 e)),
    λ z. q.1 (kept_register F top c h l (none_kept F top c a b z)),
  )

  pub heap_right : (r : Bool) → c < top → F ≤ c → (r ≡ true) ↔ IsTerm F c a b
      → (r ≡ true) ↔ (broken_rule F top c a b ≡ 0)
  heap_right r h l q = (
    λ e. kept_rule F top c m (heap_kept F top c h l (q.0 e)),
    λ z. q.1 (kept_heap F top c h l (none_kept F top c a b z)),
  )

  pub free_right : top ≤ c → ((eqb a 0 && eqb b 0) ≡ true) ↔ (broken_rule F top c a b ≡ 0)
  free_right l = (
    λ e.
        let y = both_true (eqb a 0) (eqb b 0) e in
        rw (eqb-true a 0 y.0, eqb-true b 0 y.1) (kept_rule F top c m (free l)),
    λ z. let y = kept_free F top c l (none_kept F top c a b z) in rw (eq-eqb a 0 y.0, eq-eqb b 0 y.1) refl,
  )
