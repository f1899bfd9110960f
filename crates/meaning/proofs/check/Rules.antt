-- The judgement of a cell, by cases: what its two words are where it gives a rule's number, and where it gives none.
-- No other proof looks into it. In order:
--   Kept                         the words of a cell that breaks no rule: a bracket's, a symbol's, or two zeros
--   RuleCases, rule_cases        the seven answers, each with what it says of the words;  the judgement's is one
--   none_kept, kept_rule         it gives 0 where a cell breaks no rule, and there alone
--   register_kept to kept_free   what such a cell is, by its place: a register, an occupied heap cell, or a free one
--   cell_kept, kept_cell         so it is one that keeps its rule, and back
-- Assumes nothing.
use mathlib.Core.Path.{◌≡◌, refl, sym, subst}
use mathlib.Core.Logic.{◌⊎◌, inl, inr, ◌≢◌}
use mathlib.Core.Bool.{Bool, true, false, cond, ◌&&◌}
use mathlib.Core.List.{List}
use Prim.Native.Nat.{ℕ, ◌-◌, ◌≤◌, ◌<◌}
use native.Mathlib.Omega.{arith}
use lib.Dec.{ltb, leb, eqb}
use borrow.Author.Tests.{leb-true, le-leb, ltb-true, ltb-false, lt-ltb, le-ltb, eqb-true, eqb-false}
use Rattle.words.specs.Cell.{first_word, second_word}
use Rattle.words.specs.Second.{stray, decode, bracket_to}
use Rattle.words.proofs.Plain.{decode_zero, decode_bracket}
use Rattle.meaning.specs.Limits.{code_test}
use Rattle.meaning.specs.Sound.{IsBracket, is_empty, is_full, IsCode, IsTerm, is_symbol, is_bracket, CellRule}
use Rattle.meaning.specs.Check.{bracket_rule, ends_below, below_rule, broken_rule}
use Rattle.meaning.proofs.Lists.{lt_or_ge}
use Rattle.meaning.proofs.Counting.{both_true, positive}

pub data Kept (F top c : ℕ) : ℕ → ℕ → Type 0 where
  bracket : {a b : ℕ} → c < top → IsBracket F (ends_below F top c) a b → Kept F top c a b
  symbol : {a : ℕ} → c < top → F ≤ c → IsCode a → Kept F top c a 0
  free : top ≤ c → Kept F top c 0 0

module _ (F top c a b : ℕ) where
  pub data RuleCases : ℕ → Type 0 where
    kept : stray (decode b) ≡ false → Kept F top c a b → RuleCases 0
    stray_bit : stray (decode b) ≡ true → RuleCases 1
    no_bracket : stray (decode b) ≡ false → c < top → c < F → b < bracket_to 0 → RuleCases 2
    bad_empty : stray (decode b) ≡ false → c < top → b ≡ bracket_to 0 → a ≢ 0 → RuleCases 3
    bad_symbol : stray (decode b) ≡ false → c < top → F ≤ c → b < bracket_to 0 → (code_test a && eqb b 0) ≡ false
        → RuleCases 4
    bad_ends : stray (decode b) ≡ false → c < top → (r : ℕ) → 0 < r → b ≡ bracket_to r
        → (leb F a && leb a r && ltb r (ends_below F top c)) ≡ false → RuleCases 5
    words_beyond : stray (decode b) ≡ false → top ≤ c → (eqb a 0 && eqb b 0) ≡ false → RuleCases 6

  abbrev right : ℕ
  right = b - bracket_to 0

  module _ (n : stray (decode b) ≡ false) where
    module _ (h : c < top) where
      -- the bracket bit is set
      of_bracket : bracket_to 0 ≤ b → RuleCases (bracket_rule F (ends_below F top c) a (b - bracket_to 0))
      unfolding bracket_rule
      of_bracket k = go (eqb right 0) (eqb a 0) (leb F a && leb a right && ltb right (ends_below F top c)) refl refl
          refl
        where
          word : bracket_to right ≡ b
          word = omega arith

          go : (t u v : Bool) → eqb right 0 ≡ t → eqb a 0 ≡ u
              → (leb F a && leb a right && ltb right (ends_below F top c)) ≡ v
              → RuleCases (cond t (cond u 0 3) (cond v 0 5))
          go true true v e f g =
              let z : b ≡ bracket_to 0 = omega (arith, eqb-true right 0 e) in
              kept n (rw (eqb-true a 0 f, z) (bracket h is_empty))
          go true false v e f g = bad_empty n h (omega (arith, eqb-true right 0 e)) (eqb-false a 0 f)
          go false u true e f g =
              let x = both_true (leb F a && leb a right) (ltb right (ends_below F top c)) g in
              let y = both_true (leb F a) (leb a right) x.0 in
              kept n (bracket h (subst (λ (w : ℕ). IsBracket F (ends_below F top c) a w) word
              (is_full (leb-true F a y.0) (leb-true a right y.1) (ltb-true right (ends_below F top c) x.1))))
          go false u false e f g = bad_ends n h right (positive right e) (sym word) g

      of_below : RuleCases (below_rule F top c a b)
      unfolding below_rule
      of_below = go (ltb b (bracket_to 0)) (ltb c F) (code_test a && eqb b 0) refl refl refl
        where
          go : (t u v : Bool) → ltb b (bracket_to 0) ≡ t → ltb c F ≡ u → (code_test a && eqb b 0) ≡ v
              → RuleCases (cond t (cond u 2 (cond v 0 4)) (bracket_rule F (ends_below F top c) a (b - bracket_to 0)))
          go true true v e f g = no_bracket n h (ltb-true c F f) (ltb-true b (bracket_to 0) e)
          go true false true e f g =
              let y = both_true (code_test a) (eqb b 0) g in
              kept n (rw (eqb-true b 0 y.1) (symbol h (ltb-false c F f) y.0))
          go true false false e f g = bad_symbol n h (ltb-false c F f) (ltb-true b (bracket_to 0) e) g
          go false u v e f g = of_bracket (ltb-false b (bracket_to 0) e)

    of_free : top ≤ c → RuleCases (cond (eqb a 0 && eqb b 0) 0 6)
    of_free l = go (eqb a 0 && eqb b 0) refl
      where
        go : (t : Bool) → (eqb a 0 && eqb b 0) ≡ t → RuleCases (cond t 0 6)
        go true e =
            let y = both_true (eqb a 0) (eqb b 0) e in kept n (rw (eqb-true a 0 y.0, eqb-true b 0 y.1) (free l))
        go false e = words_beyond n l e

  pub rule_cases : RuleCases (broken_rule F top c a b)
  unfolding broken_rule
  rule_cases = go (stray (decode b)) (ltb c top) refl refl
    where
      go : (t u : Bool) → stray (decode b) ≡ t → ltb c top ≡ u
          → RuleCases (cond t 1 (cond u (below_rule F top c a b) (cond (eqb a 0 && eqb b 0) 0 6)))
      go true u e f = stray_bit e
      go false true e f = of_below e (ltb-true c top f)
      go false false e f = of_free e (ltb-false c top f)

  -- where it gives 0
  pub none_kept : broken_rule F top c a b ≡ 0 → Kept F top c a b
  none_kept e = go rule_cases e
    where
      go : {n : ℕ} → RuleCases n → n ≡ 0 → Kept F top c a b
      go (kept s k) q = k
      go (stray_bit s) q = absurd (omega arith)
      go (no_bracket s h l m) q = absurd (omega arith)
      go (bad_empty s h m n) q = absurd (omega arith)
      go (bad_symbol s h l m n) q = absurd (omega arith)
      go (bad_ends s h x l m n) q = absurd (omega arith)
      go (words_beyond s h n) q = absurd (omega arith)

-- ---- and back

module _ (F top c : ℕ) where
  ends_low : c < top → ends_below F top c ≤ top
  ends_low h = go (ltb c F)
    where
      go : (t : Bool) → cond t top c ≤ top
      go true = omega arith
      go false = omega arith

  -- A right end fits 28 bits, so that it sets no flag.
  pub kept_rule : top ≤ 268435456 → {a b : ℕ} → Kept F top c a b → broken_rule F top c a b ≡ 0
  unfolding broken_rule below_rule bracket_rule
  kept_rule m (bracket h is_empty) = rw (decode_bracket 0 (omega arith), lt-ltb c top h) refl
  kept_rule m (bracket h (is_full {l} {r} x y z)) =
      rw (
        decode_bracket r (omega (arith, ends_low h)),
        lt-ltb c top h,
        le-ltb (bracket_to r) (bracket_to 0) (omega arith),
        less,
      ) (go (eqb r 0) refl)
    where
      less : bracket_to r - bracket_to 0 ≡ r
      less = omega arith

      go : (t : Bool) → eqb r 0 ≡ t
          → ◌≡◌ {A = ℕ} (cond t (cond (eqb l 0) 0 3) (cond (leb F l && leb l r && ltb r (ends_below F top c)) 0 5)) 0
      go true e = let q : l ≡ 0 = omega (arith, eqb-true r 0 e) in rw q refl
      go false e = rw (le-leb F l x, le-leb l r y, lt-ltb r (ends_below F top c) z) refl
  kept_rule m (symbol h l x) = rw (decode_zero, lt-ltb c top h, le-ltb c F l, x) refl
  kept_rule m (free l) = rw (decode_zero, le-ltb c top l) refl

  -- a register, and an occupied heap cell
  pub register_kept : {a b : ℕ} → c < top → c < F → IsBracket F top a b → Kept F top c a b
  register_kept {a} {b} h l k = bracket {a = a} {b = b} h (rw (lt-ltb c F l) k)

  pub kept_register : {a b : ℕ} → c < top → c < F → Kept F top c a b → IsBracket F top a b
  kept_register h l (bracket m k) = rw (lt-ltb c F l) at k
  kept_register h l (symbol m g k) = absurd (omega arith)
  kept_register h l (free m) = absurd (omega arith)

  pub heap_kept : {a b : ℕ} → c < top → F ≤ c → IsTerm F c a b → Kept F top c a b
  heap_kept h l (is_symbol k) = symbol h l k
  heap_kept h l (is_bracket {a} {b} k) = bracket {a = a} {b = b} h (rw (le-ltb c F l) k)

  pub kept_heap : {a b : ℕ} → c < top → F ≤ c → Kept F top c a b → IsTerm F c a b
  kept_heap h l (bracket m k) = is_bracket (rw (le-ltb c F l) at k)
  kept_heap h l (symbol m g k) = is_symbol k
  kept_heap h l (free m) = absurd (omega arith)

  pub kept_free : {a b : ℕ} → top ≤ c → Kept F top c a b → (a ≡ 0) × (b ≡ 0)
  kept_free l (bracket m k) = absurd (omega arith)
  kept_free l (symbol m g k) = absurd (omega arith)
  kept_free l (free m) = (refl, refl)

module _ (F : ℕ) (ws : List ℕ) (top c : ℕ) where
  abbrev a : ℕ
  a = first_word ws c

  abbrev b : ℕ
  b = second_word ws c

  pub cell_kept : CellRule F ws top c → Kept F top c a b
  cell_kept r = go (lt_or_ge c F) (lt_or_ge c top)
    where
      go : (c < F) ⊎ (F ≤ c) → (c < top) ⊎ (top ≤ c) → Kept F top c a b
      go (inl l) (inl h) = register_kept F top c h l (r.register l)
      go (inr l) (inl h) = heap_kept F top c h l (r.occupied l h)
      go l (inr h) = rw ((r.free h).0, (r.free h).1) (free h)

  pub kept_cell : F ≤ top → Kept F top c a b → CellRule F ws top c
  kept_cell low k =
      record {
        register = λ l. kept_register F top c (omega arith) l k;
        occupied = λ l h. kept_heap F top c h l k;
        free = λ l. kept_free F top c l k;
      }
