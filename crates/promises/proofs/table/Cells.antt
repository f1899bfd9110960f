-- The rules of a cell in words. In order:
--   stray_yes, stray_no   the test of a mark or a chain flag, in words
--   first_once            of several claims one is the first that holds
--   first_broken          the judgement gives the number of the first rule that a cell breaks
--   rules_in_words        and so each number exactly where that rule is the first
--   none_broken           0 exactly where the cell keeps the rule of a sound store
--   broken_number         a damaged cell has one of six numbers
-- Assumes nothing.
use mathlib.Core.Path.{◌≡◌, refl, sym, ap, subst}
use mathlib.Core.Logic.{◌⊎◌, inl, inr}
use mathlib.Core.Bool.{Bool, true, false, ◌&&◌, ◌||◌}
use mathlib.Core.List.{List, [], ◌∷◌}
use Prim.Native.Nat.{ℕ, zero, suc, ◌≤◌, ◌<◌}
use native.Mathlib.Omega.{arith}
use lib.Dec.{ltb, leb, eqb}
use borrow.Author.Tests.{le-leb, lt-ltb, le-ltb, eq-eqb}
use Rattle.words.specs.Cell.{first_word, second_word}
use Rattle.words.specs.Second.{stray, decode}
use Rattle.meaning.specs.Limits.{code_test}
use Rattle.meaning.specs.Sound.{is_empty, is_full, IsCode}
use Rattle.meaning.specs.Check.{ends_below, broken_rule, cell_test}
use Rattle.meaning.proofs.Lists.{lt_or_ge}
use Rattle.meaning.proofs.Counting.{refuted}
use Rattle.meaning.proofs.reach.Reaching.{or_left, or_right, or_cases}
use Rattle.meaning.proofs.sound.Cells.{limit_fits}
use Rattle.meaning.proofs.check.Rules.{Kept, bracket, symbol, free, RuleCases, kept, stray_bit, no_bracket, bad_empty}
use Rattle.meaning.proofs.check.Rules.{bad_symbol, bad_ends, words_beyond, rule_cases, none_kept, kept_rule, cell_kept}
use Rattle.meaning.proofs.check.Rules.{kept_cell}
use Rattle.promises.specs.Table.{OneOf, Not, StrayBit, NotBracket, BadEmpty, BadSymbol, EndsRight, BadEnds}
use Rattle.promises.specs.Table.{BeyondTop, rules, FirstOf, RulesInWords, NoneBroken}

-- ---- a mark or a chain flag

module _ (b : ℕ) where
  abbrev two : Bool
  two = (decode b).used || (decode b).lc

  stray_yes : stray (decode b) ≡ true → StrayBit b
  stray_yes e = go (or_cases two (decode b).rc e)
    where
      one : ((decode b).used ≡ true) ⊎ ((decode b).lc ≡ true) → StrayBit b
      one (inl h) = inl h
      one (inr h) = inr (inl h)

      go : (two ≡ true) ⊎ ((decode b).rc ≡ true) → StrayBit b
      go (inl h) = one (or_cases (decode b).used (decode b).lc h)
      go (inr h) = inr (inr h)

  stray_no : stray (decode b) ≡ false → Not (StrayBit b)
  stray_no = refuted (stray (decode b)) go
    where
      go : StrayBit b → stray (decode b) ≡ true
      go (inl h) = or_left two (decode b).rc (or_left (decode b).used (decode b).lc h)
      go (inr (inl h)) = or_left two (decode b).rc (or_right (decode b).used (decode b).lc h)
      go (inr (inr h)) = or_right two (decode b).rc h

-- ---- the first that holds

pub first_once : (As : List (Type 0)) (p q : ℕ) → FirstOf As p → FirstOf As q → p ≡ q
first_once [] zero zero x y = refl
first_once [] zero (suc q) x y = absurd y
first_once [] (suc p) q x y = absurd x
first_once (A ∷ As) zero zero x y = refl
first_once (A ∷ As) zero (suc zero) x y = absurd (x.0 y)
first_once (A ∷ As) zero (suc (suc q)) x y = absurd (omega (arith, first_once As zero (suc q) x.1 y.1))
first_once (A ∷ As) (suc zero) zero x y = absurd (y.0 x)
first_once (A ∷ As) (suc zero) (suc zero) x y = refl
first_once (A ∷ As) (suc zero) (suc (suc q)) x y = absurd (y.0 x)
first_once (A ∷ As) (suc (suc p)) zero x y = absurd (omega (arith, first_once As (suc p) zero x.1 y.1))
first_once (A ∷ As) (suc (suc p)) (suc zero) x y = absurd (x.0 y)
first_once (A ∷ As) (suc (suc p)) (suc (suc q)) x y = ap suc (first_once As (suc p) (suc q) x.1 y.1)

-- ---- of the rules

module _ (F top c : ℕ) where
  ends_right : {l r : ℕ} → F ≤ l → l ≤ r → r < ends_below F top c → EndsRight F top c l r
  ends_right {l} {r} x y z = (x, y, λ h. rw (lt-ltb c F h) at z, λ h. rw (le-ltb c F h) at z)

  right_ends : {l r : ℕ} → EndsRight F top c l r → r < ends_below F top c
  right_ends {l} {r} e = go (lt_or_ge c F)
    where
      go : (c < F) ⊎ (F ≤ c) → r < ends_below F top c
      go (inl h) = rw (lt-ltb c F h) (e.2 h)
      go (inr h) = rw (le-ltb c F h) (e.3 h)

  kept_none : {a b : ℕ} → Kept F top c a b
      → Not (NotBracket F top c b) × Not (BadEmpty top c a b) × Not (BadSymbol top c a b) × Not (BadEnds F top c a b)
      × Not (BeyondTop top c a b)
  kept_none (bracket h is_empty) = (
    λ x. absurd (omega (arith, x.2)),
    λ x. x.2 refl,
    λ x. absurd (omega (arith, x.1)),
    λ x. x.1.2 (refl, omega (arith, x.1.1)),
    λ x. omega (arith, x.0),
  )
  kept_none (bracket h (is_full {l} {r} f g k)) = (
    λ x. absurd (omega (arith, x.2)),
    λ x. x.2 (omega (arith, x.1)),
    λ x. absurd (omega (arith, x.1)),
    λ x.
        let e : x.1.0 ≡ r = omega (arith, x.1.1) in
        x.1.3 (subst (λ (n : ℕ). EndsRight F top c l n) (sym e) (ends_right f g k)),
    λ x. omega (arith, x.0),
  )
  kept_none (symbol h l k) = (
    λ x. omega (arith, x.1),
    λ x. omega (arith, x.1),
    λ x. x.2 (k, refl),
    λ x. omega (arith, x.1.1),
    λ x. omega (arith, x.0),
  )
  kept_none (free l) = (
    λ x. omega (arith, x.0),
    λ x. omega (arith, x.0),
    λ x. omega (arith, x.0),
    λ x. omega (arith, x.0),
    λ x. x.1 (refl, refl),
  )

module _ (F top c a b : ℕ) where
  of_cases : {q : ℕ} → RuleCases F top c a b q → FirstOf (rules F top c a b) q
  of_cases (kept s k) = let n = kept_none F top c k in (stray_no b s, (n.0, (n.1, (n.2, (n.3, (n.4, tt))))))
  of_cases (stray_bit s) = stray_yes b s
  of_cases (no_bracket s h l m) = (stray_no b s, (h, l, m))
  of_cases (bad_empty s h e n) = (stray_no b s, (λ x. omega (arith, x.2), (h, e, n)))
  of_cases (bad_symbol s h l m t) =
      let coded : Not (IsCode a × (b ≡ 0)) =
      refuted (code_test a && eqb b 0) (λ x. rw (x.0, eq-eqb b 0 x.1) refl) t in
      (stray_no b s, (λ x. omega (arith, x.1), (λ x. omega (arith, x.1), (h, m, coded))))
  of_cases (bad_ends s h r l e t) =
      let wrong : Not (EndsRight F top c a r) =
      refuted (leb F a && leb a r && ltb r (ends_below F top c)) (λ x.
      rw (le-leb F a x.0, le-leb a r x.1, lt-ltb r (ends_below F top c) (right_ends F top c x)) refl) t in (
        stray_no b s,
        (
          λ x. omega (arith, x.2),
          (
            λ x. omega (arith, x.1),
            (
              λ x. omega (arith, x.1),
              (h, (r, e, λ x. omega (arith, x.1), wrong)),
            ),
          ),
        ),
      )
  of_cases (words_beyond s l t) =
      let some : Not ((a ≡ 0) × (b ≡ 0)) =
      refuted (eqb a 0 && eqb b 0) (λ x. rw (eq-eqb a 0 x.0, eq-eqb b 0 x.1) refl) t in (
        stray_no b s,
        (
          λ x. omega (arith, x.0),
          (
            λ x. omega (arith, x.0),
            (
              λ x. omega (arith, x.0),
              (λ x. omega (arith, x.0), (l, some)),
            ),
          ),
        ),
      )

  pub first_broken : FirstOf (rules F top c a b) (broken_rule F top c a b)
  first_broken = of_cases (rule_cases F top c a b)

  number_of : {q : ℕ} → RuleCases F top c a b q → q ≡ 0 ⊎ OneOf q (1 ∷ 2 ∷ 3 ∷ 4 ∷ 5 ∷ 6 ∷ [])
  number_of (kept s k) = inl refl
  number_of (stray_bit s) = inr (inl refl)
  number_of (no_bracket s h l m) = inr (inr (inl refl))
  number_of (bad_empty s h e n) = inr (inr (inr (inl refl)))
  number_of (bad_symbol s h l m t) = inr (inr (inr (inr (inl refl))))
  number_of (bad_ends s h r l e t) = inr (inr (inr (inr (inr (inl refl)))))
  number_of (words_beyond s l t) = inr (inr (inr (inr (inr (inr (inl refl))))))

  -- where its test fails
  pub broken_number : cell_test F top c a b ≡ false → OneOf (broken_rule F top c a b) (1 ∷ 2 ∷ 3 ∷ 4 ∷ 5 ∷ 6 ∷ [])
  unfolding cell_test
  broken_number e = go (number_of (rule_cases F top c a b))
    where
      go : (broken_rule F top c a b ≡ 0) ⊎ OneOf (broken_rule F top c a b) (1 ∷ 2 ∷ 3 ∷ 4 ∷ 5 ∷ 6 ∷ [])
          → OneOf (broken_rule F top c a b) (1 ∷ 2 ∷ 3 ∷ 4 ∷ 5 ∷ 6 ∷ [])
      go (inl z) = absurd (refuted (eqb (broken_rule F top c a b) 0) (eq-eqb (broken_rule F top c a b) 0) e z)
      go (inr o) = o

pub rules_in_words : RulesInWords
rules_in_words F top c a b q = (
  λ e. subst (FirstOf (rules F top c a b)) e (first_broken F top c a b),
  λ f. first_once (rules F top c a b) (broken_rule F top c a b) q (first_broken F top c a b) f,
)

pub none_broken : NoneBroken
none_broken F ws top c low high = (
  λ e. kept_cell F ws top c low (none_kept F top c (first_word ws c) (second_word ws c) e),
  λ r. kept_rule F top c (omega (arith, high, limit_fits)) (cell_kept F ws top c r),
)
