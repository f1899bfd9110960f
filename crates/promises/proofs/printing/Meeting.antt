-- What a text meets as it is written, by the place of the first trouble. In order:
--   text_in_words, one_text          the text of an expression
--   deep_is, not_deep                the test of the definition at one byte
--   many_here, none_here             whether the first byte opens one bracket too many
--   balance, later, back, up_to      and a later one, by the bytes behind the first
--   meets                            the trouble of the definition is what is met
--   met_once                         a text meets one thing
-- Assumes nothing.
use mathlib.Core.Path.{◌≡◌, refl, sym, ap, ap₂, ◌∙◌}
use mathlib.Core.Bool.{Bool, true, false, cond, ◌&&◌, false≢true}
use mathlib.Core.List.{List, [], ◌∷◌, ◌++◌}
use Prim.Native.Nat.{ℕ, zero, suc, ◌+◌, ◌-◌, ◌<◌}
use native.Mathlib.Omega.{arith}
use lib.Dec.{eqb}
use lib.ListN.{take}
use borrow.Author.Tests.{eqb-true, eqb-false, eq-eqb, ne_eqb}
use Rattle.meaning.specs.Expr.{Expr, nothing, symbol, parens, append, terms}
use Rattle.meaning.specs.Text.{text, left_after, too_deep, trouble}
use Rattle.meaning.proofs.text.Texts.{text_one, text_joined}
use Rattle.promises.specs.Table.{Not}
use Rattle.promises.specs.Printing.{IsText, TextInWords, OneText, count, OneTooMany, Meets, deep, long, fits}

-- ---- the text of an expression

pub text_in_words : TextInWords
text_in_words = record { none = refl; code = text_one; brackets = λ e. refl; between = text_joined }

module _ (t : Expr → List ℕ) (h : IsText t) where
  joined : (e f : Expr) → 0 < terms e → 0 < terms f → t e ≡ text e → t f ≡ text f → t (append e f) ≡ text (append e f)
  joined e f p q x y =
      h.between e f p q ∙ (ap₂ (λ (a b : List ℕ). a ++ (32 ∷ b)) x y ∙ sym (text_joined e f p q))

  one_code : (a : ℕ) → t (symbol a nothing) ≡ text (symbol a nothing)
  one_code a = h.code a ∙ sym (text_one a)

  one_bracket : (i : Expr) → t i ≡ text i → t (parens i nothing) ≡ text (parens i nothing)
  one_bracket i e = h.brackets i ∙ ap (λ (x : List ℕ). 40 ∷ (x ++ (41 ∷ []))) e

  -- a first term, and the rest behind it
  rest_joined : (e r : Expr) → 0 < terms e → t e ≡ text e → t r ≡ text r → append e nothing ≡ e
      → t (append e r) ≡ text (append e r)
  rest_joined e nothing p x y z = rw z x
  rest_joined e (symbol a r) p x y z = joined e (symbol a r) p (omega arith) x y
  rest_joined e (parens i r) p x y z = joined e (parens i r) p (omega arith) x y

pub one_text : OneText
one_text t h nothing = h.none
one_text t h (symbol a r) =
    rest_joined t h (symbol a nothing) r (omega arith) (one_code t h a) (one_text t h r) refl
one_text t h (parens i r) =
    rest_joined t h (parens i nothing) r (omega arith) (one_bracket t h i (one_text t h i)) (one_text t h r) refl

-- ---- a bracket that is one too many

-- the byte that opens too many brackets is 40, where no more may be open
deep_is : (left b : ℕ) → too_deep left b ≡ true → (b ≡ 40) × (left ≡ 0)
unfolding too_deep
deep_is left b e = go (eqb b 40) (eqb left 0) refl refl e
  where
    go : (t u : Bool) → eqb b 40 ≡ t → eqb left 0 ≡ u → (t && u) ≡ true → (b ≡ 40) × (left ≡ 0)
    go true true p q r = (eqb-true b 40 p, eqb-true left 0 q)
    go true false p q r = absurd (false≢true r)
    go false u p q r = absurd (false≢true r)

not_deep : (left b : ℕ) → too_deep left b ≡ false → b ≡ 40 → 0 < left
unfolding too_deep
not_deep left b e h = go (eqb left 0) refl (rw (eq-eqb b 40 h) at e)
  where
    go : (u : Bool) → eqb left 0 ≡ u → u ≡ false → 0 < left
    go true q r = absurd (false≢true (sym r))
    go false q r = let n = eqb-false left 0 q in omega (arith, n)

module _ (left b : ℕ) (bs : List ℕ) where
  many_here : b ≡ 40 → left ≡ 0 → OneTooMany left (b ∷ bs) 0
  many_here e z = (omega arith, e, omega arith)

  none_here : too_deep left b ≡ false → Not (OneTooMany left (b ∷ bs) 0)
  none_here e m = let h = not_deep left b e m.1 in let k = m.2 in omega (arith, h, k)

  -- as many more brackets may be open behind the first byte as before it, less what it opens, and what it closes more
  balance : (xs : List ℕ) → (b ≡ 40 → 0 < left)
      → left + count 41 (b ∷ xs) + count 40 xs ≡ left_after left b + count 41 xs + count 40 (b ∷ xs)
  unfolding left_after
  balance xs h = go (count 41 xs) (count 40 xs) (eqb b 40) (eqb b 41) refl refl
    where
      go : (x y : ℕ) (t u : Bool) → eqb b 40 ≡ t → eqb b 41 ≡ u
          → left + cond u (suc x) x + y ≡ cond t (left - 1) (cond u (suc left) left) + x + cond t (suc y) y
      go x y true true p q = absurd (omega (arith, eqb-true b 40 p, eqb-true b 41 q))
      go x y true false p q = let l = h (eqb-true b 40 p) in omega arith
      go x y false true p q = omega arith
      go x y false false p q = refl

  -- where the first byte is none that is too many, a later one is so by the bytes behind the first
  later : (b ≡ 40 → 0 < left) → (k : ℕ) → OneTooMany left (b ∷ bs) (suc k) → OneTooMany (left_after left b) bs k
  later h k m = (omega (arith, m.0), m.1, omega (arith, m.2, balance (take k bs) h))

  back : (b ≡ 40 → 0 < left) → (k : ℕ) → OneTooMany (left_after left b) bs k → OneTooMany left (b ∷ bs) (suc k)
  back h k m = (omega (arith, m.0), m.1, omega (arith, m.2, balance (take k bs) h))

  -- no byte up to the k-th, from the first and those behind it
  up_to : (n : ℕ) → too_deep left b ≡ false → ((j : ℕ) → j < n → Not (OneTooMany (left_after left b) bs j))
      → (j : ℕ) → j < suc n → Not (OneTooMany left (b ∷ bs) j)
  up_to n e h zero l = none_here e
  up_to n e h (suc j) l = λ m. h j (omega arith) (later (not_deep left b e) j m)

-- ---- the trouble of the definition is what is met

module _ (left n b : ℕ) (bs : List ℕ) (e : too_deep left b ≡ false) where
  -- one byte more of a text, where a byte is left for it
  met_later : (s : ℕ) → Meets (left_after left b) n bs s → Meets left (suc n) (b ∷ bs) s
  met_later s (deep k l m h) =
      deep (suc k) (omega arith) (back left b bs (not_deep left b e) k m) (up_to left b bs k e h)
  met_later s (long l h) =
      long (omega arith) (λ j p. up_to left b bs (suc n) e (λ i q. h i (omega arith)) j (omega arith))
  met_later s (fits l h) =
      fits (omega arith) (λ j. up_to left b bs j e (λ i q. h i) j (omega arith))

pub meets : (left n : ℕ) (bs : List ℕ) → Meets left n bs (trouble left n bs)
meets left n [] = fits (omega arith) (λ j m. omega (arith, m.0))
meets left n (b ∷ bs) = go (too_deep left b) n refl (λ k. meets (left_after left b) k bs)
  where
    go : (t : Bool) (k : ℕ) → too_deep left b ≡ t
        → ((j : ℕ) → Meets (left_after left b) j bs (trouble (left_after left b) j bs))
        → Meets left k (b ∷ bs) (cond t 21 (cond (eqb k 0) 22 (trouble (left_after left b) (k - 1) bs)))
    go true k e r =
        let d = deep_is left b e in
        deep 0 (omega arith) (many_here left b bs d.0 d.1) (λ j l. absurd (omega arith))
    go false zero e r =
        long (omega arith) (λ j l. up_to left b bs 0 e (λ i q. absurd (omega arith)) j (omega arith))
    go false (suc k) e r =
        let z : suc k - 1 ≡ k = omega arith in
        rw (ne_eqb (suc k) 0 (λ x. omega arith), z)
        (met_later left k b bs e (trouble (left_after left b) k bs) (r k))

-- ---- a text meets one thing

pub met_once : (d n : ℕ) (bs : List ℕ) (s t : ℕ) → Meets d n bs s → Meets d n bs t → s ≡ t
met_once d n bs s t (deep k l m h) (deep k' l' m' h') = refl
met_once d n bs s t (deep k l m h) (long p g) = absurd (g k l m)
met_once d n bs s t (deep k l m h) (fits p g) = absurd (g k m)
met_once d n bs s t (long p g) (deep k l m h) = absurd (g k l m)
met_once d n bs s t (long p g) (long q f) = refl
met_once d n bs s t (long p g) (fits q f) = absurd (omega arith)
met_once d n bs s t (fits p g) (deep k l m h) = absurd (g k m)
met_once d n bs s t (fits p g) (long q f) = absurd (omega arith)
met_once d n bs s t (fits p g) (fits q f) = refl
