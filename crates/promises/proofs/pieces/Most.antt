-- The most terms of one expression is that of the definition, and no other number. Assumes nothing.
use mathlib.Core.Path.{◌≡◌, refl, sym, ap, ◌∙◌}
use mathlib.Core.Logic.{◌⊎◌, inl, inr}
use Prim.Native.Nat.{ℕ, ◌≤◌, ◌<◌, max}
use native.Mathlib.Omega.{arith}
use Rattle.meaning.specs.Expr.{Expr, nothing, symbol, parens, terms}
use Rattle.meaning.specs.Pieces.{most_within, most_terms}
use Rattle.meaning.proofs.Lists.{lt_or_ge}
use Rattle.promises.specs.Pieces.{Holds, here, inward, behind_symbol, behind_bracket, MostOf, MostInWords, OneMost}

held_most : (e x : Expr) → Holds e x → terms x ≤ most_within e
held_most e x (here i r) = omega arith
held_most e x (inward i r _ h) = omega (arith, held_most i x h)
held_most e x (behind_symbol a r _ h) = held_most r x h
held_most e x (behind_bracket i r _ h) = omega (arith, held_most r x h)

-- one that is held has so many, unless that is none
abbrev Held : Expr → ℕ → Type 0
Held e m = (m ≡ 0) ⊎ ((x : Expr) × Holds e x × (terms x ≡ m))

larger : (a b : ℕ) → (max a b ≡ a) ⊎ (max a b ≡ b)
larger a b = go (lt_or_ge a b)
  where
    go : (a < b) ⊎ (b ≤ a) → (max a b ≡ a) ⊎ (max a b ≡ b)
    go (inl l) = inr (omega arith)
    go (inr l) = inl (omega arith)

some_held : (e : Expr) → Held e (most_within e)
some_held nothing = inl refl
some_held (symbol a r) = past (some_held r)
  where
    past : Held r (most_within r) → Held (symbol a r) (most_within r)
    past (inl z) = inl z
    past (inr (x, h, e)) = inr (x, behind_symbol a r x h, e)
some_held (parens i r) =
    go (larger (max (terms i) (most_within i)) (most_within r)) (larger (terms i) (most_within i))
    (some_held i) (some_held r)
  where
    m : ℕ
    m = most_within (parens i r)

    inside : m ≡ most_within i → Held i (most_within i) → Held (parens i r) m
    inside e (inl z) = inl (e ∙ z)
    inside e (inr (x, h, f)) = inr (x, inward i r x h, f ∙ sym e)

    past : m ≡ most_within r → Held r (most_within r) → Held (parens i r) m
    past e (inl z) = inl (e ∙ z)
    past e (inr (x, h, f)) = inr (x, behind_bracket i r x h, f ∙ sym e)

    go : (m ≡ max (terms i) (most_within i)) ⊎ (m ≡ most_within r)
        → (max (terms i) (most_within i) ≡ terms i) ⊎ (max (terms i) (most_within i) ≡ most_within i)
        → Held i (most_within i) → Held r (most_within r) → Held (parens i r) m
    go (inl e) (inl f) h k = inr (i, here i r, sym (e ∙ f))
    go (inl e) (inr f) h k = inside (e ∙ f) h
    go (inr e) f h k = past e k

pub most_in_words : MostInWords
most_in_words e = record {
  some = go (larger (terms e) (most_within e)) (some_held e);
  own = omega arith;
  each = λ x h. omega (arith, held_most e x h);
}
  where
    go : (most_terms e ≡ terms e) ⊎ (most_terms e ≡ most_within e) → Held e (most_within e)
        → (x : Expr) × ((x ≡ e) ⊎ Holds e x) × (terms x ≡ most_terms e)
    go (inl f) h = (e, inl refl, sym f)
    go (inr f) (inl z) = (e, inl refl, omega (arith, f, z))
    go (inr f) (inr (x, h, g)) = (x, inr h, g ∙ sym f)

-- each is at most the other
at_most : (e : Expr) (m n : ℕ) → MostOf e m → MostOf e n → m ≤ n
at_most e m n a b = go a.some.0 a.some.1 a.some.2
  where
    go : (x : Expr) → (x ≡ e) ⊎ Holds e x → terms x ≡ m → m ≤ n
    go x (inl f) t = omega (arith, t, ap terms f, b.own)
    go x (inr h) t = omega (arith, t, b.each x h)

pub one_most : OneMost
one_most e m n a b = omega (arith, at_most e m n a b, at_most e n m b a)
