-- Laws of a text that is written byte by byte. In order:
--   next_plain, next_open, next_deep      one byte, by whether it opens a bracket
--   left_plain, left_close, left_open     how many more brackets may be open after it
--   plain_same, writes_stopped            nothing more is written
--   stopped_short                         where a text stopped
--   writes_plain, _space, _digits         bytes that are no brackets
--   writes_close, _open, _deep            brackets
--   Apart                                 what is written behind a text has as many brackets to open as the text had
--   writes_bracket, writes_text           a bracket around such a text;  the text of an expression is such
-- Assumes nothing.
use mathlib.Core.Path.{◌≡◌, refl, sym, ap, ◌∙◌}
use mathlib.Core.Logic.{◌≢◌}
use mathlib.Core.Bool.{Bool, true, false, cond}
use mathlib.Core.List.{List, [], ◌∷◌, ◌++◌, append_assoc}
use Prim.Native.Nat.{ℕ, zero, suc}
use native.Mathlib.Omega.{arith}
use borrow.Author.Tests.{ne_eqb}
use Rattle.octets.specs.Decimal.{decimal}
use Rattle.octets.specs.Claims.{AllDigits}
use Rattle.octets.proofs.Spaces.{put_short}
use Rattle.octets.proofs.Final.{only_digits}
use Rattle.meaning.specs.Expr.{Expr, nothing, symbol, parens}
use Rattle.meaning.specs.Text.{text, left_after, too_deep}
use Rattle.meaning.proofs.text.Texts.{tail}
use Rattle.text.specs.Page.{Page, plain, written, halted, stopped, next, writes}

-- ---- one byte

next_plain : (left b : ℕ) (g : Page) → b ≢ 40 → next left b g ≡ plain b g
unfolding next too_deep
next_plain left b g n = rw (ne_eqb b 40 n) refl

next_open : (left : ℕ) (g : Page) → next (suc left) 40 g ≡ plain 40 g
unfolding next too_deep
next_open left g = rw (ne_eqb (suc left) 0 (λ e. omega arith)) refl

next_deep : (g : Page) → next 0 40 g ≡ stopped g
unfolding next too_deep
next_deep g = refl

left_plain : (left b : ℕ) → b ≢ 40 → b ≢ 41 → left_after left b ≡ left
unfolding left_after
left_plain left b m n = rw (ne_eqb b 40 m, ne_eqb b 41 n) refl

left_close : (left : ℕ) → left_after left 41 ≡ suc left
unfolding left_after
left_close left = refl

left_open : (left : ℕ) → left_after (suc left) 40 ≡ left
unfolding left_after
left_open left = omega arith

-- ---- nothing more is written

module _ (g : Page) (h : g.space.short ≡ true) where
  stopped_same : stopped g ≡ g
  unfolding stopped
  stopped_same = rw h refl

  pub plain_same : (b : ℕ) → plain b g ≡ g
  plain_same b = rw (put_short g.space b h) refl

  next_same : (left b : ℕ) → next left b g ≡ g
  unfolding next
  next_same left b = go (too_deep left b)
    where
      go : (t : Bool) → cond t (stopped g) (plain b g) ≡ g
      go true = stopped_same
      go false = plain_same b

  pub writes_stopped : (left : ℕ) (xs : List ℕ) → writes left xs g ≡ g
  writes_stopped left [] = refl
  writes_stopped left (x ∷ xs) =
      ap (writes (left_after left x) xs) (next_same left x) ∙ writes_stopped (left_after left x) xs

stopped_short : (g : Page) → (stopped g).space.short ≡ true
unfolding stopped
stopped_short g = go g.space.short refl
  where
    go : (t : Bool) → g.space.short ≡ t → (cond t g (halted g)).space.short ≡ true
    go true e = e
    go false e = refl

-- ---- bytes that are no brackets

writes_plain : (left b : ℕ) (xs : List ℕ) (g : Page) → b ≢ 40 → b ≢ 41
    → writes left (b ∷ xs) g ≡ writes left xs (plain b g)
writes_plain left b xs g m n = rw (left_plain left b m n, next_plain left b g m) refl

pub writes_space : (left : ℕ) (xs : List ℕ) (g : Page) → writes left (32 ∷ xs) g ≡ writes left xs (plain 32 g)
writes_space left xs g = writes_plain left 32 xs g (λ e. omega arith) (λ e. omega arith)

-- digits are written as bytes are
pub writes_digits : (left : ℕ) (xs ys : List ℕ) (g : Page) → AllDigits xs
    → writes left (xs ++ ys) g ≡ writes left ys (written xs g)
writes_digits left [] ys g h = refl
writes_digits left (x ∷ xs) ys g h =
    let d = h 0 (omega arith) in
    writes_plain left x (xs ++ ys) g (λ e. omega (arith, d.0)) (λ e. omega (arith, d.0))
    ∙ writes_digits left xs ys (plain x g) (λ j l. h (suc j) (omega arith))

-- ---- brackets

writes_close : (left : ℕ) (xs : List ℕ) (g : Page) → writes left (41 ∷ xs) g ≡ writes (suc left) xs (plain 41 g)
writes_close left xs g = rw (left_close left, next_plain left 41 g (λ e. omega arith)) refl

writes_open : (left : ℕ) (xs : List ℕ) (g : Page)
    → writes (suc left) (40 ∷ xs) g ≡ writes left xs (plain 40 g)
writes_open left xs g = rw (left_open left, next_open left g) refl

-- a bracket that is one too many ends the text
pub writes_deep : (xs : List ℕ) (g : Page) → writes 0 (40 ∷ xs) g ≡ stopped g
writes_deep xs g =
    ap (writes (left_after 0 40) xs) (next_deep g) ∙ writes_stopped (stopped g) (stopped_short g) (left_after 0 40) xs

-- ---- the text of an expression

-- what is written behind it is written where as many brackets may be open as before it
abbrev Apart : List ℕ → Type 0
Apart t = (left : ℕ) (ys : List ℕ) (g : Page) → writes left (t ++ ys) g ≡ writes left ys (writes left t g)

-- a bracket around such a text
pub writes_bracket : (t xs : List ℕ) (left : ℕ) (g : Page) → Apart t
    → writes (suc left) (40 ∷ (t ++ (41 ∷ xs))) g ≡ writes (suc left) xs (plain 41 (writes left t (plain 40 g)))
writes_bracket t xs left g h =
    writes_open left (t ++ (41 ∷ xs)) g
    ∙ (h left (41 ∷ xs) (plain 40 g) ∙ writes_close left xs (writes left t (plain 40 g)))

space_apart : (t : List ℕ) → Apart t → Apart (32 ∷ t)
space_apart t h left ys g =
    writes_space left (t ++ ys) g ∙ (h left ys (plain 32 g) ∙ ap (writes left ys) (sym (writes_space left t g)))

tail_apart : (e : Expr) → Apart (text e) → Apart (tail e)
tail_apart nothing h = λ left ys g. refl
tail_apart (symbol a r) h = space_apart (text (symbol a r)) h
tail_apart (parens i r) h = space_apart (text (parens i r)) h

digits_apart : (xs t : List ℕ) → AllDigits xs → Apart t → Apart (xs ++ t)
digits_apart xs t d h left ys g =
    let g' = written xs g in
    ap (λ (z : List ℕ). writes left z g) (append_assoc xs t ys)
    ∙ (writes_digits left xs (t ++ ys) g d ∙ (h left ys g' ∙ ap (writes left ys) (sym (writes_digits left xs t g d))))

bracket_apart : (t u : List ℕ) → Apart t → Apart u → Apart (40 ∷ (t ++ (41 ∷ u)))
bracket_apart t u h k zero ys g =
    writes_deep ((t ++ (41 ∷ u)) ++ ys) g
    ∙ sym (ap (writes 0 ys) (writes_deep (t ++ (41 ∷ u)) g) ∙ writes_stopped (stopped g) (stopped_short g) 0 ys)
bracket_apart t u h k (suc left) ys g =
    let g' = plain 41 (writes left t (plain 40 g)) in
    ap (λ (z : List ℕ). writes (suc left) (40 ∷ z) g) (append_assoc t (41 ∷ u) ys)
    ∙ (writes_bracket t (u ++ ys) left g h
    ∙ (k (suc left) ys g' ∙ ap (writes (suc left) ys) (sym (writes_bracket t u left g h))))

pub writes_text : (e : Expr) → Apart (text e)
writes_text nothing = λ left ys g. refl
writes_text (symbol a r) = digits_apart (decimal a) (tail r) (only_digits a) (tail_apart r (writes_text r))
writes_text (parens i r) = bracket_apart (text i) (tail r) (writes_text i) (tail_apart r (writes_text r))
