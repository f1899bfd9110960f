-- What `at ws c` says of the words and fields of cell c of a sound store, for every c, also past the end, where it
-- reads as a symbol of code 0 whatever a code may be. In order:
--   Fields       what a cell's kind says of its first word and its second word's fields
--   cell_fields  that it holds;  second_lt  a second word is below 2 ^ 32
--   cell_ends    `ends l r`: first word l, second word's fields `plain true r`, 0 < r
--   ends_in      the ends of any cell: F ≤ l ≤ r < top;  ends_down  of a heap cell, r < c
--   cell_plain   no second word has a mark or a chain
--   full_ends    where `words::is_full` says yes, the cell is `ends` of its words;  ends_full  and the other way
-- Assumes nothing.
use mathlib.Core.Path.{◌≡◌, refl, sym, ap, ◌∙◌, subst}
use mathlib.Core.Logic.{◌⊎◌, inl, inr}
use mathlib.Core.Bool.{true, false, not, false≢true}
use mathlib.Core.List.{List}
use Prim.Native.Nat.{ℕ, ◌*◌, ◌/◌, ◌^◌, ◌≤◌, ◌<◌}
use native.Mathlib.Omega.{arith}
use lib.ListN.{length, get_or-eq_default}
use borrow.Author.Tests.{ne_eqb}
use Rattle.words.specs.Cell.{first_word, second_word}
use Rattle.words.specs.Second.{Second, decode, plain, full, full_word}
use Rattle.words.proofs.Plain.{decode_zero, decode_bracket}
use Rattle.meaning.specs.Sound.{Cell, code, empty, ends, fst, snd, at, Sound}
use Rattle.meaning.proofs.Lists.{lt_or_ge}
use Rattle.meaning.proofs.sound.Cells.{limit_fits, code_fits, TermIn, term_of_bracket, good}
use Rattle.meaning.proofs.sound.Cells.{read, Words, bracket_words, term_words, register_rule, heap_rule}
use Rattle.meaning.proofs.sound.Cells.{free_rule}

-- ---- a cell and its words

abbrev pub Fields : Cell → ℕ → Second → Type 0
Fields (code a) x s = (x ≡ a) × (s ≡ plain false 0) × (a < 2 ^ 28)
Fields empty x s = (x ≡ 0) × (s ≡ plain true 0)
Fields (ends l r) x s = (x ≡ l) × (s ≡ plain true r) × (0 < r)

-- a cell whose numbers fit: all that is asked of one past the end
abbrev Fitting : ℕ → ℕ → Cell → Type 0
Fitting F lim (code a) = a < 2 ^ 28
Fitting F lim empty = Unit {0}
Fitting F lim (ends l r) = (F ≤ l) × (l ≤ r) × (r < lim)

fitting : (F lim lim' : ℕ) (k : Cell) → lim ≤ lim' → TermIn F lim k → Fitting F lim' k
fitting F lim lim' (code a) m h = code_fits a h
fitting F lim lim' empty m h = h
fitting F lim lim' (ends l r) m h = (h.0, h.1, omega (arith, h.2))

fields_of_lem : (F lim : ℕ) (k : Cell) → 0 < F → lim ≤ 2 ^ 28 → Fitting F lim k → Fields k (fst k) (decode (snd k))
fields_of_lem F lim (code a) p m h = (refl, decode_zero, h)
fields_of_lem F lim empty p m h = (refl, decode_bracket 0 (omega arith))
fields_of_lem F lim (ends l r) p m h = (refl, decode_bracket r (omega (arith, h.2)), omega (arith, h.0, h.1))

snd_lt : (F lim : ℕ) (k : Cell) → lim ≤ 2 ^ 28 → Fitting F lim k → snd k < 2 ^ 32
snd_lt F lim (code a) m h = omega arith
snd_lt F lim empty m h = omega arith
snd_lt F lim (ends l r) m h = omega (arith, h.2)

no_words : (F lim : ℕ) → Words (Fitting F lim) 0 0
unfolding read
no_words F lim = record { good = omega arith; one = refl; two = refl }

module _ (F : ℕ) (ws : List ℕ) (top : ℕ) (p : 0 < F) (s : Sound F ws top) where
  abbrev Here : ℕ → Type 0
  Here c = Words (Fitting F top) (first_word ws c) (second_word ws c)

  here_zero : (c : ℕ) → first_word ws c ≡ 0 → second_word ws c ≡ 0 → Here c
  here_zero c e f = rw (e, f) (no_words F top)

  here_register : (c : ℕ) → c < F → Here c
  here_register c h =
      let w = bracket_words F top (first_word ws c) (second_word ws c) p (register_rule s c h) in
      let k : Cell = read (first_word ws c) (second_word ws c) in
      record {
        good = fitting F top top k (omega arith) (term_of_bracket F top k w.good);
        one = w.one;
        two = w.two;
      }

  here_heap : (c : ℕ) → F ≤ c → c < top → Here c
  here_heap c l h =
      let w = term_words F c (first_word ws c) (second_word ws c) p (heap_rule s c l h) in
      record {
        good = fitting F c top (read (first_word ws c) (second_word ws c)) (omega arith) w.good;
        one = w.one;
        two = w.two;
      }

  here : (c : ℕ) → Here c
  here c = go (lt_or_ge c F) (lt_or_ge c top) (lt_or_ge c (length ws / 2))
    where
      go : (c < F) ⊎ (F ≤ c) → (c < top) ⊎ (top ≤ c) → (c < length ws / 2) ⊎ (length ws / 2 ≤ c) → Here c
      go (inl h) u v = here_register c h
      go (inr l) (inl h) v = here_heap c l h
      go (inr l) (inr m) (inl h) = here_zero c (free_rule s c m h).0 (free_rule s c m h).1
      go (inr l) (inr m) (inr n) =
          let e : length ws ≤ 2 * c = omega (arith, s.allowed.even) in
          here_zero c (get_or-eq_default ws 0 e) (get_or-eq_default ws 0 (omega arith))

  top_fits : top ≤ 2 ^ 28
  top_fits = omega (arith, s.high, s.allowed.small, limit_fits)

  cell_words : (c : ℕ) → (fst (at ws c) ≡ first_word ws c) × (snd (at ws c) ≡ second_word ws c)
  unfolding at read
  cell_words c = ((here c).one, (here c).two)

  cell_fits : (c : ℕ) → Fitting F top (at ws c)
  unfolding at read
  cell_fits c = (here c).good

  pub cell_fields : (c : ℕ) → Fields (at ws c) (first_word ws c) (decode (second_word ws c))
  cell_fields c =
      subst (λ (a : ℕ). Fields (at ws c) a (decode (second_word ws c))) (cell_words c).0
      (subst (λ (b : ℕ). Fields (at ws c) (fst (at ws c)) (decode b)) (cell_words c).1
      (fields_of_lem F top (at ws c) p top_fits (cell_fits c)))

  pub second_lt : (c : ℕ) → second_word ws c < 2 ^ 32
  second_lt c = subst (λ (b : ℕ). b < 2 ^ 32) (cell_words c).1 (snd_lt F top (at ws c) top_fits (cell_fits c))

  -- ---- by the kind of cell

  module _ (c : ℕ) where
    abbrev Said : Cell → Type 0
    Said k = Fields k (first_word ws c) (decode (second_word ws c))

    pub cell_ends : {l r : ℕ} → at ws c ≡ ends l r
        → (first_word ws c ≡ l) × (decode (second_word ws c) ≡ plain true r) × (0 < r)
    cell_ends e = subst Said e (cell_fields c)

    pub ends_in : {l r : ℕ} → at ws c ≡ ends l r → (F ≤ l) × (l ≤ r) × (r < top)
    ends_in e = subst (Fitting F top) e (cell_fits c)

    pub ends_down : {l r : ℕ} → F ≤ c → c < top → at ws c ≡ ends l r → r < c
    ends_down l h e = (subst (TermIn F c) e ((good F ws top p s).heap c l h)).2

    said_plain : (k : Cell) → Said k
        → decode (second_word ws c) ≡ plain (decode (second_word ws c)).br (decode (second_word ws c)).ri
    said_plain (code a) h = rw h.1 refl
    said_plain empty h = rw h.1 refl
    said_plain (ends l r) h = rw h.1 refl

    pub cell_plain : decode (second_word ws c) ≡ plain (decode (second_word ws c)).br (decode (second_word ws c)).ri
    cell_plain = said_plain (at ws c) (cell_fields c)

    -- ---- by the test `words::is_full`

    said_full : (k : Cell) → at ws c ≡ k → Said k → full_word (second_word ws c) ≡ true
        → at ws c ≡ ends (first_word ws c) (decode (second_word ws c)).ri
    said_full (code a) e h t = absurd (false≢true (sym (ap (λ (f : Second). full f.br f.ri) h.1) ∙ t))
    said_full empty e h t = absurd (false≢true (sym (ap (λ (f : Second). full f.br f.ri) h.1) ∙ t))
    said_full (ends l r) e h t = e ∙ rw (h.0, h.1) refl

    pub full_ends : full_word (second_word ws c) ≡ true
        → at ws c ≡ ends (first_word ws c) (decode (second_word ws c)).ri
    full_ends = said_full (at ws c) refl (cell_fields c)

    pub ends_full : {l r : ℕ} → at ws c ≡ ends l r → full_word (second_word ws c) ≡ true
    ends_full {r = r} e =
        let h = cell_ends e in
        ap (λ (f : Second). full f.br f.ri) h.1 ∙ ap not (ne_eqb r 0 (λ z. omega (arith, h.2)))
