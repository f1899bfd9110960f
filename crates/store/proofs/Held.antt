-- A bracket's contents, and a term, from the fields of the second word. In order:
--   br_tested                   the bit br of a second word, as it was read and tested
--   Contents                    what a bracket with the first word a and the right end r is
--   bracket_second              a bracket's second word has the bit br
--   contents                    the contents of a cell that keeps the rule of a bracket
--   term_bracket, term_symbol   a term with the bit is a bracket, and one without is a symbol
--   symbol_is, bracket_is       what a caller's `match` on a term learns, in each arm
--   bracket_by                  what holds of an empty bracket and of one with ends holds of that cell
-- Assumes nothing.
use mathlib.Core.Path.{◌≡◌, refl, sym, ap, ◌∙◌}
use mathlib.Core.Logic.{◌≢◌}
use mathlib.Core.Bool.{Bool, true, false, true≢false, false≢true}
use mathlib.Core.List.{List}
use Prim.Native.Nat.{ℕ, ◌+◌, ◌-◌, ◌≤◌, ◌<◌}
use native.Mathlib.Omega.{arith}
use Rattle.words.specs.Cell.{first_word, second_word}
use Rattle.words.specs.Second.{Second, decode}
use Rattle.words.proofs.Plain.{decode_zero, decode_bracket}
use Rattle.meaning.specs.Limits.{limit}
use Rattle.meaning.specs.Sound.{Cell, code, empty, ends, at, IsBracket, is_empty, is_full, IsTerm, is_symbol}
use Rattle.meaning.specs.Sound.{is_bracket}
use Rattle.meaning.specs.Sound.{start, size}
use Rattle.meaning.proofs.sound.Cells.{limit_fits, read, read_ends}
use Rattle.store.specs.Holds.{RunIs, is_code, TermIs}
use Rattle.store.specs.declared.Run.{Run}
use Rattle.store.specs.declared.Term.{Term}
use Rattle.store.specs.declared.Term.TheVariants.{Symbol, Bracket}

-- the bit of a second word, as it was read and tested
pub br_tested : {w v : ℕ} {r t : Bool} → w ≡ v → r ≡ (decode w).br → r ≡ t → (decode v).br ≡ t
br_tested p e f = rw (← p) (sym e ∙ f)

-- what a bracket with the first word a and the right end r is
pub record Contents (a r : ℕ) (k : Cell) : Type 0 where
  pub no_contents : r ≡ 0 → (start k ≡ 0) × (size k ≡ 0)
  pub full : r ≢ 0 → (a ≤ r) × (start k ≡ a) × (size k ≡ r + 1 - a)
  pub not_code : is_code k ≡ false

contents_empty : Contents 0 0 empty
contents_empty = record { no_contents = λ e. (refl, refl); full = λ n. absurd (n refl); not_code = refl }

contents_ends : (l r : ℕ) → 0 < l → l ≤ r → Contents l r (ends l r)
contents_ends l r p h =
    record { no_contents = λ e. absurd (omega arith); full = λ n. (h, refl, omega arith); not_code = refl }

module _ (F lim : ℕ) (p : 0 < F) (m : lim ≤ limit) where
  pub bracket_second : {a b : ℕ} → IsBracket F lim a b → (decode b).br ≡ true
  bracket_second is_empty = ap (λ (s : Second). s.br) (decode_bracket 0 (omega arith))
  bracket_second (is_full {l} {r} x y z) = ap (λ (s : Second). s.br) (decode_bracket r (omega (arith, limit_fits)))

  contents_read : {a b : ℕ} → IsBracket F lim a b → Contents a (decode b).ri (read a b)
  unfolding read
  contents_read is_empty = rw (decode_bracket 0 (omega arith)) contents_empty
  contents_read (is_full {l} {r} x y z) =
      rw (decode_bracket r (omega (arith, limit_fits)), read_ends l r (omega arith)) (contents_ends l r (omega arith) y)

  module _ (ws : List ℕ) (c : ℕ) where
    -- w is the second word as it was read, and r its right end
    pub contents : {w r : ℕ} → w ≡ second_word ws c → r ≡ (decode w).ri
        → IsBracket F lim (first_word ws c) (second_word ws c) → Contents (first_word ws c) r (at ws c)
    unfolding at read
    contents {w} {r} e f h = rw (f, e) (contents_read h)

  -- a term with the bracket's bit is a bracket, and one without is a symbol
  pub term_bracket : {a b : ℕ} → IsTerm F lim a b → (decode b).br ≡ true → IsBracket F lim a b
  term_bracket (is_symbol h) e = absurd (false≢true (sym (ap (λ (s : Second). s.br) decode_zero) ∙ e))
  term_bracket (is_bracket h) e = h

  symbol_read : {a b : ℕ} → IsTerm F lim a b → (decode b).br ≡ false → read a b ≡ code a
  unfolding read
  symbol_read (is_symbol h) e = refl
  symbol_read (is_bracket h) e = absurd (true≢false (sym (bracket_second h) ∙ e))

  module _ (ws : List ℕ) (c : ℕ) where
    pub term_symbol : IsTerm F lim (first_word ws c) (second_word ws c) → (decode (second_word ws c)).br ≡ false
        → at ws c ≡ code (first_word ws c)
    unfolding at read
    term_symbol h e = symbol_read h e

-- what a caller's `match` on a term learns, in each arm
pub symbol_is : (k : Cell) {t : Term} {a : ℕ} → TermIs t k → t ≡ Symbol a → k ≡ code a
symbol_is k h e = rw e at h

pub bracket_is : (k : Cell) {t : Term} {r : Run} → TermIs t k → t ≡ Bracket r → (is_code k ≡ false) × RunIs r k
bracket_is k h e = rw e at h

-- so what holds of an empty bracket and of one with ends holds of that cell
pub bracket_by : (P : Cell → Type 0) (k : Cell) {t : Term} {r : Run} → TermIs t k → t ≡ Bracket r
    → P empty → ((l r : ℕ) → P (ends l r)) → P k
bracket_by P (code a) h e p q = absurd (true≢false (bracket_is (code a) h e).0)
bracket_by P empty h e p q = p
bracket_by P (ends l r) h e p q = q l r
