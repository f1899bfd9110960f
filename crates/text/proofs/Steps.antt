-- What the term writer and the expression writer do, step by step; t has the terms of the cells. In order:
--   with_space, stop_here                            a page by its space;  the end before a bracket
--   passed_on, page_short                            the answer that `?` passes on;  nothing more is written after it
--   symbol_written, deep_stopped, bracket_written    a term: a symbol, a bracket that is one too many, any other
--   open_stopped, inside_stopped                     a bracket in which a text stopped
--   unwritten, finished                              what is left of an expression where i of its terms are written,
--                                                    and the page once it is
--   one_more, left_stopped                           the loop over its cells: one term more, and the end
--   gap_stopped, term_stopped                        a text that stopped before a term, or in one
--   term_filled, symbol_arm, bracket_arm             the term of a cell in a sound store, by the arms of a `match`
--   register_within, register_is                     the cells of a register, and what it denotes
--   register_none, register_some                     whether there is such a register
-- Assumes nothing.
use mathlib.Core.Path.{◌≡◌, refl, sym, ap, ◌∙◌, subst}
use mathlib.Core.Logic.{◌≢◌}
use mathlib.Core.Bool.{Bool, true, false, true≢false}
use mathlib.Core.List.{List, [], ◌∷◌, ◌++◌}
use Rattle.std.specs.Prelude.{Result, Err, Option, Some, None, MatchOption}
use Rattle.std.specs.Option.{ok_or}
use Rattle.std.proofs.lemmas.Option.{MatchOption-at_some}
use Rattle.std.specs.Result.{IsErrAnd}
use Rattle.std.proofs.lemmas.Result.{err_from_is_err_and}
use Prim.Native.Nat.{ℕ, zero, suc, ◌+◌, ◌-◌, ◌≤◌, ◌<◌}
use native.Mathlib.Omega.{arith}
use Rattle.octets.specs.Decimal.{decimal}
use Rattle.octets.specs.Space.{Space}
use Rattle.octets.proofs.Final.{only_digits}
use Rattle.meaning.specs.Limits.{first_heap_cell}
use Rattle.meaning.specs.Expr.{Expr, nothing, symbol, parens, append, terms}
use Rattle.meaning.specs.Sound.{Cell, code, empty, ends, at, Sound, start, size}
use Rattle.meaning.specs.Meaning.{run, inside, term_of, term_at, meaning}
use Rattle.meaning.specs.Text.{text}
use Rattle.meaning.proofs.sound.Cells.{TermIn, good, term_of_bracket}
use Rattle.meaning.proofs.actions.Writing.{term_law}
use Rattle.meaning.proofs.text.Texts.{tail, text_append, gap_append, term_of_filled}
use Rattle.store.specs.Holds.{RunIs, is_code, TermIs}
use Rattle.store.specs.declared.Term.{Term}
use Rattle.store.specs.declared.Term.TheVariants.{Symbol, Bracket}
use Rattle.store.specs.declared.Run.{Run}
use Rattle.store.specs.declared.register.Register.{Register}
use Rattle.store.proofs.Sounds.{first_heap_cell_pos}
use Rattle.store.proofs.Held.{symbol_is, bracket_is}
use Rattle.text.specs.Page.{Page, page, plain, written, halted, stopped, between, writes, Within}
use Rattle.text.specs.declared.NoText.{NoText}
use Rattle.text.specs.declared.NoText.TheVariants.{NoRegister}
use Rattle.text.specs.declared.writers.Stop.{Stop}
use Rattle.text.specs.declared.writers.Stop.TheVariants.{ShortSpace, TooDeep}
use Rattle.text.proofs.Pages.{plain_same, writes_stopped, writes_space, writes_digits, writes_deep, writes_bracket}
use Rattle.text.proofs.Pages.{writes_text}

-- ---- a page by its space

pub with_space : (d : Bool) {s s' : Space} → s ≡ s'
    → ◌≡◌ {A = Page} (record { space = s; deep = d }) (record { space = s'; deep = d })
with_space d e = ap {B = Page} (λ (s : Space). record { space = s; deep = d }) e

pub stop_here : (g : Page) → g.space.short ≡ false → halted g ≡ stopped g
unfolding stopped
stop_here g e = rw e refl

-- ---- the answer that `?` passes on, and that nothing more is written after it

pub passed_on : (out : List ℕ) (r : Result ℕ Stop) (stop : Stop) → IsErrAnd r (λ y. y ≡ stop)
    → page out r ≡ page out (Err stop)
passed_on out r stop h = let p = err_from_is_err_and r h in rw (p.1, p.2) refl

pub page_short : (out : List ℕ) (stop : Stop) → (page out (Err stop)).space.short ≡ true
page_short out (ShortSpace place) = refl
page_short out (TooDeep place) = refl

-- ---- a term

module _ (left : ℕ) (x : Expr) (g : Page) where
  pub symbol_written : (a : ℕ) (g' : Page) → x ≡ symbol a nothing → g' ≡ written (decimal a) g
      → g' ≡ writes left (text x) g
  symbol_written a g' e h = rw e (h ∙ sym (writes_digits left (decimal a) [] g (only_digits a)))

  pub deep_stopped : (i : Expr) (g' : Page) → x ≡ parens i nothing → left ≡ 0 → g' ≡ stopped g
      → g' ≡ writes left (text x) g
  deep_stopped i g' e z h = rw (e, z) (h ∙ sym (writes_deep (text i ++ (41 ∷ [])) g))

  pub bracket_written : (i : Expr) (g₁ g₂ g₃ : Page) → x ≡ parens i nothing → left ≢ 0 → g₁ ≡ plain 40 g
      → g₂ ≡ writes (left - 1) (text i) g₁ → g₃ ≡ plain 41 g₂ → g₃ ≡ writes left (text x) g
  bracket_written i g₁ g₂ g₃ e n p q r =
      let s : left ≡ suc (left - 1) = omega (arith, n) in
      subst (λ (m : ℕ). g₃ ≡ writes m (text x) g) (sym s)
      (rw (e, writes_bracket (text i) [] (left - 1) g (writes_text i)) (r ∙ rw (q, p) refl))

  pub open_stopped : (i : Expr) (g₁ : Page) → x ≡ parens i nothing → left ≢ 0 → g₁.space.short ≡ true → g₁ ≡ plain 40 g
      → g₁ ≡ writes left (text x) g
  open_stopped i g₁ e n h p =
      bracket_written i g₁ g₁ g₁ e n p (sym (writes_stopped g₁ h (left - 1) (text i))) (sym (plain_same g₁ h 41))

  pub inside_stopped : (i : Expr) (g₁ g₂ : Page) → x ≡ parens i nothing → left ≢ 0 → g₂.space.short ≡ true
      → g₁ ≡ plain 40 g → g₂ ≡ writes (left - 1) (text i) g₁ → g₂ ≡ writes left (text x) g
  inside_stopped i g₁ g₂ e n h p q = bracket_written i g₁ g₂ g₂ e n p q (sym (plain_same g₂ h 41))

-- ---- the loop over the cells of an expression

-- the bytes of what is left of an expression, where i of its terms are written
abbrev pub unwritten : ℕ → Expr → List ℕ
unwritten zero e = text e
unwritten (suc i) e = tail e

left_more : (left i : ℕ) (x e : Expr) (g g₁ g₂ : Page) → 0 < terms x → g₁ ≡ between i g → g₂ ≡ writes left (text x) g₁
    → writes left (unwritten i (append x e)) g ≡ writes left (tail e) g₂
left_more left zero x e g g₁ g₂ h p q =
    ap (λ (t : List ℕ). writes left t g) (text_append x e h)
    ∙ (writes_text x left (tail e) g ∙ ap (writes left (tail e)) (rw (q, p) refl))
left_more left (suc i) x e g g₁ g₂ h p q =
    rw (gap_append x e h, text_append x e h)
    (writes_space left (text x ++ tail e) g
    ∙ (writes_text x left (tail e) (plain 32 g) ∙ ap (writes left (tail e)) (rw (q, p) refl)))

module _ (left : ℕ) (t : ℕ → Expr) (l n : ℕ) where
  -- the page g once what is left is written
  abbrev pub finished : ℕ → Page → Page
  finished i g = writes left (unwritten i (run t (l + i) (n - i))) g

  pub one_more : (i : ℕ) (g g₁ g₂ x : Page) → i < n → 0 < terms (t (l + i)) → g₁ ≡ between i g
      → g₂ ≡ writes left (text (t (l + i))) g₁ → finished i g ≡ x → finished (i + 1) g₂ ≡ x
  one_more i g g₁ g₂ x h s p q k =
      let a : n - i ≡ suc (n - suc i) = omega arith in
      let b : i + 1 ≡ suc i = omega arith in
      let c : l + suc i ≡ suc (l + i) = omega arith in
      rw (b, c) (sym (left_more left i (t (l + i)) (run t (suc (l + i)) (n - suc i)) g g₁ g₂ s p q) ∙ (rw a at k))

  pub left_stopped : (i : ℕ) (g x : Page) → g.space.short ≡ true → finished i g ≡ x → g ≡ x
  left_stopped i g x h k = sym (writes_stopped g h left (unwritten i (run t (l + i) (n - i)))) ∙ k

  pub term_stopped : (i : ℕ) (g g₁ g₂ x : Page) → i < n → 0 < terms (t (l + i)) → g₂.space.short ≡ true
      → g₁ ≡ between i g → g₂ ≡ writes left (text (t (l + i))) g₁ → finished i g ≡ x → g₂ ≡ x
  term_stopped i g g₁ g₂ x h s w p q k = left_stopped (i + 1) g₂ x w (one_more i g g₁ g₂ x h s p q k)

  pub gap_stopped : (i : ℕ) (g g₁ x : Page) → i < n → 0 < terms (t (l + i)) → g₁.space.short ≡ true
      → g₁ ≡ between i g → finished i g ≡ x → g₁ ≡ x
  gap_stopped i g g₁ x h s w p k =
      term_stopped i g g₁ g₁ x h s w p (sym (writes_stopped g₁ w left (text (t (l + i))))) k

-- ---- the cells of a sound store

inside_of : (t : ℕ → Expr) (k : Cell) → is_code k ≡ false → term_of t k ≡ parens (run t (start k) (size k)) nothing
inside_of t (code a) e = absurd (true≢false e)
inside_of t empty e = refl
inside_of t (ends l r) e = refl

cell_within : (lim top : ℕ) (k : Cell) → lim ≤ top → TermIn first_heap_cell lim k → Within top (start k) (size k)
cell_within lim top (code a) h t i p = absurd (omega arith)
cell_within lim top empty h t i p = absurd (omega arith)
cell_within lim top (ends l r) h t i p = (omega (arith, t.0), omega (arith, t.1, t.2))

module _ (ws : List ℕ) (top : ℕ) (s : Sound first_heap_cell ws top) where
  module _ (c : ℕ) (f : first_heap_cell ≤ c) (l : c < top) where
    term_is : term_at ws c ≡ term_of (term_at ws) (at ws c)
    term_is = term_law first_heap_cell ws top first_heap_cell_pos s c f l

    pub term_filled : 0 < terms (term_at ws c)
    term_filled = rw term_is (term_of_filled (term_at ws) (at ws c))

    -- the arms of a `match` on the cell's term
    pub symbol_arm : {m : Term} {a : ℕ} → TermIs m (at ws c) → m ≡ Symbol a → term_at ws c ≡ symbol a nothing
    symbol_arm h e = term_is ∙ ap (term_of (term_at ws)) (symbol_is (at ws c) h e)

    pub bracket_arm : {m : Term} {r : Run} → TermIs m (at ws c) → m ≡ Bracket r
        → (term_at ws c ≡ parens (run (term_at ws) r.start r.size) nothing) × Within top r.start r.size
    bracket_arm {m} {r} h e =
        let b = bracket_is (at ws c) h e in
        let g = (good first_heap_cell ws top first_heap_cell_pos s).heap c f l in (
          rw (b.1.0, b.1.1) (term_is ∙ inside_of (term_at ws) (at ws c) b.0),
          rw (b.1.0, b.1.1) (cell_within c top (at ws c) (omega arith) g),
        )

  module _ (i : ℕ) (h : i < first_heap_cell) (r : Run) (k : RunIs r (at ws i)) where
    pub register_within : Within top r.start r.size
    register_within =
        rw (k.0, k.1) (cell_within top top (at ws i) (omega arith)
        (term_of_bracket first_heap_cell top (at ws i) ((good first_heap_cell ws top first_heap_cell_pos s).regs i h)))

    pub register_is : meaning ws i ≡ run (term_at ws) r.start r.size
    unfolding meaning
    register_is = rw (k.0, k.1) (go (at ws i))
      where
        go : (b : Cell) → inside (term_at ws) b ≡ run (term_at ws) (start b) (size b)
        go (code a) = refl
        go empty = refl
        go (ends x y) = refl

-- ---- whether there is such a register

abbrev Answered : Option Register → ℕ → Type 0
Answered o n = MatchOption o (first_heap_cell ≤ n) (λ r. r.cell ≡ n)

pub register_none : (o : Option Register) (n : ℕ) (why : NoText) → Answered o n → Err why ≡ ok_or o NoRegister
    → (first_heap_cell ≤ n) × (why ≡ NoRegister)
register_none None n why h e = (h, cc)
register_none (Some r) n why h e = absurd (cc)

pub register_some : (o : Option Register) (n : ℕ) (r : Register) → Answered o n → o ≡ Some r → r.cell ≡ n
register_some o n r h e = MatchOption-at_some (first_heap_cell ≤ n) (λ (x : Register). x.cell ≡ n) r e h
