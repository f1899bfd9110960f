-- What HEAD, REST, OPEN and FIRST do, by the terms of the register that they go by. In order:
--   on_empty                    14 where it has no term;  refused_empty  as the exit of `?` has it
--   readable                    its first cell may be read as a term
--   on_full                     else by its ends
--   rest_one, rest_more         REST where it has one term, and where it has more
--   open_symbol, open_bracket   OPEN by the first term
--   code_symbol, code_bracket   FIRST by the first term
-- Assumes nothing.
use Rattle.std.specs.Prelude.{Result, Err}
use mathlib.Core.Path.{◌≡◌, refl, ◌∙◌}
use mathlib.Core.Logic.{◌≢◌}
use mathlib.Core.List.{List}
use Prim.Native.Nat.{ℕ, ◌+◌, ◌-◌, ◌*◌, ◌≤◌, ◌<◌}
use native.Mathlib.Numerals.{add-one}
use native.Mathlib.Omega.{arith}
use lib.ListN.{length}
use borrow.Author.Tests.{lt-ltb, le-ltb}
use Rattle.meaning.specs.Limits.{first_heap_cell}
use Rattle.meaning.specs.Sound.{empty, ends, at, size, start}
use Rattle.meaning.specs.Verdicts.{Done, done, refused, only}
use Rattle.meaning.specs.Actions.{on_ends, put, copy, rest, open_term, open_first, code_term, code_first}
use Rattle.store.specs.Holds.{RunIs, Termed, TermIs}
use Rattle.store.specs.declared.Run.{Run}
use Rattle.store.specs.declared.Term.{Term}
use Rattle.store.specs.declared.Term.TheVariants.{Symbol, Bracket}
use Rattle.store.proofs.Sounds.{heap_termed, heap_inside}
use Rattle.store.proofs.Held.{symbol_is, bracket_by}
use Rattle.store.proofs.Registers.{is_empty_lem, is_full_lem, first_in}
use Rattle.build.specs.Room.{SoundWords}
use Rattle.calls.specs.Answers.{AtAnyTop}
use Rattle.calls.specs.declared.answer.Refusal.{Refusal}
use Rattle.calls.specs.declared.answer.Refusal.TheVariants.{Empty}

module _ {ws : List ℕ} (i : ℕ) (s : SoundWords ws) (h : i < first_heap_cell) where
  -- ---- the register has no term

  on_empty : size (at ws i) ≡ 0 → (top : ℕ) (f : ℕ → ℕ → Done) → on_ends ws top f (at ws i) ≡ refused ws top (only 14)
  on_empty e top f =
      let none : Run = record { start = start (at ws i); size = size (at ws i) } in
      rw (is_empty_lem i none s.1 h (refl, refl) e) refl

  pub refused_empty : {r : Result ℕ Refusal} {why : Refusal} → (y : Refusal) × (r ≡ Err y) × (y ≡ why)
      → (why ≡ Empty) × (size (at ws i) ≡ 0)
      → (f : ℕ → ℕ → ℕ → Done) → AtAnyTop r ws (λ top. on_ends ws top (f top) (at ws i))
  refused_empty p e f top = rw (p.1, p.2, e.0, on_empty e.1 top (f top)) refl

  -- ---- it has terms, the run r

  module _ (r : Run) (k : (r.size ≢ 0) × RunIs r (at ws i)) where
    first_cell : (first_heap_cell ≤ r.start) × (r.start < s.0)
    first_cell = first_in i r s.1 h k.1 k.0

    pub readable : (2 * r.start + 1 < length ws) × Termed ws r.start
    readable = (heap_inside ws s.0 s.1 r.start first_cell.1, heap_termed ws s.0 s.1 r.start first_cell.0 first_cell.1)

    pub on_full : (top : ℕ) (f : ℕ → ℕ → Done) → on_ends ws top f (at ws i) ≡ f r.start (r.start + r.size - 1)
    on_full top f = rw (is_full_lem i r s.1 h k.1 k.0) refl

    pub rest_one : (top d : ℕ) → r.size ≡ 1 → rest ws top d (at ws i) ≡ done (put ws d empty) top 0
    unfolding rest
    rest_one top d e = on_full top _ ∙ rw (le-ltb r.start (r.start + r.size - 1) (omega arith)) refl

    pub rest_more : (top d : ℕ) → r.size ≢ 1
        → rest ws top d (at ws i) ≡ done (put ws d (ends (r.start + 1) (r.start + r.size - 1))) top 0
    unfolding rest
    rest_more top d m =
        on_full top _ ∙ rw (lt-ltb r.start (r.start + r.size - 1) (omega (arith, k.0)), add-one r.start) refl

    -- OPEN and FIRST by the first term, as it was read
    module _ {t : Term} (q : TermIs t (at ws r.start)) where
      pub open_symbol_lem : (top d : ℕ) {a : ℕ} → t ≡ Symbol a
          → open_first ws top d (at ws i) ≡ refused ws top (only 15)
      unfolding open_first open_term
      open_symbol_lem top d e = on_full top _ ∙ rw (symbol_is (at ws r.start) q e) refl

      pub open_bracket_lem : (top d : ℕ) {b : Run} → t ≡ Bracket b
          → open_first ws top d (at ws i) ≡ done (copy ws d r.start) top 0
      unfolding open_first open_term
      open_bracket_lem top d e =
          on_full top _
          ∙ bracket_by (λ b. open_term ws top d r.start b ≡ done (copy ws d r.start) top 0) (at ws r.start) q e
          refl (λ l u. refl)

      pub code_symbol : (top : ℕ) {a : ℕ} → t ≡ Symbol a → code_first ws top (at ws i) ≡ done ws top a
      unfolding code_first code_term
      code_symbol top e = on_full top _ ∙ rw (symbol_is (at ws r.start) q e) refl

      pub code_bracket : (top : ℕ) {b : Run} → t ≡ Bracket b → code_first ws top (at ws i) ≡ refused ws top (only 15)
      unfolding code_first code_term
      code_bracket top e =
          on_full top _
          ∙ bracket_by (λ b. code_term ws top b ≡ refused ws top (only 15)) (at ws r.start) q e refl (λ l u. refl)
