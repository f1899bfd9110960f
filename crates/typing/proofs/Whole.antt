-- A whole text laid, and a text typed in by what the code finds. In order:
--   text_ready, can_lay              a whole text may be laid where there is room for its terms
--   text_long, text_small, text_laid what laying it leaves
--   whole_text, type_whole, type_bad a text that is found whole, or refused
--   register_none, register_some     whether there is such a register
-- Assumes nothing.
use mathlib.Core.Path.{◌≡◌, refl, sym, ap, ◌∙◌, subst}
use mathlib.Core.Bool.{true, false}
use mathlib.Core.List.{List, [], append-nil}
use Prim.Native.Nat.{ℕ, ◌+◌, ◌≤◌}
use native.Mathlib.Omega.{arith}
use lib.ListN.{length}
use Rattle.std.specs.Prelude.{Err, Option, Some, None, MatchOption}
use Rattle.std.specs.Option.{ok_or}
use Rattle.std.proofs.lemmas.Option.{MatchOption-at_some}
use Rattle.meaning.specs.Limits.{first_heap_cell, limit, depth_limit}
use Rattle.meaning.specs.Expr.{Expr}
use Rattle.meaning.specs.Verdicts.{Verdict, done, refused}
use Rattle.meaning.specs.Actions.{put}
use Rattle.meaning.specs.Call.{sought, with_room, carry_out}
use Rattle.meaning.specs.Text.{text}
use Rattle.meaning.specs.Reader.{Reader, reads, blank, advances, at_start, is_whole, stop_verdict}
use Rattle.meaning.specs.Lay.{last_below, laid, puts, new_cells}
use Rattle.meaning.specs.Typed.{typed_of}
use Rattle.meaning.proofs.lay.Places.{laid_length, deep_length}
use Rattle.meaning.proofs.reader.Forth.{text_of_read, reads_place}
use Rattle.store.specs.declared.register.Register.{Register}
use Rattle.build.specs.Room.{Roomy}
use Rattle.typing.specs.Cells.{Kept}
use Rattle.typing.specs.Laying.{Ready, LaidAs, IsLaid, CanLay, expr_of, IsText}
use Rattle.typing.specs.declared.laying.Laid.{Laid}
use Rattle.typing.proofs.Twos.{lie_puts}

-- ---- a whole text laid

module _ {ws bs : List ℕ} {top n : ℕ} (y : Roomy n ws top) (t : IsText bs n) where
  abbrev e : Expr
  e = expr_of bs

  pub text_ready : Ready ws bs top (top + n) depth_limit e []
  text_ready = record {
    bytes = sym (append-nil (text e) ∙ t.bytes);
    over = tt;
    readable = t.readable;
    fits = omega (arith, t.need);
    room = y.1;
    small = omega (arith, y.1, y.0.allowed.small);
  }

  pub can_lay : CanLay ws bs top (top + n) depth_limit
  can_lay = (e, [], text_ready)

  module _ {vs : List ℕ} {l : Laid} (k : IsLaid ws bs top (top + n) depth_limit l vs) where
    m : LaidAs ws top (top + n) e [] l vs
    m = k e [] text_ready

    pub text_long : length vs ≡ length ws
    text_long = m.kept.long

    pub text_small : (l.terms ≤ l.end) × (l.end ≤ limit)
    text_small =
        (omega (arith, m.end, m.count, deep_length top e), omega (arith, m.end, t.need, text_ready.small))

    text_words : vs ≡ puts ws top (laid top e)
    text_words =
        let z = laid_length top e in
        let w : top + n ≡ top + length (laid top e) = omega (arith, z, t.need) in
        lie_puts ws vs top (laid top e) y.0.allowed.even (omega (arith, z, t.need, y.1)) m.cells
        (subst (λ (h : ℕ). Kept ws top h vs) w m.kept)

    pub text_laid : (d : ℕ) {us : List ℕ} → us ≡ put vs d (last_below l.end l.terms)
        → done us l.end 0 ≡ new_cells d e ws top
    unfolding new_cells
    text_laid d p = rw (p, text_words, m.end, m.count) refl

-- ---- what reading finds

module _ (bs : List ℕ) where
  abbrev r : Reader
  r = advances at_start bs

  place : (reads blank bs).place ≡ r
  unfolding blank
  place = reads_place bs blank

  pub whole_text : (n : ℕ) → is_whole r ≡ true → r.total ≡ n → IsText bs n
  unfolding expr_of
  whole_text n w q =
      let k = text_of_read bs (ap is_whole place ∙ w) in
      record {
        bytes = k.bytes;
        readable = k.readable;
        need = sym q ∙ (sym (ap (λ (x : Reader). x.total) place) ∙ k.need);
      }

  module _ (ws : List ℕ) (top d : ℕ) where
    pub type_whole : (n : ℕ) → is_whole r ≡ true → r.total ≡ n
        → with_room first_heap_cell n (sought false d ws) (new_cells d (expr_of bs)) ws top
        ≡ typed_of first_heap_cell ws top d (reads blank bs)
    unfolding typed_of carry_out expr_of
    type_whole n w q = rw (ap is_whole place ∙ w, (whole_text n w q).need) refl

    pub type_bad : (v : Verdict) → is_whole r ≡ false → stop_verdict r ≡ v
        → refused ws top v ≡ typed_of first_heap_cell ws top d (reads blank bs)
    unfolding typed_of
    type_bad v w q = rw (ap is_whole place ∙ w, place, q) refl

-- ---- the register

pub register_none : {E : Type 0} (o : Option Register) (n : ℕ) (why none : E)
    → MatchOption o (first_heap_cell ≤ n) (λ (r : Register). r.cell ≡ n) → Err why ≡ ok_or o none
    → (first_heap_cell ≤ n) × (why ≡ none)
register_none None n why none h e = (h, cc)
register_none (Some r) n why none h e = absurd cc

pub register_some : (o : Option Register) (n : ℕ) (r : Register)
    → MatchOption o (first_heap_cell ≤ n) (λ (x : Register). x.cell ≡ n) → o ≡ Some r → r.cell ≡ n
register_some o n r h e = MatchOption-at_some (first_heap_cell ≤ n) (λ (x : Register). x.cell ≡ n) r e h
