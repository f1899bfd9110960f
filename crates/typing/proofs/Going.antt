-- An expression laid term by term: what is done, what is to do, and what waits. In order:
--   Going                                the terms that are laid or wait, and those to come
--   some_terms, filled_goes_on           an expression with a term in it takes a cell, and its text goes on
--   begin, room, ready_term, filled      before the first term;  what is needed for the next
--   onward, finish                       one term more;  the last term is done, and what waits is turned round
-- Assumes nothing.
use mathlib.Core.Path.{◌≡◌, refl, sym, ap, ◌∙◌, subst}
use mathlib.Core.Bool.{true, false, false≢true}
use mathlib.Core.List.{List, [], ◌∷◌, ◌++◌, append_assoc}
use Prim.Native.Nat.{ℕ, zero, suc, ◌+◌, ◌-◌, ◌≤◌, ◌<◌}
use native.Mathlib.Omega.{arith}
use lib.ListN.{length, length-append}
use Rattle.std.proofs.Common.{Bor}
use Rattle.meaning.specs.Expr.{Expr, nothing, symbol, parens, append, terms, first_term, less_first}
use Rattle.meaning.specs.Sound.{Cell}
use Rattle.octets.specs.Decimal.{decimal}
use Rattle.meaning.specs.Text.{gap, text, Readable}
use Rattle.meaning.specs.Lay.{all_terms, own_cells, deep_cells, laid}
use Rattle.meaning.proofs.meaning.Terms.{append_append, append_nothing, terms_append}
use Rattle.typing.specs.Cells.{LieFrom, LieBelow, Kept, Turned}
use Rattle.typing.specs.Scanning.{goes_on}
use Rattle.typing.specs.Laying.{Ends, Ready, LaidAs, TermLaidAs}
use Rattle.typing.proofs.Bytes.{decimal_goes_on}
use Rattle.typing.proofs.Twos.{kept_all, kept_then, lie_append, lie_kept, wait_append, wait_kept}
use Rattle.typing.proofs.Twos.{lie_turned}
use Rattle.meaning.proofs.lay.Places.{own_length, deep_length, all_terms_append, after, own_append, deep_append}

pub record Going (ws : List ℕ) (low high left : ℕ) (e : Expr) (rest vs next : List ℕ) (end wait : ℕ) : Type 0 where
  -- the terms that are laid or wait, and those to come
  pub done : Expr
  pub todo : Expr
  pub whole : e ≡ append done todo
  pub bytes : next ≡ text todo ++ rest
  pub readable : Readable left todo
  -- the contents of brackets so far, and the cells that wait
  pub here : end ≡ low + length (deep_cells low done)
  pub there : wait + terms done ≡ high
  pub cells : LieFrom vs low (deep_cells low done)
  pub waits : LieBelow vs high (own_cells low done)
  pub kept : Kept ws low high vs

-- ---- the first term of what is to come

first_rest : (e : Expr) → append (first_term e) (less_first e) ≡ e
first_rest nothing = refl
first_rest (symbol a r) = refl
first_rest (parens i r) = refl

first_terms : (e : Expr) → 0 < terms e → terms (first_term e) ≡ 1
first_terms nothing f = absurd (omega arith)
first_terms (symbol a r) f = refl
first_terms (parens i r) f = refl

rest_readable : (left : ℕ) (e : Expr) → Readable left e → Readable left (less_first e)
rest_readable left nothing h = tt
rest_readable left (symbol a r) h = h.1
rest_readable zero (parens i r) h = absurd h
rest_readable (suc left) (parens i r) h = h.1

pub some_terms : (e : Expr) → 0 < terms e → 1 ≤ all_terms e
some_terms nothing f = absurd (omega arith)
some_terms (symbol a r) f = omega arith
some_terms (parens i r) f = omega arith

-- the text goes on exactly where there is a term
pub filled_goes_on : (e : Expr) (rest : List ℕ) → 0 < terms e → goes_on (text e ++ rest) ≡ true
filled_goes_on nothing rest f = absurd (omega arith)
filled_goes_on (symbol a r) rest f =
    ap goes_on (append_assoc (decimal a) (gap r ++ text r) rest) ∙ decimal_goes_on a ((gap r ++ text r) ++ rest)
filled_goes_on (parens i r) rest f = refl

over_stops : (rest : List ℕ) → Ends rest → goes_on rest ≡ false
over_stops [] h = refl
over_stops (b ∷ bs) h = rw h refl

goes_on_filled : (e : Expr) (rest : List ℕ) → Ends rest → goes_on (text e ++ rest) ≡ true → 0 < terms e
goes_on_filled nothing rest o g = absurd (false≢true (sym (over_stops rest o) ∙ g))
goes_on_filled (symbol a r) rest o g = omega arith
goes_on_filled (parens i r) rest o g = omega arith

stops_nothing : (e : Expr) (rest : List ℕ) → goes_on (text e ++ rest) ≡ false → e ≡ nothing
stops_nothing nothing rest g = refl
stops_nothing (symbol a r) rest g = absurd (false≢true (sym g ∙ filled_goes_on (symbol a r) rest (omega arith)))
stops_nothing (parens i r) rest g = absurd (false≢true (sym g ∙ filled_goes_on (parens i r) rest (omega arith)))

-- ---- turns

pub begin : {ws bs : List ℕ} {low high left : ℕ} {e : Expr} {rest : List ℕ} → Ready ws bs low high left e rest
    → Going ws low high left e rest ws bs low high
begin {ws} {low = low} {high = high} {e = e} r = record {
  done = nothing;
  todo = e;
  whole = refl;
  bytes = r.bytes;
  readable = r.readable;
  here = omega arith;
  there = omega arith;
  cells = tt;
  waits = tt;
  kept = kept_all ws low high;
}

module _ {ws bs : List ℕ} {low high left : ℕ} {e : Expr} {rest : List ℕ} (r : Ready ws bs low high left e rest)
    {vs next : List ℕ} {end wait : ℕ} (g : Going ws low high left e rest vs next end wait) where
  -- there is room for what is to come
  pub room : end + all_terms g.todo ≤ wait
  room =
      omega (
        arith,
        r.fits,
        ap all_terms g.whole,
        all_terms_append g.done g.todo,
        deep_length low g.done,
        g.here,
        g.there,
      )

  pub ready_term : Ready vs next end wait left g.todo rest
  ready_term = record {
    bytes = g.bytes;
    over = r.over;
    readable = g.readable;
    fits = room;
    room = omega (arith, r.room, g.kept.long, g.there);
    small = omega (arith, r.small, g.there);
  }

  pub filled : goes_on next ≡ true → 0 < terms g.todo
  filled h = goes_on_filled g.todo rest r.over (sym (ap goes_on g.bytes) ∙ h)

  pub end_low : low ≤ end
  end_low = omega (arith, g.here)

  -- one term more
  module _ {us after-bytes : List ℕ} {after-end : ℕ} (f : 0 < terms g.todo)
      (t : TermLaidAs vs end wait g.todo rest after-bytes after-end us) where
    abbrev x : Expr
    x = first_term g.todo

    one_less : wait - 1 + 1 ≡ wait
    one_less = omega (arith, room, some_terms g.todo f)

    own_count : length (own_cells low g.done) ≡ terms g.done
    own_count = own_length low g.done

    after_is : after low g.done ≡ end
    after_is = sym g.here

    deep_more : deep_cells low (append g.done x) ≡ deep_cells low g.done ++ deep_cells end x
    deep_more =
        deep_append low g.done x
        ∙ ap (λ (n : ℕ). deep_cells low g.done ++ deep_cells n x) after_is

    own_more : own_cells low (append g.done x) ≡ own_cells low g.done ++ own_cells end x
    own_more =
        own_append low g.done x
        ∙ ap (λ (n : ℕ). own_cells low g.done ++ own_cells n x) after_is

    cells_more : LieFrom us low (deep_cells low g.done ++ deep_cells end x)
    cells_more =
        lie_append us low (deep_cells low g.done) (deep_cells end x)
        (lie_kept vs us low (deep_cells low g.done) (λ c h k. t.kept.below c (omega (arith, g.here))) g.cells)
        (subst (λ (n : ℕ). LieFrom us n (deep_cells end x)) g.here t.cells)

    waits_more : LieBelow us high (own_cells low g.done ++ own_cells end x)
    waits_more =
        let w : wait ≡ high - length (own_cells low g.done) = omega (arith, g.there, own_count) in
        wait_append us high (own_cells low g.done) (own_cells end x)
        (wait_kept vs us high (own_cells low g.done) (omega (arith, g.there, own_count))
        (λ c h k. t.kept.above c (omega (arith, g.there, own_count))) g.waits)
        (subst (λ (n : ℕ). LieBelow us n (own_cells end x)) w t.waits)

    pub onward : Going ws low high left e rest us after-bytes after-end (wait - 1)
    onward = record {
      done = append g.done x;
      todo = less_first g.todo;
      whole =
          g.whole
          ∙ (ap (λ (y : Expr). append g.done y) (sym (first_rest g.todo))
          ∙ sym (append_append g.done x (less_first g.todo)));
      bytes = t.next;
      readable = rest_readable left g.todo g.readable;
      here =
          omega (
            arith,
            t.end,
            g.here,
            ap length deep_more,
            length-append (deep_cells low g.done) (deep_cells end x),
          );
      there = omega (arith, g.there, one_less, terms_append g.done x, first_terms g.todo f);
      cells = subst (λ (l : List Cell). LieFrom us low l) (sym deep_more) cells_more;
      waits = subst (λ (l : List Cell). LieBelow us high l) (sym own_more) waits_more;
      kept = kept_then g.kept t.kept end_low (omega (arith, g.there));
    }

  -- the last term is done, and what waits is turned round
  module _ {us : List ℕ} (h : goes_on next ≡ false) (t : Turned vs end high (high - wait) us) where
    none : g.todo ≡ nothing
    none = stops_nothing g.todo rest (sym (ap goes_on g.bytes) ∙ h)

    all : e ≡ g.done
    all = g.whole ∙ (ap (λ (y : Expr). append g.done y) none ∙ append_nothing g.done)

    count : high - wait ≡ terms g.done
    count = omega (arith, g.there)

    turned : LieFrom us (low + length (deep_cells low g.done)) (own_cells low g.done)
    turned =
        subst (λ (n : ℕ). LieFrom us n (own_cells low g.done)) g.here
        (lie_turned vs us end high (own_cells low g.done)
        (λ i l. t.cells i (omega (arith, count, own_length low g.done))) g.waits)

    cells_all : LieFrom us low (laid low g.done)
    cells_all =
        lie_append us low (deep_cells low g.done) (own_cells low g.done)
        (lie_kept vs us low (deep_cells low g.done) (λ c p q. t.kept.below c (omega (arith, g.here))) g.cells)
        turned

    pub finish : (b : Bor (List ℕ)) → b.now ≡ next
        → LaidAs ws low high e rest (record { rest = b; end = end + (high - wait); terms = high - wait }) us
    finish b i = record {
      next = i ∙ (g.bytes ∙ ap (λ (y : Expr). text y ++ rest) none);
      end = omega (arith, g.here, count, deep_length low g.done, ap all_terms all);
      count = count ∙ ap terms (sym all);
      cells = subst (λ (y : Expr). LieFrom us low (laid low y)) (sym all) cells_all;
      kept = kept_then g.kept t.kept end_low (omega arith);
    }
