-- One term laid: a bracket, whose contents are laid first, or a symbol. In order:
--   room_high, own_inside                         where a term stands, there is a free cell for it
--   left_some, bracket_ready, can_lay_inside      a bracket may be open, and its contents may be laid
--   inside_long, inside_small                     what laying them leaves
--   bracket_laid, code_small, symbol_laid         the term laid
-- Assumes nothing.
use mathlib.Core.Path.{◌≡◌, refl, sym, ap, ap₂, ◌∙◌, subst}
use mathlib.Core.List.{List, [], ◌∷◌, ◌++◌, append_assoc, append-nil}
use Prim.Native.Nat.{ℕ, zero, suc, ◌+◌, ◌-◌, ◌*◌, ◌^◌, ◌≤◌, ◌<◌}
use native.Mathlib.Omega.{arith}
use lib.ListN.{length, drop}
use Rattle.meaning.specs.Limits.{limit}
use Rattle.meaning.specs.Expr.{Expr, nothing, symbol, parens, terms}
use Rattle.meaning.specs.Sound.{Cell, code}
use Rattle.octets.specs.Decimal.{decimal}
use Rattle.meaning.specs.Text.{gap, text, Readable}
use Rattle.meaning.specs.Judge.{is_digit}
use Rattle.meaning.specs.Lay.{all_terms, last_below, laid}
use Rattle.meaning.specs.Actions.{put}
use Rattle.meaning.proofs.sound.Cells.{code_fits}
use Rattle.meaning.proofs.reader.Moves.{digit_range}
use Rattle.typing.specs.Cells.{two, two_of, LieFrom, Kept}
use Rattle.typing.specs.Scanning.{less_space, NoBracket, code_at, less_digits}
use Rattle.typing.specs.Laying.{Ends, Ready, TermLaidAs, CanLay, IsLaid}
use Rattle.typing.specs.declared.laying.Laid.{Laid}
use Rattle.typing.proofs.Bytes.{NoDigit, decimal_code, decimal_left, decimal_first}
use Rattle.typing.proofs.Twos.{kept_then, kept_wide, kept_put, two_put_same, lie_kept}
use Rattle.meaning.proofs.lay.Places.{laid_length, deep_length}
use Rattle.typing.proofs.Going.{some_terms}

-- ---- what follows a term

-- one space, if a term follows
space_gap : (r : Expr) (rest : List ℕ) → Ends rest → less_space ((gap r ++ text r) ++ rest) ≡ text r ++ rest
space_gap nothing [] o = refl
space_gap nothing (b ∷ bs) o = rw o refl
space_gap (symbol a r) rest o = refl
space_gap (parens i r) rest o = refl

gap_no_digit : (r : Expr) (rest : List ℕ) → Ends rest → NoDigit ((gap r ++ text r) ++ rest)
unfolding is_digit
gap_no_digit nothing [] o = tt
gap_no_digit nothing (b ∷ bs) o = rw o refl
gap_no_digit (symbol a r) rest o = refl
gap_no_digit (parens i r) rest o = refl

symbol_bytes : (a : ℕ) (r : Expr) (rest : List ℕ)
    → text (symbol a r) ++ rest ≡ decimal a ++ ((gap r ++ text r) ++ rest)
symbol_bytes a r rest = append_assoc (decimal a) (gap r ++ text r) rest

parens_bytes : (i r : Expr) (rest : List ℕ)
    → text (parens i r) ++ rest ≡ 40 ∷ text i ++ (41 ∷ (gap r ++ text r) ++ rest)
parens_bytes i r rest = ap (λ (l : List ℕ). 40 ∷ l) (append_assoc (text i) (41 ∷ gap r ++ text r) rest)

some_left : (left : ℕ) (i e : Expr) → Readable left (parens i e) → 1 ≤ left
some_left zero i e h = absurd h
some_left (suc left) i e h = omega arith

inner_readable : (left : ℕ) (i e : Expr) → Readable left (parens i e) → Readable (left - 1) i
inner_readable zero i e h = absurd h
inner_readable (suc left) i e h = let n : suc left - 1 ≡ left = omega arith in rw n h.0

-- ---- a term

module _ {ws bs : List ℕ} {low high left : ℕ} where
  pub room_high : (e : Expr) (rest : List ℕ) → Ready ws bs low high left e rest → 0 < terms e → 1 ≤ high
  room_high e rest r f = omega (arith, r.fits, some_terms e f)

  pub own_inside : (e : Expr) (rest : List ℕ) → Ready ws bs low high left e rest → 0 < terms e
      → 2 * (high - 1) + 1 < length ws
  own_inside e rest r f = omega (arith, r.fits, some_terms e f, r.room)

-- a bracket, whose text is the bytes cs behind the first
module _ {ws bs cs : List ℕ} {low high left : ℕ} (o : bs ≡ 40 ∷ cs) where
  -- a symbol's text begins with a digit
  no_symbol : (a : ℕ) (e : Expr) (rest : List ℕ) → Ready ws bs low high left (symbol a e) rest → ⊥
  no_symbol a e rest r =
      let d = decimal_first a ((gap e ++ text e) ++ rest) (sym o ∙ (r.bytes ∙ symbol_bytes a e rest)) in
      omega (arith, (digit_range 40 d).0)

  -- it may be open only where one more may
  pub left_some : (e : Expr) (rest : List ℕ) → Ready ws bs low high left e rest → 0 < terms e → 1 ≤ left
  left_some nothing rest r f = absurd (omega arith)
  left_some (symbol a e) rest r f = absurd (no_symbol a e rest r)
  left_some (parens i e) rest r f = some_left left i e r.readable

  pub bracket_ready : (i e : Expr) (rest : List ℕ) → Ready ws bs low high left (parens i e) rest
      → Ready ws cs low (high - 1) (left - 1) i (41 ∷ (gap e ++ text e) ++ rest)
  bracket_ready i e rest r = record {
    bytes = let b = sym o ∙ (r.bytes ∙ parens_bytes i e rest) in cc;
    over = refl;
    readable = inner_readable left i e r.readable;
    fits = omega (arith, r.fits);
    room = omega (arith, r.room);
    small = omega (arith, r.small);
  }

  pub can_lay_inside : (e : Expr) (rest : List ℕ) → Ready ws bs low high left e rest → 0 < terms e
      → CanLay ws cs low (high - 1) (left - 1)
  can_lay_inside nothing rest r f = absurd (omega arith)
  can_lay_inside (symbol a e) rest r f = absurd (no_symbol a e rest r)
  can_lay_inside (parens i e) rest r f = (i, 41 ∷ (gap e ++ text e) ++ rest, bracket_ready i e rest r)

  -- its own cell, and the byte that closes it
  module _ {vs : List ℕ} {l : Laid} (k : IsLaid ws cs low (high - 1) (left - 1) l vs) where
    module _ (e : Expr) (rest : List ℕ) (r : Ready ws bs low high left e rest) (f : 0 < terms e) where
      pub inside_long : length vs ≡ length ws
      inside_long = let c = can_lay_inside e rest r f in (k c.0 c.1 c.2).kept.long

      pub inside_small : (l.terms ≤ l.end) × (l.end ≤ limit)
      inside_small =
          let c = can_lay_inside e rest r f in
          let m = k c.0 c.1 c.2 in (
            omega (arith, m.end, m.count, deep_length low c.0),
            omega (arith, m.end, c.2.fits, c.2.small),
          )

    module _ {us ds : List ℕ} (p : us ≡ put vs (high - 1) (last_below l.end l.terms))
        (q : ds ≡ less_space (drop 1 l.rest.now)) where
      laid_bracket : (i e : Expr) (rest : List ℕ) → Ready ws bs low high left (parens i e) rest
          → TermLaidAs ws low high (parens i e) rest ds l.end us
      laid_bracket i e rest r =
          let m = k i (41 ∷ (gap e ++ text e) ++ rest) (bracket_ready i e rest r) in
          let x = last_below l.end l.terms in
          let w = own_inside (parens i e) rest r (omega arith) in
          let w' : us ≡ put vs (high - 1) x = p in
          let z = laid_length low i in
          record {
            next = q ∙ (ap (λ (b : List ℕ). less_space (drop 1 b)) m.next ∙ space_gap e rest r.over);
            end = m.end ∙ ap (λ (j : ℕ). low + j) (sym z ∙ ap length (sym (append-nil (laid low i))));
            cells =
                subst (λ (xs : List Cell). LieFrom us low xs) (sym (append-nil (laid low i)))
                (subst (λ (y : List ℕ). LieFrom y low (laid low i)) (sym w')
                (lie_kept vs (put vs (high - 1) x) low (laid low i)
                (λ c g h. (kept_put vs (high - 1) x).below c (omega (arith, r.fits, z))) m.cells));
            waits = (
              subst (λ (y : List ℕ). two y (high - 1) ≡ two_of (last_below (low + all_terms i) (terms i))) (sym w')
                  (two_put_same vs (high - 1) x (omega (arith, w, m.kept.long))
                  ∙ ap₂ (λ (j t : ℕ). two_of (last_below j t)) m.end m.count),
              tt,
            );
            kept =
                subst (λ (y : List ℕ). Kept ws low high y) (sym w')
                (kept_then (kept_wide m.kept (omega arith) (omega arith)) (kept_put vs (high - 1) x)
                (omega (arith, r.fits)) (omega (arith, r.fits)));
          }

      pub bracket_laid : (e : Expr) (rest : List ℕ) → Ready ws bs low high left e rest → 0 < terms e
          → TermLaidAs ws low high e rest ds l.end us
      bracket_laid nothing rest r f = absurd (omega arith)
      bracket_laid (symbol a e) rest r f = absurd (no_symbol a e rest r)
      bracket_laid (parens i e) rest r f = laid_bracket i e rest r

-- a symbol, where no bracket opens
module _ {ws bs : List ℕ} {low high left : ℕ} (h : NoBracket bs) where
  no_bracket : (i e : Expr) (rest : List ℕ) → Ready ws bs low high left (parens i e) rest → ⊥
  no_bracket i e rest r = subst NoBracket (r.bytes ∙ parens_bytes i e rest) h refl

  code_is : (a : ℕ) (e : Expr) (rest : List ℕ) → Ready ws bs low high left (symbol a e) rest → code_at 0 bs ≡ a
  code_is a e rest r =
      ap (code_at 0) (r.bytes ∙ symbol_bytes a e rest)
      ∙ decimal_code a ((gap e ++ text e) ++ rest) (gap_no_digit e rest r.over)

  left_is : (a : ℕ) (e : Expr) (rest : List ℕ) → Ready ws bs low high left (symbol a e) rest
      → less_digits bs ≡ (gap e ++ text e) ++ rest
  left_is a e rest r =
      ap less_digits (r.bytes ∙ symbol_bytes a e rest)
      ∙ decimal_left a ((gap e ++ text e) ++ rest) (gap_no_digit e rest r.over)

  pub code_small : (e : Expr) (rest : List ℕ) → Ready ws bs low high left e rest → 0 < terms e → code_at 0 bs < 2 ^ 28
  code_small nothing rest r f = absurd (omega arith)
  code_small (symbol a e) rest r f = omega (arith, code_is a e rest r, code_fits a r.readable.0)
  code_small (parens i e) rest r f = absurd (no_bracket i e rest r)

  module _ {us cs ds : List ℕ} {n : ℕ} (k : n ≡ code_at 0 bs) (l : cs ≡ less_digits bs)
      (p : us ≡ put ws (high - 1) (code n)) (q : ds ≡ less_space cs) where
    laid_symbol : (a : ℕ) (e : Expr) (rest : List ℕ) → Ready ws bs low high left (symbol a e) rest
        → TermLaidAs ws low high (symbol a e) rest ds low us
    laid_symbol a e rest r =
        let x = code n in
        record {
          next = q ∙ (ap less_space (l ∙ left_is a e rest r) ∙ space_gap e rest r.over);
          end = omega arith;
          cells = tt;
          waits = (
            subst (λ (y : List ℕ). two y (high - 1) ≡ two_of (code a)) (sym p)
                (two_put_same ws (high - 1) x (own_inside (symbol a e) rest r (omega arith))
                ∙ ap (λ (j : ℕ). two_of (code j)) (k ∙ code_is a e rest r)),
            tt,
          );
          kept =
              subst (λ (y : List ℕ). Kept ws low high y) (sym p)
              (kept_wide (kept_put ws (high - 1) x) (omega (arith, r.fits)) (omega (arith, r.fits)));
        }

    pub symbol_laid : (e : Expr) (rest : List ℕ) → Ready ws bs low high left e rest → 0 < terms e
        → TermLaidAs ws low high e rest ds low us
    symbol_laid nothing rest r f = absurd (omega arith)
    symbol_laid (symbol a e) rest r f = laid_symbol a e rest r
    symbol_laid (parens i e) rest r f = absurd (no_bracket i e rest r)
