-- The text of an expression, read, gives the expression back. In order:
--   Became                    what the text of an expression leads to, from some draft on
--   goes_on_lem, inside           behind a space;  in a bracket, and after_bracket
--   begins_read               an expression read, from where a term may begin
--   GivesBack                 a text read from its start
--   read_freely, read_back    freely, and where it has no more terms than a text may have
-- Assumes nothing.
use mathlib.Core.Path.{◌≡◌, refl, sym, ap, ◌∙◌, subst}
use mathlib.Core.Bool.{true}
use mathlib.Core.List.{List, ◌∷◌, ◌++◌}
use Prim.Native.Nat.{ℕ, zero, suc, ◌+◌, ◌≤◌, ◌<◌}
use native.Mathlib.Omega.{arith}
use lib.ListN.{length}
use Rattle.octets.specs.Decimal.{decimal}
use Rattle.meaning.specs.Limits.{depth_limit, terms_limit}
use Rattle.meaning.specs.Expr.{Expr, nothing, symbol, parens, append, terms}
use Rattle.meaning.specs.Lay.{all_terms}
use Rattle.meaning.specs.Text.{gap, text, Readable}
use Rattle.meaning.specs.Judge.{Stand, begun, spaced, number, closed, stopped, opens, closes, parts}
use Rattle.meaning.specs.Reader.{at_start, may_end, is_whole, Draft, expression, shut_own, shut_around}
use Rattle.meaning.specs.Reader.{takes, reads, blank}
use Rattle.meaning.proofs.meaning.Terms.{append_append, append_nothing}
use Rattle.meaning.proofs.reader.Freely.{read_free, reads_free, within_free, whole_going}
use Rattle.meaning.proofs.reader.Codes.{reads_append, Ready, Ended, Closing, move_open, move_close, move_part}
use Rattle.meaning.proofs.reader.Codes.{read_as, numbered, code_read}

-- from r the text of e leads to q, where f stood before
record Became (r q : Draft) (f e : Expr) : Type 0 where
  over : Ended q.place.stand
  means : expression q ≡ append f e
  kept : q.around ≡ r.around
  deep : q.place.depth ≡ r.place.depth
  many : q.place.total ≡ r.place.total + all_terms e

-- what is to be shown of an expression: from where a term may begin; and, behind its space, from where one has ended
abbrev BeginsWith : ℕ → Expr → Type 0
BeginsWith left e =
    0 < terms e → (r : Draft) → Ready r.place.stand → r.place.depth + left ≤ depth_limit
    → Became r (reads_free r (text e)) r.own e

abbrev GoesOnWith : ℕ → Expr → Type 0
GoesOnWith left e =
    (r : Draft) → Ended r.place.stand → r.place.depth + left ≤ depth_limit
    → Became r (reads_free r (gap e ++ text e)) (expression r) e

behind_space : (e : Expr) (r : Draft) → Ended r.place.stand
    → Became (takes parts r) (reads_free (takes parts r) (text e)) (expression r) e
    → Became r (reads_free r (32 ∷ text e)) (expression r) e
behind_space e r h b =
    subst (λ (x : Draft). Became r (reads_free x (text e)) (expression r) e)
    (sym (read_as 32 parts r (move_part r.place.stand r.place.depth h)))
    (record { over = b.over; means = b.means; kept = b.kept; deep = b.deep; many = b.many })

goes_on_lem : (left : ℕ) (e : Expr) → BeginsWith left e → GoesOnWith left e
goes_on_lem left nothing f r h d =
    record { over = h; means = sym (append_nothing (expression r)); kept = refl; deep = refl; many = omega arith }
goes_on_lem left (symbol a x) f r h d = behind_space (symbol a x) r h (f (omega arith) (takes parts r) tt d)
goes_on_lem left (parens i x) f r h d = behind_space (parens i x) r h (f (omega arith) (takes parts r) tt d)

-- the contents of a bracket, before it closes
record Inside (r m : Draft) (i : Expr) : Type 0 where
  closing : Closing m.place.stand
  means : expression m ≡ i
  kept : m.around ≡ r.own ∷ r.around
  deep : m.place.depth ≡ suc r.place.depth
  many : m.place.total ≡ suc (r.place.total + all_terms i)

ended_closing : (s : Stand) → Ended s → Closing s
ended_closing begun h = absurd h
ended_closing spaced h = absurd h
ended_closing (number a) h = tt
ended_closing closed h = tt
ended_closing (stopped s) h = absurd h

inside_of : (r m : Draft) (i : Expr) → Became (takes opens r) m nothing i → Inside r m i
inside_of r m i b = record {
  closing = ended_closing m.place.stand b.over;
  means = b.means;
  kept = b.kept;
  deep = b.deep;
  many = let n = b.many in omega (arith, n);
}

inside : (left : ℕ) (i : Expr) → BeginsWith left i → (r : Draft) → r.place.depth + suc left ≤ depth_limit
    → Inside r (reads_free (takes opens r) (text i)) i
inside left nothing f r d = record { closing = tt; means = refl; kept = refl; deep = refl; many = omega arith }
inside left (symbol a x) f r d = inside_of r _ (symbol a x) (f (omega arith) (takes opens r) tt (omega arith))
inside left (parens i x) f r d = inside_of r _ (parens i x) (f (omega arith) (takes opens r) tt (omega arith))

shut_own_lem : (l : List Expr) (f p i : Expr) (ps : List Expr) → l ≡ p ∷ ps → f ≡ i
    → shut_own l f ≡ append p (parens i nothing)
shut_own_lem l f p i ps e g = rw (e, g) refl

after_bracket : (i x : Expr) (r m q : Draft) → Inside r m i
    → Became (takes closes m) q (shut_own m.around (expression m)) x → Became r q r.own (parens i x)
after_bracket i x r m q h b = record {
  over = b.over;
  means =
      b.means
      ∙ (ap (λ (z : Expr). append z x) (shut_own_lem m.around (expression m) r.own i r.around h.kept h.means)
      ∙ append_append r.own (parens i nothing) x);
  kept = b.kept ∙ ap shut_around h.kept;
  deep = let d = b.deep in omega (arith, h.deep, d);
  many = let n = b.many in omega (arith, h.many, n);
}

begins_read : (left : ℕ) (e : Expr) → Readable left e → BeginsWith left e
begins_read left nothing p f r rd d = absurd (omega arith)
begins_read left (symbol a x) p f r rd d =
    let n = r.place.offset + length (decimal a) in
    let b = goes_on_lem left x (begins_read left x p.1) (numbered a n r) tt d in
    subst (λ (y : Draft). Became r y r.own (symbol a x))
    (sym (reads_append (decimal a) (gap x ++ text x) r
    ∙ ap (λ (y : Draft). reads_free y (gap x ++ text x)) (code_read r rd a p.0)))
    (record {
      over = b.over;
      means = b.means ∙ append_append r.own (symbol a nothing) x;
      kept = b.kept;
      deep = b.deep;
      many = let k = b.many in omega (arith, k);
    })
begins_read zero (parens i x) p f r rd d = absurd p
begins_read (suc left) (parens i x) p f r rd d =
    let h = inside left i (begins_read left i p.0) r d in
    let m = reads_free (takes opens r) (text i) in
    let rest = gap x ++ text x in
    let b = goes_on_lem (suc left) x (begins_read (suc left) x p.1) (takes closes m) tt (omega (arith, h.deep)) in
    let o : read_free 40 r ≡ takes opens r =
    read_as 40 opens r (move_open r.place.stand r.place.depth rd (omega arith)) in
    let c : read_free 41 m ≡ takes closes m =
    read_as 41 closes m (move_close m.place.stand m.place.depth h.closing (omega (arith, h.deep))) in
    let e : reads_free (read_free 40 r) (text i ++ (41 ∷ rest)) ≡ reads_free (takes closes m) rest =
    ap (λ (y : Draft). reads_free y (text i ++ (41 ∷ rest))) o
    ∙ (reads_append (text i) (41 ∷ rest) (takes opens r) ∙ ap (λ (y : Draft). reads_free y rest) c) in
    subst (λ (y : Draft). Became r y r.own (parens i x)) (sym e)
    (after_bracket i x r m (reads_free (takes closes m) rest) h b)

ended_whole : (s : Stand) → Ended s → may_end s ≡ true
ended_whole begun h = absurd h
ended_whole spaced h = absurd h
ended_whole (number a) h = refl
ended_whole closed h = refl
ended_whole (stopped s) h = absurd h

-- the text of an expression is whole, and denotes the expression
pub record GivesBack (e : Expr) (r : Draft) : Type 0 where
  pub whole : is_whole r.place ≡ true
  pub means : expression r ≡ e
  pub many : r.place.total ≡ all_terms e

gives_back : (e : Expr) (r : Draft) → Became blank r nothing e → GivesBack e r
unfolding blank at_start is_whole
gives_back e r b = record {
  whole = rw (ended_whole r.place.stand b.over, b.deep) refl;
  means = b.means;
  many = omega (arith, b.many);
}

pub read_freely : (e : Expr) → Readable depth_limit e → GivesBack e (reads_free blank (text e))
unfolding blank at_start is_whole
read_freely nothing p = record { whole = refl; means = refl; many = refl }
read_freely (symbol a x) p =
    gives_back (symbol a x) _ (begins_read depth_limit (symbol a x) p (omega arith) blank tt (omega arith))
read_freely (parens i x) p =
    gives_back (parens i x) _ (begins_read depth_limit (parens i x) p (omega arith) blank tt (omega arith))

-- where it has no more terms than a text may have
pub read_back : (e : Expr) → Readable depth_limit e → all_terms e ≤ terms_limit → GivesBack e (reads blank (text e))
read_back e p l =
    let b = read_freely e p in
    subst (λ (r : Draft). GivesBack e r)
    (sym (within_free (text e) blank (whole_going (reads_free blank (text e)).place b.whole)
    (omega (arith, b.many)))) b
