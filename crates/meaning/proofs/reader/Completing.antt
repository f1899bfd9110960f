-- Bytes that do not stop the reader begin a text: behind a space a term is put, and every open bracket is closed.
-- In order:
--   Completed        bytes that begin a text;  earlier  so do fewer of them
--   shut_all         an expression with those around it, closed
--   Going            the reader is not stopped;  begins_text  what it has read then begins a text
-- Assumes nothing.
use mathlib.Core.Path.{◌≡◌, refl, sym, ap, ◌∙◌, subst}
use mathlib.Core.List.{List, [], ◌∷◌, ◌++◌, append_assoc, append-nil}
use Prim.Native.Nat.{ℕ, suc}
use native.Mathlib.Omega.{arith}
use Rattle.octets.specs.Decimal.{decimal}
use Rattle.meaning.specs.Limits.{depth_limit}
use Rattle.meaning.specs.Expr.{Expr, nothing, symbol, parens, append}
use Rattle.meaning.specs.Text.{text, Readable}
use Rattle.meaning.specs.Judge.{Stand, begun, spaced, number, closed, stopped}
use Rattle.meaning.specs.Reader.{Reader, advances, at_start, reads, blank}
use Rattle.meaning.proofs.sound.Cells.{range_code}
use Rattle.meaning.proofs.text.Texts.{gap_filled, text_code, readable_append}
use Rattle.meaning.proofs.reader.Drafts.{behind, Stack, Kept, Inv, so_far}
use Rattle.meaning.proofs.reader.Keeping.{closed_bytes, bytes_inv}
use Rattle.meaning.proofs.reader.Forth.{reads_place}

pub record Completed (pre : List ℕ) : Type 0 where
  pub whole : Expr
  pub rest : List ℕ
  pub readable : Readable depth_limit whole
  pub bytes : text whole ≡ pre ++ rest

pub earlier : (pre xs : List ℕ) → Completed (pre ++ xs) → Completed pre
earlier pre xs c = record {
  whole = c.whole;
  rest = xs ++ c.rest;
  readable = c.readable;
  bytes = c.bytes ∙ append_assoc pre xs c.rest;
}

shut_all : (left : ℕ) (ar : List Expr) (f : Expr) → Readable left f → Stack left ar → Completed (behind ar ++ text f)
shut_all left [] f l s = record {
  whole = f;
  rest = [];
  readable = subst (λ (x : ℕ). Readable x f) s l;
  bytes = sym (append-nil (text f));
}
shut_all left (p ∷ ps) f l s =
    let c = shut_all (suc left) ps (append p (parens f nothing))
    (readable_append (suc left) p (parens f nothing) s.0 (l, tt)) s.1 in
    earlier (behind (p ∷ ps) ++ text f) (41 ∷ [])
    (subst (λ (t : List ℕ). Completed t) (closed_bytes ps p f) c)

abbrev pub Going : Stand → Type 0
Going begun = Unit {0}
Going spaced = Unit {0}
Going (number a) = Unit {0}
Going closed = Unit {0}
Going (stopped s) = ⊥

module _ (depth total : ℕ) (ar : List Expr) (own : Expr) (pre : List ℕ) where
  -- a term behind the space
  with_term : Kept spaced depth total ar own pre → Completed pre
  with_term k =
      let f = append own (symbol 1 nothing) in
      let e : behind ar ++ text f ≡ pre ++ decimal 1 =
      ap (λ (t : List ℕ). behind ar ++ t)
      (text_code own 1 ∙ ap (λ (t : List ℕ). text own ++ (t ++ decimal 1)) (gap_filled own k.shape))
      ∙ (simp append_assoc (ap (λ (t : List ℕ). behind ar ++ t) refl)
      ∙ ap (λ (t : List ℕ). t ++ decimal 1) k.bytes) in
      earlier pre (decimal 1)
      (subst (λ (t : List ℕ). Completed t) e
      (shut_all k.left ar f
      (readable_append k.left own (symbol 1 nothing) k.level (range_code 1 (omega arith) (omega arith), tt))
      k.stack))

  completed : (s : Stand) → Inv s depth total ar own pre → Going s → Completed pre
  completed begun k g =
      subst (λ (t : List ℕ). Completed t) k.bytes (shut_all k.left ar own k.level k.stack)
  completed spaced k g = with_term k
  completed (number a) k g =
      subst (λ (t : List ℕ). Completed t) k.bytes
      (shut_all k.left ar (append own (symbol a nothing)) (so_far (number a) depth total ar own pre k).level
      k.stack)
  completed closed k g =
      subst (λ (t : List ℕ). Completed t) k.bytes (shut_all k.left ar own k.level k.stack)
  completed (stopped s) k g = absurd g

pub begins_text : (pre : List ℕ) → Going (advances at_start pre).stand → Completed pre
unfolding blank
begins_text pre g =
    let r = reads blank pre in
    completed r.place.depth r.place.total r.around r.own pre r.place.stand (bytes_inv pre)
    (subst (λ (x : Reader). Going x.stand) (sym (reads_place pre blank)) g)
