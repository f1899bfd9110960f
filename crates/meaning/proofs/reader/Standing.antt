-- Where the reader stands, by the bytes that it has read last. In order:
--   EndsReady                   bytes behind which a term may begin: none, or the last is a space or an opening bracket
--   ready_after, code_after     where it stands behind such a byte, freely, and behind a code
--   ready_ends, code_ends       what it has read last, where a term may begin and where it stands in a number
-- Assumes nothing.
use mathlib.Core.Path.{◌≡◌, refl, sym, ap, ◌∙◌, subst}
use mathlib.Core.Logic.{◌⊎◌, inl, inr}
use mathlib.Core.Bool.{false}
use mathlib.Core.List.{List, [], ◌∷◌, ◌++◌, append_assoc}
use Prim.Native.Nat.{ℕ, ◌+◌}
use native.Mathlib.Omega.{arith}
use Rattle.octets.specs.Decimal.{decimal}
use Rattle.meaning.specs.Expr.{Expr, nothing, symbol, parens}
use Rattle.meaning.specs.Sound.{IsCode}
use Rattle.meaning.specs.Text.{gap, text}
use Rattle.meaning.specs.Judge.{Stand, begun, spaced, number, closed, stopped, Move}
use Rattle.meaning.specs.Reader.{Reader, moved, advances, at_start, Draft, reads, blank}
use Rattle.meaning.proofs.text.Texts.{text_code}
use Rattle.meaning.proofs.reader.Moves.{judge_cases}
use Rattle.meaning.proofs.reader.Drafts.{behind, Kept, Inv}
use Rattle.meaning.proofs.reader.Keeping.{bytes_inv}
use Rattle.meaning.proofs.reader.Forth.{reads_place}
use Rattle.meaning.proofs.reader.Completing.{Going}
use Rattle.meaning.proofs.reader.Freely.{freely, free_place, going_free}
use Rattle.meaning.proofs.reader.Codes.{Ready, code_read}

-- ---- by its last byte

pub ready_after : (b : ℕ) (r : Reader) → (b ≡ 32) ⊎ (b ≡ 40) → Going (moved (freely r b) r).stand
    → Ready (moved (freely r b) r).stand
ready_after b r h =
    judge_cases (λ (m : Move). Going (moved m r).stand → Ready (moved m r).stand) b r.depth false
    (λ s g. g)
    (λ d e l c n g. no_digit d e h)
    (λ e l n g. tt)
    (λ a d e l c g. no_digit d e h)
    (λ e l g. no_close e h)
    (λ e g. tt)
    r.stand
  where
    no_digit : (d : ℕ) → b ≡ 48 + d → (b ≡ 32) ⊎ (b ≡ 40) → ⊥
    no_digit d e (inl f) = omega arith
    no_digit d e (inr f) = omega arith

    no_close : b ≡ 41 → (b ≡ 32) ⊎ (b ≡ 40) → ⊥
    no_close e (inl f) = omega arith
    no_close e (inr f) = omega arith

pub code_after : (r : Reader) (a : ℕ) → Ready r.stand → IsCode a → Going (advances r (decimal a)).stand
    → (advances r (decimal a)).stand ≡ number a
code_after r a h l g =
    let q : Draft = record { place = r; around = []; own = nothing } in
    ap (λ (x : Reader). x.stand) (going_free (decimal a) r g ∙ sym (free_place (decimal a) q))
    ∙ ap (λ (x : Draft). x.place.stand) (code_read q h a l)

-- ---- by what it has kept

abbrev pub EndsReady : List ℕ → Type 0
EndsReady p = (p ≡ []) ⊎ ((q : List ℕ) × (c : ℕ) × (p ≡ q ++ c ∷ []) × ((c ≡ 32) ⊎ (c ≡ 40)))

pub record EndsInCode (pre : List ℕ) (a : ℕ) : Type 0 where
  pub front : List ℕ
  pub ready : EndsReady front
  pub bytes : pre ≡ front ++ decimal a
  pub is_code : IsCode a

ready_behind : (ar : List Expr) → EndsReady (behind ar ++ [])
ready_behind [] = inl refl
ready_behind (p ∷ ps) = inr (behind ps ++ (text p ++ gap p), 40, simp append_assoc, inr refl)

ready_own : (ar : List Expr) (own : Expr) → EndsReady (behind ar ++ (text own ++ gap own))
ready_own ar nothing = ready_behind ar
ready_own ar (symbol a r) =
    inr (behind ar ++ text (symbol a r), 32, sym (append_assoc (behind ar) (text (symbol a r)) (32 ∷ [])), inl refl)
ready_own ar (parens i r) =
    inr (behind ar ++ text (parens i r), 32, sym (append_assoc (behind ar) (text (parens i r)) (32 ∷ [])), inl refl)

module _ (depth total : ℕ) (ar : List Expr) (own : Expr) (pre : List ℕ) where
  ready_bytes : (s : Stand) → Inv s depth total ar own pre → Ready s → EndsReady pre
  ready_bytes begun k h =
      let e : behind ar ++ [] ≡ pre = rw k.shape at k.bytes in
      subst (λ (t : List ℕ). EndsReady t) e (ready_behind ar)
  ready_bytes spaced k h =
      inr (behind ar ++ text own, 32, sym k.bytes ∙ sym (append_assoc (behind ar) (text own) (32 ∷ [])), inl refl)
  ready_bytes (number a) k h = absurd h
  ready_bytes closed k h = absurd h
  ready_bytes (stopped s) k h = absurd h

  code_bytes : (a : ℕ) → Kept (number a) depth total ar own pre → EndsInCode pre a
  code_bytes a k = record {
    front = behind ar ++ (text own ++ gap own);
    ready = ready_own ar own;
    bytes =
        sym k.bytes
        ∙ (ap (λ (t : List ℕ). behind ar ++ t) (text_code own a)
        ∙ simp append_assoc (ap (λ (t : List ℕ). behind ar ++ t) refl));
    is_code = k.shape;
  }

pub ready_ends : (pre : List ℕ) → Ready (advances at_start pre).stand → EndsReady pre
unfolding blank
ready_ends pre h =
    let r = reads blank pre in
    ready_bytes r.place.depth r.place.total r.around r.own pre r.place.stand (bytes_inv pre)
    (subst (λ (x : Reader). Ready x.stand) (sym (reads_place pre blank)) h)

pub code_ends : (pre : List ℕ) (a : ℕ) → (advances at_start pre).stand ≡ number a → EndsInCode pre a
unfolding blank
code_ends pre a e =
    let r = reads blank pre in
    let f : r.place.stand ≡ number a = ap (λ (x : Reader). x.stand) (reads_place pre blank) ∙ e in
    code_bytes r.place.depth r.place.total r.around r.own pre a
    (subst (λ (s : Stand). Inv s r.place.depth r.place.total r.around r.own pre) f (bytes_inv pre))
