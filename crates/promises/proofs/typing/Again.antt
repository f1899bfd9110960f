-- Printed and typed in again, typed in and printed again. In order:
--   print-done, printed_text   a print that is done: in a sound store, of an expression that may be read;  its text
--   said_done                  a typed text that is done sets d to what it says
--   printed_typed              what was printed, typed in again
--   type_done, typed_printed   a typed text that is done, and printed again
--   prints_no_zero             no print has a 0 that begins a term
-- Assumes nothing.
use mathlib.Core.Path.{◌≡◌, refl, ap, ◌∙◌, subst}
use mathlib.Core.Bool.{false}
use mathlib.Core.List.{List}
use Prim.Native.Nat.{ℕ, ◌+◌, ◌-◌, ◌≤◌, ◌<◌}
use native.Mathlib.Omega.{arith}
use lib.ListN.{length, take, replicate}
use lib.Seq.{take_at}
use borrow.Author.Tests.{eq-eqb}
use Rattle.octets.specs.Space.{filled}
use Rattle.octets.proofs.Final.{filled_fits}
use Rattle.meaning.specs.Limits.{depth_limit, terms_limit}
use Rattle.meaning.specs.Expr.{Expr}
use Rattle.meaning.specs.Sound.{capacity, Sound}
use Rattle.meaning.specs.Meaning.{meaning}
use Rattle.meaning.specs.Reach.{live}
use Rattle.meaning.specs.Verdicts.{Verdict, only, Done}
use Rattle.meaning.specs.Lay.{all_terms}
use Rattle.meaning.specs.Call.{sought}
use Rattle.meaning.specs.Effect.{becomes}
use Rattle.meaning.specs.Text.{text, Readable, trouble, Printed, printed, print_in}
use Rattle.meaning.specs.Reader.{Reader, blank}
use Rattle.meaning.specs.Typed.{type_in}
use Rattle.meaning.proofs.sound.Cells.{limit_within}
use Rattle.meaning.proofs.lay.Coding.{coded_meaning}
use Rattle.meaning.proofs.text.Printing.{print_register, whole}
use Rattle.meaning.proofs.text.Troubles.{text_fits, text_readable}
use Rattle.meaning.proofs.reader.Completing.{Going}
use Rattle.meaning.proofs.reader.Freely.{reads_free, free_place, whole_going}
use Rattle.meaning.proofs.reader.Back.{read_freely}
use Rattle.meaning.proofs.typed.Cases.{TypeCases, type_cases}
use Rattle.meaning.proofs.typed.Cases as cases
use Rattle.promises.specs.Printing.{PrintedAs, unsound, no_register, written}
use Rattle.promises.specs.Typing.{said, Whole, has_room, TypedIn}
use Rattle.promises.specs.Reading.{ZeroBegins}
use Rattle.promises.specs.Again.{PrintedTyped, TypedPrinted, PrintsNoZero}
use Rattle.promises.proofs.printing.Meeting.{meets, met_once}
use Rattle.promises.proofs.printing.Printed.{print_answers}
use Rattle.promises.proofs.reading.Stopping.{no_zero}
use Rattle.promises.proofs.reading.Refusing.{reads_back, writes_back, stops_leftmost}
use Rattle.promises.proofs.unique.Texts.{says_once}
use Rattle.promises.proofs.typing.Typing.{refused_number, stop_away, types_do}

-- ---- a print that is done

module _ (F : ℕ) (ws : List ℕ) (top i n : ℕ) where
  abbrev e : Expr
  e = meaning ws i

  readable : (v : Verdict) → PrintedAs F ws top i n v → v.status ≡ 0 → Readable depth_limit e
  readable v (unsound _ j z) q = absurd (z q)
  readable v (no_register s h) q = absurd (omega arith)
  readable v (written c s h m) q =
      text_readable depth_limit n e (coded_meaning F ws top (omega arith) s i h)
      (met_once depth_limit n (text e) (trouble depth_limit n (text e)) c (meets depth_limit n (text e)) m ∙ q)

  module _ (q : (print_in F ws top i n).verdict.status ≡ 0) where
    print_readable : Readable depth_limit e
    print_readable = readable (print_in F ws top i n).verdict (print_answers F ws top i n).prints q

    printed_text : take (print_in F ws top i n).size (print_in F ws top i n).space ≡ text e
    printed_text =
        let w = (print_answers F ws top i n).whole q in
        rw (w.0, w.1) (take_at (text e) (replicate (n - length (text e)) 0) (length (text e)) refl)

-- ---- a typed text that is done

becomes_here : (f : ℕ → Expr) (d : ℕ) (x : Expr) → becomes f d x d ≡ x
unfolding becomes
becomes_here f d x = rw (eq-eqb d d refl) refl

pub said_done : (F : ℕ) (ws : List ℕ) (top d : ℕ) (bs : List ℕ) (r : Done) → d < F → TypedIn F ws top d bs r
    → r.verdict.status ≡ 0 → meaning r.words d ≡ said bs
said_done F ws top d bs r h x q = x.registers d h ∙ rw q (becomes_here (meaning ws) d (said bs))

-- ---- printed, and typed in again

text_typed : (F : ℕ) (v : List ℕ) (t : ℕ) → Sound F v t → (d : ℕ) → d < F → (e : Expr) → Readable depth_limit e
    → F + live F (sought false d v) t + all_terms e ≤ capacity v
    → ((type_in F v t d (text e)).verdict.status ≡ 0) × (meaning (type_in F v t d (text e)).words d ≡ e)
text_typed F v t s d h e q l =
    let few : all_terms e ≤ terms_limit = omega (arith, s.allowed.small, limit_within, l) in
    let b = reads_back e q few in
    let x = types_do F v t s d (text e) in
    let room : F + live F (sought false d v) t + all_terms (said (text e)) ≤ capacity v = rw b.1 l in
    let z : (type_in F v t d (text e)).verdict.status ≡ 0 =
    ap (λ (y : Verdict). y.status) (says_once F v t d (text e) (type_in F v t d (text e)).verdict (only 0) x.says
    (has_room h b.0 room)) in
    (z, said_done F v t d (text e) (type_in F v t d (text e)) h x z ∙ b.1)

pub printed_typed : PrintedTyped
printed_typed F ws top i n q v t s d h l =
    rw (printed_text F ws top i n q) (text_typed F v t s d h (meaning ws i) (print_readable F ws top i n q) l)

-- ---- typed in, and printed again

pub type_done : (F : ℕ) (ws : List ℕ) (top d : ℕ) (bs : List ℕ) (r : Done) → TypeCases F ws top d bs r
    → r.verdict.status ≡ 0 → Sound F ws top × (d < F) × Whole bs
type_done F ws top d bs r (cases.unsound n) q = absurd (n q)
type_done F ws top d bs r (cases.none s h) q = absurd (omega arith)
type_done F ws top d bs r (cases.stopped s h e) q =
    absurd ((stop_away r.verdict.status (refused_number bs r.verdict (stops_leftmost bs e))).0 q)
type_done F ws top d bs r (cases.whole s h w) q = (s, h, w)

text_printed : (e : Expr) → Readable depth_limit e → (n : ℕ) → length (text e) ≤ n
    → printed (text e) n ≡ record { verdict = only 0; size = length (text e); space = filled n (text e) }
text_printed e q n l = whole (text e) n (text_fits depth_limit n e q l)

pub typed_printed : TypedPrinted
typed_printed F ws top d bs q n l =
    let r = type_in F ws top d bs in
    let k = type_done F ws top d bs r (type_cases F ws top d bs) q in
    let x = types_do F ws top k.0 d bs in
    let b = writes_back bs k.2 in
    let m : length (text (said bs)) ≤ n = rw b.2 l in
    let p : print_in F r.words r.top d n ≡ record { verdict = only 0; size = length bs; space = filled n bs } =
    print_register F r.words r.top d n x.sound k.1
    ∙ (ap (λ (y : Expr). printed (text y) n) (said_done F ws top d bs r k.1 x q)
    ∙ (text_printed (said bs) b.0 n m
    ∙ ap {B = Printed} (λ (y : List ℕ). record { verdict = only 0; size = length y; space = filled n y }) b.2)) in
    rw p (refl, refl, filled_fits n bs l)

-- ---- printed without a 0 that begins a term

-- whatever the number of its terms, so freely
pub prints_no_zero : PrintsNoZero
unfolding blank
prints_no_zero F ws top i n q k z =
    let bs = text (meaning ws i) in
    let b = read_freely (meaning ws i) (print_readable F ws top i n q) in
    no_zero bs
    (subst (λ (r : Reader). Going r.stand) (free_place bs blank)
    (whole_going (reads_free blank bs).place b.whole)) k
    (subst (λ (t : List ℕ). ZeroBegins t k) (printed_text F ws top i n q) z)
