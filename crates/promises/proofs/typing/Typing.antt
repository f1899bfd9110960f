-- Demand 2, a text typed into a register of a sound store: what `meaning` shows of it through its plan, in the words of
-- SCOPE 5.8. In order:
--   text_leaves                  what it leaves in the cells, where it is laid
--   refused_number, stop_away    the status of a text's refusal
--   refusal, whole_does          a refusal but 16;  a whole text
--   types_do                     the claim
-- Assumes nothing.
use mathlib.Core.Path.{◌≡◌, refl, sym, ap, subst, ◌∙◌}
use mathlib.Core.Logic.{inl, inr, ◌≢◌}
use mathlib.Core.Bool.{Bool, true, false, cond, false≢true}
use mathlib.Core.List.{List}
use Prim.Native.Nat.{ℕ, zero, suc, ◌+◌, ◌*◌, ◌≤◌, ◌<◌}
use native.Mathlib.Nat.{add-zero}
use native.Mathlib.Omega.{arith}
use lib.Dec.{ltb}
use lib.ListN.{length}
use borrow.Author.Tests.{ltb-true, ltb-false}
use Rattle.meaning.specs.Expr.{Expr, terms}
use Rattle.meaning.specs.Sound.{capacity, Sound}
use Rattle.meaning.specs.Meaning.{meaning}
use Rattle.meaning.specs.Reach.{live}
use Rattle.meaning.specs.Collected.{collected}
use Rattle.meaning.specs.Verdicts.{Verdict, Done, refused, only}
use Rattle.meaning.specs.Lay.{all_terms, last_below, laid, puts, new_cells}
use Rattle.meaning.specs.Call.{sought, lacks, carry_out}
use Rattle.meaning.specs.Effect.{Effect, typing, after, answer}
use Rattle.meaning.specs.Reader.{reads, blank, is_whole, stop_verdict}
use Rattle.meaning.specs.Typed.{type_plan, type_in}
use Rattle.meaning.proofs.sound.Cells.{term_of_bracket}
use Rattle.meaning.proofs.check.Checking.{sound_check}
use Rattle.meaning.proofs.actions.Writing.{at_put, at_put_other}
use Rattle.meaning.proofs.call.Sought.{sought_length, sought_other, sought_sound}
use Rattle.meaning.proofs.call.Plans.{plan_lacks, plan_top, PlanMeets}
use Rattle.meaning.proofs.reader.Leftmost.{StopNumber}
use Rattle.meaning.proofs.lay.Each.{Coded}
use Rattle.meaning.proofs.lay.Denoting.{laid_more, laid_at, laid_in}
use Rattle.meaning.proofs.typed.Cases.{TypeCases, unsound, none, stopped, whole, type_cases}
use Rattle.meaning.proofs.typed.Meeting.{coded_read, type_meets}
use Rattle.promises.specs.Cells.{OnlyThere, laid_on, laid_from}
use Rattle.promises.specs.Reading.{deep, many, banned, large, other, RefusedText, ends_too_soon, stops_at}
use Rattle.promises.specs.Typing.{said, Whole, TypedAs, no_register, no_text, no_room, has_room, LeavesText, typed_on}
use Rattle.promises.specs.Typing.{typed_from, TypedIn, TypesDo}
use Rattle.promises.proofs.Verdicts.{verdict_parts}
use Rattle.promises.proofs.reading.Refusing.{stops_leftmost}
use Rattle.promises.proofs.calls.Touching.{only_trans, text_only}
use Rattle.promises.proofs.calls.Rooms.{as_was, stays, room_top_lem, room_leaves}

-- ---- the cells

text_leaves : (F : ℕ) (p : 0 < F) (ws : List ℕ) (top : ℕ) → Sound F ws top → (e : Expr) → Coded e → (d : ℕ) → d < F
    → 2 * (top + all_terms e) ≤ length ws → LeavesText d e ws top (new_cells d e ws top).words
unfolding new_cells
text_leaves F p ws top s e q d l r =
    let n = all_terms e in
    let v = puts ws top (laid top e) in
    let b = last_below (top + n) (terms e) in
    record {
      others = text_only d ws top e;
      sets = at_put v d b F (top + n) p (omega (arith, s.allowed.large, (laid_more F p ws top s e q r).len))
          (term_of_bracket F (top + n) b (laid_in F p ws top s e q r));
      lays = λ j h. at_put_other v d b (top + j) (omega (arith, s.low)) ∙ laid_at F p ws top s e q r j h;
    }

-- ---- a refusal

-- no register changes
after_refused : (s : ℕ) → s ≢ 0 → (x : Effect) (e : ℕ → Expr) (i : ℕ) → e i ≡ after s x e i
after_refused zero n x e i = absurd (n refl)
after_refused (suc s) n x e i = refl

-- a text's refusal is 13, 21, 23 or 24
pub refused_number : (bs : List ℕ) (v : Verdict) → RefusedText bs v → StopNumber v.status
refused_number bs v (ends_too_soon b n) = inr (inr (inl refl))
refused_number bs v (stops_at k s l b n (deep d)) = inr (inl refl)
refused_number bs v (stops_at k s l b n (many d m)) = inr (inr (inr refl))
refused_number bs v (stops_at k s l b n (banned m z)) = inl refl
refused_number bs v (stops_at k s l b n (large c)) = inl refl
refused_number bs v (stops_at k s l b n (other d m z c)) = inr (inr (inl refl))

pub stop_away : (x : ℕ) → StopNumber x → (x ≢ 0) × (x ≢ 16)
stop_away x (inl e) = (omega arith, omega arith)
stop_away x (inr (inl e)) = (omega arith, omega arith)
stop_away x (inr (inr (inl e))) = (omega arith, omega arith)
stop_away x (inr (inr (inr e))) = (omega arith, omega arith)

module _ (F : ℕ) (ws : List ℕ) (top : ℕ) (s : Sound F ws top) (d : ℕ) (bs : List ℕ) where
  refusal : (v : Verdict) → TypedAs F ws top d bs v → v.status ≢ 0 → v.status ≢ 16
      → TypedIn F ws top d bs (refused ws top v)
  refusal v a n m = record {
    says = a;
    registers = λ i h. after_refused v.status n (typing (meaning ws) d (said bs)) (meaning ws) i;
    done_top = λ e. absurd (n e);
    done_words = λ e. absurd (n e);
    no_need = λ e z. absurd (n e);
    full = λ e. absurd (m e);
    refused = λ _ _. (refl, refl);
    sound = s;
    len = refl;
  }

  bad_text : d < F → is_whole (reads blank bs).place ≡ false
      → TypedIn F ws top d bs (refused ws top (stop_verdict (reads blank bs).place))
  bad_text h e =
      let v = stop_verdict (reads blank bs).place in
      let t = stops_leftmost bs e in
      let x = stop_away v.status (refused_number bs v t) in
      refusal v (no_text v h (λ w. false≢true (sym e ∙ w)) t) x.0 x.1

  -- where no cell is laid
  none_laid : (n : ℕ) → n ≡ 0 → (v u : List ℕ) (t : ℕ) → t ≡ laid_from F n v ws top + n
      → OnlyThere d (laid_from F n v ws top) n (laid_on F n v ws top) u → (t ≡ top) × OnlyThere d top 0 ws u
  none_laid n e v u t h k =
      let f : laid_from F 0 v ws top ≡ top = rw (stays F ws top s) refl in
      (h ∙ rw (e, f) (add-zero top), rw (e, stays F ws top s) at k)

  -- ---- a whole text

  module _ (l : d < F) (w : Whole bs) where
    abbrev e : Expr
    e = said bs

    abbrev n : ℕ
    n = all_terms (said bs)

    abbrev v : List ℕ
    v = sought false d ws

    abbrev r : Done
    r = carry_out F (type_plan d (said bs) ws) ws top

    p : 0 < F
    p = omega arith

    q : Coded e
    q = coded_read bs w

    z : Sound F v top
    z = sought_sound F ws top p s false d (λ _. l)

    m : PlanMeets F ws top (typing (meaning ws) d e) (type_plan d e ws) r
    m = type_meets F ws top p s d l e q

    -- the status by room alone, and value 0
    by_room : r.verdict.status ≡ cond (ltb (capacity ws) (F + live F v top + n)) 16 0
    unfolding plan_lacks lacks
    by_room = rw (← sought_length false d ws) m.status

    no_value : (x : ℕ) → answer x (typing (meaning ws) d e) ≡ 0
    no_value zero = refl
    no_value (suc x) = refl

    says : TypedAs F ws top d bs r.verdict
    says =
        subst (TypedAs F ws top d bs)
        (sym (verdict_parts r.verdict (only (cond (ltb (capacity ws) (F + live F v top + n)) 16 0)) by_room
        (m.value ∙ no_value r.verdict.status) m.rule)) (go (ltb (capacity ws) (F + live F v top + n)) refl)
      where
        go : (t : Bool) → ltb (capacity ws) (F + live F v top + n) ≡ t → TypedAs F ws top d bs (only (cond t 16 0))
        go true h = no_room l w (ltb-true (capacity ws) (F + live F v top + n) h)
        go false h = has_room l w (ltb-false (capacity ws) (F + live F v top + n) h)

    done_top_lem : r.verdict.status ≡ 0 → r.top ≡ typed_from F ws top d bs + n
    unfolding plan_top
    done_top_lem h =
        m.tops ∙ rw h (ap (λ (y : ℕ). y + n) (room_top_lem F n v ws top p z (sought_length false d ws)))

    -- the store in which room is sought differs from the store at d alone
    from_store : (t : ℕ) (u : List ℕ) → LeavesText d e v t u → LeavesText d e ws t u
    from_store t u k = record {
      others = only_trans d t n ws v u (λ c y g. sought_other false d ws c y) k.others;
      sets = k.sets;
      lays = k.lays;
    }

    done_words_lem : r.verdict.status ≡ 0 → LeavesText d e (typed_on F ws top d bs) (typed_from F ws top d bs) r.words
    unfolding carry_out
    done_words_lem h =
        room_leaves F n v ws top p z (sought_length false d ws) (LeavesText d e) (new_cells d e) from_store
        (λ u t y f k. text_leaves F p u t y e q d l k) h

    whole_does : TypedIn F ws top d bs r
    whole_does = record {
      says = says;
      registers = m.registers;
      done_top = done_top_lem;
      done_words = done_words_lem;
      no_need = λ h k. none_laid n k v r.words r.top (done_top_lem h) (done_words_lem h).others;
      full = λ h. (rw h at m.left, m.tops ∙ rw h refl);
      refused = as_was ws (collected F ws top) r.words (plan_top F (type_plan d e ws) ws top) (F + live F ws top) top
          r.top r.verdict.status m.left m.tops;
      sound = m.sound;
      len = m.len;
    }

  by_cases : (x : Done) → TypeCases F ws top d bs x → TypedIn F ws top d bs x
  by_cases x (unsound n) = absurd (n (ap (λ (y : Verdict). y.status) (sound_check F ws top s)))
  by_cases x (none _ h) = refusal (only 20) (no_register h) (λ e. omega arith) (λ e. omega arith)
  by_cases x (stopped _ h e) = bad_text h e
  by_cases x (whole _ h w) = whole_does h w

pub types_do : TypesDo
types_do F ws top s d bs = by_cases F ws top s d bs (type_in F ws top d bs) (type_cases F ws top d bs)
