-- Lists of requests, cut into batches anywhere: a list answers as the same list without COLLECT does, and leaves a twin
-- of the store that that leaves. Two lists that are equal once struck are compared through their common struck list.
-- Assumes nothing.
use mathlib.Core.Path.{◌≡◌, refl, sym, ap, ap₂, ◌∙◌}
use mathlib.Core.Bool.{Bool, true, false, false≢true}
use mathlib.Core.List.{List, [], ◌∷◌}
use Prim.Native.Nat.{ℕ, zero, suc, ◌-◌, ◌*◌, ◌/◌, ◌<◌}
use native.Mathlib.Omega.{arith}
use lib.ListN.{length, replicate}
use lib.Seq.{take_at}
use borrow.Author.Tests.{eqb-true}
use Rattle.meaning.specs.Sound.{Sound}
use Rattle.meaning.specs.Verdicts.{Verdict, Done}
use Rattle.meaning.specs.Operands.{ops, op_at, fault}
use Rattle.meaning.specs.Call.{plan_of, carry_out, perform, step_after, step}
use Rattle.meaning.specs.Batch.{ended}
use Rattle.meaning.proofs.effect.Steps.{step_meets}
use Rattle.meaning.proofs.batch.Batches.{fours_of}
use Rattle.meaning.proofs.batch.Cases.{batch_runs}
use Rattle.promises.specs.Requests.{Request, call, typed, requested, requests, in_words}
use Rattle.promises.specs.Alike.{calls, text, requests_in, Accepted, served_by, Lent, requests_of, Served, served}
use Rattle.promises.specs.Alike.{NoneRefused, is_collect, strike, strike_answers, CollectionsNeverShow}
use Rattle.promises.proofs.alike.Requests.{ran, runs_ran, ran_cut, ran_length, requests_length, in_words_length}
use Rattle.promises.proofs.alike.Requests.{verdicts_ran}
use Rattle.meaning.proofs.twins.Agree.{Agree}
use Rattle.meaning.proofs.twins.Canons.{canon}
use Rattle.meaning.proofs.twins.Pairs.{canon_collected}
use Rattle.meaning.proofs.twins.Twins.{Twin, twin_self, twin_flip, twin_trans}
use Rattle.meaning.proofs.twins.Calls.{step_agrees}
use Rattle.meaning.proofs.typed.Agreeing.{type_agrees}
use Rattle.promises.proofs.typing.Typing.{types_do}
use Rattle.promises.proofs.alike.Alikes.{alike_canon, canon_alike, collect_sound, same_length, canon_collects}

-- ---- one request

module _ (F : ℕ) (p : 0 < F) (ws : List ℕ) (top : ℕ) where
  -- COLLECT leaves a twin of the store, and so does a COLLECT that is refused
  collect_canon : Sound F ws top → (d a b : ℕ)
      → canon F (step F ws top 11 d a b).words (step F ws top 11 d a b).top ≡ canon F ws top
  unfolding step
  collect_canon s d a b = go (fault F 11 d a b)
    where
      go : (f : ℕ)
          → canon F (step_after f F ws top 11 d a b).words (step_after f F ws top 11 d a b).top ≡ canon F ws top
      go zero = unfold step_after ops op_at perform plan_of carry_out in canon_collected F ws top p s
      go (suc f) = unfold step_after in refl

  -- a request leaves a sound store as long as before, and in twins it answers the same and leaves twins
  leaves : Sound F ws top → (q : Request)
      → Sound F (requested F ws top q).words (requested F ws top q).top
      × (length (requested F ws top q).words ≡ length ws)
  leaves s (call o d a b) = let m = step_meets F ws top p s o d a b in (m.sound, m.len)
  leaves s (typed d bs) = let m = types_do F ws top s d bs in (m.sound, m.len)

  module _ (ws' : List ℕ) (top' : ℕ) (t : Twin F ws top ws' top') where
    agrees : (q : Request) → Agree F (requested F ws top q) (requested F ws' top' q)
    agrees (call o d a b) = step_agrees F ws top ws' top' p t o d a b
    agrees (typed d bs) = type_agrees F ws top ws' top' p t d bs

    collects : (q : Request) → is_collect q ≡ true
        → canon F (requested F ws top q).words (requested F ws top q).top ≡ canon F ws top
    collects (call o d a b) e =
        let z : o ≡ 11 = eqb-true o 11 e in rw z (collect_canon t.one d a b)
    collects (typed d bs) e = absurd (false≢true e)

-- in twins, with COLLECT in the first alone
module _ (F : ℕ) (p : 0 < F) (ws : List ℕ) (top : ℕ) (ws' : List ℕ) (top' : ℕ) (t : Twin F ws top ws' top')
    (q : Request) where
  abbrev r : Done
  r = requested F ws top q

  abbrev r' : Done
  r' = requested F ws' top' q

  request_twin : Twin F r.words r.top r'.words r'.top
  request_twin =
      let m = leaves F p ws top t.one q in
      let m' = leaves F p ws' top' t.two q in
      record {
        one = m.0;
        two = m'.0;
        len = m.1 ∙ (t.len ∙ sym m'.1);
        same = (agrees F p ws top ws' top' t q).same;
      }

  collect_twin : is_collect q ≡ true → Twin F r.words r.top ws' top'
  collect_twin e =
      let m = leaves F p ws top t.one q in
      record {
        one = m.0;
        two = t.two;
        len = m.1 ∙ t.len;
        same = collects F p ws top ws' top' t q e ∙ t.same;
      }

-- ---- a list of requests

-- the run s of the requests qs, and the run s' of the requests with COLLECT struck out
record Same (F : ℕ) (qs : List Request) (s s' : Served) : Type 0 where
  answers : strike_answers qs s.answers ≡ s'.answers
  twins : Twin F s.words s.top s'.words s'.top

ran_struck : (F : ℕ) (p : 0 < F) (qs : List Request) (ws : List ℕ) (top : ℕ) (ws' : List ℕ) (top' : ℕ)
    → Twin F ws top ws' top' → Same F qs (ran F ws top qs) (ran F ws' top' (strike qs))
ran_struck F p [] ws top ws' top' t = record { answers = refl; twins = t }
ran_struck F p (q ∷ qs) ws top ws' top' t = go (is_collect q) refl (ran_struck F p qs)
  where
    go : (x : Bool) → is_collect q ≡ x
        → ((v : List ℕ) (u : ℕ) (v' : List ℕ) (u' : ℕ) → Twin F v u v' u'
        → Same F qs (ran F v u qs) (ran F v' u' (strike qs)))
        → Same F (q ∷ qs) (ran F ws top (q ∷ qs)) (ran F ws' top' (strike (q ∷ qs)))
    go true z rec =
        let h = rec (requested F ws top q).words (requested F ws top q).top ws' top'
        (collect_twin F p ws top ws' top' t q z) in
        record { answers = rw z h.answers; twins = rw z h.twins }
    go false z rec =
        let v = (agrees F p ws top ws' top' t q).verdict in
        let h = rec (requested F ws top q).words (requested F ws top q).top (requested F ws' top' q).words
        (requested F ws' top' q).top (request_twin F p ws top ws' top' t q) in
        record {
          answers = rw z (ap₂ {C = List Verdict} (λ x y. x ∷ y) v h.answers);
          twins = rw z h.twins;
        }

-- two lists that are equal once struck
ran_twin : (F : ℕ) (p : 0 < F) (qs qs' : List Request) (ws : List ℕ) (top : ℕ) (ws' : List ℕ) (top' : ℕ)
    → Twin F ws top ws' top' → strike qs ≡ strike qs'
    → (let s = ran F ws top qs in
    let s' = ran F ws' top' qs' in
    (strike_answers qs s.answers ≡ strike_answers qs' s'.answers)
    × Twin F s.words s.top s'.words s'.top)
ran_twin F p qs qs' ws top ws' top' t e =
    let h = ran_struck F p qs ws top ws top (twin_self F ws top t.one) in
    let k : Same F qs' (ran F ws' top' qs') (ran F ws top (strike qs)) =
    rw e (ran_struck F p qs' ws' top' ws top (twin_flip t)) in
    (h.answers ∙ sym k.answers, twin_trans h.twins (twin_flip k.twins))

-- ---- cut into batches

lent_ran : (F : ℕ) → 0 < F → (ws : List ℕ) (top : ℕ) (b : Lent) → Accepted F ws top b
    → served_by F ws top b ≡ ran F ws top (requests_in b)
unfolding ended
lent_ran F p ws top (calls cs space) n =
    let r = batch_runs F ws top cs space n in
    let c = fours_of cs r.1.whole in
    let s = ran F ws top (requests cs) in
    let l : length (in_words s.answers) ≡ 2 * (length cs / 4) =
    omega (arith, in_words_length s.answers, ran_length F ws top (requests cs), requests_length c) in
    let k = take_at (in_words s.answers) (replicate (length space - length (in_words s.answers)) 0)
    (2 * (length cs / 4)) l in
    rw (r.2, runs_ran F ws top c, k, verdicts_ran F p ws top r.0 c) refl
lent_ran F p ws top (text d bs) n = refl

served_ran : (F : ℕ) → 0 < F → (ws : List ℕ) (top : ℕ) (bs : List Lent) → NoneRefused F ws top bs
    → served F ws top bs ≡ ran F ws top (requests_of bs)
served_ran F p ws top [] n = refl
served_ran F p ws top (b ∷ bs) n =
    let e = lent_ran F p ws top b n.0 in
    let s = ran F ws top (requests_in b) in
    let h : served F s.words s.top bs ≡ ran F s.words s.top (requests_of bs) =
    served_ran F p s.words s.top bs (rw e at n.1) in
    rw (e, h) (sym (ran_cut F ws top (requests_in b) (requests_of bs)))

pub collections_never_show : CollectionsNeverShow
collections_never_show F p ws top ws' top' s s' c a bs bs' n n' e =
    let q = ran F ws top (requests_of bs) in
    let q' = ran F ws' top' (requests_of bs') in
    let t : Twin F ws top ws' top' = record {
      one = s;
      two = s';
      len = same_length s s' c;
      same = alike_canon F p ws top s ws' top' s' a;
    } in
    let h = ran_twin F p (requests_of bs) (requests_of bs') ws top ws' top' t e in
    rw (served_ran F p ws top bs n, served_ran F p ws' top' bs' n')
    (record {
      answers = h.0;
      alike = canon_alike F p q.words q.top h.1.one q'.words q'.top h.1.two h.1.same;
      collects = ap (λ (x : Done). x.verdict.status) (collect_sound F q.words q.top h.1.one);
      equal = canon_collects F q.words q.top h.1.one q'.words q'.top h.1.two h.1.len
          h.1.same;
    })
