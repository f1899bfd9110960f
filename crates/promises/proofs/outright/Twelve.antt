-- The twelve outright, from what is said of any call. In order:
--   fault_d .. fault_none   operands that are right
--   sets_d                  a call that sets d, needs n cells and has room for them;  no_room  and has none
--   refuses                 a call that its operand does not fit
--   asks                    a call that sets no register
-- Assumes nothing.
use mathlib.Core.Path.{◌≡◌, refl, sym, ◌∙◌}
use mathlib.Core.Logic.{◌⊎◌, inl, inr, ◌≢◌}
use mathlib.Core.Bool.{Bool, true, false, cond}
use mathlib.Core.List.{List}
use Prim.Native.Nat.{ℕ, zero, suc, ◌+◌, ◌≤◌, ◌<◌}
use native.Mathlib.Nat.{add-zero}
use native.Mathlib.Omega.{arith}
use lib.Dec.{ltb}
use borrow.Author.Tests.{lt-ltb, le-ltb, ltb-false, lt-leb, eq-eqb, ne_eqb}
use Rattle.meaning.specs.Expr.{Expr, nothing, symbol, parens, append, terms}
use Rattle.meaning.specs.Sound.{IsCode, capacity, Sound}
use Rattle.meaning.specs.Meaning.{meaning}
use Rattle.meaning.specs.Reach.{live}
use Rattle.meaning.specs.Collected.{collected}
use Rattle.meaning.specs.Verdicts.{refused, valued, Done, done}
use Rattle.meaning.specs.Operands.{ops, op_at, uses, wrong11, wrong12, wrong13, fault}
use Rattle.meaning.specs.Call.{join_need, sought_by, step}
use Rattle.meaning.specs.Effect.{effect, sets, becomes, live_for_room, call_status}
use Rattle.meaning.proofs.operands.Uses.{right}
use Rattle.meaning.proofs.effect.Steps.{no_need_lem, step_meets}
use Rattle.promises.specs.Room.{without}
use Rattle.promises.specs.Outright.{Sets, SetsInRoom, Refuses, CallsOutright}
use Rattle.promises.proofs.Verdicts.{verdict_parts}
use Rattle.promises.proofs.room.Seeking.{room_in_words}
use Rattle.promises.proofs.calls.Rooms.{stays}
use Rattle.promises.proofs.calls.Calling.{calls_do}

-- ---- operands that are right

module _ (F : ℕ) where
  fault_d : (d : ℕ) → d < F → fault F 0 d 0 0 ≡ 0
  unfolding fault uses wrong11 wrong12 wrong13
  fault_d d h = rw (lt-leb F d h) refl

  fault_da : (d a : ℕ) → d < F → a < F
      → (fault F 1 d a 0 ≡ 0) × (fault F 3 d a 0 ≡ 0) × (fault F 5 d a 0 ≡ 0) × (fault F 6 d a 0 ≡ 0)
      × (fault F 7 d a 0 ≡ 0)
  unfolding fault uses wrong11 wrong12 wrong13
  fault_da d a h k =
      let x = lt-leb F d h in
      let y = lt-leb F a k in
      (rw (x, y) refl, rw (x, y) refl, rw (x, y) refl, rw (x, y) refl, rw (x, y) refl)

  fault_code : (d a : ℕ) → d < F → IsCode a → fault F 2 d a 0 ≡ 0
  unfolding fault uses wrong11 wrong12 wrong13
  fault_code d a h k = rw (lt-leb F d h, k) refl

  fault_dab : (d a b : ℕ) → d < F → a < F → b < F → fault F 4 d a b ≡ 0
  unfolding fault uses wrong11 wrong12 wrong13
  fault_dab d a b h k l = rw (lt-leb F d h, lt-leb F a k, lt-leb F b l) refl

  fault_a : (a : ℕ) → a < F → (fault F 8 0 a 0 ≡ 0) × (fault F 9 0 a 0 ≡ 0)
  unfolding fault uses wrong11 wrong12 wrong13
  fault_a a h = (rw (lt-leb F a h) refl, rw (lt-leb F a h) refl)

  fault_none : (fault F 10 0 0 0 ≡ 0) × (fault F 11 0 0 0 ≡ 0)
  unfolding fault uses wrong11 wrong12 wrong13
  fault_none = (refl, refl)

-- ---- any call

by_parts : (x : Done) (w : List ℕ) (u c v : ℕ) → x.verdict.status ≡ c → x.verdict.value ≡ v → x.verdict.rule ≡ 0
    → x.words ≡ w → x.top ≡ u → x ≡ refused w u (valued c v)
by_parts x w u c v e f r g h =
    λ j. record { verdict = verdict_parts x.verdict (valued c v) e f r j; words = g j; top = h j }

module _ (F : ℕ) (p : 0 < F) (ws : List ℕ) (top : ℕ) (s : Sound F ws top) where
  module _ (o d a b : ℕ) (f : fault F o d a b ≡ 0) where
    abbrev r : Done
    r = step F ws top o d a b

    -- sets d to x, where it has room for its n cells
    module _ (n : ℕ) (x : Expr) (e : effect F ws top o d a b ≡ sets 0 (meaning ws) d x n) where
      sets_d : d < F → F + live_for_room F ws top o d a b + n ≤ capacity ws → Sets F ws d x r
      unfolding call_status becomes
      sets_d h l =
          let m = step_meets F ws top p s o d a b in
          let z : r.verdict.status ≡ 0 =
          m.status ∙ rw (f, e, le-ltb (capacity ws) (F + live_for_room F ws top o d a b + n) l) refl in
          record {
            status = z;
            value = m.value ∙ rw (z, e) refl;
            here = m.registers d h ∙ rw (z, e, eq-eqb d d refl) refl;
            others = λ i k g. m.registers i k ∙ rw (z, e, ne_eqb i d g) refl;
          }

      no_room : capacity ws < F + live_for_room F ws top o d a b + n → r.verdict.status ≡ 16
      unfolding call_status
      no_room l =
          (step_meets F ws top p s o d a b).status
          ∙ rw (f, e, lt-ltb (capacity ws) (F + live_for_room F ws top o d a b + n) l) refl

      -- with room sought in v
      in_room : (v : List ℕ) → sought_by (op_at o) d a b ws ≡ v → d < F → SetsInRoom F ws (live F v top) d n x r
      in_room v q h = rw (← q) (record { room = sets_d h; no_room = no_room })

    -- without new cells there is always room
    sets_now : (x : Expr) → effect F ws top o d a b ≡ sets 0 (meaning ws) d x 0 → d < F → Sets F ws d x r
    sets_now x e h = sets_d 0 x e h (enough (no_need_lem F ws top p s d a b (op_at o) (right F o d a b f)))
      where
        enough : false ≡ ltb (capacity ws) (F + live_for_room F ws top o d a b + 0)
            → F + live_for_room F ws top o d a b + 0 ≤ capacity ws
        enough q = ltb-false (capacity ws) (F + live_for_room F ws top o d a b + 0) (sym q)

    -- 14 or 15
    refuses : (c : ℕ) → (effect F ws top o d a b).unfit ≡ suc c → suc c ≢ 16 → Refuses ws top (suc c) r
    unfolding call_status
    refuses c u n =
        let k = calls_do F p ws top s o d a b in
        let z : r.verdict.status ≡ suc c = (step_meets F ws top p s o d a b).status ∙ rw (f, u) refl in
        let w = k.refused (λ q. omega arith) (λ q. n (sym z ∙ q)) in
        by_parts r ws top (suc c) 0 z (k.value ∙ rw z refl) k.rule w.0 w.1

  -- sets no register: done, in the store collected where x says so
  asks : (o a : ℕ) (x : Bool) → 8 ≤ o → fault F o 0 a 0 ≡ 0 → (effect F ws top o 0 a 0).unfit ≡ 0
      → (effect F ws top o 0 a 0).need ≡ 0 → (effect F ws top o 0 a 0).collects ≡ x
      → step F ws top o 0 a 0 ≡ done (cond x (collected F ws top) ws) (cond x (F + live F ws top) top)
      (effect F ws top o 0 a 0).value
  unfolding call_status
  asks o a x l f u z c =
      let k = calls_do F p ws top s o 0 a 0 in
      let g = no_need_lem F ws top p s 0 a 0 (op_at o) (right F o 0 a 0 f) in
      let y = stays F ws top s in
      let e : (step F ws top o 0 a 0).verdict.status ≡ 0 =
      (step_meets F ws top p s o 0 a 0).status ∙ rw (f, u, z, ← g) refl in
      by_parts (step F ws top o 0 a 0) (cond x (collected F ws top) ws) (cond x (F + live F ws top) top) 0
      (effect F ws top o 0 a 0).value e
      (k.value ∙ rw e refl) k.rule (k.asked e l ∙ rw (c, z, y) refl)
      (k.done_top e ∙ rw (c, z, y) (add-zero (cond x (F + live F ws top) top)))

join_none : (n m : ℕ) → (n ≡ 0) ⊎ (m ≡ 0) → join_need n m ≡ 0
join_none zero m h = refl
join_none (suc n) zero h = refl
join_none (suc n) (suc m) (inl e) = absurd (omega arith)
join_none (suc n) (suc m) (inr e) = absurd (omega arith)

join_some : (n m : ℕ) → n ≢ 0 → m ≢ 0 → join_need n m ≡ n + m
join_some zero m h k = absurd (h refl)
join_some (suc n) zero h k = absurd (k refl)
join_some (suc n) (suc m) h k = refl

pub calls_outright : CallsOutright
unfolding op_at ops
calls_outright F p ws top s = record {
  clear = λ d h. sets_now F p ws top s 0 d 0 0 (fault_d F d h) nothing refl h;
  copy = λ d a h k. sets_now F p ws top s 1 d a 0 (fault_da F d a h k).0 (meaning ws a) refl h;
  symbols = λ d a h k. in_room F p ws top s 2 d a 0 (fault_code F d a h k) 1 (symbol a nothing) refl (without d ws)
      (room_in_words ws d a 0).symbols h;
  wrap = λ d a h k n. in_room F p ws top s 3 d a 0 (fault_da F d a h k).1 1 (parens (meaning ws a) nothing) refl
      (without d ws) ((room_in_words ws d a 0).wraps n) h;
  wrap_own = λ d h. in_room F p ws top s 3 d d 0 (fault_da F d d h h).1 1 (parens (meaning ws d) nothing) refl ws
      ((room_in_words ws d d 0).wraps_own refl) h;
  join_shares = λ d a b h k l q. sets_now F p ws top s 4 d a b (fault_dab F d a b h k l)
      (append (meaning ws a) (meaning ws b))
      (rw (join_none (terms (meaning ws a)) (terms (meaning ws b)) q) refl) h;
  join_copies = λ d a b h k l x y n m. in_room F p ws top s 4 d a b (fault_dab F d a b h k l)
      (terms (meaning ws a) + terms (meaning ws b)) (append (meaning ws a) (meaning ws b))
      (rw (join_some (terms (meaning ws a)) (terms (meaning ws b)) x y) refl) (without d ws)
      ((room_in_words ws d a b).joins n m) h;
  join_own = λ d a b h k l x y q. in_room F p ws top s 4 d a b (fault_dab F d a b h k l)
      (terms (meaning ws a) + terms (meaning ws b)) (append (meaning ws a) (meaning ws b))
      (rw (join_some (terms (meaning ws a)) (terms (meaning ws b)) x y) refl) ws ((room_in_words ws d a b).joins_own q)
      h;
  head_none = λ d a h k z. refuses F p ws top s 5 d a 0 (fault_da F d a h k).2 13 (rw z refl) (omega arith);
  head_symbol = λ d a c e h k z.
      sets_now F p ws top s 5 d a 0 (fault_da F d a h k).2 (symbol c nothing) (rw z refl) h;
  head_bracket = λ d a i e h k z.
      sets_now F p ws top s 5 d a 0 (fault_da F d a h k).2 (parens i nothing) (rw z refl) h;
  rest_none = λ d a h k z. refuses F p ws top s 6 d a 0 (fault_da F d a h k).3 13 (rw z refl) (omega arith);
  rest_symbol = λ d a c e h k z. sets_now F p ws top s 6 d a 0 (fault_da F d a h k).3 e (rw z refl) h;
  rest_bracket = λ d a i e h k z. sets_now F p ws top s 6 d a 0 (fault_da F d a h k).3 e (rw z refl) h;
  open_none = λ d a h k z. refuses F p ws top s 7 d a 0 (fault_da F d a h k).4 13 (rw z refl) (omega arith);
  open_symbol = λ d a c e h k z. refuses F p ws top s 7 d a 0 (fault_da F d a h k).4 14 (rw z refl) (omega arith);
  open_bracket = λ d a i e h k z. sets_now F p ws top s 7 d a 0 (fault_da F d a h k).4 i (rw z refl) h;
  lengths = λ a h. asks F p ws top s 8 a false (omega arith) (fault_a F a h).0 refl refl refl;
  first_none = λ a h z. refuses F p ws top s 9 0 a 0 (fault_a F a h).1 13 (rw z refl) (omega arith);
  first_symbol = λ a c e h z.
      asks F p ws top s 9 a false (omega arith) (fault_a F a h).1 (rw z refl) refl refl ∙ rw z refl;
  first_bracket = λ a i e h z. refuses F p ws top s 9 0 a 0 (fault_a F a h).1 14 (rw z refl) (omega arith);
  lives = asks F p ws top s 10 0 false (omega arith) (fault_none F).0 refl refl refl;
  collects = asks F p ws top s 11 0 true (omega arith) (fault_none F).1 refl refl refl;
}
