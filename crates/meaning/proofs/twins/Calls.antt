-- A call answers the same in twins, and leaves twins.
-- Assumes nothing.
use mathlib.Core.Path.{◌≡◌, refl, sym, ◌∙◌}
use mathlib.Core.List.{List}
use Prim.Native.Nat.{ℕ, zero, suc, ◌+◌, ◌*◌, ◌≤◌, ◌<◌}
use native.Mathlib.Omega.{arith}
use lib.ListN.{length}
use Rattle.meaning.specs.Sound.{empty, at, Sound, size}
use Rattle.meaning.specs.Reach.{live}
use Rattle.meaning.specs.Verdicts.{Done, done}
use Rattle.meaning.specs.Operands.{Op, CLEAR, COPY, SYMBOL, WRAP, JOIN, HEAD, REST, OPEN, LENGTH, FIRST, LIVE}
use Rattle.meaning.specs.Operands.{COLLECT, uses, fault, op_at}
use Rattle.meaning.specs.Actions.{put, share, new_symbol, new_bracket, new_run, head, rest, open_first, code_first}
use Rattle.meaning.specs.Call.{keeps, sought_by, join_plan, with_room, plan_of, carry_out, perform, step_after, step}
use Rattle.meaning.proofs.operands.Uses.{WordsRight, right, is_register_lem, is_code_lem, unkept_register}
use Rattle.meaning.proofs.effect.Steps.{size_a, size_b}
use Rattle.meaning.proofs.twins.Agree.{Agree, clear_same, share_same, head_same, rest_same, open_same}
use Rattle.meaning.proofs.twins.Agree.{length_same}
use Rattle.meaning.proofs.twins.Agree.{first_same, live_same}
use Rattle.meaning.proofs.twins.Builds.{symbol_same, wrap_same, run_same}
use Rattle.meaning.proofs.twins.Twins.{Twin, sought_twin, twin_size, Steady, via, via_collected, Builds}
use Rattle.meaning.proofs.twins.Twins.{room_twin}

-- JOIN copies n terms and m terms
run_builds : (F : ℕ) (p : 0 < F) (ws : List ℕ) (top : ℕ) → Sound F ws top → (d a b : ℕ) → WordsRight F JOIN d a b
    → d < F → a < F → b < F → (n m : ℕ) → size (at ws a) ≡ suc n → size (at ws b) ≡ suc m
    → Builds F (suc n + suc m) (new_run d a b) (sought_by JOIN d a b ws)
unfolding uses
run_builds F p ws top s d a b q hd ha hb n m za zb x u w e r =
    let sa = size_a F ws top p s d a b JOIN q x e u w refl ha ∙ za in
    let sb = size_b F ws top p s d a b JOIN q x e u w refl hb ∙ zb in
    run_same F x u p w d a b hd ha hb (omega arith) (omega arith) (rw (sa, sb) r)

-- ---- any call

module _ (F : ℕ) (ws : List ℕ) (top : ℕ) (ws' : List ℕ) (top' : ℕ) (p : 0 < F) (t : Twin F ws top ws' top')
    (d a b : ℕ) where
  plains : (act : List ℕ → ℕ → Done) → ((x : List ℕ) (u : ℕ) → Sound F x u → Steady F act x u)
      → Agree F (act ws top) (act ws' top')
  plains act h = via F ws top ws' top' p t act (h ws top t.one) (h ws' top' t.two)

  -- the stores in which the call seeks room
  abbrev v : Op → List ℕ
  v o = sought_by o d a b ws

  abbrev v' : Op → List ℕ
  v' o = sought_by o d a b ws'

  makes : (o : Op) → WordsRight F o d a b → (n : ℕ) (act : List ℕ → ℕ → Done) → Builds F n act (v o)
      → Builds F n act (v' o)
      → Agree F (with_room F n (v o) act ws top) (with_room F n (v' o) act ws' top')
  makes o q n act =
      room_twin F p n act ws top ws' top' t (v o) (v' o)
      (sought_twin F ws top ws' top' p t (keeps o d a b) d (unkept_register o d a b F q))

  -- by an action that asks nothing of the registers
  lays : (o : Op) → WordsRight F o d a b → (act : List ℕ → ℕ → Done)
      → ((x : List ℕ) (u : ℕ) → Sound F x u → 2 * (u + 1) ≤ length x → Steady F act x u)
      → Agree F (with_room F 1 (v o) act ws top) (with_room F 1 (v' o) act ws' top')
  lays o q act h = makes o q 1 act (λ x u s e r. h x u s r) (λ x u s e r. h x u s r)

  join_twin : WordsRight F JOIN d a b → d < F → a < F → b < F → (n m : ℕ) → size (at ws a) ≡ n → size (at ws b) ≡ m
      → Agree F (carry_out F (join_plan n m (v JOIN) d a b) ws top)
      (carry_out F (join_plan n m (v' JOIN) d a b) ws' top')
  unfolding carry_out
  join_twin q hd ha hb zero m za zb = plains (share d b) (λ x u s. share_same F x u p s d b hd hb)
  join_twin q hd ha hb (suc n) zero za zb = plains (share d a) (λ x u s. share_same F x u p s d a hd ha)
  join_twin q hd ha hb (suc n) (suc m) za zb =
      makes JOIN q (suc n + suc m) (new_run d a b) (run_builds F p ws top t.one d a b q hd ha hb n m za zb)
      (run_builds F p ws' top' t.two d a b q hd ha hb n m (sym (twin_size F ws top ws' top' p t a ha) ∙ za)
      (sym (twin_size F ws top ws' top' p t b hb) ∙ zb))

  perform_twin : (o : Op) → WordsRight F o d a b → Agree F (perform o F ws top d a b) (perform o F ws' top' d a b)
  unfolding perform plan_of carry_out uses
  perform_twin CLEAR q =
      plains (λ x u. done (put x d empty) u 0) (λ x u s. clear_same F x u p s d (is_register_lem F d q.d11))
  perform_twin COPY q =
      plains (share d a) (λ x u s. share_same F x u p s d a (is_register_lem F d q.d11) (is_register_lem F a q.a11))
  perform_twin SYMBOL q =
      lays SYMBOL q (new_symbol d a)
      (λ x u s r. symbol_same F x u p s d a (is_register_lem F d q.d11) (is_code_lem a q.a13) r)
  perform_twin WRAP q =
      lays WRAP q (new_bracket d a)
      (λ x u s r. wrap_same F x u p s d a (is_register_lem F d q.d11) (is_register_lem F a q.a11) r)
  perform_twin JOIN q =
      let ha = is_register_lem F a q.a11 in
      let hb = is_register_lem F b q.b11 in
      rw (← twin_size F ws top ws' top' p t a ha, ← twin_size F ws top ws' top' p t b hb)
      (join_twin q (is_register_lem F d q.d11) ha hb (size (at ws a)) (size (at ws b)) refl refl)
  perform_twin HEAD q =
      plains (λ x u. head x u d (at x a))
      (λ x u s. head_same F x u p s d a (is_register_lem F d q.d11) (is_register_lem F a q.a11))
  perform_twin REST q =
      plains (λ x u. rest x u d (at x a))
      (λ x u s. rest_same F x u p s d a (is_register_lem F d q.d11) (is_register_lem F a q.a11))
  perform_twin OPEN q =
      plains (λ x u. open_first x u d (at x a))
      (λ x u s. open_same F x u p s d a (is_register_lem F d q.d11) (is_register_lem F a q.a11))
  perform_twin LENGTH q =
      plains (λ x u. done x u (size (at x a))) (λ x u s. length_same F x u p s a (is_register_lem F a q.a11))
  perform_twin FIRST q =
      plains (λ x u. code_first x u (at x a)) (λ x u s. first_same F x u p s a (is_register_lem F a q.a11))
  perform_twin LIVE q = plains (λ x u. done x u (live F x u)) (λ x u s. live_same F x u p s)
  perform_twin COLLECT q = via_collected F ws top ws' top' p t (λ x u. done x u (live F x u))

module _ (F : ℕ) (ws : List ℕ) (top : ℕ) (ws' : List ℕ) (top' : ℕ) (p : 0 < F) (t : Twin F ws top ws' top') where
  pub step_agrees : (o d a b : ℕ) → Agree F (step F ws top o d a b) (step F ws' top' o d a b)
  unfolding step step_after
  step_agrees o d a b = go (fault F o d a b) refl
    where
      go : (f : ℕ) → fault F o d a b ≡ f → Agree F (step_after f F ws top o d a b) (step_after f F ws' top' o d a b)
      go zero q = perform_twin F ws top ws' top' p t d a b (op_at o) (right F o d a b q)
      go (suc f) q = record { verdict = refl; same = t.same }
