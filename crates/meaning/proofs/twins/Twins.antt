-- Twins: sound stores of one length with the same canonical words. An action that answers the same in a store and in
-- that store collected answers the same in twins and leaves twins; so does one for which room is sought first.
-- In order:
--   Twin                               two such stores
--   twin_self, twin_flip, twin_trans   a store and itself;  the other way round;  by a third
--   twin_collected                     a store, collected or not, and the store
--   Steady                             an action answers the same in a store and in that store collected
--   twin_live, twin_size               live and the sizes of registers are the same in twins
--   via, via_collected                 a steady action in twins, and any action in twins once collected
--   sought_twin                        the stores in which twins seek room are twins
--   Builds                             an action for n new cells, steady where the registers denote what they do in v
--   room_twin                          such an action in twins, once room is sought
-- Assumes nothing.
use mathlib.Core.Path.{◌≡◌, refl, sym, ap, ◌∙◌}
use mathlib.Core.Bool.{Bool, true, false, cond}
use mathlib.Core.List.{List}
use Prim.Native.Nat.{ℕ, ◌+◌, ◌*◌, ◌≤◌, ◌<◌}
use native.Mathlib.Omega.{arith}
use lib.Dec.{ltb}
use lib.ListN.{length}
use Rattle.meaning.specs.Sound.{empty, at, Sound, capacity, size}
use Rattle.meaning.specs.Meaning.{meaning}
use Rattle.meaning.specs.Reach.{live}
use Rattle.meaning.specs.Collected.{collected, collected_top}
use Rattle.meaning.specs.Verdicts.{Done, done, refused, only}
use Rattle.meaning.specs.Actions.{put}
use Rattle.meaning.specs.Call.{sought, lacks, room_words, room_top, with_room}
use Rattle.meaning.proofs.collected.Collecting.{collected_sound, length_collected}
use Rattle.meaning.proofs.actions.Writing.{length_put, sound_register}
use Rattle.meaning.proofs.effect.Effects.{Denote}
use Rattle.meaning.proofs.call.Plans.{room_sound, room_denote, room_fits}
use Rattle.meaning.proofs.twins.Canons.{canon, length_canon, same_collected}
use Rattle.meaning.proofs.twins.Pairs.{canon_collected}
use Rattle.meaning.proofs.twins.Agree.{Agree, size_register, clear_same}

pub record Twin (F : ℕ) (ws : List ℕ) (top : ℕ) (ws' : List ℕ) (top' : ℕ) : Type 0 where
  pub one : Sound F ws top
  pub two : Sound F ws' top'
  pub len : length ws ≡ length ws'
  pub same : canon F ws top ≡ canon F ws' top'

pub twin_self : (F : ℕ) (ws : List ℕ) (top : ℕ) → Sound F ws top → Twin F ws top ws top
twin_self F ws top s = record { one = s; two = s; len = refl; same = refl }

pub twin_flip : {F : ℕ} {ws : List ℕ} {top : ℕ} {ws' : List ℕ} {top' : ℕ} → Twin F ws top ws' top'
    → Twin F ws' top' ws top
twin_flip t = record { one = t.two; two = t.one; len = sym t.len; same = sym t.same }

pub twin_trans : {F : ℕ} {ws : List ℕ} {top : ℕ} {ws' : List ℕ} {top' : ℕ} {ws'' : List ℕ} {top'' : ℕ}
    → Twin F ws top ws' top' → Twin F ws' top' ws'' top'' → Twin F ws top ws'' top''
twin_trans t u = record { one = t.one; two = u.two; len = t.len ∙ u.len; same = t.same ∙ u.same }

-- a store, collected where c says so
pub twin_collected : (F : ℕ) (ws : List ℕ) (top : ℕ) → 0 < F → Sound F ws top → (c : Bool)
    → Twin F (cond c (collected F ws top) ws) (cond c (collected_top F ws top) top) ws top
twin_collected F ws top p s true =
    record {
      one = collected_sound F ws top p s;
      two = s;
      len = length_collected F ws top p s;
      same = canon_collected
          F ws top p s;
    }
twin_collected F ws top p s false = twin_self F ws top s

-- ---- actions

-- an action answers the same in a store and in that store collected
abbrev pub Steady : ℕ → (List ℕ → ℕ → Done) → List ℕ → ℕ → Type 0
Steady F act ws top = Agree F (act ws top) (act (collected F ws top) (collected_top F ws top))

module _ (F : ℕ) (ws : List ℕ) (top : ℕ) (ws' : List ℕ) (top' : ℕ) (p : 0 < F) (t : Twin F ws top ws' top') where
  pub twin_live : live F ws top ≡ live F ws' top'
  twin_live = omega (arith, length_canon F ws top, length_canon F ws' top', ap length t.same)

  pub twin_size : (i : ℕ) → i < F → size (at ws i) ≡ size (at ws' i)
  twin_size i h =
      sym (size_register F ws top p t.one i h)
      ∙ (ap (λ (v : List ℕ). size (at v i)) (same_collected F ws top ws' top' t.len t.same).0 ∙ size_register F
      ws' top' p t.two i h)

  -- then it answers the same in twins
  pub via : (act : List ℕ → ℕ → Done) → Steady F act ws top → Steady F act ws' top'
      → Agree F (act ws top) (act ws' top')
  via act u y =
      let c = same_collected F ws top ws' top' t.len t.same in
      let x : Agree F (act ws top) (act (collected F ws' top') (collected_top F ws' top')) = rw (c.0, c.1) at u in
      record { verdict = x.verdict ∙ sym y.verdict; same = x.same ∙ sym y.same }

  -- any action in twins once collected
  pub via_collected : (act : List ℕ → ℕ → Done)
      → Agree F (act (collected F ws top) (collected_top F ws top))
      (act (collected F ws' top') (collected_top F ws' top'))
  via_collected act =
      let c = same_collected F ws top ws' top' t.len t.same in rw (c.0, c.1)
      (record { verdict = refl; same = refl })

-- ---- the store in which room is sought, by the one law that unfolds it here: twins have twins

pub sought_twin : (F : ℕ) (ws : List ℕ) (top : ℕ) (ws' : List ℕ) (top' : ℕ) → 0 < F → Twin F ws top ws' top'
    → (kept : Bool) (d : ℕ) → (kept ≡ false → d < F) → Twin F (sought kept d ws) top (sought kept d ws') top'
unfolding sought
sought_twin F ws top ws' top' p t true d l = t
sought_twin F ws top ws' top' p t false d l = record {
  one = sound_register F ws top p t.one d (l refl) empty tt;
  two = sound_register F ws' top' p t.two d (l refl) empty tt;
  len = length_put ws d empty ∙ (t.len ∙ sym (length_put ws' d empty));
  same = (via F ws top ws' top' p t (λ v u. done (put v d empty) u 0) (clear_same F ws top p t.one d (l refl))
      (clear_same F ws' top' p t.two d (l refl))).same;
}

-- ---- n new cells, room sought in v: an action that answers the same wherever the registers denote what they do in v

abbrev pub Builds : ℕ → ℕ → (List ℕ → ℕ → Done) → List ℕ → Type 0
Builds F n act v =
    (x : List ℕ) (u : ℕ) → Sound F x u → Denote F x (meaning v) → 2 * (u + n) ≤ length x → Steady F act x u

module _ (F : ℕ) (p : 0 < F) (n : ℕ) (act : List ℕ → ℕ → Done) where
  pub room_twin : (ws : List ℕ) (top : ℕ) (ws' : List ℕ) (top' : ℕ) → Twin F ws top ws' top' → (v v' : List ℕ)
      → Twin F v top v' top' → Builds F n act v → Builds F n act v'
      → Agree F (with_room F n v act ws top) (with_room F n v' act ws' top')
  unfolding with_room
  room_twin ws top ws' top' t v v' q h h' = rw lacks_same (go (lacks F n v' top') refl)
    where
      lacks_same : lacks F n v top ≡ lacks F n v' top'
      lacks_same = unfold lacks in rw (q.len, twin_live F v top v' top' p q) refl

      rooms : Twin F (room_words F n v top) (room_top F n v top) (room_words F n v' top') (room_top F n v' top')
      rooms = unfold room_words room_top in
          twin_trans (twin_collected F v top p q.one (ltb (capacity v) (top + n)))
          (twin_trans q (twin_flip (twin_collected F v' top' p q.two (ltb (capacity v') (top' + n)))))

      built : (x : List ℕ) (u : ℕ) → Sound F x u → lacks F n x u ≡ false → Builds F n act x
          → Steady F act (room_words F n x u) (room_top F n x u)
      built x u w e b =
          b (room_words F n x u) (room_top F n x u) (room_sound F n x u p w) (room_denote F n x u p w)
          (room_fits F n x u p w e)

      go : (x : Bool) → lacks F n v' top' ≡ x
          → Agree F (cond x (refused (collected F ws top) (collected_top F ws top) (only 16))
          (act (room_words F n v top) (room_top F n v top)))
          (cond x (refused (collected F ws' top') (collected_top F ws' top') (only 16))
          (act (room_words F n v' top') (room_top F n v' top')))
      go true e = via_collected F ws top ws' top' p t (λ x u. refused x u (only 16))
      go false e =
          via F (room_words F n v top) (room_top F n v top) (room_words F n v' top') (room_top F n v' top') p rooms act
          (built v top q.one (lacks_same ∙ e) h) (built v' top' q.two e h')
