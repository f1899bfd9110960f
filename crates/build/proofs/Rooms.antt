-- Room made as the code goes about it, whatever the store is in which it is sought. In order:
--   low_live                  `top` once collected is F + live;  live_small  which is at most `limit`
--   there, gained             room sought in the store itself: it is above `top`, or the store is collected for it
--   vacated, freed, given_up  room sought without d's old expression: it is above `top`, or gained by a collection, or
--                             there is none;  put_back  then d has its words again;  nothing_dead  and where no cell
--                             is dead the store is its own collection
--   room_roomy                where room is made, the store is sound and has n free cells
--   room_does, room_refuses   what a call with room does then: its action, or the refusal 16
--   room_size                 a register that denotes what it did has as many terms as before
-- Assumes nothing.
use mathlib.Core.Path.{◌≡◌, refl, sym, ap, ◌∙◌}
use mathlib.Core.Bool.{Bool, true, false, cond}
use mathlib.Core.List.{List}
use Prim.Native.Nat.{ℕ, ◌+◌, ◌-◌, ◌≤◌, ◌<◌}
use native.Mathlib.Omega.{arith}
use lib.Dec.{ltb}
use borrow.Author.Tests.{lt-ltb, le-ltb}
use Rattle.words.specs.Cell.{first_word, second_word, put_cell}
use Rattle.meaning.specs.Limits.{first_heap_cell, limit}
use Rattle.meaning.specs.Expr.{terms}
use Rattle.meaning.specs.Sound.{empty, Sound, capacity, at, size}
use Rattle.meaning.specs.Meaning.{meaning}
use Rattle.meaning.specs.Reach.{live}
use Rattle.meaning.specs.Collected.{collected, collected_top}
use Rattle.meaning.specs.Verdicts.{Done, refused, only}
use Rattle.meaning.specs.Actions.{put}
use Rattle.meaning.specs.Call.{sought, with_room}
use Rattle.meaning.proofs.reach.Reaching.{live_le}
use Rattle.meaning.proofs.collected.Collecting.{collected_sound, length_collected, meaning_kept}
use Rattle.meaning.proofs.collected.Whole.{collected_whole}
use Rattle.meaning.proofs.effect.Stepping.{size_terms}
use Rattle.meaning.proofs.call.Sought.{sought_length, sought_empty, sought_back, sought_sound, sought_live}
use Rattle.meaning.proofs.call.Plans.{as_it_is}
use Rattle.meaning.proofs.call.Plans.{once_collected}
use Rattle.store.proofs.Sounds.{first_heap_cell_pos, register_inside}
use Rattle.build.specs.Room.{RoomMade, Sought, Roomy, room_then}
use Rattle.std.specs.Prelude.{Result, Ok, Err}
use Rattle.build.specs.declared.room.NoRoom.{NoRoom}

-- what is live, and `top` once collected
module _ (ws : List ℕ) (top : ℕ) (s : Sound first_heap_cell ws top) where
  pub low_live : collected_top first_heap_cell ws top ≡ first_heap_cell + live first_heap_cell ws top
  low_live = refl

  pub live_small : first_heap_cell + live first_heap_cell ws top ≤ limit
  live_small = omega (arith, live_le first_heap_cell ws top first_heap_cell_pos s, s.high, s.allowed.small)

-- ---- room for n cells, sought in v: above `top`, or once v is collected, or nowhere

module _ (n : ℕ) {v : List ℕ} {top : ℕ} (ws : List ℕ) (s : Sound first_heap_cell v top) where
  room_above : top + n ≤ capacity v → RoomMade n v ws top (Ok top) v
  room_above h = record {
    does = λ act. as_it_is first_heap_cell n v top first_heap_cell_pos s act ws (le-ltb (capacity v) (top + n) h);
    ready = (s, omega arith);
    denote = λ i l. refl;
  }

  -- by the second test
  once : capacity v < top + n → (u : Bool) → ltb (capacity v) (collected_top first_heap_cell v top + n) ≡ u
      → (act : List ℕ → ℕ → Done) → with_room first_heap_cell n v act ws top
      ≡ cond u (refused (collected first_heap_cell ws top) (collected_top first_heap_cell ws top) (only 16))
      (act (collected first_heap_cell v top) (collected_top first_heap_cell v top))
  once h u e act =
      once_collected first_heap_cell n v top first_heap_cell_pos s act ws (lt-ltb (capacity v) (top + n) h) ∙ rw e refl

  room_collected : {u : List ℕ} {t : ℕ} → capacity v < top + n → u ≡ collected first_heap_cell v top
      → t ≡ collected_top first_heap_cell v top → t + n ≤ capacity v → RoomMade n v ws top (Ok t) u
  room_collected h e f g =
      let low = collected_top first_heap_cell v top in
      let long = length_collected first_heap_cell v top first_heap_cell_pos s in
      rw (e, f) (record {
        does = once h false (le-ltb (capacity v) (low + n) (omega arith));
        ready = (collected_sound first_heap_cell v top first_heap_cell_pos s, omega arith);
        denote = meaning_kept first_heap_cell v top first_heap_cell_pos s;
      })

  room_nowhere : Sound first_heap_cell ws top → {u : List ℕ} {t : ℕ} → capacity v < top + n
      → capacity v < collected_top first_heap_cell v top + n → u ≡ collected first_heap_cell ws top
      → t ≡ collected_top first_heap_cell ws top → RoomMade n v ws top (Err (record { top = t })) u
  room_nowhere w h g e f =
      rw (e, f) (record {
        does = once h true (lt-ltb (capacity v) (collected_top first_heap_cell v top + n) g);
        ready = tt;
        denote = meaning_kept first_heap_cell ws top first_heap_cell_pos w;
      })

-- ---- room sought in the store itself

module _ {n : ℕ} {ws : List ℕ} {top : ℕ} (s : Sound first_heap_cell ws top) where
  pub there : top + n ≤ capacity ws → Sought n ws top ws top
  there h = record { small = omega arith; ready = λ g. room_above n ws s h; lacking = λ g. absurd (omega arith) }

  pub gained : {v : List ℕ} {t : ℕ} → capacity ws < top + n → v ≡ collected first_heap_cell ws top
      → t ≡ collected_top first_heap_cell ws top → Sought n ws top v t
  gained h e f = record {
    small = omega (arith, f, low_live ws top s, live_le first_heap_cell ws top first_heap_cell_pos s);
    ready = λ g. room_collected n ws s h e f g;
    lacking = λ g. room_nowhere n ws s s h (omega (arith, f)) e f;
  }

-- ---- room sought without d's old expression: in u, which is the store with d empty

module _ (n : ℕ) (ws : List ℕ) (top d : ℕ) (s : Sound first_heap_cell ws top) (l : d < first_heap_cell) {u : List ℕ}
    (e : u ≡ put ws d empty) where
  abbrev v : List ℕ
  v = sought false d ws

  is_sought : u ≡ v
  is_sought = e ∙ sym (sought_empty d ws)

  sound_v : Sound first_heap_cell v top
  sound_v = sought_sound first_heap_cell ws top first_heap_cell_pos s false d (λ _. l)

  pub vacated_sound : Sound first_heap_cell u top
  vacated_sound = rw is_sought sound_v

  pub vacated : n ≤ capacity ws - top → RoomMade n v ws top (Ok top) u
  vacated h =
      rw is_sought (room_above n ws sound_v (omega (arith, s.high, sought_length false d ws)))

  -- x is what a collection leaves that is done only where it frees the cells that are missing
  module _ (few : capacity ws - top < n) {x : List ℕ} {t : ℕ}
      (c : x ≡ cond (ltb (top - t) (n - (capacity ws - top))) u (collected first_heap_cell u top))
      (f : t ≡ collected_top first_heap_cell u top) where
    missing : capacity v < top + n
    missing = omega (arith, s.high, sought_length false d ws)

    at_v : t ≡ collected_top first_heap_cell v top
    at_v = rw is_sought at f

    pub no_higher : t ≤ top
    no_higher = omega (arith, at_v, low_live v top sound_v, live_le first_heap_cell v top first_heap_cell_pos sound_v)

    pub freed : n - (capacity ws - top) ≤ top - t → RoomMade n v ws top (Ok t) x
    freed h =
        let r : x ≡ collected first_heap_cell v top =
        rw (le-ltb (top - t) (n - (capacity ws - top)) h, is_sought) at c in
        room_collected n ws sound_v missing r at_v
        (omega (arith, s.high, no_higher, sought_length false d ws))

    -- there is no room: x is the store with d empty, and with d's words put back the store itself
    module _ (g : top - t < n - (capacity ws - top)) where
      pub put_back : {w : List ℕ} {a b : ℕ} → w ≡ put_cell x d a b → a ≡ first_word ws d → b ≡ second_word ws d → w ≡ ws
      put_back y k m =
          let r : x ≡ v = rw (lt-ltb (top - t) (n - (capacity ws - top)) g, is_sought) at c in
          y ∙ rw (r, k, m) (sought_back false d ws (register_inside ws top s d l) s.allowed.even)

      pub nothing_dead : t ≡ top
          → (ws ≡ collected first_heap_cell ws top) × (top ≡ collected_top first_heap_cell ws top)
      nothing_dead y =
          let fewer = sought_live first_heap_cell ws top first_heap_cell_pos s false d (λ _. l) in
          let most = live_le first_heap_cell ws top first_heap_cell_pos s in
          let e : collected_top first_heap_cell ws top ≡ top = omega (arith, at_v, fewer, most) in
          (sym (collected_whole first_heap_cell ws top first_heap_cell_pos s e), sym e)

      pub given_up : {w : List ℕ} {q : ℕ} → w ≡ collected first_heap_cell ws top
          → q ≡ collected_top first_heap_cell ws top → RoomMade n v ws top (Err (record { top = q })) w
      given_up y z =
          room_nowhere n ws sound_v s missing (omega (arith, s.high, at_v, no_higher, sought_length false d ws)) y z

-- ---- what a call learns of the room made

module _ {n : ℕ} {v ws : List ℕ} {top : ℕ} {r : Result ℕ NoRoom} {u : List ℕ} (m : RoomMade n v ws top r u) where
  pub room_roomy : {t : ℕ} → r ≡ Ok t → Roomy n u t
  room_roomy e = rw e at m.ready

  pub room_does : {t : ℕ} → r ≡ Ok t → (act : List ℕ → ℕ → Done) → with_room first_heap_cell n v act ws top ≡ act u t
  room_does e act = m.does act ∙ ap (λ (x : Result ℕ NoRoom). room_then x u act) e

  pub room_refuses : {e : NoRoom} → r ≡ Err e → (act : List ℕ → ℕ → Done)
      → with_room first_heap_cell n v act ws top ≡ refused u e.top (only 16)
  room_refuses e act = m.does act ∙ ap (λ (x : Result ℕ NoRoom). room_then x u act) e

  -- a register whose expression v has too has as many terms as before
  pub room_size : {t : ℕ} → r ≡ Ok t → Sound first_heap_cell ws top → (i : ℕ) → i < first_heap_cell
      → meaning v i ≡ meaning ws i
      → size (at u i) ≡ size (at ws i)
  room_size {t} e s i h k =
      size_terms first_heap_cell u t first_heap_cell_pos (room_roomy e).0 i h
      ∙ (ap terms ((rw e at (m.denote i h)) ∙ k) ∙ sym (size_terms first_heap_cell ws top first_heap_cell_pos s i h))
