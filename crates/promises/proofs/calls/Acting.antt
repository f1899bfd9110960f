-- The store in which a call acts, by its operation: collected first or as it is, its `top`, and which words the call
-- changes.
-- Assumes nothing.
use mathlib.Core.Path.{◌≡◌, refl, sym, ap, ap₂, ◌∙◌}
use mathlib.Core.Logic.{◌≢◌}
use mathlib.Core.Bool.{Bool, true, cond}
use mathlib.Core.List.{List}
use Prim.Native.Nat.{ℕ, zero, suc, ◌+◌, ◌-◌, ◌*◌, ◌≤◌, ◌<◌}
use native.Mathlib.Nat.{add-zero}
use native.Mathlib.Decide.{ℕ_discrete}
use native.Mathlib.Omega.{arith}
use lib.Dec.{ltb}
use lib.ListN.{length}
use Rattle.meaning.specs.Sound.{Cell, code, empty, ends, at, capacity, Sound, size, start}
use Rattle.meaning.specs.Meaning.{meaning}
use Rattle.meaning.specs.Reach.{live}
use Rattle.meaning.specs.Collected.{collected}
use Rattle.meaning.specs.Verdicts.{Done, done}
use Rattle.meaning.specs.Operands.{Op, CLEAR, COPY, SYMBOL, WRAP, JOIN, HEAD, REST, OPEN, LENGTH, FIRST, LIVE, COLLECT}
use Rattle.meaning.specs.Operands.{ops, uses, op_at, index}
use Rattle.meaning.specs.Actions.{put, share, head, rest, open_first, code_first, new_run, new_symbol, new_bracket}
use Rattle.meaning.specs.Call.{keeps, sought_by, join_need, join_plan, room_top, with_room, plan_of}
use Rattle.meaning.specs.Call.{carry_out, perform}
use Rattle.meaning.specs.Effect.{Effect, facts, does, or_else}
use Rattle.meaning.proofs.effect.Effects.{Denote}
use Rattle.meaning.proofs.effect.Stepping.{size_terms}
use Rattle.meaning.proofs.sound.Cells.{BracketIn, good}
use Rattle.meaning.proofs.operands.Uses.{WordsRight, is_register_lem, is_code_lem, keeps_a, keeps_b}
use Rattle.meaning.proofs.call.Sought.{sought_kept, sought_other}
use Rattle.meaning.proofs.call.Plans.{plan_top}
use Rattle.meaning.proofs.effect.Steps.{sound_by, length_by, size_a, size_b}
use Rattle.promises.specs.Cells.{d_cell, new_cell, Leaves}
use Rattle.promises.proofs.calls.Rooms.{stays, room_top_lem, room_leaves}
use Rattle.promises.proofs.calls.Touching.{only_same, only_trans, first_words}
use Rattle.promises.proofs.calls.Leaving.{clear_leaves, copy_leaves, join_first_leaves, join_second_leaves}
use Rattle.promises.proofs.calls.Leaving.{head_leaves, rest_leaves, open_leaves, symbol_leaves, wrap_leaves}
use Rattle.promises.proofs.calls.Leaving.{run_leaves}

-- LENGTH, FIRST, LIVE, COLLECT
asking : (P : Op → Type 0) → P LENGTH → P FIRST → P LIVE → P COLLECT → (k : ℕ) → k < 4 → P (op_at (8 + k))
unfolding op_at ops
asking P x y z w zero h = x
asking P x y z w (suc zero) h = y
asking P x y z w (suc (suc zero)) h = z
asking P x y z w (suc (suc (suc zero))) h = w
asking P x y z w (suc (suc (suc (suc k)))) h = absurd (omega arith)

pub or_else_zero : (f t : ℕ) → or_else f t ≡ 0 → f ≡ 0
or_else_zero zero t e = refl
or_else_zero (suc f) t e = e

module _ (F : ℕ) (ws : List ℕ) (top : ℕ) (p : 0 < F) (s : Sound F ws top) where
  -- `top` of a call without need, with x reached heap cells in the store in which it would seek room
  same_top : (x : ℕ) → top ≡ cond (ltb (capacity ws) (top + 0)) (F + x) top + 0
  same_top x = rw (stays F ws top s) (sym (add-zero top))

  module _ (d a b : ℕ) where
    -- the store in which the call seeks room, and what is live there
    abbrev v : Op → List ℕ
    v o = sought_by o d a b ws

    abbrev lv : Op → ℕ
    lv o = live F (v o) top

    abbrev x : Op → Effect
    x o = does o (meaning ws) (facts F ws top) d a b

    -- ---- `top`

    more_top : (o : Op) → WordsRight F o d a b → (n : ℕ)
        → room_top F n (v o) top + n ≡ cond (ltb (capacity ws) (top + n)) (F + lv o) top + n
    more_top o q n =
        ap (λ (y : ℕ). y + n)
        (room_top_lem F n (v o) ws top p (sound_by F ws top p s d a b o q) (length_by F ws top p s d a b o))

    join_top : WordsRight F JOIN d a b → (n m : ℕ)
        → plan_top F (join_plan n m (v JOIN) d a b) ws top
        ≡ cond (ltb (capacity ws) (top + join_need n m)) (F + lv JOIN) top + join_need n m
    unfolding plan_top
    join_top q zero m = same_top (lv JOIN)
    join_top q (suc n) zero = same_top (lv JOIN)
    join_top q (suc n) (suc m) = more_top JOIN q (suc n + suc m)

    pub plan_top_lem : (o : Op) → WordsRight F o d a b
        → plan_top F (plan_of o F ws top d a b) ws top
        ≡ cond (x o).collects (F + live F ws top) (cond (ltb (capacity ws) (top + (x o).need)) (F + lv o) top)
        + (x o).need
    unfolding plan_top plan_of uses
    plan_top_lem CLEAR q = same_top (lv CLEAR)
    plan_top_lem COPY q = same_top (lv COPY)
    plan_top_lem SYMBOL q = more_top SYMBOL q 1
    plan_top_lem WRAP q = more_top WRAP q 1
    plan_top_lem JOIN q =
        rw (
          ← size_terms F ws top p s a (is_register_lem F a q.a11),
          ← size_terms F ws top p s b (is_register_lem F b q.b11),
        )
        (join_top q (size (at ws a)) (size (at ws b)))
    plan_top_lem HEAD q = same_top (lv HEAD)
    plan_top_lem REST q = same_top (lv REST)
    plan_top_lem OPEN q = same_top (lv OPEN)
    plan_top_lem LENGTH q = same_top (lv LENGTH)
    plan_top_lem FIRST q = same_top (lv FIRST)
    plan_top_lem LIVE q = same_top (lv LIVE)
    plan_top_lem COLLECT q = sym (add-zero (F + live F ws top))

    -- ---- words

    -- a call that sets no register and needs no cell
    unchanged : (o : ℕ) → 8 ≤ o → (w : List ℕ) (t : ℕ) → Leaves o d a b 0 w t w
    unchanged o h w t = record {
      others = only_same d t 0 w;
      sets = λ k. absurd (omega arith);
      lays = λ j k. absurd (omega arith);
    }

    -- a cell that is not d, or is d and kept, is the same in the store in which room is sought
    same_cell : (o : Op) (c : ℕ) → (c ≡ d → keeps o d a b ≡ true) → at (v o) c ≡ at ws c
    unfolding at
    same_cell o c k = go (ℕ_discrete c d)
      where
        go : Dec (c ≡ d) → at (v o) c ≡ at ws c
        go (yes e) = rw (k e) (ap (λ (u : List ℕ). at u c) (sought_kept d ws))
        go (no n) = let q = sought_other (keeps o d a b) d ws c n in rw (q.0, q.1) refl

    -- what is left of a store, which is collected first where y says so
    abbrev Left : Op → Bool → ℕ → Done → Type 0
    Left o y n r =
        Leaves (index o) d a b n (cond y (collected F (v o) top) ws) (cond y (F + lv o) top) r.words

    plainly : (o : Op) (r : Done) → Leaves (index o) d a b 0 ws top r.words
        → Left o (ltb (capacity ws) (top + 0)) 0 r
    plainly o r h = rw (stays F ws top s) h

    -- where nothing is collected, the store in which room is sought differs from the store at d alone
    module _ (o : Op) (n : ℕ) (t : ℕ) (u : List ℕ) (l : Leaves (index o) d a b n (v o) t u)
        (dc : d_cell (index o) (v o) t a b ≡ d_cell (index o) ws t a b)
        (nc : (j : ℕ) → j < n → new_cell (index o) (v o) a b j ≡ new_cell (index o) ws a b j) where
      from_store : Leaves (index o) d a b n ws t u
      from_store = record {
        others = only_trans d t n ws (v o) u (λ c y g. sought_other (keeps o d a b) d ws c y) l.others;
        sets = λ h. l.sets h ∙ dc;
        lays = λ j h. l.lays j h ∙ nc j h;
      }

    makes : (o : Op) → WordsRight F o d a b → (n : ℕ) (act : List ℕ → ℕ → Done)
        → ((t : ℕ) → d_cell (index o) (v o) t a b ≡ d_cell (index o) ws t a b)
        → ((j : ℕ) → j < n → new_cell (index o) (v o) a b j ≡ new_cell (index o) ws a b j)
        → ((u : List ℕ) (t : ℕ) → Sound F u t → Denote F u (meaning (v o)) → 2 * (t + n) ≤ length u
        → Leaves (index o) d a b n u t (act u t).words)
        → (with_room F n (v o) act ws top).verdict.status ≡ 0
        → Left o (ltb (capacity ws) (top + n)) n (with_room F n (v o) act ws top)
    makes o q n act dc nc =
        room_leaves F n (v o) ws top p (sound_by F ws top p s d a b o q) (length_by F ws top p s d a b o)
        (Leaves (index o) d a b n) act (λ t u l. from_store o n t u l (dc t) nc)

    -- JOIN of two registers that are not empty
    module _ (q : WordsRight F JOIN d a b) (hd : d < F) (ha : a < F) (hb : b < F) where
      same_a : at (v JOIN) a ≡ at ws a
      unfolding uses
      same_a = same_cell JOIN a (λ e. keeps_a JOIN d a b refl e)

      same_b : at (v JOIN) b ≡ at ws b
      unfolding uses
      same_b = same_cell JOIN b (λ e. keeps_b JOIN d a b refl e)

      same_heap : (c : ℕ) → F ≤ c → at (v JOIN) c ≡ at ws c
      same_heap c h = same_cell JOIN c (λ e. absurd (omega arith))

      from_heap : (i j : ℕ) → i < F → size (at ws i) ≢ 0 → F ≤ start (at ws i) + j
      from_heap i j h n = go (at ws i) ((good F ws top p s).regs i h) n
        where
          go : (k : Cell) → BracketIn F top k → size k ≢ 0 → F ≤ start k + j
          go (code c) t n = absurd t
          go empty t n = absurd (n refl)
          go (ends l r) t n = omega (arith, t.0)

      same_copied : size (at ws a) ≢ 0 → size (at ws b) ≢ 0 → (j : ℕ)
          → new_cell 4 (v JOIN) a b j ≡ new_cell 4 ws a b j
      same_copied x y j =
          rw (
            same_a,
            same_b,
            same_heap (start (at ws a) + j) (from_heap a j ha x),
            same_heap (start (at ws b) + (j - size (at ws a))) (from_heap b (j - size (at ws a)) hb y),
          ) refl

      join_words : (n m : ℕ) → size (at ws a) ≡ n → size (at ws b) ≡ m
          → (carry_out F (join_plan n m (v JOIN) d a b) ws top).verdict.status ≡ 0
          → Left JOIN (ltb (capacity ws) (top + join_need n m)) (join_need n m)
          (carry_out F (join_plan n m (v JOIN) d a b) ws top)
      unfolding carry_out uses
      join_words zero m za zb e =
          plainly JOIN (share d b ws top) (join_first_leaves F ws top p s d a b hd za)
      join_words (suc n) zero za zb e =
          plainly JOIN (share d a ws top) (join_second_leaves F ws top p s d a b hd (omega arith) zb)
      join_words (suc n) (suc m) za zb e =
          makes JOIN q (suc n + suc m) (new_run d a b) (λ t. rw (same_a, same_b) refl)
          (λ j h. same_copied (omega arith) (omega arith) j)
          (λ u t w f r.
          let xa = size_a F ws top p s d a b JOIN q u f t w refl ha in
          let xb = size_b F ws top p s d a b JOIN q u f t w refl hb in
          run_leaves F u t p w d a b hd ha hb (suc n + suc m) (ap₂ ◌+◌ (xa ∙ za) (xb ∙ zb)) (omega arith) (omega arith)
          r) e

    pub plan_words : (o : Op) → WordsRight F o d a b → (perform o F ws top d a b).verdict.status ≡ 0
        → (let n = (x o).need in
        Leaves (index o) d a b n
        (cond (x o).collects (collected F ws top) (cond (ltb (capacity ws) (top + n)) (collected F (v o) top) ws))
        (cond (x o).collects (F + live F ws top) (cond (ltb (capacity ws) (top + n)) (F + lv o) top))
        (perform o F ws top d a b).words)
    unfolding perform plan_of carry_out uses
    plan_words CLEAR q e =
        plainly CLEAR (done (put ws d empty) top 0) (clear_leaves F ws top p s d a b (is_register_lem F d q.d11))
    plan_words COPY q e = plainly COPY (share d a ws top) (copy_leaves F ws top p s d a b (is_register_lem F d q.d11))
    plan_words SYMBOL q e =
        makes SYMBOL q 1 (new_symbol d a) (λ t. refl) (λ j h. refl)
        (λ u t w f r. symbol_leaves F u t p w d a b (is_register_lem F d q.d11) (is_code_lem a q.a13) r) e
    plan_words WRAP q e =
        makes WRAP q 1 (new_bracket d a) (λ t. refl)
        (λ j h. same_cell WRAP a (λ z. keeps_a WRAP d a b refl z))
        (λ u t w f r. wrap_leaves F u t p w d a b (is_register_lem F d q.d11) r) e
    plan_words JOIN q e =
        let ha = is_register_lem F a q.a11 in
        let hb = is_register_lem F b q.b11 in
        rw (← size_terms F ws top p s a ha, ← size_terms F ws top p s b hb)
        (join_words q (is_register_lem F d q.d11) ha hb (size (at ws a)) (size (at ws b)) refl refl e)
    plan_words HEAD q e =
        plainly HEAD (head ws top d (at ws a))
        (head_leaves F ws top p s d a b (is_register_lem F d q.d11) (is_register_lem F a q.a11) e)
    plan_words REST q e =
        plainly REST (rest ws top d (at ws a))
        (rest_leaves F ws top p s d a b (is_register_lem F d q.d11) (is_register_lem F a q.a11) e)
    plan_words OPEN q e =
        plainly OPEN (open_first ws top d (at ws a))
        (open_leaves F ws top p s d a b (is_register_lem F d q.d11) (is_register_lem F a q.a11) e)
    plan_words LENGTH q e = plainly LENGTH (done ws top (size (at ws a))) (unchanged 8 (omega arith) ws top)
    plan_words FIRST q e =
        plainly FIRST (code_first ws top (at ws a))
        (rw (first_words ws top (at ws a)) (unchanged 9 (omega arith) ws top))
    plan_words LIVE q e = plainly LIVE (done ws top (live F ws top)) (unchanged 10 (omega arith) ws top)
    plan_words COLLECT q e = unchanged 11 (omega arith) (collected F ws top) (F + live F ws top)

    -- LENGTH, FIRST, LIVE and COLLECT
    pub asked_words : (k : ℕ) → k < 4
        → (perform (op_at (8 + k)) F ws top d a b).words
        ≡ cond (x (op_at (8 + k))).collects (collected F ws top)
        (cond (ltb (capacity ws) (top + (x (op_at (8 + k))).need)) (collected F (v (op_at (8 + k))) top) ws)
    unfolding perform plan_of carry_out uses
    asked_words =
        asking (λ o. (perform o F ws top d a b).words ≡ cond (x o).collects (collected F ws top)
        (cond (ltb (capacity ws) (top + (x o).need)) (collected F (v o) top) ws))
        (rw (stays F ws top s) refl) (rw (stays F ws top s) (first_words ws top (at ws a)))
        (rw (stays F ws top s) refl) refl
