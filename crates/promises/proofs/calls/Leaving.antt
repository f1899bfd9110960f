-- What each action leaves in the cells of a sound store: register d's cell, the new cells, and no other. In order:
--   clear_leaves .. open_leaves    actions without new cells
--   symbol_leaves, wrap_leaves, run_leaves   with new cells, where there is room for them
-- Assumes nothing.
use mathlib.Core.Path.{◌≡◌, refl, ◌∙◌}
use mathlib.Core.Logic.{◌⊎◌, inl, inr, ◌≢◌}
use mathlib.Core.Bool.{Bool, true, false, cond}
use mathlib.Core.List.{List}
use Prim.Native.Nat.{ℕ, suc, ◌+◌, ◌-◌, ◌*◌, ◌≤◌, ◌<◌}
use native.Mathlib.Nat.{le_refl, add-zero}
use native.Mathlib.Omega.{arith}
use lib.Dec.{ltb, leb}
use lib.ListN.{length}
use borrow.Author.Tests.{ltb-true, ltb-false, lt-ltb, le-ltb, le-leb, lt-leb, ne_eqb}
use Rattle.words.specs.Cell.{first_word, second_word}
use Rattle.words.proofs.Cells.{first_word_same, second_word_same}
use Rattle.meaning.specs.Sound.{IsCode, Cell, code, empty, ends, at, size, Sound}
use Rattle.meaning.specs.Verdicts.{Done, done}
use Rattle.meaning.specs.Actions.{put, copy, copies, share, head, rest, open_term, open_first, new_symbol, new_bracket}
use Rattle.meaning.specs.Actions.{new_run_of, new_run}
use Rattle.meaning.proofs.Lists.{lt_or_ge}
use Rattle.meaning.proofs.sound.Cells.{BracketIn, good}
use Rattle.meaning.proofs.actions.Writing.{length_put, at_put, at_put_other}
use Rattle.meaning.proofs.actions.Laying.{Both, both_of}
use Rattle.meaning.proofs.actions.Copying.{copy_length}
use Rattle.promises.specs.Cells.{Leaves}
use Rattle.promises.proofs.calls.Touching.{clear_only, share_only, head_only, rest_only, open_first_only}
use Rattle.promises.proofs.calls.Touching.{symbol_only, wrap_only, run_only}

at_copy : (ws : List ℕ) (c x : ℕ) → 2 * c + 1 < length ws → at (copy ws c x) c ≡ at ws x
unfolding at copy
at_copy ws c x h =
    rw (
      first_word_same ws c (first_word ws x) (second_word ws x) h,
      second_word_same ws c (first_word ws x) (second_word ws x) h,
    ) refl

module _ (F : ℕ) (ws : List ℕ) (top : ℕ) (p : 0 < F) (s : Sound F ws top) (d a b : ℕ) (hd : d < F) where
  abbrev Left : ℕ → ℕ → Done → Type 0
  Left o n r = Leaves o d a b n ws top r.words

  within : 2 * d + 1 < length ws
  within = omega (arith, s.allowed.large)

  -- ---- without new cells

  pub clear_leaves : Left 0 0 (done (put ws d empty) top 0)
  clear_leaves = record {
    others = clear_only d top 0 ws top;
    sets = λ _. at_put ws d empty F top p within tt;
    lays = λ j h. absurd (omega arith);
  }

  pub copy_leaves : Left 1 0 (share d a ws top)
  unfolding share
  copy_leaves = record {
    others = share_only d top 0 ws top a;
    sets = λ _. at_copy ws d a within;
    lays = λ j h. absurd (omega arith);
  }

  pub join_first_leaves : size (at ws a) ≡ 0 → Left 4 0 (share d b ws top)
  unfolding share
  join_first_leaves z = record {
    others = share_only d top 0 ws top b;
    sets = λ _. rw z (at_copy ws d b within);
    lays = λ j h. absurd (omega arith);
  }

  pub join_second_leaves : size (at ws a) ≢ 0 → size (at ws b) ≡ 0 → Left 4 0 (share d a ws top)
  unfolding share
  join_second_leaves n z = record {
    others = share_only d top 0 ws top a;
    sets = λ _. rw (ne_eqb (size (at ws a)) 0 n, z) (at_copy ws d a within);
    lays = λ j h. absurd (omega arith);
  }

  pub head_leaves : a < F → (head ws top d (at ws a)).verdict.status ≡ 0 → Left 5 0 (head ws top d (at ws a))
  unfolding head
  head_leaves ha e = go (at ws a) refl ((good F ws top p s).regs a ha) e
    where
      go : (k : Cell) → at ws a ≡ k → BracketIn F top k → (head ws top d k).verdict.status ≡ 0
          → Left 5 0 (head ws top d k)
      go (code c) q t z = absurd t
      go empty q t z = absurd (omega arith)
      go (ends l r) q t z = record {
        others = head_only d top 0 ws top (ends l r);
        sets = λ _. rw q (at_put ws d (ends l l) F top p within (t.0, le_refl l, omega (arith, t.1, t.2)));
        lays = λ j h. absurd (omega arith);
      }

  pub rest_leaves : a < F → (rest ws top d (at ws a)).verdict.status ≡ 0 → Left 6 0 (rest ws top d (at ws a))
  unfolding rest
  rest_leaves ha e = go (at ws a) refl ((good F ws top p s).regs a ha) e
    where
      less : (l r : ℕ) → BracketIn F top (ends l r) → (t : Bool) → ltb l r ≡ t
          → at (put ws d (cond t (ends (suc l) r) empty)) d
          ≡ cond (leb (suc r - l) 1) empty (ends (suc l) (l + (suc r - l) - 1))
      less l r t true q =
          let h = ltb-true l r q in
          let z : l + (suc r - l) - 1 ≡ r = omega (arith, t.1) in
          rw (lt-leb (suc r - l) 1 (omega arith), z)
          (at_put ws d (ends (suc l) r) F top p within (omega (arith, t.0), h, t.2))
      less l r t false q =
          let h = ltb-false l r q in
          rw (le-leb (suc r - l) 1 (omega (arith, t.1))) (at_put ws d empty F top p within tt)

      go : (k : Cell) → at ws a ≡ k → BracketIn F top k → (rest ws top d k).verdict.status ≡ 0
          → Left 6 0 (rest ws top d k)
      go (code c) q t z = absurd t
      go empty q t z = absurd (omega arith)
      go (ends l r) q t z = record {
        others = rest_only d top 0 ws top (ends l r);
        sets = λ _. rw q (less l r t (ltb l r) refl);
        lays = λ j h. absurd (omega arith);
      }

  pub open_leaves : a < F → (open_first ws top d (at ws a)).verdict.status ≡ 0
      → Left 7 0 (open_first ws top d (at ws a))
  unfolding open_first open_term
  open_leaves ha e = go (at ws a) refl ((good F ws top p s).regs a ha) e
    where
      term : (l : ℕ) (k : Cell) → (open_term ws top d l k).verdict.status ≡ 0
          → at (open_term ws top d l k).words d ≡ at ws l
      term l (code c) z = absurd (omega arith)
      term l empty z = at_copy ws d l within
      term l (ends x y) z = at_copy ws d l within

      go : (k : Cell) → at ws a ≡ k → BracketIn F top k → (open_first ws top d k).verdict.status ≡ 0
          → Left 7 0 (open_first ws top d k)
      go (code c) q t z = absurd t
      go empty q t z = absurd (omega arith)
      go (ends l r) q t z = record {
        others = open_first_only d top 0 ws top (ends l r);
        sets = λ _. rw q (term l (at ws l) z);
        lays = λ j h. absurd (omega arith);
      }

  -- ---- with new cells

  pub symbol_leaves : IsCode a → 2 * (top + 1) ≤ length ws → Left 2 1 (new_symbol d a ws top)
  unfolding new_symbol
  symbol_leaves c h =
      let x = put ws top (code a) in
      record {
        others = symbol_only d ws top a;
        sets = λ _. at_put x d (ends top top) F (suc top) p (omega (arith, within, length_put ws top (code a)))
            (s.low, le_refl top, omega arith);
        lays = λ j k.
            let z : j ≡ 0 = omega arith in
            rw (z, add-zero top)
            (at_put_other x d (ends top top) top (omega (arith, s.low))
            ∙ at_put ws top (code a) F top p (omega arith) c);
      }

  pub wrap_leaves : 2 * (top + 1) ≤ length ws → Left 3 1 (new_bracket d a ws top)
  unfolding new_bracket
  wrap_leaves h =
      let x = copy ws top a in
      record {
        others = wrap_only d ws top a;
        sets = λ _. at_put x d (ends top top) F (suc top) p (omega (arith, within, copy_length ws top a))
            (s.low, le_refl top, omega arith);
        lays = λ j k.
            let z : j ≡ 0 = omega arith in
            rw (z, add-zero top)
            (at_put_other x d (ends top top) top (omega (arith, s.low)) ∙ at_copy ws top a (omega arith));
      }

  -- two runs, neither of them empty
  module _ (l r x y : ℕ) (e : at ws a ≡ ends l r) (f : at ws b ≡ ends x y) (t : BracketIn F top (ends l r))
      (u : BracketIn F top (ends x y)) (h : 2 * (top + ((suc r - l) + (suc y - x))) ≤ length ws) where
    abbrev n : ℕ
    n = suc r - l

    abbrev k : ℕ
    k = suc y - x

    abbrev v : List ℕ
    v = copies (copies ws top l n) (top + n) x k

    laid : Both F ws top l n x k v
    laid = both_of F ws top l r x y p s t u h

    runs_lay : (j : ℕ) → j < n + k
        → at v (top + j) ≡ cond (ltb j n) (at ws (l + j)) (at ws (x + (j - n)))
    runs_lay j m = go (lt_or_ge j n)
      where
        go : (j < n) ⊎ (n ≤ j) → at v (top + j) ≡ cond (ltb j n) (at ws (l + j)) (at ws (x + (j - n)))
        go (inl i) = rw (lt-ltb j n i) (laid.one j i)
        go (inr i) =
            let z : n + (j - n) ≡ j = omega arith in
            rw (le-ltb j n i) (rw z at (laid.two (j - n) (omega arith)))

    runs_leave : Left 4 (n + k) (new_run d a b ws top)
    unfolding new_run new_run_of
    runs_leave = record {
      others = run_only d ws top a b (n + k) (rw (e, f) refl);
      sets = λ _. rw (e, f, ne_eqb n 0 (omega (arith, t.1)), ne_eqb k 0 (omega (arith, u.1)))
          (at_put v d (ends top (top + (n + k) - 1)) F (top + (n + k)) p (omega (arith, within, laid.more.len))
          (s.low, omega (arith, t.1), omega (arith, t.1)));
      lays = λ j m. rw (e, f)
          (at_put_other v d (ends top (top + (n + k) - 1)) (top + j) (omega (arith, s.low)) ∙ runs_lay j m);
    }

  pub run_leaves : a < F → b < F → (m : ℕ) → size (at ws a) + size (at ws b) ≡ m → size (at ws a) ≢ 0
      → size (at ws b) ≢ 0 → 2 * (top + m) ≤ length ws → Left 4 m (new_run d a b ws top)
  run_leaves ha hb m q i j h =
      go (at ws a) (at ws b) refl refl ((good F ws top p s).regs a ha) ((good F ws top p s).regs b hb) q i j
    where
      go : (x y : Cell) → at ws a ≡ x → at ws b ≡ y → BracketIn F top x → BracketIn F top y → size x + size y ≡ m
          → size x ≢ 0 → size y ≢ 0 → Left 4 m (new_run d a b ws top)
      go (code c) y e f t u q i j = absurd t
      go empty y e f t u q i j = absurd (i refl)
      go (ends l r) (code c) e f t u q i j = absurd u
      go (ends l r) empty e f t u q i j = absurd (j refl)
      go (ends l r) (ends x y) e f t u q i j = rw (← q) (runs_leave l r x y e f t u (omega arith))
