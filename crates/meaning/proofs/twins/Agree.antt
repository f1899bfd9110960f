-- What an action does in a store, it does in the same store collected: it answers the same, and leaves stores with the
-- same canonical words. In order:
--   Agree                                the same answer, and stores with the same canonical words
--   size_moved, moved_in                 a bracket moved to new addresses: its size, and where its ends lie
--   share_same                           COPY
--   size_register                        a register's size is the same in the store collected
--   head_same, rest_same, open_same      HEAD, REST and OPEN;  first_same  FIRST
--   length_same, live_same, clear_same   LENGTH, LIVE and CLEAR
-- Assumes nothing.
use mathlib.Core.Path.{◌≡◌, refl, sym, ap, ◌∙◌}
use mathlib.Core.Bool.{Bool, true, false, cond}
use mathlib.Core.List.{List}
use Prim.Native.Nat.{ℕ, suc, ◌+◌, ◌-◌, ◌≤◌, ◌<◌}
use native.Mathlib.Nat.{le_refl, le_trans}
use native.Mathlib.Omega.{arith}
use lib.Dec.{ltb}
use borrow.Author.Tests.{ltb-true, ltb-false, lt-ltb, le-ltb}
use Rattle.meaning.specs.Sound.{Cell, code, empty, ends, at, Sound, size}
use Rattle.meaning.specs.Reach.{reached, live}
use Rattle.meaning.specs.Collected.{map_ends, collected, collected_top, new}
use Rattle.meaning.specs.Verdicts.{Verdict, Done, done, refused, only, valued}
use Rattle.meaning.specs.Actions.{put, share, head, rest, open_term, open_first, code_term, code_first}
use Rattle.meaning.proofs.Lists.{In}
use Rattle.meaning.proofs.sound.Cells.{good, TermIn, BracketIn, term_of_bracket}
use Rattle.meaning.proofs.meaning.Terms.{Along}
use Rattle.meaning.proofs.collected.Collecting.{at_register, at_new}
use Rattle.meaning.proofs.collected.Again.{live_kept}
use Rattle.meaning.proofs.actions.Writing.{copy_put}
use Rattle.meaning.proofs.twins.Canons.{canon}
use Rattle.meaning.proofs.twins.Pairs.{sound', new_low, new_high, along_register, along_heap, canon_collected}
use Rattle.meaning.proofs.twins.Pairs.{set_both}

pub record Agree (F : ℕ) (r r' : Done) : Type 0 where
  pub verdict : r.verdict ≡ r'.verdict
  pub same : canon F r.words r.top ≡ canon F r'.words r'.top

module _ (F : ℕ) (ws : List ℕ) (top : ℕ) (p : 0 < F) (s : Sound F ws top) where
  abbrev ws' : List ℕ
  ws' = collected F ws top

  abbrev top' : ℕ
  top' = collected_top F ws top

  abbrev P : ℕ → Type 0
  P c = In c (reached F ws top)

  abbrev s' : Sound F ws' top'
  s' = sound' F ws top p s

  refuse_both : (v : Verdict) → Agree F (refused ws top v) (refused ws' top' v)
  refuse_both v = record { verdict = refl; same = sym (canon_collected F ws top p s) }

  done_both : (v v' : ℕ) → v ≡ v' → Agree F (done ws top v) (done ws' top' v')
  done_both v v' e =
      record {
        verdict = ap (valued 0) e;
        same = sym
            (canon_collected F ws top p s);
      }

  put_both : (d : ℕ) → d < F → (b b' : Cell) → BracketIn F top b → BracketIn F top' b' → Along P (new F ws top) b
      → b' ≡ map_ends (new F ws top) b → Agree F (done (put ws d b) top 0) (done (put ws' d b') top' 0)
  put_both d l b b' t t' a e = record { verdict = refl; same = set_both F ws top p s d l b b' t t' a e }

  -- ---- the ends of a bracket, moved

  last_moved : (l r : ℕ) → l ≤ r → Along P (new F ws top) (ends l r) → new F ws top r ≡ new F ws top l + (r - l)
  last_moved l r h a = let e : l + (r - l) ≡ r = omega arith in rw e at (a (r - l) (omega arith)).1

  pub size_moved : (lim : ℕ) (b : Cell) → TermIn F lim b → Along P (new F ws top) b
      → size (map_ends (new F ws top) b) ≡ size b
  size_moved lim (code c) t a = refl
  size_moved lim empty t a = refl
  size_moved lim (ends l r) t a = omega (arith, last_moved l r t.1 a, t.1)

  pub moved_in : (lim : ℕ) (l r : ℕ) → TermIn F lim (ends l r) → Along P (new F ws top) (ends l r)
      → BracketIn F top' (ends (new F ws top l) (new F ws top r))
  moved_in lim l r t a =
      let z : l + (r - l) ≡ r = omega (arith, t.1) in
      let i : P r = rw z at (a (r - l) (omega (arith, t.1))).0 in
      (new_low F ws top p s l, omega (arith, last_moved l r t.1 a), new_high F ws top p s r i)

  first_in : (l r : ℕ) → l ≤ r → Along P (new F ws top) (ends l r) → P l
  first_in l r h a = let z : l + 0 ≡ l = omega arith in rw z at (a 0 (omega arith)).0

  -- ---- calls without need

  pub share_same : (d a : ℕ) → d < F → a < F → Agree F (share d a ws top) (share d a ws' top')
  unfolding share
  share_same d a l h =
      rw (copy_put F ws top d a p s (le_trans h s.low), copy_put F ws' top' d a p s' (le_trans h s'.low))
      (put_both d l (at ws a) (at ws' a) ((good F ws top p s).regs a h) ((good F ws' top' p s').regs a h)
      (along_register F ws top p s a h) (at_register F ws top p s a h))

  head_agree : (d : ℕ) → d < F → (b : Cell) → BracketIn F top b → Along P (new F ws top) b
      → Agree F (head ws top d b) (head ws' top' d (map_ends (new F ws top) b))
  unfolding head
  head_agree d l (code c) t a = absurd t
  head_agree d l empty t a = refuse_both (only 14)
  head_agree d l (ends x y) t a =
      put_both d l (ends x x) (ends (new F ws top x) (new F ws top x)) (t.0, le_refl x, omega (arith, t.1, t.2))
      (new_low F ws top p s x, le_refl (new F ws top x), new_high F ws top p s x (first_in x y t.1 a))
      (λ j h. a j (omega (arith, t.1))) refl

  rest_along : (x y : ℕ) → x < y → Along P (new F ws top) (ends x y) → Along P (new F ws top) (ends (suc x) y)
      × (new F ws top (suc x) ≡ suc (new F ws top x))
  rest_along x y l a =
      let z : x + 1 ≡ suc x = omega arith in
      let one : (new F ws top) (suc x) ≡ new F ws top x + 1 = rw z at (a 1 (omega arith)).1 in (
        λ j h. let u : x + suc j ≡ suc x + j = omega arith in
            let q : P (suc x + j) × (new F ws top (suc x + j) ≡ new F ws top x + suc j) =
            rw u at (a (suc j) (omega arith)) in
            (q.0, q.1 ∙ omega (arith, one)),
        omega arith,
      )

  rest_agree : (d : ℕ) → d < F → (b : Cell) → BracketIn F top b → Along P (new F ws top) b
      → Agree F (rest ws top d b) (rest ws' top' d (map_ends (new F ws top) b))
  unfolding rest
  rest_agree d l (code c) t a = absurd t
  rest_agree d l empty t a = refuse_both (only 14)
  rest_agree d l (ends x y) t a = go (ltb x y) refl
    where
      go : (u : Bool) → ltb x y ≡ u
          → Agree F (done (put ws d (cond u (ends (suc x) y) empty)) top 0)
          (done (put ws' d (cond (ltb (new F ws top x) (new F ws top y))
          (ends (suc (new F ws top x)) (new F ws top y)) empty)) top' 0)
      go true e =
          let m = ltb-true x y e in
          let q = rest_along x y m a in
          let n = last_moved x y t.1 a in
          let g = moved_in top (suc x) y (omega (arith, t.0), m, t.2) q.0 in
          rw (lt-ltb (new F ws top x) (new F ws top y) (omega arith), ← q.1)
          (put_both d l (ends (suc x) y) (ends (new F ws top (suc x)) (new F ws top y))
          (omega (arith, t.0), m, t.2) g q.0 refl)
      go false e =
          rw (le-ltb (new F ws top x) (new F ws top y) (omega (arith, last_moved x y t.1 a, ltb-false x y e)))
          (put_both d l empty empty tt tt tt refl)

  open_agree : (d x : ℕ) → d < F → P x → F ≤ x → x < top → (b : Cell) → at ws x ≡ b → TermIn F x b
      → Along P (new F ws top) b
      → at ws' (new F ws top x) ≡ map_ends (new F ws top) b
      → Agree F (open_term ws top d x b) (open_term ws' top' d (new F ws top x) (map_ends (new F ws top) b))
  unfolding open_term
  open_agree d x l i f h (code c) e t a q = refuse_both (only 15)
  open_agree d x l i f h empty e t a q =
      rw (copy_put F ws top d x p s h, copy_put F ws' top' d (new F ws top x) p s' (new_high F ws top p s x i), e, q)
      (put_both d l empty empty tt tt tt refl)
  open_agree d x l i f h (ends y z) e t a q =
      rw (copy_put F ws top d x p s h, copy_put F ws' top' d (new F ws top x) p s' (new_high F ws top p s x i), e, q)
      (put_both d l (ends y z) (ends (new F ws top y) (new F ws top z)) (t.0, t.1, omega (arith, t.2))
      (moved_in x y z t a) a refl)

  open_first_agree : (d : ℕ) → d < F → (b : Cell) → BracketIn F top b → Along P (new F ws top) b
      → Agree F (open_first ws top d b) (open_first ws' top' d (map_ends (new F ws top) b))
  unfolding open_first
  open_first_agree d l (code c) t a = absurd t
  open_first_agree d l empty t a = refuse_both (only 14)
  open_first_agree d l (ends x y) t a =
      let i = first_in x y t.1 a in
      let h : x < top = omega (arith, t.1, t.2) in
      rw (at_new F ws top p s x i)
      (open_agree d x l i t.0 h (at ws x) refl ((good F ws top p s).heap x t.0 h) (along_heap F ws top p s x i)
      (at_new F ws top p s x i))

  code_agree : (b : Cell) → Agree F (code_term ws top b) (code_term ws' top' (map_ends (new F ws top) b))
  unfolding code_term
  code_agree (code c) = done_both c c refl
  code_agree empty = refuse_both (only 15)
  code_agree (ends x y) = refuse_both (only 15)

  code_first_agree : (b : Cell) → BracketIn F top b → Along P (new F ws top) b
      → Agree F (code_first ws top b) (code_first ws' top' (map_ends (new F ws top) b))
  unfolding code_first
  code_first_agree (code c) t a = absurd t
  code_first_agree empty t a = refuse_both (only 14)
  code_first_agree (ends x y) t a = rw (at_new F ws top p s x (first_in x y t.1 a)) (code_agree (at ws x))

  pub size_register : (i : ℕ) → i < F → size (at (collected F ws top) i) ≡ size (at ws i)
  size_register i h =
      ap size (at_register F ws top p s i h) ∙ size_moved top (at ws i)
      (term_of_bracket F top (at ws i) ((good F ws top p s).regs i h)) (along_register F ws top p s i h)

  -- ---- by the cell of register a

  by_register : (a : ℕ) → a < F → (does : List ℕ → ℕ → Cell → Done)
      → ((b : Cell) → BracketIn F top b → Along P (new F ws top) b
      → Agree F (does ws top b) (does ws' top' (map_ends (new F ws top) b)))
      → Agree F (does ws top (at ws a)) (does ws' top' (at ws' a))
  by_register a h does q =
      rw (at_register F ws top p s a h) (q (at ws a) ((good F ws top p s).regs a h) (along_register F ws top p s a h))

  pub head_same : (d a : ℕ) → d < F → a < F → Agree F (head ws top d (at ws a)) (head ws' top' d (at ws' a))
  head_same d a l h = by_register a h (λ v t k. head v t d k) (head_agree d l)

  pub rest_same : (d a : ℕ) → d < F → a < F → Agree F (rest ws top d (at ws a)) (rest ws' top' d (at ws' a))
  rest_same d a l h = by_register a h (λ v t k. rest v t d k) (rest_agree d l)

  pub open_same : (d a : ℕ) → d < F → a < F → Agree F (open_first ws top d (at ws a)) (open_first ws' top' d (at ws' a))
  open_same d a l h = by_register a h (λ v t k. open_first v t d k) (open_first_agree d l)

  pub first_same : (a : ℕ) → a < F → Agree F (code_first ws top (at ws a)) (code_first ws' top' (at ws' a))
  first_same a h = by_register a h code_first code_first_agree

  pub length_same : (a : ℕ) → a < F → Agree F (done ws top (size (at ws a))) (done ws' top' (size (at ws' a)))
  length_same a h = done_both (size (at ws a)) (size (at ws' a)) (sym (size_register a h))

  pub live_same : Agree F (done ws top (live F ws top)) (done ws' top' (live F ws' top'))
  live_same = done_both (live F ws top) (live F ws' top') (sym (live_kept F ws top p s))

  pub clear_same : (d : ℕ) → d < F → Agree F (done (put ws d empty) top 0) (done (put ws' d empty) top' 0)
  clear_same d l = put_both d l empty empty tt tt tt refl
