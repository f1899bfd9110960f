-- Collecting a sound store: the result is sound, each register keeps its meaning, every occupied cell is reached.
-- In order:
--   held_register, held_heap   the cells of a register's run, and of a reached bracket's, are reached
--   reg_one, reg_two           the words of the registers;  heap_one, heap_two  of the heap cells
--   length_collected           the length stays;  free_after  past the last cell the words are zero
--   good_register, good_heap   the ends lie where a sound store's do
--   at_register, at_kth        the cells of the result: a register, and the j-th heap cell
--   at_new                     a reached cell, at its new address
--   collected_sound            the result is sound
--   along                      new addresses go along with the run of a bracket
--   term_kept, meaning_kept    reached cells and registers keep their meaning
-- Assumes nothing.
use mathlib.Core.Path.{◌≡◌, sym, ap, ◌∙◌, subst}
use mathlib.Core.List.{List, ◌++◌}
use Prim.Native.Nat.{ℕ, suc, ◌+◌, ◌-◌, ◌*◌, ◌≤◌, ◌<◌}
use native.Mathlib.Nat.{le_refl, add_assoc}
use native.Mathlib.Omega.{arith}
use lib.ListN.{length, get_or, length-append, replicate, length-replicate}
use Rattle.meaning.specs.Sound.{Cell, code, empty, ends, fst, snd, at, Sound, IsBracket, IsTerm}
use Rattle.meaning.specs.Meaning.{term, meaning, term_at}
use Rattle.meaning.specs.Reach.{Between, by_register, by_bracket, reached, live}
use Rattle.meaning.specs.Collected.{below, map_ends, lay, up_from, new_address, collected_of, collected, collected_top}
use Rattle.meaning.specs.Collected.{new}
use Rattle.meaning.proofs.Lists.{In, Asc, asc_in, in_get_d, place, below_get_d, below_mono, below_suc, below_run}
use Rattle.meaning.proofs.sound.Cells.{TermIn, BracketIn, term_of_bracket, good, read, read_words, is_bracket_lem}
use Rattle.meaning.proofs.sound.Cells.{is_term}
use Rattle.meaning.proofs.meaning.Terms.{Along, inside_along, term_along}
use Rattle.meaning.proofs.reach.Reaching.{listed_iff, reached_asc, reached_below, live_le}
use Rattle.meaning.proofs.collected.Laid.{lay_length, lay_fst, lay_snd, kept_low, kept_high, kept_length}
use Rattle.meaning.proofs.collected.Laid.{zeros_after}

module _ (F : ℕ) (ws : List ℕ) (top : ℕ) (p : 0 < F) (s : Sound F ws top) where
  abbrev rs : List ℕ
  rs = reached F ws top

  abbrev ws' : List ℕ
  ws' = collected F ws top

  abbrev top' : ℕ
  top' = F + length rs

  -- a cell all of whose contents are reached
  abbrev Held : Cell → Type 0
  Held b = (x : ℕ) → Between b x → In x rs

  pub held_register : (i : ℕ) → i < F → Held (at ws i)
  held_register i h x q = (listed_iff F ws top p s x).1 (by_register i h q)

  pub held_heap : (c : ℕ) → In c rs → Held (at ws c)
  held_heap c i x q = (listed_iff F ws top p s x).1 (by_bracket c ((listed_iff F ws top p s c).0 i) q)

  asc : Asc F rs
  asc = reached_asc F ws top p s

  room : top' ≤ top
  unfolding live
  room = live_le F ws top p s

  moved_bracket : (lim : ℕ) (b : Cell) → BracketIn F lim b → Held b → BracketIn F top' (map_ends (new F ws top) b)
  unfolding new_address
  moved_bracket lim (code a) h q = h
  moved_bracket lim empty h q = tt
  moved_bracket lim (ends l r) h q =
      (omega arith, omega (arith, below_mono rs l r h.1), omega (arith, (place F r rs asc (q r (h.1, le_refl r))).0))

  moved_term : (c : ℕ) (b : Cell) → TermIn F c b → Held b → TermIn F (new F ws top c) (map_ends (new F ws top) b)
  unfolding new_address
  moved_term c (code a) h q = h
  moved_term c empty h q = tt
  moved_term c (ends l r) h q = (
    omega arith,
    omega (arith, below_mono rs l r h.1),
    omega
        (arith, below_suc F r rs asc (q r (h.1, le_refl r)), below_mono rs (suc r) c h.2),
  )

  -- ---- the words of the result

  pub reg_one : (i : ℕ) → i < F → get_or ws' (2 * i) 0 ≡ fst (map_ends (new F ws top) (at ws i))
  unfolding new_address collected collected_of
  reg_one i h =
      lay_fst (λ c. map_ends (new F ws top) (at ws c)) (up_from 0 F ++ rs)
      (replicate (length ws - 2 * (F + length rs)) 0) i
      (omega (arith, kept_length F rs))
      ∙ ap (λ (c : ℕ). fst (map_ends (new F ws top) (at ws c))) (kept_low F rs i h)

  pub reg_two : (i : ℕ) → i < F → get_or ws' (2 * i + 1) 0 ≡ snd (map_ends (new F ws top) (at ws i))
  unfolding new_address collected collected_of
  reg_two i h =
      lay_snd (λ c. map_ends (new F ws top) (at ws c)) (up_from 0 F ++ rs)
      (replicate (length ws - 2 * (F + length rs)) 0) i
      (omega (arith, kept_length F rs))
      ∙ ap (λ (c : ℕ). snd (map_ends (new F ws top) (at ws c))) (kept_low F rs i h)

  pub heap_one : (j : ℕ) → j < length rs
      → get_or ws' (2 * (F + j)) 0 ≡ fst (map_ends (new F ws top) (at ws (get_or rs j 0)))
  unfolding new_address collected collected_of
  heap_one j h =
      lay_fst (λ c. map_ends (new F ws top) (at ws c)) (up_from 0 F ++ rs)
      (replicate (length ws - 2 * (F + length rs)) 0) (F + j)
      (omega (arith, kept_length F rs))
      ∙ ap (λ (c : ℕ). fst (map_ends (new F ws top) (at ws c))) (kept_high F rs j)

  pub heap_two : (j : ℕ) → j < length rs
      → get_or ws' (2 * (F + j) + 1) 0 ≡ snd (map_ends (new F ws top) (at ws (get_or rs j 0)))
  unfolding new_address collected collected_of
  heap_two j h =
      lay_snd (λ c. map_ends (new F ws top) (at ws c)) (up_from 0 F ++ rs)
      (replicate (length ws - 2 * (F + length rs)) 0) (F + j)
      (omega (arith, kept_length F rs))
      ∙ ap (λ (c : ℕ). snd (map_ends (new F ws top) (at ws c))) (kept_high F rs j)

  length_cells : length (lay (λ c. map_ends (new F ws top) (at ws c)) (up_from 0 F ++ rs)) ≡ 2 * top'
  length_cells =
      lay_length (λ c. map_ends (new F ws top) (at ws c)) (up_from 0 F ++ rs) ∙ ap (λ (n : ℕ). 2 * n) (kept_length F rs)

  pub length_collected : length ws' ≡ length ws
  unfolding new_address collected collected_of
  length_collected =
      let a = length-append (lay (λ c. map_ends (new F ws top) (at ws c)) (up_from 0 F ++ rs))
      (replicate (length ws - 2 * (F + length rs)) 0) in
      let b = length-replicate {A = ℕ} (length ws - 2 * (F + length rs)) 0 in
      omega (arith, a, b, length_cells, room, s.high)

  pub free_after : (i : ℕ) → 2 * top' ≤ i → i < length ws' → get_or ws' i 0 ≡ 0
  unfolding new_address collected collected_of
  free_after i l h =
      zeros_after (lay (λ c. map_ends (new F ws top) (at ws c)) (up_from 0 F ++ rs)) (length ws - 2 * (F + length rs)) i
      (omega (arith, length_cells)) (omega (arith, length_cells, length_collected, room, s.high))

  -- ---- the result is sound

  pub good_register : (i : ℕ) → i < F → BracketIn F top' (map_ends (new F ws top) (at ws i))
  good_register i h = moved_bracket top (at ws i) ((good F ws top p s).regs i h) (held_register i h)

  pub good_heap : (j : ℕ) → j < length rs → TermIn F (F + j) (map_ends (new F ws top) (at ws (get_or rs j 0)))
  unfolding new_address
  good_heap j h =
      let i = in_get_d rs j h in
      rw (below_get_d F rs j asc h) at
      (moved_term (get_or rs j 0) (at ws (get_or rs j 0)) ((good F ws top p s).heap (get_or rs j 0)
      (asc_in F (get_or rs j 0) rs asc i) (reached_below F ws top p s (get_or rs j 0) i)) (held_heap (get_or rs j 0) i))

  reads : (a b lim : ℕ) (k : Cell) → a ≡ fst k → b ≡ snd k → TermIn F lim k → read a b ≡ k
  reads a b lim k e f h = rw (e, f) (read_words F lim k p h)

  pub at_register : (i : ℕ) → i < F → at (collected F ws top) i ≡ map_ends (new F ws top) (at ws i)
  unfolding at read new_address
  at_register i h =
      reads (get_or ws' (2 * i) 0) (get_or ws' (2 * i + 1) 0) top' (map_ends (new F ws top) (at ws i)) (reg_one i h)
      (reg_two i h)
      (term_of_bracket F top' (map_ends (new F ws top) (at ws i)) (good_register i h))

  pub at_kth : (j : ℕ) → j < live F ws top
      → at (collected F ws top) (F + j) ≡ map_ends (new F ws top)
      (at ws (get_or (reached F ws top) j 0))
  unfolding at read new_address live
  at_kth j h =
      reads (get_or ws' (2 * (F + j)) 0) (get_or ws' (2 * (F + j) + 1) 0) (F + j)
      (map_ends (new F ws top) (at ws (get_or rs j 0)))
      (heap_one j h) (heap_two j h) (good_heap j h)

  pub at_new : (c : ℕ) → In c (reached F ws top)
      → at (collected F ws top) (new F ws top c) ≡ map_ends (new F ws top)
      (at ws c)
  unfolding new_address live
  at_new c i =
      let q = place F c rs asc i in
      at_kth (below c rs) q.0 ∙ ap (λ (x : ℕ). map_ends (new F ws top) (at ws x)) q.1

  sound_heap : (c : ℕ) → F ≤ c → c < top' → IsTerm F c (get_or ws' (2 * c) 0) (get_or ws' (2 * c + 1) 0)
  sound_heap c l h =
      let e : F + (c - F) ≡ c = omega arith in
      let q : c - F < length rs = omega arith in
      subst (λ (x : ℕ). IsTerm F x (get_or ws' (2 * x) 0) (get_or ws' (2 * x + 1) 0)) e
      (rw (heap_one (c - F) q, heap_two (c - F) q)
      (is_term F (F + (c - F)) (map_ends (new F ws top) (at ws (get_or rs (c - F) 0)))
      (good_heap (c - F) q)))

  sound_register : (i : ℕ) → i < F → IsBracket F top' (get_or ws' (2 * i) 0) (get_or ws' (2 * i + 1) 0)
  sound_register i h =
      rw (reg_one i h, reg_two i h) (is_bracket_lem F top' (map_ends (new F ws top) (at ws i)) (good_register i h))

  pub collected_sound : Sound F (collected F ws top) (collected_top F ws top)
  unfolding live
  collected_sound = record {
    allowed = rw length_collected s.allowed;
    low = omega arith;
    high = rw length_collected (omega (arith, room, s.high));
    cells = λ c h. record {
      register = sound_register c;
      occupied = sound_heap c;
      free = λ l. (
        free_after (2 * c) (omega arith) (omega (arith, length_collected)),
        free_after (2 * c + 1) (omega arith) (omega (arith, length_collected)),
      );
    };
  }

  -- ---- each register keeps its meaning

  pub along : (lim : ℕ) (b : Cell) → TermIn F lim b → Held b → Along (λ c. In c rs) (new F ws top) b
  unfolding new_address
  along lim (code a) h q = tt
  along lim empty h q = tt
  along lim (ends l r) h q = λ j d. (
    q (l + j) (omega arith, d),
    ap (λ (x : ℕ). F + x)
        (below_run F rs asc l j (λ x y. q (l + x) (omega arith, omega arith))) ∙ sym (add_assoc F (below l rs) j),
  )

  pub term_kept : (n c : ℕ) → In c (reached F ws top)
      → term (at ws) n c ≡ term (at (collected F ws top)) n (new F ws top c)
  unfolding new_address
  term_kept =
      term_along (λ c. In c rs) (new F ws top) (at ws) (at ws') F (λ c. c)
      (λ c i. let t = (good F ws top p s).heap c (asc_in F c rs asc i) (reached_below F ws top p s c i) in
      (t, along c (at ws c) t (held_heap c i), at_new c i))

  pub meaning_kept : (i : ℕ) → i < F → meaning (collected F ws top) i ≡ meaning ws i
  unfolding meaning new_address
  meaning_kept i h =
      let t = term_of_bracket F top (at ws i) ((good F ws top p s).regs i h) in
      rw (length_collected, at_register i h)
      (sym (inside_along (λ c. In c rs) (new F ws top) (term_at ws) (term (at ws') (length ws))
      (λ c j. term_kept (length ws) c j) F top (at ws i) t (along top (at ws i) t (held_register i h))))
