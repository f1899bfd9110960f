-- Writing a cell: a register, or the first free cell. What stays sound, and what keeps its meaning. In order:
--   length_put                   the length stays
--   at_put_other, at_put         the other cells, and the one written
--   copy_put                     a copied cell is the cell written there
--   term_in_wider                 a term that lies below lim lies below any greater number
--   sound_register, sound_top    a register, or the first free cell, is written: the store is sound
--   term_same, inside_same       the meaning of a heap cell, and of a bracket, depends on heap cells only
--   term_law                     the equation of terms, without depth
--   meaning_set, meaning_other   what a register set to a bracket denotes;  no other register changes
-- Assumes nothing.
use mathlib.Core.Path.{◌≡◌, refl, sym, ap}
use mathlib.Core.Logic.{◌⊎◌, inl, inr, ◌≢◌}
use mathlib.Core.List.{List}
use Prim.Native.Nat.{ℕ, zero, suc, ◌+◌, ◌-◌, ◌*◌, ◌≤◌, ◌<◌}
use native.Mathlib.Nat.{le_trans}
use native.Mathlib.Decide.{ℕ_discrete}
use native.Mathlib.Omega.{arith}
use lib.ListN.{length}
use Rattle.words.specs.Cell.{first_word, second_word}
use Rattle.words.proofs.Cells.{put_cell_length, first_word_same, second_word_same, first_word_other, second_word_other}
use Rattle.meaning.specs.Expr.{Expr}
use Rattle.meaning.specs.Sound.{Cell, code, empty, ends, fst, snd, at, IsBracket, is_empty, is_full, capacity}
use Rattle.meaning.specs.Sound.{CellRule, Sound}
use Rattle.meaning.specs.Meaning.{inside, term_of, term, meaning, term_at}
use Rattle.meaning.specs.Actions.{put, copy}
use Rattle.meaning.proofs.Lists.{lt_or_ge}
use Rattle.meaning.proofs.sound.Cells.{SoundCells, TermIn, BracketIn, term_of_bracket, good, read, read_words}
use Rattle.meaning.proofs.sound.Cells.{is_bracket_lem}
use Rattle.meaning.proofs.sound.Cells.{is_term, bracket_words, term_words, register_rule, heap_rule}
use Rattle.meaning.proofs.meaning.Terms.{run_ext, term_depth}

-- ---- cells

module _ (ws : List ℕ) (c : ℕ) (b : Cell) where
  pub length_put : length (put ws c b) ≡ length ws
  unfolding put
  length_put = put_cell_length ws c (fst b) (snd b)

  put_one : 2 * c + 1 < length ws → first_word (put ws c b) c ≡ fst b
  unfolding put
  put_one = first_word_same ws c (fst b) (snd b)

  put_two : 2 * c + 1 < length ws → second_word (put ws c b) c ≡ snd b
  unfolding put
  put_two = second_word_same ws c (fst b) (snd b)

  other_one : (x : ℕ) → x ≢ c → first_word (put ws c b) x ≡ first_word ws x
  unfolding put
  other_one = first_word_other ws c (fst b) (snd b)

  other_two : (x : ℕ) → x ≢ c → second_word (put ws c b) x ≡ second_word ws x
  unfolding put
  other_two = second_word_other ws c (fst b) (snd b)

  pub at_put_other : (x : ℕ) → x ≢ c → at (put ws c b) x ≡ at ws x
  unfolding at
  at_put_other x n = rw (other_one x n, other_two x n) refl

  pub at_put : (F lim : ℕ) → 0 < F → 2 * c + 1 < length ws → TermIn F lim b → at (put ws c b) c ≡ b
  unfolding at read
  at_put F lim p h t = rw (put_one h, put_two h) (read_words F lim b p t)

-- a cell that is equal to another
pub copy_put : (F : ℕ) (ws : List ℕ) (top c x : ℕ) → 0 < F → Sound F ws top → x < top → copy ws c x ≡ put ws c (at ws x)
unfolding copy put at read
copy_put F ws top c x p s h = go (lt_or_ge x F)
  where
    go : (x < F) ⊎ (F ≤ x) → copy ws c x ≡ put ws c (at ws x)
    go (inl l) =
        let w = bracket_words F top (first_word ws x) (second_word ws x) p (register_rule s x l) in
        rw (w.one, w.two) refl
    go (inr l) =
        let w = term_words F x (first_word ws x) (second_word ws x) p (heap_rule s x l h) in
        rw (w.one, w.two) refl

-- ---- soundness

bracket_wider : (F : ℕ) {lim lim' a b : ℕ} → lim ≤ lim' → IsBracket F lim a b → IsBracket F lim' a b
bracket_wider F h is_empty = is_empty
bracket_wider F h (is_full x y z) = is_full x y (le_trans z h)

pub term_in_wider : (F lim lim' : ℕ) (b : Cell) → lim ≤ lim' → TermIn F lim b → TermIn F lim' b
term_in_wider F lim lim' (code a) h t = t
term_in_wider F lim lim' empty h t = t
term_in_wider F lim lim' (ends l r) h t = (t.0, t.1, le_trans t.2 h)

module _ (F : ℕ) (ws : List ℕ) (top : ℕ) (p : 0 < F) (s : Sound F ws top) where
  -- a register
  module _ (d : ℕ) (l : d < F) (b : Cell) (t : BracketIn F top b) where
    register_cells : (c : ℕ) → c < capacity ws → Dec (c ≡ d) → CellRule F (put ws d b) top c
    register_cells c h (yes e) =
        let q : 2 * d + 1 < length ws = omega (arith, s.allowed.large) in
        rw e record {
          register = λ _. rw (put_one ws d b q, put_two ws d b q) (is_bracket_lem F top b t);
          occupied = λ f g. absurd (omega arith);
          free = λ g. absurd (omega (arith, s.low));
        }
    register_cells c h (no n) =
        let r = s.cells c h in
        record {
          register = rw (other_one ws d b c n, other_two ws d b c n) r.register;
          occupied = rw (other_one ws d b c n, other_two ws d b c n) r.occupied;
          free = rw (other_one ws d b c n, other_two ws d b c n) r.free;
        }

    pub sound_register : Sound F (put ws d b) top
    sound_register = record {
      allowed = rw (length_put ws d b) s.allowed;
      low = s.low;
      high = rw (length_put ws d b) s.high;
      cells = λ c h. register_cells c (rw (length_put ws d b) at h) (ℕ_discrete c d);
    }

  -- the first free cell
  module _ (r : 2 * suc top ≤ length ws) (b : Cell) (t : TermIn F top b) where
    top_cells : (c : ℕ) → c < capacity ws → Dec (c ≡ top) → CellRule F (put ws top b) (suc top) c
    top_cells c h (yes e) =
        let q : 2 * top + 1 < length ws = omega arith in
        rw e record {
          register = λ f. absurd (omega (arith, s.low));
          occupied = λ f g. rw (put_one ws top b q, put_two ws top b q) (is_term F top b t);
          free = λ g. absurd (omega arith);
        }
    top_cells c h (no n) =
        let k = s.cells c h in
        record {
          register = λ f. rw (other_one ws top b c n, other_two ws top b c n)
              (bracket_wider F (omega arith) (k.register f));
          occupied = λ f g. rw (other_one ws top b c n, other_two ws top b c n) (k.occupied f (omega arith));
          free = λ g. rw (other_one ws top b c n, other_two ws top b c n) (k.free (omega arith));
        }

    pub sound_top : Sound F (put ws top b) (suc top)
    sound_top = record {
      allowed = rw (length_put ws top b) s.allowed;
      low = omega (arith, s.low);
      high = rw (length_put ws top b) (omega arith);
      cells = λ c h. top_cells c (rw (length_put ws top b) at h) (ℕ_discrete c top);
    }

-- ---- meaning

module _ (F : ℕ) (k k' : ℕ → Cell) (top : ℕ) (g : SoundCells F k top)
    (same : (c : ℕ) → F ≤ c → c < top → k' c ≡ k c) where
  term_of_same : (n lim : ℕ) (b : Cell) → lim ≤ top → TermIn F lim b
      → ((c : ℕ) → F ≤ c → c < top → term k n c ≡ term k' n c) → term_of (term k n) b ≡ term_of (term k' n) b
  term_of_same n lim (code a) l t r = refl
  term_of_same n lim empty l t r = refl
  term_of_same n lim (ends x y) l t r =
      ap (λ (z : Expr). Expr.parens z Expr.nothing) (run_ext (term k n) (term k' n) x x (suc y - x)
      (λ j h. r (x + j) (omega (arith, t.0)) (omega (arith, t.1, t.2))))

  -- the meaning of a heap cell depends on heap cells only
  pub term_same : (n c : ℕ) → F ≤ c → c < top → term k n c ≡ term k' n c
  term_same zero c f l = refl
  term_same (suc n) c f l = rw (same c f l) (term_of_same n c (k c) (omega arith) (g.heap c f l) (term_same n))

  pub inside_same : (n : ℕ) (b : Cell) → BracketIn F top b → inside (term k n) b ≡ inside (term k' n) b
  inside_same n (code a) t = refl
  inside_same n empty t = refl
  inside_same n (ends x y) t =
      run_ext (term k n) (term k' n) x x (suc y - x) (λ j h. term_same n (x + j) (omega (arith, t.0))
      (omega (arith, t.1, t.2)))

-- the equation of terms, without depth
module _ (F : ℕ) (ws : List ℕ) (top : ℕ) (p : 0 < F) (s : Sound F ws top) where
  pub term_law : (c : ℕ) → F ≤ c → c < top → term_at ws c ≡ term_of (term_at ws) (at ws c)
  term_law c f l = term_depth F (at ws) top (good F ws top p s) (length ws) (suc (length ws)) c f l
      (omega (arith, s.high)) (omega (arith, s.high))

  -- a register set to a bracket b denotes what is inside b, and no other register changes
  module _ (d : ℕ) (l : d < F) (b : Cell) (t : BracketIn F top b) where
    heap_same : (c : ℕ) → F ≤ c → c < top → at (put ws d b) c ≡ at ws c
    heap_same c f h = at_put_other ws d b c (omega arith)

    pub meaning_set : meaning (put ws d b) d ≡ inside (term_at ws) b
    unfolding meaning
    meaning_set =
        rw (length_put ws d b, at_put ws d b F top p (omega (arith, s.allowed.large)) (term_of_bracket F top b t))
        (sym (inside_same F (at ws) (at (put ws d b)) top (good F ws top p s) heap_same (length ws) b t))

    pub meaning_other : (i : ℕ) → i < F → i ≢ d → meaning (put ws d b) i ≡ meaning ws i
    unfolding meaning
    meaning_other i h n =
        rw (length_put ws d b, at_put_other ws d b i n)
        (sym (inside_same F (at ws) (at (put ws d b)) top (good F ws top p s) heap_same (length ws) (at ws i)
        ((good F ws top p s).regs i h)))
