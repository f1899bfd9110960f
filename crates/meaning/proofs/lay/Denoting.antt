-- The cells of an expression, put from `top` on, extend a sound store and denote the expression. In order:
--   LieAs, lie_at, each_at     a row of cells lies from cell c on;  its j-th cell, and what holds of it
--   last_in                    a bracket around the last cells below another
--   run_denotes                where an expression's cells lie, the run of its own terms denotes it
--   Put, puts_put              a row of cells put from `top` on
--   laid_put, laid_in          the cells of an expression put from `top` on;  the bracket around its own terms
--   laid_denotes, text_acts    what that denotes;  a register set to it
-- Assumes nothing.
use mathlib.Core.Path.{◌≡◌, refl, ap, ap₂, ◌∙◌}
use mathlib.Core.List.{List, [], ◌∷◌, ◌++◌}
use Prim.Native.Nat.{ℕ, zero, suc, ◌+◌, ◌-◌, ◌*◌, ◌≤◌, ◌<◌}
use native.Mathlib.Nat.{not-suc-le-zero, le_of_suc-le-suc, add-zero, add-suc, suc-add}
use native.Mathlib.Omega.{arith}
use lib.ListN.{length, get_or}
use Rattle.meaning.specs.Expr.{Expr, nothing, symbol, parens, append, terms}
use Rattle.meaning.specs.Sound.{Cell, empty, at, Sound}
use Rattle.meaning.specs.Meaning.{run, inside, term_of, term}
use Rattle.meaning.specs.Actions.{put}
use Rattle.meaning.specs.Lay.{all_terms, last_below, own_cells, deep_cells, laid, puts, new_cells}
use Rattle.meaning.specs.Effect.{typing}
use Rattle.meaning.proofs.sound.Cells.{TermIn, BracketIn, term_of_bracket}
use Rattle.meaning.proofs.actions.Writing.{length_put, at_put, term_law}
use Rattle.meaning.proofs.actions.Laying.{Extends, extends_self, extends_put, extends_trans}
use Rattle.meaning.proofs.effect.Effects.{Others, Acts, new_acts}
use Rattle.meaning.proofs.effect.Stepping.{wrapped}
use Rattle.meaning.proofs.lay.Places.{deep_length, laid_length, after, after_parens}
use Rattle.meaning.proofs.lay.Each.{Coded, Each, laid_each, terms_le}

-- ---- a row of cells

-- the cells xs lie at c, c + 1 and so on
abbrev LieAs : (ℕ → Cell) → ℕ → List Cell → Type 0
LieAs k c [] = Unit {0}
LieAs k c (x ∷ xs) = (k c ≡ x) × LieAs k (suc c) xs

module _ (k : ℕ → Cell) where
  lie_at : (c : ℕ) (xs : List Cell) → LieAs k c xs → (j : ℕ) → j < length xs → k (c + j) ≡ get_or xs j empty
  lie_at c [] h j l = absurd (not-suc-le-zero l)
  lie_at c (x ∷ xs) h zero l = rw (add-zero c) h.0
  lie_at c (x ∷ xs) h (suc j) l =
      rw (add-suc c j, ← suc-add c j) (lie_at (suc c) xs h.1 j (le_of_suc-le-suc l))

  lie_front : (c : ℕ) (xs ys : List Cell) → LieAs k c (xs ++ ys) → LieAs k c xs
  lie_front c [] ys h = tt
  lie_front c (x ∷ xs) ys h = (h.0, lie_front (suc c) xs ys h.1)

  lie_back : (c : ℕ) (xs ys : List Cell) → LieAs k c (xs ++ ys) → LieAs k (c + length xs) ys
  lie_back c [] ys h = rw (add-zero c) h
  lie_back c (x ∷ xs) ys h =
      rw (add-suc c (length xs), ← suc-add c (length xs)) (lie_back (suc c) xs ys h.1)

pub each_at : (R : ℕ → Cell → Cell → Type 0) (c : ℕ) (xs ys : List Cell) → Each R c xs ys → (j : ℕ) → j < length xs
    → R (c + j) (get_or xs j empty) (get_or ys j empty)
each_at R c [] ys h j l = absurd (not-suc-le-zero l)
each_at R c (x ∷ xs) [] h j l = absurd h
each_at R c (x ∷ xs) (y ∷ ys) h zero l = rw (add-zero c) h.0
each_at R c (x ∷ xs) (y ∷ ys) h (suc j) l =
    rw (add-suc c j, ← suc-add c j) (each_at R (suc c) xs ys h.1 j (le_of_suc-le-suc l))

-- ---- a bracket around the last n cells below c

last_in : (F lim c n : ℕ) → F + n ≤ c → c ≤ lim → BracketIn F lim (last_below c n)
last_in F lim c zero h l = tt
last_in F lim c (suc n) h l = (omega arith, omega arith, omega arith)

last_inside : (t : ℕ → Expr) (c n : ℕ) → n ≤ c → inside t (last_below c n) ≡ run t (c - n) n
last_inside t c zero h = refl
last_inside t c (suc n) h = let z : suc (c - 1) - (c - suc n) ≡ suc n = omega arith in rw z refl

-- ---- what the cells of an expression denote, where t has the cells' terms

module _ (k : ℕ → Cell) (t : ℕ → Expr) (lo hi : ℕ) (law : (c : ℕ) → lo ≤ c → c < hi → t c ≡ term_of t (k c)) where
  -- the own terms from x on, the contents of the brackets from c on
  run_denotes : (e : Expr) (x c : ℕ) → lo ≤ c → after c e ≤ x → x + terms e ≤ hi → LieAs k c (deep_cells c e)
      → LieAs k x (own_cells c e) → run t x (terms e) ≡ e
  run_denotes nothing x c l h m f g = refl
  run_denotes (symbol a r) x c l h m f g =
      ap₂ append (law x (omega arith) (omega arith) ∙ ap (term_of t) g.0)
      (run_denotes r (suc x) c l (omega arith) (omega arith) f g.1)
  run_denotes (parens i r) x c l h m f g =
      let z = after_parens c i r in
      let u : c + all_terms i - terms i ≡ after c i = omega (arith, deep_length c i) in
      let own : LieAs k c (laid c i) = lie_front k c (laid c i) (deep_cells (c + all_terms i) r) f in
      let inner : run t (c + all_terms i - terms i) (terms i) ≡ i =
      rw u (run_denotes i (after c i) c l (omega arith) (omega (arith, deep_length c i, z))
      (lie_front k c (deep_cells c i) (own_cells c i) own) (lie_back k c (deep_cells c i) (own_cells c i) own)) in
      let b = last_below (c + all_terms i) (terms i) in
      let bracket : term_of t b ≡ parens i nothing =
      wrapped t lo (c + all_terms i) b (last_in lo (c + all_terms i) (c + all_terms i) (terms i)
      (omega (arith, terms_le i)) (omega arith)) ∙ ap (λ (y : Expr). parens y nothing)
      (last_inside t (c + all_terms i) (terms i) (omega (arith, terms_le i)) ∙ inner) in
      ap₂ append (law x (omega (arith, z)) (omega arith) ∙ (ap (term_of t) g.0 ∙ bracket))
      (run_denotes r (suc x) (c + all_terms i) (omega arith) (omega (arith, z)) (omega arith)
      (rw (laid_length c i) at (lie_back k c (laid c i) (deep_cells (c + all_terms i) r) f)) g.1)

-- ---- a row of cells put from `top` on

record Put (F : ℕ) (ws : List ℕ) (top : ℕ) (xs : List Cell) : Type 0 where
  more : Extends F ws top (puts ws top xs) (top + length xs)
  lie : LieAs (at (puts ws top xs)) top xs

-- each with its ends below it
abbrev Fit : ℕ → ℕ → List Cell → Type 0
Fit F c xs = Each (λ y b b'. TermIn F y b) c xs xs

puts_put : (F : ℕ) (p : 0 < F) (xs : List Cell) (ws : List ℕ) (top : ℕ) → Sound F ws top → Fit F top xs
    → 2 * (top + length xs) ≤ length ws → Put F ws top xs
puts_put F p [] ws top s h r = record { more = rw (add-zero top) (extends_self F ws top p s); lie = tt }
puts_put F p (x ∷ xs) ws top s h r =
    let y = extends_put F ws top p s (omega arith) x h.0 in
    let q = puts_put F p xs (put ws top x) (suc top) y.sound h.1 (omega (arith, length_put ws top x)) in
    record {
      more = rw (add-suc top (length xs), ← suc-add top (length xs)) (extends_trans y q.more);
      lie = (q.more.old top (omega arith) ∙ at_put ws top x F top p (omega arith) h.0, q.lie);
    }

-- ---- the cells of an expression put from `top` on

module _ (F : ℕ) (p : 0 < F) (ws : List ℕ) (top : ℕ) (s : Sound F ws top) (e : Expr) (q : Coded e)
    (r : 2 * (top + all_terms e) ≤ length ws) where
  abbrev v : List ℕ
  v = puts ws top (laid top e)

  abbrev n : ℕ
  n = all_terms e

  laid_put : Put F ws top (laid top e)
  laid_put =
      puts_put F p (laid top e) ws top s
      (laid_each top top n (λ y b b'. TermIn F y b) (λ c a h. h)
      (λ x c c' k l m g h. term_of_bracket F x (last_below c k) (last_in F x c k (omega (arith, s.low)) g))
      e q top top (omega arith) refl (omega arith)) (omega (arith, laid_length top e))

  pub laid_more : Extends F ws top v (top + n)
  laid_more = rw (laid_length top e) at laid_put.more

  pub laid_at : (j : ℕ) → j < n → at v (top + j) ≡ get_or (laid top e) j empty
  laid_at j h = lie_at (at v) top (laid top e) laid_put.lie j (omega (arith, laid_length top e))

  pub laid_in : BracketIn F (top + n) (last_below (top + n) (terms e))
  laid_in = last_in F (top + n) (top + n) (terms e) (omega (arith, s.low, terms_le e)) (omega arith)

  pub laid_denotes : inside (term (at v) (length v)) (last_below (top + n) (terms e)) ≡ e
  laid_denotes =
      let u : top + n - terms e ≡ after top e = omega (arith, deep_length top e) in
      last_inside (term (at v) (length v)) (top + n) (terms e) (omega (arith, terms_le e))
      ∙ rw u (run_denotes (at v) (term (at v) (length v)) F (top + n) (term_law F v (top + n) p laid_more.sound)
      e (after top e) top s.low (omega arith) (omega (arith, deep_length top e))
      (lie_front (at v) top (deep_cells top e) (own_cells top e) laid_put.lie)
      (lie_back (at v) top (deep_cells top e) (own_cells top e) laid_put.lie))

  -- register d set to them
  pub text_acts : (e₀ : ℕ → Expr) (d : ℕ) → Others F ws e₀ d → d < F
      → Acts F e₀ (typing e₀ d e) (all_terms e) ws top (new_cells d e ws top)
  unfolding new_cells
  text_acts e₀ d m l =
      new_acts F p e₀ ws top s 0 n d refl m l v (top + n) laid_more (last_below (top + n) (terms e)) laid_in e
      laid_denotes n refl
