-- The meaning of cells: what it depends on, and how it goes along with a map of addresses. In order:
--   append_nothing, append_append   laws of `append`;  terms_append  the number of terms adds up
--   run_split, run_ext              a run in two;  two runs of the same terms
--   Along                           a map of addresses goes along with the run of a bracket
--   inside_along, term_of_along      what is inside a bracket, and its term, are kept along such a map
--   term_along                      so is a cell's term
--   term_depth                      a cell's term is the same at any depth that is enough
-- Assumes nothing.
use mathlib.Core.Path.{◌≡◌, refl, sym, ap, ap₂, ◌∙◌}
use Prim.Native.Nat.{ℕ, zero, suc, ◌+◌, ◌-◌, ◌≤◌, ◌<◌}
use native.Mathlib.Nat.{not-suc-le-zero, zero-add, suc-add, add-zero, add-suc}
use native.Mathlib.Omega.{arith}
use Rattle.meaning.specs.Expr.{Expr, nothing, symbol, parens, append, terms}
use Rattle.meaning.specs.Sound.{Cell, code, empty, ends}
use Rattle.meaning.specs.Meaning.{run, inside, term_of, term}
use Rattle.meaning.specs.Collected.{map_ends}
use Rattle.meaning.proofs.sound.Cells.{SoundCells, TermIn}

pub append_nothing : (e : Expr) → append e nothing ≡ e
append_nothing nothing = refl
append_nothing (symbol s r) = ap {B = Expr} (λ x. symbol s x) (append_nothing r)
append_nothing (parens i r) = ap {B = Expr} (λ x. parens i x) (append_nothing r)

pub append_append : (e f g : Expr) → append (append e f) g ≡ append e (append f g)
append_append nothing f g = refl
append_append (symbol s r) f g = ap {B = Expr} (λ x. symbol s x) (append_append r f g)
append_append (parens i r) f g = ap {B = Expr} (λ x. parens i x) (append_append r f g)

pub terms_append : (e f : Expr) → terms (append e f) ≡ terms e + terms f
terms_append nothing f = sym (zero-add (terms f))
terms_append (symbol s r) f = ap suc (terms_append r f) ∙ sym (suc-add (terms r) (terms f))
terms_append (parens i r) f = ap suc (terms_append r f) ∙ sym (suc-add (terms r) (terms f))

-- a run of n cells and the run of the m cells after it are a run of n + m
pub run_split : (t : ℕ → Expr) (l n m : ℕ) → run t l (n + m) ≡ append (run t l n) (run t (l + n) m)
run_split t l zero m = rw (zero-add m, add-zero l) refl
run_split t l (suc n) m =
    rw (suc-add n m, append_append, add-suc l n, ← suc-add l n)
    (ap (λ (x : Expr). append (t l) x) (run_split t (suc l) n m))

pub run_ext : (t u : ℕ → Expr) (l m n : ℕ) → ((j : ℕ) → j < n → t (l + j) ≡ u (m + j)) → run t l n ≡ run u m n
run_ext t u l m zero h = refl
run_ext t u l m (suc n) h =
    ap₂ append (rw (add-zero l, add-zero m) at (h 0 (omega arith)))
    (run_ext t u (suc l) (suc m) n (λ j p. rw (suc-add l j, suc-add m j, ← add-suc l j, ← add-suc m j)
    (h (suc j) (omega arith))))

-- ---- a map f of addresses, from one store's cells k to another's, k'

-- f goes along with the run of a bracket: its cells, of which P holds, are mapped to a run
abbrev pub Along : (ℕ → Type 0) → (ℕ → ℕ) → Cell → Type 0
Along P f (code a) = Unit {0}
Along P f empty = Unit {0}
Along P f (ends l r) = (j : ℕ) → l + j ≤ r → P (l + j) × (f (l + j) ≡ f l + j)

length_along : (P : ℕ → Type 0) (f : ℕ → ℕ) (l r : ℕ) → l ≤ r → Along P f (ends l r) → suc (f r) - f l ≡ suc r - l
length_along P f l r h a =
    let q : l + (r - l) ≡ r = omega arith in
    let e : f r ≡ f l + (r - l) = rw q at (a (r - l) (omega arith)).1 in
    omega arith

module _ (P : ℕ → Type 0) (f : ℕ → ℕ) (t u : ℕ → Expr) (same : (c : ℕ) → P c → t c ≡ u (f c)) where
  run_along : (l r : ℕ) → Along P f (ends l r) → run t l (suc r - l) ≡ run u (f l) (suc r - l)
  run_along l r a =
      run_ext t u l (f l) (suc r - l) (λ j h. let q = a j (omega arith) in same (l + j) q.0 ∙ ap u q.1)

  pub inside_along : (F lim : ℕ) (b : Cell) → TermIn F lim b → Along P f b → inside t b ≡ inside u (map_ends f b)
  inside_along F lim (code s) g a = refl
  inside_along F lim empty g a = refl
  inside_along F lim (ends l r) g a = rw (length_along P f l r g.1 a) (run_along l r a)

  pub term_of_along : (F lim : ℕ) (b : Cell) → TermIn F lim b → Along P f b → term_of t b ≡ term_of u (map_ends f b)
  term_of_along F lim (code s) g a = refl
  term_of_along F lim empty g a = refl
  term_of_along F lim (ends l r) g a =
      rw (length_along P f l r g.1 a) (ap (λ (x : Expr). parens x nothing) (run_along l r a))

-- where f goes along with the bracket of each cell of which P holds, it keeps the cell's term
pub term_along : (P : ℕ → Type 0) (f : ℕ → ℕ) (k k' : ℕ → Cell) (F : ℕ) (lim : ℕ → ℕ)
    → ((c : ℕ) → P c → TermIn F (lim c) (k c) × Along P f (k c) × (k' (f c) ≡ map_ends f (k c)))
    → (n c : ℕ) → P c → term k n c ≡ term k' n (f c)
term_along P f k k' F lim h zero c p = refl
term_along P f k k' F lim h (suc n) c p =
    let q = h c p in
    rw q.2 (term_of_along P f (term k n) (term k' n) (λ x px. term_along P f k k' F lim h n x px) F (lim c) (k c)
    q.0 q.1)

-- ---- depth: in a sound store no more than c brackets lie within one another in cell c

module _ (F : ℕ) (k : ℕ → Cell) (top : ℕ) (g : SoundCells F k top) where
  depth_of : (b : Cell) (c n m : ℕ) → c ≤ top → TermIn F c b
      → ((x : ℕ) → F ≤ x → x < c → term k n x ≡ term k m x) → term_of (term k n) b ≡ term_of (term k m) b
  depth_of (code a) c n m l h e = refl
  depth_of empty c n m l h e = refl
  depth_of (ends x y) c n m l h e =
      ap (λ (z : Expr). parens z nothing) (run_ext (term k n) (term k m) x x (suc y - x)
      (λ j p. e (x + j) (omega (arith, h.0)) (omega (arith, h.1, h.2))))

  pub term_depth : (n m c : ℕ) → F ≤ c → c < top → c < n → c < m → term k n c ≡ term k m c
  term_depth zero m c f l p q = absurd (not-suc-le-zero p)
  term_depth (suc n) zero c f l p q = absurd (not-suc-le-zero q)
  term_depth (suc n) (suc m) c f l p q =
      depth_of (k c) c n m (omega arith) (g.heap c f l)
      (λ x a b. term_depth n m x a (omega arith) (omega arith) (omega arith))
