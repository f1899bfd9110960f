-- The list of reached cells that is computed has exactly the reached cells, in ascending order. In order:
--   or_left, or_right, or_cases   laws of `||`
--   listed_reached                what is listed is reached
--   listed_asc, listed_below      the list ascends, and its members are below `top`
--   between_reg, between_term     what a register and an occupied heap cell hold
--   reached_heap                  a reached cell is an occupied heap cell
--   holder_above                  a reached bracket holds lower cells only
--   reached_listed                what is reached is listed
--   listed_iff                    in a sound store the list and the wording agree
--   reached_asc, reached_below    its list ascends from F on, below `top`
--   live_le                       F + live is at most `top`
-- Assumes nothing.
use mathlib.Core.Path.{◌≡◌, refl, sym}
use mathlib.Core.Logic.{◌⊎◌, inl, inr}
use mathlib.Core.Bool.{Bool, true, false, ◌||◌, false≢true}
use mathlib.Core.List.{List, [], ◌∷◌}
use Prim.Native.Nat.{ℕ, zero, suc, ◌+◌, ◌-◌, ◌≤◌, ◌<◌}
use native.Mathlib.Nat.{le_refl, not-suc-le-zero, le_of_suc-le-suc, eq-or-lt_of_le}
use native.Mathlib.Omega.{arith}
use Rattle.meaning.specs.Sound.{Cell, code, empty, ends, at, Sound}
use Rattle.meaning.specs.Reach.{Between, Reached, by_register, by_bracket, between, held_below, held_in, cons_if}
use Rattle.meaning.specs.Reach.{reached_of, reached, live}
use Rattle.meaning.proofs.Counting.{within, yes_within}
use Rattle.meaning.proofs.Lists.{In, Asc, asc_weaken, asc_length}
use Rattle.meaning.proofs.sound.Cells.{SoundCells, TermIn, BracketIn, good}

-- ---- the tests

pub or_left : (a b : Bool) → a ≡ true → (a || b) ≡ true
or_left true b e = refl
or_left false b e = absurd (false≢true e)

pub or_right : (a b : Bool) → b ≡ true → (a || b) ≡ true
or_right true b e = refl
or_right false b e = e

pub or_cases : (a b : Bool) → (a || b) ≡ true → (a ≡ true) ⊎ (b ≡ true)
or_cases true b e = inl refl
or_cases false b e = inr e

between_to : (b : Cell) (c : ℕ) → between b c ≡ true → Between b c
between_to (code a) c e = absurd (false≢true e)
between_to empty c e = absurd (false≢true e)
between_to (ends l r) c e = within l r c e

between_of : (b : Cell) (c : ℕ) → Between b c → between b c ≡ true
between_of (code a) c h = absurd h
between_of empty c h = absurd h
between_of (ends l r) c h = yes_within l r c h.0 h.1

pub below_to : (k : ℕ → Cell) (n c : ℕ) → held_below k n c ≡ true → (i : ℕ) × (i < n) × Between (k i) c
below_to k zero c e = absurd (false≢true e)
below_to k (suc n) c e = go (or_cases (between (k n) c) (held_below k n c) e) (below_to k n c)
  where
    go : (between (k n) c ≡ true) ⊎ (held_below k n c ≡ true)
        → (held_below k n c ≡ true → (i : ℕ) × (i < n) × Between (k i) c) → (i : ℕ) × (i < suc n) × Between (k i) c
    go (inl p) r = (n, omega arith, between_to (k n) c p)
    go (inr p) r = let q = r p in (q.0, omega (arith, q.1), q.2)

pub below_of : (k : ℕ → Cell) (n c i : ℕ) → i < n → Between (k i) c → held_below k n c ≡ true
below_of k zero c i l h = absurd (not-suc-le-zero l)
below_of k (suc n) c i l h = go (eq-or-lt_of_le (le_of_suc-le-suc l)) (below_of k n c i)
  where
    go : (i ≡ n) ⊎ (i < n) → (i < n → Between (k i) c → held_below k n c ≡ true)
        → (between (k n) c || held_below k n c) ≡ true
    go (inl e) r = or_left (between (k n) c) (held_below k n c) (between_of (k n) c (rw e at h))
    go (inr q) r = or_right (between (k n) c) (held_below k n c) (r q h)

in_to : (k : ℕ → Cell) (bs : List ℕ) (c : ℕ) → held_in k bs c ≡ true → (b : ℕ) × In b bs × Between (k b) c
in_to k [] c e = absurd (false≢true e)
in_to k (x ∷ bs) c e = go (or_cases (between (k x) c) (held_in k bs c) e) (in_to k bs c)
  where
    go : (between (k x) c ≡ true) ⊎ (held_in k bs c ≡ true)
        → (held_in k bs c ≡ true → (b : ℕ) × In b bs × Between (k b) c) → (b : ℕ) × In b (x ∷ bs) × Between (k b) c
    go (inl p) r = (x, inl refl, between_to (k x) c p)
    go (inr p) r = let q = r p in (q.0, inr q.1, q.2)

in_of : (k : ℕ → Cell) (bs : List ℕ) (c b : ℕ) → In b bs → Between (k b) c → held_in k bs c ≡ true
in_of k [] c b i h = absurd i
in_of k (x ∷ bs) c b (inl e) h = or_left (between (k x) c) (held_in k bs c) (between_of (k x) c (rw e at h))
in_of k (x ∷ bs) c b (inr i) h = or_right (between (k x) c) (held_in k bs c) (in_of k bs c b i h)

cons_if_in : (t : Bool) (c x : ℕ) (xs : List ℕ) → In c (cons_if t x xs) → ((t ≡ true) × (c ≡ x)) ⊎ In c xs
cons_if_in true c x xs (inl e) = inl (refl, e)
cons_if_in true c x xs (inr i) = inr i
cons_if_in false c x xs i = inr i

in_cons_if : (t : Bool) (c x : ℕ) (xs : List ℕ) → In c xs → In c (cons_if t x xs)
in_cons_if true c x xs i = inr i
in_cons_if false c x xs i = i

asc_cons_if : (t : Bool) (lo x : ℕ) (xs : List ℕ) → lo ≤ x → Asc (suc x) xs → Asc lo (cons_if t x xs)
asc_cons_if true lo x xs h a = (h, a)
asc_cons_if false lo x xs h a = asc_weaken (suc x) lo xs (omega arith) a

-- ---- the list

module _ (F : ℕ) (k : ℕ → Cell) (top : ℕ) where
  step_to : (n c : ℕ) → ((b : ℕ) → In b (reached_of F k top n) → Reached F k b)
      → (held_below k F c || held_in k (reached_of F k top n) c) ≡ true → Reached F k c
  step_to n c r e = go (or_cases (held_below k F c) (held_in k (reached_of F k top n) c) e)
    where
      go : (held_below k F c ≡ true) ⊎ (held_in k (reached_of F k top n) c ≡ true) → Reached F k c
      go (inl p) = let q = below_to k F c p in by_register q.0 q.1 q.2
      go (inr p) = let q = in_to k (reached_of F k top n) c p in by_bracket q.0 (r q.0 q.1) q.2

  -- what is listed is reached
  pub listed_reached : (n c : ℕ) → In c (reached_of F k top n) → Reached F k c
  listed_reached zero c i = absurd i
  listed_reached (suc n) c i =
      go (cons_if_in (held_below k F (top - suc n) || held_in k (reached_of F k top n) (top - suc n)) c (top - suc n)
      (reached_of F k top n) i) (listed_reached n)
    where
      go : (((held_below k F (top - suc n) || held_in k (reached_of F k top n) (top - suc n)) ≡ true) ×
          (c ≡ top - suc n)) ⊎ In c (reached_of F k top n)
          → ((b : ℕ) → In b (reached_of F k top n) → Reached F k b) → Reached F k c
      go (inl p) r = rw p.1 (step_to n (top - suc n) r p.0)
      go (inr j) r = r c j

  pub listed_asc : (n : ℕ) → n ≤ top → Asc (top - n) (reached_of F k top n)
  listed_asc zero h = tt
  listed_asc (suc n) h =
      asc_cons_if (held_below k F (top - suc n) || held_in k (reached_of F k top n) (top - suc n)) (top - suc n)
      (top - suc n) (reached_of F k top n) (le_refl (top - suc n))
      (asc_weaken (top - n) (suc (top - suc n)) (reached_of F k top n) (omega arith) (listed_asc n (omega arith)))

  pub listed_below : (n c : ℕ) → n ≤ top → In c (reached_of F k top n) → c < top
  listed_below zero c h i = absurd i
  listed_below (suc n) c h i =
      go (cons_if_in (held_below k F (top - suc n) || held_in k (reached_of F k top n) (top - suc n)) c (top - suc n)
      (reached_of F k top n) i) (listed_below n c (omega arith))
    where
      go : (((held_below k F (top - suc n) || held_in k (reached_of F k top n) (top - suc n)) ≡ true) ×
          (c ≡ top - suc n)) ⊎ In c (reached_of F k top n)
          → (In c (reached_of F k top n) → c < top) → c < top
      go (inl p) r = omega (arith, p.1)
      go (inr j) r = r j

  module _ (g : SoundCells F k top) where
    pub between_reg : (b : Cell) (c : ℕ) → BracketIn F top b → Between b c → (F ≤ c) × (c < top)
    between_reg (code a) c h q = absurd q
    between_reg empty c h q = absurd q
    between_reg (ends l r) c h q = (omega (arith, h.0, q.0), omega (arith, h.2, q.1))

    pub between_term : (b : Cell) (x c : ℕ) → TermIn F x b → Between b c → (F ≤ c) × (c < x)
    between_term (code a) x c h q = absurd q
    between_term empty x c h q = absurd q
    between_term (ends l r) x c h q = (omega (arith, h.0, q.0), omega (arith, h.2, q.1))

    -- a reached cell is an occupied heap cell
    pub reached_heap : {c : ℕ} → Reached F k c → (F ≤ c) × (c < top)
    reached_heap {c} (by_register i l h) = between_reg (k i) c (g.regs i l) h
    reached_heap {c} (by_bracket b r h) =
        let p = reached_heap r in
        let q = between_term (k b) b c (g.heap b p.0 p.1) h in
        (q.0, omega (arith, p.1, q.1))

    -- a reached bracket holds lower cells only
    pub holder_above : {b c : ℕ} → Reached F k b → Between (k b) c → c < b
    holder_above {b} {c} r h = let p = reached_heap r in (between_term (k b) b c (g.heap b p.0 p.1) h).1

    -- what is reached is listed
    here : (n c : ℕ) → c ≡ top - suc n → n < top → Reached F k c
        → ((b : ℕ) → Reached F k b → top - n ≤ b → In b (reached_of F k top n))
        → (held_below k F c || held_in k (reached_of F k top n) c) ≡ true
    here n c e l (by_register i p h) r =
        or_left (held_below k F c) (held_in k (reached_of F k top n) c) (below_of k F c i p h)
    here n c e l (by_bracket b q h) r =
        or_right (held_below k F c) (held_in k (reached_of F k top n) c)
        (in_of k (reached_of F k top n) c b (r b q (omega (arith, holder_above q h))) h)

    cons_if_here : (t : Bool) (c x : ℕ) (xs : List ℕ) → t ≡ true → c ≡ x → In c (cons_if t x xs)
    cons_if_here true c x xs e f = inl f
    cons_if_here false c x xs e f = absurd (false≢true e)

    pub reached_listed : (n c : ℕ) → n ≤ top → Reached F k c → top - n ≤ c → In c (reached_of F k top n)
    reached_listed zero c l r h = absurd (let p = (reached_heap r).1 in omega arith)
    reached_listed (suc n) c l r h = go (eq-or-lt_of_le h) (λ b q m. reached_listed n b (omega arith) q m)
      where
        go : (top - suc n ≡ c) ⊎ (top - suc n < c)
            → ((b : ℕ) → Reached F k b → top - n ≤ b → In b (reached_of F k top n)) → In c (reached_of F k top (suc n))
        go (inl e) i =
            cons_if_here (held_below k F (top - suc n) || held_in k (reached_of F k top n) (top - suc n)) c
            (top - suc n)
            (reached_of F k top n)
            (here n (top - suc n) refl l (rw e r) i) (sym e)
        go (inr m) i = in_cons_if (held_below k F (top - suc n) || held_in k (reached_of F k top n) (top - suc n)) c
            (top - suc n) (reached_of F k top n) (i c r (omega arith))

-- ---- of a sound store

module _ (F : ℕ) (ws : List ℕ) (top : ℕ) (p : 0 < F) (s : Sound F ws top) where
  -- the computed list and the wording agree
  pub listed_iff : (c : ℕ)
      → (In c (reached F ws top) → Reached F (at ws) c) × (Reached F (at ws) c → In c (reached F ws top))
  unfolding reached
  listed_iff c = (
    listed_reached F (at ws) top (top - F) c,
    λ r. reached_listed F (at ws) top (good F ws top p s)
        (top - F) c (omega arith) r (omega (arith, s.low, (reached_heap F (at ws) top (good F ws top p s) r).0)),
  )

  pub reached_asc : Asc F (reached F ws top)
  unfolding reached
  reached_asc = asc_weaken (top - (top - F)) F (reached_of F (at ws) top (top - F)) (omega (arith, s.low))
      (listed_asc F (at ws) top (top - F) (omega arith))

  pub reached_below : (c : ℕ) → In c (reached F ws top) → c < top
  unfolding reached
  reached_below c i = listed_below F (at ws) top (top - F) c (omega arith) i

  pub live_le : F + live F ws top ≤ top
  unfolding live
  live_le = asc_length F top (reached F ws top) reached_asc s.low reached_below
