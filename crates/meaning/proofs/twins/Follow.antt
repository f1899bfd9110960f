-- A map of addresses, from one store's cells to another's, that keeps their order: then the reached cells correspond,
-- one by one. In order:
--   asc_same                       ascending lists with the same members are equal
--   Follows                        f maps cells in their order, each bracket to the one over the images of its contents
--   follow_P                       f maps every reached cell
--   follow_to, follow_from         its image is reached, and what is reached in the other store is an image
--   canon_kept                     the canonical words over a list of cells are those over their images
--   follow_reached, follow_canon   of sound stores: the reached cells, and the canonical words
-- Assumes nothing.
use mathlib.Core.Path.{◌≡◌, refl, sym, ap, ap₂, ◌∙◌, subst}
use mathlib.Core.Logic.{◌⊎◌, inl, inr, ◌≢◌}
use mathlib.Core.Bool.{Bool, true, false}
use mathlib.Core.List.{List, [], ◌∷◌, ◌++◌, map}
use Prim.Native.Nat.{ℕ, zero, suc, ◌+◌, ◌-◌, ◌≤◌, ◌<◌}
use native.Mathlib.Nat.{le_refl, eq-or-lt_of_le}
use native.Mathlib.Omega.{arith}
use lib.Dec.{ltb}
use borrow.Author.Tests.{ltb-true, ltb-false, lt-ltb, le-ltb}
use Rattle.meaning.specs.Sound.{Cell, code, empty, ends, fst, snd, at, Sound}
use Rattle.meaning.specs.Reach.{Between, Reached, by_register, by_bracket, reached}
use Rattle.meaning.specs.Collected.{below, map_ends, lay, up_from, new_address}
use Rattle.meaning.proofs.Lists.{In, Asc, asc_in}
use Rattle.meaning.proofs.sound.Cells.{SoundCells, good, TermIn, term_of_bracket}
use Rattle.meaning.proofs.meaning.Terms.{Along}
use Rattle.meaning.proofs.reach.Reaching.{listed_iff, reached_asc}
use Rattle.meaning.proofs.twins.Canons.{canon_of, canon}

-- ---- lists

-- ascending lists with the same members are equal
asc_same_head : (x y : ℕ) (xs ys : List ℕ) → Asc (suc x) xs → Asc (suc y) ys → In x (y ∷ ys) → In y (x ∷ xs) → x ≡ y
asc_same_head x y xs ys a b (inl e) j = e
asc_same_head x y xs ys a b (inr i) (inl e) = sym e
asc_same_head x y xs ys a b (inr i) (inr j) =
    absurd (let p = asc_in (suc y) x ys b i in let q = asc_in (suc x) y xs a j in omega arith)

tail_of : (c y : ℕ) (ys : List ℕ) → c ≢ y → In c (y ∷ ys) → In c ys
tail_of c y ys n (inl e) = absurd (n e)
tail_of c y ys n (inr i) = i

pub asc_same : (lo lo' : ℕ) (xs ys : List ℕ) → Asc lo xs → Asc lo' ys → ((c : ℕ) → In c xs → In c ys)
    → ((c : ℕ) → In c ys → In c xs) → xs ≡ ys
asc_same lo lo' [] [] a b f g = refl
asc_same lo lo' [] (y ∷ ys) a b f g = absurd (g y (inl refl))
asc_same lo lo' (x ∷ xs) [] a b f g = absurd (f x (inl refl))
asc_same lo lo' (x ∷ xs) (y ∷ ys) a b f g =
    let e = asc_same_head x y xs ys a.1 b.1 (f x (inl refl)) (g y (inl refl)) in
    ap₂ {C = List ℕ} (λ u v. u ∷ v) e
    (asc_same (suc x) (suc y) xs ys a.1 b.1
    (λ c i. tail_of c y ys (let l = asc_in (suc x) c xs a.1 i in omega arith) (f c (inr i)))
    (λ c i. tail_of c x xs (let l = asc_in (suc y) c ys b.1 i in omega arith) (g c (inr i))))

in_map : (f : ℕ → ℕ) (c : ℕ) (xs : List ℕ) → In c xs → In (f c) (map f xs)
in_map f c [] i = absurd i
in_map f c (x ∷ xs) (inl e) = inl (ap f e)
in_map f c (x ∷ xs) (inr i) = inr (in_map f c xs i)

map_in : (f : ℕ → ℕ) (y : ℕ) (xs : List ℕ) → In y (map f xs) → (c : ℕ) × In c xs × (y ≡ f c)
map_in f y [] i = absurd i
map_in f y (x ∷ xs) (inl e) = (x, inl refl, e)
map_in f y (x ∷ xs) (inr i) = let q = map_in f y xs i in (q.0, inr q.1, q.2)

asc_map : (f : ℕ → ℕ) (lo lo' : ℕ) (xs : List ℕ) → Asc lo xs → ((c d : ℕ) → In c xs → In d xs → c < d → f c < f d)
    → ((c : ℕ) → In c xs → lo' ≤ f c) → Asc lo' (map f xs)
asc_map f lo lo' [] a m h = tt
asc_map f lo lo' (x ∷ xs) a m h = (
  h x (inl refl),
  asc_map f (suc x) (suc (f x)) xs a.1 (λ c d i j l. m c d (inr i) (inr j) l)
      (λ c i. m x c (inl refl) (inr i) (asc_in (suc x) c xs a.1 i)),
)

ltb_map : (f : ℕ → ℕ) (x c : ℕ) → (x < c → f x < f c) → (c ≤ x → f c ≤ f x) → ltb (f x) (f c) ≡ ltb x c
ltb_map f x c h g = go (ltb x c) refl
  where
    go : (t : Bool) → ltb x c ≡ t → ltb (f x) (f c) ≡ t
    go true e = lt-ltb (f x) (f c) (h (ltb-true x c e))
    go false e = le-ltb (f x) (f c) (g (ltb-false x c e))

below_map : (f : ℕ → ℕ) (c : ℕ) (xs : List ℕ) → ((x : ℕ) → In x xs → (x < c → f x < f c) × (c ≤ x → f c ≤ f x))
    → below (f c) (map f xs) ≡ below c xs
below_map f c [] h = refl
below_map f c (x ∷ xs) h =
    rw (ltb_map f x c (h x (inl refl)).0 (h x (inl refl)).1, below_map f c xs (λ y i. h y (inr i))) refl

lay_append : (k : ℕ → Cell) (xs ys : List ℕ) → lay k (xs ++ ys) ≡ lay k xs ++ lay k ys
lay_append k [] ys = refl
lay_append k (x ∷ xs) ys = ap (λ (r : List ℕ). fst (k x) ∷ snd (k x) ∷ r) (lay_append k xs ys)

lay_map : (k k' : ℕ → Cell) (f : ℕ → ℕ) (xs : List ℕ) → ((c : ℕ) → In c xs → k' (f c) ≡ k c)
    → lay k xs ≡ lay k' (map f xs)
lay_map k k' f [] h = refl
lay_map k k' f (x ∷ xs) h =
    rw (h x (inl refl)) (ap (λ (r : List ℕ). fst (k x) ∷ snd (k x) ∷ r) (lay_map k k' f xs (λ c i. h c (inr i))))

lay_same : (k k' : ℕ → Cell) (c n : ℕ) → ((x : ℕ) → c ≤ x → x < c + n → k x ≡ k' x)
    → lay k (up_from c n) ≡ lay k' (up_from c n)
lay_same k k' c zero h = refl
lay_same k k' c (suc n) h =
    rw (h c (le_refl c) (omega arith))
    (ap (λ (r : List ℕ). fst (k' c) ∷ snd (k' c) ∷ r) (lay_same k k' (suc c) n
    (λ x l m. h x (omega arith) (omega arith))))

-- ---- two stores

-- f maps the cells of which P holds, in order, and each bracket to the bracket over the images of its contents
pub record Follows (F : ℕ) (k : ℕ → Cell) (top : ℕ) (k' : ℕ → Cell) (P : ℕ → Type 0) (f : ℕ → ℕ) : Type 0 where
  pub heap : (c : ℕ) → P c → (F ≤ c) × (c < top)
  pub rises : (c d : ℕ) → P c → P d → c < d → f c < f d
  pub regs : (i : ℕ) → i < F → Along P f (k i) × (k' i ≡ map_ends f (k i))
  pub cells : (c : ℕ) → P c → Along P f (k c) × (k' (f c) ≡ map_ends f (k c))

between_P : (P : ℕ → Type 0) (f : ℕ → ℕ) (b : Cell) (c : ℕ) → Along P f b → Between b c → P c
between_P P f (code a) c h q = absurd q
between_P P f empty c h q = absurd q
between_P P f (ends l r) c h q =
    let e : l + (c - l) ≡ c = omega (arith, q.0) in rw e at (h (c - l) (omega (arith, q.0, q.1))).0

-- what lies in a bracket is mapped into the bracket's image, and onto all of it
between_to : (P : ℕ → Type 0) (f : ℕ → ℕ) (b : Cell) (c : ℕ) → Along P f b → Between b c → Between (map_ends f b) (f c)
between_to P f (code a) c h q = q
between_to P f empty c h q = q
between_to P f (ends l r) c h q =
    let u : l + (c - l) ≡ c = omega (arith, q.0) in
    let v : l + (r - l) ≡ r = omega (arith, q.0, q.1) in
    let x : f c ≡ f l + (c - l) = rw u at (h (c - l) (omega (arith, q.0, q.1))).1 in
    let y : f r ≡ f l + (r - l) = rw v at (h (r - l) (omega (arith, q.0, q.1))).1 in
    (omega arith, omega (arith, q.1))

between_from : (P : ℕ → Type 0) (f : ℕ → ℕ) (F lim : ℕ) (b : Cell) (y : ℕ) → TermIn F lim b → Along P f b
    → Between (map_ends f b) y → (c : ℕ) × Between b c × (y ≡ f c)
between_from P f F lim (code a) y t h q = absurd q
between_from P f F lim empty y t h q = absurd q
between_from P f F lim (ends l r) y t h q =
    let v : l + (r - l) ≡ r = omega (arith, t.1) in
    let z : f r ≡ f l + (r - l) = rw v at (h (r - l) (omega (arith, t.1))).1 in
    let x = h (y - f l) (omega (arith, q.1, t.1)) in
    (l + (y - f l), (omega arith, omega (arith, q.1, t.1)), omega (arith, x.1, q.0))

module _ (F : ℕ) (k : ℕ → Cell) (top : ℕ) (k' : ℕ → Cell) (P : ℕ → Type 0) (f : ℕ → ℕ) (g : SoundCells F k top)
    (w : Follows F k top k' P f) where
  pub follow_P : {c : ℕ} → Reached F k c → P c
  follow_P {c} (by_register i h q) = between_P P f (k i) c (w.regs i h).0 q
  follow_P {c} (by_bracket b r q) = between_P P f (k b) c (w.cells b (follow_P r)).0 q

  pub follow_to : {c : ℕ} → Reached F k c → Reached F k' (f c)
  follow_to {c} (by_register i h q) =
      by_register {c = f c} i h (rw (w.regs i h).1 (between_to P f (k i) c (w.regs i h).0 q))
  follow_to {c} (by_bracket b r q) =
      let x = w.cells b (follow_P r) in by_bracket {c = f c} (f b) (follow_to r)
      (rw x.1 (between_to P f (k b) c x.0 q))

  pub follow_from : {y : ℕ} → Reached F k' y → (c : ℕ) × Reached F k c × (y ≡ f c)
  follow_from {y} (by_register i h q) =
      let x = w.regs i h in
      let z = between_from P f F top (k i) y (term_of_bracket F top (k i) (g.regs i h)) x.0 (rw x.1 at q) in
      (z.0, by_register i h z.1, z.2)
  follow_from {y} (by_bracket b r q) =
      let m = follow_from r in
      let v = follow_P m.1 in
      let x = w.cells m.0 v in
      let n = w.heap m.0 v in
      let z = between_from P f F m.0 (k m.0) y (g.heap m.0 n.0 n.1) x.0 (rw (m.2, x.1) at q) in
      (z.0, by_bracket m.0 m.1 z.1, z.2)

  place_kept : (rs : List ℕ) → ((c : ℕ) → In c rs → P c) → (c : ℕ) → P c → below (f c) (map f rs) ≡ below c rs
  place_kept rs h c v =
      below_map f c rs (λ x i. (λ l. w.rises x c (h x i) v l, λ l. not_up x (h x i) (eq-or-lt_of_le l)))
    where
      not_up : (x : ℕ) → P x → (c ≡ x) ⊎ (c < x) → f c ≤ f x
      not_up x u (inl e) = rw e (le_refl (f x))
      not_up x u (inr l) = let m = w.rises c x v u l in omega arith

  moved_kept : (rs : List ℕ) → ((c : ℕ) → In c rs → P c) → (lim : ℕ) (b : Cell) → TermIn F lim b → Along P f b
      → map_ends (new_address F (map f rs)) (map_ends f b) ≡ map_ends (new_address F rs) b
  unfolding new_address
  moved_kept rs h lim (code a) t u = refl
  moved_kept rs h lim empty t u = refl
  moved_kept rs h lim (ends l r) t u =
      rw (
        place_kept rs h l (between_P P f (ends l r) l u (le_refl l, t.1)),
        place_kept rs h r
            (between_P P f (ends l r) r u (t.1, le_refl r)),
      ) refl

  pub canon_kept : (rs : List ℕ) → ((c : ℕ) → In c rs → P c) → canon_of F k' (map f rs) ≡ canon_of F k rs
  unfolding canon_of
  canon_kept rs h =
      lay_append (λ c. map_ends (new_address F (map f rs)) (k' c)) (up_from 0 F) (map f rs)
      ∙ (ap₂ {C = List ℕ} (λ u v. u ++ v)
      (lay_same (λ c. map_ends (new_address F (map f rs)) (k' c)) (λ c. map_ends (new_address F rs) (k c)) 0 F
      (λ i l m. let j : i < F = omega arith in let x = w.regs i j in
      ap (λ (b : Cell). map_ends (new_address F (map f rs)) b) x.1
      ∙ moved_kept rs h top (k i) (term_of_bracket F top (k i) (g.regs i j)) x.0))
      (sym (lay_map (λ c. map_ends (new_address F rs) (k c)) (λ c. map_ends (new_address F (map f rs)) (k' c)) f rs
      (λ c i. let x = w.cells c (h c i) in let n = w.heap c (h c i) in
      ap (λ (b : Cell). map_ends (new_address F (map f rs)) b) x.1
      ∙ moved_kept rs h c (k c) (g.heap c n.0 n.1) x.0)))
      ∙ sym (lay_append (λ c. map_ends (new_address F rs) (k c)) (up_from 0 F) rs))

-- sound stores that follow one another have the same canonical words
module _ (F : ℕ) (p : 0 < F) (ws : List ℕ) (top : ℕ) (s : Sound F ws top) (ws' : List ℕ) (top' : ℕ)
    (s' : Sound F ws' top') (P : ℕ → Type 0) (f : ℕ → ℕ) (w : Follows F (at ws) top (at ws') P f) where
  pub follow_reached : reached F ws' top' ≡ map f (reached F ws top)
  follow_reached =
      let g = good F ws top p s in
      let to : (c : ℕ) → In c (reached F ws top) → In (f c) (reached F ws' top') =
      λ c i. (listed_iff F ws' top' p s' (f c)).1
      (follow_to F (at ws) top (at ws') P f g w ((listed_iff F ws top p s c).0 i)) in
      let up : (c : ℕ) → In c (reached F ws top) → P c =
      λ c i. follow_P F (at ws) top (at ws') P f g w ((listed_iff F ws top p s c).0 i) in
      asc_same F F (reached F ws' top') (map f (reached F ws top)) (reached_asc F ws' top' p s')
      (asc_map f F F (reached F ws top) (reached_asc F ws top p s) (λ c d i j l. w.rises c d (up c i) (up d j) l)
      (λ c i. asc_in F (f c) (reached F ws' top') (reached_asc F ws' top' p s') (to c i)))
      (λ y i. let q = follow_from F (at ws) top (at ws') P f g w ((listed_iff F ws' top' p s' y).0 i) in
      subst (λ (x : ℕ). In x (map f (reached F ws top))) (sym q.2)
      (in_map f q.0 (reached F ws top) ((listed_iff F ws top p s q.0).1 q.1)))
      (λ y i. let q = map_in f y (reached F ws top) i in subst (λ (x : ℕ). In x (reached F ws' top')) (sym q.2)
      (to q.0 q.1))

  pub follow_canon : canon F ws' top' ≡ canon F ws top
  unfolding canon
  follow_canon =
      let g = good F ws top p s in
      rw follow_reached (canon_kept F (at ws) top (at ws') P f g w (reached F ws top)
      (λ c i. follow_P F (at ws) top (at ws') P f g w ((listed_iff F ws top p s c).0 i)))
