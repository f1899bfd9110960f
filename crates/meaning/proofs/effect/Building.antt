-- The calls that need new cells, where there is room: SYMBOL, WRAP and JOIN.
-- Assumes nothing.
use mathlib.Core.Path.{◌≡◌, refl, sym, ap, ap₂, ◌∙◌}
use mathlib.Core.List.{List}
use Prim.Native.Nat.{ℕ, suc, ◌+◌, ◌-◌, ◌*◌, ◌≤◌, ◌<◌}
use native.Mathlib.Nat.{le_refl, le_trans, not-suc-le-zero, add_assoc}
use native.Mathlib.Omega.{arith}
use lib.ListN.{length}
use Rattle.meaning.specs.Expr.{Expr, nothing, symbol, parens, append, terms}
use Rattle.meaning.specs.Sound.{IsCode, Cell, code, empty, ends, at, Sound, size}
use Rattle.meaning.specs.Meaning.{run, inside, term_of, term, meaning, term_at}
use Rattle.meaning.specs.Operands.{SYMBOL, WRAP, JOIN}
use Rattle.meaning.specs.Actions.{put, copies, new_symbol, new_bracket, new_run_of, new_run, share}
use Rattle.meaning.specs.Call.{join_need}
use Rattle.meaning.specs.Effect.{Facts, does}
use Rattle.meaning.proofs.sound.Cells.{TermIn, BracketIn, term_of_bracket, good}
use Rattle.meaning.proofs.meaning.Terms.{append_nothing, run_ext, run_split}
use Rattle.meaning.proofs.actions.Writing.{at_put, copy_put, term_law}
use Rattle.meaning.proofs.actions.Laying.{extends_put, extends_term, extends_inside, twin, Both, both_of}
use Rattle.meaning.proofs.effect.Effects.{Others, Acts, meaning_at, new_acts, set_acts}
use Rattle.meaning.proofs.effect.Stepping.{wrapped, size_terms}

module _ (F : ℕ) (p : 0 < F) (e : ℕ → Expr) (fs : Facts) (ws : List ℕ) (top : ℕ) (s : Sound F ws top) where
  -- one new cell
  one_cell : (c : Cell) → 2 * suc top ≤ length ws → TermIn F top c
      → inside (term (at (put ws top c)) (length (put ws top c))) (ends top top) ≡ term_of
      (term (at (put ws top c)) (length (put ws top c))) c
  one_cell c r t =
      let x = extends_put F ws top p s r c t in
      let one : suc top - top ≡ 1 = omega arith in
      rw one
      (append_nothing (term (at (put ws top c)) (length (put ws top c)) top)
      ∙ (term_law F (put ws top c) (suc top) p x.sound top s.low (omega arith)
      ∙ ap (λ (y : Cell). term_of (term (at (put ws top c)) (length (put ws top c))) y)
      (at_put ws top c F top p (omega arith) t)))

  pub symbol_acts : (d a b : ℕ) → Others F ws e d → d < F → IsCode a → 2 * (top + 1) ≤ length ws
      → Acts F e (does SYMBOL e fs d a b) 1 ws top (new_symbol d a ws top)
  unfolding new_symbol
  symbol_acts d a b m l h r =
      let r' : 2 * suc top ≤ length ws = omega arith in
      new_acts F p e ws top s 0 1 d refl m l (put ws top (code a)) (suc top) (extends_put F ws top p s r' (code a) h)
      (ends top top) (s.low, le_refl top, le_refl (suc top))
      (symbol a nothing) (one_cell (code a) r' h) 1 (omega arith)

  pub wrap_acts : (d a b : ℕ) → Others F ws e d → meaning ws a ≡ e a → d < F → a < F → 2 * (top + 1) ≤ length ws
      → Acts F e (does WRAP e fs d a b) 1 ws top (new_bracket d a ws top)
  unfolding new_bracket
  wrap_acts d a b m ma l h r =
      let r' : 2 * suc top ≤ length ws = omega arith in
      let g = (good F ws top p s).regs a h in
      let t = term_of_bracket F top (at ws a) g in
      let x = extends_put F ws top p s r' (at ws a) t in
      rw (copy_put F ws top top a p s (le_trans h s.low))
      (new_acts F p e ws top s 0 1 d refl m l (put ws top (at ws a)) (suc top) x (ends top top)
      (s.low, le_refl top, le_refl (suc top))
      (parens (e a) nothing)
      (one_cell (at ws a) r' t
      ∙ (wrapped (term (at (put ws top (at ws a))) (length (put ws top (at ws a)))) F top (at ws a) g
      ∙ ap (λ (y : Expr). parens y nothing) (sym (extends_inside F ws top p s (put ws top (at ws a)) (suc top) x
      (at ws a) g) ∙ (sym (meaning_at F ws top p s a) ∙ ma)))) 1 (omega arith))

  -- two runs copied one after the other
  module _ (l r l' r' : ℕ) (t : BracketIn F top (ends l r)) (t' : BracketIn F top (ends l' r'))
      (q : 2 * (top + ((suc r - l) + (suc r' - l'))) ≤ length ws) where
    abbrev n : ℕ
    n = suc r - l

    abbrev k : ℕ
    k = suc r' - l'

    abbrev v : List ℕ
    v = copies (copies ws top l n) (top + n) l' k

    laid : Both F ws top l n l' k v
    laid = both_of F ws top l r l' r' p s t t' q

    abbrev T : ℕ → Expr
    T = term (at v) (length v)

    -- a copy of an old cell means what the old cell means
    old_copy : (y c : ℕ) → F ≤ y → y < top + (n + k) → F ≤ c → c < top → at v y ≡ at ws c
        → T y ≡ term_at ws c
    old_copy y c f h g z u =
        twin F v (top + (n + k)) p laid.more.sound y c f h g (omega arith) (u ∙ sym (laid.more.old c z))
        ∙ sym (extends_term F ws top p s v (top + (n + k)) laid.more c g z)

    left_run : run T top n ≡ run (term_at ws) l n
    left_run =
        run_ext T (term_at ws) top l n
        (λ j h. old_copy (top + j) (l + j) (omega (arith, s.low)) (omega arith) (omega (arith, t.0))
        (omega (arith, t.1, t.2)) (laid.one j h))

    right_run : run T (top + n) k ≡ run (term_at ws) l' k
    right_run =
        run_ext T (term_at ws) (top + n) l' k
        (λ j h. rw (add_assoc top n j) (old_copy (top + (n + j)) (l' + j) (omega (arith, s.low)) (omega arith)
        (omega (arith, t'.0)) (omega (arith, t'.1, t'.2)) (laid.two j h)))

    joined : inside T (ends top (top + (n + k) - 1)) ≡ append (inside (term_at ws) (ends l r))
        (inside (term_at ws) (ends l' r'))
    joined =
        let c : suc (top + (n + k) - 1) - top ≡ n + k = omega (arith, t.1) in
        rw (c, run_split T top n k, left_run, right_run) refl

    run_acts : (d a b : ℕ) → Others F ws e d → meaning ws a ≡ e a → meaning ws b ≡ e b → d < F → a < F → b < F
        → at ws a ≡ ends l r → at ws b ≡ ends l' r'
        → (j : ℕ) → n + k ≡ j → Acts F e (does JOIN e fs d a b) j ws top (new_run_of d (ends l r) (ends l' r') ws top)
    unfolding new_run_of meaning
    run_acts d a b g ga gb h ha hb u x j z =
        new_acts F p e ws top s 0 (join_need (terms (e a)) (terms (e b))) d refl g h v (top + (n + k)) laid.more
        (ends top (top + (n + k) - 1)) (s.low, omega (arith, t.1), omega (arith, t.1)) (append (e a) (e b))
        (joined ∙ ap₂ append (rw u at ga) (rw x at gb)) j (ap (λ (y : ℕ). top + y) z)

  no_terms : (x : Expr) → terms x ≡ 0 → x ≡ nothing
  no_terms nothing q = refl
  no_terms (symbol c r) q = absurd (omega arith)
  no_terms (parens i r) q = absurd (omega arith)

  -- two registers that are not empty
  cells_act : (d a b : ℕ) → Others F ws e d → meaning ws a ≡ e a → meaning ws b ≡ e b → d < F → a < F → b < F
      → (x y : Cell) → at ws a ≡ x → at ws b ≡ y → BracketIn F top x → BracketIn F top y
      → 0 < size x → 0 < size y → 2 * (top + (size x + size y)) ≤ length ws → (j : ℕ) → size x + size y ≡ j
      → Acts F e (does JOIN e fs d a b) j ws top (new_run_of d x y ws top)
  cells_act d a b g ga gb h ha hb (code i) y u v t t' z z' q j n = absurd t
  cells_act d a b g ga gb h ha hb empty y u v t t' z z' q j n = absurd (not-suc-le-zero z)
  cells_act d a b g ga gb h ha hb (ends l r) (code i) u v t t' z z' q j n = absurd t'
  cells_act d a b g ga gb h ha hb (ends l r) empty u v t t' z z' q j n = absurd (not-suc-le-zero z')
  cells_act d a b g ga gb h ha hb (ends l r) (ends l' r') u v t t' z z' q j n =
      run_acts l r l' r' t t' q d a b g ga gb h ha hb u v j n

  -- JOIN, by which of a and b are empty
  module _ (d a b : ℕ) (m : Others F ws e d) (ma : meaning ws a ≡ e a) (mb : meaning ws b ≡ e b) (l : d < F)
      (ha : a < F) (hb : b < F) where
    za : size (at ws a) ≡ terms (e a)
    za = size_terms F ws top p s a ha ∙ ap terms ma

    zb : size (at ws b) ≡ terms (e b)
    zb = size_terms F ws top p s b hb ∙ ap terms mb

    pub join_left_acts : size (at ws a) ≡ 0 → Acts F e (does JOIN e fs d a b) 0 ws top (share d b ws top)
    unfolding share
    join_left_acts y =
        let z : terms (e a) ≡ 0 = omega (arith, za) in
        rw (copy_put F ws top d b p s (le_trans hb s.low))
        (set_acts F p e ws top s 0 (join_need (terms (e a)) (terms (e b))) d refl m l (at ws b)
        ((good F ws top p s).regs b hb) (append (e a) (e b))
        (rw (no_terms (e a) z) (sym (meaning_at F ws top p s b) ∙ mb)))

    pub join_right_acts : size (at ws b) ≡ 0 → Acts F e (does JOIN e fs d a b) 0 ws top (share d a ws top)
    unfolding share
    join_right_acts y =
        let z : terms (e b) ≡ 0 = omega (arith, zb) in
        rw (copy_put F ws top d a p s (le_trans ha s.low))
        (set_acts F p e ws top s 0 (join_need (terms (e a)) (terms (e b))) d refl m l (at ws a)
        ((good F ws top p s).regs a ha) (append (e a) (e b))
        (rw (no_terms (e b) z, append_nothing (e a)) (sym (meaning_at F ws top p s a) ∙ ma)))

    pub join_both_acts : 0 < size (at ws a) → 0 < size (at ws b) → (j : ℕ) → size (at ws a) + size (at ws b) ≡ j
        → 2 * (top + j) ≤ length ws
        → Acts F e (does JOIN e fs d a b) j ws top (new_run d a b ws top)
    unfolding new_run
    join_both_acts x y j n r =
        cells_act d a b m ma mb l ha hb (at ws a) (at ws b) refl refl ((good F ws top p s).regs a ha)
        ((good F ws top p s).regs b hb) x y (omega arith) j n
