-- Printing: every answer is from its table, no second one is, and a print goes by what the register denotes. In order:
--   print_answers   the claim, by whether the store is sound, the register there, and what its text meets
--   prints_once     one verdict;  one_print  one answer
--   prints_alike, collections_unprinted, alike_printed   stores that print alike
-- Assumes nothing.
use mathlib.Core.Path.{◌≡◌, refl, sym, ap, ◌∙◌}
use mathlib.Core.Logic.{◌⊎◌, inl, inr, ◌≢◌}
use mathlib.Core.List.{List, [], ◌∷◌}
use Prim.Native.Nat.{ℕ, zero, suc, ◌-◌, ◌≤◌, ◌<◌}
use native.Mathlib.Omega.{arith}
use lib.ListN.{replicate}
use Rattle.octets.specs.Space.{filled}
use Rattle.octets.proofs.Final.{filled_fits}
use Rattle.meaning.specs.Limits.{depth_limit}
use Rattle.meaning.specs.Sound.{Sound}
use Rattle.meaning.specs.Meaning.{meaning}
use Rattle.meaning.specs.Reach.{live}
use Rattle.meaning.specs.Collected.{collected, collected_top}
use Rattle.meaning.specs.Verdicts.{Verdict, only, Done, done}
use Rattle.meaning.specs.Check.{check}
use Rattle.meaning.specs.Text.{text, trouble, Printed, unprinted, printed, print_in}
use Rattle.meaning.proofs.Lists.{lt_or_ge}
use Rattle.meaning.proofs.check.Checking.{check_sound, sound_check}
use Rattle.meaning.proofs.text.Printing.{print_register, print_none, print_unsound, whole, troubled}
use Rattle.promises.specs.Table.{OneOf, Judged}
use Rattle.promises.specs.Collecting.{CollectedFrom}
use Rattle.promises.specs.Printing.{Meets, deep, long, fits, PrintedAs, unsound, no_register, written, PrintTable}
use Rattle.promises.specs.Printing.{PrintAnswers, PrintsAlike, CollectionsUnprinted, AlikePrinted}
use Rattle.promises.specs.Unique.{OnePrint}
use Rattle.promises.proofs.table.Rules.{judged, judged_number, judged_zero}
use Rattle.promises.proofs.unique.Outcomes.{judged_once}
use Rattle.promises.proofs.collecting.Keeping.{collecting_keeps}
use Rattle.promises.proofs.alike.Alikes.{collect_sound, alike_is_collected}
use Rattle.promises.proofs.printing.Meeting.{meets, met_once}

pub zeros : (n : ℕ) → filled n [] ≡ replicate n 0
zeros n = let z : n - 0 ≡ n = omega arith in filled_fits n [] (omega arith) ∙ rw z refl

module _ (F : ℕ) (ws : List ℕ) (top i n : ℕ) where
  -- a refusal
  refusal : (v : Verdict) → OneOf v.status (0 ∷ 1 ∷ 2 ∷ 3 ∷ 20 ∷ 21 ∷ 22 ∷ [])
      → (v.status ≢ 3 → (v.value ≡ 0) × (v.rule ≡ 0)) → v.status ≢ 0 → PrintedAs F ws top i n v
      → PrintTable F ws top i n (unprinted v n)
  refusal v o e z p = record {
    number = o;
    value = λ h. (e h).0;
    rule = λ h. (e h).1;
    prints = p;
    whole = λ h. absurd (z h);
    refused = λ h. (refl, zeros n);
  }

  -- what becomes of the register's text
  text_table : Sound F ws top → i < F → (s : ℕ) → trouble depth_limit n (text (meaning ws i)) ≡ s
      → Meets depth_limit n (text (meaning ws i)) s → PrintTable F ws top i n (printed (text (meaning ws i)) n)
  text_table k h s q (deep j l m g) =
      rw (troubled (text (meaning ws i)) n q)
      (refusal (only 21) (inr (inr (inr (inr (inr (inl refl)))))) (λ _. (refl, refl)) (λ z. omega arith)
      (written 21 k h (deep j l m g)))
  text_table k h s q (long l g) =
      rw (troubled (text (meaning ws i)) n q)
      (refusal (only 22) (inr (inr (inr (inr (inr (inr (inl refl))))))) (λ _. (refl, refl)) (λ z. omega arith)
      (written 22 k h (long l g)))
  text_table k h s q (fits l g) =
      rw (whole (text (meaning ws i)) n q) (record {
        number = inl refl;
        value = λ _. refl;
        rule = λ _. refl;
        prints = written 0 k h (fits l g);
        whole = λ _. (refl, filled_fits n (text (meaning ws i)) l);
        refused = λ z. absurd (z refl);
      })

  sound_table : Sound F ws top → (i < F) ⊎ (F ≤ i) → PrintTable F ws top i n (print_in F ws top i n)
  sound_table k (inl h) =
      rw (print_register F ws top i n k h)
      (text_table k h (trouble depth_limit n (text (meaning ws i))) refl (meets depth_limit n (text (meaning ws i))))
  sound_table k (inr h) =
      rw (print_none F ws top i n k h)
      (refusal (only 20) (inr (inr (inr (inr (inl refl))))) (λ _. (refl, refl)) (λ z. omega arith) (no_register k h))

  unsound_table : (check F ws top).status ≢ 0 → PrintTable F ws top i n (print_in F ws top i n)
  unsound_table z =
      let j = judged F ws top in
      rw (print_unsound F ws top i n z)
      (refusal (check F ws top) (judged_number F ws top (20 ∷ 21 ∷ 22 ∷ []) (check F ws top) j)
      (judged_zero F ws top (check F ws top) j) z (unsound (check F ws top) j z))

pub print_answers : PrintAnswers
print_answers F ws top i n = go (check F ws top).status refl
  where
    go : (s : ℕ) → (check F ws top).status ≡ s → PrintTable F ws top i n (print_in F ws top i n)
    go zero e = sound_table F ws top i n (check_sound F ws top e) (lt_or_ge i F)
    go (suc s) e = unsound_table F ws top i n (λ z. omega arith)

-- ---- one answer

module _ (F : ℕ) (ws : List ℕ) (top i n : ℕ) where
  not_sound : (v : Verdict) → Judged F ws top v → v.status ≢ 0 → Sound F ws top → ⊥
  not_sound v j z k =
      let e = judged_once F ws top v (check F ws top) j (judged F ws top) in
      z (ap (λ (x : Verdict). x.status) (e ∙ sound_check F ws top k))

  prints_once : (v w : Verdict) → PrintedAs F ws top i n v → PrintedAs F ws top i n w → v ≡ w
  prints_once v w (unsound _ j z) (unsound _ j' z') = judged_once F ws top v w j j'
  prints_once v w (unsound _ j z) (no_register k h) = absurd (not_sound v j z k)
  prints_once v w (unsound _ j z) (written s k h m) = absurd (not_sound v j z k)
  prints_once v w (no_register k h) (unsound _ j z) = absurd (not_sound w j z k)
  prints_once v w (no_register k h) (no_register k' h') = refl
  prints_once v w (no_register k h) (written s k' h' m) = absurd (omega arith)
  prints_once v w (written s k h m) (unsound _ j z) = absurd (not_sound w j z k)
  prints_once v w (written s k h m) (no_register k' h') = absurd (omega arith)
  prints_once v w (written s k h m) (written s' k' h' m') =
      ap only (met_once depth_limit n (text (meaning ws i)) s s' m m')

printed_parts : (r q : Printed) → r.verdict ≡ q.verdict → r.size ≡ q.size → r.space ≡ q.space → r ≡ q
printed_parts r q e f g = rw (e, f, g) refl

pub one_print : OnePrint
one_print F ws top i n r q a b = go r.verdict.status refl
  where
    e : r.verdict ≡ q.verdict
    e = prints_once F ws top i n r.verdict q.verdict a.prints b.prints

    both : (m : ℕ) (x : List ℕ) → (r.size ≡ m) × (r.space ≡ x) → (q.size ≡ m) × (q.space ≡ x) → r ≡ q
    both m x u v = printed_parts r q e (u.0 ∙ sym v.0) (u.1 ∙ sym v.1)

    go : (s : ℕ) → r.verdict.status ≡ s → r ≡ q
    go zero z = both _ _ (a.whole z) (b.whole (sym (ap (λ (v : Verdict). v.status) e) ∙ z))
    go (suc s) z =
        both _ _ (a.refused (λ h. omega arith))
        (b.refused (λ h. let k = ap (λ (v : Verdict). v.status) e in omega arith))

-- ---- stores that print alike

pub prints_alike : PrintsAlike
unfolding print_in
prints_alike F ws top ws' top' i n s s' e = rw (sound_check F ws top s, sound_check F ws' top' s', e) refl

pub collections_unprinted : CollectionsUnprinted
collections_unprinted F p ws top i n s = go (lt_or_ge i F)
  where
    k : CollectedFrom F ws top (collected F ws top)
    k = collecting_keeps F p ws top s

    go : (i < F) ⊎ (F ≤ i) → print_in F (collected F ws top) (collected_top F ws top) i n ≡ print_in F ws top i n
    go (inl h) =
        prints_alike F (collected F ws top) (collected_top F ws top) ws top i n k.sound s (k.expressions i h)
    go (inr h) =
        print_none F (collected F ws top) (collected_top F ws top) i n k.sound h ∙ sym (print_none F ws top i n s h)

pub alike_printed : AlikePrinted
alike_printed F p ws top ws' top' i n s s' c a =
    let e = (alike_is_collected F p ws top ws' top' s s' c).0 a in
    let f : done (collected F ws top) (collected_top F ws top) (live F ws top)
    ≡ done (collected F ws' top') (collected_top F ws' top') (live F ws' top') =
    sym (collect_sound F ws top s) ∙ (e ∙ collect_sound F ws' top' s') in
    sym (collections_unprinted F p ws top i n s)
    ∙ (ap (λ (d : Done). print_in F d.words d.top i n) f ∙ collections_unprinted F p ws' top' i n s')
