-- A store saved: every answer is from its table, and no second one is. In order:
--   save_unsound, save_short, save_fits   what is left, by the check and by the space
--   save_answers, one_save                the claims
-- Assumes nothing.
use mathlib.Core.Path.{◌≡◌, refl, sym, ◌∙◌}
use mathlib.Core.Logic.{◌⊎◌, inl, inr, ◌≢◌}
use mathlib.Core.List.{List, [], ◌∷◌, ◌++◌}
use Prim.Native.Nat.{ℕ, zero, suc, ◌+◌, ◌-◌, ◌*◌, ◌≤◌, ◌<◌}
use native.Mathlib.Omega.{arith}
use lib.ListN.{length, get_or, replicate}
use borrow.Author.Tests.{le-leb, lt-leb}
use Rattle.octets.proofs.Final.{filled_fits}
use Rattle.octets.proofs.Filling.{padded_at}
use Rattle.meaning.specs.Sound.{Sound}
use Rattle.meaning.specs.Reach.{live}
use Rattle.meaning.specs.Collected.{collected}
use Rattle.meaning.specs.Verdicts.{Verdict, only}
use Rattle.meaning.specs.Check.{check}
use Rattle.meaning.specs.File.{file_of, Saved, unsaved, saved_as, save_in}
use Rattle.meaning.proofs.Lists.{lt_or_ge}
use Rattle.meaning.proofs.check.Checking.{on_zero_no, check_sound, sound_check}
use Rattle.meaning.proofs.collected.Collecting.{collected_sound}
use Rattle.meaning.proofs.file.Written.{file_bytes}
use Rattle.promises.specs.Files.{SavedAs, unsound, short_space, saved, SaveTable, SaveAnswers}
use Rattle.promises.specs.Unique.{OneSave}
use Rattle.promises.proofs.table.Rules.{judged, judged_number, judged_zero}
use Rattle.promises.proofs.unique.Outcomes.{judged_once, one_collected}
use Rattle.promises.proofs.collecting.Keeping.{collecting_keeps}
use Rattle.promises.proofs.printing.Printed.{zeros}
use Rattle.promises.proofs.files.Words.{file_in_words, one_file}

module _ (e F : ℕ) (p : 0 < F) (ws : List ℕ) (top n : ℕ) where
  abbrev low : List ℕ
  low = collected F ws top

  abbrev end : ℕ
  end = F + live F ws top

  abbrev bs : List ℕ
  bs = file_of e F (collected F ws top) (F + live F ws top)

  pub save_unsound : (v : Verdict) → check F ws top ≡ v → v.status ≢ 0
      → save_in e F ws top n ≡ record { verdict = v; words = ws; top = top; size = 0; space = replicate n 0 }
  unfolding save_in
  save_unsound v q z = rw q (on_zero_no v.status (saved_as bs low end n) (unsaved v ws top n) z ∙ rw (zeros n) refl)

  module _ (s : Sound F ws top) where
    pub long : length bs ≡ 8 * end + 16
    long = file_bytes e F low end (collected_sound F ws top p s)

    pub save_short : n < 8 * end + 16
        → save_in e F ws top n
        ≡ record { verdict = only 22; words = low; top = end; size = 0; space = replicate n 0 }
    unfolding save_in saved_as
    save_short h =
        rw (sound_check F ws top s, lt-leb (length bs) n (omega (arith, long)), zeros n) refl

    pub save_fits : length bs ≤ n
        → save_in e F ws top n
        ≡ record {
          verdict = only 0;
          words = low;
          top = end;
          size = length bs;
          space = bs ++ replicate (n - length bs) 0;
        }
    unfolding save_in saved_as
    save_fits h = rw (sound_check F ws top s, le-leb (length bs) n h, filled_fits n bs h) refl

  -- ---- every answer is from its table

  sound_table : Sound F ws top → (length bs ≤ n) ⊎ (n < length bs) → SaveTable e F ws top n (save_in e F ws top n)
  sound_table s (inl h) =
      rw (save_fits s h) (record {
        number = inl refl;
        value = λ _. refl;
        rule = λ _. refl;
        refused = λ z. absurd (z refl);
        saves = saved s low (collecting_keeps F p ws top s) bs
            (file_in_words e F low end (collected_sound F ws top p s)) h;
      })
  sound_table s (inr h) =
      let l : n < 8 * end + 16 = omega (arith, long s) in
      rw (save_short s l) (record {
        number = inr (inr (inr (inr (inl refl))));
        value = λ _. refl;
        rule = λ _. refl;
        refused = λ _. (refl, refl);
        saves = short_space s l low (collecting_keeps F p ws top s);
      })

  unsound_table : (check F ws top).status ≢ 0 → SaveTable e F ws top n (save_in e F ws top n)
  unsound_table z =
      let v = check F ws top in
      let j = judged F ws top in
      rw (save_unsound v refl z) (record {
        number = judged_number F ws top (22 ∷ []) v j;
        value = λ o. (judged_zero F ws top v j o).0;
        rule = λ o. (judged_zero F ws top v j o).1;
        refused = λ _. (refl, refl);
        saves = unsound v j z;
      })

  table : SaveTable e F ws top n (save_in e F ws top n)
  table = go (check F ws top).status refl
    where
      fit : (n < length bs) ⊎ (length bs ≤ n) → (length bs ≤ n) ⊎ (n < length bs)
      fit (inl h) = inr h
      fit (inr h) = inl h

      go : (t : ℕ) → (check F ws top).status ≡ t → SaveTable e F ws top n (save_in e F ws top n)
      go zero q = sound_table (check_sound F ws top q) (fit (lt_or_ge n (length bs)))
      go (suc t) q = unsound_table (λ z. omega arith)

  -- ---- and no other answer is

  saved_once : (r : Saved) → ((i : ℕ) → get_or r.space i 0 < 256) → SavedAs e F ws top n r → save_in e F ws top n ≡ r
  saved_once r b (unsound v j z) =
      save_unsound v (judged_once F ws top (check F ws top) v (judged F ws top) j) z
  saved_once r b (short_space s h w c) = save_short s h ∙ rw (one_collected F p ws top s w c) refl
  saved_once r b (saved s w c xs i h) =
      let q = one_collected F p ws top s w c in
      let t = collected_sound F ws top p s in
      let x : xs ≡ bs =
      one_file e F low end xs t (λ k. rw (← padded_at xs (n - length xs) k) (b k)) (rw q at i) in
      save_fits s (rw x at h) ∙ rw (q, x) refl

pub save_answers : SaveAnswers
save_answers e F p ws top n = table e F p ws top n

pub one_save : OneSave
one_save e F p ws top n r q b b' t t' =
    sym (saved_once e F p ws top n r b t.saves) ∙ saved_once e F p ws top n q b' t'.saves
