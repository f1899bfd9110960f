-- A controller swap: saved and loaded, loaded and saved. In order:
--   saved_sound, saved_fits                        what a good save tells: a sound store, and room for its file
--   saved_loads, loaded_is_sound, loaded_saves     the claims
-- Assumes nothing.
use mathlib.Core.Path.{◌≡◌, refl, sym, ap, ◌∙◌}
use mathlib.Core.Logic.{◌⊎◌, inl, inr, ◌≢◌}
use mathlib.Core.List.{List, ◌++◌}
use Prim.Native.Nat.{ℕ, zero, suc, ◌-◌, ◌*◌, ◌+◌, ◌≤◌, ◌<◌}
use native.Mathlib.Omega.{arith}
use lib.ListN.{length, take, replicate, length-drop}
use lib.Seq.{take_at}
use Rattle.meaning.specs.Sound.{Sound, capacity}
use Rattle.meaning.specs.Meaning.{meaning}
use Rattle.meaning.specs.Collected.{collected, collected_top}
use Rattle.meaning.specs.Verdicts.{Done, done}
use Rattle.meaning.specs.Check.{check}
use Rattle.meaning.specs.File.{first_of, file_of, file_distance, file_edition, body, load_in, save_in}
use Rattle.meaning.proofs.Lists.{lt_or_ge}
use Rattle.meaning.proofs.check.Checking.{check_sound}
use Rattle.meaning.proofs.collected.Collecting.{collected_sound, length_collected, meaning_kept}
use Rattle.meaning.proofs.collected.Again.{live_kept}
use Rattle.meaning.proofs.collected.Whole.{collected_again}
use Rattle.meaning.proofs.file.Swapping as swapping
use Rattle.promises.specs.Alike.{Alike}
use Rattle.promises.specs.Swap.{SavedLoads, LoadedIsSound, LoadedSaves}
use Rattle.promises.proofs.alike.Alikes.{collect_sound, alike_is_collected}
use Rattle.promises.proofs.files.Saving.{save_unsound, long, save_short, save_fits}

module _ (e F : ℕ) (p : 0 < F) (ws : List ℕ) (top n : ℕ) (good : (save_in e F ws top n).verdict.status ≡ 0) where
  abbrev bs : List ℕ
  bs = file_of e F (collected F ws top) (collected_top F ws top)

  saved_sound : Sound F ws top
  saved_sound = go (check F ws top).status refl
    where
      go : (t : ℕ) → (check F ws top).status ≡ t → Sound F ws top
      go zero q = check_sound F ws top q
      go (suc t) q =
          let z : (check F ws top).status ≢ 0 = λ y. omega arith in
          absurd (z (rw (save_unsound e F p ws top n (check F ws top) refl z) at good))

  saved_fits : length bs ≤ n
  saved_fits = go (lt_or_ge n (length bs))
    where
      go : (n < length bs) ⊎ (length bs ≤ n) → length bs ≤ n
      go (inr h) = h
      go (inl h) =
          let s = saved_sound in
          let l : n < 8 * collected_top F ws top + 16 = omega (arith, long e F p ws top n s) in
          let q : ◌≡◌ {A = ℕ} 22 0 = rw (save_short e F p ws top n s l) at good in
          absurd (omega arith)

-- a store and its collection
collected_alike : (F : ℕ) → 0 < F → (ws : List ℕ) (top : ℕ) → Sound F ws top
    → Alike F ws top (collected F ws top) (collected_top F ws top)
collected_alike F p ws top s =
    let low = collected F ws top in
    let end = collected_top F ws top in
    let s' = collected_sound F ws top p s in
    let c : capacity ws ≡ capacity low = rw (length_collected F ws top p s) refl in
    (alike_is_collected F p ws top low end s s' c).1
    (collect_sound F ws top s
    ∙ sym (collect_sound F low end s' ∙ rw (collected_again F ws top p s, live_kept F ws top p s) refl))

pub saved_loads : SavedLoads
saved_loads e F p k ws top n pre lent good len =
    let s = saved_sound e F p ws top n good in
    let low = collected F ws top in
    let end = collected_top F ws top in
    let xs = file_of e F low end in
    let w = save_fits e F p ws top n s (saved_fits e F p ws top n good) in
    let x : take (length xs) (xs ++ replicate (n - length xs) 0) ≡ xs =
    take_at xs (replicate (n - length xs) 0) (length xs) refl in
    let back : load_in (pre ++ xs) lent ≡ done low end 0 = swapping.saved_loads e F ws top p k s pre lent len in
    rw (w, x) (record {
      loaded = back;
      words = ap (λ (d : Done). d.words) back;
      tops = ap (λ (d : Done). d.top) back;
      registers = λ i g. ap (λ (d : Done). meaning d.words i) back ∙ meaning_kept F ws top p s i g;
      alike = rw back (collected_alike F p ws top s);
    })

pub loaded_is_sound : LoadedIsSound
loaded_is_sound bs lent h = let a = swapping.loaded_from bs lent h in (a.sound, a.same, a.stays)

pub loaded_saves : LoadedSaves
loaded_saves bs lent n b h room =
    let a = swapping.loaded_from bs lent h in
    let e = file_edition bs in
    let F = first_of (file_edition bs) in
    let ws = (load_in bs lent).words in
    let top = (load_in bs lent).top in
    let d : length (body bs) ≡ file_distance bs =
    omega (arith, length-drop (length bs - file_distance bs) bs, a.within) in
    let f : file_of e F (collected F ws top) (collected_top F ws top) ≡ body bs = rw (a.same, a.stays) (a.bytes b) in
    let w = save_fits e F a.positive ws top n a.sound (rw f (omega arith)) in
    rw (w, f, d) (record { verdict = refl; words = a.same; tops = a.stays; size = refl; bytes = refl })
