-- What saving leaves, from what is written and from the answer of collecting. In order:
--   heap_cut, regs_cut, write_file    the file of a store, part by part: where a part does not fit, and where all do
--   collected_is, uncollected_is      what collecting answers: for a sound store, and for any other
--   write_unsound                     saving an unsound store
--   left_sound                        a sound one, once it is collected
--   write_short_space, write_saved    saving it: the space is short, or has the file
-- Assumes nothing.
use mathlib.Core.Path.{◌≡◌, refl, sym, ap, ◌∙◌}
use mathlib.Core.Logic.{◌⊎◌, inl, inr}
use mathlib.Core.Bool.{true, false, true≢false}
use mathlib.Core.List.{List, [], ◌∷◌, ◌++◌}
use Prim.Native.Nat.{ℕ, zero, suc, ◌+◌, ◌-◌, ◌*◌, ◌≤◌, ◌<◌}
use native.Mathlib.Omega.{arith}
use lib.Dec.{eqb}
use lib.ListN.{length, take, drop}
use lib.Seq.{take_at}
use borrow.Author.Tests.{le-leb, lt-leb, eqb-false}
use Rattle.std.specs.Prelude.{Result, Ok, Err}
use Rattle.std.specs.Result.{is_ok}
use Rattle.octets.specs.Space.{Space, blank, write}
use Rattle.octets.specs.Places.{space}
use Rattle.octets.specs.declared.writing.Full.{Full}
use Rattle.octets.specs.Little.{bytes_of}
use Rattle.octets.proofs.Spaces.{write_then, write_cut, write_short, place_fits}
use Rattle.meaning.specs.Limits.{first_heap_cell, edition}
use Rattle.meaning.specs.Sound.{Sound, capacity}
use Rattle.meaning.specs.Reach.{live}
use Rattle.meaning.specs.Collected.{collected, collected_top}
use Rattle.meaning.specs.Verdicts.{Verdict, Done, done, refused, on_zero}
use Rattle.meaning.specs.Check.{check, collect_in}
use Rattle.meaning.specs.File as file
use Rattle.meaning.specs.File.{file_of, saved_as, save_in}
use Rattle.meaning.proofs.Lists.{lt_or_ge}
use Rattle.meaning.proofs.collected.Collecting.{collected_sound}
use Rattle.meaning.proofs.check.Checking.{sound_check, check_sound}
use Rattle.meaning.proofs.file.Written.{file_parts}
use Rattle.store.specs.Answers.{refusal_of}
use Rattle.store.specs.declared.Unsound.{Unsound}
use Rattle.store.proofs.Refusals.{refusal_by}
use Rattle.store.proofs.Sounds.{found_refused}
use Rattle.file.specs.Written.{Writes}
use Rattle.file.specs.declared.NotSaved.TheVariants as not_saved

-- ---- the file of a store, part by part

module _ (e F : ℕ) (ws : List ℕ) (top : ℕ) (s : Sound F ws top) where
  abbrev heap : List ℕ
  heap = bytes_of (take (2 * top - 2 * F) (drop (2 * F) ws))

  abbrev regs : List ℕ
  regs = bytes_of (take (2 * F) ws)

  abbrev tail : List ℕ
  tail = bytes_of ((8 * top + 16) ∷ (top - F) ∷ capacity ws ∷ e ∷ [])

  parts : heap ++ (regs ++ tail) ≡ file_of e F ws top
  parts =
      let k : 2 * (top - F) ≡ 2 * top - 2 * F = omega arith in
      let d : 8 * (top - F + F) + 16 ≡ 8 * top + 16 = omega (arith, s.low) in
      sym (file_parts e F ws top s ∙ rw (k, d) refl)

  module _ (first : Space) where
    whole : write (heap ++ (regs ++ tail)) first ≡ write (file_of e F ws top) first
    whole = ap (λ (xs : List ℕ). write xs first) parts

    pub heap_cut : (t : Space) → t.short ≡ true → t ≡ write (bytes_of (take (2 * top - 2 * F) (drop (2 * F) ws))) first
        → t ≡ write (file_of e F ws top) first
    heap_cut t h p = write_cut heap (regs ++ tail) first t (write (file_of e F ws top) first) h p whole

    module _ (next : Space) (p : next ≡ write (bytes_of (take (2 * top - 2 * F) (drop (2 * F) ws))) first) where
      pub regs_cut : (t : Space) → t.short ≡ true → t ≡ write (bytes_of (take (2 * F) ws)) next
          → t ≡ write (file_of e F ws top) first
      regs_cut t h q =
          write_cut regs tail next t (write (file_of e F ws top) first) h q
          (write_then heap (regs ++ tail) first next (write (regs ++ tail) next) p refl ∙ whole)

      pub write_file : (last end : Space) → last ≡ write (bytes_of (take (2 * F) ws)) next
          → end ≡ write (bytes_of ((8 * top + 16) ∷ (top - F) ∷ capacity ws ∷ e ∷ [])) last
          → end ≡ write (file_of e F ws top) first
      write_file last end q r =
          write_then heap (regs ++ tail) first next end p (write_then regs tail next last end q r) ∙ whole

-- ---- what collecting answers

module _ (F : ℕ) (ws : List ℕ) (top : ℕ) (v : List ℕ) where
  pub collected_is : (t l : ℕ) → done v t l ≡ collect_in F ws top
      → Sound F ws top × (v ≡ collected F ws top) × (t ≡ collected_top F ws top)
  unfolding collect_in
  collected_is t l = go (check F ws top).status refl
    where
      go : (s : ℕ) → (check F ws top).status ≡ s
          → done v t l
          ≡ on_zero s (done (collected F ws top) (collected_top F ws top) (live F ws top))
          (refused ws top (check F ws top))
          → Sound F ws top × (v ≡ collected F ws top) × (t ≡ collected_top F ws top)
      go zero p q = (
        check_sound F ws top p,
        ap (λ (d : Done). d.words) q,
        ap (λ (d : Done). d.top) q,
      )
      go (suc s) p q = let z : 0 ≡ suc s = ap (λ (d : Done). d.verdict.status) q ∙ p in absurd (omega arith)

  pub uncollected_is : (u : Unsound) → refused v top (refusal_of u) ≡ collect_in F ws top
      → (v ≡ ws) × (refusal_of u ≡ check F ws top)
  unfolding collect_in
  uncollected_is u = go (check F ws top).status refl
    where
      go : (s : ℕ) → (check F ws top).status ≡ s
          → refused v top (refusal_of u)
          ≡ on_zero s (done (collected F ws top) (collected_top F ws top) (live F ws top))
          (refused ws top (check F ws top))
          → (v ≡ ws) × (refusal_of u ≡ check F ws top)
      go zero p q =
          let z : eqb (refusal_of u).status 0 ≡ false = refusal_by (λ (s : ℕ). eqb s 0) false refl refl refl u in
          absurd (eqb-false (refusal_of u).status 0 z (ap (λ (d : Done). d.verdict.status) q))
      go (suc s) p q = (ap (λ (d : Done). d.words) q, ap (λ (d : Done). d.verdict) q)

-- ---- what saving answers, before the space after the file is cleared

-- an unsound store
pub write_unsound : (ws : List ℕ) (top : ℕ) (out v : List ℕ) (u : Unsound)
    → refused v top (refusal_of u) ≡ collect_in first_heap_cell ws top
    → Writes ws top out (Err (not_saved.Unsound u)) v out
unfolding save_in
write_unsound ws top out v u e =
    let q = uncollected_is first_heap_cell ws top v u e in
    rw q.0
    (found_refused first_heap_cell ws top u _ (λ (x : Verdict). file.unsaved x ws top (length out)) q.1)

-- a sound one is collected: the words v with the new `top` t
module _ (ws : List ℕ) (top : ℕ) (out v : List ℕ) (t l : ℕ)
    (c : done v t l ≡ collect_in first_heap_cell ws top) where
  kept : Sound first_heap_cell ws top × (v ≡ collected first_heap_cell ws top)
      × (t ≡ collected_top first_heap_cell ws top)
  kept = collected_is first_heap_cell ws top v t l c

  pub left_sound : Sound first_heap_cell v t
  left_sound = rw (kept.1, kept.2) (collected_sound first_heap_cell ws top (omega arith) kept.0)

  abbrev xs : List ℕ
  xs = file_of edition first_heap_cell v t

  saving : save_in edition first_heap_cell ws top (length out)
      ≡ saved_as (file_of edition first_heap_cell v t) v t (length out)
  unfolding save_in
  saving = rw (sound_check first_heap_cell ws top kept.0, kept.1, kept.2) refl

  -- its file is written into the space, which becomes out'
  module _ (out' : List ℕ) (r : Result ℕ Full)
      (e : space out' r ≡ write (file_of edition first_heap_cell v t) (blank out)) where
    -- what did not fit is too long, and what did is not
    over : is_ok r ≡ false → length out < length xs
    over h = go (lt_or_ge (length out) (length xs))
      where
        go : (length out < length xs) ⊎ (length xs ≤ length out) → length out < length xs
        go (inl i) = i
        go (inr i) =
            let f = place_fits xs out out' r i e in
            absurd (true≢false (ap (λ (x : Result ℕ Full). is_ok x) (sym f.0) ∙ h))

    within : (m : ℕ) → r ≡ Ok m → length xs ≤ length out
    within m h = go (lt_or_ge (length out) (length xs))
      where
        go : (length out < length xs) ⊎ (length xs ≤ length out) → length xs ≤ length out
        go (inl i) =
            let s : (space out' (Ok m)).short ≡ true = ap (λ (x : Space). x.short) (rw h at e) ∙ write_short xs out i in
            absurd (true≢false (sym s))
        go (inr i) = i

    pub write_short_space : is_ok r ≡ false → Writes ws top out (Err (not_saved.ShortSpace t)) v out'
    unfolding saved_as
    write_short_space h = rw (saving, lt-leb (length xs) (length out) (over h)) refl

    pub write_saved : (m : ℕ) → r ≡ Ok m → Writes ws top out (Ok (record { top = t; length = m })) v out'
    unfolding saved_as
    write_saved m h =
        let i = within m h in
        let f = place_fits xs out out' r i e in
        let k : m ≡ length xs = cc in
        let w : take (length xs) out' ≡ xs = rw f.1 (take_at xs (drop (length xs) out) (length xs) refl) in
        rw (saving, le-leb (length xs) (length out) i, k, w) refl
