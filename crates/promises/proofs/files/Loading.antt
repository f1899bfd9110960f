-- A file loaded: every answer is from its table, and no second one is. In order:
--   load_refused, load_taken   what is left, by the verdict
--   image_store                the store in a file
--   load_answers, one_load     the claims
-- Assumes nothing.
use mathlib.Core.Path.{◌≡◌, refl, sym, subst, ◌∙◌}
use mathlib.Core.Logic.{◌⊎◌, inl, inr, ◌≢◌}
use mathlib.Core.Bool.{Bool, true, false, cond}
use mathlib.Core.List.{List, [], ◌∷◌}
use Prim.Native.Nat.{ℕ, ◌+◌, ◌-◌, ◌*◌, ◌≤◌, ◌<◌}
use native.Mathlib.Omega.{arith}
use lib.Dec.{eqb}
use lib.ListN.{length, get_or, get_or-eq_default}
use borrow.Author.Tests.{eqb-true, eqb-false, eq-eqb, ne_eqb}
use Rattle.words.specs.Cell.{first_word, second_word}
use Rattle.octets.specs.Little.{words_of}
use Rattle.octets.proofs.Filling.{padded_at}
use Rattle.meaning.specs.Sound.{Allowed, Sound}
use Rattle.meaning.specs.Reach.{live}
use Rattle.meaning.specs.Verdicts.{Verdict, only, damaged_at, Done, done, refused}
use Rattle.meaning.specs.Check.{check}
use Rattle.meaning.specs.File.{first_of, file_cells, file_capacity, file_edition, body, cells_in, image, distance_test}
use Rattle.meaning.specs.File.{capacity_test, check_store, check_as, check_file, load_in}
use Rattle.meaning.proofs.Lists.{lt_or_ge}
use Rattle.meaning.proofs.Counting.{refuted}
use Rattle.meaning.proofs.check.Checking.{on_zero_no, sound_check}
use Rattle.meaning.proofs.collected.Held.{reached_all, all_whole}
use Rattle.meaning.proofs.file.Accepted.{Framed, body_long, occupied, image_is, image_long, distance_yes, yes_distance}
use Rattle.meaning.proofs.file.Accepted.{capacity_yes, yes_capacity, as_edition, as_distance, as_capacity, as_slice}
use Rattle.meaning.proofs.file.Accepted.{as_store, checked_short, checked_long}
use Rattle.meaning.proofs.file.Swapping.{words_again}
use Rattle.promises.specs.Table.{OneOf, Not, rules, FirstOf, TopRule, Judged, bad_length, bad_top, bad_cell, is_sound}
use Rattle.promises.specs.Files.{StoreIn, AllReached, Passed, LoadedAs, short_file, bad_edition, bad_distance}
use Rattle.promises.specs.Files.{bad_capacity, wrong_slice, damaged, not_collected, loaded, LoadTable, LoadAnswers}
use Rattle.promises.specs.Unique.{OneLoad}
use Rattle.promises.proofs.table.Rules.{judged}
use Rattle.promises.proofs.unique.Outcomes.{judged_once}
use Rattle.promises.proofs.files.Words.{is_file, store_once}

no : (t : Bool) → Not (t ≡ true) → t ≡ false
no true z = absurd (z refl)
no false z = refl

module _ (bs ws : List ℕ) where
  abbrev f : ℕ
  f = first_of (file_edition bs)

  abbrev top : ℕ
  top = first_of (file_edition bs) + file_cells bs

  abbrev v : List ℕ
  v = image (first_of (file_edition bs)) bs

  load_refused : (s : Verdict) → check_file bs (length ws) ≡ s → s.status ≢ 0 → load_in bs ws ≡ refused ws 0 s
  unfolding load_in
  load_refused s e z = rw (e, on_zero_no s.status v ws z, on_zero_no s.status top 0 z) refl

  load_taken : check_file bs (length ws) ≡ only 0 → load_in bs ws ≡ done v top 0
  unfolding load_in
  load_taken e = rw e refl

  checked : {s : Verdict} → 16 ≤ length bs → check_as f bs (length ws) ≡ s → check_file bs (length ws) ≡ s
  checked l e = checked_long bs (length ws) l ∙ e

  -- ---- 30 to 35 are passed

  module _ (p : Passed f bs ws) where
    frame : Framed f bs
    frame = record {
      long = p.long;
      kind = p.kind;
      reach = p.distance.0;
      within = p.distance.1;
      enough = p.room.0;
      allowed = p.room.1;
    }

    image_store : StoreIn f bs v
    image_store = record {
      file =
          let h = image_long f bs in
          is_file (file_edition bs) f v top (omega arith) (omega (arith, p.room.0)) (body bs)
          (omega (arith, body_long f bs frame)) (sym (words_again f bs frame));
      long = image_long f bs;
      free = λ i l h.
          let xs = cells_in f (file_cells bs) (words_of (body bs)) in
          let m = 2 * (file_capacity bs - top) in
          let z : get_or xs i 0 ≡ 0 = get_or-eq_default xs 0 (omega (arith, occupied f bs frame)) in
          rw (image_is f bs frame) (padded_at xs m i ∙ z);
    }

    allowed : Allowed f (length v)
    allowed =
        let h = image_long f bs in
        record { even = omega arith; large = omega (arith, p.room.0); small = omega (arith, p.room.1) }

    top_right : TopRule f v top
    top_right = (omega arith, omega (arith, image_long f bs, p.room.0))

    stored : check_file bs (length ws) ≡ check_store f v (file_cells bs)
    stored =
        checked p.long
        (as_store f bs (length ws) p.kind (yes_distance f bs p.distance.0 p.distance.1)
        (yes_capacity f bs p.room.0 p.room.1) p.slice)

    store_unsound : (s : Verdict) → check f v top ≡ s → s.status ≢ 0 → check_file bs (length ws) ≡ s
    unfolding check_store
    store_unsound s e z =
        let collected = cond (eqb (live f v top) (file_cells bs)) (only 0) (only 34) in
        stored ∙ rw e (on_zero_no s.status collected s z)

    module _ (s : Sound f v top) where
      rest : top - f ≡ file_cells bs
      rest = omega arith

      store_uncollected : Not (AllReached f v top) → check_file bs (length ws) ≡ only 34
      unfolding check_store
      store_uncollected z =
          let e = ne_eqb (live f v top) (file_cells bs) (λ q. z (reached_all f v top p.kind s (q ∙ sym rest))) in
          stored ∙ rw (sound_check f v top s, e) refl

      store_whole : AllReached f v top → check_file bs (length ws) ≡ only 0
      unfolding check_store
      store_whole a =
          let e = eq-eqb (live f v top) (file_cells bs) (all_whole f v top p.kind s a ∙ rest) in
          stored ∙ rw (sound_check f v top s, e) refl

  -- ---- every answer is from its table

  table_refused : (s : Verdict) → check_file bs (length ws) ≡ s → s.status ≢ 0
      → OneOf s.status (0 ∷ 3 ∷ 30 ∷ 31 ∷ 32 ∷ 33 ∷ 34 ∷ 35 ∷ []) → (s.status ≢ 3 → (s.value ≡ 0) × (s.rule ≡ 0))
      → LoadedAs f bs ws (refused ws 0 s) → LoadTable bs ws (load_in bs ws)
  table_refused s e z o h l =
      rw (load_refused s e z) (record {
        number = o;
        value = λ n. (h n).0;
        rule = λ n. (h n).1;
        kept = λ _. (refl, refl);
        loads = l;
      })

  store_table : Passed f bs ws → LoadTable bs ws (load_in bs ws)
  store_table p = go (check f v top) refl (judged f v top)
    where
      whole : Sound f v top → (t : Bool) → eqb (live f v top) (file_cells bs) ≡ t → LoadTable bs ws (load_in bs ws)
      whole s true e =
          let a = reached_all f v top p.kind s (eqb-true (live f v top) (file_cells bs) e ∙ sym (rest p s)) in
          rw (load_taken (store_whole p s a)) (record {
            number = inl refl;
            value = λ _. refl;
            rule = λ _. refl;
            kept = λ z. absurd (z refl);
            loads = loaded p v (image_store p) s a;
          })
      whole s false e =
          table_refused (only 34) (store_uncollected p s uncollected) (λ q. omega arith)
          (inr (inr (inr (inr (inr (inr (inl refl))))))) (λ _. (refl, refl))
          (not_collected p v (image_store p) s uncollected)
        where
          uncollected : Not (AllReached f v top)
          uncollected a =
              eqb-false (live f v top) (file_cells bs) e (all_whole f v top p.kind s a ∙ rest p s)

      go : (s : Verdict) → check f v top ≡ s → Judged f v top s → LoadTable bs ws (load_in bs ws)
      go s e (bad_length n) = absurd (n (allowed p))
      go s e (bad_top l n) = absurd (n (top_right p))
      go s e (bad_cell c q l t h n k b) =
          table_refused s (store_unsound p s e (λ q. omega arith)) (λ q. omega arith) (inr (inl refl))
          (λ z. absurd (z refl)) (damaged p v (image_store p) c q h n k b)
      go s e (is_sound k) = whole k (eqb (live f v top) (file_cells bs)) refl

  trailer_table : LoadTable bs ws (load_in bs ws)
  trailer_table = short (lt_or_ge (length bs) 16)
    where
      slice : 16 ≤ length bs → 0 < f → distance_test f bs ≡ true → capacity_test f bs ≡ true → (t : Bool)
          → eqb (length ws) (2 * file_capacity bs) ≡ t → LoadTable bs ws (load_in bs ws)
      slice l p d c true e =
          store_table (record {
            long = l;
            kind = p;
            distance = distance_yes f bs d;
            room = capacity_yes f bs c;
            slice = eqb-true (length ws) (2 * file_capacity bs) e;
          })
      slice l p d c false e =
          let z = eqb-false (length ws) (2 * file_capacity bs) e in
          table_refused (only 35) (checked l (as_slice f bs (length ws) p d c z)) (λ q. omega arith)
          (inr (inr (inr (inr (inr (inr (inr (inl refl)))))))) (λ _. (refl, refl))
          (wrong_slice l p (distance_yes f bs d) (capacity_yes f bs c) z)

      room : 16 ≤ length bs → 0 < f → distance_test f bs ≡ true → (t : Bool) → capacity_test f bs ≡ t
          → LoadTable bs ws (load_in bs ws)
      room l p d true e = slice l p d e (eqb (length ws) (2 * file_capacity bs)) refl
      room l p d false e =
          table_refused (only 33) (checked l (as_capacity f bs (length ws) p d e)) (λ q. omega arith)
          (inr (inr (inr (inr (inr (inl refl)))))) (λ _. (refl, refl))
          (bad_capacity l p (distance_yes f bs d)
          (refuted (capacity_test f bs) (λ r. yes_capacity f bs r.0 r.1) e))

      distance : 16 ≤ length bs → 0 < f → (t : Bool) → distance_test f bs ≡ t → LoadTable bs ws (load_in bs ws)
      distance l p true e = room l p e (capacity_test f bs) refl
      distance l p false e =
          table_refused (only 32) (checked l (as_distance f bs (length ws) p e)) (λ q. omega arith)
          (inr (inr (inr (inr (inl refl))))) (λ _. (refl, refl))
          (bad_distance l p (refuted (distance_test f bs) (λ r. yes_distance f bs r.0 r.1) e))

      kind : 16 ≤ length bs → (0 < f) ⊎ (f ≤ 0) → LoadTable bs ws (load_in bs ws)
      kind l (inl p) = distance l p (distance_test f bs) refl
      kind l (inr p) =
          let e : f ≡ 0 = omega arith in
          table_refused (only 31) (checked l (as_edition f bs (length ws) e)) (λ q. omega arith)
          (inr (inr (inr (inl refl)))) (λ _. (refl, refl)) (bad_edition l e)

      short : (length bs < 16) ⊎ (16 ≤ length bs) → LoadTable bs ws (load_in bs ws)
      short (inl h) =
          table_refused (only 30) (checked_short bs (length ws) h) (λ q. omega arith) (inr (inr (inl refl)))
          (λ _. (refl, refl)) (short_file h)
      short (inr l) = kind l (lt_or_ge 0 f)

  -- ---- and no other answer is

  same_store : Passed f bs ws → (w : List ℕ) → StoreIn f bs w → w ≡ v
  same_store p w s = store_once f bs w v s (image_store p)

  loaded_once : (r : Done) → LoadedAs f bs ws r → load_in bs ws ≡ r
  loaded_once r (short_file h) = load_refused (only 30) (checked_short bs (length ws) h) (λ q. omega arith)
  loaded_once r (bad_edition l e) = load_refused (only 31) (checked l (as_edition f bs (length ws) e))
      (λ q. omega arith)
  loaded_once r (bad_distance l p n) =
      let d = no (distance_test f bs) (λ y. n (distance_yes f bs y)) in
      load_refused (only 32) (checked l (as_distance f bs (length ws) p d)) (λ q. omega arith)
  loaded_once r (bad_capacity l p d n) =
      let c = no (capacity_test f bs) (λ y. n (capacity_yes f bs y)) in
      let far = yes_distance f bs d.0 d.1 in
      load_refused (only 33) (checked l (as_capacity f bs (length ws) p far c)) (λ q. omega arith)
  loaded_once r (wrong_slice l p d c n) =
      load_refused (only 35)
      (checked l (as_slice f bs (length ws) p (yes_distance f bs d.0 d.1) (yes_capacity f bs c.0 c.1) n))
      (λ q. omega arith)
  loaded_once r (damaged p w s c q h n k b) =
      let e = same_store p w s in
      let j : Judged f v top (damaged_at c q) =
      bad_cell c q (allowed p) (top_right p) (rw e at h) (rw e at n)
      (subst (λ (u : List ℕ). FirstOf (rules f top c (first_word u c) (second_word u c)) q) e k) (rw e at b) in
      load_refused (damaged_at c q)
      (store_unsound p (damaged_at c q)
      (judged_once f v top (check f v top) (damaged_at c q) (judged f v top) j) (λ z. omega arith))
      (λ z. omega arith)
  loaded_once r (not_collected p w s k z) =
      let e = same_store p w s in
      load_refused (only 34) (store_uncollected p (rw e at k) (rw e at z)) (λ q. omega arith)
  loaded_once r (loaded p w s k a) =
      let e = same_store p w s in load_taken (store_whole p (rw e at k) (rw e at a)) ∙ rw e refl

pub load_answers : LoadAnswers
load_answers bs ws = trailer_table bs ws

pub one_load : OneLoad
one_load bs ws r q a b = sym (loaded_once bs ws r a.loads) ∙ loaded_once bs ws q b.loads
