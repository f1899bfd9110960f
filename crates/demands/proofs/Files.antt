-- One use of `file::load` and of `file::save`, and a controller swap. In order:
--   first_of                         a file that is taken is of the edition that is written
--   Taken, taken, load_meets         a file that is loaded;  what is left, by the answer
--   done, short, kept, save_meets    a store that is saved;  what is left, by the answer
--   save_then_load, load_then_save   back and forth
-- Assumes nothing.
use Rattle.std.specs.Prelude.{Result, Ok, Err}
use mathlib.Core.Path.{◌≡◌, refl, sym, ap, ◌∙◌, subst}
use mathlib.Core.Logic.{inl, inr, ◌≢◌}
use mathlib.Core.Bool.{Bool, true, false}
use mathlib.Core.List.{List, [], ◌∷◌, ◌++◌}
use Prim.Native.Nat.{ℕ, ◌-◌, ◌<◌}
use native.Mathlib.Omega.{arith}
use lib.Dec.{eqb}
use lib.ListN.{length, take, replicate}
use lib.Seq.{take_at}
use borrow.Author.Tests.{eqb-true, eqb-false}
use Rattle.meaning.specs.Limits.{first_heap_cell, edition}
use Rattle.meaning.specs.Sound.{Sound}
use Rattle.meaning.specs.Verdicts.{Done}
use Rattle.meaning.specs.File as file
use Rattle.meaning.specs.File.{first_of, file_distance, file_edition, body, load_in, save_in}
use Rattle.store.specs.Answers.{refusal_of}
use Rattle.store.specs.declared.Unsound.{Unsound}
use Rattle.store.specs.declared.Unsound.TheVariants as unsound
use Rattle.file.specs.Answers.{loaded_in, saved_in}
use Rattle.file.specs.declared.NotLoaded.{NotLoaded}
use Rattle.file.specs.declared.NotLoaded.TheVariants as loaded
use Rattle.file.specs.declared.Saved.{Saved}
use Rattle.file.specs.declared.NotSaved.{NotSaved}
use Rattle.file.specs.declared.NotSaved.TheVariants as saved
use Rattle.file.proofs.Final.{one_load, one_save}
use Rattle.promises.specs.Table.{OneOf}
use Rattle.promises.specs.Files as tables
use Rattle.promises.specs.Files.{StoreIn, AllReached, LoadedAs, LoadTable, SavedAs, SaveTable}
use Rattle.promises.specs.Swap.{Restored, file_in, Rewritten}
use Rattle.promises.proofs.table.Rules.{judged_number}
use Rattle.promises.proofs.Final.{one_edition, load_answers, save_answers, saved_loads, loaded_saves}
use Rattle.demands.specs.Files.{Loading, LoadMeets, Saving, SaveMeets, SaveThenLoad, LoadThenSave}
use Rattle.demands.proofs.Uses.{refusal_not}

-- one edition has stores, and its first heap cell is the code's
first_of_lem : (e : ℕ) → 0 < first_of e → (e ≡ edition) × (first_of e ≡ first_heap_cell)
first_of_lem e h = go (eqb e 1) refl
  where
    go : (t : Bool) → eqb e 1 ≡ t → (e ≡ edition) × (first_of e ≡ first_heap_cell)
    go true q = let x = eqb-true e 1 q in (x, (one_edition e).0 x)
    go false q = let z = (one_edition e).1 (eqb-false e 1 q) in absurd (omega arith)

-- ---- a file loaded

pub record Taken (f : ℕ) (bs ws : List ℕ) (d : Done) : Type 0 where
  pub kind : 0 < f
  pub store : StoreIn f bs d.words
  pub sound : Sound f d.words d.top
  pub all : AllReached f d.words d.top
  pub len : length d.words ≡ length ws

taken : (f : ℕ) (bs ws : List ℕ) (d : Done) → LoadedAs f bs ws d → d.verdict.status ≡ 0 → Taken f bs ws d
taken f bs ws d (tables.short_file h) z = absurd (omega arith)
taken f bs ws d (tables.bad_edition l e) z = absurd (omega arith)
taken f bs ws d (tables.bad_distance l p n) z = absurd (omega arith)
taken f bs ws d (tables.bad_capacity l p r n) z = absurd (omega arith)
taken f bs ws d (tables.wrong_slice l p r c n) z = absurd (omega arith)
taken f bs ws d (tables.damaged p v s c q h n k b) z = absurd (omega arith)
taken f bs ws d (tables.not_collected p v s k n) z = absurd (omega arith)
taken f bs ws d (tables.loaded p v s k a) z = record {
  kind = p.kind;
  store = s;
  sound = k;
  all = a;
  len = s.long ∙ sym p.slice;
}

loading : (bs ws : List ℕ) (r : Result ℕ NotLoaded) (v : List ℕ) → LoadTable bs ws (loaded_in r v) → Loading bs ws r v
loading bs ws (Ok t) v k =
    let d = loaded_in (Ok t) v in
    let f = first_of (file_edition bs) in
    let x = taken f bs ws d k.loads refl in
    let e = (first_of_lem (file_edition bs) x.kind).1 in
    (rw e at x.store, rw e at x.sound, rw e at x.all, x.len)
loading bs ws (Err loaded.ShortFile) v k = (k.kept (λ z. omega arith)).0
loading bs ws (Err loaded.BadEdition) v k = (k.kept (λ z. omega arith)).0
loading bs ws (Err loaded.BadDistance) v k = (k.kept (λ z. omega arith)).0
loading bs ws (Err loaded.BadCapacity) v k = (k.kept (λ z. omega arith)).0
loading bs ws (Err loaded.WrongSlice) v k = (k.kept (λ z. omega arith)).0
loading bs ws (Err (loaded.Damaged c q)) v k = (k.kept (λ z. omega arith)).0
loading bs ws (Err loaded.NotCollected) v k = (k.kept (λ z. omega arith)).0

pub load_meets : LoadMeets
load_meets bs ws r v h =
    let k : LoadTable bs ws (loaded_in r v) = subst (λ (d : Done). LoadTable bs ws d) (sym h) (load_answers bs ws) in
    (k, loading bs ws r v k)

-- ---- a store saved

module _ (ws : List ℕ) (top : ℕ) (out : List ℕ) where
  abbrev As : file.Saved → Type 0
  As d = SavedAs edition first_heap_cell ws top (length out) d

  -- with these parts, by the status
  abbrev Left : file.Saved → Type 0
  Left d = Saving ws top out (Ok (record { top = d.top; length = d.size })) d.words d.space

  abbrev Short : file.Saved → Type 0
  Short d = d.space ≡ replicate (length out) 0 → Saving ws top out (Err (saved.ShortSpace d.top)) d.words d.space

  done : (d : file.Saved) → As d → d.verdict.status ≡ 0 → Left d
  done d (tables.unsound v j n) z = absurd (n z)
  done d (tables.short_space s h low c) z = absurd (omega arith)
  done d (tables.saved s low c bs i h) z =
      let m = length out - length bs in
      let e : take (length bs) (bs ++ replicate m 0) ≡ bs = take_at bs (replicate m 0) (length bs) refl in
      rw e (s, refl, c, i, refl)

  not_judged : OneOf 22 (0 ∷ 1 ∷ 2 ∷ 3 ∷ []) → ⊥
  not_judged (inl e) = omega (arith, e)
  not_judged (inr (inl e)) = omega (arith, e)
  not_judged (inr (inr (inl e))) = omega (arith, e)
  not_judged (inr (inr (inr (inl e)))) = omega (arith, e)
  not_judged (inr (inr (inr (inr e)))) = e

  short : (d : file.Saved) → As d → d.verdict.status ≡ 22 → Short d
  short d (tables.unsound v j n) z a = absurd (not_judged (rw z at (judged_number first_heap_cell ws top [] v j)))
  short d (tables.short_space s h low c) z a = (s, refl, c, a)
  short d (tables.saved s low c bs i h) z a = absurd (omega arith)

  kept : (d : file.Saved) → As d → d.verdict.status ≢ 0 → d.verdict.status ≢ 22 → d.words ≡ ws
  kept d (tables.unsound v j n) z y = refl
  kept d (tables.short_space s h low c) z y = absurd (y refl)
  kept d (tables.saved s low c bs i h) z y = absurd (z refl)

  refusal_small : (u : Unsound) → (refusal_of u).status ≢ 22
  refusal_small unsound.BadLength z = omega (arith, z)
  refusal_small unsound.BadTop z = omega (arith, z)
  refusal_small (unsound.Damaged c q) z = omega (arith, z)

  saving : (r : Result Saved NotSaved) (v a : List ℕ) → SaveTable edition first_heap_cell ws top (length out) (saved_in r v top a)
      → Saving ws top out r v a
  saving (Ok s) v a k = done (saved_in (Ok s) v top a) k.saves refl
  saving (Err (saved.ShortSpace t)) v a k =
      short (saved_in (Err (saved.ShortSpace t)) v top a) k.saves refl (k.refused (λ z. omega arith)).1
  saving (Err (saved.Unsound u)) v a k =
      let d = saved_in (Err (saved.Unsound u)) v top a in
      (kept d k.saves (refusal_not u) (refusal_small u), (k.refused (refusal_not u)).1)

pub save_meets : SaveMeets
save_meets ws top out r v a h =
    let k : SaveTable edition first_heap_cell ws top (length out) (saved_in r v top a) =
    subst (λ (d : file.Saved). SaveTable edition first_heap_cell ws top (length out) d) (sym h)
    (save_answers edition first_heap_cell (omega arith) ws top (length out)) in
    (k, saving ws top out r v a k)

-- ---- back and forth

-- what is loaded, by its parts
restored_is : (ws : List ℕ) (top t m : ℕ) (v a : List ℕ) (l : Done)
    → Restored first_heap_cell ws top (saved_in (Ok (record { top = t; length = m })) v top a) l → loaded_in (Ok t) v ≡ l
restored_is ws top t m v a l k =
    λ j. record {
      verdict = ap (λ (d : Done). d.verdict) (sym k.loaded) j;
      words = sym k.words j;
      top = sym k.tops j;
    }

pub save_then_load : SaveThenLoad
save_then_load ws top out t m v a h pre lent len r w l =
    let good : (save_in edition first_heap_cell ws top (length out)).verdict.status ≡ 0 =
    ap (λ (d : file.Saved). d.verdict.status) (sym h) in
    let bs = pre ++ take m a in
    let k : Restored first_heap_cell ws top (saved_in (Ok (record { top = t; length = m })) v top a) (load_in bs lent) =
    subst (λ (d : file.Saved). Restored first_heap_cell ws top d (load_in (file_in pre d) lent)) (sym h)
    (saved_loads edition first_heap_cell (omega arith) ((one_edition edition).0 refl) ws top (length out) pre lent good
    len) in
    let x = one_load bs lent r (Ok t) w v l (restored_is ws top t m v a (load_in bs lent) k) in
    (x.0, x.1, λ i g. rw (x.1, ← k.words) (k.registers i g), rw (x.1, ← k.words, ← k.tops) k.alike)

-- what is saved, by its parts
rewritten_is : (bs : List ℕ) (l : Done) (n : ℕ) (d : file.Saved) → Rewritten bs l n d
    → saved_in (Ok (record { top = l.top; length = file_distance bs })) l.words l.top
    (body bs ++ replicate (n - file_distance bs) 0) ≡ d
rewritten_is bs l n d k =
    λ j. record {
      verdict = sym k.verdict j;
      words = sym k.words j;
      top = sym k.tops j;
      size = sym k.size j;
      space = sym k.bytes j;
    }

pub load_then_save : LoadThenSave
load_then_save bs lent t v b h out room r w a s =
    let n = length out in
    let good : (load_in bs lent).verdict.status ≡ 0 = ap (λ (d : Done). d.verdict.status) (sym h) in
    let e = first_of_lem (file_edition bs)
    (taken (first_of (file_edition bs)) bs lent (load_in bs lent) (load_answers bs lent).loads good).kind in
    let k = loaded_saves bs lent n b good room in
    let k' : Rewritten bs (loaded_in (Ok t) v) n (save_in edition first_heap_cell v t n) =
    subst (λ (d : Done). Rewritten bs d n (save_in edition first_heap_cell d.words d.top n)) (sym h)
    (rw (e.1, e.0) at k) in
    one_save v t out r (Ok (record { top = t; length = file_distance bs })) w v a (body bs ++ replicate (n - file_distance bs) 0) s
    (rewritten_is bs (loaded_in (Ok t) v) n (save_in edition first_heap_cell v t n) k')
