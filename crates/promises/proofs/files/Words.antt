-- The file of a store, word by word. In order:
--   is_file, file_is          the words of a file are those that the definition lists;  there and back
--   file_in_words, one_file   the claims
--   one_edition               the table of kinds, by its places
--   store_once                one store is in a file
-- Assumes nothing.
use mathlib.Core.Path.{◌≡◌, refl, sym, ap, ◌∙◌, subst}
use mathlib.Core.Logic.{◌⊎◌, inl, inr}
use mathlib.Core.List.{List, [], ◌∷◌, ◌++◌}
use Prim.Native.Nat.{ℕ, zero, suc, ◌+◌, ◌-◌, ◌*◌, ◌≤◌, ◌<◌}
use native.Mathlib.Omega.{arith}
use lib.ListN.{length, get_or, take, drop, length-append, get_or-append}
use lib.Seq.{get_or-append-add, get_or-drop, get_or-take, ext_get_or}
use Rattle.octets.specs.Little.{words_of, bytes_of}
use Rattle.octets.proofs.Endian.{words_length, word_at_lem, words_back, bytes_back}
use Rattle.meaning.specs.Sound.{capacity}
use Rattle.meaning.specs.File.{distance_for, first_of, file_words, file_of, file_cells}
use Rattle.meaning.proofs.Lists.{lt_or_ge}
use Rattle.meaning.proofs.file.Written as written
use Rattle.meaning.proofs.file.Written.{file_bytes}
use Rattle.promises.specs.Files.{word_at, FileIs, FileInWords, OneFile, OneEdition, StoreIn}

module _ (e F : ℕ) (ws : List ℕ) (top : ℕ) (low : F ≤ top) (high : 2 * top ≤ length ws) where
  abbrev heap : List ℕ
  heap = take (2 * (top - F)) (drop (2 * F) ws)

  abbrev regs : List ℕ
  regs = take (2 * F) ws

  abbrev tail : List ℕ
  tail = distance_for F (top - F) ∷ (top - F) ∷ capacity ws ∷ e ∷ []

  heap_long : length heap ≡ 2 * (top - F)
  heap_long = written.heap_long F ws top low high

  regs_long : length regs ≡ 2 * F
  regs_long = written.regs_long F ws top low high

  words_long : length (file_words e F ws top) ≡ 2 * top + 4
  unfolding file_words
  words_long = omega (arith, length-append heap (regs ++ tail), length-append regs tail, heap_long, regs_long)

  -- the words that the definition lists, part by part
  heap_word : (j : ℕ) → j < 2 * (top - F) → get_or (file_words e F ws top) j 0 ≡ get_or ws (2 * F + j) 0
  unfolding file_words
  heap_word j h =
      get_or-append heap (regs ++ tail) 0 j (omega (arith, heap_long))
      ∙ (get_or-take (2 * (top - F)) (drop (2 * F) ws) j 0 h ∙ get_or-drop (2 * F) ws j 0)

  after_heap : (k : ℕ) → get_or (file_words e F ws top) (2 * (top - F) + k) 0 ≡ get_or (regs ++ tail) k 0
  unfolding file_words
  after_heap k =
      subst (λ (x : ℕ). get_or (heap ++ (regs ++ tail)) (x + k) 0 ≡ get_or (regs ++ tail) k 0) heap_long
      (get_or-append-add heap (regs ++ tail) k 0)

  register_word : (j : ℕ) → j < 2 * F → get_or (file_words e F ws top) (2 * (top - F) + j) 0 ≡ get_or ws j 0
  register_word j h =
      after_heap j ∙ (get_or-append regs tail 0 j (omega (arith, regs_long)) ∙ get_or-take (2 * F) ws j 0 h)

  trailer_word : (k : ℕ) → get_or (file_words e F ws top) (2 * top + k) 0 ≡ get_or tail k 0
  trailer_word k =
      let p : 2 * (top - F) + (length regs + k) ≡ 2 * top + k = omega (arith, regs_long) in
      subst (λ (x : ℕ). get_or (file_words e F ws top) x 0 ≡ get_or tail k 0) p
      (after_heap (length regs + k) ∙ get_or-append-add regs tail k 0)

  module _ (bs : List ℕ) (long : length bs ≡ 8 * top + 16) where
    word_in : (j : ℕ) → j < 2 * top + 4 → word_at bs j ≡ get_or (words_of bs) j 0
    word_in j h = sym (word_at_lem bs j (omega arith))

    module _ (q : words_of bs ≡ file_words e F ws top) where
      word_is : (j : ℕ) → j < 2 * top + 4 → word_at bs j ≡ get_or (file_words e F ws top) j 0
      word_is j h = word_in j h ∙ ap (λ (x : List ℕ). get_or x j 0) q

      pub is_file : FileIs e F ws top bs
      is_file =
          let z : 2 * top + 0 ≡ 2 * top = omega arith in
          record {
            long = long;
            heap = λ j h. word_is j (omega arith) ∙ heap_word j h;
            registers = λ j h. word_is (2 * (top - F) + j) (omega arith) ∙ register_word j h;
            distance = word_is (2 * top) (omega arith) ∙ (rw z at (trailer_word 0));
            cells = word_is (2 * top + 1) (omega arith) ∙ trailer_word 1;
            size = word_is (2 * top + 2) (omega arith) ∙ trailer_word 2;
            edition = word_is (2 * top + 3) (omega arith) ∙ trailer_word 3;
          }

  -- a word of a list by the part that it is in
  file_word : (bs : List ℕ) → FileIs e F ws top bs → (j : ℕ) → j < 2 * top + 4
      → word_at bs j ≡ get_or (file_words e F ws top) j 0
  file_word bs i j h = go (lt_or_ge j (2 * (top - F))) (lt_or_ge j (2 * top))
    where
      end : (k : ℕ) → k < 4 → word_at bs (2 * top + k) ≡ get_or (file_words e F ws top) (2 * top + k) 0
      end zero l =
          let z : 2 * top + 0 ≡ 2 * top = omega arith in rw z (i.distance ∙ sym (rw z at (trailer_word 0)))
      end (suc zero) l = i.cells ∙ sym (trailer_word 1)
      end (suc (suc zero)) l = i.size ∙ sym (trailer_word 2)
      end (suc (suc (suc zero))) l = i.edition ∙ sym (trailer_word 3)
      end (suc (suc (suc (suc k)))) l = absurd (omega arith)

      go : (j < 2 * (top - F)) ⊎ (2 * (top - F) ≤ j) → (j < 2 * top) ⊎ (2 * top ≤ j)
          → word_at bs j ≡ get_or (file_words e F ws top) j 0
      go (inl l) m = i.heap j l ∙ sym (heap_word j l)
      go (inr l) (inl m) =
          let p : 2 * (top - F) + (j - 2 * (top - F)) ≡ j = omega arith in
          subst (λ (x : ℕ). word_at bs x ≡ get_or (file_words e F ws top) x 0) p
          (i.registers (j - 2 * (top - F)) (omega arith) ∙ sym (register_word (j - 2 * (top - F)) (omega arith)))
      go (inr l) (inr m) =
          let p : 2 * top + (j - 2 * top) ≡ j = omega arith in
          subst (λ (x : ℕ). word_at bs x ≡ get_or (file_words e F ws top) x 0) p (end (j - 2 * top) (omega arith))

  file_is : (bs : List ℕ) → FileIs e F ws top bs → words_of bs ≡ file_words e F ws top
  file_is bs i =
      let l = words_length bs in
      ext_get_or 0 (words_of bs) (file_words e F ws top) (omega (arith, i.long, words_long))
      (λ j h. word_at_lem bs j (omega arith) ∙ file_word bs i j (omega (arith, i.long)))

pub file_in_words : FileInWords
file_in_words e F ws top s =
    is_file e F ws top s.low (omega (arith, s.high)) (file_of e F ws top) (file_bytes e F ws top s)
    (unfold file_of in words_back (file_words e F ws top))

pub one_file : OneFile
unfolding file_of
one_file e F ws top bs s b i =
    sym (bytes_back bs (omega (arith, i.long)) b)
    ∙ ap bytes_of (file_is e F ws top s.low (omega (arith, s.high)) bs i)

pub one_edition : OneEdition
unfolding first_of
one_edition zero = (λ h. absurd (omega arith), λ h. refl)
one_edition (suc zero) = (λ h. refl, λ h. absurd (h refl))
one_edition (suc (suc e)) = (λ h. absurd (omega arith), λ h. refl)

-- two stores of one file
pub store_once : (f : ℕ) (bs v v' : List ℕ) → StoreIn f bs v → StoreIn f bs v' → v ≡ v'
store_once f bs v v' s s' =
    ext_get_or 0 v v' (s.long ∙ sym s'.long)
    (λ i h. go i h (omega (arith, s.long, s'.long)) (lt_or_ge i (2 * f)) (lt_or_ge i (2 * (f + file_cells bs))))
  where
    go : (i : ℕ) → i < length v → i < length v' → (i < 2 * f) ⊎ (2 * f ≤ i)
        → (i < 2 * (f + file_cells bs)) ⊎ (2 * (f + file_cells bs) ≤ i) → get_or v i 0 ≡ get_or v' i 0
    go i h h' (inl l) m = sym (s.file.registers i l) ∙ s'.file.registers i l
    go i h h' (inr l) (inl m) =
        let p : 2 * f + (i - 2 * f) ≡ i = omega arith in
        subst (λ (x : ℕ). get_or v x 0 ≡ get_or v' x 0) p
        (sym (s.file.heap (i - 2 * f) (omega arith)) ∙ s'.file.heap (i - 2 * f) (omega arith))
    go i h h' (inr l) (inr m) = s.free i m h ∙ sym (s'.free i m h')
