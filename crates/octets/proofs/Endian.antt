-- Laws of words of bytes and bytes of words. In order:
--   words_length, bytes_length   how many there are
--   word_at_lem, word_none       word j of bytes, and that there is none
--   worth, word_of               a chunk of four bytes as a word;  what is made of a chunk, or of none
--   words_take, words_drop       the words of the first bytes, and of those after them
--   bytes_append, bytes_one      the bytes of words, then of words;  of one word
--   words_back, bytes_back       there and back
-- Assumes nothing.
use mathlib.Core.Path.{◌≡◌, refl, sym, ap, ◌∙◌, ap₂}
use mathlib.Core.List.{List, [], ◌∷◌, ◌++◌}
use Prim.Native.Nat.{ℕ, zero, suc, ◌+◌, ◌*◌, ◌/◌, ◌%◌, ◌^◌, ◌≤◌, ◌<◌}
use native.Mathlib.Omega.{arith}
use lib.ListN.{length, get_or, take, drop, get_or-eq_default}
use Rattle.std.proofs.Common.{w32, Bor}
use Rattle.std.specs.Prelude.{Option, Some, None, MatchOption}
use Rattle.std.specs.Int.{to_le_bytes}
use Rattle.std.specs.Simd.{first_chunks}
use Rattle.octets.specs.Little.{words_of, bytes_of}
use Rattle.octets.specs.Claims.{BytesLength, WordsBack, BytesBack}

pub words_length : (bs : List ℕ) → length (words_of bs) ≡ length bs / 4
words_length [] = refl
words_length (a ∷ []) = refl
words_length (a ∷ b ∷ []) = refl
words_length (a ∷ b ∷ c ∷ []) = refl
words_length (a ∷ b ∷ c ∷ d ∷ bs) = omega (arith, words_length bs)

pub bytes_length : BytesLength
bytes_length [] = refl
bytes_length (w ∷ ws) = omega (arith, bytes_length ws)

-- the word of four bytes
abbrev four : ℕ → ℕ → ℕ → ℕ → ℕ
four a b c d = a + 256 * b + 65536 * c + 16777216 * d

pub word_at_lem : (bs : List ℕ) (j : ℕ) → j < length bs / 4
    → get_or (words_of bs) j 0
    ≡ four (get_or bs (4 * j) 0) (get_or bs (4 * j + 1) 0) (get_or bs (4 * j + 2) 0) (get_or bs (4 * j + 3) 0)
word_at_lem [] j h = absurd (omega arith)
word_at_lem (a ∷ []) j h = absurd (omega arith)
word_at_lem (a ∷ b ∷ []) j h = absurd (omega arith)
word_at_lem (a ∷ b ∷ c ∷ []) j h = absurd (omega arith)
word_at_lem (a ∷ b ∷ c ∷ d ∷ bs) zero h = refl
word_at_lem (a ∷ b ∷ c ∷ d ∷ bs) (suc j) h =
    let e : 4 * suc j ≡ suc (suc (suc (suc (4 * j)))) = omega arith in
    let f : 4 * suc j + 1 ≡ suc (suc (suc (suc (4 * j + 1)))) = omega arith in
    let g : 4 * suc j + 2 ≡ suc (suc (suc (suc (4 * j + 2)))) = omega arith in
    let i : 4 * suc j + 3 ≡ suc (suc (suc (suc (4 * j + 3)))) = omega arith in
    rw (i, g, f, e) (word_at_lem bs j (omega arith))

pub word_none : (bs : List ℕ) (j : ℕ) → length bs / 4 ≤ j → get_or (words_of bs) j 0 ≡ 0
word_none bs j h = get_or-eq_default (words_of bs) 0 (omega (arith, words_length bs))

-- a chunk of four bytes as a word
abbrev pub worth : List ℕ → ℕ
worth bs = get_or bs 0 0 + get_or bs 1 0 * 256 + get_or bs 2 0 * 65536 + get_or bs 3 0 * 16777216

chunk_word : (bs : List ℕ) (k j : ℕ) (none : List ℕ) → k ≡ length bs / 4 → j < k
    → worth (get_or (first_chunks 4 k bs) j none) ≡ get_or (words_of bs) j 0
chunk_word [] k j none e h = absurd (omega arith)
chunk_word (a ∷ []) k j none e h = absurd (omega arith)
chunk_word (a ∷ b ∷ []) k j none e h = absurd (omega arith)
chunk_word (a ∷ b ∷ c ∷ []) k j none e h = absurd (omega arith)
chunk_word (a ∷ b ∷ c ∷ d ∷ bs) zero j none e h = absurd (omega arith)
chunk_word (a ∷ b ∷ c ∷ d ∷ bs) (suc k) zero none e h = omega arith
chunk_word (a ∷ b ∷ c ∷ d ∷ bs) (suc k) (suc j) none e h = chunk_word bs k j none (omega arith) (omega arith)

-- what is made of a chunk, or of none
pub word_of : (bs : List ℕ) (i r : ℕ) (chunks : List (List ℕ)) (o : Option (Bor (List ℕ)))
    → chunks ≡ first_chunks 4 (length bs / 4) bs → MatchOption o (r ≡ 0) (λ x. r ≡ worth x.now)
    → MatchOption o (length chunks ≤ i) (λ x. (i < length chunks) × ((none : List ℕ) → x.now ≡ get_or chunks i none))
    → length chunks ≡ length bs / 4 → r ≡ get_or (words_of bs) i 0
word_of bs i r chunks None e p q k = p ∙ sym (word_none bs i (omega (arith, q)))
word_of bs i r chunks (Some x) e p q k =
    p ∙ (rw (q.1 [], e) (chunk_word bs (length bs / 4) i [] refl (omega (arith, q.0))))

-- the first n bytes have the first k words, and those after them the rest
abbrev Cut : ℕ → ℕ → List ℕ → Type 0
Cut n k bs = (words_of (take n bs) ≡ take k (words_of bs)) × (words_of (drop n bs) ≡ drop k (words_of bs))

words_cut : (k : ℕ) (bs : List ℕ) → Cut (4 * k) k bs
words_cut zero bs = (refl, refl)
words_cut (suc k) bs = let e : 4 * suc k ≡ suc (suc (suc (suc (4 * k)))) = omega arith in rw e (go bs (words_cut k))
  where
    go : (xs : List ℕ) → ((ys : List ℕ) → Cut (4 * k) k ys) → Cut (suc (suc (suc (suc (4 * k))))) (suc k) xs
    go [] r = (refl, refl)
    go (a ∷ []) r = (refl, refl)
    go (a ∷ b ∷ []) r = (refl, refl)
    go (a ∷ b ∷ c ∷ []) r = (refl, refl)
    go (a ∷ b ∷ c ∷ d ∷ xs) r = (ap (λ (x : List ℕ). four a b c d ∷ x) (r xs).0, (r xs).1)

pub words_take : (k : ℕ) (bs : List ℕ) → words_of (take (4 * k) bs) ≡ take k (words_of bs)
words_take k bs = (words_cut k bs).0

pub words_drop : (k : ℕ) (bs : List ℕ) → words_of (drop (4 * k) bs) ≡ drop k (words_of bs)
words_drop k bs = (words_cut k bs).1

pub bytes_append : (xs ys : List ℕ) → bytes_of (xs ++ ys) ≡ bytes_of xs ++ bytes_of ys
bytes_append [] ys = refl
bytes_append (x ∷ xs) ys =
    ap (λ (r : List ℕ). x % 256 ∷ x / 256 % 256 ∷ x / 65536 % 256 ∷ x / 16777216 ∷ r) (bytes_append xs ys)

-- the bytes of one word of 32 bits
pub bytes_one : (w : ℕ) → w < 2 ^ 32 → to_le_bytes w32 w ≡ bytes_of (w ∷ [])
bytes_one w h =
    let e : w / 16777216 % 256 ≡ w / 16777216 = omega arith in
    ap (λ (x : ℕ). w % 256 ∷ w / 256 % 256 ∷ w / 65536 % 256 ∷ x ∷ []) e

-- a word is that of its bytes, and a byte of a word is the byte it was made of
four_of : (w : ℕ) → four (w % 256) (w / 256 % 256) (w / 65536 % 256) (w / 16777216) ≡ w
four_of w = omega arith

module _ (a b c d : ℕ) (p : a < 256) where
  byte_0 : four a b c d % 256 ≡ a
  byte_0 = omega arith

  module _ (q : b < 256) where
    byte_1 : four a b c d / 256 % 256 ≡ b
    byte_1 = omega arith

    module _ (r : c < 256) where
      byte_2 : four a b c d / 65536 % 256 ≡ c
      byte_2 = omega arith

      byte_3 : four a b c d / 16777216 ≡ d
      byte_3 = omega arith

pub words_back : WordsBack
words_back [] = refl
words_back (w ∷ ws) = ap₂ {C = List ℕ} (λ x y. x ∷ y) (four_of w) (words_back ws)

pub bytes_back : BytesBack
bytes_back [] e h = refl
bytes_back (a ∷ []) e h = absurd (omega arith)
bytes_back (a ∷ b ∷ []) e h = absurd (omega arith)
bytes_back (a ∷ b ∷ c ∷ []) e h = absurd (omega arith)
bytes_back (a ∷ b ∷ c ∷ d ∷ bs) e h =
    rw (
      byte_0 a b c d (h 0),
      byte_1 a b c d (h 0) (h 1),
      byte_2 a b c d (h 0) (h 1) (h 2),
      byte_3 a b c d (h 0) (h 1) (h 2),
    )
    (ap (λ (x : List ℕ). a ∷ b ∷ c ∷ d ∷ x) (bytes_back bs (omega arith) (λ i. h (suc (suc (suc (suc i)))))))
