-- Which words an action touches: those of register d, and of the new cells. In order:
--   only_same, only_trans               no word, and two actions one after the other
--   clear_only, share_only, head_only   CLEAR, COPY and HEAD;  rest_only, open_first_only  REST and OPEN
--   first_words                         FIRST changes no word
--   symbol_only, wrap_only, run_only    the actions that lay cells from `top` on;  text_only  those of an expression
-- Assumes nothing.
use mathlib.Core.Path.{◌≡◌, refl, ◌∙◌}
use mathlib.Core.Logic.{◌⊎◌, inl, inr, ◌≢◌}
use mathlib.Core.List.{List, [], ◌∷◌}
use Prim.Native.Nat.{ℕ, zero, suc, ◌+◌, ◌-◌, ◌≤◌, ◌<◌}
use native.Mathlib.Omega.{arith}
use lib.ListN.{length}
use Rattle.words.proofs.Cells.{first_word_other, second_word_other}
use Rattle.meaning.specs.Expr.{Expr, terms}
use Rattle.meaning.specs.Sound.{Cell, code, empty, ends, fst, snd, at}
use Rattle.words.specs.Cell.{first_word, second_word}
use Rattle.meaning.specs.Sound.{size, start}
use Rattle.meaning.specs.Verdicts.{Done, done}
use Rattle.meaning.specs.Actions.{put, copy, copies, share, new_symbol, new_bracket, new_run_of, new_run, head, rest}
use Rattle.meaning.specs.Actions.{open_term, open_first, code_term, code_first}
use Rattle.meaning.specs.Lay.{all_terms, last_below, laid, puts, new_cells}
use Rattle.meaning.proofs.lay.Places.{laid_length}
use Rattle.promises.specs.Cells.{OnlyThere}

put_other : (ws : List ℕ) (x : ℕ) (b : Cell) (c : ℕ) → c ≢ x
    → (first_word (put ws x b) c ≡ first_word ws c) × (second_word (put ws x b) c ≡ second_word ws c)
unfolding put
put_other ws x b c h = (first_word_other ws x (fst b) (snd b) c h, second_word_other ws x (fst b) (snd b) c h)

module _ (d t n : ℕ) where
  pub only_same : (ws : List ℕ) → OnlyThere d t n ws ws
  only_same ws c h g = (refl, refl)

  pub only_trans : (ws v u : List ℕ) → OnlyThere d t n ws v → OnlyThere d t n v u → OnlyThere d t n ws u
  only_trans ws v u x y c h g = ((y c h g).0 ∙ (x c h g).0, (y c h g).1 ∙ (x c h g).1)

  only_put : (ws : List ℕ) (b : Cell) → OnlyThere d t n ws (put ws d b)
  only_put ws b c h g = put_other ws d b c h

  only_copy : (ws : List ℕ) (x : ℕ) → OnlyThere d t n ws (copy ws d x)
  unfolding copy
  only_copy ws x c h g = (
    first_word_other ws d (first_word ws x) (second_word ws x) c h,
    second_word_other ws d (first_word ws x)
        (second_word ws x) c h,
  )

  -- a cell that is none of the new ones
  new_away : (y : ℕ) → t ≤ y → y < t + n → (c : ℕ) → (c < t) ⊎ (t + n ≤ c) → c ≢ y
  new_away y l k c (inl z) = omega arith
  new_away y l k c (inr z) = omega arith

  -- m cells copied among the new ones
  only_copies : (ws : List ℕ) (y x m : ℕ) → t ≤ y → y + m ≤ t + n → OnlyThere d t n ws (copies ws y x m)
  unfolding copy
  only_copies ws y x zero l k = only_same ws
  only_copies ws y x (suc m) l k =
      only_trans ws (copy ws y x) (copies (copy ws y x) (suc y) (suc x) m)
      (λ c h g. other c (new_away y l (omega arith) c g))
      (only_copies (copy ws y x) (suc y) (suc x) m (omega arith) (omega arith))
    where
      other : (c : ℕ) → c ≢ y
          → (first_word (copy ws y x) c ≡ first_word ws c) × (second_word (copy ws y x) c ≡ second_word ws c)
      other c h = (
        first_word_other ws y (first_word ws x) (second_word ws x) c h,
        second_word_other ws y (first_word ws x)
            (second_word ws x) c h,
      )

  -- cells put among the new ones
  only_puts : (ws : List ℕ) (y : ℕ) (xs : List Cell) → t ≤ y → y + length xs ≤ t + n → OnlyThere d t n ws (puts ws y xs)
  only_puts ws y [] l k = only_same ws
  only_puts ws y (x ∷ xs) l k =
      only_trans ws (put ws y x) (puts (put ws y x) (suc y) xs)
      (λ c h g. put_other ws y x c (new_away y l (omega arith) c g))
      (only_puts (put ws y x) (suc y) xs (omega arith) (omega arith))

-- ---- the actions, in any store

module _ (d t n : ℕ) (ws : List ℕ) (top : ℕ) where
  abbrev Only : Done → Type 0
  Only r = OnlyThere d t n ws r.words

  pub clear_only : Only (done (put ws d empty) top 0)
  clear_only = only_put d t n ws empty

  pub share_only : (a : ℕ) → Only (share d a ws top)
  unfolding share
  share_only a = only_copy d t n ws a

  pub head_only : (b : Cell) → Only (head ws top d b)
  unfolding head
  head_only (code a) = only_same d t n ws
  head_only empty = only_same d t n ws
  head_only (ends l r) = only_put d t n ws (ends l l)

  pub rest_only : (b : Cell) → Only (rest ws top d b)
  unfolding rest
  rest_only (code a) = only_same d t n ws
  rest_only empty = only_same d t n ws
  rest_only (ends l r) = only_put d t n ws _

  open_only : (x : ℕ) (b : Cell) → Only (open_term ws top d x b)
  unfolding open_term
  open_only x (code a) = only_same d t n ws
  open_only x empty = only_copy d t n ws x
  open_only x (ends l r) = only_copy d t n ws x

  pub open_first_only : (b : Cell) → Only (open_first ws top d b)
  unfolding open_first
  open_first_only (code a) = only_same d t n ws
  open_first_only empty = only_same d t n ws
  open_first_only (ends l r) = open_only l (at ws l)

-- FIRST changes no word
code_words : (ws : List ℕ) (top : ℕ) (b : Cell) → (code_term ws top b).words ≡ ws
unfolding code_term
code_words ws top (code a) = refl
code_words ws top empty = refl
code_words ws top (ends l r) = refl

pub first_words : (ws : List ℕ) (top : ℕ) (b : Cell) → (code_first ws top b).words ≡ ws
unfolding code_first
first_words ws top (code a) = refl
first_words ws top empty = refl
first_words ws top (ends l r) = code_words ws top (at ws l)

-- the actions that lay cells from `top` on
module _ (d : ℕ) (ws : List ℕ) (top : ℕ) where
  one_only : (x : List ℕ)
      → ((c : ℕ) → c ≢ top → (first_word x c ≡ first_word ws c) × (second_word x c ≡ second_word ws c))
      → (b : Cell) → OnlyThere d top 1 ws (put x d b)
  one_only x h b = only_trans d top 1 ws x (put x d b) (λ c g l. h c (away c l)) (only_put d top 1 x b)
    where
      away : (c : ℕ) → (c < top) ⊎ (top + 1 ≤ c) → c ≢ top
      away c (inl z) = omega arith
      away c (inr z) = omega arith

  pub symbol_only : (a : ℕ) → OnlyThere d top 1 ws (new_symbol d a ws top).words
  unfolding new_symbol
  symbol_only a =
      one_only (put ws top (code a)) (λ c h. only_put top 0 0 ws (code a) c h (inr (omega arith))) (ends top top)

  pub wrap_only : (a : ℕ) → OnlyThere d top 1 ws (new_bracket d a ws top).words
  unfolding new_bracket
  wrap_only a = one_only (copy ws top a) (λ c h. only_copy top 0 0 ws a c h (inr (omega arith))) (ends top top)

  pub run_only : (a b n : ℕ) → size (at ws a) + size (at ws b) ≡ n → OnlyThere d top n ws (new_run d a b ws top).words
  unfolding new_run new_run_of
  run_only a b n e =
      let p = at ws a in
      let q = at ws b in
      let one = copies ws top (start p) (size p) in
      let two = copies one (top + size p) (start q) (size q) in
      only_trans d top n ws two (put two d (ends top (top + (size p + size q) - 1)))
      (only_trans d top n ws one two (only_copies d top n ws top (start p) (size p) (omega arith) (omega arith))
      (only_copies d top n one (top + size p) (start q) (size q) (omega arith) (omega arith)))
      (only_put d top n two (ends top (top + (size p + size q) - 1)))

  pub text_only : (e : Expr) → OnlyThere d top (all_terms e) ws (new_cells d e ws top).words
  unfolding new_cells
  text_only e =
      let v = puts ws top (laid top e) in
      only_trans d top (all_terms e) ws v (put v d (last_below (top + all_terms e) (terms e)))
      (only_puts d top (all_terms e) ws top (laid top e) (omega arith) (omega (arith, laid_length top e)))
      (only_put d top (all_terms e) v (last_below (top + all_terms e) (terms e)))
