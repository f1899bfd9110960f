-- What each operation does to the words, where it acts: an action takes the words and `top`, and leaves them with a
-- verdict (SCOPE 4.2). Assumes nothing.
use Rattle.std.specs.Prelude.{cond, List, ℕ, zero, suc, ◌+◌, ◌-◌, ltb}
use Rattle.words.specs.Cell.{first_word, second_word, put_cell}
use Rattle.meaning.specs.Sound.{Cell, code, empty, ends, fst, snd, at, size, start}
use Rattle.meaning.specs.Verdicts.{Done, done, refused, only}

-- cell c becomes b; cell c becomes equal to cell x
unfoldable pub put : List ℕ → ℕ → Cell → List ℕ
put ws c b = put_cell ws c (fst b) (snd b)

unfoldable pub copy : List ℕ → ℕ → ℕ → List ℕ
copy ws c x = put_cell ws c (first_word ws x) (second_word ws x)

-- n cells from c on become equal to those from x on
abbrev pub copies : List ℕ → ℕ → ℕ → ℕ → List ℕ
copies ws c x zero = ws
copies ws c x (suc n) = copies (copy ws c x) (suc c) (suc x) n

-- register d becomes register a, shared
unfoldable pub share : ℕ → ℕ → List ℕ → ℕ → Done
share d a ws top = done (copy ws d a) top 0

-- HEAD, REST, OPEN and FIRST: 14 on an empty register, else by its ends; the last two by its first term's cell too
abbrev pub on_ends : List ℕ → ℕ → (ℕ → ℕ → Done) → Cell → Done
on_ends ws top f (code a) = refused ws top (only 14)
on_ends ws top f empty = refused ws top (only 14)
on_ends ws top f (ends l r) = f l r

unfoldable pub head : List ℕ → ℕ → ℕ → Cell → Done
head ws top d p = on_ends ws top (λ l r. done (put ws d (ends l l)) top 0) p

unfoldable pub rest : List ℕ → ℕ → ℕ → Cell → Done
rest ws top d p = on_ends ws top (λ l r. done (put ws d (cond (ltb l r) (ends (suc l) r) empty)) top 0) p

unfoldable pub open_term : List ℕ → ℕ → ℕ → ℕ → Cell → Done
open_term ws top d x (code a) = refused ws top (only 15)
open_term ws top d x empty = done (copy ws d x) top 0
open_term ws top d x (ends l r) = done (copy ws d x) top 0

unfoldable pub open_first : List ℕ → ℕ → ℕ → Cell → Done
open_first ws top d p = on_ends ws top (λ l r. open_term ws top d l (at ws l)) p

unfoldable pub code_term : List ℕ → ℕ → Cell → Done
code_term ws top (code a) = done ws top a
code_term ws top empty = refused ws top (only 15)
code_term ws top (ends l r) = refused ws top (only 15)

unfoldable pub code_first : List ℕ → ℕ → Cell → Done
code_first ws top p = on_ends ws top (λ l r. code_term ws top (at ws l)) p

-- New cells are laid from `top` upward: a symbol; a cell equal to register a's; the top-level cells of p, then of q.
unfoldable pub new_symbol : ℕ → ℕ → List ℕ → ℕ → Done
new_symbol d a ws top = done (put (put ws top (code a)) d (ends top top)) (suc top) 0

unfoldable pub new_bracket : ℕ → ℕ → List ℕ → ℕ → Done
new_bracket d a ws top = done (put (copy ws top a) d (ends top top)) (suc top) 0

unfoldable pub new_run_of : ℕ → Cell → Cell → List ℕ → ℕ → Done
new_run_of d p q ws top =
    let both = copies (copies ws top (start p) (size p)) (top + size p) (start q) (size q) in
    done (put both d (ends top (top + (size p + size q) - 1))) (top + (size p + size q)) 0

unfoldable pub new_run : ℕ → ℕ → ℕ → List ℕ → ℕ → Done
new_run d a b ws top = new_run_of d (at ws a) (at ws b) ws top
