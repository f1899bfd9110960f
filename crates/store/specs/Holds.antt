-- What a cell of a store is read as: a bracket's contents, or a term. The words are those of a sound store, where each
-- bracket ends below a cell that the store may have.
-- Assumes nothing.
use Rattle.std.specs.Prelude.{◌≡◌, Bool, true, false, List, ℕ, ◌≤◌}
use Rattle.words.specs.Cell.{first_word, second_word}
use Rattle.meaning.specs.Limits.{first_heap_cell, limit}
use Rattle.meaning.specs.Sound.{Cell, code, empty, ends, IsBracket, IsTerm, start, size}
use Rattle.store.specs.declared.Run.{Run}
use Rattle.store.specs.declared.Term.{Term}
use Rattle.store.specs.declared.Term.TheVariants.{Symbol, Bracket}

-- cell c is a bracket, or a term
abbrev pub Bracketed : List ℕ → ℕ → Type 0
Bracketed ws c = (lim : ℕ) × (lim ≤ limit) × IsBracket first_heap_cell lim (first_word ws c) (second_word ws c)

abbrev pub Termed : List ℕ → ℕ → Type 0
Termed ws c = (lim : ℕ) × (lim ≤ limit) × IsTerm first_heap_cell lim (first_word ws c) (second_word ws c)

-- the contents of a cell
abbrev pub RunIs : Run → Cell → Type 0
RunIs r k = (r.start ≡ start k) × (r.size ≡ size k)

abbrev pub is_code : Cell → Bool
is_code (code a) = true
is_code empty = false
is_code (ends l r) = false

-- the term of a cell: its code, or that it is no symbol, with its contents
abbrev pub TermIs : Term → Cell → Type 0
TermIs (Symbol a) k = k ≡ code a
TermIs (Bracket r) k = (is_code k ≡ false) × RunIs r k
