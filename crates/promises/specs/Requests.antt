-- What may be asked of a store, and what is answered: demand 2 speaks of each request, demand 3 of lists of them.
-- Assumes nothing.
use Rattle.std.specs.Prelude.{List, [], ◌∷◌, ℕ}
use Rattle.meaning.specs.Verdicts.{Verdict, valued, Done}
use Rattle.meaning.specs.Call.{step}
use Rattle.meaning.specs.Typed.{type_in}

-- a call: operation, d, a, b; or a text typed into register d
pub data Request : Type 0 where
  call : ℕ → ℕ → ℕ → ℕ → Request
  typed : ℕ → List ℕ → Request

-- what a request does in a store with its `top`
abbrev pub requested : ℕ → List ℕ → ℕ → Request → Done
requested F ws top (call o d a b) = step F ws top o d a b
requested F ws top (typed d bs) = type_in F ws top d bs

-- the requests of a call list: a call is four words
abbrev pub requests : List ℕ → List Request
requests [] = []
requests (o ∷ []) = []
requests (o ∷ d ∷ []) = []
requests (o ∷ d ∷ a ∷ []) = []
requests (o ∷ d ∷ a ∷ b ∷ cs) = call o d a b ∷ requests cs

-- answers as they are written into the answer space, a status and a value each; and as they are read there
abbrev pub in_words : List Verdict → List ℕ
in_words [] = []
in_words (v ∷ vs) = v.status ∷ v.value ∷ in_words vs

abbrev pub verdicts : List ℕ → List Verdict
verdicts [] = []
verdicts (s ∷ []) = []
verdicts (s ∷ v ∷ ws) = valued s v ∷ verdicts ws
