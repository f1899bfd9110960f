-- The claim that the statement of `serve` leaves no second outcome. Assumes nothing.
use Rattle.std.specs.Prelude.{◌≡◌, List, ℕ}
use Rattle.serve.specs.Serves.{Serves}

abbrev pub OneServe : Type 0
OneServe =
    (input out : List ℕ) (r r' : ℕ) (out' out'' : List ℕ) → Serves input out r out' → Serves input out r' out''
    → (r ≡ r') × (out' ≡ out'')
