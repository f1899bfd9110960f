-- Demand 2: what was printed, typed in again, gives the same expression wherever there is room; what was typed, printed
-- again, gives the same bytes wherever they fit (SCOPE 8.2); and no print has a 0 that begins a term (2.4). Assumes
-- nothing.
use Rattle.std.specs.Prelude.{◌≡◌, false, List, ◌++◌, ℕ, ◌+◌, ◌-◌, ◌≤◌, ◌<◌, length, take, replicate}
use Rattle.meaning.specs.Sound.{capacity, Sound}
use Rattle.meaning.specs.Meaning.{meaning}
use Rattle.meaning.specs.Reach.{live}
use Rattle.meaning.specs.Lay.{all_terms}
use Rattle.meaning.specs.Call.{sought}
use Rattle.meaning.specs.Text.{print_in}
use Rattle.meaning.specs.Typed.{type_in}
use Rattle.promises.specs.Table.{Not}
use Rattle.promises.specs.Reading.{ZeroBegins}

-- register i of any words printed, and the text typed into register d of any sound store
abbrev pub PrintedTyped : Type 0
PrintedTyped =
    (F : ℕ) (ws : List ℕ) (top i n : ℕ) → (print_in F ws top i n).verdict.status ≡ 0
    → (v : List ℕ) (t : ℕ) → Sound F v t → (d : ℕ) → d < F
    → F + live F (sought false d v) t + all_terms (meaning ws i) ≤ capacity v
    → (let p = print_in F ws top i n in
    let r = type_in F v t d (take p.size p.space) in
    (r.verdict.status ≡ 0) × (meaning r.words d ≡ meaning ws i))

-- a text typed into register d of any words, and the register printed into n bytes
abbrev pub TypedPrinted : Type 0
TypedPrinted =
    (F : ℕ) (ws : List ℕ) (top d : ℕ) (bs : List ℕ) → (type_in F ws top d bs).verdict.status ≡ 0
    → (n : ℕ) → length bs ≤ n
    → (let r = type_in F ws top d bs in
    let p = print_in F r.words r.top d n in
    (p.verdict.status ≡ 0) × (p.size ≡ length bs) × (p.space ≡ bs ++ replicate (n - length bs) 0))

-- register i of any words printed: no code of the text is 0, or begins with it
abbrev pub PrintsNoZero : Type 0
PrintsNoZero =
    (F : ℕ) (ws : List ℕ) (top i n : ℕ) → (print_in F ws top i n).verdict.status ≡ 0
    → (k : ℕ) → Not (ZeroBegins (take (print_in F ws top i n).size (print_in F ws top i n).space) k)
