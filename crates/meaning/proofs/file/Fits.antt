-- The values that come back from loading and saving are cells of a store, or 0: at most the limit, which a word holds.
-- Assumes nothing.
use mathlib.Core.Path.{◌≡◌}
use mathlib.Core.List.{List}
use Prim.Native.Nat.{ℕ, ◌+◌, ◌*◌, ◌≤◌}
use native.Mathlib.Omega.{arith}
use lib.Dec.{ltb, leb, eqb}
use lib.ListN.{length}
use Rattle.meaning.specs.Limits.{limit}
use Rattle.meaning.specs.Reach.{live}
use Rattle.meaning.specs.Collected.{collected, collected_top}
use Rattle.meaning.specs.Verdicts.{Verdict, only, Done}
use Rattle.meaning.specs.File.{first_of, file_of, file_cells, file_capacity, file_edition, image, distance_test}
use Rattle.meaning.specs.File.{capacity_test, check_store, check_as, check_file, load_in, Saved}
use Rattle.meaning.specs.File.{saved_as, save_in}
use Rattle.meaning.proofs.batch.Fits.{check_most, by_check}
use Rattle.meaning.proofs.reader.Moves.{either}

plain : (s : ℕ) → (only s).value ≤ limit
plain s = omega arith

abbrev Most : Verdict → Type 0
Most v = v.value ≤ limit

store_most : (f : ℕ) (ws : List ℕ) (n : ℕ) → (check_store f ws n).value ≤ limit
unfolding check_store
store_most f ws n =
    by_check f ws (f + n) Most _ _
    (λ s. either Most (eqb (live f ws (f + n)) n) (λ e. plain 0) (λ e. plain 34)) (check_most f ws (f + n))

as_most : (f : ℕ) (bs : List ℕ) (len : ℕ) → (check_as f bs len).value ≤ limit
unfolding check_as
as_most f bs len =
    either Most (eqb f 0) (λ e. plain 31)
    (λ e. either Most (distance_test f bs)
    (λ e. either Most (capacity_test f bs)
    (λ e. either Most (eqb len (2 * file_capacity bs)) (λ e. store_most f (image f bs) (file_cells bs)) (λ e. plain 35))
    (λ e. plain 33)) (λ e. plain 32))

load_most : (bs ws : List ℕ) → (load_in bs ws).verdict.value ≤ limit
unfolding load_in check_file
load_most bs ws =
    either Most (ltb (length bs) 16) (λ e. plain 30) (λ e. as_most (first_of (file_edition bs)) bs (length ws))

save_most : (e F : ℕ) (ws : List ℕ) (top n : ℕ) → (save_in e F ws top n).verdict.value ≤ limit
unfolding save_in saved_as
save_most e F ws top n =
    let bs = file_of e F (collected F ws top) (collected_top F ws top) in
    by_check F ws top (λ (r : Saved). r.verdict.value ≤ limit) _ _
    (λ s. either (λ (r : Saved). r.verdict.value ≤ limit) (leb (length bs) n) (λ y. plain 0) (λ y. plain 22))
    (check_most F ws top)

pub load_fits : (bs ws : List ℕ) {d : Done} → d ≡ load_in bs ws → d.verdict.value ≤ limit
load_fits bs ws e = rw e (load_most bs ws)

pub save_fits : (e F : ℕ) (ws : List ℕ) (top n : ℕ) {r : Saved} → r ≡ save_in e F ws top n → r.verdict.value ≤ limit
save_fits e F ws top n q = rw q (save_most e F ws top n)
