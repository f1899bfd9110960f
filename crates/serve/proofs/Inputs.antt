-- Laws of the input as the program reads it: the words after the first are the calls. Assumes nothing.
use mathlib.Core.Path.{◌≡◌, ap, ◌∙◌}
use mathlib.Core.List.{List, ◌++◌}
use Prim.Native.Nat.{ℕ, ◌-◌, ◌/◌, ◌≤◌}
use native.Mathlib.Omega.{arith}
use lib.ListN.{length, take, drop, replicate, length-append, length-drop, length-replicate}
use lib.Seq.{drop-append-le, take_at}
use Rattle.octets.specs.Little.{words_of}
use Rattle.octets.specs.Space.{filled}
use Rattle.octets.proofs.Endian.{words_length}
use Rattle.octets.proofs.Final.{filled_fits}
use Rattle.meaning.specs.Limits.{program_bytes, calls_limit}
use Rattle.serve.specs.Needs.{CallsFit, InputFits}

-- a buffer of n zeros that the input's words have filled
module _ (bs ws : List ℕ) (n : ℕ) (fits : length bs / 4 ≤ n)
    (e : ws ≡ filled (length {A = ℕ} (replicate n 0)) (words_of bs)) where
  abbrev zeros : List ℕ
  zeros = replicate (n - length (words_of bs)) 0

  words_first : ws ≡ words_of bs ++ zeros
  words_first =
      e ∙ rw (length-replicate {A = ℕ} n 0) (filled_fits n (words_of bs) (omega (arith, words_length bs)))

  pub calls_end : length bs / 4 ≤ length ws
  calls_end = omega (arith, words_length bs, ap length words_first, length-append (words_of bs) zeros)

  pub calls_part : 4 ≤ length bs → take (length bs / 4 - 1) (drop 1 ws) ≡ drop 1 (words_of bs)
  calls_part h =
      rw (words_first, drop-append-le 1 (words_of bs) zeros (omega (arith, words_length bs)))
      (take_at (drop 1 (words_of bs)) zeros (length bs / 4 - 1)
      (omega (arith, length-drop 1 (words_of bs), words_length bs)))

-- and they are lent as a batch asks
pub calls_lent : (cells : ℕ) (bs : List ℕ) (room : ℕ) → InputFits cells (length bs) room
    → CallsFit cells (drop 1 (words_of bs)) room
unfolding program_bytes calls_limit
calls_lent cells bs room w =
    let n : length (drop 1 (words_of bs)) ≡ length bs / 4 - 1 = omega
    (arith, length-drop 1 (words_of bs), words_length bs) in
    record {
      low = w.low;
      high = w.high;
      list = record { short = omega (arith, w.most); whole = omega (arith, w.whole, w.some) };
      fits = w.fits;
    }
