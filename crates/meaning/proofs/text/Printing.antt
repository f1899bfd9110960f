-- What printing answers, by its cases. In order:
--   print_register, print_none   in a sound store: a register, and one that is none
--   print_unsound                in any other
--   whole, troubled              a text that meets no trouble, and one that does
-- Assumes nothing.
use mathlib.Core.Path.{◌≡◌, refl}
use mathlib.Core.Logic.{◌≢◌}
use mathlib.Core.List.{List}
use Prim.Native.Nat.{ℕ, suc, ◌≤◌, ◌<◌}
use lib.ListN.{length}
use borrow.Author.Tests.{lt-ltb, le-ltb}
use Rattle.octets.specs.Space.{filled}
use Rattle.meaning.specs.Limits.{depth_limit}
use Rattle.meaning.specs.Sound.{Sound}
use Rattle.meaning.specs.Meaning.{meaning}
use Rattle.meaning.specs.Verdicts.{only}
use Rattle.meaning.specs.Check.{check}
use Rattle.meaning.specs.Text.{text, trouble, unprinted, printed, print_in}
use Rattle.meaning.proofs.check.Checking.{sound_check, on_zero_no}

module _ (F : ℕ) (ws : List ℕ) (top i n : ℕ) where
  pub print_register : Sound F ws top → i < F → print_in F ws top i n ≡ printed (text (meaning ws i)) n
  unfolding print_in
  print_register s h = rw (sound_check F ws top s, lt-ltb i F h) refl

  pub print_none : Sound F ws top → F ≤ i → print_in F ws top i n ≡ unprinted (only 20) n
  unfolding print_in
  print_none s h = rw (sound_check F ws top s, le-ltb i F h) refl

  pub print_unsound : (check F ws top).status ≢ 0 → print_in F ws top i n ≡ unprinted (check F ws top) n
  unfolding print_in
  print_unsound h = on_zero_no (check F ws top).status _ _ h

module _ (t : List ℕ) (n : ℕ) where
  pub whole : trouble depth_limit n t ≡ 0
      → printed t n ≡ record { verdict = only 0; size = length t; space = filled n t }
  unfolding printed
  whole e = rw e refl

  pub troubled : {s : ℕ} → trouble depth_limit n t ≡ suc s → printed t n ≡ unprinted (only (suc s)) n
  unfolding printed
  troubled e = rw e refl
