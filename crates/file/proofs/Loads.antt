-- What loading leaves, from what is found of the file. In order:
--   not_loaded_kept   no refusal has the number 0
--   load_refused    a file that is refused
--   load_filled     one that is taken, once the store is written
-- Assumes nothing.
use mathlib.Core.Path.{◌≡◌, refl, ◌∙◌}
use mathlib.Core.List.{List}
use Prim.Native.Nat.{ℕ, ◌+◌}
use lib.ListN.{length}
use Rattle.std.specs.Prelude.{Ok, Err}
use Rattle.octets.specs.Space.{filled}
use Rattle.meaning.specs.Verdicts.{only, if_sound}
use Rattle.meaning.specs.File.{first_of, file_cells, file_edition, image, check_file, load_in}
use Rattle.file.specs.Answers.{not_loaded_of, Loads}
use Rattle.file.specs.Images.{words_in, top_in}
use Rattle.file.specs.Judged.{ImageOf}
use Rattle.file.specs.declared.NotLoaded.{NotLoaded}
use Rattle.file.specs.declared.NotLoaded.TheVariants as not_loaded
use Rattle.file.specs.declared.image.Image.{Image}

not_loaded_kept : {A : Type 0} (e : NotLoaded) (x y : A) → if_sound (not_loaded_of e) x y ≡ y
not_loaded_kept not_loaded.ShortFile x y = refl
not_loaded_kept not_loaded.BadEdition x y = refl
not_loaded_kept not_loaded.BadDistance x y = refl
not_loaded_kept not_loaded.BadCapacity x y = refl
not_loaded_kept not_loaded.WrongSlice x y = refl
not_loaded_kept (not_loaded.Damaged c q) x y = refl
not_loaded_kept not_loaded.NotCollected x y = refl

module _ (bs ws : List ℕ) where
  abbrev f : ℕ
  f = first_of (file_edition bs)

  pub load_refused : (e : NotLoaded) → check_file bs (length ws) ≡ not_loaded_of e → Loads bs ws (Err e) ws
  unfolding load_in
  load_refused e h = rw (h, not_loaded_kept e (image f bs) ws, not_loaded_kept e (f + file_cells bs) 0) refl

  pub load_filled : (i : Image) → ImageOf bs (length ws) i × (check_file bs (length ws) ≡ only 0) → (vs : List ℕ)
      → vs ≡ filled (length ws) (words_in i) → (t : ℕ) → t ≡ top_in i
      → Loads bs ws (Ok t) vs
  unfolding load_in image
  load_filled i o vs q t p =
      let v : vs ≡ image f bs = q ∙ rw (o.0.bytes, o.0.first, o.0.cells, o.0.slice) refl in
      rw (o.1, p, v, o.0.first, o.0.cells) refl
