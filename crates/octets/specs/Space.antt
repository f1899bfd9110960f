-- A lent space of bytes that is written from left to right, and a lent list that is filled. Assumes nothing.
use Rattle.std.specs.Prelude.{Bool, true, false, cond, List, [], ◌∷◌, ◌++◌, ℕ, ◌+◌, ltb, length, set, take, replicate}

-- the bytes, the place of the next one, and whether a byte did not fit
pub record Space : Type 0 where
  pub bytes : List ℕ
  pub place : ℕ
  pub short : Bool

-- written up to a place, with every byte so far
abbrev pub up_to : List ℕ → ℕ → Space
up_to out n = record { bytes = out; place = n; short = false }

-- with nothing written yet
abbrev pub blank : List ℕ → Space
blank out = up_to out 0

-- the next byte where it fits; once a byte did not fit, nothing is written
unfoldable pub put_byte : ℕ → Space → Space
put_byte b s =
    cond s.short s
    (cond (ltb s.place (length s.bytes))
    (up_to (set s.bytes s.place b) (s.place + 1))
    (record { bytes = s.bytes; place = s.place; short = true }))

-- bytes one after the other
abbrev pub write : List ℕ → Space → Space
write [] s = s
write (b ∷ bs) s = write bs (put_byte b s)

-- n elements: those of xs, as many as there is room for, and zeros after them
unfoldable pub filled : ℕ → List ℕ → List ℕ
filled n xs = take n (xs ++ replicate n 0)
