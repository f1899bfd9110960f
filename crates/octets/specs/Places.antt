-- The space that the code leaves, by its answer; apart from Space, which knows of no code. Assumes nothing.
use Rattle.std.specs.Prelude.{true, List, ℕ, Result, Ok, Err}
use Rattle.octets.specs.Space.{Space, up_to}
use Rattle.octets.specs.declared.writing.Full.{Full}

-- the bytes that are lent, and the place behind what is written, or that of a byte that did not fit
abbrev pub space : List ℕ → Result ℕ Full → Space
space out (Ok place) = up_to out place
space out (Err full) = record { bytes = out; place = full.place; short = true }
