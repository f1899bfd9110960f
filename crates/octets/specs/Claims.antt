-- What the definitions come to, for those who cite them: what is written is read back, and bytes that fit stand at the
-- start of their space. Assumes nothing.
use Rattle.std.specs.Prelude.{◌≡◌, true, List, [], ◌∷◌, ◌++◌, ℕ, ◌+◌, ◌-◌, ◌*◌, ◌%◌, ◌≤◌, ◌<◌, length, get_or, drop}
use Rattle.std.specs.Prelude.{replicate}
use Rattle.octets.specs.Little.{words_of, bytes_of}
use Rattle.octets.specs.Decimal.{decimal}
use Rattle.octets.specs.Space.{Space, up_to, blank, write, filled}

-- four bytes a word
abbrev pub BytesLength : Type 0
BytesLength = (ws : List ℕ) → length (bytes_of ws) ≡ 4 * length ws

-- words as bytes, read as words
abbrev pub WordsBack : Type 0
WordsBack = (ws : List ℕ) → words_of (bytes_of ws) ≡ ws

-- bytes of whole words, read as words and written again
abbrev pub BytesBack : Type 0
BytesBack = (bs : List ℕ) → length bs % 4 ≡ 0 → ((i : ℕ) → get_or bs i 0 < 256) → bytes_of (words_of bs) ≡ bs

-- a number with a 0 inside, and the largest word, computed
abbrev pub DecimalRows : Type 0
DecimalRows =
    (decimal 101 ≡ 49 ∷ 48 ∷ 49 ∷ [])
    × (decimal 4294967295 ≡ 52 ∷ 50 ∷ 57 ∷ 52 ∷ 57 ∷ 54 ∷ 55 ∷ 50 ∷ 57 ∷ 53 ∷ [])

-- the number that digits stand for, after those that stand for a
abbrev pub value_after : ℕ → List ℕ → ℕ
value_after a [] = a
value_after a (b ∷ bs) = value_after (10 * a + (b - 48)) bs

-- a number in decimal stands for the number
abbrev pub DecimalBack : Type 0
DecimalBack = (n : ℕ) → value_after 0 (decimal n) ≡ n

-- it has digits only
abbrev pub AllDigits : List ℕ → Type 0
AllDigits bs = (i : ℕ) → i < length bs → (48 ≤ get_or bs i 0) × (get_or bs i 0 ≤ 57)

abbrev pub OnlyDigits : Type 0
OnlyDigits = (n : ℕ) → AllDigits (decimal n)

-- and begins with a 0 only where the number is 0
abbrev pub NoLeadingZero : Type 0
NoLeadingZero = (n : ℕ) → 0 < n → 48 < get_or (decimal n) 0 0

-- bytes that fit stand at the start of the space, and the rest of it is as it was lent
abbrev pub WriteFits : Type 0
WriteFits =
    (xs out : List ℕ) → length xs ≤ length out → write xs (blank out) ≡ up_to (xs ++ drop (length xs) out) (length xs)

-- bytes that do not fit leave it short, and then nothing more is written
abbrev pub WriteShort : Type 0
WriteShort = (xs out : List ℕ) → length out < length xs → (write xs (blank out)).short ≡ true

abbrev pub WriteStops : Type 0
WriteStops = (xs : List ℕ) (s : Space) → s.short ≡ true → write xs s ≡ s

-- zeros after a list are what is read beyond it
abbrev pub PaddedAt : Type 0
PaddedAt = (xs : List ℕ) (m i : ℕ) → get_or (xs ++ replicate m 0) i 0 ≡ get_or xs i 0

-- a list that fits is filled up with zeros
abbrev pub FilledFits : Type 0
FilledFits = (n : ℕ) (xs : List ℕ) → length xs ≤ n → filled n xs ≡ xs ++ replicate (n - length xs) 0
