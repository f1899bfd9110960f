-- The claims of specs/Claims, each with its proof. Nothing else stands here. Assumes nothing.
use Rattle.octets.specs.Claims.{BytesLength, WordsBack, BytesBack, DecimalRows, DecimalBack, OnlyDigits}
use Rattle.octets.specs.Claims.{NoLeadingZero, WriteFits, WriteShort, WriteStops, PaddedAt, FilledFits}
use Rattle.octets.proofs.Endian as endian
use Rattle.octets.proofs.Decimals as decimals
use Rattle.octets.proofs.Spaces as spaces
use Rattle.octets.proofs.Filling as filling

pub bytes_length : BytesLength
bytes_length = endian.bytes_length

pub words_back : WordsBack
words_back = endian.words_back

pub bytes_back : BytesBack
bytes_back = endian.bytes_back

pub decimal_rows : DecimalRows
decimal_rows = decimals.decimal_rows

pub decimal_back : DecimalBack
decimal_back = decimals.decimal_back

pub only_digits : OnlyDigits
only_digits = decimals.only_digits

pub no_leading_zero : NoLeadingZero
no_leading_zero = decimals.no_leading_zero

pub write_fits : WriteFits
write_fits = spaces.write_fits

pub write_short : WriteShort
write_short = spaces.write_short

pub write_stops : WriteStops
write_stops = spaces.write_stops

pub padded_at : PaddedAt
padded_at = filling.padded_at

pub filled_fits : FilledFits
filled_fits = filling.filled_fits
