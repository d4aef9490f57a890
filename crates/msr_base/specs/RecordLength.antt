-- The lengths of written records, and what a record of a length has room for.
use Rattle.std.specs.Prelude.{◌≡◌, ◌≤◌, ◌-◌, ◌*◌, ◌/◌, ◌^◌, ℕ}

-- the exponents of the shortest record, of 256 bytes, and of the longest, of 65536
abbrev pub least_exponent : ℕ
least_exponent = 8

abbrev pub most_exponent : ℕ
most_exponent = 16

-- a power of two from 256 to 65536 bytes
pub record IsRecordLength (bytes : ℕ) : Type 0 where
  pub exponent : ℕ
  pub least : least_exponent ≤ exponent
  pub most : exponent ≤ most_exponent
  pub power : bytes ≡ 2 ^ exponent

-- the frames of 64 bytes after the header, which has 64 bytes
abbrev pub frames_of : ℕ → ℕ
frames_of bytes = bytes / 64 - 1

-- the words of a record that hold differences: 15 in each frame, but for the two constants (SEED 2.4, appendix B)
abbrev pub words_of : ℕ → ℕ
words_of bytes = 15 * frames_of bytes - 2
