-- Bytes after those that were looked at change nothing.
use Rattle.std.proofs.Common.{ℕ, ◌^◌, ◌≤◌, List, ◌++◌, length, arith}
use Rattle.std.proofs.Math.Pow.{pow_mono}
use Rattle.std.proofs.lemmas.List.{take-append-le}
use Rattle.msr_header.proofs.FoundLemmas.{header_sound}
use Rattle.msr_rows.specs.Records.{IsRecordOf}
use Rattle.msr_rows.specs.declared.row.Record.{Record}
use Rattle.msr_rows.proofs.RowLemmas.{pow_most}
use Rattle.msr_rows.proofs.FirstBytes.{own_record}

-- a record has a length that is read, and its bytes are there
pub record_fits : (bytes : List ℕ) (found : Record) → IsRecordOf bytes found
    → (128 ≤ found.length) × (found.length ≤ length bytes) × (found.length ≤ 1_048_576)
record_fits bytes found p =
    let sound = header_sound bytes p.header p.read in
    let least : 2 ^ 7 ≤ 2 ^ p.header.exponent = pow_mono {i = 7} {j = p.header.exponent} sound.low in
    let most : 2 ^ p.header.exponent ≤ 1_048_576 = pow_most sound.high in
    (omega (arith, least, p.length_is), omega (arith, sound.within, p.length_is), omega (arith, most, p.length_is))

pub shown_record : (bytes rest : List ℕ) (found : Record) → IsRecordOf bytes found → IsRecordOf (bytes ++ rest) found
shown_record bytes rest found p =
    let within : found.length ≤ length bytes = (record_fits bytes found p).1 in
    own_record bytes (bytes ++ rest) found p (take-append-le found.length bytes rest within)
