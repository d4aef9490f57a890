-- Which refusals no more bytes could change, whatever numbers they are: those of the header from the longest record's
-- bytes on, and those of a record that is there.
use Rattle.std.proofs.Common.{◌≡◌, ◌≢◌, ℕ, ◌^◌, ◌<◌, ◌≤◌, ◌⊎◌, inl, inr, Bool, true, false, List, ◌++◌, length, sym, refl, arith}
use Rattle.std.proofs.lemmas.Bool.{cases_Bool, ltb-false}
use Rattle.std.proofs.lemmas.Nat.{pow_pos}
use Rattle.std.proofs.lemmas.List.{take-append-le}
use Rattle.msr_header.proofs.FoundLemmas.{header_sound}
use Rattle.msr_header.proofs.ShownLemmas.{AreBytes, SameFirst, covers_first, header_alike}
use Rattle.msr_rows.specs.Records.{IsRefused}
use Rattle.msr_rows.specs.declared.fault.FaultKind.{FaultKind}
use Rattle.msr_rows.specs.declared.fault.FaultKind.TheVariants.{Header, NoRate, OtherEncoding, BadDataOffset, DataShort, BadCode, TimeRange, ReverseMismatch, Memory}
use Rattle.msr_header.specs.declared.fault.HeaderFault.{HeaderFault}
use Rattle.msr_devices.specs.ReadBuffer.{Window}
use Rattle.msr_input.specs.Input.{IsRefusedAlone}
use Rattle.msr_input.specs.Reading.{HoldsRecord}
use Rattle.msr_input.specs.Steps.{fault_at, may_change, StopsDecoding}
use Rattle.msr_rows.proofs.FirstBytes.{SameRecord, own_same}
use Rattle.msr_input.proofs.Strict.{alone_same}

-- a refusal of 1048576 bytes or more stays one, whatever follows them
pub still_refused : (strict : Bool) (bytes rest : List ℕ) (kind : FaultKind) → AreBytes bytes
    → 1_048_576 ≤ length bytes → IsRefusedAlone strict bytes kind → IsRefusedAlone strict (bytes ++ rest) kind
still_refused strict bytes rest kind are long refused =
    let first : SameFirst 1_048_576 bytes (bytes ++ rest) =
    record { same = sym (take-append-le 1_048_576 bytes rest long) } in
    let same : SameRecord bytes (bytes ++ rest) = record {
      header = header_alike first (covers_first bytes are);
      area = λ h read.
          let within : 2 ^ h.exponent ≤ length bytes = (header_sound bytes h read).within in
          (own_same bytes (bytes ++ rest) h read (take-append-le (2 ^ h.exponent) bytes rest within)).area h read;
    } in
    alone_same strict bytes (bytes ++ rest) kind same refused

-- a refusal of what stands after the header, whose record is there
held_by : (bytes : List ℕ) (kind : FaultKind) → ((reason : HeaderFault) → kind ≢ Header reason)
    → IsRefused bytes kind → HoldsRecord bytes
held_by bytes (Header reason) other refused = absurd (other reason refl)
held_by bytes NoRate other refused = (refused.header, refused.has_samples.read)
held_by bytes (OtherEncoding code) other refused = (refused.header, refused.has_samples.read)
held_by bytes BadDataOffset other refused = (refused.header, refused.has_samples.read)
held_by bytes DataShort other refused = (refused.header, refused.has_area.has_samples.read)
held_by bytes (BadCode word) other refused = (refused.header, refused.has_area.has_samples.read)
held_by bytes TimeRange other refused = (refused.is_row.header, refused.is_row.has_area.has_samples.read)
held_by bytes ReverseMismatch other refused = absurd refused
held_by bytes Memory other refused = absurd refused

held_alone : (strict : Bool) (bytes : List ℕ) (kind : FaultKind)
    → ((reason : HeaderFault) → kind ≢ Header reason) → IsRefusedAlone strict bytes kind → HoldsRecord bytes
held_alone strict bytes kind other (inl m) = (m.0.reverse.header, m.0.reverse.read)
held_alone strict bytes kind other (inr r) = held_by bytes kind other r.1

-- a record that is there has some bytes, and they decide
pub held_some : (bytes : List ℕ) → HoldsRecord bytes → 0 < length bytes
held_some bytes holds =
    let within = (header_sound bytes holds.0 holds.1).within in
    let some = pow_pos holds.0.exponent in
    omega (arith, within, some)

held_refused : (strict : Bool) (bytes rest : List ℕ) (kind : FaultKind) → HoldsRecord bytes
    → IsRefusedAlone strict bytes kind → IsRefusedAlone strict (bytes ++ rest) kind
held_refused strict bytes rest kind holds refused =
    let within = (header_sound bytes holds.0 holds.1).within in
    alone_same strict bytes (bytes ++ rest) kind (own_same bytes (bytes ++ rest) holds.0 holds.1
    (take-append-le (2 ^ holds.0.exponent) bytes rest within)) refused

header_some : (bytes : List ℕ) (reason : HeaderFault) (ended : Bool) → (ended ≡ true → 0 < length bytes)
    → (ended ≡ false → may_change (Header reason) (length bytes) ≡ false) → (ended ≡ true) ⊎ (ended ≡ false)
    → 0 < length bytes
header_some bytes reason ended some decided (inl e) = some e
header_some bytes reason ended some decided (inr e) = omega (arith, ltb-false (length bytes) 1_048_576 (decided e))

-- so a record that is refused stops reading once no bytes could change it, and so does running out of memory
pub decoding_stops : (takes : List ℕ → Type 0) (strict : Bool) (window : Window) (offset : ℕ) (kind : FaultKind)
    → AreBytes window.bytes → (kind ≢ Memory → IsRefusedAlone strict window.bytes kind)
    → (kind ≡ Memory → takes window.bytes) → (window.ended ≡ true → 0 < length window.bytes)
    → (window.ended ≡ false → may_change kind (length window.bytes) ≡ false)
    → StopsDecoding takes strict window offset (fault_at offset kind)
decoding_stops takes strict window offset Memory are refused memory some decided = inr (memory refl)
decoding_stops takes strict window offset (Header reason) are refused memory some decided = (
  refl,
  header_some window.bytes reason window.ended some decided (cases_Bool window.ended),
  refused (λ e. cc),
  λ unended rest. still_refused strict window.bytes rest (Header reason) are
      (ltb-false (length window.bytes) 1_048_576 (decided unended)) (refused (λ e. cc)),
)
decoding_stops takes strict window offset kind are refused memory some decided =
    let is = refused (λ e. cc) in
    let holds = held_alone strict window.bytes kind (λ reason e. cc) is in
    (refl, held_some window.bytes holds, is, λ unended rest. held_refused strict window.bytes rest kind holds is)

-- a refusal that may change is one of a header, so there is no whole record
no_header : (strict : Bool) (bytes : List ℕ) (reason : HeaderFault) → IsRefusedAlone strict bytes (Header reason)
    → HoldsRecord bytes → ⊥
no_header strict bytes reason (inl m) holds = let other = m.1 in cc
no_header strict bytes reason (inr r) holds = let is = r.1 in let read = holds.1 in cc

pub none_held : (strict : Bool) (bytes : List ℕ) (kind : FaultKind) (size : ℕ) → may_change kind size ≡ true
    → (kind ≢ Memory → IsRefusedAlone strict bytes kind) → HoldsRecord bytes → ⊥
none_held strict bytes (Header reason) size e refused holds = no_header strict bytes reason (refused (λ e. cc)) holds
none_held strict bytes kind size e refused holds = absurd cc
