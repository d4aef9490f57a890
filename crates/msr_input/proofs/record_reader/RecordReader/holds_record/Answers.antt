use Rattle.std.proofs.Common.{◌≡◌, ◌∙◌, List, ℕ, IsTrue, Result, Ok, Err, refl, sym}
use Rattle.std.specs.Prelude.{is_ok}
use Rattle.msr_header.specs.Reading.{header_of}
use Rattle.msr_header.specs.declared.fault.HeaderFault.{HeaderFault}
use Rattle.msr_header.specs.declared.header.Header.{Header}
use Rattle.msr_input.specs.Reading.{HoldsRecord}
use Rattle.msr_input.proofs.record_reader.RecordReader.holds_record.Goals as goal

ok_header : (bytes : List ℕ) (read : Result Header HeaderFault) → read ≡ header_of bytes → IsTrue (is_ok read)
    → HoldsRecord bytes
ok_header bytes (Ok header) same is = (header, sym same)
ok_header bytes (Err fault) same is = absurd cc

header_ok : (bytes : List ℕ) (read : Result Header HeaderFault) → read ≡ header_of bytes → HoldsRecord bytes
    → IsTrue (is_ok read)
header_ok bytes read same holds = rw (same ∙ holds.1) refl

pub returns : goal.returns
returns c =
    let same = rw c.bytes.ensures at c.read_header.ensures.header in
    rw (c.is_ok.ensures.value, ← c.self.view_is) (
      ok_header c.self.inside.buffer.bytes c.read_header.result same,
      header_ok c.self.inside.buffer.bytes c.read_header.result same,
    )
