-- One record more has come.
use Rattle.std.proofs.Common.{◌≡◌, ap, arith, length, length-drop, refl}
use Rattle.msr_rows.specs.Records.{IsRecordOf}
use Rattle.msr_rows.proofs.UnseenBytes.{record_fits}
use Rattle.msr_devices.specs.ReadBuffer.{Window}
use Rattle.msr_input.specs.Records.{CountsOneMore, HaveCome}
use Rattle.msr_input.specs.Steps.{IsRecordAhead}
use Rattle.msr_input.specs.declared.outline.Outline.{Outline}
use Rattle.msr_input.proofs.RecordsThatCame.{Passes, at_window, come_passed}
use Rattle.msr_input.proofs.record_reader.RecordReader.pass.Goals as goal

pub consume-requires : goal.consume-requires
consume-requires c =
    let next = c.requires.1 in
    let is : IsRecordOf c.self.inside.buffer.bytes c.requires.0 = rw (← c.self.view_is) at next.is_record in
    omega (
      arith,
      ap (λ (o : Outline). o.length) next.outline_is,
      (record_fits c.self.inside.buffer.bytes c.requires.0 is).1,
    )

pub returns-clause-passed : goal.returns-clause-passed
returns-clause-passed c start now records found has given =
    let at = c.self.inside in
    let old = at_window at.strict at.buffer at.counts at.offset in
    let new = at_window at.strict c.consume.new.self c.counted-self-inside.result c.saturating_add-self-inside.result in
    let come : HaveCome start now old records = rw (← c.self.view_is) at has in
    let next : IsRecordAhead old c.args.outline.now found = rw (← c.self.view_is) at given in
    let size : c.args.outline.now.length ≡ found.length = ap (λ (o : Outline). o.length) next.outline_is in
    let counted : CountsOneMore old.counts c.counted-self-inside.result found =
    c.counted-self-inside.ensures found next.outline_is in
    let passes : Passes old new found c.counted-self-inside.result = record {
      waiting = rw size at (ap (λ (w : Window). w.bytes) c.consume.ensures);
      ended = ap (λ (w : Window). w.ended) c.consume.ensures;
      strict = refl;
      counted = refl;
      offset = λ small. omega (arith, c.saturating_add-self-inside.ensures, size, small);
    } in
    come_passed start now old new records found c.counted-self-inside.result come next.is_record next.agrees
    counted passes

pub returns-clause-room : goal.returns-clause-room
returns-clause-room c = rw (← c.self.view_is) (ap (λ (w : Window). w.room) c.consume.ensures)

pub returns-clause-fewer : goal.returns-clause-fewer
returns-clause-fewer c =
    let bytes = c.self.inside.buffer.bytes in
    let next = c.requires.1 in
    let is : IsRecordOf bytes c.requires.0 = rw (← c.self.view_is) at next.is_record in
    let size = ap (λ (o : Outline). o.length) next.outline_is in
    let fits = record_fits bytes c.requires.0 is in
    let left = ap (λ (w : Window). length w.bytes) c.consume.ensures in
    rw (← c.self.view_is) (omega (arith, fits.0, fits.1, size, left, length-drop c.args.outline.now.length bytes))
