-- A record whose area carries its samples, be it in time or not.
use Rattle.std.proofs.Common.{refl, Some}
use Rattle.msr_rows.specs.Correction.{key_of, start_of}
use Rattle.msr_rows.specs.declared.row.Row.{Row}
use Rattle.msr_rows.proofs.RowLemmas.{agrees_from}
use Rattle.msr_rows.proofs.reverse.reverse_in.Goals as goal

pub returns-in-Ok-view_area-clause-some : goal.returns-in-Ok-view_area-clause-some
returns-in-Ok-view_area-clause-some c =
    let header = c.in-Ok.opened.header in
    let fields = rw c.in-Some.is at c.in-Ok.ensures.opened.fields_are in
    let carried = rw (c.area_of-area.ensures.area, c.storage.ensures) at c.in-Ok-view_area.ensures.samples in
    let agree = rw (c.area_of-area.ensures.area, c.storage.ensures, ← c.reverse_agrees.ensures) at
    c.in-Ok-view_area.ensures.reverse in
    let samples = c.in-Ok-view_area.samples.samples in
    let row : Row = record { key = key_of header; start = start_of header; kind = c.in-Some.kind; samples = samples } in
    record {
      header = header;
      read = c.in-Ok.ensures.opened.read;
      row = Some row;
      empty = tt;
      is_row = record {
        header = header;
        has_area = fields.has_area;
        key_is = refl;
        start_is = refl;
        count = c.in-Ok-view_area.ensures.count;
        carried = carried;
      };
      agrees_at_end = agrees_from c.args.rest.now header row c.reverse_agrees.result c.in-Ok.ensures.opened.read agree;
    }
