-- What the fields of a view show.
use Rattle.std.specs.Prelude.{ℕ, Bool, true, List, [], Option, Some, None}
use Rattle.msr_rows.specs.Views.{Viewed}
use Rattle.msr_rows.specs.declared.row.Row.{Row}
use Rattle.msr_rows.specs.declared.view.RowView.{RowView}
use Rattle.msr_rows.specs.declared.view.RecordView.TheInside.{Inside}

abbrev pub row_of : Option RowView → Option Row
row_of None = None
row_of (Some row) = Some (record { key = row.key; start = row.start; kind = row.kind; samples = row.samples.samples })

abbrev pub area_of : Option RowView → List ℕ
area_of None = []
area_of (Some row) = row.area.now

abbrev pub agrees_of : Option RowView → Bool
agrees_of None = true
agrees_of (Some row) = row.samples.agrees

abbrev pub viewed_of : Inside → Viewed
viewed_of view = record {
  header = view.header;
  area = area_of view.row;
  found = record { length = view.length; row = row_of view.row; reverse_agrees = agrees_of view.row };
}
