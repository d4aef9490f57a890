-- Records and rows without their samples.
use Rattle.std.specs.Prelude.{length, option_map}
use Rattle.msr_rows.specs.declared.row.Record.{Record}
use Rattle.msr_rows.specs.declared.row.Row.{Row}
use Rattle.msr_segments.specs.Spans.{span_of}
use Rattle.msr_segments.specs.declared.span.Span.{Span}
use Rattle.msr_input.specs.declared.outline.Outline.{Outline}
use Rattle.msr_input.specs.declared.outline.RowOutline.{RowOutline}

-- a row without its samples, and where it lies
abbrev pub row_outline : Row → RowOutline
row_outline row = record { key = row.key; start = row.start; count = length row.samples }

abbrev pub outline_span : RowOutline → Span
outline_span row = span_of row.key row.start row.count

-- a record without its samples
abbrev pub outline_of : Record → Outline
outline_of found = record {
  length = found.length;
  row = option_map row_outline found.row;
  reverse_agrees = found.reverse_agrees;
}
