-- The fields of a report are in the ranges of their types.
use Rattle.std.proofs.Common.{arith, ℕ, zero, suc, ◌<◌, List, [], ◌∷◌, length, get_or, All, map}
use Rattle.msr_base.specs.declared.lengths.Length.{Length}
use Rattle.msr_base.specs.Lengths.{bytes_of}
use Rattle.msr_base.specs.RecordLength.{IsRecordLength}
use Rattle.msr_report.specs.declared.report.SegmentLine.{SegmentLine}
use Rattle.msr_report_reader.specs.Content.{IsContentLine, content_line}

pub is_length : (l : Length) → IsRecordLength (bytes_of l)
is_length l = record { exponent = l.exponent; least = l.from; most = l.to; power = l.power }

pub contents_from : (lines : List SegmentLine) →
    ((k : ℕ) (d : SegmentLine) → k < length lines → IsContentLine (content_line (get_or lines k d)))
    → All IsContentLine (map content_line lines)
contents_from [] each k d within = absurd (omega arith)
contents_from (line ∷ lines) each zero d within = each 0 line (omega arith)
contents_from (line ∷ lines) each (suc k) d within =
    contents_from lines (λ j e w. each (suc j) e (omega arith)) k d (omega arith)
