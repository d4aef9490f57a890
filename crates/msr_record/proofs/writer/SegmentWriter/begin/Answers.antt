use Rattle.std.proofs.Common.{rules, [], FitsSigned, refl, w64, to_z-of_z}
use Rattle.msr_record.specs.Opened.{empty_segment}
use Rattle.msr_record.proofs.OpenSegments.{begun_empty}
use Rattle.msr_record.proofs.writer.SegmentWriter.begin.Goals as goal

pub returns-clause-begun : goal.returns-clause-begun
returns-clause-begun c = λ first now packed rows h.
    let fits : FitsSigned w64 c.args.start = search rules in
    rw (← c.self.view_is) (begun_empty first now _ packed rows _ c.args.key c.args.start refl
    (record { key = refl; start = to_z-of_z fits; gives = rw c.new-2.ensures.items c.new.ensures.none })
    (rw (← c.self.view_is) at h))

pub returns-clause-can : goal.returns-clause-can
returns-clause-can c =
    let fits : FitsSigned w64 c.args.start = search rules in
    record {
      segment = empty_segment c.args.key c.args.start;
      runs = [];
      is_open = record { key = refl; start = to_z-of_z fits; gives = rw c.new-2.ensures.items c.new.ensures.none };
      writable = record {
        is_key = c.key_has_header_widths.ensures;
        quality = c.requires.quality;
        normal = c.requires.normal;
      };
      in_time = rw (to_z-of_z fits) at c.empty_span_is_in_time.ensures;
    }
