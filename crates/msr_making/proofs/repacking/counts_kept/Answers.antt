use Rattle.std.proofs.Common.{◌∙◌, ap, rules, sym, subst, Option}
use Rattle.msr_options.specs.declared.names.DayName.{DayName}
use Rattle.msr_folders.specs.Belonging.{IsFoundAsAsked, told_segments}
use Rattle.msr_making.proofs.Fewer.{none_of}
use Rattle.msr_base.specs.Lengths.{bytes_of}
use Rattle.msr_making.proofs.repacking.counts_kept.Goals.{else-is_strict-via-then-is_strict+else-report-ne0, else-is_strict-via-else-is_strict}
use Rattle.msr_making.proofs.repacking.counts_kept.Goals as goal

pub returns-clause-left : goal.returns-clause-left
returns-clause-left g c =
    let read = c.in-Ok.ensures.answer in
    record {
      is = record {
        text = read.0;
        report = c.in-Ok.report;
        reads = read.2;
        record_length = sym c.bytes.ensures.same ∙ c.if-bytes.false ∙ c.bytes-2.ensures.same
            ∙ ap bytes_of c.length.ensures.same;
        kinds = search rules;
        tolerance = c.if-report-tolerance.false ∙ c.tolerance.ensures.same;
        agree = λ strict. elim c.else-is_strict.branch [
          | else-is_strict-via-then-is_strict+else-report-ne0 w ↦ w.if-report-ne0.false
          | else-is_strict-via-else-is_strict w ↦ (let lenient = sym c.is_strict.ensures ∙ w.if-is_strict.false in
              absurd cc)
        ];
        belong = subst (λ (found : Option DayName). IsFoundAsAsked c.args.asked.now.names (told_segments c.in-Ok.report.segments.items) found) (none_of c.misplaced.result (sym c.is_some.ensures ∙ c.if-is_some.false)) c.misplaced.ensures;
        read = c.counted.ensures.read;
        written = c.counted.ensures.written;
        bytes = search rules;
        samples = c.counted.ensures.samples;
      };
      left = read.1;
    }
