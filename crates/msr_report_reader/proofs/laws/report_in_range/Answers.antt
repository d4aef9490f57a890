use Rattle.std.proofs.Common.{◌≡◌, ◌∙◌, sym, arith, get_or, below_more}
use Rattle.std.proofs.lemmas.List.{get_or_default}
use Rattle.msr_report_reader.proofs.Ranges.{is_length, contents_from}
use Rattle.msr_report_reader.proofs.laws.report_in_range.Goals as goal

pub loop-line-preserved : goal.loop-line-preserved
loop-line-preserved c = below_more _ _ c.loop-line.invariant
    (λ d. let same : c.line-item.result ≡ get_or c.args.report.now.segments.items c.loop-line.line-index d =
    (rw c.deref-line-items.ensures.value at c.line-item.is)
    ∙ get_or_default c.args.report.now.segments.items c.loop-line.line-index c.line-item.result d (omega arith) in
    rw (sym same) c.line_in_range.ensures)

pub returns : goal.returns
returns c proper = record {
  first = record {
    is_length = is_length c.args.report.now.length;
    least = proper.least;
    most = proper.most;
    read = c.counts_in_range.ensures.read;
    empty = c.counts_in_range.ensures.empty;
    mismatched = c.counts_in_range.ensures.mismatched;
  };
  segments = contents_from c.args.report.now.segments.items
      (λ k d within. c.loop-line.invariant k (omega arith) d (proper.lines k d within));
}
