use Rattle.std.proofs.Common.{◌∙◌, ◌++◌, ap, List, ℕ}
use Rattle.msr_report.specs.Json.{IsJsonLine}
use Rattle.msr_report.proofs.JsonLines.{line_pushed}
use Rattle.msr_report.proofs.json.push_json_line.Goals as goal

pub returns-clause-pushed : goal.returns-clause-pushed
returns-clause-pushed c =
    let put = c.in_ok-push_object.ensures in
    line_pushed c.extend_from_slice.result _ _ put.0 _ (IsJsonLine c.args.before c.args.segment.now) put.1.0
    (c.as_bytes.ensures.value ∙ put.1.1
    ∙ ap (λ (t : List ℕ). t ++ put.0) c.in_ok-text.ensures.bytes) c.extend_from_slice.ensures.items
