use Rattle.std.proofs.Common.{FitsSigned, codes, decimal, rules, string_bytes, to_z-of_z, w64}
use Rattle.msr_report.proofs.Pieces.{six_pieces}
use Rattle.msr_report.proofs.json.push_times.Goals as goal

pub returns : goal.returns
returns c =
    let fits : FitsSigned w64 c.args.start = search rules in
    let fits_last : FitsSigned w64 c.args.last = search rules in
    let start = c.in_ok-push_iso.ensures in
    let end = c.in_ok-push_iso-2.ensures in (
      start.0,
      (
        end.0,
        (
          rw (to_z-of_z fits) at (start.1.0),
          (
            rw (to_z-of_z fits_last) at (end.1.0),
            six_pieces (string_bytes c.args.text.now) (codes ",\"start\":\"") start.0 (codes "\",\"end\":\"") end.0
                (codes "\",\"samples\":") (decimal c.args.samples) _ _ _ _ _ _ c.in_ok-push_str.ensures.bytes
                start.1.1 c.in_ok-push_str-2.ensures.bytes end.1.1 c.in_ok-push_str-3.ensures.bytes
                c.in_ok-push_decimal.ensures,
          ),
        ),
      ),
    )
