use Rattle.std.proofs.Common.{◌≡◌, ap, sym, refl, subst, rules, List, ℕ, Bool, true, ◌<◌, ◌^◌, ◌++◌, [], All, w64, FitsSigned, to_z-of_z}
use Rattle.msr_report.specs.declared.report.SegmentLine.{SegmentLine}
use Rattle.msr_report_reader.specs.Draft.{ReadSegments, numbers_then}
use Rattle.msr_report_reader.specs.declared.draft.Expected.TheVariants.{Segment, Number}
use Rattle.msr_report_reader.proofs.Steps.{closes, follows_at}
use Rattle.msr_report_reader.proofs.draft.Draft.go_on.Goals as goal

pub returns-then-not-last : goal.returns-then-not-last
returns-then-not-last c = λ past read fits.
    let numbers : List ℕ = c.args.self.now.numbers.items in
    follows_at _ (Number c.args.first c.args.line) (past ++ numbers_then numbers c.args.last) refl record {
      before = past;
      read = read;
      each = fits;
      is = ap (λ (last : Bool). past ++ numbers_then numbers last) c.if-not-last.true;
    }

pub returns : goal.returns
returns c = λ past read fits.
    let numbers : List ℕ = c.args.self.now.numbers.items in
    let fits_start : FitsSigned w64 c.args.line.start = search rules in
    let same : c.replace-separators.result.items ≡ c.args.self.now.numbers.items =
    rw c.replace-separators.ensures.value refl in
    let fits_these : All (λ n. n < 2 ^ 64) c.replace-separators.result.items = rw same fits in
    let none : c.replace-separators.new.dest.items ≡ [] = rw c.replace-separators.ensures.after c.new.ensures.items in
    let segment : SegmentLine = record {
      key = c.args.line.key;
      start = c.args.line.start;
      samples = c.args.line.samples;
      records = c.args.line.records;
      separators = c.replace-separators.result;
    } in
    let closed = closes c.args.first c.args.self.now.segments.items c.push.new.self.items segment c.args.line past read
    (rw (to_z-of_z fits_start) at c.in_ok-push.ensures.items) refl refl refl refl fits_these in
    let ended : ReadSegments c.args.first c.push.new.self.items (past ++ numbers_then numbers c.args.last) =
    subst (λ (last : Bool). ReadSegments c.args.first c.push.new.self.items (past ++ numbers_then numbers last))
    (sym c.if-not-last.false)
    (subst (λ (ns : List ℕ). ReadSegments c.args.first c.push.new.self.items (past ++ numbers_then ns true)) same
    closed) in
    follows_at _ (Segment c.args.first) (past ++ numbers_then numbers c.args.last) refl (ended, none)
