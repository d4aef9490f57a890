use Rattle.std.proofs.Common.{refl}
use Rattle.msr_verdict.specs.Packed.{form_by}
use Rattle.msr_verdict.proofs.ComparingStates.{follows_none}
use Rattle.msr_verdict.proofs.checker.Checker.new.Goals as goal

pub returns : goal.returns
returns c =
    let a = c.new.ensures in
    record {
      report_is = refl;
      follows = follows_none (form_by c.args.report.now) c.args.report.now.segments.items _ c.new.result refl
          (record { place = a.place; is_open = a.is_open; judged = a.judged; agrees = a.agrees });
    }
