use Rattle.std.proofs.Common.{◌∷◌, ◌++◌, [], ◌∙◌}
use Rattle.std.proofs.lemmas.Result.{err_from_is_err_and}
use Rattle.msr_devices.proofs.Chaining.{steady_sound, steady_steady, steady_then_few}
use Rattle.msr_input.specs.Rows.{answer_told}
use Rattle.msr_verdict.proofs.StoppedReading.{all_read, as_answer, memory_fails, read_fails, read_tells, stops_so}
use Rattle.msr_verdict.proofs.verify.verify_records.Goals as goal

pub records-init : goal.records-init
records-init g c =
    let r = c.requires.reader in
    record { records = []; answers = []; read = r.0; settings = r.1; checks = c.requires.checker }

pub returns-in_err-next : goal.returns-in_err-next
returns-in_err-next g c =
    let p = err_from_is_err_and c.from_residual.result c.from_residual.ensures.1 in
    let u = c.records.invariant in
    let report = c.args.checker.now.report.now in
    let start = g.R.Source.device c.args.source.now in
    let now = g.R.Source.device c.next_record.new.source in
    let why = c.in_err-next.field-0.0 in
    let stops = c.in_err-next.ensures.read start u.records u.answers u.read in
    rw (p.1, p.2) (
      as_answer _ _ _ (read_fails report _ start (g.R.Source.device c.records.source) now c.records.reader
          _ why u stops),
      read_tells _ start now [] why (stops_so report _ start (g.R.Source.device c.records.source) now
          c.records.reader _ why u stops),
      steady_then_few _ _ _ u.read.came.steady c.next_record.ensures.few,
    )

pub records-preserved : goal.records-preserved
records-preserved g c =
    let u = c.records.invariant in
    let start = g.R.Source.device c.args.source.now in
    let one = rw c.in-Some.is at (c.in_ok-next.ensures.exact start u.records u.answers u.read) in
    rw c.give_back.ensures (record {
      records = u.records ++ one.found ∷ [];
      answers = u.answers ++ answer_told c.in-Some.next.row;
      read = one.read;
      settings = c.next_record.ensures.settings ∙ u.settings;
      checks = c.in-Ok.ensures c.args.checker.now c.records.reader.following c.next_record.new.self.following u.records
          one.found u.checks (record {
            length_is = one.length_is;
            row_is = one.row_is;
            step = rw c.in-Some.is at c.in_ok-next.ensures.step;
          });
    })

pub returns-in_default-see : goal.returns-in_default-see
returns-in_default-see g c =
    let u = c.records.invariant in
    let start = g.R.Source.device c.args.source.now in
    let one = rw c.in-Some.is at (c.in_ok-next.ensures.exact start u.records u.answers u.read) in
    let steady = steady_steady _ _ _ u.read.came.steady c.in_ok-next.ensures.steady in (
      as_answer _ _ _ (memory_fails c.args.checker.now.report.now start (g.R.Source.device c.next_record.new.source)
          c.next_record.new.self _ _ one.read (c.next_record.ensures.settings ∙ u.settings)),
      ((λ e. absurd cc), (λ failed. absurd (steady_sound _ _ steady failed))),
      steady_then_few _ _ _ u.read.came.steady c.next_record.ensures.few,
    )

pub returns : goal.returns
returns g c =
    let u = c.records.invariant in
    let report = c.args.checker.now.report.now in
    let start = g.R.Source.device c.args.source.now in
    let none = rw c.in_default.is at (c.in_ok-next.ensures.exact start u.records u.answers u.read) in
    let steady = steady_steady _ _ _ u.read.came.steady c.in_ok-next.ensures.steady in
    let all = all_read report _ start (g.R.Source.device c.records.source) (g.R.Source.device c.next_record.new.source)
    c.records.reader c.next_record.new.self _ u none c.next_record.ensures.settings in (
      (all.0, all.1, c.verdict.ensures report all.0 all.2),
      ((λ e. absurd cc), (λ failed. absurd (steady_sound _ _ steady failed))),
      steady_then_few _ _ _ u.read.came.steady c.next_record.ensures.few,
    )
