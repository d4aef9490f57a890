use Rattle.std.proofs.Common.{rules, ◌≤◌, ◌-◌, arith, FitsSigned, w64, to_z-of_z, OnOk, ◌∙◌}
use Rattle.std.specs.Prelude.{slice_range}
use Rattle.msr_record.specs.Written.{AppendsRecord}
use Rattle.msr_time.specs.Instant.{IsInstant}
use Rattle.msr_base.specs.Lengths.{bytes_of}
use Rattle.msr_record.proofs.Times.{nominal_between, nominal_found, some_where}
use Rattle.msr_record.proofs.Runs.{record_of_run, on_ok}
use Rattle.msr_record.proofs.opened.OpenSegment.encode_shown.Goals as goal
use Rattle.msr_packer.specs.HeldSamples.{before_place}

pub unwrap-first-requires : goal.unwrap-first-requires
unwrap-first-requires c =
    let own = c.self.inside in
    let fits : FitsSigned w64 own.start = search rules in
    let found = rw (to_z-of_z fits) at c.nominal.ensures.found in
    let can = rw (← c.self.view_is) at c.requires.can in
    let in_time = can.in_time in
    let earlier : c.args.run.start ≤ can.count - 1 = omega (arith, can.inside) in
    some_where c.nominal.result (IsInstant found.0) found.0 found.2
    (nominal_between own.key.rate own.start found.0 in_time.last c.args.run.start _ earlier found.1
    in_time.nominal in_time.first_in in_time.last_in)

pub returns : goal.returns
returns c = λ segment separator key_is start_is shown.
    let own = c.self.inside in
    let key = rw (← c.self.view_is) at key_is in
    let fits : FitsSigned w64 own.start = search rules in
    let start = rw (← c.self.view_is) at start_is in
    let shows = rw (← c.self.view_is) at shown in
    let found = rw (to_z-of_z fits) at c.nominal.ensures.found in
    let nominal = nominal_found own.key.rate own.start c.unwrap-first.result c.args.run.start c.nominal.result
    found c.unwrap-first.ensures in
    let first_fits : FitsSigned w64 c.unwrap-first.result = search rules in
    let appended : OnOk c.encode_run.result
    (AppendsRecord c.args.out.now.items c.encode_run.new.out.items own.key c.unwrap-first.result
    c.args.number (before_place segment.samples c.args.run.start)
    (slice_range segment.samples c.args.run.start c.args.run.end) c.args.run.kind (bytes_of own.form.length)) =
    rw (
      to_z-of_z first_fits,
      c.sample_before.ensures ∙ shows.before_run,
      c.run_samples.ensures ∙ shows.run,
    ) at c.encode_run.ensures.appended in
    rw (← c.self.view_is) (on_ok c.encode_run.result
    (λ a. record_of_run (bytes_of own.form.length) c.args.number segment c.args.run c.unwrap-first.result _ _
    (rw (key, start) at nominal) (rw key at a)) appended)
