-- Records without a row are passed over, until one has a row.
use Rattle.std.proofs.Common.{◌≡◌, ◌≤◌, ◌∙◌, arith, refl, subst, sym}
use Rattle.std.proofs.lemmas.Result.{err_from_is_err_and}
use Rattle.msr_devices.proofs.Chaining.{calm_same, steady_steady, steady_then_few}
use Rattle.msr_segments.specs.Spans.{IsInBounds}
use Rattle.msr_input.specs.Records.{left_with}
use Rattle.msr_input.specs.Rows.{ReadsNoRow, RowReading, StopsRows, row_settings}
use Rattle.msr_input.specs.declared.settings.Settings.{Settings}
use Rattle.msr_input.proofs.Rows.{end_behind, next_of, none_behind, outline_behind, outline_bounds, outline_none, outline_stays, outline_told, reads_one, reads_on, rows_come, rows_stop, same_row_settings, stops_behind}
use Rattle.msr_input.proofs.row_reader.RowReader.next_outline.Goals as goal

pub records-init : goal.records-init
records-init g c = record {
  read = λ start records answers has. record { after = records; rows = refl; read = has };
  following = refl;
  settings = refl;
  left = omega arith;
  steady = (calm_same (g.R.Source.device c.args.source.now)).steady;
}

pub returns-in_err-found-clause-read : goal.returns-in_err-found-clause-read
returns-in_err-found-clause-read g c =
    let p = err_from_is_err_and c.from_residual.result c.from_residual.ensures.1 in
    let why = c.in_err-found.field-0.0 in
    let at : RowReading = record { position = c.self.inside.records; following = c.self.inside.follow } in
    let source = g.R.Source.device c.records.source in
    let new = g.R.Source.device c.next.new.source in
    let settings : row_settings at ≡ row_settings c.args.self.now =
    rw (← c.self.view_is) at c.records.invariant.settings in
    rw (p.1, p.2) (λ start records answers has.
    let none : ReadsNoRow start source at records answers =
    rw (← c.self.view_is) at (c.records.invariant.read start records answers has) in
    let stop = rows_stop (row_settings at) start new none.after why
    (c.in_err-found.ensures.came start none.after none.read.came) none.read.in_range in
    subst (λ (s : Settings). StopsRows s start new records why) settings
    (stops_behind (row_settings at) start source new at records answers why none stop))

pub returns-in_err-found-clause-kept : goal.returns-in_err-found-clause-kept
returns-in_err-found-clause-kept g c =
    let p = err_from_is_err_and c.from_residual.result c.from_residual.ensures.1 in
    let at : RowReading = record { position = c.self.inside.records; following = c.self.inside.follow } in
    let source = g.R.Source.device c.records.source in
    let new = g.R.Source.device c.next.new.source in
    rw (p.1, p.2) (λ start records answers has other.
    let none : ReadsNoRow start source at records answers =
    rw (← c.self.view_is) at (c.records.invariant.read start records answers has) in
    record {
      after = none.after;
      rows = none.rows;
      read = rows_come start source new at c.next.new.self none.after answers none.read
          (c.in_err-found.ensures.kept start none.after none.read.came other);
    })

pub take-requires : goal.take-requires
take-requires g c = next_of c.next.new.self c.in-Some.found (rw c.in-Some.is at c.in_ok-found.ensures.next).judged

pub returns-in_err-step-clause-read : goal.returns-in_err-step-clause-read
returns-in_err-step-clause-read g c =
    let p = err_from_is_err_and c.from_residual-in_err-step.result c.from_residual-in_err-step.ensures.1 in
    let why = c.in_err-step.field-0.0 in
    let at : RowReading = record { position = c.self.inside.records; following = c.self.inside.follow } in
    let after : RowReading = record { position = c.next.new.self; following = c.self.inside.follow } in
    let source = g.R.Source.device c.records.source in
    let new = g.R.Source.device c.next.new.source in
    let given = next_of c.next.new.self c.in-Some.found (rw c.in-Some.is at c.in_ok-found.ensures.next).judged in
    let settings : row_settings at ≡ row_settings c.args.self.now =
    rw (← c.self.view_is) at c.records.invariant.settings in
    let same = same_row_settings after at refl c.next.ensures.strict ∙ settings in
    rw (p.1, p.2) (λ start records answers has.
    let none : ReadsNoRow start source at records answers =
    rw (← c.self.view_is) at (c.records.invariant.read start records answers has) in
    let filled = rows_come start source new at c.next.new.self none.after answers none.read
    (c.in_ok-found.ensures.came start none.after none.read.came) in
    let stop = c.in_err-step.ensures.read start new none.after answers given.0 filled given.1 in
    subst (λ (s : Settings). StopsRows s start new records why) same
    (stops_behind (row_settings after) start source new at records answers why none stop))

pub returns-in_err-step-clause-kept : goal.returns-in_err-step-clause-kept
returns-in_err-step-clause-kept g c =
    let p = err_from_is_err_and c.from_residual-in_err-step.result c.from_residual-in_err-step.ensures.1 in
    let at : RowReading = record { position = c.self.inside.records; following = c.self.inside.follow } in
    let source = g.R.Source.device c.records.source in
    let new = g.R.Source.device c.next.new.source in
    rw (p.1, p.2, c.in_err-step.ensures.unchanged) (λ start records answers has other.
    let none : ReadsNoRow start source at records answers =
    rw (← c.self.view_is) at (c.records.invariant.read start records answers has) in
    let filled = rows_come start source new at c.next.new.self none.after answers none.read
    (c.in_ok-found.ensures.came start none.after none.read.came) in
    record { after = none.after; rows = none.rows; read = filled })

pub returns-in-Some-next_outline-clause-read : goal.returns-in-Some-next_outline-clause-read
returns-in-Some-next_outline-clause-read g c =
    let at : RowReading = record { position = c.self.inside.records; following = c.self.inside.follow } in
    let source = g.R.Source.device c.records.source in
    let new = g.R.Source.device c.next.new.source in
    let given = next_of c.next.new.self c.in-Some.found (rw c.in-Some.is at c.in_ok-found.ensures.next).judged in
    λ start records answers has.
    let none : ReadsNoRow start source at records answers =
    rw (← c.self.view_is) at (c.records.invariant.read start records answers has) in
    let filled = rows_come start source new at c.next.new.self none.after answers none.read
    (c.in_ok-found.ensures.came start none.after none.read.came) in
    let taken = reads_on start new c.take.new.self none.after answers _
    (reads_one start new c.next.new.self c.self.inside.follow c.take.new.self none.after answers c.in-Some.found given.0
    c.in_ok-step.step given.1 c.in_ok-step.ensures.step
    (c.in_ok-step.ensures.read start new none.after answers given.0 filled given.1)) in
    let told = outline_told start new c.next.new.self c.take.new.self none.after answers c.in-Some.found given.0
    c.in_ok-step.step c.in-Some-next_outline.next given.1
    (sym c.next_outline.ensures ∙ c.in-Some-next_outline.is) taken in
    outline_behind start source new at c.take.new.self records answers c.in-Some-next_outline.next none told

pub returns-in-Some-next_outline-clause-in_bounds : goal.returns-in-Some-next_outline-clause-in_bounds
returns-in-Some-next_outline-clause-in_bounds g c =
    outline_bounds (IsInBounds c.take.new.self.following.current) c.in-Some.found.row c.in_ok-step.step
    c.in-Some-next_outline.next (sym c.next_outline.ensures ∙ c.in-Some-next_outline.is) c.in_ok-step.ensures.in_bounds

pub returns-in-Some-next_outline-clause-few : goal.returns-in-Some-next_outline-clause-few
returns-in-Some-next_outline-clause-few g c = steady_then_few _ _ _ c.records.invariant.steady c.next.ensures.few

pub records-preserved : goal.records-preserved
records-preserved g c =
    let at : RowReading = record { position = c.self.inside.records; following = c.self.inside.follow } in
    let after : RowReading = record { position = c.next.new.self; following = c.self.inside.follow } in
    let source = g.R.Source.device c.records.source in
    let new = g.R.Source.device c.next.new.source in
    let given = next_of c.next.new.self c.in-Some.found (rw c.in-Some.is at c.in_ok-found.ensures.next).judged in
    let told = sym c.next_outline.ensures ∙ c.in_default-next_outline.is in
    let before : at.following ≡ c.args.self.now.following = rw (← c.self.view_is) at c.records.invariant.following in
    let still = outline_stays c.self.inside.follow c.take.new.self.following c.in-Some.found.row c.in_ok-step.step
    c.in_ok-step.ensures.step told in
    let settings : row_settings at ≡ row_settings c.args.self.now =
    rw (← c.self.view_is) at c.records.invariant.settings in
    let left : left_with source at.position.waiting ≤ left_with
    (g.R.Source.device c.args.source.now) c.args.self.now.position.waiting =
    rw (← c.self.view_is) at c.records.invariant.left in
    record {
      read = λ start records answers has.
          let none : ReadsNoRow start source at records answers =
          rw (← c.self.view_is) at (c.records.invariant.read start records answers has) in
          let filled = rows_come start source new at c.next.new.self none.after answers none.read
          (c.in_ok-found.ensures.came start none.after none.read.came) in
          let taken = reads_on start new c.take.new.self none.after answers _
          (reads_one start new c.next.new.self c.self.inside.follow c.take.new.self none.after answers
          c.in-Some.found given.0 c.in_ok-step.step given.1 c.in_ok-step.ensures.step
          (c.in_ok-step.ensures.read start new none.after answers given.0 filled given.1)) in
          none_behind start source new at c.take.new.self records answers none
          (outline_none start new c.next.new.self c.take.new.self none.after answers c.in-Some.found given.0
          c.in_ok-step.step given.1 told taken);
      following = still ∙ before;
      settings = same_row_settings c.take.new.self at still (c.take.ensures.strict ∙ c.next.ensures.strict) ∙ settings;
      left = omega (arith, left, c.in_ok-found.ensures.left, c.in_ok-step.ensures.fewer);
      steady = steady_steady _ _ _ c.records.invariant.steady c.in_ok-found.ensures.steady;
    }

pub returns-clause-read : goal.returns-clause-read
returns-clause-read g c =
    let at : RowReading = record { position = c.self.inside.records; following = c.self.inside.follow } in
    let after : RowReading = record { position = c.next.new.self; following = c.self.inside.follow } in
    let source = g.R.Source.device c.records.source in
    let new = g.R.Source.device c.next.new.source in
    let end = rw c.in_default.is at c.in_ok-found.ensures.next in
    λ start records answers has.
    let none : ReadsNoRow start source at records answers =
    rw (← c.self.view_is) at (c.records.invariant.read start records answers has) in
    let filled = rows_come start source new at c.next.new.self none.after answers none.read
    (c.in_ok-found.ensures.came start none.after none.read.came) in
    end_behind start source new at after records answers none
    (record { none = record { after = none.after; rows = refl; read = filled }; none_wait = end.0; ended = end.1 })
