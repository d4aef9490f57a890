use Rattle.std.proofs.Common.{◌≡◌, refl, subst}
use Rattle.std.proofs.lemmas.Result.{err_from_is_err_and}
use Rattle.msr_input.specs.declared.fault.ReadFault.TheVariants as fault
use Rattle.msr_input.specs.Rows.{RowReading, StopsRows}
use Rattle.msr_input.specs.declared.settings.Settings.{Settings}
use Rattle.msr_input.proofs.Rows.{next_read, reads_on, reads_one, room_told, row_given, rows_come, rows_stop, same_row_settings, steps_to}
use Rattle.msr_input.proofs.row_reader.RowReader.next_record.Goals as goal

pub returns-in_err-found-clause-read : goal.returns-in_err-found-clause-read
returns-in_err-found-clause-read g c =
    let p = err_from_is_err_and c.from_residual.result c.from_residual.ensures.1 in
    rw (p.1, p.2, ← c.self.view_is) (λ start records answers has.
    rows_stop (record { tolerance = c.self.inside.follow.tolerance; strict = c.self.inside.records.strict }) start
    (g.R.Source.device c.next.new.source) records c.in_err-found.field-0.0
    (c.in_err-found.ensures.came start records has.came) has.in_range)

pub returns-in_err-found-clause-kept : goal.returns-in_err-found-clause-kept
returns-in_err-found-clause-kept g c =
    let p = err_from_is_err_and c.from_residual.result c.from_residual.ensures.1 in
    let at : RowReading = record { position = c.self.inside.records; following = c.self.inside.follow } in
    rw (p.1, p.2, ← c.self.view_is) (λ start records answers has other.
    rows_come start (g.R.Source.device c.args.source.now)
    (g.R.Source.device c.next.new.source) at c.next.new.self records answers has
    (c.in_err-found.ensures.kept start records has.came other))

pub returns-in_err-found-clause-failed : goal.returns-in_err-found-clause-failed
returns-in_err-found-clause-failed g c =
    let p = err_from_is_err_and c.from_residual.result c.from_residual.ensures.1 in
    rw (p.1, p.2, ← c.self.view_is) (λ start records answers has e.
    let same : c.in_err-found.field-0.0 ≡ fault.Read = cc in
    c.in_err-found.ensures.failed start records has.came (rw same refl))

pub returns-in_default-clause-exact : goal.returns-in_default-clause-exact
returns-in_default-clause-exact g c =
    let at : RowReading = record { position = c.self.inside.records; following = c.self.inside.follow } in
    let end = rw c.in_default.is at c.in_ok-found.ensures.next in
    rw (← c.self.view_is) (λ start records answers has.
    let filled = rows_come start _ _ at c.next.new.self records answers has
    (c.in_ok-found.ensures.came start records has.came) in
    record { read = filled; none_wait = end.0; ended = end.1 })

pub returns-in_default-clause-read : goal.returns-in_default-clause-read
returns-in_default-clause-read g c =
    let at : RowReading = record { position = c.self.inside.records; following = c.self.inside.follow } in
    let end = rw c.in_default.is at c.in_ok-found.ensures.next in
    rw (← c.self.view_is) (λ start records answers has.
    let filled = rows_come start _ _ at c.next.new.self records answers has
    (c.in_ok-found.ensures.came start records has.came) in
    record { none = record { after = records; rows = refl; read = filled }; none_wait = end.0; ended = end.1 })

pub outline_of-outline-requires : goal.outline_of-outline-requires
outline_of-outline-requires g c =
    let judged = (rw c.in-Some.is at c.in_ok-found.ensures.next).judged in
    rw judged.stands_for judged.can_join

pub take-requires : goal.take-requires
take-requires g c =
    let judged = (rw c.in-Some.is at c.in_ok-found.ensures.next).judged in
    (c.in-Some.found, next_read c.next.new.self c.in-Some.found c.outline_of-outline.result judged c.outline_of-outline.ensures)

pub returns-in_err-step-clause-read : goal.returns-in_err-step-clause-read
returns-in_err-step-clause-read g c =
    let p = err_from_is_err_and c.from_residual-in_err-step.result c.from_residual-in_err-step.ensures.1 in
    let why = c.in_err-step.field-0.0 in
    let at : RowReading = record { position = c.self.inside.records; following = c.self.inside.follow } in
    let after : RowReading = record { position = c.next.new.self; following = c.self.inside.follow } in
    let same = same_row_settings after at refl c.next.ensures.strict in
    let judged = (rw c.in-Some.is at c.in_ok-found.ensures.next).judged in
    let next = next_read c.next.new.self c.in-Some.found c.outline_of-outline.result judged c.outline_of-outline.ensures in
    rw (p.1, p.2, ← c.self.view_is) (λ start records answers has.
    let filled = rows_come start _ _ at c.next.new.self records answers has
    (c.in_ok-found.ensures.came start records has.came) in
    subst (λ (settings : Settings). StopsRows settings start (g.R.Source.device c.next.new.source) records why) same
    (c.in_err-step.ensures.read start
    (g.R.Source.device c.next.new.source) records answers c.in-Some.found filled next))

pub returns-in_err-step-clause-kept : goal.returns-in_err-step-clause-kept
returns-in_err-step-clause-kept g c =
    let p = err_from_is_err_and c.from_residual-in_err-step.result c.from_residual-in_err-step.ensures.1 in
    let at : RowReading = record { position = c.self.inside.records; following = c.self.inside.follow } in
    rw (p.1, p.2, c.in_err-step.ensures.unchanged, ← c.self.view_is) (λ start records answers has other.
    rows_come start (g.R.Source.device c.args.source.now)
    (g.R.Source.device c.next.new.source) at c.next.new.self records answers has
    (c.in_ok-found.ensures.came start records has.came))

pub returns-in_err-step-clause-unread : goal.returns-in_err-step-clause-unread
returns-in_err-step-clause-unread g c = rw (← c.self.view_is) c.next.ensures.unread

pub returns-clause-exact : goal.returns-clause-exact
returns-clause-exact g c =
    let at : RowReading = record { position = c.self.inside.records; following = c.self.inside.follow } in
    let judged = (rw c.in-Some.is at c.in_ok-found.ensures.next).judged in
    let next = next_read c.next.new.self c.in-Some.found c.outline_of-outline.result judged c.outline_of-outline.ensures in
    rw (c.next_row-row.ensures, ← c.self.view_is) (λ start records answers has.
    let filled = rows_come start _ _ at c.next.new.self records answers has
    (c.in_ok-found.ensures.came start records has.came) in
    reads_one start (g.R.Source.device c.next.new.source) c.next.new.self c.self.inside.follow c.take.new.self records
    answers c.outline_of-outline.result c.in-Some.found c.in_ok-step.step next c.in_ok-step.ensures.step
    (c.in_ok-step.ensures.read start (g.R.Source.device c.next.new.source) records answers c.in-Some.found filled next))

pub returns-clause-read : goal.returns-clause-read
returns-clause-read g c =
    let at : RowReading = record { position = c.self.inside.records; following = c.self.inside.follow } in
    let judged = (rw c.in-Some.is at c.in_ok-found.ensures.next).judged in
    let next = next_read c.next.new.self c.in-Some.found c.outline_of-outline.result judged
    c.outline_of-outline.ensures in
    rw (c.next_row-row.ensures, ← c.self.view_is) (λ start records answers has.
    let filled = rows_come start _ _ at c.next.new.self records answers has
    (c.in_ok-found.ensures.came start records has.came) in
    reads_on start (g.R.Source.device c.next.new.source) c.take.new.self records answers _
    (reads_one start (g.R.Source.device c.next.new.source) c.next.new.self c.self.inside.follow c.take.new.self records
    answers c.outline_of-outline.result c.in-Some.found c.in_ok-step.step next c.in_ok-step.ensures.step
    (c.in_ok-step.ensures.read start (g.R.Source.device c.next.new.source) records answers c.in-Some.found filled next)))

pub returns-clause-room : goal.returns-clause-room
returns-clause-room g c =
    let given = rw c.in-Some.is at c.in_ok-found.ensures.next in
    rw (c.take.ensures.room, ← c.self.view_is) (room_told c.next.new.self c.in-Some.found c.outline_of-outline.result
    c.self.inside.records.room given c.outline_of-outline.ensures)

pub returns-clause-step : goal.returns-clause-step
returns-clause-step g c =
    let follows = rw c.outline_of-outline.ensures at c.in_ok-step.ensures.step in
    rw (c.next_row-row.ensures, ← c.self.view_is)
    (steps_to c.self.inside.follow c.take.new.self.following c.in-Some.found.row c.in_ok-step.step follows)

pub returns-clause-row : goal.returns-clause-row
returns-clause-row g c =
    let judged = (rw c.in-Some.is at c.in_ok-found.ensures.next).judged in
    let next = next_read c.next.new.self c.in-Some.found c.outline_of-outline.result judged c.outline_of-outline.ensures in
    rw c.next_row-row.ensures
    (row_given c.next.new.self.waiting c.in-Some.found c.in_ok-step.step next.is_record next.can_join)
