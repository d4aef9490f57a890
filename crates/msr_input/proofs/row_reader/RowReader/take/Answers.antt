use Rattle.std.proofs.Common.{◌≡◌, ap, subst}
use Rattle.std.proofs.lemmas.Result.{err_from_is_err_and}
use Rattle.std.specs.Prelude.{option_map, Option}
use Rattle.msr_input.specs.Outlines.{row_outline}
use Rattle.msr_input.specs.Steps.{FollowsIfAny, StopsFollowing}
use Rattle.msr_input.specs.declared.outline.Outline.{Outline}
use Rattle.msr_input.specs.declared.outline.RowOutline.{RowOutline}
use Rattle.msr_input.proofs.Rows.{follow_stops, rows_passed}
use Rattle.msr_input.proofs.row_reader.RowReader.take.Goals as goal

pub returns-in_err-step-clause-read : goal.returns-in_err-step-clause-read
returns-in_err-step-clause-read c =
    let p = err_from_is_err_and c.from_residual.result c.from_residual.ensures.1 in
    let old = c.self.inside.records in
    let why = c.in_err-step.field-0.0 in
    rw (p.1, p.2, ← c.self.view_is) (λ start now records answers found has next.
    let row : c.args.outline.now.row ≡ option_map row_outline found.row = ap (λ (o : Outline). o.row) next.outline_is in
    let stop : StopsFollowing c.self.inside.follow c.args.outline.now.row old.offset why =
    rw c.offset.ensures at c.in_err-step.ensures.refused in
    follow_stops start now (record {
      position = old;
      following = c.self.inside.follow;
    }) records answers found why has next.is_record next.agrees
    (subst (λ (r : Option RowOutline). StopsFollowing c.self.inside.follow r old.offset why) row stop))

pub returns-clause-read : goal.returns-clause-read
returns-clause-read c =
    let old = c.self.inside.records in
    let step = c.in_ok-step.step in
    rw (← c.self.view_is) (λ start now records answers found has next.
    let row : c.args.outline.now.row ≡ option_map row_outline found.row = ap (λ (o : Outline). o.row) next.outline_is in
    let come = c.pass.ensures.passed start now records found has.came next in
    rows_passed start now old c.pass.new.self c.self.inside.follow c.follow.new.follow records answers found step
    has next.is_record
    (subst (λ (r : Option RowOutline). FollowsIfAny c.self.inside.follow r step c.follow.new.follow) row
    c.in_ok-step.ensures.followed) come)
