use Rattle.std.proofs.lemmas.Result.{err_from_is_err_and}
use Rattle.msr_tree.proofs.Acting.{goes_more, goes_within, stopped_as, then_given}
use Rattle.std.proofs.Common.{rules, ◌≡◌, ◌∷◌, []}
use Rattle.msr_naming.specs.Making.{LeadsToTaken}
use Rattle.msr_making.specs.Parts.{AreFinished, part_paths}
use Rattle.msr_naming.proofs.Begun.{goes_finished}
use Rattle.msr_making.proofs.Begun.{taken_kept}
use Rattle.msr_making.proofs.parts.finish.Goals as goal

pub returns-in_err-finish_stored : goal.returns-in_err-finish_stored
returns-in_err-finish_stored g c =
    let p = err_from_is_err_and c.from_residual.result c.from_residual.ensures.1 in
    let files = c.args.files.now in
    let l = part_paths files in
    let records = g.T.Writer.Sink.device c.args.parts.records in
    let report = g.T.Writer.Sink.device c.args.parts.report in
    let one : c.as_str.result.now ≡ files.records.part = search rules in
    let first = goes_more {T = Unit {0}} (files.records.part ∷ []) l (λ old new x. LeadsToTaken files.records.part records new) _ _ _ (λ n none. (none.0, tt)) (goes_finished files.records.part records _ _ _ (rw one at c.in_err-finish_stored.ensures)) in
    rw (p.1, p.2) (stopped_as {A = Unit {0}} {B = Unit {0}} l (λ old new x. LeadsToTaken files.records.part records new) (AreFinished files records report) c.in_err-finish_stored.field-0.0 _ _ first)

pub returns : goal.returns
returns g c =
    let files = c.args.files.now in
    let l = part_paths files in
    let records = g.T.Writer.Sink.device c.args.parts.records in
    let report = g.T.Writer.Sink.device c.args.parts.report in
    let one : c.as_str.result.now ≡ files.records.part = search rules in
    let two : c.as_str-2.result.now ≡ files.report.part = search rules in
    let first = goes_more {T = Unit {0}} (files.records.part ∷ []) l (λ old new x. LeadsToTaken files.records.part records new) _ _ _ (λ n none. (none.0, tt)) (goes_finished files.records.part records _ _ _ (rw one at c.in_ok-finish_stored.ensures)) in
    let second = goes_within {T = Unit {0}} (files.report.part ∷ []) l (λ old new x. LeadsToTaken files.report.part report new) _ _ _ (λ n none. (none.1.0, tt)) (goes_finished files.report.part report _ _ _ (rw two at c.finish_stored-2.ensures)) in
    then_given {A = Unit {0}} {B = Unit {0}} l (λ old new x. LeadsToTaken files.records.part records new) _ (AreFinished files records report) tt _ _ _ _
    (λ p q r b taken also a d. λ apart. (taken_kept (files.report.part ∷ []) files.records.part records q r (apart, tt) also.1 taken, also.0)) first second
