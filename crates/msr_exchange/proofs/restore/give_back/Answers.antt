use Rattle.std.proofs.Common.{[], Bool, Some}
use Rattle.std.proofs.lemmas.Result.{err_from_is_err_and}
use Rattle.msr_tree.proofs.Acting.{giving}
use Rattle.msr_tree.proofs.Changes.{leaves_kept}
use Rattle.msr_exchange.specs.Moves.{Anything}
use Rattle.msr_exchange.specs.Phases.{AreHome}
use Rattle.msr_exchange.proofs.Alone.{all_end, all_stopped, all_then}
use Rattle.msr_exchange.proofs.Phases.{home_moments, says_nothing}
use Rattle.msr_exchange.specs.declared.told.Told.TheVariants as told
use Rattle.msr_exchange.specs.declared.names.Place.TheVariants.{Original, Records}
use Rattle.msr_exchange.proofs.restore.give_back.Goals as goal

pub returns-in_err-was_touched : goal.returns-in_err-was_touched
returns-in_err-was_touched g c =
    let p = err_from_is_err_and c.from_residual.result c.from_residual.ensures.1 in
    let names = c.args.names.now in
    rw (p.1, p.2) (all_stopped names Records Original [] (AreHome names Records Original) (λ n none. tt)
    (λ a b p q home ch. home_moments names Records Original [] a b p q tt tt home ch) tt tt (Anything {T = Bool}) _ _ _ c.in_err-was_touched.ensures)

pub returns-then-branch : goal.returns-then-branch
returns-then-branch g c =
    let names = c.args.names.now in
    all_end names Records Original [] (AreHome names Records Original) (λ n none. tt)
    (λ a b p q home ch. home_moments names Records Original [] a b p q tt tt home ch) tt tt (Anything {T = Bool}) (giving c.in_ok-was_touched.field-0) (giving told.Changed) _ _ (λ is. cc)
    (λ a b p q home did ch. says_nothing names Records a b q told.Changed (λ is. cc) (λ is. cc)) c.in_ok-was_touched.ensures

pub returns : goal.returns
returns g c =
    let names = c.args.names.now in
    all_then names Records Original [] (AreHome names Records Original) (λ n none. tt)
    (λ a b p q home ch. home_moments names Records Original [] a b p q tt tt home ch) tt tt (Anything {T = Bool}) (AreHome names Records Original) c.in_ok-was_touched.field-0 _ _ _ _
    (λ a b p q home did ch. record { day = leaves_kept [] names.day (Some a) p q tt ch home.day; comes = leaves_kept [] names.original (Some b) p q tt ch home.comes }) c.in_ok-was_touched.ensures c.keep_records.ensures
