use Rattle.std.proofs.Common.{◌≡◌, ◌∙◌, ap, false, true, is_ok, Ok, refl, subst, sym}
use Rattle.std.proofs.lemmas.Result.{err_from_is_err_and}
use Rattle.msr_folders.specs.Names.{day_name}
use Rattle.msr_options.specs.Days.{in_length, with_name}
use Rattle.msr_options.specs.declared.days.DayOptions.{DayOptions}
use Rattle.msr_walk.proofs.DayPaths.{day_within}
use Rattle.msr_walk.proofs.Days.{day_goes, day_told, handles_named, looks_on, tells_after, tells_nothing, tells_untouched, tells_young, untouched, waits_as, works_on_as, works_on_then, young_outcome}
use Rattle.msr_walk.specs.Handling.{AreNamesWithin}
use Rattle.msr_walk.specs.Kills.{day_names_in}
use Rattle.msr_walk.proofs.walker.Walker.handle.Goals as goal

pub returns-in_err-is_young-clause-goes : goal.returns-in_err-is_young-clause-goes
returns-in_err-is_young-clause-goes g c =
    let p = err_from_is_err_and c.from_residual.result c.from_residual.ensures.1 in
    let archive = c.args.self.now.archive.now in
    rw p.1 (tells_nothing archive (with_name (day_name c.args.name.now) archive.days) c.args.path.now (λ told. told.outcome) _ _ _ (looks_on archive (with_name (day_name c.args.name.now) archive.days) c.args.path.now false _ _ c.is_young.ensures.goes))

pub returns-then-branch-clause-told : goal.returns-then-branch-clause-told
returns-then-branch-clause-told g c = rw c.of_day.ensures (young_outcome (with_name (day_name c.args.name.now) c.args.self.now.archive.now.days) (c.in_ok-is_young.ensures.asked c.if-branch.true))

pub returns-then-branch-clause-goes : goal.returns-then-branch-clause-goes
returns-then-branch-clause-goes g c =
    let archive = c.args.self.now.archive.now in
    tells_young archive (with_name (day_name c.args.name.now) archive.days) c.args.path.now (λ told. told.outcome) _ _ _
    (c.in_ok-is_young.ensures.asked c.if-branch.true) c.of_day.ensures c.in_ok-is_young.ensures.goes

pub returns-then-not-apart-clause-told : goal.returns-then-not-apart-clause-told
returns-then-not-apart-clause-told g c = untouched (with_name (day_name c.args.name.now) c.args.self.now.archive.now.days) _

pub returns-then-not-apart-clause-goes : goal.returns-then-not-apart-clause-goes
returns-then-not-apart-clause-goes g c =
    let archive = c.args.self.now.archive.now in
    tells_untouched archive (with_name (day_name c.args.name.now) archive.days) c.args.path.now (λ told. told.outcome) _ _ _ _ refl c.in_ok-is_young.ensures.goes

pub returns-in_err-day-clause-goes : goal.returns-in_err-day-clause-goes
returns-in_err-day-clause-goes g c =
    let p = err_from_is_err_and c.from_residual-in_err-day.result c.from_residual-in_err-day.ensures.1 in
    let archive = c.args.self.now.archive.now in
    rw p.1 (tells_nothing archive (with_name (day_name c.args.name.now) archive.days) c.args.path.now (λ told. told.outcome) _ _ _ (looks_on archive (with_name (day_name c.args.name.now) archive.days) c.args.path.now false _ _ c.in_ok-is_young.ensures.goes))

pub returns-in_err-length-clause-goes : goal.returns-in_err-length-clause-goes
returns-in_err-length-clause-goes g c =
    let p = err_from_is_err_and c.from_residual-in_err-length.result c.from_residual-in_err-length.ensures.1 in
    let archive = c.args.self.now.archive.now in
    let days = with_name (day_name c.args.name.now) archive.days in
    rw p.1 (tells_nothing archive (with_name (day_name c.args.name.now) archive.days) c.args.path.now (λ told. told.outcome) _ _ _
    (works_on_then archive days c.args.path.now c.args.self.now.apart false _ _ _ (looks_on archive days c.args.path.now true _ _ c.in_ok-is_young.ensures.goes)
    (looks_on archive days c.args.path.now false _ _ c.day_length.ensures.goes)))

pub returns-in_err-handled-clause-goes : goal.returns-in_err-handled-clause-goes
returns-in_err-handled-clause-goes g c =
    let p = err_from_is_err_and c.from_residual-in_err-handled.result c.from_residual-in_err-handled.ensures.1 in
    let archive = c.args.self.now.archive.now in
    let days = with_name (day_name c.args.name.now) archive.days in
    let folders = archive.folders in
    let within = day_within folders.root.now folders.out.now folders.reports.now c.args.path.now (c.args.name.now, c.requires) in
    let asked = c.asked_of-days.ensures in
    rw p.1 (tells_nothing archive (with_name (day_name c.args.name.now) archive.days) c.args.path.now (λ told. told.outcome) _ _ _
    (works_on_then archive days c.args.path.now c.args.self.now.apart false _ _ _ (looks_on archive days c.args.path.now true _ _ c.in_ok-is_young.ensures.goes)
    (works_on_then archive days c.args.path.now c.args.self.now.apart false _ _ _ (looks_on archive days c.args.path.now true _ _ c.day_length.ensures.goes)
    (works_on_as archive days c.args.path.now _ false _ _ (ap is_ok c.in_err-handled.was) (day_goes archive c.args.self.now.apart c.args.path.now (c.args.name.now, c.requires) (λ handled. handled.outcome) (day_name c.args.name.now) c.in_ok-length.length
    (subst (λ (d : DayOptions). d.same_length ≡ false → c.in_ok-length.length ≡ d.options.record_length) asked c.in_ok-length.ensures.own) c.handle.result _ _
    (handles_named (λ handled. handled.outcome) (day_names_in archive c.args.path.now) _ folders.out.now folders.reports.now _ _ c.handle.result _ _ c.in_ok-day.ensures
    (c.in_length.ensures ∙ ap (λ (d : DayOptions). in_length c.in_ok-length.length d) asked)
    (c.handle.ensures.goes folders.out.now folders.reports.now (subst (λ n. AreNamesWithin folders.out.now folders.reports.now n) (sym c.in_ok-day.ensures) within))))))))

pub returns-clause-told : goal.returns-clause-told
returns-clause-told g c =
    let asked = c.asked_of-days.ensures in
    record {
      asked = c.in_length.result;
      for_day = record {
        record_length = c.in_ok-length.length;
        is = c.in_length.ensures ∙ ap (λ (d : DayOptions). in_length c.in_ok-length.length d) asked;
        own = subst (λ (d : DayOptions). d.same_length ≡ false → c.in_ok-length.length ≡ d.options.record_length) asked c.in_ok-length.ensures.own;
      };
      of = c.in_ok-handled.handled.outcome;
      same = c.of_day-2.ensures;
      is = c.in_ok-handled.ensures.told;
    }

pub returns-clause-waits : goal.returns-clause-waits
returns-clause-waits g c =
    let archive = c.args.self.now.archive.now in
    let asked = c.asked_of-days.ensures in
    waits_as archive c.args.self.now.apart c.args.path.now (c.args.name.now, c.requires) (day_name c.args.name.now) c.in_ok-length.length
    (subst (λ (d : DayOptions). d.same_length ≡ false → c.in_ok-length.length ≡ d.options.record_length) asked c.in_ok-length.ensures.own) _ _ _ _ c.in_ok-day.ensures
    (c.in_length.ensures ∙ ap (λ (d : DayOptions). in_length c.in_ok-length.length d) asked) c.in_ok-handled.ensures.waits

pub returns-clause-goes : goal.returns-clause-goes
returns-clause-goes g c =
    let archive = c.args.self.now.archive.now in
    let folders = archive.folders in
    let within = day_within folders.root.now folders.out.now folders.reports.now c.args.path.now (c.args.name.now, c.requires) in
    let asked = c.asked_of-days.ensures in
    tells_after archive (with_name (day_name c.args.name.now) archive.days) c.args.path.now c.args.self.now.apart (λ told. told.outcome) _ _ _ _ c.in_ok-is_young.ensures.goes
    (day_told archive c.args.self.now.apart c.args.path.now (c.args.name.now, c.requires) (λ handled. handled.outcome) (day_name c.args.name.now) c.in_ok-length.length
    (subst (λ (d : DayOptions). d.same_length ≡ false → c.in_ok-length.length ≡ d.options.record_length) asked c.in_ok-length.ensures.own)
    (λ told. told.outcome) (Ok c.in_ok-handled.handled) _ _ _ _ (c.in_ok-handled.handled, refl, c.of_day-2.ensures) c.day_length.ensures.goes
    (handles_named (λ handled. handled.outcome) (day_names_in archive c.args.path.now) _ folders.out.now folders.reports.now _ _ (Ok c.in_ok-handled.handled) _ _ c.in_ok-day.ensures
    (c.in_length.ensures ∙ ap (λ (d : DayOptions). in_length c.in_ok-length.length d) asked)
    (c.in_ok-handled.ensures.goes folders.out.now folders.reports.now (subst (λ n. AreNamesWithin folders.out.now folders.reports.now n) (sym c.in_ok-day.ensures) within))))
