use Rattle.std.proofs.Common.{◌≡◌, ◌∙◌, ap, false, nat_eq, subst}
use Rattle.std.specs.List.{AllByRecursion, ends_with}
use Rattle.std.specs.String.{string_bytes}
use Rattle.msr_walk.proofs.Ours.{drops_all, drops_none, none_among, none_of_none, of_days_as, of_days_at, wait_none}
use Rattle.msr_walk.specs.Waiting.{files_waiting}
use Rattle.msr_walk.proofs.batch.Batch.make_way.Goals as goal

pub returns-then-not-may_be_among-clause-none : goal.returns-then-not-may_be_among-clause-none
returns-then-not-may_be_among-clause-none g c =
    none_among c.args.walker.now.archive.now c.args.walker.now.apart c.args.path.now c.requires.path c.args.self.now.days.items (string_bytes c.args.self.now.folder) _
    (subst (λ l. AllByRecursion (λ files. ends_with nat_eq files.records.path c.args.path.now ≡ false) (files_waiting l)) c.as_slice.ensures.value (c.may_be_among.ensures c.if-not-may_be_among.true))
    c.requires.days

pub returns-then-not-may_be_among-clause-works : goal.returns-then-not-may_be_among-clause-works
returns-then-not-may_be_among-clause-works g c =
    drops_none c.args.walker.now.archive.now c.args.walker.now.apart c.args.path.now c.requires.path c.args.self.now.days.items _

pub release_all-requires : goal.release_all-requires
release_all-requires g c =
    let archive = c.args.walker.now.archive.now in
    of_days_as archive c.args.self.now.days.items _ _ (c.as_slice-2.ensures.value ∙ ap (λ v. v.items) c.replace-days.ensures.value)
    (of_days_at archive (string_bytes c.args.self.now.folder) c.args.self.now.days.items _ c.requires.days)

pub returns-clause-days : goal.returns-clause-days
returns-clause-days g c = wait_none c.args.walker.now.archive.now _ _ _ (ap (λ v. v.items) c.replace-days.ensures.after ∙ c.new.ensures.items)

pub returns-clause-none : goal.returns-clause-none
returns-clause-none g c =
    none_of_none c.args.walker.now.archive.now c.args.walker.now.apart c.args.path.now c.requires.path _ _ (ap (λ v. v.items) c.replace-days.ensures.after ∙ c.new.ensures.items)

pub returns-clause-works : goal.returns-clause-works
returns-clause-works g c =
    let archive = c.args.walker.now.archive.now in
    drops_all archive c.args.walker.now.apart c.args.path.now c.requires.path c.args.self.now.days.items _ _ _
    (c.as_slice-2.ensures.value ∙ ap (λ v. v.items) c.replace-days.ensures.value) (of_days_at archive (string_bytes c.args.self.now.folder) c.args.self.now.days.items _ c.requires.days) c.release_all.ensures
