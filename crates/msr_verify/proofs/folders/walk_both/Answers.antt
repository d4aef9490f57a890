use Rattle.std.proofs.Common.{Result, Ok, Err, IfErr}
use Rattle.msr_devices.specs.declared.fault.DeviceFault.{DeviceFault}
use Rattle.msr_folders.proofs.WalkedLemmas.{goes_then, on_ok_as}
use Rattle.msr_tree.proofs.Reading.{reads_then}
use Rattle.msr_verify.proofs.EntriesFound.{stops_more}
use Rattle.msr_verify.proofs.TellingThere.{archive_told}
use Rattle.msr_verify.specs.Walk.{StopsTellingJudged}
use Rattle.msr_verify.proofs.folders.walk_both.Goals as goal

if_err_as : {A : Type 0} (result : Result A DeviceFault) (P Q : DeviceFault → Type 0) → ((fault : DeviceFault) → P fault → Q fault) → IfErr result P → IfErr result Q
if_err_as (Ok x) P Q so p = tt
if_err_as (Err fault) P Q so p = so fault p

pub returns-clause-told : goal.returns-clause-told
returns-clause-told g c =
    on_ok_as c.walk_records.result (λ records. archive_told c.args.archive.now
    (g.T.Tree.went c.args.tree.now) (g.T.Tree.went c.walk_archive.new.tree) (g.T.Tree.went c.walk_records.new.tree)
    (g.O.Sink.device c.args.out.now) (g.O.Sink.device c.walk_archive.new.out) (g.O.Sink.device c.walk_records.new.out)
    c.args.tally.now c.walk_archive.new.tally c.walk_records.new.tally c.in_ok-walk_archive.ensures.told records) c.walk_records.ensures.told

pub returns-clause-stops : goal.returns-clause-stops
returns-clause-stops g c =
    let asked = c.args.archive.now in
    let out0 = g.O.Sink.device c.args.out.now in
    let out1 = g.O.Sink.device c.walk_archive.new.out in
    let out = g.O.Sink.device c.walk_records.new.out in
    if_err_as c.walk_records.result (StopsTellingJudged asked out1 out) (StopsTellingJudged asked out0 out)
    (λ fault stopped. stops_more asked out0 out1 out _ _ fault c.in_ok-walk_archive.ensures.told.told.told stopped) c.walk_records.ensures.stops

pub returns-clause-reads : goal.returns-clause-reads
returns-clause-reads g c =
    goes_then _ _ _ (g.T.Tree.went c.args.tree.now) (g.T.Tree.went c.walk_archive.new.tree) (g.T.Tree.went c.walk_records.new.tree)
    (λ old mid new first second. reads_then old mid new first second) c.walk_archive.ensures.reads c.walk_records.ensures.reads
