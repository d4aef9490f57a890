use Rattle.std.proofs.lemmas.Result.{err_from_is_err_and}
use Rattle.std.proofs.Common.{List, Ok, Err, sym, subst}
use Rattle.msr_devices.specs.Device.{Device}
use Rattle.msr_tree.proofs.Reading.{looks_none}
use Rattle.msr_tree.specs.Calls.{AreOneFile, Goes, Opens}
use Rattle.msr_tree.specs.Reads.{OnlyLooks}
use Rattle.msr_tree.specs.Steps.{Step}
use Rattle.msr_folders.proofs.WalkedLemmas.{goes_so}
use Rattle.msr_verify.specs.Files.{DayPlaces, IsJudgementThere}
use Rattle.msr_verify.specs.Opening.{AreTwoFiles, IsUnjudged, OpensDay, OpensFile, places_at}
use Rattle.msr_verify.specs.declared.day.Unjudged.{Unjudged}
use Rattle.msr_verify.specs.declared.day.Unjudged.TheVariants as unjudged
use Rattle.msr_verify.specs.declared.judgement.Judgement.TheVariants.{Refused}
use Rattle.msr_verify.specs.declared.judgement.Refusal.TheVariants.{FileUnopened, RecordsUnopened, ReportUnopened}
use Rattle.msr_verify.proofs.OpeningLemmas.{goes_past, not_opened, still_then}
use Rattle.msr_verify.proofs.day.open_day.Goals as goal

-- the records may be the day's own file
not_apart : (places : DayPlaces) (why : Unjudged) (before after : List Step → Type 0)
    → Goes before after (AreTwoFiles places.file places.records (Err why)) → Goes before after (IsUnjudged places why)
not_apart places why before after goes = goes_so _ _ before after (λ old new went is. by why old new is) goes
  where
    by : (u : Unjudged) (old new : List Step) → AreTwoFiles places.file places.records (Err u) old new → IsUnjudged places u old new
    by (unjudged.Refused found) old new is = (is.0, subst (λ r. IsJudgementThere places (Refused r) old new) (sym is.1) is.2)
    by unjudged.Memory old new is = subst (λ l. OnlyLooks old l) (sym is) (looks_none old)

-- all are opened
all_opened : {R : Type 0} (places : DayPlaces) (device : R → Device) (file records report : R) (apart : Unit {0}) (before one two three after : List Step → Type 0)
    → Goes before one (OpensFile places.report ReportUnopened device (Ok report)) → Goes one two (OpensFile places.records RecordsUnopened device (Ok records))
    → Goes two three (AreTwoFiles places.file places.records (Ok apart)) → Goes three after (OpensFile places.file FileUnopened device (Ok file))
    → Goes before after (OpensDay places device (Ok (record { file = file; records = records; report = report })))
all_opened places device file records report apart before one two three after first second third fourth =
    goes_so _ _ before after (λ old new went is. (is.1.1.1.0, is.1.1.0, is.1.1.1.1, is.1.0, is.0))
    (goes_past (λ past. Opens places.report past (device report)) _ before one after first
    (goes_past (λ past. Opens places.records past (device records)) _ one two after second
    (goes_past (λ past. ¬ (AreOneFile places.file places.records past)) _ two three after third fourth)))

pub returns-in_err-report-clause-goes : goal.returns-in_err-report-clause-goes
returns-in_err-report-clause-goes g c =
    let p = err_from_is_err_and c.from_residual.result c.from_residual.ensures.1 in
    let places = places_at c.args.places in
    rw (p.1, p.2) (not_opened places places.report ReportUnopened (λ reader. g.T.Reader.Source.device reader) _ _ _ (λ old new failed. failed) c.in_err-report.ensures.goes)

pub returns-in_err-records-clause-goes : goal.returns-in_err-records-clause-goes
returns-in_err-records-clause-goes g c =
    let p = err_from_is_err_and c.from_residual-in_err-records.result c.from_residual-in_err-records.ensures.1 in
    let places = places_at c.args.places in
    rw (p.1, p.2)
    (still_then (λ past. Opens places.report past (g.T.Reader.Source.device c.in_ok-report.report)) _ _ _ _ c.in_ok-report.ensures.goes
    (not_opened places places.records RecordsUnopened (λ reader. g.T.Reader.Source.device reader) _ _ _ (λ old new failed. failed) c.in_err-records.ensures.goes))

pub returns-in_err-require_apart-clause-goes : goal.returns-in_err-require_apart-clause-goes
returns-in_err-require_apart-clause-goes g c =
    let p = err_from_is_err_and c.from_residual-in_err-require_apart.result c.from_residual-in_err-require_apart.ensures.1 in
    let places = places_at c.args.places in
    rw (p.1, p.2)
    (still_then (λ past. Opens places.report past (g.T.Reader.Source.device c.in_ok-report.report)) _ _ _ _ c.in_ok-report.ensures.goes
    (still_then (λ past. Opens places.records past (g.T.Reader.Source.device c.in_ok-records.records)) _ _ _ _ c.in_ok-records.ensures.goes
    (not_apart places _ _ _ c.in_err-require_apart.ensures.goes)))

pub returns-in_err-file-clause-goes : goal.returns-in_err-file-clause-goes
returns-in_err-file-clause-goes g c =
    let p = err_from_is_err_and c.from_residual-in_err-file.result c.from_residual-in_err-file.ensures.1 in
    let places = places_at c.args.places in
    rw (p.1, p.2)
    (still_then (λ past. Opens places.report past (g.T.Reader.Source.device c.in_ok-report.report)) _ _ _ _ c.in_ok-report.ensures.goes
    (still_then (λ past. Opens places.records past (g.T.Reader.Source.device c.in_ok-records.records)) _ _ _ _ c.in_ok-records.ensures.goes
    (still_then (λ past. ¬ (AreOneFile places.file places.records past)) _ _ _ _ c.in_ok-require_apart.ensures.goes
    (not_opened places places.file FileUnopened (λ reader. g.T.Reader.Source.device reader) _ _ _ (λ old new failed. failed) c.in_err-file.ensures.goes))))

pub returns-clause-count : goal.returns-clause-count
returns-clause-count g c = (c.in_ok-file.ensures.count, c.in_ok-records.ensures.count, c.in_ok-report.ensures.count)

pub returns-clause-goes : goal.returns-clause-goes
returns-clause-goes g c =
    all_opened (places_at c.args.places) (λ reader. g.T.Reader.Source.device reader) c.in_ok-file.file c.in_ok-records.records c.in_ok-report.report _ _ _ _ _ _
    c.in_ok-report.ensures.goes c.in_ok-records.ensures.goes c.in_ok-require_apart.ensures.goes c.in_ok-file.ensures.goes
