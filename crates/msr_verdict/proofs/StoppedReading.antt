-- What is answered when reading stops, and at the end of the input.
use Rattle.std.proofs.Common.{◌≡◌, ◌↔◌, inl, inr, true, false, List, [], ◌∷◌, ◌++◌, length, map, refl, sym, ap, subst, ◌∙◌, arith, length-append, ℕ, None, Result, Ok, Err, IsErrOf, All}
use Rattle.std.specs.Option.{option_to_list}
use Rattle.std.proofs.lemmas.Bool.{cases_Bool}
use Rattle.std.proofs.lemmas.List.{append-nil}
use Rattle.msr_base.specs.declared.forms.Form.{Form}
use Rattle.msr_base.specs.Lengths.{bytes_of}
use Rattle.msr_words.specs.Fit.{records_of}
use Rattle.msr_words.proofs.Certificate.{least_by_separators}
use Rattle.msr_rows.specs.declared.row.Record.{Record}
use Rattle.msr_devices.specs.Device.{Device, HasLeft, HasFailed}
use Rattle.msr_devices.proofs.Chaining.{steady_sound}
use Rattle.msr_segments.specs.Segments.{Part, rows_of, segment_of, IsDivision}
use Rattle.msr_segments.specs.Spans.{Following}
use Rattle.msr_segments.specs.declared.follow.Step.{Step}
use Rattle.msr_segments.specs.declared.joiner.Segment.{Segment}
use Rattle.msr_segments.proofs.DivisionLaws.{one_division}
use Rattle.msr_report.specs.declared.report.Report.{Report}
use Rattle.msr_report.specs.declared.report.SegmentLine.{SegmentLine}
use Rattle.msr_input.specs.Input.{AreRead, HaveBegun, IsReadable, rows_of_records}
use Rattle.msr_input.specs.Reading.{StopsReading}
use Rattle.msr_input.specs.Rows.{RowReading, HasReadRows, ReadsNone, StopsRows, row_settings}
use Rattle.msr_input.specs.declared.settings.Settings.{Settings}
use Rattle.msr_input.specs.declared.fault.ReadFault.{ReadFault}
use Rattle.msr_input.specs.declared.fault.ReadFault.TheVariants as fault
use Rattle.msr_input.proofs.OneReading.{one_list_of_records}
use Rattle.msr_verdict.specs.declared.verdict.Verdict.{Verdict}
use Rattle.msr_verdict.specs.declared.verdict.Verdict.TheVariants.{Least, NotShown}
use Rattle.msr_verdict.specs.Packed.{IsFull, IsShownBy, AreShownBy, ShowsLeast, VerifyAnswers, StandsInFewest, AllStandInFewest, ShownIsFewest, ShownIsReadable, form_by, runs_of_part, settings_by}
use Rattle.msr_compare.specs.Seen.{AllSeen}
use Rattle.msr_compare.proofs.Draining.{no_memory}
use Rattle.msr_verdict.specs.Compared.{Compared, ComparesEnded}
use Rattle.msr_verdict.specs.Agreements.{HasJudged, IsCompared}
use Rattle.msr_verdict.proofs.Lines.{shown_length}
use Rattle.msr_verdict.proofs.Runs.{runs_length}
use Rattle.msr_verdict.proofs.ComparingStates.{compare_last}

-- The state of reading between two records.
pub record UnderWay (report at_hand : Report) (start now : Device) (reading : RowReading) (c : Compared) : Type 0 where
  pub records : List Record
  pub answers : List Step
  pub read : HasReadRows start now reading records answers
  pub settings : row_settings reading ≡ settings_by report
  pub checks : HasJudged report at_hand reading.following records c

pub settings_none : (report : Report) (reading : RowReading)
    → reading.following ≡ record { tolerance = report.tolerance; current = None } → reading.position.strict ≡ false
    → row_settings reading ≡ settings_by report
settings_none report reading following strict = rw (following, strict) refl

-- what is answered, for some input
pub record IsAnswered (report : Report) (start : Device) (result : Result Verdict ReadFault) : Type 0 where
  pub input : List ℕ
  pub left : HasLeft start input
  pub answers : VerifyAnswers report input result

pub as_answer : (report : Report) (start : Device) (result : Result Verdict ReadFault)
    → IsAnswered report start result → (input : List ℕ) × HasLeft start input × VerifyAnswers report input result
as_answer report start result a = (a.input, a.left, a.answers)

-- no record is read: what is answered if reading stops so
stop_answers : (report : Report) (start now : Device) (given : List Segment) (why : ReadFault)
    → StopsReading (settings_by report) start now given why → IsAnswered report start (Err why)
stop_answers report start now given (fault.Input f) h =
    record { input = h.0.input; left = h.0.left; answers = record { records = h.0.records; first = h.0.first } }
stop_answers report start now given fault.Read h =
    record {
      input = h.0.input;
      left = h.0.left;
      answers = record { records = h.0.records; rest = h.0.rest; are_read = h.0.are_read };
    }
stop_answers report start now given fault.Memory h =
    record {
      input = h.0.input;
      left = h.0.left;
      answers = record { records = h.0.records; rest = h.0.rest; are_read = h.0.are_read };
    }

-- the records so far are read, with no segment given
begun_none : (report at_hand : Report) (start now : Device) (reading : RowReading) (c : Compared)
    (u : UnderWay report at_hand start now reading c) → HaveBegun reading.following.tolerance u.records []
begun_none report at_hand start now reading c u =
    let f = u.checks.follows in
    let parts = f.parts ++ option_to_list f.last in
    record {
      others = map segment_of parts;
      are_segments = record { parts = parts; division = f.has_parts.division; each = refl };
    }

pub stops_so : (report at_hand : Report) (start now new : Device) (reading : RowReading) (c : Compared)
    (why : ReadFault) (u : UnderWay report at_hand start now reading c) → StopsRows (row_settings reading) start new u.records why
    → StopsReading (settings_by report) start new [] why
stops_so report at_hand start now new reading c why u stops =
    subst (λ (s : Settings). StopsReading s start new [] why) u.settings
    (stops [] (begun_none report at_hand start now reading c u))

pub read_fails : (report at_hand : Report) (start now new : Device) (reading : RowReading) (c : Compared)
    (why : ReadFault) (u : UnderWay report at_hand start now reading c) → StopsRows (row_settings reading) start new u.records why
    → IsAnswered report start (Err why)
read_fails report at_hand start now new reading c why u stops =
    stop_answers report start new [] why (stops_so report at_hand start now new reading c why u stops)

pub read_tells : (settings : Settings) (start now : Device) (given : List Segment) (why : ReadFault)
    → StopsReading settings start now given why → IsErrOf {T = Verdict} (Err why) fault.Read ↔ HasFailed start now
read_tells settings start now given (fault.Input f) h =
    ((λ e. absurd cc), (λ failed. absurd (steady_sound start now h.1 failed)))
read_tells settings start now given fault.Read h = ((λ e. h.1), (λ failed. refl))
read_tells settings start now given fault.Memory h =
    ((λ e. absurd cc), (λ failed. absurd (steady_sound start now h.1 failed)))

-- there is no memory for the open segment
pub memory_fails : (report : Report) (start now : Device) (reading : RowReading) (records : List Record)
    (answers : List Step) → HasReadRows start now reading records answers
    → row_settings reading ≡ settings_by report → IsAnswered report start (Err fault.Memory)
memory_fails report start now reading records answers h settings =
    stop_answers report start now [] fault.Memory (no_memory h settings)

-- the records and the parts by which a report shows the fewest records are those of the input
same_parts : (report : Report) (input : List ℕ) (records : List Record) (parts : List Part)
    (h : ShowsLeast report input) → AreRead (settings_by report) input records []
    → IsDivision report.tolerance (rows_of_records records) parts → (h.records ≡ records) × (h.parts ≡ parts)
same_parts report input records parts h are d =
    let first : IsReadable (settings_by report) input h.records (map segment_of h.parts) =
    record {
      are_read = h.are_read;
      are_segments =
          record { parts = h.parts; division = h.division; each = refl };
    } in
    let second : IsReadable (settings_by report) input records (map segment_of parts) =
    record { are_read = are; are_segments = record { parts = parts; division = d; each = refl } } in
    let same = (one_list_of_records (settings_by report) input h.records records (map segment_of h.parts)
    (map segment_of parts) first second).0 in
    let division : IsDivision report.tolerance (rows_of_records records) h.parts =
    subst (λ (rs : List Record). IsDivision report.tolerance (rows_of_records rs) h.parts) same h.division in
    (same, one_division report.tolerance (rows_of_records records) h.parts parts division d)

same_shown : (report : Report) (input : List ℕ) (records : List Record) (parts : List Part)
    → ShowsLeast report input → AreRead (settings_by report) input records []
    → IsDivision report.tolerance (rows_of_records records) parts
    → All (IsFull (bytes_of report.length)) records × AreShownBy (form_by report) parts report.segments.items
same_shown report input records parts h are d =
    let same = same_parts report input records parts h are d in (
      subst (λ (rs : List Record). All (IsFull (bytes_of report.length)) rs) same.0 h.full,
      subst (λ (ps : List Part). AreShownBy (form_by report) ps report.segments.items) same.1 h.shown,
    )

none_left : {X : Type 0} (left : List X) → length left ≡ 0 → left ≡ []
none_left [] e = refl
none_left (x ∷ left) e = absurd (omega arith)

verdict_answers : (report : Report) (input : List ℕ) (records : List Record) (parts : List Part) (c : Compared)
    (verdict : Verdict) → AreRead (settings_by report) input records []
    → IsDivision report.tolerance (rows_of_records records) parts
    → IsCompared (form_by report) report.segments.items records parts None c → (verdict ≡ Least)
    ↔ ((c.agrees ≡ true) × (c.place ≡ length report.segments.items)) → VerifyAnswers report input (Ok verdict)
verdict_answers report input records parts c Least are d compared exact =
    let both = exact.0 refl in
    let a = compared.agrees both.0 in
    let none : a.left ≡ [] = none_left a.left (omega
    (arith, both.1, a.place, ap length a.whole, length-append a.done a.left)) in
    let whole : report.segments.items ≡ a.done = a.whole ∙ ap (λ (l : List SegmentLine). a.done ++ l) none
    ∙ append-nil a.done in
    record {
      records = records;
      parts = parts;
      are_read = are;
      division = d;
      full = a.full;
      shown = subst (λ (l : List SegmentLine). AreShownBy (form_by report) parts l) (sym whole) a.shown;
    }
verdict_answers report input records parts c NotShown are d compared exact = record {
  records = records;
  segments = map segment_of parts;
  readable = record { are_read = are; are_segments = record { parts = parts; division = d; each = refl } };
  none = λ h.
      let shown = same_shown report input records parts h are d in
      elim (cases_Bool c.agrees) [
        | inl agrees ↦ (
            let a = compared.agrees agrees in
            let place : c.place ≡ length report.segments.items = a.place
            ∙ sym (shown_length (form_by report) parts a.done a.shown)
            ∙ shown_length (form_by report) parts report.segments.items shown.1 in
            let wrong : ◌≡◌ {A = Verdict} NotShown Least = exact.1 (agrees, place) in
            absurd cc)
        | inr differs ↦ (compared.differs differs).none [] [] (rw append-nil shown.0) tt (rw append-nil shown.1)
      ];
}

-- all records were seen
pub verdict_seen : (report at_hand : Report) (input : List ℕ) (old new : Compared) (verdict : Verdict)
    → AllSeen (λ following records. HasJudged report at_hand following records old) (settings_by report) input
    → ComparesEnded (form_by at_hand) at_hand.segments.items old.is_open old new
    → (verdict ≡ Least) ↔ ((new.agrees ≡ true) × (new.place ≡ length at_hand.segments.items))
    → VerifyAnswers report input (Ok verdict)
verdict_seen report at_hand input old new verdict all k exact =
    let same = all.is_seen.report_is in
    let f = all.is_seen.follows in
    let parts = f.parts ++ option_to_list f.last in
    let d : IsDivision report.tolerance (rows_of_records all.records) parts =
    rw all.tolerance_is at f.has_parts.division in
    let ended = rw same at k in
    let compared = compare_last
    (form_by report) report.segments.items all.records f.parts f.last old new f.compared ended in
    verdict_answers report input all.records parts new verdict all.readable.are_read d compared (rw same at exact)

-- all was read
pub all_read : (report at_hand : Report) (start at now : Device) (before reading : RowReading) (c : Compared)
    (u : UnderWay report at_hand start at before c) → ReadsNone start now reading u.records u.answers
    → row_settings reading ≡ row_settings before → (input : List ℕ) × HasLeft start input
    × AllSeen (λ following records. HasJudged report at_hand following records c) (settings_by report) input
all_read report at_hand start at now before reading c u all still =
    let f = u.checks.follows in
    let tolerance = ap (λ (s : Settings). s.tolerance) (still ∙ u.settings) in
    let came = all.read.came.begins [] (all.read.came.end all.ended) in
    let parts = f.parts ++ option_to_list f.last in (
      came.0,
      came.1,
      record {
        records = u.records;
        segments = map segment_of parts;
        readable = record {
          are_read = record {
            begins = rw all.none_wait at came.2;
            in_range = rw tolerance at all.read.in_range;
            agree = λ t. absurd cc;
          };
          are_segments = record {
            parts = parts;
            division = rw (ap (λ (s : Settings). s.tolerance) u.settings) at f.has_parts.division;
            each = refl;
          };
        };
        following = before.following;
        tolerance_is = ap (λ (s : Settings). s.tolerance) u.settings;
        is_seen = u.checks;
      },
    )

-- what a report says of the one that is at hand
pub own : {report at_hand : Report} {following : Following} {records : List Record} {c : Compared}
    → HasJudged report at_hand following records c → HasJudged at_hand at_hand following records c
own {at_hand = at_hand} {following} {records} {c} checks =
    subst (λ (r : Report). HasJudged r at_hand following records c) (sym checks.report_is) checks

fewest : (form : Form) (part : Part) (line : SegmentLine) → IsShownBy form part line → StandsInFewest form part line
fewest form part line is = record {
  records = is.records ∙ runs_length 0 (rows_of part);
  fewest = λ other packing.
      let least = least_by_separators (records_of form) (segment_of part).samples
      (runs_of_part part) line.separators.items is.separating is.as_many other packing in
      omega (arith, least, runs_length 0 (rows_of part));
}

all_fewest : (form : Form) (parts : List Part) (lines : List SegmentLine) → AreShownBy form parts lines
    → AllStandInFewest form parts lines
all_fewest form [] [] are = tt
all_fewest form [] (its ∷ lines) are = absurd are
all_fewest form (one ∷ parts) [] are = absurd are
all_fewest form (one ∷ parts) (its ∷ lines) are = (fewest form one its are.0, all_fewest form parts lines are.1)

pub shown_fewest : ShownIsFewest
shown_fewest report input records parts h are d =
    all_fewest (form_by report) parts report.segments.items (same_shown report input records parts h are d).1

pub shown_readable : ShownIsReadable
shown_readable report input h = (
  h.records,
  map segment_of h.parts,
  record {
    are_read = h.are_read;
    are_segments = record { parts = h.parts; division = h.division; each = refl };
  },
)
