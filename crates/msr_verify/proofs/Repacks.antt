-- What follows of inputs and of what was repacked.
use Rattle.std.proofs.Common.{◌≡◌, ◌∙◌, ℕ, false, List, map, sym, subst}
use Rattle.msr_segments.specs.declared.joiner.Segment.{Segment}
use Rattle.msr_report.specs.declared.report.Report.{Report}
use Rattle.msr_input.specs.Input.{IsReadable}
use Rattle.msr_rows.specs.declared.row.Record.{Record}
use Rattle.msr_options.specs.Choice.{Choice, as_strict, form_chosen}
use Rattle.msr_record.specs.Output.{OneOutput, segment_of_packed}
use Rattle.msr_compare.specs.Answers.{HasSegments, SameIsExact}
use Rattle.msr_compare.proofs.SameInputs.{one_list}
use Rattle.msr_tool.specs.Answer.{IsRepacked}
use Rattle.msr_tool.specs.Repacked.{ReadableHasSegments, RepackedHasSegments}
use Rattle.msr_tool.specs.Settings.{settings_of}
use Rattle.msr_verify.specs.Laws.{OneOutputHasSameInputs, ReadableIsSame, RepackedComparesAsSame, RepackedIsSame, SameInputsHaveOneOutput}

-- what is readable is so whatever the reverse constants
leniently : (choice : Choice) (input : List ℕ) (records : List Record) (segments : List Segment)
    → IsReadable (settings_of choice) input records segments
    → IsReadable (settings_of (as_strict false choice)) input records segments
leniently choice input records segments r = record {
  are_read = record {
    begins = r.are_read.begins;
    in_range = r.are_read.in_range;
    agree = λ strict. absurd cc;
  };
  are_segments = r.are_segments;
}

has_leniently : (choice : Choice) (input : List ℕ) (segments : List Segment)
    → HasSegments (settings_of choice) input segments → HasSegments (settings_of (as_strict false choice)) input segments
has_leniently choice input segments has =
    record { records = has.records; readable = leniently choice input has.records segments has.readable }

-- the segments of what was repacked
has_packed : (choice : Choice) (input written : List ℕ) (report : Report) (is : IsRepacked choice input written report)
    → HasSegments (settings_of (as_strict false choice)) input (map segment_of_packed is.packed)
has_packed choice input written report is = record {
  records = is.records;
  readable = leniently choice input is.records (map segment_of_packed is.packed) is.readable;
}

pub repacked_same : RepackedHasSegments → RepackedIsSame
repacked_same law choice input written report is ends =
    let found = law choice false input written report ends.has.records ends.segments is ends.has.readable ends.before in
    record {
      segments = ends.segments;
      one_has = has_leniently choice input ends.segments ends.has;
      other_has = record { records = found.0; readable = found.1 };
    }

pub readable_same : ReadableHasSegments → ReadableIsSame
readable_same law choice input written report segments is has =
    let found = law choice false input written report has.records segments is has.readable in
    record {
      segments = segments;
      one_has = record { records = found.0; readable = leniently choice input found.0 segments found.1 };
      other_has = has;
    }

pub repacked_compares : RepackedIsSame → SameIsExact → RepackedComparesAsSame
repacked_compares law exact choice input written report answer is ends answers of_inputs =
    exact (settings_of (as_strict false choice)) input written answer of_inputs answers
    (law choice input written report is ends)

pub one_output_of_same : OneOutput → SameInputsHaveOneOutput
one_output_of_same law choice one other written again report another same is other_is =
    let settings = settings_of (as_strict false choice) in
    let ones = one_list settings one same.segments (map segment_of_packed is.packed) same.one_has
    (has_packed choice one written report is) in
    let others = one_list settings other same.segments (map segment_of_packed other_is.packed) same.other_has
    (has_packed choice other again another other_is) in
    (law (form_chosen choice) is.packed other_is.packed is.rows other_is.rows written again (sym ones ∙ others)
    is.output other_is.output).2

pub same_of_one_output : RepackedIsSame → OneOutputHasSameInputs
same_of_one_output law choice one other written report another is other_is ends other_ends =
    let settings = settings_of (as_strict false choice) in
    let a = law choice one written report is ends in
    let b = law choice other written another other_is other_ends in
    let same : a.segments ≡ b.segments = one_list settings written a.segments b.segments a.other_has b.other_has in
    record {
      segments = a.segments;
      one_has = a.one_has;
      other_has = subst (λ (l : List Segment). HasSegments settings other l) (sym same) b.one_has;
    }
