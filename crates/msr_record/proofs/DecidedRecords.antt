-- If nothing waits, the records that are decided were written.
use Rattle.std.proofs.Common.{◌≡◌, ℕ, ◌+◌, List, [], ◌++◌, ◌∙◌, length, map, refl, append-nil, Some, None}
use Rattle.std.specs.List.{flat_map}
use Rattle.std.specs.Option.{option_to_list}
use Rattle.msr_base.specs.declared.forms.Form.{Form}
use Rattle.msr_packer.proofs.Holding.{begins_all, leaves_few}
use Rattle.msr_rows.specs.declared.row.Row.{Row}
use Rattle.msr_devices.specs.Device.{Device, Takes}
use Rattle.msr_segments.specs.declared.joiner.Segment.{Segment}
use Rattle.msr_record.specs.Decided.{IsDecidedOutput, IsEncoded}
use Rattle.msr_record.specs.Opened.{HasBegun, Opened}
use Rattle.msr_record.specs.Output.{Packed, cuts_of, segment_of_packed}
use Rattle.msr_words.specs.Fit.{records_of}
use Rattle.msr_record.specs.Writing.{HasWritten, Writing}

-- the bytes that went into the sink are decided, in records of that form
pub record HasWrittenDecided (form : Form) (start now : Device) (segments : List Segment) : Type 0 where
  pub bytes : List ℕ
  pub takes : Takes start now bytes
  pub went : now.moved ≡ start.moved + length bytes
  pub decided : IsDecidedOutput form segments bytes

none_waits : (bytes taken waiting : List ℕ) → bytes ≡ taken ++ waiting → waiting ≡ [] → bytes ≡ taken
none_waits bytes taken waiting whole none = rw none at whole ∙ append-nil taken

-- between two segments
pub written_decided : (start now : Device) (w : Writing) (packed : List Packed) (rows : List Row)
    → HasWritten start now w packed rows → w.waiting ≡ []
    → HasWrittenDecided w.form start now (map segment_of_packed packed)
written_decided start now w packed rows h none = record {
  bytes = h.taken;
  takes = h.takes;
  went = h.moved;
  decided = record {
    packed = packed;
    last = None;
    runs = [];
    separators = [];
    rows = rows;
    all = rw (append-nil (map segment_of_packed packed)) refl;
    packings = h.output.packings;
    decided = refl;
    records = rw (
      append-nil
          (flat_map cuts_of packed),
      ← none_waits h.bytes h.taken w.waiting h.whole none,
    ) h.output.records;
  };
}

-- in the middle of one
pub begun_decided : (start now : Device) (w : Writing) (packed : List Packed) (segment : Segment) (opened : Opened)
    → HasBegun start now w packed segment opened → IsEncoded opened → w.waiting ≡ []
    → HasWrittenDecided w.form start now (map segment_of_packed packed ++ option_to_list (Some segment))
begun_decided start now w packed segment opened h encoded none =
    let p = rw h.form at h.is_open.gives in
    record {
      bytes = h.taken;
      takes = h.takes;
      went = h.moved;
      decided = record {
        packed = packed;
        last = Some segment;
        runs = h.runs;
        separators = opened.separators;
        rows = h.rows;
        all = refl;
        packings = h.packings;
        decided = (
          begins_all (records_of w.form) w.form.length.least segment.samples h.runs opened.separators
              opened.packer.held opened.packer.offset
              opened.packer.current p.holds p.stays,
          leaves_few (records_of w.form) segment.samples h.runs opened.separators opened.packer.held
              opened.packer.offset
              opened.packer.current p.holds (rw p.of_form at encoded),
        );
        records = rw (← none_waits h.bytes h.taken w.waiting h.whole none) h.records;
      };
    }
