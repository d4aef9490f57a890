-- Lines written one after another.
use Rattle.std.proofs.Common.{◌≡◌, ℕ, List, [], ◌∷◌, ◌++◌, ◌∙◌, refl, sym, ap, append_assoc, Option, Some, None}
use Rattle.std.specs.Prelude.{option_map}
use Rattle.std.specs.Option.{option_or, option_to_list}
use Rattle.std.proofs.lemmas.List.{append-nil}
use Rattle.msr_segments.specs.declared.joiner.Segment.{Segment}
use Rattle.msr_devices.specs.Device.{Device, HasFailed, Takes, IsCalm}
use Rattle.msr_devices.specs.WriteBuffer.{Passes}
use Rattle.msr_devices.proofs.Chaining.{takes_append, calm_calm, calm_failed}
use Rattle.msr_report.specs.declared.json.ListedSegment.{ListedSegment}
use Rattle.msr_options.specs.declared.task.ListForm.{ListForm}
use Rattle.msr_base.specs.declared.counts.Counts.{Counts}
use Rattle.msr_tool.specs.Listing.{AreLinesAfter, AreListLines, IsLine, IsPrefixOfList, last_line, listed_of}
use Rattle.msr_tool.specs.ListWriting.{HasListed, HasListedAll, HasListedPrefix, HasListedCut, IsLastLine, StopsListing, StopsListingAll, last_after}
use Rattle.msr_tool.specs.declared.fault.ToolFault.TheVariants as fault

pub lists_snoc : (form : ListForm) (before : Option Segment) (segments : List Segment) (text line : List ℕ)
    (segment : Segment) → AreLinesAfter form before segments text
    → IsLine form (option_map listed_of (last_after before segments)) (listed_of segment) line
    → AreLinesAfter form before (segments ++ segment ∷ []) (text ++ line)
lists_snoc form before [] text line segment are is = rw are
    ([], record { line = line; is_line = is; whole = sym (append-nil line) }, refl)
lists_snoc form before (one ∷ segments) text line segment are is = (
  are.0 ++ line,
  record {
    line = are.1.line;
    is_line = are.1.is_line;
    whole = rw (are.1.whole, append_assoc are.1.line are.0 line) refl;
  },
  lists_snoc form (Some one) segments are.0 line segment are.2 is,
)

-- the line of the segment that was begun last, if one was
pub lists_last : (form : ListForm) (segments : List Segment) (text line : List ℕ) (before : Option ListedSegment)
    (current : Option Segment) → AreListLines form segments text
    → before ≡ option_map listed_of (last_after None segments)
    → IsLastLine form before (option_map listed_of current) line
    → AreListLines form (segments ++ option_to_list current) (text ++ line)
lists_last form segments text line before None are after is =
    rw (is, append-nil segments, append-nil text) are
lists_last form segments text line before (Some segment) are after is =
    lists_snoc form None segments text line segment are (rw after at is)

after_snoc : (before : Option Segment) (segments : List Segment) (segment : Segment)
    → last_after before (segments ++ segment ∷ []) ≡ Some segment
after_snoc before [] segment = refl
after_snoc before (one ∷ segments) segment = after_snoc (Some one) segments segment

-- the last of these segments, with the one that has ended, if one has
pub last_with : (before : Option ListedSegment) (segments : List Segment) (current : Option Segment)
    → before ≡ option_map listed_of (last_after None segments)
    → option_or (option_map listed_of current) before
    ≡ option_map listed_of (last_after None (segments ++ option_to_list current))
last_with before segments None after = rw (append-nil segments) after
last_with before segments (Some segment) after = rw (after_snoc None segments segment) refl

-- a further text after the lines so far, some of which the sink accepts
record Flows (start now : Device) (waiting : List ℕ) (text : List ℕ) : Type 0 where
  taken : List ℕ
  takes : Takes start now taken
  whole : text ≡ taken ++ waiting

-- a prefix of a longer list of segments
pub prefix_wider : {form : ListForm} {start now : Device} {segments : List Segment} (others : List Segment)
    → HasListedPrefix form start now segments → HasListedPrefix form start now (segments ++ others)
prefix_wider others h = record {
  taken = h.taken;
  takes = h.takes;
  prefix = record {
    first = h.prefix.first;
    others = h.prefix.others ++ others;
    tail = h.prefix.tail;
    some_first = ap (λ (s : List Segment). s ++ others) h.prefix.some_first
        ∙ append_assoc h.prefix.first h.prefix.others others;
    lines = h.prefix.lines;
  };
}

module _ {form : ListForm} {start now : Device} {waiting : List ℕ} {before : Option ListedSegment}
    {segments : List Segment} (h : HasListed form start now waiting before segments) where
  pub prefix_listed : (others : List Segment) → HasListedPrefix form start now (segments ++ others)
  prefix_listed others = record {
    taken = h.taken;
    takes = h.takes;
    prefix = record {
      first = segments;
      others = others;
      tail = waiting;
      some_first = refl;
      lines = rw (← h.whole) h.lines;
    };
  }

  -- there is no memory for a line
  pub listed_refused : (others : List Segment) → StopsListing form start now (segments ++ others) fault.Memory
  listed_refused others = (prefix_listed others, h.calm.steady)

  -- the line of one more segment waits
  pub listed_pushed : {pushed : List ℕ} {last : Option ListedSegment} (current : Option Segment)
      → last ≡ option_map listed_of current
      → (line : List ℕ) × (IsLastLine form before last line × (pushed ≡ waiting ++ line))
      → HasListed form start now pushed (option_or last before) (segments ++ option_to_list current)
  listed_pushed current is line = record {
    text = h.text ++ line.0;
    taken = h.taken;
    lines = lists_last form segments h.text line.0 before current h.lines h.last (rw is at line.1.0);
    takes = h.takes;
    whole = rw (h.whole, append_assoc h.taken waiting line.0, ← line.1.1) refl;
    calm = h.calm;
    last = rw is (last_with before segments current h.last);
  }

  flows_on : (next : Device) (pushed waits more : List ℕ) → pushed ≡ waiting ++ more → Passes now next pushed [] waits
      → Flows start next waits (h.text ++ more)
  flows_on next pushed waits more same passes =
      let all = sym (append-nil pushed) ∙ passes.whole in
      record {
        taken = h.taken ++ passes.taken;
        takes = takes_append start now next h.taken passes.taken h.takes passes.takes;
        whole = rw (h.whole, append_assoc h.taken waiting more, ← same, all, append_assoc h.taken passes.taken waits)
            refl;
      }

  -- the line of the counts
  pub listed_all : {next : Device} {pushed : List ℕ} (counts : Counts) → pushed ≡ waiting ++ last_line form counts
      → Passes now next pushed [] [] → IsCalm now next → HasListedAll form start next segments counts
  listed_all {next} {pushed} counts same passes calm =
      let f = flows_on next pushed [] (last_line form counts) same passes in
      let all = f.whole ∙ append-nil f.taken in
      record { text = h.text; lines = h.lines; takes = rw all f.takes; calm = calm_calm start now next h.calm calm }

  module _ {next : Device} {waits : List ℕ} where
    -- what waited was written, or some of it
    pub listed_passed : Passes now next waiting [] waits → IsCalm now next
        → HasListed form start next waits before segments
    listed_passed passes calm =
        let f = flows_on next waiting waits [] (sym (append-nil waiting)) passes in
        record {
          text = h.text;
          taken = f.taken;
          lines = h.lines;
          takes = f.takes;
          whole = rw (append-nil h.text) at f.whole;
          calm = calm_calm start now next h.calm calm;
          last = h.last;
        }

    pub listed_cut : Passes now next waiting [] waits → HasFailed now next
        → StopsListing form start next segments fault.Write
    listed_cut passes failed =
        let f = flows_on next waiting waits [] (sym (append-nil waiting)) passes in
        let whole = rw (append-nil h.text) at f.whole in
        let prefix : IsPrefixOfList form segments f.taken = record {
          first = segments;
          others = [];
          tail = waits;
          some_first = sym (append-nil segments);
          lines = rw (← whole) h.lines;
        } in
        (record { taken = f.taken; takes = f.takes; prefix = prefix }, calm_failed start now next h.calm failed)

    pub listed_all_cut : {pushed : List ℕ} (counts : Counts) → pushed ≡ waiting ++ last_line form counts
        → Passes now next pushed [] waits → HasFailed now next
        → StopsListingAll form start next segments counts fault.Write
    listed_all_cut {pushed} counts same passes failed =
        let f = flows_on next pushed waits (last_line form counts) same passes in
        let cut : HasListedCut form start next segments counts =
        record { text = h.text; taken = f.taken; tail = waits; lines = h.lines; takes = f.takes; whole = f.whole } in
        (cut, calm_failed start now next h.calm failed)
