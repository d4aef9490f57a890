-- What a sink took of a report's text, and what waits, while the text is written segment by segment.
use Rattle.std.proofs.Common.{◌≡◌, ℕ, ◌+◌, ◌≤◌, ◌<◌, List, [], ◌∷◌, ◌++◌, ◌∙◌, refl, ap, sym, subst, append_assoc, arith, take, drop, get_or, length, ◌↔◌, Result, Ok, Err, IsErrOf, IsErrAnd}
use Rattle.std.proofs.lemmas.List.{append-nil, take-append-drop, take_more}
use Rattle.std.proofs.lemmas.List.Elements.{All-drop}
use Rattle.msr_devices.specs.Device.{CountsFew, Device, HasFailed, IsCalm, Takes}
use Rattle.msr_devices.specs.WriteBuffer.{Passes}
use Rattle.msr_devices.specs.declared.fault.DeviceFault.{DeviceFault}
use Rattle.msr_devices.specs.declared.fault.DeviceFault.TheVariants.{Failed, Memory}
use Rattle.msr_devices.proofs.Chaining.{calm_failed, steady_sound, steady_then_few, takes_append, takes_none}
use Rattle.msr_report.specs.Proper.{IsProper, IsProperLine, records_in}
use Rattle.msr_report.specs.Text.{IsSegmentText, AreSegmentTexts, first_lines, end_line, IsReportText}
use Rattle.msr_report.specs.Writing.{TakesPrefix}
use Rattle.msr_report.specs.declared.report.SegmentLine.{SegmentLine}
use Rattle.msr_report.specs.declared.report.Report.{Report}
use Rattle.msr_report.proofs.OneText.{has_segments_text, has_report_text}

-- the first i lines and line i
one_more : (lines : List SegmentLine) (i : ℕ) (line : SegmentLine) → i < length lines → line ≡ get_or lines i line
    → take i lines ++ line ∷ [] ≡ take (i + 1) lines
one_more lines i line within item =
    ap (λ (x : SegmentLine). take i lines ++ x ∷ []) item ∙ sym (take_more lines i line within)

-- the first lines and these segments: a prefix of their text was taken, and the rest waits
pub record IsWrittenReport (old new : Device) (report : Report) (lines : List SegmentLine)
    (waits : List ℕ) : Type 0 where
  pub segments : List ℕ
  pub are : AreSegmentTexts lines segments
  pub taken : List ℕ
  pub takes : Takes old new taken
  pub whole : first_lines report ++ segments ≡ taken ++ waits

segments_append : (lines others : List SegmentLine) (text more : List ℕ) → AreSegmentTexts lines text
    → AreSegmentTexts others more → AreSegmentTexts (lines ++ others) (text ++ more)
segments_append [] others text more h k = let P : List ℕ → Type 0 = λ t. AreSegmentTexts others (t ++ more) in
    subst P (sym h) k
segments_append (line ∷ lines) others text more h k = (
  h.0,
  (
    h.1.0 ++ more,
    (
      h.1.1.0,
      segments_append lines others h.1.0 more h.1.1.1 k,
      ap (λ (t : List ℕ). t ++ more) h.1.1.2 ∙ append_assoc h.0 h.1.0 more,
    ),
  ),
)

pub one_segment : (line : SegmentLine) (text : List ℕ) → IsSegmentText line text → AreSegmentTexts (line ∷ []) text
one_segment line text h = (text, ([], (h, refl, sym (append-nil text))))

-- a prefix was taken of what waited with more text
passed : (front text taken waits more pushed took left : List ℕ) → front ≡ taken ++ waits → pushed ≡ waits ++ text
    → pushed ++ [] ≡ took ++ left → front ++ text ≡ (taken ++ took) ++ left
passed front text taken waits more pushed took left whole is passes =
    ap (λ (t : List ℕ). t ++ text) whole
    ∙ append_assoc taken waits text
    ∙ ap (λ (t : List ℕ). taken ++ t) (sym is ∙ sym (append-nil pushed) ∙ passes)
    ∙ sym (append_assoc taken took left)

pub written_more : (old new next : Device) (report : Report) (lines : List SegmentLine) (line : SegmentLine)
    (waits text pushed left : List ℕ)
    → IsWrittenReport old new report lines waits → IsSegmentText line text → pushed ≡ waits ++ text
    → Passes new next pushed [] left → IsWrittenReport old next report (lines ++ line ∷ []) left
written_more old new next report lines line waits text pushed left w is_text is p = record {
  segments = w.segments ++ text;
  are = segments_append lines (line ∷ []) w.segments text w.are (one_segment line text is_text);
  taken = w.taken ++ p.taken;
  takes = takes_append old new next w.taken p.taken w.takes p.takes;
  whole = sym (append_assoc (first_lines report) w.segments text)
      ∙ passed (first_lines report ++ w.segments) text w.taken waits [] pushed p.taken left w.whole is p.whole;
}

-- one more of the report's segments
pub written_next : (old new next : Device) (report : Report) (i : ℕ) (line : SegmentLine)
    (waits text pushed left : List ℕ)
    → i < length report.segments.items → line ≡ get_or report.segments.items i line
    → IsWrittenReport old new report (take i report.segments.items) waits → IsSegmentText line text
    → pushed ≡ waits ++ text → Passes new next pushed [] left
    → IsWrittenReport old next report (take (i + 1) report.segments.items) left
written_next old new next report i line waits text pushed left within item w is_text is p =
    let items = report.segments.items in
    let P : List SegmentLine → Type 0 = λ l. IsWrittenReport old next report l left in
    subst P (one_more items i line within item) (written_more old new next report
    (take i items) line waits text pushed left w is_text is p)

-- When some segments are written, a prefix of the report's text is taken.
pub written_front : (old new : Device) (report : Report) (lines others : List SegmentLine) (waits : List ℕ)
    → lines ++ others ≡ report.segments.items → (others_text : List ℕ) → AreSegmentTexts others others_text
    → IsWrittenReport old new report lines waits
    → (text : List ℕ) × (IsReportText report text × TakesPrefix old new text)
written_front old new report lines others waits all more are w =
    let end = end_line (length report.segments.items) (records_in report.segments.items) in
    let P : List SegmentLine → Type 0 = λ l. AreSegmentTexts l (w.segments ++ more) in (
      first_lines report ++ ((w.segments ++ more) ++ end),
      (
        record {
          segments = w.segments ++ more;
          are =
              subst P all (segments_append lines others w.segments more w.are are);
          is = refl;
        },
        record {
          taken = w.taken;
          rest = waits ++ (more ++ end);
          takes = w.takes;
          whole =
              ap (λ (t : List ℕ). first_lines report ++ t) (append_assoc w.segments more end)
              ∙ sym (append_assoc (first_lines report) w.segments (more ++ end))
              ∙ ap (λ (t : List ℕ). t ++ (more ++ end)) w.whole
              ∙ append_assoc w.taken waits (more ++ end);
        },
      ),
    )

-- the same of the first i segments of a proper report
pub written_front_of : (old new : Device) (report : Report) (i : ℕ) (waits : List ℕ)
    → IsProper report → IsWrittenReport old new report (take i report.segments.items) waits
    → (text : List ℕ) × (IsReportText report text × TakesPrefix old new text)
written_front_of old new report i waits proper w =
    let others = drop i report.segments.items in
    let more = has_segments_text others (All-drop IsProperLine i report.segments.items proper.lines) in
    written_front old new report (take i report.segments.items) others waits
    (take-append-drop i report.segments.items) more.0 more.1 w

-- When all segments and the last line are put down, a prefix of the report's text is taken, and the rest waits.
pub written_end : (old new next : Device) (report : Report) (lines : List SegmentLine) (waits pushed left : List ℕ)
    (segments records : ℕ)
    → lines ≡ report.segments.items → segments ≡ length report.segments.items
    → records ≡ records_in report.segments.items
    → IsWrittenReport old new report lines waits → pushed ≡ waits ++ end_line segments records
    → Passes new next pushed [] left
    → (text : List ℕ) × (IsReportText report text
    × ((taken : List ℕ) × (Takes old next taken × (text ≡ taken ++ left))))
written_end old new next report lines waits pushed left segments records all count sum w is p =
    let end = end_line segments records in
    let P : List SegmentLine → Type 0 = λ l. AreSegmentTexts l w.segments in (
      first_lines report ++ (w.segments ++ end),
      (
        record {
          segments = w.segments;
          are = subst P all w.are;
          is = ap (λ (n : ℕ). first_lines report ++ (w.segments ++ end_line n records)) count
              ∙ ap (λ (n : ℕ). first_lines report ++ (w.segments ++ end_line (length report.segments.items) n)) sum;
        },
        (
          w.taken ++ p.taken,
          (
            takes_append old new next w.taken p.taken w.takes p.takes,
            sym (append_assoc (first_lines report) w.segments end)
                ∙ passed (first_lines report ++ w.segments) end w.taken waits [] pushed p.taken left w.whole is p.whole,
          ),
        ),
      ),
    )

pub end_front : (old new : Device) (report : Report) (left : List ℕ)
    → (text : List ℕ) × (IsReportText report text × ((taken : List ℕ) × (Takes old new taken × (text ≡ taken ++ left))))
    → (text : List ℕ) × (IsReportText report text × TakesPrefix old new text)
end_front old new report left h = (
  h.0,
  (
    h.1.0,
    record
        { taken = h.1.1.0; rest = left; takes = h.1.1.1.0; whole = h.1.1.1.1 },
  ),
)

pub end_whole : (old new : Device) (report : Report) (left : List ℕ) → left ≡ []
    → (text : List ℕ) × (IsReportText report text × ((taken : List ℕ) × (Takes old new taken × (text ≡ taken ++ left))))
    → (text : List ℕ) × (IsReportText report text × Takes old new text)
end_whole old new report left none h =
    let same : h.0 ≡ h.1.1.0 = h.1.1.1.1 ∙ ap (λ (t : List ℕ). h.1.1.0 ++ t) none ∙ append-nil h.1.1.0 in
    let P : List ℕ → Type 0 = λ t. Takes old new t in
    (h.0, (h.1.0, subst P (sym same) h.1.1.1.0))

-- a sink that took nothing took a prefix
pub nothing_taken : (device : Device) (report : Report) → IsProper report
    → (text : List ℕ) × (IsReportText report text × TakesPrefix device device text)
nothing_taken device report proper =
    let whole = has_report_text report proper in
    (whole.0, (whole.1, record { taken = []; rest = whole.0; takes = takes_none device; whole = refl }))

-- records of more segments
pub records_append : (lines others : List SegmentLine)
    → records_in (lines ++ others) ≡ records_in lines + records_in others
records_append [] others = omega arith
records_append (line ∷ lines) others = omega (arith, records_append lines others)

pub records_next : (lines : List SegmentLine) (i : ℕ) (line : SegmentLine) → i < length lines
    → line ≡ get_or lines i line → records_in (take (i + 1) lines) ≡ records_in (take i lines) + line.records
records_next lines i line within item =
    omega (arith, ap records_in (one_more lines i line within item), records_append (take i lines) (line ∷ []))

-- the records of the first segments are no more than those of all
pub records_take : (i : ℕ) (lines : List SegmentLine) → records_in (take i lines) ≤ records_in lines
records_take i lines =
    omega (arith, records_append (take i lines) (drop i lines), ap records_in (take-append-drop i lines))

-- what a writer tells of its sink: memory was refused, the sink failed, or all was written
pub memory_tells : {T : Type 0} (result : Result T DeviceFault) (start now : Device) → IsCalm start now
    → IsErrAnd result (λ e. e ≡ Memory) → IsErrOf result Failed ↔ HasFailed start now
memory_tells (Ok done) start now calm is = absurd is
memory_tells (Err why) start now calm is = (
  (λ failed. absurd cc),
  (λ has_failed. absurd (steady_sound start now calm.steady has_failed)),
)

pub failure_tells : {T : Type 0} (result : Result T DeviceFault) (start old now : Device) → IsCalm start old
    → HasFailed old now → IsErrAnd result (λ e. e ≡ Failed) → IsErrOf result Failed ↔ HasFailed start now
failure_tells (Ok done) start old now calm failed is = absurd is
failure_tells (Err why) start old now calm failed is =
    ((λ told. calm_failed start old now calm failed), (λ has_failed. cc))

pub written_tells : {T : Type 0} (done : T) (start now : Device) → IsCalm start now
    → IsErrOf {T = T} (Ok done) Failed ↔ HasFailed start now
written_tells done start now calm = (
  (λ failed. absurd cc),
  (λ has_failed. absurd (steady_sound start now calm.steady has_failed)),
)

pub calm_few : (start now : Device) → IsCalm start now → CountsFew start now
calm_few start now calm =
    steady_then_few start now now calm.steady (record { failures = omega arith; interruptions = omega arith })
