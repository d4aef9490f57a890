-- No name of a day is another day's, whatever numbers their claims have.
use Rattle.std.proofs.Common.{◌≡◌, ◌≢◌, ◌<◌, ℕ, zero, suc, ◌/◌, ◌%◌, ◌==◌, if◌then◌else◌, Bool, true, false, List, [], ◌∷◌, ◌++◌, get_or, length, refl, sym, ◌∙◌, ap, arith, append_assoc, length-append, codes}
use Rattle.std.proofs.lemmas.Bool.Decides.{nat_tests}
use Rattle.std.proofs.lemmas.List.{append_cancel_right}
use Rattle.std.proofs.Math.Seq.{get_or-append_seam}
use Rattle.std.specs.Fmt.{decimal, digit_glyph, digits, digits_onto}
use Rattle.std.specs.Str.{bytes_eq}
use Rattle.msr_folders.specs.Days.{IsDay}
use Rattle.msr_folders.specs.Entries.{StandsWithin}
use Rattle.msr_folders.specs.Paths.{joined}
use Rattle.msr_naming.specs.Naming.{IsOther, day_paths, name_path}
use Rattle.msr_naming.specs.declared.files.DayFiles.{DayFiles}
use Rattle.msr_naming.specs.declared.files.Name.{Name}
use Rattle.msr_naming.specs.declared.files.Name.TheVariants.{Records, RecordsPart, Report, ReportPart, Stamp, StampPart}
use Rattle.msr_options.specs.Tasks.{StandApart}
use Rattle.msr_options.specs.declared.task.Folders.{Folders}
use Rattle.msr_sds.specs.Separators.{Lacks, dot}
use Rattle.msr_tree.specs.Steps.{IsNoneOf, Path}
use Rattle.msr_walk.proofs.DayApart.{records_part_is, report_is, report_part_is, sides, stamp_is, stamp_part_is, within}
use Rattle.msr_walk.proofs.DayPaths.{long}
use Rattle.msr_walk.proofs.Endings.{day_not_part, differ, from_not_part, part_end, same_joined, text_not_from, text_not_part}
use Rattle.msr_walk.specs.Files.{HaveNames, day_names, files_of}
use Rattle.msr_walk.specs.Handling.{AreWithin}

-- digits have no dot
glyph_lacks : (n : ℕ) → n < 10 → digit_glyph false n ≢ dot
glyph_lacks n small is = grind (arith, nat_tests)

lacks_more : (b : ℕ) (text : List ℕ) → b ≢ dot → Lacks dot text → Lacks dot (b ∷ text)
lacks_more b text not lacks zero d inside = not
lacks_more b text not lacks (suc k) d inside = lacks k d (omega (arith, inside))

glyph_more : (n : ℕ) (text : List ℕ) → Lacks dot text → Lacks dot (digit_glyph false (n % 10) ∷ text)
glyph_more n text lacks = lacks_more (digit_glyph false (n % 10)) text (glyph_lacks (n % 10) (omega arith)) lacks

either_lacks : (last : Bool) (one other : List ℕ) → Lacks dot one → Lacks dot other → Lacks dot (if last then one else other)
either_lacks true one other a b = a
either_lacks false one other a b = b

onto_lacks : (k n : ℕ) (text : List ℕ) → Lacks dot text → Lacks dot (digits_onto k 10 false n text)
onto_lacks zero n text lacks = lacks
onto_lacks (suc k) n text lacks =
    either_lacks (n / 10 == 0) (digit_glyph false (n % 10) ∷ text) (digits_onto k 10 false (n / 10) (digit_glyph false (n % 10) ∷ text))
    (glyph_more n text lacks) (onto_lacks k (n / 10) (digit_glyph false (n % 10) ∷ text) (glyph_more n text lacks))

decimal_lacks : (n : ℕ) → Lacks dot (decimal n)
unfolding digits
decimal_lacks n = onto_lacks 64 n [] (λ k d inside. absurd (omega (arith, inside)))

-- what stands before the last dot is determined
no_dot : (x a y : List ℕ) → Lacks dot x → x ≢ a ++ dot ∷ y
no_dot x a y lacks e = lacks (length a) 0 (omega (arith, length-append a (dot ∷ y), ap length e)) (ap (λ t. get_or t (length a) 0) e ∙ get_or-append_seam a dot y 0)

last_cut : (a b x y : List ℕ) → Lacks dot x → Lacks dot y → a ++ dot ∷ x ≡ b ++ dot ∷ y → a ≡ b
last_cut [] [] x y p q e = refl
last_cut [] (d ∷ b) x y p q e = absurd (no_dot x b y p (let tails : x ≡ b ++ dot ∷ y = cc in tails))
last_cut (d ∷ a) [] x y p q e = absurd (no_dot y a x q (let tails : y ≡ a ++ dot ∷ x = cc in tails))
last_cut (d ∷ a) (f ∷ b) x y p q e =
    let tails : a ++ dot ∷ x ≡ b ++ dot ∷ y = cc in
    let head : d ≡ f = cc in
    let rest : a ≡ b = last_cut a b x y p q tails in
    cc

-- the end of a name beside another
abbrev numbered : (number : ℕ) → Path
numbered number = codes "." ++ (decimal number ++ codes ".part")

numbered_same : (a b : Path) (n m : ℕ) → a ++ numbered n ≡ b ++ numbered m → a ≡ b
numbered_same a b n m is = last_cut a b (decimal n) (decimal m) (decimal_lacks n) (decimal_lacks m)
    (append_cancel_right (a ++ dot ∷ decimal n) (b ++ dot ∷ decimal m) (codes ".part") (sym (part_end a n) ∙ (is ∙ part_end b m)))

text_not_numbered : (one other : Path) (number : ℕ) → one ++ codes ".txt" ≢ other ++ numbered number
text_not_numbered one other number is = text_not_part one (other ++ (codes "." ++ decimal number)) (is ∙ part_end other number)

from_not_numbered : (one other : Path) (number : ℕ) → one ++ codes ".from" ≢ other ++ numbered number
from_not_numbered one other number is = from_not_part one (other ++ (codes "." ++ decimal number)) (is ∙ part_end other number)

module _ (folders : Folders) (apart : StandApart folders) (names : HaveNames folders.out.now folders.reports.now) where
  abbrev of : Path → ℕ → DayFiles
  of path number = files_of (day_names folders.root.now folders.out.now folders.reports.now path) number

  abbrev report : Path → Path
  report path = joined folders.reports.now path

  report_beside : (path : Path) (day : IsDay path) (number : ℕ) → (of path number).report.part ≡ (report path ++ codes ".txt") ++ numbered number
  report_beside path day number = report_part_is folders path apart names day number ∙ sym (append_assoc (report path) (codes ".txt") (numbered number))

  stamp_beside : (path : Path) (day : IsDay path) (number : ℕ) → (of path number).stamp.part ≡ (report path ++ codes ".from") ++ numbered number
  stamp_beside path day number = stamp_part_is folders path apart names day number ∙ sym (append_assoc (report path) (codes ".from") (numbered number))

  -- what stands beside the name of a stamp is no records, no report and no stamp
  module _ (path other : Path) (day : IsDay path) (another : IsDay other) (number given : ℕ) where
    aside : AreWithin folders.out.now folders.reports.now (of path number)
    aside = within folders path apart names day number

    beside : AreWithin folders.out.now folders.reports.now (of other given)
    beside = within folders other apart names another given

    across : (one two : Path) → StandsWithin folders.out.now one → StandsWithin folders.reports.now two → one ≢ two
    across = sides folders path apart names day number

    pub part_apart : (bytes_eq (of path number).records.path (of other given).stamp.part ≡ false)
        × (bytes_eq (of path number).report.path (of other given).stamp.part ≡ false)
        × (bytes_eq (of path number).stamp.path (of other given).stamp.part ≡ false)
    part_apart = (
      differ _ _ (across _ _ aside.records beside.stamp.part),
      differ _ _ (λ is. text_not_numbered (report path) (report other ++ codes ".from") given (sym (report_is folders path apart names day number) ∙ (is ∙ stamp_beside other another given))),
      differ _ _ (λ is. from_not_numbered (report path) (report other ++ codes ".from") given (sym (stamp_is folders path apart names day number) ∙ (is ∙ stamp_beside other another given))),
    )

    module _ (unlike : path ≢ other) where
      other_path : (folder : Path) → folder ≢ [] → joined folder path ≢ joined folder other
      other_path folder some is = unlike (same_joined folder path other some (omega (arith, long path day.0 day.1)) (omega (arith, long other another.0 another.1)) is)

      other_report : (ending : Path) → report path ++ ending ≢ report other ++ ending
      other_report ending is = other_path folders.reports.now names.reports_some (append_cancel_right (report path) (report other) ending is)

      not_same : (one two : Name) → name_path (of path number) one ≢ name_path (of other given) two
      not_same Records Records = other_path folders.out.now names.out_some
      not_same Records RecordsPart = λ is. day_not_part folders.out.now path day.0 names.out_some (omega (arith, long path day.0 day.1)) day.1.reads.spelled day.1.reads.form.day (joined folders.out.now other ++ (codes "." ++ decimal given)) (is ∙ (records_part_is folders other apart names another given ∙ part_end (joined folders.out.now other) given))
      not_same Records Report = λ is. across _ _ aside.records beside.report is
      not_same Records ReportPart = λ is. across _ _ aside.records beside.report_part is
      not_same Records Stamp = λ is. across _ _ aside.records beside.stamp.path is
      not_same Records StampPart = λ is. across _ _ aside.records beside.stamp.part is
      not_same RecordsPart Records = λ is. day_not_part folders.out.now other another.0 names.out_some (omega (arith, long other another.0 another.1)) another.1.reads.spelled another.1.reads.form.day (joined folders.out.now path ++ (codes "." ++ decimal number)) (sym is ∙ (records_part_is folders path apart names day number ∙ part_end (joined folders.out.now path) number))
      not_same RecordsPart RecordsPart = λ is. other_path folders.out.now names.out_some (numbered_same (joined folders.out.now path) (joined folders.out.now other) number given (sym (records_part_is folders path apart names day number) ∙ (is ∙ records_part_is folders other apart names another given)))
      not_same RecordsPart Report = λ is. across _ _ aside.records_part beside.report is
      not_same RecordsPart ReportPart = λ is. across _ _ aside.records_part beside.report_part is
      not_same RecordsPart Stamp = λ is. across _ _ aside.records_part beside.stamp.path is
      not_same RecordsPart StampPart = λ is. across _ _ aside.records_part beside.stamp.part is
      not_same Report Records = λ is. across _ _ beside.records aside.report (sym is)
      not_same Report RecordsPart = λ is. across _ _ beside.records_part aside.report (sym is)
      not_same Report Report = λ is. other_report (codes ".txt") (sym (report_is folders path apart names day number) ∙ (is ∙ report_is folders other apart names another given))
      not_same Report ReportPart = λ is. text_not_numbered (report path) (report other ++ codes ".txt") given (sym (report_is folders path apart names day number) ∙ (is ∙ report_beside other another given))
      not_same Report Stamp = λ is. text_not_from (report path) (report other) (sym (report_is folders path apart names day number) ∙ (is ∙ stamp_is folders other apart names another given))
      not_same Report StampPart = λ is. text_not_numbered (report path) (report other ++ codes ".from") given (sym (report_is folders path apart names day number) ∙ (is ∙ stamp_beside other another given))
      not_same ReportPart Records = λ is. across _ _ beside.records aside.report_part (sym is)
      not_same ReportPart RecordsPart = λ is. across _ _ beside.records_part aside.report_part (sym is)
      not_same ReportPart Report = λ is. text_not_numbered (report other) (report path ++ codes ".txt") number (sym (report_is folders other apart names another given) ∙ (sym is ∙ report_beside path day number))
      not_same ReportPart ReportPart = λ is. other_report (codes ".txt") (numbered_same (report path ++ codes ".txt") (report other ++ codes ".txt") number given (sym (report_beside path day number) ∙ (is ∙ report_beside other another given)))
      not_same ReportPart Stamp = λ is. from_not_numbered (report other) (report path ++ codes ".txt") number (sym (stamp_is folders other apart names another given) ∙ (sym is ∙ report_beside path day number))
      not_same ReportPart StampPart = λ is. text_not_from (report path) (report other) (numbered_same (report path ++ codes ".txt") (report other ++ codes ".from") number given (sym (report_beside path day number) ∙ (is ∙ stamp_beside other another given)))
      not_same Stamp Records = λ is. across _ _ beside.records aside.stamp.path (sym is)
      not_same Stamp RecordsPart = λ is. across _ _ beside.records_part aside.stamp.path (sym is)
      not_same Stamp Report = λ is. text_not_from (report other) (report path) (sym (report_is folders other apart names another given) ∙ (sym is ∙ stamp_is folders path apart names day number))
      not_same Stamp ReportPart = λ is. from_not_numbered (report path) (report other ++ codes ".txt") given (sym (stamp_is folders path apart names day number) ∙ (is ∙ report_beside other another given))
      not_same Stamp Stamp = λ is. other_report (codes ".from") (sym (stamp_is folders path apart names day number) ∙ (is ∙ stamp_is folders other apart names another given))
      not_same Stamp StampPart = λ is. from_not_numbered (report path) (report other ++ codes ".from") given (sym (stamp_is folders path apart names day number) ∙ (is ∙ stamp_beside other another given))
      not_same StampPart Records = λ is. across _ _ beside.records aside.stamp.part (sym is)
      not_same StampPart RecordsPart = λ is. across _ _ beside.records_part aside.stamp.part (sym is)
      not_same StampPart Report = λ is. text_not_numbered (report other) (report path ++ codes ".from") number (sym (report_is folders other apart names another given) ∙ (sym is ∙ stamp_beside path day number))
      not_same StampPart ReportPart = λ is. text_not_from (report other) (report path) (sym (numbered_same (report path ++ codes ".from") (report other ++ codes ".txt") number given (sym (stamp_beside path day number) ∙ (is ∙ report_beside other another given))))
      not_same StampPart Stamp = λ is. from_not_numbered (report other) (report path ++ codes ".from") number (sym (stamp_is folders other apart names another given) ∙ (sym is ∙ stamp_beside path day number))
      not_same StampPart StampPart = λ is. other_report (codes ".from") (numbered_same (report path ++ codes ".from") (report other ++ codes ".from") number given (sym (stamp_beside path day number) ∙ (is ∙ stamp_beside other another given)))

      pub other_day : IsOther (of path number) (of other given)
      other_day one two = differ _ _ (not_same one two)

-- a name of a day is none of another's
pub none_of_other : (files other : DayFiles) (name : Name) → IsOther files other → IsNoneOf (name_path files name) (day_paths other)
none_of_other files other name apart =
    (apart name Records, (apart name RecordsPart, (apart name Report, (apart name ReportPart, (apart name Stamp, (apart name StampPart, tt))))))
