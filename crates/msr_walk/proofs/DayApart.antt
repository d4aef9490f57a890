-- The names of a day are apart, if the folders of an archive are, and have names.
use Rattle.std.proofs.Common.{◌≡◌, ◌≢◌, ◌+◌, ◌-◌, ◌≤◌, ℕ, true, false, not, ◌∷◌, ◌++◌, ap, sym, ◌∙◌, subst, arith, append_assoc, length, take, reverse, codes}
use Rattle.std.proofs.lemmas.List.{append_cancel_left, length-append, reverse-append, take-append-le}
use Rattle.std.proofs.lemmas.List.Sums.{suffix_len-le-length}
use Rattle.std.proofs.lemmas.Slice.Eq.{bytes_eq-Decides}
use Rattle.std.specs.Fmt.{decimal}
use Rattle.std.specs.List.{prefix_len, suffix_len}
use Rattle.std.specs.Str.{bytes_eq}
use Rattle.msr_folders.specs.Days.{IsDay}
use Rattle.msr_folders.specs.Entries.{StandsWithin}
use Rattle.msr_folders.specs.Paths.{ended, joined}
use Rattle.msr_naming.specs.Naming.{is_name, name_path}
use Rattle.msr_naming.specs.declared.files.DayFiles.{DayFiles}
use Rattle.msr_naming.specs.declared.files.Name.{Name}
use Rattle.msr_naming.specs.declared.files.Name.TheVariants.{Records, RecordsPart, Report, ReportPart, Stamp, StampPart}
use Rattle.msr_options.specs.Tasks.{StandApart}
use Rattle.msr_options.specs.declared.task.Folders.{Folders}
use Rattle.msr_tree.specs.Steps.{Path, folder_above, is_separator, stands_in}
use Rattle.msr_walk.proofs.Aside.{overlaps_within}
use Rattle.msr_walk.proofs.DayPaths.{day_within}
use Rattle.msr_walk.proofs.Endings.{differ, ended_some, some_joined}
use Rattle.msr_walk.specs.Files.{AreNamesOfDay, HaveNames, day_names, files_of}
use Rattle.msr_walk.specs.Handling.{AreWithin}
use Rattle.msr_walk.specs.Laws.{within_joined}

-- what has an ending is another name
longer : (path : Path) (b : ℕ) (rest : Path) → path ≢ path ++ b ∷ rest
longer path b rest is =
    let same : length path ≡ length (path ++ b ∷ rest) = ap length is in
    absurd (omega (arith, same, length-append path (b ∷ rest)))

-- of two endings with other second letters
endings : (path : Path) (a x y : ℕ) (one other : Path) → x ≢ y → path ++ a ∷ x ∷ one ≢ path ++ a ∷ y ∷ other
endings path a x y one other not is =
    let same : a ∷ x ∷ one ≡ a ∷ y ∷ other = append_cancel_left path (a ∷ x ∷ one) (a ∷ y ∷ other) is in
    not (ap second same)
  where
    second : Path → ℕ
    second (b ∷ c ∷ rest) = c
    second rest = 0

t_is_not_f : ◌≢◌ {A = ℕ} 116 102
t_is_not_f is = absurd (omega (arith, is))

four : (n : ℕ) → 1 + (1 + (1 + (1 + n))) ≡ 4 + n
four n = omega arith

five : (n : ℕ) → 1 + (1 + (1 + (1 + (1 + n)))) ≡ 5 + n
five n = omega arith

-- the folder above a name with an ending without a slash is that of the name
pub above_same : (path ending : Path) → suffix_len (λ byte. not (is_separator byte)) (path ++ ending) ≡ length ending + suffix_len (λ byte. not (is_separator byte)) path
    → folder_above (path ++ ending) ≡ take (length path - suffix_len (λ byte. not (is_separator byte)) path - 1) path
above_same path ending more =
    let last : ℕ = suffix_len (λ byte. not (is_separator byte)) path in
    let few : last ≤ length path = suffix_len-le-length (λ byte. not (is_separator byte)) path in
    let front : length (path ++ ending) - suffix_len (λ byte. not (is_separator byte)) (path ++ ending) - 1 ≡ length path - last - 1
    = omega (arith, more, length-append path ending) in
    ap (λ n. take n (path ++ ending)) front ∙ take-append-le (length path - last - 1) path ending (omega arith)

pub text_above : (path : Path) → suffix_len (λ byte. not (is_separator byte)) (path ++ codes ".txt") ≡ 4 + suffix_len (λ byte. not (is_separator byte)) path
text_above path = ap (prefix_len (λ byte. not (is_separator byte))) (reverse-append path (codes ".txt"))
    ∙ four (prefix_len (λ byte. not (is_separator byte)) (reverse path))

from_above : (path : Path) → suffix_len (λ byte. not (is_separator byte)) (path ++ codes ".from") ≡ 5 + suffix_len (λ byte. not (is_separator byte)) path
from_above path = ap (prefix_len (λ byte. not (is_separator byte))) (reverse-append path (codes ".from"))
    ∙ five (prefix_len (λ byte. not (is_separator byte)) (reverse path))

beside_so : (path : Path) → stands_in (folder_above (path ++ codes ".txt")) (path ++ codes ".from") ≡ true
beside_so path = (bytes_eq-Decides (folder_above (path ++ codes ".from")) (folder_above (path ++ codes ".txt"))).1
    (above_same path (codes ".from") (from_above path) ∙ sym (above_same path (codes ".txt") (text_above path)))

module _ (folders : Folders) (path : Path) (apart : StandApart folders) (names : HaveNames folders.out.now folders.reports.now) (day : IsDay path) (number : ℕ) where
  abbrev pub files : DayFiles
  files = files_of (day_names folders.root.now folders.out.now folders.reports.now path) number

  abbrev pub part : Path
  part = codes "." ++ (decimal number ++ codes ".part")

  abbrev pub records : Path
  records = joined folders.out.now path

  abbrev pub report : Path
  report = joined folders.reports.now path

  pub within : AreWithin folders.out.now folders.reports.now files
  within = (day_within folders.root.now folders.out.now folders.reports.now path day).are number

  -- what is made of records stands apart from what is made of reports
  pub sides : (one other : Path) → StandsWithin folders.out.now one → StandsWithin folders.reports.now other → one ≢ other
  sides one other first second is = apart.outputs (overlaps_within folders.out.now folders.reports.now other (subst (λ p. StandsWithin folders.out.now p) is first) second)

  pub records_part_is : files.records.part ≡ records ++ part
  records_part_is = let some = some_joined folders.out.now path names.out_some in ended_some records part some.0 some.1 some.2

  pub report_is : files.report.path ≡ report ++ codes ".txt"
  report_is = let some = some_joined folders.reports.now path names.reports_some in ended_some report (codes ".txt") some.0 some.1 some.2

  pub stamp_is : files.stamp.path ≡ report ++ codes ".from"
  stamp_is = let some = some_joined folders.reports.now path names.reports_some in ended_some report (codes ".from") some.0 some.1 some.2

  pub report_part_is : files.report.part ≡ report ++ (codes ".txt" ++ part)
  report_part_is =
      let some = some_joined folders.reports.now path names.reports_some in
      ap (λ p. ended p part) report_is ∙ ended_some (report ++ codes ".txt") part some.0 (some.1 ++ codes ".txt") (ap (λ p. p ++ codes ".txt") some.2) ∙ append_assoc report (codes ".txt") part

  pub stamp_part_is : files.stamp.part ≡ report ++ (codes ".from" ++ part)
  stamp_part_is =
      let some = some_joined folders.reports.now path names.reports_some in
      ap (λ p. ended p part) stamp_is ∙ ended_some (report ++ codes ".from") part some.0 (some.1 ++ codes ".from") (ap (λ p. p ++ codes ".from") some.2) ∙ append_assoc report (codes ".from") part

  not_records_recordspart : files.records.path ≢ files.records.part
  not_records_recordspart is = longer records 46 (decimal number ++ codes ".part") (is ∙ records_part_is)

  not_records_report : files.records.path ≢ files.report.path
  not_records_report = sides _ _ within.records within.report

  not_records_reportpart : files.records.path ≢ files.report.part
  not_records_reportpart = sides _ _ within.records within.report_part

  not_records_stamp : files.records.path ≢ files.stamp.path
  not_records_stamp = sides _ _ within.records within.stamp.path

  not_records_stamppart : files.records.path ≢ files.stamp.part
  not_records_stamppart = sides _ _ within.records within.stamp.part

  not_recordspart_report : files.records.part ≢ files.report.path
  not_recordspart_report = sides _ _ within.records_part within.report

  not_recordspart_reportpart : files.records.part ≢ files.report.part
  not_recordspart_reportpart = sides _ _ within.records_part within.report_part

  not_recordspart_stamp : files.records.part ≢ files.stamp.path
  not_recordspart_stamp = sides _ _ within.records_part within.stamp.path

  not_recordspart_stamppart : files.records.part ≢ files.stamp.part
  not_recordspart_stamppart = sides _ _ within.records_part within.stamp.part

  not_report_reportpart : files.report.path ≢ files.report.part
  not_report_reportpart is = longer (report ++ codes ".txt") 46 (decimal number ++ codes ".part")
      (sym report_is ∙ is ∙ report_part_is ∙ sym (append_assoc report (codes ".txt") part))

  not_report_stamp : files.report.path ≢ files.stamp.path
  not_report_stamp is = endings report 46 116 102 (codes "xt") (codes "rom") t_is_not_f (sym report_is ∙ is ∙ stamp_is)

  not_report_stamppart : files.report.path ≢ files.stamp.part
  not_report_stamppart is = endings report 46 116 102 (codes "xt") (codes "rom" ++ part) t_is_not_f (sym report_is ∙ is ∙ stamp_part_is)

  not_reportpart_stamp : files.report.part ≢ files.stamp.path
  not_reportpart_stamp is = endings report 46 116 102 (codes "xt" ++ part) (codes "rom") t_is_not_f (sym report_part_is ∙ is ∙ stamp_is)

  not_reportpart_stamppart : files.report.part ≢ files.stamp.part
  not_reportpart_stamppart is = endings report 46 116 102 (codes "xt" ++ part) (codes "rom" ++ part) t_is_not_f (sym report_part_is ∙ is ∙ stamp_part_is)

  not_stamp_stamppart : files.stamp.path ≢ files.stamp.part
  not_stamp_stamppart is = longer (report ++ codes ".from") 46 (decimal number ++ codes ".part")
      (sym stamp_is ∙ is ∙ stamp_part_is ∙ sym (append_assoc report (codes ".from") part))

  apart_by : (one other : Name) → is_name one other ≡ false → bytes_eq (name_path files one) (name_path files other) ≡ false
  apart_by Records Records not = absurd cc
  apart_by Records RecordsPart not = differ _ _ (not_records_recordspart)
  apart_by Records Report not = differ _ _ (not_records_report)
  apart_by Records ReportPart not = differ _ _ (not_records_reportpart)
  apart_by Records Stamp not = differ _ _ (not_records_stamp)
  apart_by Records StampPart not = differ _ _ (not_records_stamppart)
  apart_by RecordsPart Records not = differ _ _ (λ is. not_records_recordspart (sym is))
  apart_by RecordsPart RecordsPart not = absurd cc
  apart_by RecordsPart Report not = differ _ _ (not_recordspart_report)
  apart_by RecordsPart ReportPart not = differ _ _ (not_recordspart_reportpart)
  apart_by RecordsPart Stamp not = differ _ _ (not_recordspart_stamp)
  apart_by RecordsPart StampPart not = differ _ _ (not_recordspart_stamppart)
  apart_by Report Records not = differ _ _ (λ is. not_records_report (sym is))
  apart_by Report RecordsPart not = differ _ _ (λ is. not_recordspart_report (sym is))
  apart_by Report Report not = absurd cc
  apart_by Report ReportPart not = differ _ _ (not_report_reportpart)
  apart_by Report Stamp not = differ _ _ (not_report_stamp)
  apart_by Report StampPart not = differ _ _ (not_report_stamppart)
  apart_by ReportPart Records not = differ _ _ (λ is. not_records_reportpart (sym is))
  apart_by ReportPart RecordsPart not = differ _ _ (λ is. not_recordspart_reportpart (sym is))
  apart_by ReportPart Report not = differ _ _ (λ is. not_report_reportpart (sym is))
  apart_by ReportPart ReportPart not = absurd cc
  apart_by ReportPart Stamp not = differ _ _ (not_reportpart_stamp)
  apart_by ReportPart StampPart not = differ _ _ (not_reportpart_stamppart)
  apart_by Stamp Records not = differ _ _ (λ is. not_records_stamp (sym is))
  apart_by Stamp RecordsPart not = differ _ _ (λ is. not_recordspart_stamp (sym is))
  apart_by Stamp Report not = differ _ _ (λ is. not_report_stamp (sym is))
  apart_by Stamp ReportPart not = differ _ _ (λ is. not_reportpart_stamp (sym is))
  apart_by Stamp Stamp not = absurd cc
  apart_by Stamp StampPart not = differ _ _ (not_stamp_stamppart)
  apart_by StampPart Records not = differ _ _ (λ is. not_records_stamppart (sym is))
  apart_by StampPart RecordsPart not = differ _ _ (λ is. not_recordspart_stamppart (sym is))
  apart_by StampPart Report not = differ _ _ (λ is. not_report_stamppart (sym is))
  apart_by StampPart ReportPart not = differ _ _ (λ is. not_reportpart_stamppart (sym is))
  apart_by StampPart Stamp not = differ _ _ (λ is. not_stamp_stamppart (sym is))
  apart_by StampPart StampPart not = absurd cc

  -- the day's own file is none of them
  abbrev input : Path
  input = joined folders.root.now path

  not_out : (place : Path) → StandsWithin folders.out.now place → input ≢ place
  not_out place there is = apart.out (overlaps_within folders.root.now folders.out.now place (subst (λ p. StandsWithin folders.root.now p) is (within_joined folders.root.now path)) there)

  not_reports : (place : Path) → StandsWithin folders.reports.now place → input ≢ place
  not_reports place there is = apart.reports (overlaps_within folders.root.now folders.reports.now place (subst (λ p. StandsWithin folders.root.now p) is (within_joined folders.root.now path)) there)

pub day_apart : (folders : Folders) (path : Path) → StandApart folders → HaveNames folders.out.now folders.reports.now → IsDay path
    → AreNamesOfDay (day_names folders.root.now folders.out.now folders.reports.now path)
day_apart folders path apart names day = record {
  are = λ number.
      let there = within folders path apart names day number in
      record {
        names = record {
          apart = apart_by folders path apart names day number;
          beside = rw (report_is folders path apart names day number, stamp_is folders path apart names day number) (beside_so (joined folders.reports.now path));
        };
        own = (
          differ _ _ (not_out folders path apart names day number _ there.records),
          (
            differ _ _ (not_out folders path apart names day number _ there.records_part),
            (
              differ _ _ (not_reports folders path apart names day number _ there.report),
              (
                differ _ _ (not_reports folders path apart names day number _ there.report_part),
                (
                  differ _ _ (not_reports folders path apart names day number _ there.stamp.path),
                  (differ _ _ (not_reports folders path apart names day number _ there.stamp.part), tt),
                ),
              ),
            ),
          ),
        );
      };
}
