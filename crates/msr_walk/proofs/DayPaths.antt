-- The names of a day are within the folders of records and reports.
use Rattle.std.proofs.Common.{◌≡◌, ◌≢◌, ◌≤◌, ◌∙◌, ℕ, false, [], ◌∷◌, ◌++◌, refl, ap, sym, arith, length, length-append, codes}
use Rattle.std.specs.Fmt.{decimal}
use Rattle.std.specs.Str.{bytes_eq}
use Rattle.msr_folders.specs.Paths.{ended, joined}
use Rattle.msr_sds.specs.SdsPath.{SdsPath, ReadsAsDay, path_of}
use Rattle.msr_tree.specs.Steps.{Path}
use Rattle.msr_walk.proofs.Aside.{within_both, within_ended}
use Rattle.msr_walk.proofs.Endings.{differ, ended_some, part_end, some_joined, text_not_from, text_not_part}
use Rattle.msr_walk.specs.Files.{day_names}
use Rattle.msr_walk.specs.Laws.{within_joined}
use Rattle.msr_walk.specs.Handling.{AreNamesWithin}
use Rattle.msr_folders.specs.Days.{IsDay}

pub long : (path : Path) (name : SdsPath) → ReadsAsDay path name → 4 ≤ length path
long path name reads =
    let year : length name.year ≡ 4 = reads.reads.form.year.0 in
    let whole : length path ≡ length (path_of name) = ap length reads.reads.spelled in
    omega (arith, length-append {A = ℕ}, year, whole)

-- the path of a day has some bytes
first_of : (path : Path) → 4 ≤ length path → (p : ℕ) × (rest : Path) × (path ≡ p ∷ rest)
first_of [] some = absurd (omega arith)
first_of (p ∷ rest) some = (p, rest, refl)

-- a stamp's name and the one beside it are no report's
module _ (reports path day : Path) (some : reports ≢ []) where
  report_is : ended (joined reports day) (codes ".txt") ≡ joined reports day ++ codes ".txt"
  report_is = let there = some_joined reports day some in ended_some (joined reports day) (codes ".txt") there.0 there.1 there.2

  stamp_is : ended (joined reports path) (codes ".from") ≡ joined reports path ++ codes ".from"
  stamp_is = let there = some_joined reports path some in ended_some (joined reports path) (codes ".from") there.0 there.1 there.2

  not_stamp : bytes_eq (ended (joined reports day) (codes ".txt")) (ended (joined reports path) (codes ".from")) ≡ false
  not_stamp = differ _ _ (λ is. text_not_from (joined reports day) (joined reports path) (sym report_is ∙ (is ∙ stamp_is)))

  not_stamp_part : (number : ℕ) → bytes_eq (ended (joined reports day) (codes ".txt")) (ended (ended (joined reports path) (codes ".from")) (codes "." ++ (decimal number ++ codes ".part"))) ≡ false
  not_stamp_part number =
      let there = some_joined reports path some in
      let part : Path = codes "." ++ (decimal number ++ codes ".part") in
      let stamp : Path = joined reports path ++ codes ".from" in
      let whole : ended (ended (joined reports path) (codes ".from")) part ≡ (stamp ++ (codes "." ++ decimal number)) ++ codes ".part"
      = ap (λ p. ended p part) stamp_is ∙ (ended_some stamp part there.0 (there.1 ++ codes ".from") (ap (λ p. p ++ codes ".from") there.2) ∙ part_end stamp number) in
      differ _ _ (λ is. text_not_part (joined reports day) (stamp ++ (codes "." ++ decimal number)) (sym report_is ∙ (is ∙ whole)))

pub day_within : (root out reports path : Path) → IsDay path → AreNamesWithin out reports (day_names root out reports path)
day_within root out reports path day =
    let some = first_of path (long path day.0 day.1) in
    record {
      are = λ number.
          let part : Path = codes "." ++ (decimal number ++ codes ".part") in
          record {
            records = within_joined out path;
            records_part = within_ended out path part some.0 some.1 some.2;
            report = within_ended reports path (codes ".txt") some.0 some.1 some.2;
            report_part = within_both reports path (codes ".txt") part some.0 some.1 some.2;
            stamp = record {
              path = within_ended reports path (codes ".from") some.0 some.1 some.2;
              part = within_both reports path (codes ".from") part some.0 some.1 some.2;
              apart = λ named day. (not_stamp reports path day named, (not_stamp_part reports path day named number, tt));
            };
          };
    }
