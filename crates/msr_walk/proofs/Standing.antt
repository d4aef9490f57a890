-- The files of the days of a folder stand in its folders of records and reports.
use Rattle.std.proofs.Common.{◌≡◌, ◌≢◌, ◌+◌, ◌-◌, ◌<◌, ℕ, zero, suc, not, cond, [], ◌∷◌, ◌++◌, refl, sym, ◌∙◌, ap, append_assoc, arith, length, length-append, take, reverse, codes}
use Rattle.std.proofs.lemmas.List.{reverse-append}
use Rattle.std.proofs.lemmas.List.Sums.{suffix_len-le-length}
use Rattle.std.proofs.lemmas.Slice.Eq.{bytes_eq-Decides}
use Rattle.std.proofs.Math.Seq.{take-append-add}
use Rattle.std.specs.List.{prefix_len, suffix_len}
use Rattle.msr_folders.specs.Days.{IsDay}
use Rattle.msr_folders.specs.Paths.{folder_of, joined}
use Rattle.msr_naming.specs.Promise.{StandInFolders}
use Rattle.msr_options.specs.Tasks.{StandApart}
use Rattle.msr_options.specs.declared.task.Folders.{Folders}
use Rattle.msr_tree.specs.Steps.{Path, folder_above, is_separator}
use Rattle.msr_walk.proofs.DayApart.{above_same, report_is, text_above}
use Rattle.msr_walk.specs.Files.{HaveNames, day_names, files_of}

abbrev last_of : Path → ℕ
last_of path = suffix_len (λ byte. not (is_separator byte)) path

up_to_slash : (path rest : Path) → prefix_len (λ byte. not (is_separator byte)) (path ++ 47 ∷ rest) ≡ prefix_len (λ byte. not (is_separator byte)) path
up_to_slash [] rest = refl
up_to_slash (b ∷ path) rest = ap (λ n. cond (not (is_separator b)) (1 + n) 0) (up_to_slash path rest)

-- what follows the last slash of a path below a folder
last_below : (folder path : Path) → last_of (folder ++ 47 ∷ path) ≡ last_of path
last_below folder path =
    ap (prefix_len (λ byte. not (is_separator byte))) (reverse-append folder (47 ∷ path) ∙ ap (λ l. l ++ reverse folder) (reverse-append (47 ∷ []) path) ∙ append_assoc (reverse path) (47 ∷ []) (reverse folder))
    ∙ up_to_slash (reverse path) (reverse folder)

above_below : (folder path : Path) → last_of path < length path → folder_above (folder ++ 47 ∷ path) ≡ folder ++ 47 ∷ folder_above path
above_below folder path some =
    let front : length (folder ++ 47 ∷ path) - last_of (folder ++ 47 ∷ path) - 1 ≡ length folder + suc (length path - last_of path - 1)
    = omega (arith, last_below folder path, length-append folder (47 ∷ path), some) in
    ap (λ n. take n (folder ++ 47 ∷ path)) front ∙ take-append-add folder (47 ∷ path) (suc (length path - last_of path - 1))

some_taken : (n : ℕ) (path : Path) → 0 < n → 0 < length path → 0 < length (take n path)
some_taken zero path few some = absurd (omega (arith, few))
some_taken (suc n) [] few some = absurd (omega (arith, some))
some_taken (suc n) (b ∷ path) few some = omega arith

pub joined_some : (folder path : Path) → folder ≢ [] → 0 < length path → joined folder path ≡ folder ++ 47 ∷ path
joined_some [] path named some = absurd (named refl)
joined_some (f ∷ folder) [] named some = absurd (omega (arith, some))
joined_some (f ∷ folder) (p ∷ path) named some = refl

-- the folder of a day is four letters and a slash at least
module _ (path : Path) (day : IsDay path) where
  few_last : last_of path + 4 < length path
  few_last =
      let p = day.0 in
      let rest : Path = p.network ++ 47 ∷ (p.station ++ 47 ∷ (p.channel ++ 46 ∷ (p.data_type ++ 47 ∷ (p.network ++ 46 ∷ (p.station ++ 46 ∷ (p.location ++ 46 ∷ (p.channel ++ 46 ∷ (p.data_type ++ 46 ∷ (p.year ++ 46 ∷ p.day))))))))) in
      let whole : path ≡ p.year ++ 47 ∷ rest = day.1.reads.spelled in
      let year : length p.year ≡ 4 = day.1.reads.form.year.0 in
      let last : last_of path ≡ last_of rest = ap last_of whole ∙ last_below p.year rest in
      let long : length path ≡ length (p.year ++ 47 ∷ rest) = ap length whole in
      omega (arith, year, last, long, length-append p.year (47 ∷ rest), suffix_len-le-length (λ byte. not (is_separator byte)) rest)

  stands_below : (folder : Path) → folder ≢ [] → folder_above (joined folder path) ≡ joined folder (folder_of path)
  stands_below folder named =
      let some : 0 < length (folder_of path) = some_taken (length path - last_of path - 1) path (omega (arith, few_last)) (omega (arith, few_last)) in
      ap folder_above (joined_some folder path named (omega (arith, few_last))) ∙ (above_below folder path (omega (arith, few_last)) ∙ sym (joined_some folder (folder_of path) named some))

  pub stand_in : (folders : Folders) (apart : StandApart folders) (names : HaveNames folders.out.now folders.reports.now) (number : ℕ)
      → StandInFolders (joined folders.out.now (folder_of path)) (joined folders.reports.now (folder_of path)) (files_of (day_names folders.root.now folders.out.now folders.reports.now path) number)
  stand_in folders apart names number =
      let report : Path = joined folders.reports.now path in
      record {
        records_in = (bytes_eq-Decides (folder_above (joined folders.out.now path)) (joined folders.out.now (folder_of path))).1 (stands_below folders.out.now names.out_some);
        report_in = rw (report_is folders path apart names day number) ((bytes_eq-Decides (folder_above (report ++ codes ".txt")) (joined folders.reports.now (folder_of path))).1
            (above_same report (codes ".txt") (text_above report) ∙ stands_below folders.reports.now names.reports_some));
      }
