-- Days that wait for their stamps to get their names.
use Rattle.std.proofs.Common.{◌≡◌, ◌≢◌, ◌⊎◌, inl, inr, ⊎_elim, ℕ, List, [], ◌∷◌, ◌++◌, reverse, refl, sym, ◌∙◌, ap, subst}
use Rattle.std.proofs.lemmas.Bool.{cases_Bool}
use Rattle.std.proofs.lemmas.List.{append-nil, reverse-append}
use Rattle.std.proofs.lemmas.Slice.Eq.{bytes_eq-Decides}
use Rattle.std.specs.List.{AllByRecursion}
use Rattle.std.specs.Str.{bytes_eq}
use Rattle.msr_folders.specs.Days.{IsDay}
use Rattle.msr_folders.specs.Paths.{folder_of}
use Rattle.msr_naming.specs.Naming.{IsOther, day_paths, name_path}
use Rattle.msr_naming.specs.Promise.{AreOthers, IsOneOf, stamp_paths}
use Rattle.msr_naming.specs.declared.batch.Waiting.{Waiting}
use Rattle.msr_naming.specs.declared.files.DayFiles.{DayFiles}
use Rattle.msr_naming.specs.declared.files.Name.{Name}
use Rattle.msr_naming.specs.declared.files.Name.TheVariants.{Records, Report, Stamp, StampPart}
use Rattle.msr_options.specs.Tasks.{StandApart}
use Rattle.msr_options.specs.declared.task.Archiving.{Archiving}
use Rattle.msr_tree.specs.Steps.{ChangesOnly, IsNoneOf, Path, Spares, Step, now}
use Rattle.msr_walk.proofs.Endings.{differ}
use Rattle.msr_walk.proofs.OtherDays.{none_of_other, other_day}
use Rattle.msr_walk.proofs.Spared.{SparesNames, waits_spared}
use Rattle.msr_walk.specs.Files.{DayNames, HaveNames, files_of}
use Rattle.msr_walk.specs.Handling.{ChangesNames}
use Rattle.msr_walk.specs.Waiting.{ShareNoNames, AreOfDay, AreWaiting, IsNoneWaiting, IsWaiting, WaitsAs, files_waiting}
use Rattle.msr_walk.specs.Kills.{day_names_in}

pub other_back : (files other : DayFiles) → IsOther files other → IsOther other files
other_back files other apart one two =
    differ _ _ (λ is. let yes = (bytes_eq-Decides (name_path files two) (name_path other one)).1 (sym is) in let no = apart two one in absurd cc)

pub all_so : {X : Type 0} (P Q : X → Type 0) (xs : List X) → ((x : X) → P x → Q x) → AllByRecursion P xs → AllByRecursion Q xs
all_so P Q [] so all = tt
all_so P Q (x ∷ xs) so all = (so x all.0, all_so P Q xs so all.1)

-- One of some.
module _ {C : Type 0} (P : DayFiles → Type 0) (day : Waiting C) where
  pub all_but : (before after : List (Waiting C)) → AllByRecursion P (files_waiting (before ++ day ∷ after)) → AllByRecursion P (files_waiting (before ++ after)) × P day.files
  all_but [] after all = (all.1, all.0)
  all_but (first ∷ before) after all = let rest = all_but before after all.1 in ((all.0, rest.0), rest.1)

  pub all_with : (before after : List (Waiting C)) → AllByRecursion P (files_waiting (before ++ after)) → P day.files → AllByRecursion P (files_waiting (before ++ day ∷ after))
  all_with [] after all one = (one, all)
  all_with (first ∷ before) after all one = (all.0, all_with before after all.1 one)

module _ {C : Type 0} (day : Waiting C) where
  pub apart_but : (before after : List (Waiting C)) → ShareNoNames (files_waiting (before ++ day ∷ after))
      → ShareNoNames (files_waiting (before ++ after)) × AllByRecursion (λ files. IsOther files day.files) (files_waiting (before ++ after))
  apart_but [] after apart = (apart.1, all_so _ _ (files_waiting after) (λ files other. other_back day.files files other) apart.0)
  apart_but (first ∷ before) after apart =
      let rest = apart_but before after apart.1 in
      let others = all_but (λ files. IsOther first.files files) day before after apart.0 in
      ((others.0, rest.0), (others.1, rest.1))

  pub apart_with : (before after : List (Waiting C)) → ShareNoNames (files_waiting (before ++ after)) → AllByRecursion (λ files. IsOther files day.files) (files_waiting (before ++ after))
      → ShareNoNames (files_waiting (before ++ day ∷ after))
  apart_with [] after apart others = (all_so _ _ (files_waiting after) (λ files other. other_back files day.files other) others, apart)
  apart_with (first ∷ before) after apart others =
      (all_with (λ files. IsOther first.files files) day before after apart.0 others.0, apart_with before after apart.1 others.1)

-- in another order
module _ {C : Type 0} where
  all_turned : (P : DayFiles → Type 0) (days : List (Waiting C)) → AllByRecursion P (files_waiting (reverse days)) → AllByRecursion P (files_waiting days)
  all_turned P [] all = tt
  all_turned P (day ∷ days) all =
      let parts = all_but P day (reverse days) [] (subst (λ (l : List (Waiting C)). AllByRecursion P (files_waiting l)) (reverse-append (day ∷ []) days) all) in
      (parts.1, all_turned P days (subst (λ (l : List (Waiting C)). AllByRecursion P (files_waiting l)) (append-nil (reverse days)) parts.0))

  apart_turned : (days : List (Waiting C)) → ShareNoNames (files_waiting (reverse days)) → ShareNoNames (files_waiting days)
  apart_turned [] apart = tt
  apart_turned (day ∷ days) apart =
      let parts = apart_but day (reverse days) [] (subst (λ (l : List (Waiting C)). ShareNoNames (files_waiting l)) (reverse-append (day ∷ []) days) apart) in
      let same : reverse days ++ [] ≡ reverse days = append-nil (reverse days) in (
        all_so _ _ (files_waiting days) (λ files other. other_back files day.files other)
            (all_turned (λ files. IsOther files day.files) days (subst (λ (l : List (Waiting C)). AllByRecursion (λ files. IsOther files day.files) (files_waiting l)) same parts.1)),
        apart_turned days (subst (λ (l : List (Waiting C)). ShareNoNames (files_waiting l)) same parts.0),
      )

  pub waiting_turned : (archive : Archiving) (folder : Path) (days : List (Waiting C)) (past : List Step) → AreWaiting archive folder (reverse days) past → AreWaiting archive folder days past
  waiting_turned archive folder days past wait = record {
    each = all_turned (λ files. IsWaiting archive folder files past) days wait.each;
    apart = λ have. apart_turned days (wait.apart have);
  }

-- The names of a day that waits are left alone, with that beside the stamp's.
pub record SparesWaiting (files : DayFiles) (made : List Step) : Type 0 where
  pub names : SparesNames files made
  pub part : Spares files.stamp.part made

spares_by : (files : DayFiles) (made : List Step) → ((name : Name) → Spares (name_path files name) made) → SparesWaiting files made
spares_by files made spares = record { names = record { records = spares Records; report = spares Report; stamp = spares Stamp }; part = spares StampPart }

-- a name of another day is none of those of stamps
pub none_of_stamps_by : (files : DayFiles) (name : Name) (days : List DayFiles) → AreOthers files days → IsNoneOf (name_path files name) (stamp_paths days)
none_of_stamps_by files name [] others = tt
none_of_stamps_by files name (day ∷ days) others = (others.0 name Stamp, (others.0 name StampPart, none_of_stamps_by files name days others.1))

module _ (archive : Archiving) where
  abbrev Named : Type 0
  Named = HaveNames archive.folders.out.now archive.folders.reports.now

  abbrev pub SameInputs : (old new : List Step) → Type 0
  SameInputs old new = (path : Path) → now new (day_names_in archive path).input ≡ now old (day_names_in archive path).input

  pub waits_as_spared : (path : Path) (files : DayFiles) (old new made : List Step) → new ≡ made ++ old → SameInputs old new → (Named → SparesWaiting files made)
      → WaitsAs archive path files old → WaitsAs archive path files new
  waits_as_spared path files old new made since same spares waits = record {
    number = waits.number;
    are = waits.are;
    asked = waits.asked;
    for_day = waits.for_day;
    waits = λ have. let spared = spares have in
        waits_spared files (day_names_in archive path).input waits.asked.options old new made since (same path) spared.names spared.part (waits.waits have);
  }

  pub each_spared : (folder : Path) (list : List DayFiles) (old new made : List Step) → new ≡ made ++ old → SameInputs old new
      → (Named → AllByRecursion (λ files. SparesWaiting files made) list)
      → AllByRecursion (λ files. IsWaiting archive folder files old) list → AllByRecursion (λ files. IsWaiting archive folder files new) list
  each_spared folder [] old new made since same spares all = tt
  each_spared folder (files ∷ list) old new made since same spares all = (
    record {
      path = all.0.path;
      day = all.0.day;
      beside = all.0.beside;
      waits = waits_as_spared all.0.path files old new made since same (λ have. (spares have).0) all.0.waits;
    },
    each_spared folder list old new made since same (λ have. (spares have).1) all.1,
  )

  -- while another day is handled
  day_spares : (names : DayNames) (list : List DayFiles) (old new : List Step) (changes : ChangesNames day_paths names old new)
      → ((number : ℕ) → AllByRecursion (λ files. IsOther files (files_of names number)) list) → AllByRecursion (λ files. SparesWaiting files changes.made) list
  day_spares names [] old new changes others = tt
  day_spares names (files ∷ list) old new changes others = (
    spares_by files changes.made (λ name. changes.spares (name_path files name) (λ number. none_of_other files (files_of names number) name (others number).0)),
    day_spares names list old new changes (λ number. (others number).1),
  )

  -- while one waits no more
  part_spares : (files : DayFiles) (list : List DayFiles) (old new : List Step) (changes : ChangesOnly (files.stamp.part ∷ []) old new)
      → AllByRecursion (λ other. IsOther other files) list → AllByRecursion (λ other. SparesWaiting other changes.made) list
  part_spares files [] old new changes others = tt
  part_spares files (other ∷ list) old new changes others = (
    spares_by other changes.made (λ name. changes.spares (name_path other name) (others.0 name StampPart, tt)),
    part_spares files list old new changes others.1,
  )

  -- while others get their stamps
  pub waits_beside : (path : Path) (files : DayFiles) (days : List DayFiles) (old new : List Step) → SameInputs old new → ChangesOnly (stamp_paths days) old new
      → (Named → AllByRecursion (λ other. IsOther other files) days) → WaitsAs archive path files old → WaitsAs archive path files new
  waits_beside path files days old new same changes others waits =
      waits_as_spared path files old new changes.made changes.since same
      (λ have. spares_by files changes.made (λ name. changes.spares (name_path files name) (none_of_stamps_by files name days (all_so _ _ days (λ other apart. other_back other files apart) (others have))))) waits

  module _ {C : Type 0} (folder : Path) where
    pub waiting_beside : (path : Path) (days : List (Waiting C)) (old new : List Step) → SameInputs old new → ChangesNames day_paths (day_names_in archive path) old new
        → IsNoneWaiting archive path days → AreWaiting archive folder days old → AreWaiting archive folder days new
    waiting_beside path days old new same changes none wait = record {
      each = each_spared folder (files_waiting days) old new changes.made changes.since same
          (λ have. day_spares (day_names_in archive path) (files_waiting days) old new changes (none.others have)) wait.each;
      apart = wait.apart;
    }

    pub waiting_dropped : (day : Waiting C) (before after : List (Waiting C)) (old new : List Step) → SameInputs old new → ChangesOnly (day.files.stamp.part ∷ []) old new
        → AreWaiting archive folder (before ++ day ∷ after) old → AreWaiting archive folder (before ++ after) new
    waiting_dropped day before after old new same changes wait = record {
      each = each_spared folder (files_waiting (before ++ after)) old new changes.made changes.since same
          (λ have. part_spares day.files (files_waiting (before ++ after)) old new changes (apart_but day before after (wait.apart have)).1)
          (all_but (λ files. IsWaiting archive folder files old) day before after wait.each).0;
      apart = λ have. (apart_but day before after (wait.apart have)).0;
    }

    -- while another one does
    pub waiting_apart : (day : Waiting C) (days : List (Waiting C)) (old new : List Step) → SameInputs old new → ChangesOnly (day.files.stamp.part ∷ []) old new
        → (Named → AllByRecursion (λ files. IsOther files day.files) (files_waiting days)) → AreWaiting archive folder days old → AreWaiting archive folder days new
    waiting_apart day days old new same changes others wait = record {
      each = each_spared folder (files_waiting days) old new changes.made changes.since same (λ have. part_spares day.files (files_waiting days) old new changes (others have)) wait.each;
      apart = wait.apart;
    }

    pub waiting_none : (past : List Step) → AreWaiting {C = C} archive folder [] past
    waiting_none past = record { each = tt; apart = λ have. tt }

    -- one more
    pub waiting_more : (path : Path) (day : Waiting C) (days : List (Waiting C)) (past : List Step) → IsDay path → folder_of path ≡ folder
        → WaitsAs archive path day.files past → (Named → AllByRecursion (λ other. IsOther other day.files) (files_waiting days)) → AreWaiting archive folder days past
        → AreWaiting archive folder (days ++ day ∷ []) past
    waiting_more path day days past is beside waits others wait =
        let same : days ++ [] ≡ days = append-nil days in
        record {
          each = all_with (λ files. IsWaiting archive folder files past) day days [] (subst (λ (l : List (Waiting C)). AllByRecursion (λ files. IsWaiting archive folder files past) (files_waiting l)) (sym same) wait.each)
              (record { path = path; day = is; beside = beside; waits = waits });
          apart = λ have. apart_with day days [] (subst (λ (l : List (Waiting C)). ShareNoNames (files_waiting l)) (sym same) (wait.apart have))
              (subst (λ (l : List (Waiting C)). AllByRecursion (λ other. IsOther other day.files) (files_waiting l)) (sym same) (others have));
        }

  -- of days of the archive
  pub of_days : (folder : Path) (list : List DayFiles) (past : List Step) → AllByRecursion (λ files. IsWaiting archive folder files past) list → AllByRecursion (AreOfDay archive) list
  of_days folder list past all = all_so _ _ list (λ files is. record { path = is.path; day = is.day; number = is.waits.number; are = is.waits.are }) all

  -- Whether a day waits.
  pub record Waits (folder path : Path) (list : List DayFiles) (past : List Step) : Type 0 where
    pub files : DayFiles
    pub one : IsOneOf files list
    pub beside : folder_of path ≡ folder
    pub waits : WaitsAs archive path files past

  others_at : (files found : DayFiles) (before after list : List DayFiles) → list ≡ before ++ found ∷ after → AreOthers files list → IsOther found files
  others_at files found before after list are others = at before (subst (λ (l : List DayFiles). AreOthers files l) are others)
    where
      at : (before : List DayFiles) → AreOthers files (before ++ found ∷ after) → IsOther found files
      at [] all = other_back files found all.0
      at (first ∷ before) all = at before all.1

  pub found_waiting : (apart : StandApart archive.folders) (have : Named) (folder path : Path) → IsDay path → (list : List DayFiles) (past : List Step)
      → AllByRecursion (λ files. IsWaiting archive folder files past) list → ShareNoNames list
      → Waits folder path list past ⊎ AllByRecursion (λ files. (number : ℕ) → IsOther (files_of (day_names_in archive path) number) files) list
  found_waiting apart have folder path day [] past all others = inr tt
  found_waiting apart have folder path day (files ∷ list) past all others = elim (cases_Bool (bytes_eq path all.0.path)) [
    | inl same ↦
        let is : all.0.path ≡ path = sym ((bytes_eq-Decides path all.0.path).0 same) in
        inl (record {
          files = files;
          one = record { before = []; after = list; are = refl; others_before = tt; others_after = others.0 };
          beside = subst (λ p. folder_of p ≡ folder) is all.0.beside;
          waits = subst (λ p. WaitsAs archive p files past) is all.0.waits;
        })
    | inr unlike ↦ ⊎_elim
        (λ found. inl (record {
          files = found.files;
          one = record {
            before = files ∷ found.one.before;
            after = found.one.after;
            are = ap (λ (l : List DayFiles). files ∷ l) found.one.are;
            others_before = (others_at files found.files found.one.before found.one.after list found.one.are others.0, found.one.others_before);
            others_after = found.one.others_after;
          };
          beside = found.beside;
          waits = found.waits;
        }))
        (λ none. inr (
          λ number. subst (λ (f : DayFiles). IsOther (files_of (day_names_in archive path) number) f) (sym all.0.waits.are)
              (other_day archive.folders apart have path all.0.path day all.0.day number all.0.waits.number (λ is. let yes = (bytes_eq-Decides path all.0.path).1 is in absurd cc)),
          none,
        ))
        (found_waiting apart have folder path day list past all.1 others.1)
  ]

  -- none of those that wait is this day, if each has other records
  pub none_waiting : {C : Type 0} (apart : StandApart archive.folders) (folder path : Path) → IsDay path → (days : List (Waiting C)) (past : List Step)
      → (Named → AllByRecursion (λ files. files.records.path ≢ (day_names_in archive path).records) (files_waiting days)) → AreWaiting archive folder days past → IsNoneWaiting archive path days
  none_waiting apart folder path day days past unlike wait = record { others = λ have number. each have number (files_waiting days) (unlike have) wait.each }
    where
      each : (have : Named) (number : ℕ) (list : List DayFiles) → AllByRecursion (λ files. files.records.path ≢ (day_names_in archive path).records) list
          → AllByRecursion (λ files. IsWaiting archive folder files past) list → AllByRecursion (λ files. IsOther files (files_of (day_names_in archive path) number)) list
      each have number [] not all = tt
      each have number (files ∷ list) not all = (
        subst (λ (f : DayFiles). IsOther f (files_of (day_names_in archive path) number)) (sym all.0.waits.are)
            (other_day archive.folders apart have all.0.path path all.0.day day all.0.waits.number number
            (λ is. not.0 (ap (λ (f : DayFiles). f.records.path) all.0.waits.are ∙ ap (λ p. (day_names_in archive p).records) is))),
        each have number list not.1 all.1,
      )
