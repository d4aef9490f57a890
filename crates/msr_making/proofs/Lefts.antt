-- What an earlier walk left of a day.
use Rattle.std.proofs.Common.{◌≡◌, ◌⊎◌, ◌<◌, ◌||◌, inl, inr, ⊎_elim, ℕ, Bool, true, false, List, [], refl, sym, ◌∙◌, ap, subst, Result, Ok, Err, Option, Some, None, IfSome, IsSomeAnd, option_map, length, arith}
use Rattle.std.specs.declared.alloc.AllocError.{AllocError}
use Rattle.msr_devices.specs.Device.{Device, HasLeft, unused}
use Rattle.msr_options.specs.declared.days.DayOptions.{DayOptions}
use Rattle.msr_tree.specs.Calls.{AreOneFile, Goes, Looks, Opens, Tells}
use Rattle.msr_tree.specs.Folders.{ChangesFiles}
use Rattle.msr_tree.specs.Steps.{File, Path, Step, failures, now, seen}
use Rattle.msr_tree.specs.declared.facts.Facts.{Facts}
use Rattle.msr_tree.specs.declared.tree.TreeFault.{TreeFault}
use Rattle.msr_tree.proofs.Filing.{no_fewer, now_kept, seen_kept}
use Rattle.msr_naming.specs.Stamp.{stamp_of, stamp_text}
use Rattle.msr_naming.specs.declared.stamp.Stamp.{Stamp}
use Rattle.msr_making.specs.Day.{IsKeptEither, IsReportKept, IsReportLeft}
use Rattle.msr_making.specs.Keeping.{AsksForKept, AsksForReport, AsksForText, IsKeptBy, IsReportThere, stamped_by}
use Rattle.msr_making.specs.Looking.{Asks, AsksForOne, AsksForShared, IsRegular, IsSightAt}
use Rattle.msr_making.specs.Places.{DayPaths}
use Rattle.msr_making.specs.Told.{IsLeftEither}
use Rattle.msr_making.specs.declared.answer.Repacked.{Repacked}
use Rattle.msr_making.specs.declared.looks.DayLook.{DayLook}
use Rattle.msr_making.specs.declared.looks.Sight.{Sight}
use Rattle.msr_making.specs.declared.looks.Sight.TheVariants.{Found, Nothing, Unknown}
use Rattle.msr_making.proofs.Sights.{asks_as, asks_by, asks_then, no_memory}

abbrev answered : {A : Type 0} → A → Result A AllocError
answered a = Ok a

-- one file while nothing is changed
one_kept : (input path : Path) (old new : List Step) → ChangesFiles [] old new → AreOneFile input path new → AreOneFile input path old
one_kept input path old new changes is = (is.0, sym (now_kept [] input old new tt changes) ∙ is.1, sym (now_kept [] path old new tt changes) ∙ is.2)

either : (a b c : Bool) → (a || b) || c ≡ true → (a ≡ true) ⊎ ((b ≡ true) ⊎ (c ≡ true))
either true b c is = inl refl
either false true c is = inr (inl refl)
either false false c is = inr (inr is)

-- the three questions
module _ (paths : DayPaths) where
  abbrev Two : (a b : Bool) → (old new : List Step) → Unit {0} → Type 0
  Two a b old new x = ((a ≡ true) → AreOneFile paths.input paths.report old ⊎ (failures old < failures new)) × ((b ≡ true) → AreOneFile paths.input paths.stamp old ⊎ (failures old < failures new))

  pub shared_three : (a b c : Bool) (one two three four : List Step → Type 0)
      → Goes one two (AsksForOne paths.input paths.records (Ok a)) → Goes two three (AsksForOne paths.input paths.report (Ok b)) → Goes three four (AsksForOne paths.input paths.stamp (Ok c))
      → Goes one four (AsksForShared paths (Ok ((a || b) || c)))
  shared_three a b c one two three four first second third =
      asks_then _ (Two b c) _ (answered a) (answered tt) (answered ((a || b) || c)) one two four
      (λ p q r x y is both.
      let few = no_fewer [] p q x in
      let more = no_fewer [] q r y in
      λ so. ⊎_elim
      (λ t. ⊎_elim (λ same. inl (inl same)) (λ f. inr (omega arith)) (is t))
      (λ rest. ⊎_elim
      (λ t. ⊎_elim (λ same. inl (inr (inl (one_kept paths.input paths.report p q x same)))) (λ f. inr (omega arith)) (both.0 t))
      (λ t. ⊎_elim (λ same. inl (inr (inr (one_kept paths.input paths.stamp p q x same)))) (λ f. inr (omega arith)) (both.1 t))
      rest)
      (either a b c so)) first
      (asks_then _ _ (Two b c) (answered b) (answered c) (answered tt) two three four
      (λ p q r x y is last.
      let few = no_fewer [] p q x in
      let more = no_fewer [] q r y in
      (λ t. ⊎_elim (λ same. inl same) (λ f. inr (omega arith)) (is t), λ t. ⊎_elim (λ same. inl (one_kept paths.input paths.stamp p q x same)) (λ f. inr (omega arith)) (last t))) second third)

-- a source that was opened has what the name has
pub left_is : (path : Path) (past : List Step) (source : Device) (text : List ℕ) → Opens path past source → HasLeft source text → seen past path ≡ Some text
left_is path past source text opens left =
    let here : HasLeft (unused (Some opens.0)) text = subst (λ (d : Device). HasLeft d text) opens.2 left in
    opens.1 ∙ ap (λ b. Some b) here

module _ {R : Type 0} (path : Path) (device : R → Device) where
  abbrev Says : List Step → R → Type 0
  Says past reader = Opens path past (device reader)

  pub text_there : (text : List ℕ) (reader : R) (answer : Bool) (one two : List Step → Type 0) → (answer ≡ true → HasLeft (device reader) text)
      → Goes one two (Tells Says (Ok reader)) → Goes one two (AsksForText path text (Ok answer))
  text_there text reader answer one two has goes = asks_by Says (Ok reader) _ (answered answer) one two (λ p q tells. λ is. left_is path p (device reader) text tells.1 (has is)) goes

  pub text_none : (text : List ℕ) (why : TreeFault) (one two : List Step → Type 0) → Goes one two (Tells Says (Err why)) → Goes one two (AsksForText path text (Ok false))
  text_none text why one two goes = asks_by Says (Err why) _ (answered false) one two (λ p q tells. λ is. absurd cc) goes

  pub text_memory : (text : List ℕ) (why : TreeFault) (e : AllocError) (one two : List Step → Type 0) → Goes one two (Tells Says (Err why)) → Goes one two (AsksForText path text (Err e))
  text_memory text why e one two goes = asks_by Says (Err why) _ (no_memory Bool e) one two (λ p q tells. tt) goes

  report_of : (asked : DayOptions) (bytes_read : ℕ) (reader : R) (found : Option Repacked) (past : List Step) → IfSome found (λ repacked. IsReportLeft asked (device reader) repacked)
      → IfSome found (λ repacked. repacked.bytes_read ≡ bytes_read) → Says past reader → IfSome found (IsReportThere path asked bytes_read past)
  report_of asked bytes_read reader None past is read opens = tt
  report_of asked bytes_read reader (Some repacked) past is read opens = record { is = is.is; has = left_is path past (device reader) is.is.text opens is.left; read = read }

  pub report_there : (asked : DayOptions) (bytes_read : ℕ) (reader : R) (found : Option Repacked) (one two : List Step → Type 0) → IfSome found (λ repacked. IsReportLeft asked (device reader) repacked)
      → IfSome found (λ repacked. repacked.bytes_read ≡ bytes_read) → Goes one two (Tells Says (Ok reader)) → Goes one two (AsksForReport path asked bytes_read (Ok found))
  report_there asked bytes_read reader found one two is read goes = asks_by Says (Ok reader) _ (answered found) one two (λ p q tells. report_of asked bytes_read reader found p is read tells.1) goes

  pub report_none : (asked : DayOptions) (bytes_read : ℕ) (why : TreeFault) (one two : List Step → Type 0) → Goes one two (Tells Says (Err why)) → Goes one two (AsksForReport path asked bytes_read (Ok None))
  report_none asked bytes_read why one two goes = asks_by Says (Err why) _ (answered None) one two (λ p q tells. tt) goes

  pub report_memory : (asked : DayOptions) (bytes_read : ℕ) (why : TreeFault) (e : AllocError) (one two : List Step → Type 0) → Goes one two (Tells Says (Err why)) → Goes one two (AsksForReport path asked bytes_read (Err e))
  report_memory asked bytes_read why e one two goes = asks_by Says (Err why) _ (no_memory (Option Repacked) e) one two (λ p q tells. tt) goes

pub kept_of_left : (asked : DayOptions) (source : Device) (found : Option Repacked) → IfSome found (IsReportLeft asked source) → IfSome found (IsReportKept asked)
kept_of_left asked source None is = tt
kept_of_left asked source (Some repacked) is = is.is

-- a regular file that was found has bytes
pub has_bytes : (path : Path) (past : List Step) (sight : Sight) (facts : Facts) → IsRegular sight facts → IsSightAt path past sight → IsSomeAnd (seen past path) (λ bytes. facts.bytes ≡ length bytes)
has_bytes path past sight facts regular is =
    let looks : Looks path past (Some facts) = subst (λ (s : Sight). IsSightAt path past s) regular.found is in
    of (now past path) (looks.regular regular.regular)
  where
    of : (found : Option File) → IsSomeAnd found (λ file. facts.bytes ≡ length file.bytes) → IsSomeAnd (option_map (λ file. file.bytes) found) (λ bytes. facts.bytes ≡ length bytes)
    of None so = so
    of (Some file) so = so

same_bytes : (one other : ℕ) (found : Option (List ℕ)) → one ≡ other → IsSomeAnd found (λ bytes. one ≡ length bytes) → IsSomeAnd found (λ bytes. length bytes ≡ other)
same_bytes one other None is so = so
same_bytes one other (Some bytes) is so = sym so ∙ is

-- it is kept, by what was found of its records
pub kept_either : (asked : DayOptions) (repacked : Repacked) (records : Sight) → IsReportKept asked repacked → IsKeptBy asked repacked records → IsKeptEither asked repacked
kept_either asked repacked (Found facts) report by = inl (record { report = report; smaller = by.2 })
kept_either asked repacked Nothing report by = inr (record { report = report; as_long = by })
kept_either asked repacked Unknown report by = absurd by

pub found_either : (asked : DayOptions) (repacked : Repacked) (records : Sight) (found : Option Repacked) → found ≡ Some repacked → IfSome found (IsReportKept asked) → IsKeptBy asked repacked records
    → IsKeptEither asked repacked
found_either asked repacked records found is kept by = kept_either asked repacked records (subst (λ (f : Option Repacked). IfSome f (IsReportKept asked)) is kept) by

-- what is left of a day
module _ (paths : DayPaths) (asked : DayOptions) where
  there_by : (repacked : Repacked) (stamp : Stamp) (past : List Step) (records : Sight) → IsKeptBy asked repacked records → IsSightAt paths.records past records
      → seen past paths.stamp ≡ Some (stamp_text (stamped_by records) stamp) → IsSomeAnd (seen past paths.input) (λ input. length input ≡ stamp.bytes) → repacked.bytes_read ≡ stamp.bytes
      → (is : IsReportKept asked repacked) → seen past paths.report ≡ Some is.text → IsLeftEither asked paths repacked past
  there_by repacked stamp past (Found facts) by sight text own read is has = inl (record {
    stamp = stamp;
    has_stamp = text;
    has_input = own;
    read = read;
    kept = record { report = is; smaller = by.2 };
    has_report = has;
    has_records = same_bytes facts.bytes repacked.bytes_written (seen past paths.records) by.1 (has_bytes paths.records past (Found facts) facts (record { found = refl; regular = by.0 }) sight);
  })
  there_by repacked stamp past Nothing by sight text own read is has = inr (record {
    stamp = stamp;
    has_stamp = text;
    has_input = own;
    read = read;
    kept = record { report = is; as_long = by };
    has_report = has;
    none = sight;
  })
  there_by repacked stamp past Unknown by sight text own read is has = absurd by

  pub left_there : (look : DayLook) (input : Facts) (stamp : Stamp) (answer : Bool) (found : Option Repacked) (repacked : Repacked)
      → stamp ≡ stamp_of input → answer ≡ true → found ≡ Some repacked → IsRegular look.input input → IsKeptBy asked repacked look.records
      → (one two three : List Step → Type 0)
      → Goes one two (AsksForText paths.stamp (stamp_text (stamped_by look.records) stamp) (Ok answer)) → Goes two three (AsksForReport paths.report asked input.bytes (Ok found))
      → Goes one three (AsksForKept paths look asked (Ok (Some repacked)))
  left_there look input stamp answer found repacked is_stamp so is_found own_regular by one two three a b =
      asks_then _ _ _ (answered answer) (answered found) (answered (Some repacked)) one two three
      (λ p q r x y text said. λ looked.
      let there : IsReportThere paths.report asked input.bytes q repacked = subst (λ (f : Option Repacked). IfSome f (IsReportThere paths.report asked input.bytes q)) is_found said in
      let bytes : stamp.bytes ≡ input.bytes = ap (λ (s : Stamp). s.bytes) is_stamp in
      there_by repacked stamp p look.records by looked.records (text so)
      (same_bytes input.bytes stamp.bytes (seen p paths.input) (sym bytes) (has_bytes paths.input p look.input input own_regular looked.input))
      (there.read ∙ sym bytes) there.is (sym (seen_kept [] paths.report p q tt x) ∙ there.has)) a b

  -- it was so before, while nothing is changed
  pub either_before : (repacked : Repacked) (old mid : List Step) → ChangesFiles [] old mid → IsLeftEither asked paths repacked mid → IsLeftEither asked paths repacked old
  either_before repacked old mid changes = ⊎_elim
      (λ is. inl (record {
        stamp = is.stamp;
        has_stamp = sym (seen_kept [] paths.stamp old mid tt changes) ∙ is.has_stamp;
        has_input = subst (λ (x : Option (List ℕ)). IsSomeAnd x (λ input. length input ≡ is.stamp.bytes)) (seen_kept [] paths.input old mid tt changes) is.has_input;
        read = is.read;
        kept = is.kept;
        has_report = sym (seen_kept [] paths.report old mid tt changes) ∙ is.has_report;
        has_records = subst (λ (x : Option (List ℕ)). IsSomeAnd x (λ records. length records ≡ repacked.bytes_written)) (seen_kept [] paths.records old mid tt changes) is.has_records;
      }))
      (λ is. inr (record {
        stamp = is.stamp;
        has_stamp = sym (seen_kept [] paths.stamp old mid tt changes) ∙ is.has_stamp;
        has_input = subst (λ (x : Option (List ℕ)). IsSomeAnd x (λ input. length input ≡ is.stamp.bytes)) (seen_kept [] paths.input old mid tt changes) is.has_input;
        read = is.read;
        kept = is.kept;
        has_report = sym (seen_kept [] paths.report old mid tt changes) ∙ is.has_report;
        none = sym (now_kept [] paths.records old mid tt changes) ∙ is.none;
      }))

pub left_none : {A : Type 0} (First : (old new : List Step) → A → Type 0) (paths : DayPaths) (look : DayLook) (asked : DayOptions) (first : Result A AllocError) (one two : List Step → Type 0)
    → Goes one two (Asks First first) → Goes one two (AsksForKept paths look asked (Ok None))
left_none First paths look asked first one two a = asks_as First _ first (answered None) one two (λ p q x said. λ looked. tt) a

pub left_none_then : {A B : Type 0} (First : (old new : List Step) → A → Type 0) (Second : (old new : List Step) → B → Type 0) (paths : DayPaths) (look : DayLook) (asked : DayOptions) (first : Result A AllocError) (second : Result B AllocError) (one mid two : List Step → Type 0)
    → Goes one mid (Asks First first) → Goes mid two (Asks Second second) → Goes one two (AsksForKept paths look asked (Ok None))
left_none_then First Second paths look asked first second one mid two a b = asks_then First Second _ first second (answered None) one mid two (λ p q r x y said more. λ looked. tt) a b
