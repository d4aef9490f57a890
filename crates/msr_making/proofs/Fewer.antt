-- Whether a day has fewer samples than an earlier walk left of it.
use Rattle.std.proofs.Common.{◌≡◌, ◌<◌, ◌≤◌, inl, inr, ℕ, ◌+◌, true, false, List, [], ◌∷◌, ◌++◌, refl, sym, ◌∙◌, ap, subst, Result, Ok, Err, Option, Some, None, IfSome, IsSome, IsSomeAnd, IsTrue, map, take, length, get_or, option_map, arith}
use Rattle.std.proofs.lemmas.List.{take_more}
use Rattle.std.proofs.lemmas.List.Sums.{sum_by-cons, sum_by_push}
use Rattle.std.specs.List.{sum_by}
use Rattle.std.specs.Option.{is_some}
use Rattle.msr_devices.specs.Device.{Device}
use Rattle.msr_folders.specs.Totals.{saturated}
use Rattle.msr_naming.specs.declared.files.DayFiles.{DayFiles}
use Rattle.msr_options.specs.declared.days.DayOptions.{DayOptions}
use Rattle.msr_options.specs.declared.hint.Side.TheVariants.{Report as OfReport}
use Rattle.msr_report.specs.declared.report.Report.{Report}
use Rattle.msr_report.specs.declared.report.SegmentLine.{SegmentLine}
use Rattle.msr_report_reader.specs.Content.{Content, ContentLine, content_line}
use Rattle.msr_report_reader.specs.Reading.{IsReadFrom}
use Rattle.msr_report_reader.proofs.OneContent.{one_report}
use Rattle.msr_tree.specs.Calls.{Goes}
use Rattle.msr_tree.specs.Folders.{ActsOnFiles}
use Rattle.msr_tree.specs.Steps.{File, Path, Step, now, seen}
use Rattle.msr_tree.specs.declared.facts.Facts.{Facts}
use Rattle.msr_tree.proofs.Acting.{giving, goes_as}
use Rattle.msr_tree.proofs.Filing.{changes_none}
use Rattle.msr_making.specs.Day.{samples_of_lines}
use Rattle.msr_making.specs.Looking.{IsDayLook, IsIrregular, IsRegular, IsSightAt}
use Rattle.msr_making.specs.Parts.{IsUnopened, called_told}
use Rattle.msr_making.specs.Places.{DayPaths, paths_of}
use Rattle.msr_making.specs.Shrinking.{AsksForLeft, HeldAgainst, HeldFor, HoldsAgainst, IsNoFewer, IsStopOfReading, IsToldLeft, IsSamplesUntold, ReadsSamples, TellsSamples, counts_repacked}
use Rattle.msr_making.specs.Told.{LeavesSamples}
use Rattle.msr_making.specs.Verifying.{OpensAt}
use Rattle.msr_making.specs.declared.answer.DayFault.TheVariants.{CannotOpen, Shrunk, Tool}
use Rattle.msr_making.specs.declared.answer.Repacked.{Repacked}
use Rattle.msr_making.specs.declared.answer.Stop.{Stop}
use Rattle.msr_making.specs.declared.answer.Stop.TheVariants.{Memory, Refused}
use Rattle.msr_making.specs.declared.looks.DayLook.{DayLook}
use Rattle.msr_making.specs.declared.looks.Sight.{Sight}
use Rattle.msr_making.specs.declared.looks.Sight.TheVariants.{Found, Nothing, Unknown}
use Rattle.msr_making.proofs.Lefts.{left_is}

abbrev samples_of : SegmentLine → ℕ
samples_of line = line.samples

-- the samples of the first lines and of the next
pub samples_next : (lines : List SegmentLine) (i : ℕ) (line : SegmentLine) → i < length lines
    → line ≡ get_or lines i line → samples_of_lines (take (i + 1) lines) ≡ samples_of_lines (take i lines) + line.samples
samples_next lines i line within item =
    ap samples_of_lines (take_more lines i line within ∙ ap (λ (x : SegmentLine). take i lines ++ x ∷ []) (sym item))
    ∙ sum_by_push samples_of (take i lines) line

-- a sum that stops at a bound can stop on its way
pub saturated_more : (n more : ℕ) → saturated (saturated n + more) ≡ saturated (n + more)
saturated_more n more = omega arith

-- a report's lines and its content have the same samples
sum_content : (lines : List SegmentLine) → sum_by (λ (line : ContentLine). line.samples) (map content_line lines) ≡ samples_of_lines lines
sum_content [] = refl
sum_content (line ∷ lines) =
    sum_by-cons (λ (c : ContentLine). c.samples) (content_line line) (map content_line lines)
    ∙ ap (λ n. line.samples + n) (sum_content lines) ∙ sym (sum_by-cons samples_of line lines)

-- a text tells one number of samples
one_number : (text : List ℕ) (report other : Report) → IsReadFrom report text → IsReadFrom other text
    → samples_of_lines other.segments.items ≡ samples_of_lines report.segments.items
one_number text report other reads read =
    sym (sum_content other.segments.items)
    ∙ ap (λ (c : Content). sum_by (λ (line : ContentLine). line.samples) c.segments) (one_report other report text read.is_content reads.is_content read.is_text reads.is_text)
    ∙ sum_content report.segments.items

pub one_left : (paths : DayPaths) (past : List Step) (was other : ℕ) → LeavesSamples paths was past → LeavesSamples paths other past → other ≡ was
one_left paths past was other left more =
    let same : more.text ≡ left.text = cc in
    more.are ∙ ap saturated (one_number left.text left.report more.report left.reads (subst (λ (t : List ℕ). IsReadFrom more.report t) same more.reads)) ∙ sym left.are

-- nothing is there that can be read
not_there : (path : Path) (past : List Step) (sight : Sight) → (sight ≡ Unknown → ⊥) → IsIrregular sight → IsSightAt path past sight → now past path ≡ None
not_there path past (Found facts) known other at = at.other (other facts refl)
not_there path past Nothing known other at = at
not_there path past Unknown known other at = absurd (known refl)

unseen_there : (path : Path) (past : List Step) (sight : Sight) → (sight ≡ Unknown → ⊥) → IsIrregular sight → IsSightAt path past sight → seen past path ≡ None
unseen_there path past sight known other at = ap (λ found. option_map (λ file. file.bytes) found) (not_there path past sight known other at)

-- or what is there can
some_seen : (found : Option File) (P : File → Type 0) → IsSomeAnd found P → IsSome (option_map (λ file. file.bytes) found)
some_seen (Some file) P is = refl
some_seen None P is = absurd is

pub is_there : (path : Path) (past : List Step) (sight : Sight) (facts : Facts) → IsRegular sight facts → IsSightAt path past sight → IsSome (seen past path)
is_there path past sight facts regular at =
    let here : IsSightAt path past (Found facts) = subst (λ (s : Sight). IsSightAt path past s) regular.found at in
    some_seen (now past path) _ (here.regular regular.regular)

-- what was found, or not
pub none_of : {A : Type 0} (found : Option A) → is_some found ≡ false → found ≡ None
none_of None is = refl
none_of (Some x) is = absurd cc

pub some_of : {A : Type 0} (found : Option A) → is_some found ≡ true → (x : A) × (found ≡ Some x)
some_of None is = absurd cc
some_of (Some x) is = (x, refl)

pub if_some : {A : Type 0} (P : A → Type 0) (found : Option A) (x : A) → found ≡ Some x → IfSome found P → P x
if_some P found x is so = subst (λ f. IfSome f P) is so

module _ (files : DayFiles) (look : DayLook) (asked : DayOptions) where
  -- what is not asked for
  pub left_unasked : (one : List Step → Type 0) → asked.keep_old ≡ false → Goes one one (AsksForLeft files look asked (Ok None))
  left_unasked one not = record {
    from = λ new went. (new, went, record { changes = changes_none [] new; said = λ input looked keep records report was left. cc });
  }

  -- or not there
  pub left_no_records : (one : List Step → Type 0) → IsIrregular look.records → Goes one one (AsksForLeft files look asked (Ok None))
  left_no_records one irregular = record {
    from = λ new went. (
      new,
      went,
      record {
        changes = changes_none [] new;
        said = λ input looked keep known_records known_report was left.
            let none = unseen_there files.records.path new look.records known_records irregular looked.records in
            let has = left.has_records in
            cc;
      },
    );
  }

  pub left_no_report : (one : List Step → Type 0) → IsIrregular look.report → Goes one one (AsksForLeft files look asked (Ok None))
  left_no_report one irregular = record {
    from = λ new went. (
      new,
      went,
      record {
        changes = changes_none [] new;
        said = λ input looked keep known_records known_report was left.
            let none = unseen_there files.report.path new look.report known_report irregular looked.report in
            let has = left.has_report in
            cc;
      },
    );
  }

  -- that could not be opened
  pub left_unopened : {R : Type 0} (device : R → Device) (stop : Stop) (one two : List Step → Type 0) → IsUnopened OfReport stop
      → Goes one two (ActsOnFiles [] (OpensAt files.report.path device) (called_told {T = R} (Err stop))) → Goes one two (AsksForLeft files look asked (Err stop))
  left_unopened {R = R} device stop one two is goes = goes_as _ _ one two (λ p q acts. by_stop stop is p q acts) goes
    where
      by_stop : (why : Stop) → IsUnopened OfReport why → (p q : List Step) → ActsOnFiles [] (OpensAt files.report.path device) (called_told {T = R} (Err why)) p q → AsksForLeft files look asked (Err why) p q
      by_stop (Refused (CannotOpen u)) ok p q acts = record { changes = acts.changes; said = λ input looked. (ok, acts.cause refl) }
      by_stop (Refused why) ok p q acts = absurd ok
      by_stop Memory ok p q acts = record { changes = acts.changes; said = λ input looked. tt }

  told_left : (input : Path) (facts : Facts) (text : List ℕ) (past new : List Step) (result : Result (Option ℕ) Stop) → IsRegular look.records facts → IsDayLook (paths_of input files) look past
      → seen past files.report.path ≡ Some text → TellsSamples text result → IsToldLeft (paths_of input files) look asked result past new
  told_left input facts text past new (Ok (Some was)) regular looked has tells = record {
    report = tells.0;
    text = text;
    reads = tells.1;
    has_report = has;
    has_records = is_there files.records.path past look.records facts regular looked.records;
    are = tells.2;
  }
  told_left input facts text past new (Ok None) regular looked has tells = λ keep known_records known_report was left.
      let same : left.text ≡ text = let here = left.has_report in cc in
      tells left.report (subst (λ (t : List ℕ). IsReadFrom left.report t) same left.reads)
  told_left input facts text past new (Err (Refused (CannotOpen u))) regular looked has tells = absurd tells
  told_left input facts text past new (Err (Refused why)) regular looked has tells = tt
  told_left input facts text past new (Err Memory) regular looked has tells = tt

  -- that was read
  pub left_told : {R : Type 0} (device : R → Device) (source : R) (facts : Facts) (result : Result (Option ℕ) Stop) (one two : List Step → Type 0) → IsRegular look.records facts → ReadsSamples (device source) result
      → Goes one two (ActsOnFiles [] (OpensAt files.report.path device) (giving source)) → Goes one two (AsksForLeft files look asked result)
  left_told device source facts result one two regular reads goes = goes_as _ _ one two
      (λ p q acts. record {
        changes = acts.changes;
        said = λ input looked. told_left input facts reads.text p q result regular looked (left_is files.report.path p (device source) reads.text acts.does reads.left) reads.tells;
      }) goes

-- what is held against that
module _ (files : DayFiles) (look : DayLook) (asked : DayOptions) where
  -- of what was not written nothing is asked
  pub held_unwritten : (written : Result Repacked Stop) (one : List Step → Type 0) → counts_repacked written ≡ None → Goes one one (HoldsAgainst files look asked written written)
  held_unwritten written one none = record {
    from = λ new went. (
      new,
      went,
      record {
        changes = changes_none [] new;
        said = λ input looked. subst (λ (c : Option Repacked). HeldAgainst (paths_of input files) look asked c written written new new) (sym none) refl;
      },
    );
  }

  held_as : (repacked : Repacked) (written result : Result Repacked Stop) (paths : DayPaths) (old new : List Step) → counts_repacked written ≡ Some repacked
      → HeldFor paths look asked repacked written result old new → HeldAgainst paths look asked (counts_repacked written) written result old new
  held_as repacked written result paths old new case held = subst (λ (c : Option Repacked). HeldAgainst paths look asked c written result old new) (sym case) held

  -- it could not be told what is left
  pub held_untold : (repacked : Repacked) (written : Result Repacked Stop) (stop : Stop) (one two : List Step → Type 0) → counts_repacked written ≡ Some repacked → IsStopOfReading stop
      → Goes one two (AsksForLeft files look asked (Err stop)) → Goes one two (HoldsAgainst files look asked written (Err stop))
  held_untold repacked written stop one two case is goes = goes_as _ _ one two
      (λ p q asks. record { changes = asks.changes; said = λ input looked. held_as repacked written (Err stop) (paths_of input files) p q case (inr (inr (why stop is (paths_of input files) p q (asks.said input looked)))) }) goes
    where
      why : (s : Stop) → IsStopOfReading s → (paths : DayPaths) (p q : List Step) → IsToldLeft paths look asked (Err s) p q → IsSamplesUntold (Err s) p q
      why (Refused (CannotOpen u)) ok paths p q failed = record { stop = Refused (CannotOpen u); told = refl; why = inr (inr (u, refl, failed.1)) }
      why (Refused (Tool fault)) ok paths p q failed = record { stop = Refused (Tool fault); told = refl; why = inr (inl (fault, refl, ok)) }
      why (Refused other) ok paths p q failed = absurd ok
      why Memory ok paths p q failed = record { stop = Memory; told = refl; why = inl refl }

  -- it has fewer samples
  pub held_fewer : (repacked : Repacked) (written : Result Repacked Stop) (left : Option ℕ) (was : ℕ) (one two : List Step → Type 0) → counts_repacked written ≡ Some repacked → IsTrue asked.keep_old → left ≡ Some was → repacked.samples < was
      → Goes one two (AsksForLeft files look asked (Ok left)) → Goes one two (HoldsAgainst files look asked written (Err (Refused (Shrunk (record { was = was; is = repacked.samples })))))
  held_fewer repacked written left was one two case keep is fewer goes = goes_as _ _ one two
      (λ p q asks. record {
        changes = asks.changes;
        said = λ input looked. held_as repacked written (Err (Refused (Shrunk (record { was = was; is = repacked.samples })))) (paths_of input files) p q case (inr (inl (record {
          was = was;
          keep_old = keep;
          left = subst (λ (l : Option ℕ). IsToldLeft (paths_of input files) look asked (Ok l) p q) is (asks.said input looked);
          fewer = fewer;
          told = refl;
        })));
      }) goes

  no_fewer_by : (repacked : Repacked) (paths : DayPaths) (left : Option ℕ) (p q : List Step) → ((was : ℕ) → left ≡ Some was → was ≤ repacked.samples) → IsToldLeft paths look asked (Ok left) p q → IsNoFewer paths look asked repacked p
  no_fewer_by repacked paths (Some here) p q least told = λ keep known_records known_report was left.
      subst (λ (n : ℕ). n ≤ repacked.samples) (sym (one_left paths p here was told left)) (least here refl)
  no_fewer_by repacked paths None p q least told = λ keep known_records known_report was left. absurd (told keep known_records known_report was left)

  -- it has not
  pub held_well : (repacked : Repacked) (written : Result Repacked Stop) (left : Option ℕ) (one two : List Step → Type 0) → counts_repacked written ≡ Some repacked → ((was : ℕ) → left ≡ Some was → was ≤ repacked.samples)
      → Goes one two (AsksForLeft files look asked (Ok left)) → Goes one two (HoldsAgainst files look asked written written)
  held_well repacked written left one two case least goes = goes_as _ _ one two
      (λ p q asks. record {
        changes = asks.changes;
        said = λ input looked. held_as repacked written written (paths_of input files) p q case (inl (refl, no_fewer_by repacked (paths_of input files) left p q least (asks.said input looked)));
      }) goes
