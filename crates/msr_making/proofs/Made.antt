-- A day is prepared, and made.
use Rattle.std.proofs.Common.{◌≡◌, ◌<◌, ◌≤◌, inl, inr, ℕ, Bool, true, false, List, [], refl, sym, ◌∙◌, ap, subst, Result, Ok, Err, Some, OnOk, IsErrOf, IsTrue, length, arith}
use Rattle.msr_options.specs.declared.days.DayOptions.{DayOptions}
use Rattle.msr_options.specs.declared.hint.Unopened.{Unopened}
use Rattle.msr_tree.specs.Calls.{Goes}
use Rattle.msr_tree.specs.Folders.{ChangesFiles}
use Rattle.msr_tree.specs.Steps.{IsNoneOf, Path, Step, failures, seen}
use Rattle.msr_tree.specs.declared.tree.TreeFault.{TreeFault}
use Rattle.msr_tree.specs.declared.tree.TreeFault.TheVariants as fault
use Rattle.msr_tree.proofs.Acting.{goes_as}
use Rattle.msr_tree.proofs.Moments.{joined}
use Rattle.msr_tree.proofs.Filing.{changes_more, changes_then, no_fewer, ready_kept, seen_kept}
use Rattle.msr_naming.proofs.FallingBack.{goes_both}
use Rattle.msr_naming.proofs.Names.{seen_ready}
use Rattle.msr_naming.specs.Naming.{AreDayNames, day_paths, told}
use Rattle.msr_naming.specs.Promise.{AreReady, GivesNames, HasOwn, HasReport, HaveOwnParts, IsFreeIf, IsUnseenIf, KeepsShown, NamesDay, SeesNames, ShowsDay, StoresNames}
use Rattle.msr_naming.specs.declared.fallback.Naming.{Naming}
use Rattle.msr_naming.specs.declared.files.DayFiles.{DayFiles}
use Rattle.msr_naming.specs.declared.naming.Stopped.{Stopped}
use Rattle.msr_naming.specs.declared.files.Name.TheVariants.{RecordsPart, ReportPart}
use Rattle.msr_making.specs.Ending.{IsNamedAs, MadeAs, MakesDay, NamedAs, PreparedAs, PreparesDay, WritesHeld}
use Rattle.msr_making.specs.Looking.{IsLookedAt}
use Rattle.msr_making.specs.Making.{IsOwnOfFile}
use Rattle.msr_making.specs.Parts.{IsMadeSide, part_paths}
use Rattle.msr_making.specs.Places.{AreFileNames, paths_of}
use Rattle.msr_making.specs.Verifying.{FailsIfUnopened, VerifiedOf, VerifiesAsked}
use Rattle.msr_making.specs.Writing.{IfSeen, IsFitOf, IsWrittenTo}
use Rattle.msr_making.specs.declared.answer.DayFault.TheVariants.{CannotOpen, Changed, ClaimedByAnother, Differs, NotShown, Tool}
use Rattle.msr_making.specs.declared.answer.Repacked.{Repacked}
use Rattle.msr_making.specs.declared.answer.Stop.{Stop}
use Rattle.msr_making.specs.declared.answer.Stop.TheVariants.{Memory, Refused}
use Rattle.msr_making.specs.declared.looks.DayLook.{DayLook}
use Rattle.msr_making.proofs.Days.{unread_of}
use Rattle.msr_making.proofs.Owns.{free_kept, more_parts, none_parts, own_each, own_kept, report_each, report_kept, shows_kept}
use Rattle.msr_making.proofs.Untouched.{kept_for, spared_made, untouched_by}

-- what is not false
pub is_so : (b : Bool) → (b ≡ false → ⊥) → b ≡ true
is_so true not = refl
is_so false not = absurd (not refl)

module _ (input : Path) (look : DayLook) (files : DayFiles) (asked : DayOptions) where
  abbrev l : List Path
  l = part_paths files

  -- the day's own file is none of what stands beside
  own_none : AreFileNames input files → IsNoneOf input l
  own_none names = more_parts files input names.own

  -- what was not written, or has fewer samples
  pub not_written : (stop : Stop) (one two : List Step → Type 0) → Goes one two (WritesHeld input look files asked (Err stop)) → Goes one two (PreparesDay input look files asked (Err stop))
  not_written stop one two goes = goes_as _ _ one two (λ p q w. record { changes = w.changes; said = w.said }) goes

  -- what was not verified
  unverified_as : (repacked : Repacked) (stop : Stop) (bytes records text : List ℕ) (old mid new : List Step) → failures old ≤ failures mid → seen old input ≡ Some bytes
      → IsFitOf asked (length bytes) bytes records text repacked → IsTrue asked.check → FailsIfUnopened (Err stop) mid new → VerifiedOf asked.options bytes records text (Err stop)
      → PreparedAs input files asked (Err stop) old new
  unverified_as repacked (Refused (CannotOpen why)) bytes records text old mid new few has fit check failed is = omega arith
  unverified_as repacked (Refused NotShown) bytes records text old mid new few has fit check failed is = record {
    repacked = repacked;
    records = records;
    text = text;
    repack = record { input = bytes; has_input = has; answers = fit.counted; belong = fit.belong; bytes_read = fit.read };
    check = check;
    unshown = is;
  }
  unverified_as repacked (Refused Differs) bytes records text old mid new few has fit check failed is = record {
    repacked = repacked;
    records = records;
    text = text;
    repack = record { input = bytes; has_input = has; answers = fit.counted; belong = fit.belong; bytes_read = fit.read };
    check = check;
    other = is;
  }
  unverified_as repacked (Refused Changed) bytes records text old mid new few has fit check failed is = record {
    repacked = repacked;
    records = records;
    text = text;
    repack = record { input = bytes; has_input = has; answers = fit.counted; belong = fit.belong; bytes_read = fit.read };
    check = check;
    other = is;
  }
  unverified_as repacked (Refused (Tool why)) bytes records text old mid new few has fit check failed is =
      let rest = unread_of asked.options bytes records text repacked why fit.counted is in
      record { input = bytes; written = records; told = rest.0; has_input = has; answers = rest.1 }
  unverified_as repacked (Refused why) bytes records text old mid new few has fit check failed is = absurd is
  unverified_as repacked Memory bytes records text old mid new few has fit check failed is = tt

  -- what is seen of what was written
  module _ (names : AreFileNames input files) (old mid : List Step) (repacked : Repacked) (writes : WritesHeld input look files asked (Ok repacked) old mid) (at : IsLookedAt (paths_of input files) look old) where
    abbrev wrote : IfSeen input old (λ bytes. IsWrittenTo files asked (length bytes) bytes mid repacked)
    wrote = (writes.said names at).wrote

    ready_at : AreReady files wrote.2.records wrote.2.text mid
    ready_at = wrote.2.ready (names.names.apart RecordsPart ReportPart refl)

    input_at : seen mid input ≡ Some wrote.0
    input_at = seen_kept l input old mid (own_none names) writes.changes ∙ wrote.1

    records_at : seen mid files.records.part ≡ Some wrote.2.records
    records_at = seen_ready mid files.records.part wrote.2.records ready_at.records_are

    text_at : seen mid files.report.part ≡ Some wrote.2.text
    text_at = seen_ready mid files.report.part wrote.2.text ready_at.report_is

  parts_changes : {A : Result (Unit {0}) Stop} (repacked : Repacked) (old mid new : List Step) → WritesHeld input look files asked (Ok repacked) old mid → VerifiesAsked input files asked A mid new → ChangesFiles l old new
  parts_changes repacked old mid new writes verifies = changes_then l old mid new writes.changes (changes_more [] l mid new (λ n none. tt) verifies.changes)

  pub not_verified : (repacked : Repacked) (stop : Stop) (one mid two : List Step → Type 0) → IsTrue asked.check → Goes one mid (WritesHeld input look files asked (Ok repacked))
      → Goes mid two (VerifiesAsked input files asked (Err stop)) → Goes one two (PreparesDay input look files asked (Err stop))
  not_verified repacked stop one mid two check first second = goes_both _ _ _ one mid two
      (λ p q r w v. record {
        changes = parts_changes {A = Err stop} repacked p q r w v;
        said = λ names at.
            let wrote_it = (w.said names at).wrote in
            unverified_as repacked stop wrote_it.0 wrote_it.2.records wrote_it.2.text p q r (no_fewer l p q w.changes) wrote_it.1 wrote_it.2.fit check v.failed
            (v.said wrote_it.0 wrote_it.2.records wrote_it.2.text (input_at names p q repacked w at) (records_at names p q repacked w at) (text_at names p q repacked w at) check);
      }) first second

  -- another walk has it
  pub not_held : (repacked : Repacked) (one mid two : List Step → Type 0) → Goes one mid (WritesHeld input look files asked (Ok repacked))
      → Goes mid two (VerifiesAsked input files asked (Ok tt)) → Goes one two (PreparesDay input look files asked (Err (Refused ClaimedByAnother)))
  not_held repacked one mid two first second = goes_both _ _ _ one mid two
      (λ p q r w v. record { changes = parts_changes {A = Ok tt} repacked p q r w v; said = λ names at. tt }) first second

  pub prepared : (repacked : Repacked) (one mid two : List Step → Type 0) → Goes one mid (WritesHeld input look files asked (Ok repacked))
      → Goes mid two (VerifiesAsked input files asked (Ok tt)) → Goes one two (PreparesDay input look files asked (Ok repacked))
  prepared repacked one mid two first second = goes_both _ _ _ one mid two
      (λ p q r w v. record {
        changes = parts_changes {A = Ok tt} repacked p q r w v;
        said = λ names at.
            let wrote_it = (w.said names at).wrote in
            let ready = ready_at names p q repacked w at in
            record {
              bytes = wrote_it.0;
              records = wrote_it.2.records;
              text = wrote_it.2.text;
              has_input = wrote_it.1;
              fit = wrote_it.2.fit;
              verified = λ check. v.said wrote_it.0 wrote_it.2.records wrote_it.2.text (input_at names p q repacked w at) (records_at names p q repacked w at) (text_at names p q repacked w at) check;
              unshrunk = (w.said names at).unshrunk;
              ready = record {
                records_are = ready_kept [] files.records.part wrote_it.2.records q r tt v.changes ready.records_are;
                report_is = ready_kept [] files.report.part wrote_it.2.text q r tt v.changes ready.report_is;
              };
            };
      }) first second

  -- what was prepared gets its names
  module _ (is_free : Bool) where
    pub not_made : (stop : Stop) (one two : List Step → Type 0) → Goes one two (PreparesDay input look files asked (Err stop))
        → Goes one two (MakesDay input look files is_free asked (record { result = Err stop; is_stored = true }))
    not_made stop one two goes = goes_as _ _ one two (λ p q prepares. record {
      safe = λ is is_own is_of names at free own has. own_each files l (none_parts files names.names) p q prepares.changes is_own is_of has;
      killed = λ is_own names at unseen own has. report_each files l (none_parts files names.names) p is_own has q prepares.changes;
      said = λ names at. by_stop stop p q names prepares.changes (prepares.said names at);
      leaves = λ stops same names at unseen shows. shows_kept files l (none_parts files names.names) p q prepares.changes shows;
      unstored = λ not. absurd cc;
      changes = changes_more l (day_paths files) p q (λ n none. more_parts files n none) prepares.changes;
    }) goes
      where
        by_stop : (why : Stop) (p q : List Step) → AreFileNames input files → ChangesFiles l p q → PreparedAs input files asked (Err why) p q → MadeAs input files asked is_free true (Err why) p q
        by_stop (Refused (CannotOpen u)) p q names changes is =
            let still = untouched_by input files l (none_parts files names.names) p q changes in
            (inr is, is, kept_for (paths_of input files) p q (CannotOpen u) still, inl still)
        by_stop (Refused why) p q names changes is =
            let still = untouched_by input files l (none_parts files names.names) p q changes in
            (is, tt, kept_for (paths_of input files) p q why still, inl still)
        by_stop Memory p q names changes is = tt

    module _ (repacked : Repacked) (naming : Naming) (old mid new : List Step) (prepares : PreparesDay input look files asked (Ok repacked) old mid) (names_it : NamesDay files is_free naming mid new) where
      own_parts : (is_own : (records report : List ℕ) → Bool) → AreFileNames input files → IsLookedAt (paths_of input files) look old → IsOwnOfFile input asked.options is_own old → HaveOwnParts files is_own mid
      own_parts is_own names at own =
          let it = prepares.said names at in
          record { records = it.records; report = it.text; ready = it.ready; own = own it.bytes it.records it.text it.fit.counted.report it.has_input it.fit.counted.reported }

      free_mid : AreDayNames files → IsFreeIf is_free files old → IsFreeIf is_free files mid
      free_mid names free is = free_kept files l (none_parts files names) old mid prepares.changes (free is)

      unseen_mid : AreDayNames files → IsUnseenIf is_free files old → IsUnseenIf is_free files mid
      unseen_mid names unseen is =
          let none = none_parts files names in (
            seen_kept l files.records.path old mid none.records prepares.changes ∙ (unseen is).0,
            seen_kept l files.report.path old mid none.report prepares.changes ∙ (unseen is).1,
            seen_kept l files.stamp.path old mid none.stamp prepares.changes ∙ (unseen is).2,
          )

      made_as : (answer : Result (Unit {0}) TreeFault) (result : Result Repacked Stop) → NamedAs repacked answer result → OnOk answer (AreDayNames files → SeesNames files mid new)
          → OnOk answer (AreDayNames files → IsUnseenIf is_free files mid → StoresNames files mid new)
          → OnOk answer (naming.is_stored ≡ true → AreDayNames files → IsFreeIf is_free files mid → GivesNames files mid new) → (IsErrOf answer fault.Failed → failures mid < failures new)
          → AreFileNames input files → IsLookedAt (paths_of input files) look old → MadeAs input files asked is_free naming.is_stored result old new
      made_as (Ok x) result is sees stores gives cause names at =
          let it = prepares.said names at in
          let both = sees names.names it.records it.text it.ready in
          subst (λ (r : Result Repacked Stop). MadeAs input files asked is_free naming.is_stored r old new) (sym is) (record {
            bytes = it.bytes;
            records = it.records;
            text = it.text;
            has_input = it.has_input;
            fit = it.fit;
            verified = it.verified;
            unshrunk = it.unshrunk;
            has_records = both.0;
            has_report = both.1;
            stands = λ unseen. stores names.names (unseen_mid names.names unseen) it.records it.text it.ready;
            named = λ stored free. (gives stored names.names (free_mid names.names free)).named it.records it.text it.ready;
          })
      made_as (Err fault.Failed) result is sees stores gives cause names at =
          let few = no_fewer l old mid prepares.changes in
          let more = cause refl in
          subst (λ (r : Result Repacked Stop). MadeAs input files asked is_free naming.is_stored r old new) (sym is.2)
          (inr (omega arith), omega arith, spared_made (paths_of input files) is.0.side old new is.1 (inr (omega arith)), inr (omega arith))
      made_as (Err fault.Memory) result is sees stores gives cause names at =
          subst (λ (r : Result Repacked Stop). MadeAs input files asked is_free naming.is_stored r old new) (sym is) tt

      leaves_as : (answer : Result (Unit {0}) TreeFault) (result : Result Repacked Stop) → NamedAs repacked answer result
          → OnOk answer (naming.is_stored ≡ true → AreDayNames files → IsUnseenIf is_free files mid → KeepsShown files mid new) → (IsErrOf answer fault.Failed → failures mid < failures new)
          → (result ≡ Err Memory → ⊥) → failures new ≡ failures old → AreFileNames input files → IsLookedAt (paths_of input files) look old → IsUnseenIf is_free files old
          → ShowsDay files old → ShowsDay files new
      leaves_as (Ok x) result is leaves cause stops same names at unseen shows =
          let it = prepares.said names at in
          let few = no_fewer l old mid prepares.changes in
          let stored = is_so naming.is_stored (λ not. let more = names_it.unstored not in omega arith) in
          leaves stored names.names (unseen_mid names.names unseen) it.records it.text it.ready (shows_kept files l (none_parts files names.names) old mid prepares.changes shows)
      leaves_as (Err fault.Failed) result is leaves cause stops same names at unseen shows =
          let few = no_fewer l old mid prepares.changes in
          let more = cause refl in
          absurd (omega arith)
      leaves_as (Err fault.Memory) result is leaves cause stops same names at unseen shows = absurd (stops is)

      pub made_named : (result : Result Repacked Stop) → IsNamedAs naming repacked result → MakesDay input look files is_free asked (record { result = result; is_stored = naming.is_stored }) old new
      made_named result is = record {
        safe = λ stored is_own is_of names at free own has.
            joined (HasOwn is_own is_of files) old mid new
            (own_each files l (none_parts files names.names) old mid prepares.changes is_own is_of has)
            (names_it.safe stored is_own is_of names.names (own_parts is_own names at own) (free_mid names.names free) (own_kept files l (none_parts files names.names) old mid prepares.changes is_own is_of has));
        killed = λ is_own names at unseen own has.
            joined (HasReport is_own files) old mid new
            (report_each files l (none_parts files names.names) old is_own has mid prepares.changes)
            (names_it.killed is_own names.names (own_parts is_own names at own) (unseen_mid names.names unseen) (report_kept files l (none_parts files names.names) old is_own has mid prepares.changes));
        said = made_as (told naming.answer) result is names_it.sees names_it.ready names_it.gives names_it.cause;
        leaves = leaves_as (told naming.answer) result is names_it.leaves names_it.cause;
        unstored = λ not. let few = no_fewer l old mid prepares.changes in let more = names_it.unstored not in omega arith;
        changes = changes_then (day_paths files) old mid new (changes_more l (day_paths files) old mid (λ n none. more_parts files n none) prepares.changes) names_it.changes;
      }

    pub made : (repacked : Repacked) (naming : Naming) (result : Result Repacked Stop) (one mid two : List Step → Type 0) → IsNamedAs naming repacked result
        → Goes one mid (PreparesDay input look files asked (Ok repacked)) → Goes mid two (NamesDay files is_free naming)
        → Goes one two (MakesDay input look files is_free asked (record { result = result; is_stored = naming.is_stored }))
    made repacked naming result one mid two is first second = goes_both _ _ _ one mid two (λ p q r x y. made_named repacked naming p q r x y result is) first second

-- names were given, or not
pub named_well : (naming : Naming) (repacked : Repacked) (x : Unit {0}) → naming.answer ≡ Ok x → IsNamedAs naming repacked (Ok repacked)
named_well naming repacked x is = subst (λ (a : Result (Unit {0}) Stopped). NamedAs repacked (told a) (Ok repacked)) (sym is) refl

pub named_failed : (naming : Naming) (repacked : Repacked) (stopped : Stopped) (u : Unopened) → IsMadeSide u.side → naming.answer ≡ Err stopped → stopped.fault ≡ fault.Failed → IsNamedAs naming repacked (Err (Refused (CannotOpen u)))
named_failed naming repacked stopped u side is why =
    let e : told naming.answer ≡ Err fault.Failed = ap told is ∙ ap (λ f. Err f) why in
    subst (λ (a : Result (Unit {0}) TreeFault). NamedAs repacked a (Err (Refused (CannotOpen u)))) (sym e) (u, side, refl)

pub named_memory : (naming : Naming) (repacked : Repacked) (stopped : Stopped) → naming.answer ≡ Err stopped → stopped.fault ≡ fault.Memory → IsNamedAs naming repacked (Err Memory)
named_memory naming repacked stopped is why =
    let e : told naming.answer ≡ Err fault.Memory = ap told is ∙ ap (λ f. Err f) why in
    subst (λ (a : Result (Unit {0}) TreeFault). NamedAs repacked a (Err Memory)) (sym e) refl
