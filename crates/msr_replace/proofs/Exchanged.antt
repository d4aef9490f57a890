-- A day whose files have changed places is stamped.
use Rattle.std.proofs.Common.{◌≡◌, inl, inr, ⊎_elim, ℕ, false, List, [], Some, refl, sym, ◌∙◌, subst, arith}
use Rattle.std.specs.Str.{bytes_eq}
use Rattle.msr_tree.specs.Calls.{Goes}
use Rattle.msr_tree.specs.Steps.{AtEachMoment, ChangesOnly, IsNoneOf, Leaves, Path, Step, seen}
use Rattle.msr_tree.specs.declared.tree.TreeFault.{TreeFault}
use Rattle.msr_tree.specs.declared.tree.TreeFault.TheVariants as fault
use Rattle.msr_tree.proofs.Acting.{giving, goes_as, no_fewer, stopping}
use Rattle.msr_tree.proofs.Changes.{changes_more, changes_none, changes_then, each_by_changes, leaves_kept, may_kept, seen_kept}
use Rattle.msr_tree.proofs.Moments.{at_end, joined}
use Rattle.msr_naming.specs.declared.stamp.StampOf.TheVariants as stamped
use Rattle.msr_naming.proofs.Begun.{goes_both}
use Rattle.msr_exchange.specs.Names.{AreStampNames, Names, StampPlaces, all, path_at}
use Rattle.msr_exchange.specs.Promise.{IsUnderEither, KeepsBoth, LeavesAlone}
use Rattle.msr_exchange.specs.declared.names.Place.{Place}
use Rattle.msr_exchange.specs.declared.names.Place.TheVariants.{Day, DayPart, Original, OriginalPart, Records, RecordsPart, Note, NotePart}
use Rattle.msr_exchange.specs.declared.work.DayWork.{DayWork}
use Rattle.msr_exchange.proofs.Alone.{alone_moments}
use Rattle.msr_exchange.proofs.Back.{waits_moments}
use Rattle.msr_exchange.proofs.Phases.{quiet_moments}
use Rattle.msr_replace.specs.Answers.{Exchanges, IsNotOpened, IsRefusedFor, Means, Replaces}
use Rattle.msr_replace.specs.Restored.{PutsBackDay, RestoresDay}
use Rattle.msr_exchange.specs.Stamped.{LeavesStamp, StampsRecords, all_and_stamp, stamp_names}
use Rattle.msr_replace.specs.Stamping.{StampsRestored}
use Rattle.msr_replace.specs.declared.answers.DayAnswer.{DayAnswer}
use Rattle.msr_replace.specs.declared.answers.DayAnswer.TheVariants as answer
use Rattle.msr_replace.specs.declared.answers.DayRefusal.{DayRefusal}
use Rattle.msr_replace.specs.declared.answers.DayRefusal.TheVariants as said
use Rattle.msr_replace.specs.declared.answers.DayRestored.{DayRestored}
use Rattle.msr_replace.specs.declared.answers.DayRestored.TheVariants as restored
use Rattle.msr_exchange.proofs.Stamps.{other_way, quiet_stamp, stamp_then}

module _ (names : Names) (stamp : StampPlaces) (are : AreStampNames names stamp) where
  -- the stamp's name is none of the day's
  from_all : (place : Place) → bytes_eq stamp.path (path_at names place) ≡ false
  from_all place = other_way (path_at names place) stamp.path (are.apart place).0

  none_all : IsNoneOf stamp.path (all names)
  none_all = (from_all Day, (from_all DayPart, (from_all Original, (from_all OriginalPart, (from_all Records, (from_all RecordsPart, (from_all Note, (from_all NotePart, tt))))))))

  more_all : (p q : List Step) → ChangesOnly (all names) p q → ChangesOnly (all_and_stamp names stamp) p q
  more_all p q changes = changes_more (all names) (all_and_stamp names stamp) p q (λ n none. none.1.1) changes

  more_stamp : (p q : List Step) → ChangesOnly (stamp_names stamp) p q → ChangesOnly (all_and_stamp names stamp) p q
  more_stamp p q changes = changes_more (stamp_names stamp) (all_and_stamp names stamp) p q (λ n none. (none.0, (none.1.0, tt))) changes

  -- both are kept while the day is stamped
  kept_on : (one other : Place) (a b : List ℕ) (p q r : List Step) → AtEachMoment (KeepsBoth names one a other b) p q → ChangesOnly (stamp_names stamp) q r → AtEachMoment (KeepsBoth names one a other b) p r
  kept_on one other a b p q r each changes = joined (KeepsBoth names one a other b) p q r each
      (quiet_moments names one other (stamp_names stamp) a b q r (are.apart Day) (are.apart one) (are.apart other) (at_end (KeepsBoth names one a other b) p q each) changes)

  alone_on : (one : Place) (p q r : List Step) → LeavesAlone (path_at names one) names.day p q → ChangesOnly (stamp_names stamp) q r → LeavesAlone (path_at names one) names.day p r
  alone_on one p q r alone changes bytes is differ =
      let so = alone bytes is differ in
      joined (λ past. seen past (path_at names one) ≡ Some bytes) p q r so
      (each_by_changes (λ past. seen past (path_at names one) ≡ Some bytes) (stamp_names stamp) q
      (λ past ch. seen_kept (stamp_names stamp) (path_at names one) q past (are.apart one) ch ∙ at_end (λ past. seen past (path_at names one) ≡ Some bytes) p q so) r changes)

  module _ (work : DayWork) (report : Path) where
    -- a call that had failed
    unopened_on : (path : Path) (p q r : List Step) → ChangesOnly (stamp_names stamp) q r → IsNotOpened path p q → IsNotOpened path p r
    unopened_on path p q r ch is = ⊎_elim (λ none. inl none) (λ more. inr (let few = no_fewer (stamp_names stamp) q r ch in omega arith)) is

    refused_on : (why : DayRefusal) (p q r : List Step) → ChangesOnly (stamp_names stamp) q r → IsRefusedFor work names report why p q → IsRefusedFor work names report why p r
    refused_on said.Link p q r ch is = is
    refused_on said.RecordsLink p q r ch is = is
    refused_on said.FileUnopened p q r ch is = unopened_on names.day p q r ch is
    refused_on said.RecordsUnopened p q r ch is = ⊎_elim (λ shut. inl (unopened_on names.records p q r ch shut)) (λ found. inr found) is
    refused_on said.ReportUnopened p q r ch is = unopened_on report p q r ch is
    refused_on said.SameFile p q r ch is = is
    refused_on (said.Fault fault) p q r ch is = is
    refused_on said.Int24 p q r ch is = is
    refused_on said.AsideLink p q r ch is = is
    refused_on said.AsideTaken p q r ch is = is
    refused_on said.RecordsTaken p q r ch is = is
    refused_on said.Dress p q r ch is = is
    refused_on said.AsideDress p q r ch is = is

    means_on : (x : DayAnswer) (p q r : List Step) → ChangesOnly (stamp_names stamp) q r → Means work names report x p q → Means work names report x p r
    means_on (answer.Replaced before after) p q r ch is = record {
      day = is.day;
      changed = λ a b kept.
          let have = is.changed a b kept in
          record {
            day = leaves_kept (stamp_names stamp) names.day (Some b) q r (are.apart Day) ch have.day;
            waits = leaves_kept (stamp_names stamp) names.original (Some a) q r (are.apart Original) ch have.waits;
          };
    }
    means_on answer.Same p q r ch is = ⊎_elim (λ x. inl x) (λ x. inr (λ a b kept. leaves_kept (stamp_names stamp) names.day (Some b) q r (are.apart Day) ch (x a b kept))) is
    means_on answer.Young p q r ch is = is
    means_on (answer.Larger before after) p q r ch is = is
    means_on answer.Changed p q r ch is = is
    means_on answer.Missing p q r ch is = is
    means_on answer.NotShown p q r ch is = is
    means_on answer.Differs p q r ch is = is
    means_on (answer.Refused why) p q r ch is = refused_on why p q r ch is

    pub replaced_then : (x : DayAnswer) (one mid two : List Step → Type 0) → Goes one mid (Exchanges work names report (giving x)) → Goes mid two (StampsRecords names stamp) → Goes one two (Replaces work names report stamp (giving x))
    replaced_then x one mid two first second = goes_both _ _ _ one mid two
        (λ p q r exchanges given. record {
          changes = changes_then (all_and_stamp names stamp) p q r (more_all p q exchanges.changes) (more_stamp q r given.changes);
          cause = λ is. cc;
          safe = λ a b kept. kept_on Original Records a b p q r (exchanges.safe a b kept) given.changes;
          alone = alone_on Original p q r exchanges.alone given.changes;
          answers = means_on x p q r given.changes exchanges.answers;
          stamps = λ a b kept. stamp_then stamp names stamped.Records b (all names) p q r none_all exchanges.changes
              (given.adds are a b (at_end (KeepsBoth names Original a Records b) p q (exchanges.safe a b kept)));
        }) first second

    pub replaced_stopped : (why : TreeFault) (one two : List Step → Type 0) → Goes one two (Exchanges work names report (stopping DayAnswer why)) → Goes one two (Replaces work names report stamp (stopping DayAnswer why))
    replaced_stopped why one two goes = goes_as _ _ one two
        (λ p q exchanges. record {
          changes = more_all p q exchanges.changes;
          cause = exchanges.cause;
          safe = exchanges.safe;
          alone = exchanges.alone;
          answers = tt;
          stamps = λ a b kept. quiet_stamp stamp names stamped.Records b (all names) p q none_all exchanges.changes;
        }) goes

  -- the original waits, or is back
  under_on : (b : List ℕ) (p q r : List Step) → AtEachMoment (IsUnderEither names.day names.original b) p q → ChangesOnly (stamp_names stamp) q r → AtEachMoment (IsUnderEither names.day names.original b) p r
  under_on b p q r each changes = joined (IsUnderEither names.day names.original b) p q r each
      (each_by_changes (IsUnderEither names.day names.original b) (stamp_names stamp) q
      (λ past ch after beside may m. at_end (IsUnderEither names.day names.original b) p q each after beside
      (may_kept (stamp_names stamp) names.day q past after (are.apart Day) ch may) (may_kept (stamp_names stamp) names.original q past beside (are.apart Original) ch m)) r changes)

  stamps_back : (x : DayRestored) (b : List ℕ) (p q r : List Step) → ChangesOnly (all names) p q → StampsRestored names stamp x q r → (x ≡ restored.Restored → Leaves q names.day (Some b)) → AtEachMoment (LeavesStamp names stamp stamped.Input b p) p r
  stamps_back restored.Restored b p q r changes stamps leaves_it =
      stamp_then stamp names stamped.Input b (all names) p q r none_all changes (stamps.adds are refl b (leaves_it refl))
  stamps_back restored.Changed b p q r changes stamps leaves_it =
      subst (λ (t : List Step). AtEachMoment (LeavesStamp names stamp stamped.Input b p) p t) (sym (stamps.none (λ is. cc))) (quiet_stamp stamp names stamped.Input b (all names) p q none_all changes)
  stamps_back (restored.Refused why) b p q r changes stamps leaves_it =
      subst (λ (t : List Step). AtEachMoment (LeavesStamp names stamp stamped.Input b p) p t) (sym (stamps.none (λ is. cc))) (quiet_stamp stamp names stamped.Input b (all names) p q none_all changes)

  pub restored_then : (x : DayRestored) (one mid two : List Step → Type 0) → Goes one mid (PutsBackDay names (giving x)) → Goes mid two (StampsRestored names stamp x) → Goes one two (RestoresDay names stamp (giving x))
  restored_then x one mid two first second = goes_both _ _ _ one mid two
      (λ p q r puts given. record {
        changes = changes_then (all_and_stamp names stamp) p q r (more_all p q puts.changes) (more_stamp q r given.changes);
        cause = λ is. cc;
        safe = λ a b kept. kept_on Records Original a b p q r (puts.safe a b kept) given.changes;
        alone = alone_on Records p q r puts.alone given.changes;
        answers = λ a b kept. λ is. leaves_kept (stamp_names stamp) names.day (Some b) q r (are.apart Day) given.changes (puts.answers a b kept is);
        gives_back = λ b none waits. (
          under_on b p q r (puts.gives_back b none waits).0 given.changes,
          λ is. leaves_kept (stamp_names stamp) names.day (Some b) q r (are.apart Day) given.changes ((puts.gives_back b none waits).1 is),
        );
        stamps = λ a b kept. stamps_back x b p q r puts.changes given (puts.answers a b kept);
      }) first second

  pub restored_stopped : (why : TreeFault) (one two : List Step → Type 0) → Goes one two (PutsBackDay names (stopping DayRestored why)) → Goes one two (RestoresDay names stamp (stopping DayRestored why))
  restored_stopped why one two goes = goes_as _ _ one two
      (λ p q puts. record {
        changes = more_all p q puts.changes;
        cause = puts.cause;
        safe = puts.safe;
        alone = puts.alone;
        answers = λ a b kept. tt;
        gives_back = λ b none waits. ((puts.gives_back b none waits).0, tt);
        stamps = λ a b kept. quiet_stamp stamp names stamped.Input b (all names) p q none_all puts.changes;
      }) goes

-- memory is refused before anything is done
module _ (names : Names) (stamp : StampPlaces) where
  pub replaced_none : (work : DayWork) (report : Path) (one : List Step → Type 0) → Goes one one (Replaces work names report stamp (stopping DayAnswer fault.Memory))
  replaced_none work report one = record {
    from = λ new went. (
      new,
      went,
      record {
        changes = changes_none (all_and_stamp names stamp) new;
        cause = λ is. cc;
        safe = λ a b kept. quiet_moments names Original Records [] a b new new tt tt tt kept.keeps (changes_none [] new);
        alone = alone_moments [] names.original names.day new new tt (changes_none [] new);
        answers = tt;
        stamps = λ a b kept. quiet_stamp stamp names stamped.Records b [] new new tt (changes_none [] new);
      },
    );
  }

  pub restored_none : (one : List Step → Type 0) → Goes one one (RestoresDay names stamp (stopping DayRestored fault.Memory))
  restored_none one = record {
    from = λ new went. (
      new,
      went,
      record {
        changes = changes_none (all_and_stamp names stamp) new;
        cause = λ is. cc;
        safe = λ a b kept. quiet_moments names Records Original [] a b new new tt tt tt kept.keeps (changes_none [] new);
        alone = alone_moments [] names.records names.day new new tt (changes_none [] new);
        answers = λ a b kept. tt;
        gives_back = λ b none waits. (waits_moments names Original [] b new new tt waits (changes_none [] new), tt);
        stamps = λ a b kept. quiet_stamp stamp names stamped.Input b [] new new tt (changes_none [] new);
      },
    );
  }
