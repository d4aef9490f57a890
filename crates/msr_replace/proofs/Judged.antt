-- What is known of a day while nothing is done, and what is told of it in the end.
use Rattle.std.proofs.Common.{◌≡◌, inl, inr, ⊎_elim, ℕ, Bool, true, false, ◌&&◌, ◌⊎◌, if◌then◌else◌, leb, List, [], length, Option, None, Some, IsSomeAnd, IfSome, Result, Ok, Err, IfOk, IsErrOf, option_map, refl, sym, ◌∙◌, ap, subst, arith}
use Rattle.std.proofs.lemmas.Bool.{leb-true}
use Rattle.msr_tree.specs.Acts.{Acts}
use Rattle.msr_tree.specs.Calls.{Goes, Looks}
use Rattle.msr_tree.specs.Steps.{ChangesOnly, File, Path, Step, now, seen}
use Rattle.msr_tree.specs.declared.facts.Facts.{Facts}
use Rattle.msr_tree.specs.declared.tree.TreeFault.{TreeFault}
use Rattle.msr_tree.specs.declared.tree.TreeFault.TheVariants as fault
use Rattle.msr_tree.proofs.Acting.{giving, goes_as, no_fewer, stopping, then_given, then_ok}
use Rattle.msr_tree.proofs.Changes.{changes_more, changes_none, changes_then, now_kept, seen_kept}
use Rattle.msr_tree.proofs.Moments.{at_end, joined}
use Rattle.msr_verify.specs.declared.judging.Finding.{Finding}
use Rattle.msr_verify.specs.declared.judging.Finding.TheVariants as finding
use Rattle.msr_verify.specs.declared.judging.VerifyFault.{VerifyFault}
use Rattle.msr_replace.specs.Answers.{AreVerified, Exchanges, HaveBytes, HaveInt24, HaveLengths, IsFoundDay, IsLinked, IsRefusedFor, IsToldDay, IsNotOpened, IsVerifiedDay, Means, replaced_of, report_in}
use Rattle.msr_replace.specs.Restored.{refusal_of}
use Rattle.msr_replace.specs.Judging.{IsOpenedDay, JudgesReplaceable, JudgesKinds, JudgesMissing, JudgesSeen, JudgesWhole, LackInt24, TellsKinds, verified_of}
use Rattle.msr_replace.specs.Kinds.{LacksInt24}
use Rattle.msr_folders.specs.Paths.{folder_of}
use Rattle.msr_folders.specs.Paths.{joined as beneath}
use Rattle.msr_tree.specs.declared.facts.Kind.{Kind}
use Rattle.msr_tree.specs.declared.facts.Kind.TheVariants as kind
use Rattle.msr_replace.specs.Looks.{AsksYoung, IsLinkFound, IsNoFile, IsSeenDay, RefusesByWays, RefusesWhole, SortsOut}
use Rattle.msr_replace.specs.Ways.{IsKindFound, IsWay}
use Rattle.msr_replace.specs.declared.ways.Way.{Way}
use Rattle.msr_replace.specs.declared.ways.Way.TheVariants as way
use Rattle.msr_exchange.specs.Names.{Names, all}
use Rattle.msr_exchange.specs.Promise.{AreKept, KeepsAll, KeepsBoth, Says}
use Rattle.msr_replace.specs.declared.answers.DayAnswer.{DayAnswer}
use Rattle.msr_replace.specs.declared.answers.DayAnswer.TheVariants as answer
use Rattle.msr_replace.specs.declared.answers.DayRefusal.{DayRefusal}
use Rattle.msr_replace.specs.declared.answers.DayRefusal.TheVariants as said
use Rattle.msr_replace.specs.declared.day.Judged.{Judged}
use Rattle.msr_replace.specs.declared.day.Judged.TheVariants as judged
use Rattle.msr_replace.specs.declared.looks.Looked.{Looked}
use Rattle.msr_exchange.specs.declared.moves.Hindrance.TheVariants as hindrance
use Rattle.msr_exchange.specs.declared.names.Place.TheVariants.{Original, Records}
use Rattle.msr_exchange.specs.declared.preparing.Verified.{Verified}
use Rattle.msr_exchange.specs.declared.told.Refusal.{Refusal}
use Rattle.msr_exchange.specs.declared.told.Refusal.TheVariants as refusal
use Rattle.msr_exchange.specs.declared.told.Told.{Told}
use Rattle.msr_exchange.specs.declared.told.Told.TheVariants as told
use Rattle.msr_replace.specs.declared.verifying.Opened.{Opened}
use Rattle.msr_replace.specs.declared.verifying.Opened.TheVariants as opened
use Rattle.msr_exchange.specs.declared.work.DayWork.{DayWork}
use Rattle.msr_exchange.proofs.Alone.{alone_moments, alone_then}
use Rattle.msr_exchange.proofs.Phases.{quiet_moments}

-- What is seen after nothing was changed was seen before.
module _ (p r : List Step) (changes : ChangesOnly [] p r) where
  same_seen : (name : Path) (what : Option (List ℕ)) → seen r name ≡ what → seen p name ≡ what
  same_seen name what is = sym (seen_kept [] name p r tt changes) ∙ is

  same_now : (name : Path) (what : Option File) → now r name ≡ what → now p name ≡ what
  same_now name what is = sym (now_kept [] name p r tt changes) ∙ is

  looks_sooner : (path : Path) (found : Option Facts) → Looks path r found → Looks path p found
  looks_sooner path None is = same_now path None is
  looks_sooner path (Some facts) is = record {
    regular = λ kind. subst (λ at. IsSomeAnd at (λ file. facts.bytes ≡ length file.bytes)) (now_kept [] path p r tt changes) (is.regular kind);
    other = λ kind. same_now path None (is.other kind);
  }

  kind_sooner : (path : Path) (kind : Option Kind) → IsKindFound path r kind → IsKindFound path p kind
  kind_sooner path kind is = (is.0, looks_sooner path is.0 is.1, is.2)

  way_sooner : (top folder : Path) (so : Way) → IsWay top folder r so → IsWay top folder p so
  way_sooner top folder so is = record {
    year = is.year;
    network = is.network;
    station = is.station;
    channel = is.channel;
    year_is = kind_sooner (beneath top (folder_of (folder_of (folder_of folder)))) is.year is.year_is;
    network_is = kind_sooner (beneath top (folder_of (folder_of folder))) is.network is.network_is;
    station_is = kind_sooner (beneath top (folder_of folder)) is.station is.station_is;
    channel_is = kind_sooner (beneath top folder) is.channel is.channel_is;
    is = is.is;
  }

  linked_sooner : (work : DayWork) (report top name : Path) → IsLinked work report top name r → IsLinked work report top name p
  linked_sooner work report top name is = ⊎_elim
      (λ one. inl (kind_sooner name (Some kind.Link) one))
      (λ other. inr (other.0, other.1, way_sooner top (folder_of other.0) way.Odd other.2))
      is

  unopened_sooner : (path : Path) (s : List Step) → IsNotOpened path r s → IsNotOpened path p s
  unopened_sooner path s is = ⊎_elim (λ none. inl (same_now path None none)) (λ more. inr (let few = no_fewer [] p r changes in omega arith)) is

  lengths_back : (names : Names) (file records : Facts) → HaveLengths names file records r → HaveLengths names file records p
  lengths_back names file records have = record {
    file_is = subst (λ at. IsSomeAnd at (λ found. file.bytes ≡ length found.bytes)) (now_kept [] names.day p r tt changes) have.file_is;
    records_are = subst (λ at. IsSomeAnd at (λ found. records.bytes ≡ length found.bytes)) (now_kept [] names.records p r tt changes) have.records_are;
  }

  module _ (names : Names) (report : Path) where
    bytes_sooner : (file records text : List ℕ) → HaveBytes names report file records text r → HaveBytes names report file records text p
    bytes_sooner file records text have = record {
      day = same_seen names.day (Some file) have.day;
      comes = same_seen names.records (Some records) have.comes;
      shows = same_seen report (Some text) have.shows;
    }

    pub found_sooner : (answered : Result Finding VerifyFault) → IsFoundDay names report answered r → IsFoundDay names report answered p
    found_sooner answered found = record {
      file = found.file;
      records = found.records;
      text = found.text;
      bytes = bytes_sooner found.file found.records found.text found.bytes;
      answers = found.answers;
    }

    int24_sooner : HaveInt24 names r → HaveInt24 names p
    int24_sooner have = record { records = have.records; comes = same_seen names.records (Some have.records) have.comes; holds = have.holds }

    pub verified_sooner : (work : DayWork) (before after : ℕ) → IsVerifiedDay work names report before after r → IsVerifiedDay work names report before after p
    verified_sooner work before after day = record {
      file = day.file;
      records = day.records;
      text = day.text;
      bytes = bytes_sooner day.file day.records day.text day.bytes;
      verified = day.verified;
      kinds = day.kinds;
      before_is = day.before_is;
      after_is = day.after_is;
    }

    refused_sooner : (work : DayWork) (why : DayRefusal) (s : List Step) → IsRefusedFor work names report why r s → IsRefusedFor work names report why p s
    refused_sooner work said.Link s is = ⊎_elim (λ link. inl (linked_sooner work report work.root.now names.day link)) (λ found. inr (found_sooner (Ok finding.Verified) found)) is
    refused_sooner work said.RecordsLink s is = ⊎_elim (λ link. inl (linked_sooner work report work.out.now names.records link)) (λ found. inr (found_sooner (Ok finding.Verified) found)) is
    refused_sooner work said.FileUnopened s found = unopened_sooner names.day s found
    refused_sooner work said.RecordsUnopened s is = ⊎_elim (λ shut. inl (unopened_sooner names.records s shut)) (λ found. inr (found_sooner (Ok finding.Verified) found)) is
    refused_sooner work said.ReportUnopened s found = unopened_sooner report s found
    refused_sooner work said.SameFile s one = record {
      file = one.file;
      records = one.records;
      have = lengths_back names one.file one.records one.have;
      device = one.device;
      number = one.number;
    }
    refused_sooner work (said.Fault fault) s found = found_sooner (Err fault) found
    refused_sooner work said.Int24 s found = (found.0, int24_sooner found.1)
    refused_sooner work said.AsideLink s found = found_sooner (Ok finding.Verified) found
    refused_sooner work said.AsideTaken s found = found_sooner (Ok finding.Verified) found
    refused_sooner work said.RecordsTaken s found = found_sooner (Ok finding.Verified) found
    refused_sooner work said.Dress s found = found_sooner (Ok finding.Verified) found
    refused_sooner work said.AsideDress s found = found_sooner (Ok finding.Verified) found

    pub told_sooner : (work : DayWork) (x : DayAnswer) (s : List Step) → IsToldDay work names report x r s → IsToldDay work names report x p s
    told_sooner work (answer.Replaced before after) s is = is
    told_sooner work answer.Same s is = record {
      file = is.file;
      text = is.text;
      day = same_seen names.day (Some is.file) is.day;
      shows = same_seen report (Some is.text) is.shows;
      none = same_now names.records None is.none;
      least = is.least;
    }
    told_sooner work answer.Young s is = is
    told_sooner work (answer.Larger before after) s is = (is.0, is.1, verified_sooner work before after is.2)
    told_sooner work answer.Changed s is = found_sooner (Ok finding.Verified) is
    told_sooner work answer.Missing s is = ⊎_elim (λ one. inl (same_now names.records None one)) (λ other. inr (same_now report None other)) is
    told_sooner work answer.NotShown s is = found_sooner (Ok finding.NotShown) is
    told_sooner work answer.Differs s is = found_sooner (Ok finding.Differs) is
    told_sooner work (answer.Refused why) s is = refused_sooner work why s is

    pub judges_sooner : (work : DayWork) (x : Judged) (s : List Step) → JudgesReplaceable work names report r s x → JudgesReplaceable work names report p s x
    judges_sooner work (judged.Told x) s is = told_sooner work x s is
    judges_sooner work (judged.Verified v) s is = verified_sooner work v.file.bytes v.records.bytes is

-- what a look tells stays so
looks_later : (path : Path) (p r : List Step) (found : Option Facts) → ChangesOnly [] p r → Looks path p found → Looks path r found
looks_later path p r None changes is = now_kept [] path p r tt changes ∙ is
looks_later path p r (Some facts) changes is = record {
  regular = λ kind. subst (λ at. IsSomeAnd at (λ file. facts.bytes ≡ length file.bytes)) (sym (now_kept [] path p r tt changes)) (is.regular kind);
  other = λ kind. now_kept [] path p r tt changes ∙ is.other kind;
}

pub seen_later : (names : Names) (report : Path) (p q r s : List Step) (looked : Looked) → ChangesOnly [] p r → IsSeenDay names report p q looked → IsSeenDay names report r s looked
seen_later names report p q r s looked changes is = record {
  file = looks_later names.day p r looked.file changes is.file;
  records = looks_later names.records p r looked.records changes is.records;
  text = looks_later report p r looked.report changes is.text;
}

-- The answer in the end.
module _ (work : DayWork) (names : Names) (report : Path) where
  abbrev R : Result DayAnswer TreeFault → (old new : List Step) → Type 0
  R result = Exchanges work names report result

  abbrev Kept : (a b : List ℕ) → List Step → Type 0
  Kept = AreKept names Original Records

  means_of : (x : DayAnswer) (p q : List Step) → IsToldDay work names report x p q → Means work names report x p q
  means_of (answer.Replaced before after) p q is = absurd is
  means_of answer.Same p q is = inl is
  means_of answer.Young p q is = is
  means_of (answer.Larger before after) p q is = is
  means_of answer.Changed p q is = is
  means_of answer.Missing p q is = is
  means_of answer.NotShown p q is = is
  means_of answer.Differs p q is = is
  means_of (answer.Refused why) p q is = is

  -- nothing is done
  pub told_here : {A : Type 0} (First : (old new : List Step) → A → Type 0) (first : Result A TreeFault) (result : Result DayAnswer TreeFault) (before after : List Step → Type 0)
      → (IsErrOf result fault.Failed → IsErrOf first fault.Failed)
      → ((p q : List Step) → IfOk first (λ x. First p q x) → IfOk result (λ x. IsToldDay work names report x p q))
      → Goes before after (Acts [] First first) → Goes before after (R result)
  told_here First first result before after fails tells goes = goes_as _ _ before after (λ p q acts. record {
    changes = changes_more [] (all names) p q (λ n none. tt) acts.changes;
    cause = λ is. acts.cause (fails is);
    safe = λ a b kept. quiet_moments names Original Records [] a b p q tt tt tt kept.keeps acts.changes;
    alone = alone_moments [] names.original names.day p q tt acts.changes;
    answers = ending result p q (tells p q acts.does);
  }) goes
    where
      ending : (r : Result DayAnswer TreeFault) (p q : List Step) → IfOk r (λ x. IsToldDay work names report x p q) → IfOk r (λ x. Means work names report x p q)
      ending (Ok x) p q is = means_of x p q is
      ending (Err why) p q is = tt

  pub told_stopped : {A : Type 0} (First : (old new : List Step) → A → Type 0) (why : TreeFault) (before after : List Step → Type 0)
      → Goes before after (Acts [] First (stopping A why)) → Goes before after (R (stopping DayAnswer why))
  told_stopped {A = A} First why before after goes =
      told_here {A = A} First (stopping A why) (stopping DayAnswer why) before after (λ is. let so : why ≡ fault.Failed = cc in ap (λ w. Err w) so) (λ p q none. tt) goes

  -- both are kept while nothing changes
  kept_later : (a b : List ℕ) (p q : List Step) → ChangesOnly [] p q → Kept a b p → Kept a b q
  kept_later a b p q changes kept = record {
    keeps = at_end (KeepsBoth names Original a Records b) p q (quiet_moments names Original Records [] a b p q tt tt tt kept.keeps changes);
    comes = subst (λ f. IfSome f (λ bytes. bytes ≡ b)) (sym (seen_kept [] names.records p q tt changes)) kept.comes;
  }

  -- what is told of verified files as they change places
  of_verified : (why : Refusal) (p r : List Step) → AreVerified names report p → IsRefusedFor work names report (refusal_of why) p r
  of_verified (refusal.Day hindrance.Link) p r found = inr found
  of_verified (refusal.Day hindrance.Taken) p r found = inr found
  of_verified (refusal.Day hindrance.Dress) p r found = found
  of_verified (refusal.Aside hindrance.Link) p r found = found
  of_verified (refusal.Aside hindrance.Taken) p r found = found
  of_verified (refusal.Aside hindrance.Dress) p r found = found
  of_verified (refusal.Records hindrance.Link) p r found = inr found
  of_verified (refusal.Records hindrance.Taken) p r found = found
  of_verified (refusal.Records hindrance.Dress) p r found = found

  are_verified : (before after : ℕ) (p : List Step) → IsVerifiedDay work names report before after p → AreVerified names report p
  are_verified before after p day = record { file = day.file; records = day.records; text = day.text; bytes = day.bytes; answers = day.verified }

  means_replaced : (v : Verified) (x : Told) (p q r : List Step) → ChangesOnly [] p q → IsVerifiedDay work names report v.file.bytes v.records.bytes p
      → ((a b : List ℕ) → Kept a b q → Says names Original a b r x) → Means work names report (replaced_of x v) p r
  means_replaced v told.Done p q r changes day says = record { day = day; changed = λ a b kept. (says a b (kept_later a b p q changes kept)).done refl }
  means_replaced v told.Same p q r changes day says = inr (λ a b kept. (says a b (kept_later a b p q changes kept)).same refl)
  means_replaced v told.Changed p q r changes day says = are_verified v.file.bytes v.records.bytes p day
  means_replaced v (told.Refused why) p q r changes day says = of_verified why p r (are_verified v.file.bytes v.records.bytes p day)

  -- what was verified changes places
  pub verified_then : (v : Verified) (end : Result Told TreeFault) (result : Result DayAnswer TreeFault) (before mid after : List Step → Type 0)
      → (IsErrOf result fault.Failed → IsErrOf end fault.Failed)
      → ((p r : List Step) → IfOk end (λ x. Means work names report (replaced_of x v) p r) → IfOk result (λ x. Means work names report x p r))
      → Goes before mid (Acts [] (JudgesReplaceable work names report) (giving (judged.Verified v))) → Goes mid after (KeepsAll names Original Records Kept end) → Goes before after (R result)
  verified_then v end result before mid after fails same first goes = record {
    from = λ new went.
        let later = goes.from new went in
        let sooner = first.from later.0 later.1 in
        let p = sooner.0 in
        let q = later.0 in (
          p,
          sooner.1,
          record {
            changes = changes_then (all names) p q new (changes_more [] (all names) p q (λ n none. tt) sooner.2.changes) later.2.keeps.changes;
            cause = λ is.
                let few = no_fewer [] p q sooner.2.changes in
                let rises = later.2.keeps.cause (fails is) in
                omega arith;
            safe = λ a b kept. joined (KeepsBoth names Original a Records b) p q new
                (quiet_moments names Original Records [] a b p q tt tt tt kept.keeps sooner.2.changes)
                (later.2.keeps.safe a b (kept_later a b p q sooner.2.changes kept));
            alone = alone_then [] names.original names.day p q new tt tt sooner.2.changes later.2.alone;
            answers = same p new
                (each end q new (λ x. Means work names report (replaced_of x v) p new) (λ x says. means_replaced v x p q new sooner.2.changes sooner.2.does says) later.2.keeps.answers);
          },
        );
  }
    where
      each : (e : Result Told TreeFault) (s t : List Step) (P : Told → Type 0) → ((x : Told) → ((a b : List ℕ) → Kept a b s → Says names Original a b t x) → P x)
          → ((a b : List ℕ) → Kept a b s → IfOk e (λ x. Says names Original a b t x)) → IfOk e P
      each (Ok x) s t P so says = so x says
      each (Err why) s t P so says = tt

  pub verified_stopped : (v : Verified) (why : TreeFault) (before mid after : List Step → Type 0)
      → Goes before mid (Acts [] (JudgesReplaceable work names report) (giving (judged.Verified v))) → Goes mid after (KeepsAll names Original Records Kept (stopping Told why)) → Goes before after (R (stopping DayAnswer why))
  verified_stopped v why before mid after first goes =
      verified_then v (stopping Told why) (stopping DayAnswer why) before mid after (λ is. let so : why ≡ fault.Failed = cc in ap (λ w. Err w) so) (λ p r none. tt) first goes

-- What is judged of a day, call by call.
module _ (work : DayWork) (names : Names) (report : Path) where
  lengths_sooner : (file records : Facts) (p r : List Step) → ChangesOnly [] p r → HaveLengths names file records p → HaveLengths names file records r
  lengths_sooner file records p r changes have = record {
    file_is = subst (λ at. IsSomeAnd at (λ found. file.bytes ≡ length found.bytes)) (sym (now_kept [] names.day p r tt changes)) have.file_is;
    records_are = subst (λ at. IsSomeAnd at (λ found. records.bytes ≡ length found.bytes)) (sym (now_kept [] names.records p r tt changes)) have.records_are;
  }

  length_of : (found : Option File) (bytes : List ℕ) (n : ℕ) → option_map (λ file. file.bytes) found ≡ Some bytes → IsSomeAnd found (λ file. n ≡ length file.bytes) → n ≡ length bytes
  length_of None bytes n is has = absurd has
  length_of (Some file) bytes n is has = let same : file.bytes ≡ bytes = cc in has ∙ ap length same

  -- files that are verified, and what is told of them
  pub verified_day : (file records : Facts) (p : List Step) → HaveLengths names file records p → IsFoundDay names report (Ok finding.Verified) p → (work.int24 ≡ true) ⊎ LackInt24 names p
      → IsVerifiedDay work names report file.bytes records.bytes p
  verified_day file records p have found kinds = record {
    file = found.file;
    records = found.records;
    text = found.text;
    bytes = found.bytes;
    verified = found.answers;
    kinds = ⊎_elim (λ may. inl may) (λ lack. inr (let same : lack.records ≡ found.records = cc (lack.comes, found.bytes.comes) in subst (λ x. LacksInt24 x) same lack.lacks)) kinds;
    before_is = length_of (now p names.day) found.file file.bytes found.bytes.day have.file_is;
    after_is = length_of (now p names.records) found.records records.bytes found.bytes.comes have.records_are;
  }

  pub judges_verified : (file records : Facts) (p s : List Step) → IsVerifiedDay work names report file.bytes records.bytes p → JudgesReplaceable work names report p s (verified_of work file records)
  judges_verified file records p s day = by (work.only_smaller) (leb file.bytes records.bytes) refl refl
    where
      by : (asked fits : Bool) → work.only_smaller ≡ asked → leb file.bytes records.bytes ≡ fits
          → JudgesReplaceable work names report p s (if asked && fits then judged.Told (answer.Larger file.bytes records.bytes) else judged.Verified (record { file = file; records = records; touch = work.touch }))
      by true true asked fits = (asked, leb-true file.bytes records.bytes fits, day)
      by true false asked fits = day
      by false true asked fits = day
      by false false asked fits = day

-- an answer without a call
pub told_now : {T : Type 0} (Done : (old new : List Step) → T → Type 0) (x : T) (one : List Step → Type 0) → ((p : List Step) → Done p p x) → Goes one one (Acts [] Done (giving x))
told_now Done x one so = record { from = λ new went. (new, went, record { changes = changes_none [] new; cause = λ is. cc; does = so new }) }

-- one call that changes nothing, and what is made of its answer
pub told_after : {A B : Type 0} (First : (old new : List Step) → A → Type 0) (Done : (old new : List Step) → B → Type 0) (a : A) (b : B) (one two : List Step → Type 0)
    → ((p q : List Step) → ChangesOnly [] p q → First p q a → Done p q b) → Goes one two (Acts [] First (giving a)) → Goes one two (Acts [] Done (giving b))
told_after First Done a b one two so goes = goes_as _ _ one two (λ p q acts. record { changes = acts.changes; cause = λ is. cc; does = so p q acts.changes acts.does }) goes

-- and then another
pub told_then : {A B : Type 0} (First : (old new : List Step) → A → Type 0) (Second Done : (old new : List Step) → B → Type 0) (a : A) (result : Result B TreeFault) (one mid two : List Step → Type 0)
    → ((p q r : List Step) (b : B) → ChangesOnly [] p q → ChangesOnly [] q r → First p q a → Second q r b → Done p r b)
    → Goes one mid (Acts [] First (giving a)) → Goes mid two (Acts [] Second result) → Goes one two (Acts [] Done result)
told_then {A = A} {B = B} First Second Done a result one mid two so first goes =
    then_given {A = A} {B = B} [] First Second Done a result one mid two (λ p q r b f s c d. so p q r b c d f s) first goes

-- a day that is refused for what was found
link_found : (path : Path) (found : Option Facts) (past : List Step) → Looks path past found → IsLinkFound found → IsKindFound path past (Some kind.Link)
link_found path None past looks is = absurd is
link_found path (Some facts) past looks is = (Some facts, looks, ap (λ k. Some k) (sym is))

no_file : (path : Path) (found : Option Facts) (past : List Step) → Looks path past found → IsNoFile found → now past path ≡ None
no_file path None past looks is = looks
no_file path (Some facts) past looks is = looks.other is

sorted_out : (work : DayWork) (names : Names) (report : Path) (looked : Looked) (why : DayRefusal) (p s : List Step) → IsSeenDay names report p p looked → SortsOut looked why → IsRefusedFor work names report why p s
sorted_out work names report looked said.Link p s sees is = inl (inl (link_found names.day looked.file p sees.file is))
sorted_out work names report looked said.RecordsLink p s sees is = inl (inl (link_found names.records looked.records p sees.records is))
sorted_out work names report looked said.FileUnopened p s sees is = inl (no_file names.day looked.file p sees.file is)
sorted_out work names report looked said.RecordsUnopened p s sees is = inl (inl (no_file names.records looked.records p sees.records is))
sorted_out work names report looked said.ReportUnopened p s sees is = inl (no_file report looked.report p sees.text is)
sorted_out work names report looked (said.Fault fault) p s sees is = absurd is
sorted_out work names report looked said.Int24 p s sees is = absurd is
sorted_out work names report looked said.SameFile p s sees is = absurd is
sorted_out work names report looked said.AsideLink p s sees is = absurd is
sorted_out work names report looked said.AsideTaken p s sees is = absurd is
sorted_out work names report looked said.RecordsTaken p s sees is = absurd is
sorted_out work names report looked said.Dress p s sees is = absurd is
sorted_out work names report looked said.AsideDress p s sees is = absurd is

-- for what is on the way
pub by_ways : (work : DayWork) (names : Names) (path : Path) (p q r : List Step) (refusal : Option DayRefusal) → ChangesOnly [] p q → RefusesByWays work path q r refusal
    → IfSome refusal (λ why. IsRefusedFor work names (report_in work path) why p r)
by_ways work names path p q r None changes ways = tt
by_ways work names path p q r (Some why) changes ways =
    let folder = folder_of path in
    ⊎_elim
    (λ one. subst (λ w. IsRefusedFor work names (report_in work path) w p r) (sym one.0)
    (inl (inr (path, refl, way_sooner p q changes work.root.now folder way.Odd (subst (λ o. IsWay work.root.now folder q o) one.1 ways.2)))))
    (λ one. subst (λ w. IsRefusedFor work names (report_in work path) w p r) (sym one.0)
    (inl (inr (path, refl, way_sooner p q changes work.out.now folder way.Odd (subst (λ o. IsWay work.out.now folder q o) one.1 ways.3)))))
    ways.4

-- what is judged of verified files, with what is asked of their kinds
module _ (work : DayWork) (names : Names) (file records : Facts) where
  abbrev Kinds : (old new : List Step) → Judged → Type 0
  Kinds = JudgesKinds work names file records

  pub kinds_allowed : (one : List Step → Type 0) → work.int24 ≡ true → Goes one one (Acts [] Kinds (giving (verified_of work file records)))
  kinds_allowed one may = told_now Kinds (verified_of work file records) one
      (λ p report have found. judges_verified work names report file records p p (verified_day work names report file records p have found (inl may)))

  pub kinds_lack : (looked : Option DayRefusal) (one two : List Step → Type 0) → looked ≡ None → Goes one two (Acts [] (TellsKinds names) (giving looked)) → Goes one two (Acts [] Kinds (giving (verified_of work file records)))
  kinds_lack looked one two none goes = told_after (TellsKinds names) Kinds looked (verified_of work file records) one two
      (λ p q ch tells report have found. judges_verified work names report file records p q
      (verified_day work names report file records p have found (inr (subst (λ o. TellsKinds names p q o) none tells)))) goes

  pub kinds_refused : (looked : Option DayRefusal) (why : DayRefusal) (one two : List Step → Type 0) → looked ≡ Some why → work.int24 ≡ false → Goes one two (Acts [] (TellsKinds names) (giving looked))
      → Goes one two (Acts [] Kinds (giving (judged.Told (answer.Refused why))))
  kinds_refused looked why one two some none goes = told_after (TellsKinds names) Kinds looked (judged.Told (answer.Refused why)) one two
      (λ p q ch tells report have found. (subst (λ o. TellsKinds names p q o) some tells) work report none found) goes

  module _ (report : Path) where
    abbrev Whole : (old new : List Step) → Judged → Type 0
    Whole = JudgesWhole work names report file records

    pub whole_told : (found : Opened) (x : DayAnswer) (one two : List Step → Type 0) → found ≡ opened.Told x → Goes one two (Acts [] (IsOpenedDay work names report) (giving found)) → Goes one two (Acts [] Whole (giving (judged.Told x)))
    whole_told found x one two is goes = told_after (IsOpenedDay work names report) Whole found (judged.Told x) one two
        (λ p q ch tells have. subst (λ o. IsOpenedDay work names report p q o) is tells) goes

    pub whole_verified : (found : Opened) (result : Result Judged TreeFault) (one mid two : List Step → Type 0) → found ≡ opened.Verified
        → Goes one mid (Acts [] (IsOpenedDay work names report) (giving found)) → Goes mid two (Acts [] Kinds result) → Goes one two (Acts [] Whole result)
    whole_verified found result one mid two is first goes = told_then (IsOpenedDay work names report) Kinds Whole found result one mid two
        (λ p q r x c d tells kinds have. judges_sooner p q c names report work x r
        (kinds report (lengths_sooner work names report file records p q c have) (found_later p q c (subst (λ o. IsOpenedDay work names report p q o) is tells)))) first goes
      where
        found_later : (p q : List Step) → ChangesOnly [] p q → IsFoundDay names report (Ok finding.Verified) p → IsFoundDay names report (Ok finding.Verified) q
        found_later p q changes found = record {
          file = found.file;
          records = found.records;
          text = found.text;
          bytes = record {
            day = seen_kept [] names.day p q tt changes ∙ found.bytes.day;
            comes = seen_kept [] names.records p q tt changes ∙ found.bytes.comes;
            shows = seen_kept [] report p q tt changes ∙ found.bytes.shows;
          };
          answers = found.answers;
        }

    module _ (path : Path) where
      abbrev Refuses : (old new : List Step) → Option DayRefusal → Type 0
      Refuses = RefusesWhole work names path file records

      pub whole_refused : (looked : Option DayRefusal) (why : DayRefusal) (one two : List Step → Type 0) → report ≡ report_in work path → looked ≡ Some why
          → Goes one two (Acts [] Refuses (giving looked)) → Goes one two (Acts [] Whole (giving (judged.Told (answer.Refused why))))
      whole_refused looked why one two is some goes = told_after Refuses Whole looked (judged.Told (answer.Refused why)) one two
          (λ p q ch tells have. subst (λ n. IsRefusedFor work names n why p q) (sym is) (subst (λ o. IfSome o (λ w. IsRefusedFor work names (report_in work path) w p q)) some (tells have))) goes

      pub whole_later : (looked : Option DayRefusal) (result : Result Judged TreeFault) (one mid two : List Step → Type 0) → Goes one mid (Acts [] Refuses (giving looked)) → Goes mid two (Acts [] Whole result) → Goes one two (Acts [] Whole result)
      whole_later looked result one mid two first goes = told_then Refuses Whole Whole looked result one mid two
          (λ p q r x c d tells whole have. judges_sooner p q c names report work x r (whole (lengths_sooner work names report file records p q c have))) first goes

-- what is judged by what was seen
module _ (work : DayWork) (names : Names) (report : Path) where
  module _ (looked : Looked) where
    abbrev Seen : (old new : List Step) → Judged → Type 0
    Seen = JudgesSeen work names report looked

    pub seen_refused : (why : DayRefusal) (one : List Step → Type 0) → SortsOut looked why → Goes one one (Acts [] Seen (giving (judged.Told (answer.Refused why))))
    seen_refused why one is = told_now Seen (judged.Told (answer.Refused why)) one (λ p sees. sorted_out work names report looked why p p sees is)

    pub missing_now : (one : List Step → Type 0) → Goes one one (Acts [] (JudgesMissing work names report looked) (giving (judged.Told answer.Missing)))
    missing_now one = told_now (JudgesMissing work names report looked) (judged.Told answer.Missing) one
        (λ p sees missing. ⊎_elim (λ one. inl (subst (λ o. Looks names.records p o) one sees.records)) (λ other. inr (subst (λ o. Looks report p o) other sees.text)) missing)

  -- a day that is young
  pub young_told : (young : Bool) (looked : Looked) (one mid two : List Step → Type 0) → young ≡ true → Goes one mid (Acts [] (IsSeenDay names report) (giving looked)) → Goes mid two (Acts [] (AsksYoung work) (giving young))
      → Goes one two (Acts [] (JudgesReplaceable work names report) (giving (judged.Told answer.Young)))
  young_told young looked one mid two is first second =
      then_ok {A = Looked} {B = Bool} {C = Judged} [] (IsSeenDay names report) (AsksYoung work) (JudgesReplaceable work names report) looked young (judged.Told answer.Young) one mid two (λ p q r a b c d. b is) first second

  pub judged_seen : (young : Bool) (looked : Looked) (result : Result Judged TreeFault) (one mid late two : List Step → Type 0) → Goes one mid (Acts [] (IsSeenDay names report) (giving looked)) → Goes mid late (Acts [] (AsksYoung work) (giving young))
      → Goes late two (Acts [] (JudgesSeen work names report looked) result) → Goes one two (Acts [] (JudgesReplaceable work names report) result)
  judged_seen young looked result one mid late two first second third =
      let both = then_ok {A = Looked} {B = Bool} {C = Unit {0}} [] (IsSeenDay names report) (AsksYoung work) (λ old new x. IsSeenDay names report old old looked) looked young tt one mid late
      (λ p q r a b c d. seen_later names report p q p p looked (changes_none [] p) a) first second in
      told_then {A = Unit {0}} {B = Judged} (λ old new x. IsSeenDay names report old old looked) (JudgesSeen work names report looked) (JudgesReplaceable work names report) tt result one late two
      (λ p q r x c d sees judges. judges_sooner p q c names report work x r (judges (seen_later names report p p q q looked c sees))) both third
