-- The stamps of days get their names.
use Rattle.std.proofs.Common.{◌≡◌, ◌⊎◌, inl, inr, ⊎_elim, Bool, true, false, List, [], ◌∷◌, ◌++◌, ℕ, map, reverse, refl, sym, subst, ◌∙◌, ap, append_assoc, Option, Some, None, IfSome, option_map}
use Rattle.std.proofs.lemmas.List.{append_cancel_right, map-append, reverse-append}
use Rattle.std.specs.List.{AllByRecursion}
use Rattle.msr_tree.specs.Steps.{AtEachMoment, Failed, File, FolderStored, IsReady, Leaves, MayLeave, Path, Renamed, Step, Throughout, now, seen, touches}
use Rattle.msr_tree.proofs.Changes.{ready_renamed, ready_settled}
use Rattle.msr_tree.proofs.Crash.{is_of as shows_file, is_self, leaves, leaves_seen, quiet, still, untouched}
use Rattle.msr_tree.proofs.Moments.{at_end, done, joined}
use Rattle.msr_naming.specs.declared.files.DayFiles.{DayFiles}
use Rattle.msr_naming.specs.declared.files.Name.TheVariants.{Records, Report, Stamp, StampPart}
use Rattle.msr_naming.specs.Naming.{AreDayNames, IsOther, name_path}
use Rattle.msr_naming.specs.declared.files.Name.{Name}
use Rattle.msr_naming.specs.Promise.{AreOthers, HasOwn, IsOneOf, IsToBeStamped, StandInFolders}
use Rattle.msr_naming.proofs.Names.{none_shown, not_renamed, ready_still, seen_ready, seen_still}
use Rattle.msr_naming.proofs.Order.{alone, has_all}

abbrev pub stamping : DayFiles → Step
stamping day = Renamed day.stamp.part day.stamp.path

-- of days, and of what else is known of them
pub stamping_each : {A : Type 0} (files : A → DayFiles) (items : List A) → map (λ (item : A). stamping (files item)) items ≡ map stamping (map files items)
stamping_each files [] = refl
stamping_each files (item ∷ items) = ap (λ (l : List Step). stamping (files item) ∷ l) (stamping_each files items)

last_first : (day : DayFiles) (days : List DayFiles) (past : List Step) → reverse (map stamping (day ∷ days)) ++ past ≡ reverse (map stamping days) ++ (stamping day ∷ past)
last_first day days past = ap (λ (l : List Step). l ++ past) (reverse-append (stamping day ∷ []) (map stamping days)) ∙ append_assoc (reverse (map stamping days)) (stamping day ∷ []) past

-- each stamp that a crash may leave is of these
abbrev pub MayBeOf : (is_of : List ℕ → Bool) → List Step → Path → Type 0
MayBeOf is_of past name = (after : Option (List ℕ)) → MayLeave past name after → IfSome after (λ s. is_of s ≡ true)

-- Records and report of a day are on the disk, and its stamp, which gets its name or has it.
pub record Awaits (files : DayFiles) (is_of : List ℕ → Bool) (s r p : List ℕ) (past : List Step) : Type 0 where
  pub records_are : Leaves past files.records.path (Some r)
  pub report_is : Leaves past files.report.path (Some p)
  pub stamp_may : MayBeOf is_of past files.stamp.path
  pub part_is : (now past files.stamp.part ≡ None) ⊎ IsReady files.stamp.part s past

abbrev pub IsThisOrOther : DayFiles → DayFiles → Type 0
IsThisOrOther files day = (day ≡ files) ⊎ IsOther files day

module _ (files : DayFiles) (are : AreDayNames files) (is_of : List ℕ → Bool) (s r p : List ℕ) (whole : is_of s ≡ true) where
  abbrev Q : List Step → Type 0
  Q = Awaits files is_of s r p

  abbrev Of : Option (List ℕ) → Type 0
  Of after = IfSome after (λ s. is_of s ≡ true)

  -- its own
  own : (past : List Step) → Q past → Q (stamping files ∷ past)
  own past has =
      let step = stamping files in
      let from = files.stamp.part in
      let to = files.stamp.path in
      record {
        records_are = still step past files.records.path (Some r) (not_renamed from to files.records.path (are.apart Records Stamp refl) (are.apart Records StampPart refl)) has.records_are;
        report_is = still step past files.report.path (Some p) (not_renamed from to files.report.path (are.apart Report Stamp refl) (are.apart Report StampPart refl)) has.report_is;
        stamp_may = ⊎_elim
            (λ gone. may_lost past gone has.stamp_may)
            (λ ready. may_renamed past ready has.stamp_may)
            has.part_is;
        part_is = inl (rw (are.apart StampPart Stamp refl, is_self from) refl);
      }
    where
      may_lost : (past : List Step) → now past files.stamp.part ≡ None → MayBeOf is_of past files.stamp.path → MayBeOf is_of (stamping files ∷ past) files.stamp.path
      may_lost past gone has after may = ⊎_elim
          (λ before. has after before)
          (λ shows. subst Of (sym (none_shown (stamping files ∷ past) _ after (rw (is_self files.stamp.path) gone) shows)) tt)
          (leaves (stamping files) past files.stamp.path after may)

      may_renamed : (past : List Step) → IsReady files.stamp.part s past → MayBeOf is_of past files.stamp.path → MayBeOf is_of (stamping files ∷ past) files.stamp.path
      may_renamed past ready has after may = ⊎_elim
          (λ before. has after before)
          (λ shows.
          let is = ready_renamed files.stamp.part files.stamp.path s past ready in
          let shown : after ≡ Some s = shows_file (stamping files ∷ past) _ is.file after is.leads is.stored shows ∙ ap (λ b. Some b) is.has in
          subst Of (sym shown) whole)
          (leaves (stamping files) past files.stamp.path after may)

  -- that of another
  other : (day : DayFiles) (past : List Step) → IsOther files day → Q past → Q (stamping day ∷ past)
  other day past apart has =
      let step = stamping day in
      let not = λ (name : Name). not_renamed day.stamp.part day.stamp.path (name_path files name) (apart name Stamp) (apart name StampPart) in
      record {
        records_are = still step past files.records.path (Some r) (not Records) has.records_are;
        report_is = still step past files.report.path (Some p) (not Report) has.report_is;
        stamp_may = λ after may. has.stamp_may after (quiet step past files.stamp.path after (untouched step past files.stamp.path (not Stamp)) may);
        part_is = ⊎_elim (λ gone. inl (untouched step past files.stamp.part (not StampPart) ∙ gone)) (λ ready. inr (ready_still step past files.stamp.part s (not StampPart) ready)) has.part_is;
      }

  any : (day : DayFiles) (past : List Step) → IsThisOrOther files day → Q past → Q (stamping day ∷ past)
  any day past which has = ⊎_elim (λ is. subst (λ d. Q (stamping d ∷ past)) (sym is) (own past has)) (λ apart. other day past apart has) which

  pub all_stamped : (days : List DayFiles) (past : List Step) → AllByRecursion (IsThisOrOther files) days → Q past → AtEachMoment Q past (reverse (map stamping days) ++ past)
  all_stamped [] past every has = done Q past past [] refl has
  all_stamped (day ∷ days) past every has =
      let first = any day past every.0 has in
      let rest = all_stamped days (stamping day ∷ past) every.1 first in
      subst (λ (l : List Step). AtEachMoment Q past l) (sym (last_first day days past)) (joined Q past (stamping day ∷ past) _ (done Q past (stamping day ∷ past) (stamping day ∷ []) refl (has, first)) rest)

-- what holds as long as something else does
follows : (P Q : List Step → Type 0) → ((past : List Step) → P past → Q past) → (old new : List Step) → AtEachMoment P old new → AtEachMoment Q old new
follows P Q so old new each = record { made = each.made; since = each.since; holds = go each.made each.holds }
  where
    go : (made : List Step) → Throughout P old made → Throughout Q old made
    go [] holds = so old holds
    go (step ∷ made) holds = (go made holds.0, so (step ∷ made ++ old) holds.1)

-- what holds at each moment of some steps holds after each of them
throughout : (P : List Step → Type 0) (old made : List Step) → AtEachMoment P old (made ++ old) → Throughout P old made
throughout P old made each = subst (λ (l : List Step). Throughout P old l) (append_cancel_right each.made made old (sym each.since)) each.holds

stored_first : (out reports : Path) (days : List DayFiles) (old : List Step)
    → reverse (FolderStored out ∷ FolderStored reports ∷ map stamping days) ++ old ≡ reverse (map stamping days) ++ (FolderStored reports ∷ FolderStored out ∷ old)
stored_first out reports days old = ap (λ (l : List Step). l ++ old) (reverse-append (FolderStored out ∷ FolderStored reports ∷ []) (map stamping days))
    ∙ append_assoc (reverse (map stamping days)) (FolderStored reports ∷ FolderStored out ∷ []) old

-- a name stays while others get theirs
unmoved : (files : DayFiles) (name : Name) (days : List DayFiles) (past : List Step) → AreOthers files days
    → now (reverse (map stamping days) ++ past) (name_path files name) ≡ now past (name_path files name)
unmoved files name [] past others = refl
unmoved files name (day ∷ days) past others =
    ap (λ (l : List Step). now l (name_path files name)) (last_first day days past)
    ∙ (unmoved files name days (stamping day ∷ past) others.1
    ∙ untouched (stamping day) past (name_path files name) (not_renamed day.stamp.part day.stamp.path (name_path files name) (others.0 name Stamp) (others.0 name StampPart)))

moved : (from to : Path) (past : List Step) → now (Renamed from to ∷ past) to ≡ now past from
moved from to past = rw (is_self to) refl

-- what comes before and after one of them
parted : (before : List DayFiles) (files : DayFiles) (after : List DayFiles) (past : List Step)
    → reverse (map stamping (before ++ files ∷ after)) ++ past ≡ reverse (map stamping after) ++ (stamping files ∷ (reverse (map stamping before) ++ past))
parted before files after past =
    ap (λ (l : List Step). reverse l ++ past) (map-append stamping before (files ∷ after))
    ∙ (ap (λ (l : List Step). l ++ past) (reverse-append (map stamping before) (map stamping (files ∷ after)))
    ∙ (append_assoc (reverse (map stamping (files ∷ after))) (reverse (map stamping before)) past
    ∙ last_first files after (reverse (map stamping before) ++ past)))

-- what comes before and after the stamp of a day
parted_by : (files : DayFiles) (out reports : Path) (days : List DayFiles) (old : List Step) (one : IsOneOf files days)
    → reverse (FolderStored out ∷ FolderStored reports ∷ map stamping days) ++ old
    ≡ reverse (map stamping one.after) ++ (stamping files ∷ (reverse (map stamping one.before) ++ (FolderStored reports ∷ FolderStored out ∷ old)))
parted_by files out reports days old one =
    let past : List Step = FolderStored reports ∷ FolderStored out ∷ old in
    stored_first out reports days old ∙ (ap (λ (l : List DayFiles). reverse (map stamping l) ++ past) one.are ∙ parted one.before files one.after past)

-- a stamp that is ready is seen then
pub stamped : (files : DayFiles) (out reports : Path) (s : List ℕ) (days : List DayFiles) (old : List Step) → IsOneOf files days → IsReady files.stamp.part s old
    → seen (reverse (FolderStored out ∷ FolderStored reports ∷ map stamping days) ++ old) files.stamp.path ≡ Some s
stamped files out reports s days old one ready =
    let past : List Step = FolderStored reports ∷ FolderStored out ∷ old in
    let mid : List Step = reverse (map stamping one.before) ++ past in
    let leads : now (reverse (map stamping one.after) ++ (stamping files ∷ mid)) files.stamp.path ≡ now old files.stamp.part =
    unmoved files Stamp one.after (stamping files ∷ mid) one.others_after
    ∙ (moved files.stamp.part files.stamp.path mid ∙ unmoved files StampPart one.before past one.others_before) in
    ap (λ (l : List Step). seen l files.stamp.path) (parted_by files out reports days old one)
    ∙ (ap (λ found. option_map (λ file. file.bytes) found) (leads ∙ ready.leads) ∙ ap (λ b. Some b) ready.has)

-- it is one of these days, or another
these : (files : DayFiles) (before after : List DayFiles) → AreOthers files before → AreOthers files after → AllByRecursion (IsThisOrOther files) (before ++ files ∷ after)
these files [] after one two = (inl refl, all_others after two)
  where
    all_others : (days : List DayFiles) → AreOthers files days → AllByRecursion (IsThisOrOther files) days
    all_others [] every = tt
    all_others (day ∷ days) every = (inr every.0, all_others days every.1)
these files (day ∷ before) after one two = (inr one.0, these files before after one.1 two)

module _ (is_own : (records report : List ℕ) → Bool) (is_of : (stamp records report : List ℕ) → Bool) (files : DayFiles) (are : AreDayNames files) (out reports : Path) (stand : StandInFolders out reports files)
    (s r p : List ℕ) (whole : is_of s r p ≡ true) where
  abbrev P : List Step → Type 0
  P = HasOwn is_own is_of files

  owned : (old : List Step) → IsToBeStamped files s r p old → P old → is_own r p ≡ true
  owned old awaits has = has.report (Some r) (Some p)
      (subst (λ x. MayLeave old files.records.path x) (seen_ready old files.records.path r awaits.named.records_are) (leaves_seen old files.records.path))
      (subst (λ x. MayLeave old files.report.path x) (seen_ready old files.report.path p awaits.named.report_is) (leaves_seen old files.report.path))

  abbrev stored : List Step → List Step
  stored old = FolderStored reports ∷ FolderStored out ∷ old

  -- what a crash may leave is of these before, and no more comes back
  stamps_of : (old : List Step) → IsToBeStamped files s r p old → P old → MayBeOf (λ s. is_of s r p) old files.stamp.path
  stamps_of old awaits has after may = has.stamp after (Some r) (Some p) may
      (subst (λ x. MayLeave old files.records.path x) (seen_ready old files.records.path r awaits.named.records_are) (leaves_seen old files.records.path))
      (subst (λ x. MayLeave old files.report.path x) (seen_ready old files.report.path p awaits.named.report_is) (leaves_seen old files.report.path))

  awaiting : (old : List Step) → IsToBeStamped files s r p old → P old → Awaits files (λ s. is_of s r p) s r p (stored old)
  awaiting old awaits has =
      let l1 = FolderStored out ∷ old in
      let store = FolderStored reports in
      record {
        records_are = still store l1 files.records.path (Some r) refl (ready_settled files.records.path out r old stand.records_in awaits.named.records_are);
        report_is = ready_settled files.report.path reports p l1 stand.report_in (ready_still (FolderStored out) old files.report.path p refl awaits.named.report_is);
        stamp_may = λ after may. stamps_of old awaits has after
            (quiet (FolderStored out) old files.stamp.path after refl (quiet store l1 files.stamp.path after refl may));
        part_is = inr (ready_still store l1 files.stamp.part s refl (ready_still (FolderStored out) old files.stamp.part s refl awaits.stamp_is));
      }

  pub stamping_all : (days : List DayFiles) (old : List Step) → IsOneOf files days → IsToBeStamped files s r p old → P old
      → Throughout P old (reverse (FolderStored out ∷ FolderStored reports ∷ map stamping days))
  stamping_all days old one awaits has =
      let l1 = FolderStored out ∷ old in
      let owns = owned old awaits has in
      let h1 = alone is_own is_of files (FolderStored out) old refl refl refl has in
      let h2 = alone is_own is_of files (FolderStored reports) l1 refl refl refl h1 in
      let stores = done P old (stored old) (FolderStored reports ∷ FolderStored out ∷ []) refl ((has, h1), h2) in
      let each = subst (λ l. AllByRecursion (IsThisOrOther files) l) (sym one.are) (these files one.before one.after one.others_before one.others_after) in
      let rest = follows (Awaits files (λ s. is_of s r p) s r p) P (λ past waits. has_all is_own is_of files r p past owns waits.stamp_may waits.records_are waits.report_is) (stored old) _
      (all_stamped files are (λ s. is_of s r p) s r p whole days (stored old) each (awaiting old awaits has)) in
      throughout P old (reverse (FolderStored out ∷ FolderStored reports ∷ map stamping days))
      (subst (λ (l : List Step). AtEachMoment P old l) (sym (stored_first out reports days old)) (joined P old (stored old) _ stores rest))

module _ (files : DayFiles) where
  -- the stamp of a day is seen, or cannot come back
  abbrev pub Shown : List Step → Type 0
  Shown past = Leaves past files.stamp.path None ⊎ ((bytes : List ℕ) × (seen past files.stamp.path ≡ Some bytes))

  pub shown_gone : (past : List Step) → Shown past → seen past files.stamp.path ≡ None → Leaves past files.stamp.path None
  shown_gone past shown unseen = ⊎_elim (λ gone. gone) (λ has. let some = has.1 in absurd (cc)) shown

  shown_still : (step : Step) (past : List Step) → touches step files.stamp.path ≡ false → Shown past → Shown (step ∷ past)
  shown_still step past not shown = ⊎_elim
      (λ gone. inl (still step past files.stamp.path None not gone))
      (λ has. inr (has.0, seen_still step past files.stamp.path not ∙ has.1))
      shown

  pub shown_fails : (past : List Step) → Shown past → Shown (Failed ∷ past)
  shown_fails past shown = shown_still Failed past refl shown

  -- what stands beside its name gets it, if something does
  shown_own : (past : List Step) → Leaves past files.stamp.path None → (found : Option File) → now past files.stamp.part ≡ found → Shown (stamping files ∷ past)
  shown_own past gone None is = inl (λ after may. ⊎_elim
      (λ before. gone after before)
      (λ shows. none_shown (stamping files ∷ past) _ after (moved files.stamp.part files.stamp.path past ∙ is) shows)
      (leaves (stamping files) past files.stamp.path after may))
  shown_own past gone (Some file) is = inr (file.bytes, ap (λ found. option_map (λ f. f.bytes) found) (moved files.stamp.part files.stamp.path past ∙ is))

  other_spares : (day : DayFiles) → IsOther files day → touches (stamping day) files.stamp.path ≡ false
  other_spares day apart = not_renamed day.stamp.part day.stamp.path files.stamp.path (apart Stamp Stamp) (apart Stamp StampPart)

  -- while others get theirs
  gone_others : (days : List DayFiles) (past : List Step) → AreOthers files days → Leaves past files.stamp.path None → Leaves (reverse (map stamping days) ++ past) files.stamp.path None
  gone_others [] past others gone = gone
  gone_others (day ∷ days) past others gone =
      subst (λ (l : List Step). Leaves l files.stamp.path None) (sym (last_first day days past))
      (gone_others days (stamping day ∷ past) others.1 (still (stamping day) past files.stamp.path None (other_spares day others.0) gone))

  shown_others : (days : List DayFiles) (past : List Step) → AreOthers files days → Shown past → AtEachMoment Shown past (reverse (map stamping days) ++ past)
  shown_others [] past others shown = done Shown past past [] refl shown
  shown_others (day ∷ days) past others shown =
      let first = shown_still (stamping day) past (other_spares day others.0) shown in
      let rest = shown_others days (stamping day ∷ past) others.1 first in
      subst (λ (l : List Step). AtEachMoment Shown past l) (sym (last_first day days past)) (joined Shown past (stamping day ∷ past) _ (done Shown past (stamping day ∷ past) (stamping day ∷ []) refl (shown, first)) rest)

  pub stamping_shown : (out reports : Path) (days : List DayFiles) (old : List Step) → IsOneOf files days → Leaves old files.stamp.path None
      → Throughout Shown old (reverse (FolderStored out ∷ FolderStored reports ∷ map stamping days))
  stamping_shown out reports days old one gone =
      let past : List Step = FolderStored reports ∷ FolderStored out ∷ old in
      let mid : List Step = reverse (map stamping one.before) ++ past in
      let gone1 = still (FolderStored out) old files.stamp.path None refl gone in
      let gone2 = still (FolderStored reports) (FolderStored out ∷ old) files.stamp.path None refl gone1 in
      let stores = done Shown old past (FolderStored reports ∷ FolderStored out ∷ []) refl ((inl gone, inl gone1), inl gone2) in
      let sooner = shown_others one.before past one.others_before (inl gone2) in
      let own = shown_own mid (gone_others one.before past one.others_before gone2) (now mid files.stamp.part) refl in
      let step = done Shown mid (stamping files ∷ mid) (stamping files ∷ []) refl (at_end Shown past mid sooner, own) in
      let later = shown_others one.after (stamping files ∷ mid) one.others_after own in
      let all = joined Shown old mid _ (joined Shown old past mid stores sooner) (joined Shown mid (stamping files ∷ mid) _ step later) in
      throughout Shown old (reverse (FolderStored out ∷ FolderStored reports ∷ map stamping days))
      (subst (λ (l : List Step). AtEachMoment Shown old l) (sym (parted_by files out reports days old one)) all)
