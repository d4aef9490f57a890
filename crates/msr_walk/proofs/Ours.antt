-- Days that wait, one after the other.
use Rattle.std.proofs.Common.{inl, inr, ◌≡◌, ◌≢◌, ◌⊎◌, ◌<◌, ◌+◌, ◌-◌, ⊎_elim, arith, ℕ, zero, suc, true, false, nat_eq, List, [], ◌∷◌, ◌++◌, length, length-append, length-drop, get_or, drop, reverse, take, refl, sym, ◌∙◌, ap, subst, append_assoc}
use Rattle.std.proofs.lemmas.Bool.{cases_Bool}
use Rattle.std.proofs.lemmas.List.{append-nil, drop_at, reverse-append, take-append-drop}
use Rattle.std.proofs.lemmas.Slice.Eq.{bytes_eq-Decides}
use Rattle.std.proofs.Math.Seq.{take_all}
use Rattle.std.specs.List.{AllByRecursion, ends_with}
use Rattle.std.specs.Str.{bytes_eq}
use Rattle.msr_folders.proofs.WalkedLemmas.{goes_none, goes_so}
use Rattle.msr_folders.specs.Days.{IsDay}
use Rattle.msr_folders.specs.Paths.{folder_of, joined}
use Rattle.msr_folders.specs.Walks.{HoldsAt}
use Rattle.msr_naming.specs.Naming.{IsOther}
use Rattle.msr_naming.specs.Promise.{stamp_paths}
use Rattle.msr_naming.specs.declared.batch.Waiting.{Waiting}
use Rattle.msr_naming.specs.declared.files.DayFiles.{DayFiles}
use Rattle.msr_options.specs.Tasks.{StandApart}
use Rattle.msr_options.specs.declared.task.Archiving.{Archiving}
use Rattle.msr_tree.proofs.Changes.{now_kept}
use Rattle.msr_tree.specs.Calls.{Goes}
use Rattle.msr_tree.specs.Steps.{ChangesOnly, IsNoneOf, Path, Step}
use Rattle.msr_walk.proofs.DayPaths.{long}
use Rattle.msr_walk.proofs.OtherDays.{part_apart}
use Rattle.msr_walk.proofs.Standing.{joined_some}
use Rattle.msr_walk.proofs.Waits.{all_but, all_so, none_waiting, of_days, waiting_apart, waiting_dropped, waiting_more, waiting_none, waiting_turned, waits_beside}
use Rattle.msr_walk.proofs.Working.{goes_settles_more, goes_settles_none, goes_settles_then, held_after, inputs_same, settles_none}
use Rattle.msr_walk.specs.Files.{HaveNames, files_of}
use Rattle.msr_walk.specs.Waiting.{AreOfDay, AreOfDaysAt, AreSome, AreWaiting, AreWaitingAt, IsNoneWaiting, SomeWait, TakenWaits, WaitsAs, files_waiting, parts_waiting}
use Rattle.msr_walk.specs.Kills.{day_names_in}
use Rattle.msr_walk.specs.Told.{DropsWaiting, SettlesNames}

module _ {C : Type 0} where
  pub of_day_at : (archive : Archiving) (days : List (Waiting C)) (i : ℕ) (day : Waiting C) → i < length days → day ≡ get_or days i day
      → AllByRecursion (AreOfDay archive) (files_waiting days) → AreOfDay archive day.files
  of_day_at archive [] i day lt is all = absurd (omega (arith, lt))
  of_day_at archive (first ∷ days) zero day lt is all = subst (λ (d : Waiting C). AreOfDay archive d.files) (sym is) all.0
  of_day_at archive (first ∷ days) (suc i) day lt is all = of_day_at archive days i day (omega (arith, lt)) is all.1

  pub none_of_part : (name : Path) (days : List (Waiting C)) (i : ℕ) (day : Waiting C) → i < length days → day ≡ get_or days i day
      → IsNoneOf name (parts_waiting days) → IsNoneOf name (day.files.stamp.part ∷ [])
  none_of_part name [] i day lt is none = absurd (omega (arith, lt))
  none_of_part name (first ∷ days) zero day lt is none = subst (λ (d : Waiting C). IsNoneOf name (d.files.stamp.part ∷ [])) (sym is) (none.0, tt)
  none_of_part name (first ∷ days) (suc i) day lt is none = none_of_part name days i day (omega (arith, lt)) is none.1

  -- so far
  pub all_more : (P : DayFiles → Type 0) (days : List (Waiting C)) (i : ℕ) (day : Waiting C) → i < length days → day ≡ get_or days i day
      → AllByRecursion P (files_waiting (take i days)) → P day.files → AllByRecursion P (files_waiting (take (i + 1) days))
  all_more P days i day lt is all one = subst (λ n. AllByRecursion P (files_waiting (take n days))) (let n : suc i ≡ i + 1 = omega arith in n) (go days i lt is all)
    where
      go : (list : List (Waiting C)) (k : ℕ) → k < length list → day ≡ get_or list k day → AllByRecursion P (files_waiting (take k list)) → AllByRecursion P (files_waiting (take (suc k) list))
      go [] k lt is all = absurd (omega (arith, lt))
      go (first ∷ list) zero lt is all = (subst (λ (d : Waiting C). P d.files) is one, tt)
      go (first ∷ list) (suc k) lt is all = (all.0, go list k (omega (arith, lt)) is all.1)

  -- names of stamps
  stamps_but : (name : Path) (day : Waiting C) (before after : List (Waiting C)) → IsNoneOf name (stamp_paths (files_waiting (before ++ day ∷ after)))
      → IsNoneOf name (stamp_paths (files_waiting (before ++ after))) × (bytes_eq name day.files.stamp.path ≡ false) × (bytes_eq name day.files.stamp.part ≡ false)
  stamps_but name day [] after none = (none.1.1, none.0, none.1.0)
  stamps_but name day (first ∷ before) after none = let rest = stamps_but name day before after none.1.1 in ((none.0, (none.1.0, rest.0)), rest.1, rest.2)

  stamps_turned : (name : Path) (days : List (Waiting C)) → IsNoneOf name (stamp_paths (files_waiting (reverse days))) → IsNoneOf name (stamp_paths (files_waiting days))
  stamps_turned name [] none = tt
  stamps_turned name (day ∷ days) none =
      let parts = stamps_but name day (reverse days) [] (subst (λ (l : List (Waiting C)). IsNoneOf name (stamp_paths (files_waiting l))) (reverse-append (day ∷ []) days) none) in
      (parts.1, (parts.2, stamps_turned name days (subst (λ (l : List (Waiting C)). IsNoneOf name (stamp_paths (files_waiting l))) (append-nil (reverse days)) parts.0)))

  pub parts_among : (name : Path) (days : List (Waiting C)) → IsNoneOf name (stamp_paths (files_waiting days)) → IsNoneOf name (parts_waiting days)
  parts_among name [] none = tt
  parts_among name (day ∷ days) none = (none.1.0, parts_among name days none.1.1)

  -- whichever steps were done
  pub of_days_at : (archive : Archiving) (folder : Path) (days : List (Waiting C)) (went : List Step → Type 0) → AreWaitingAt went archive folder days → AreOfDaysAt went archive days
  of_days_at archive folder days went wait past is = of_days archive folder (files_waiting days) past (wait past is).each

  pub wait_as : (archive : Archiving) (folder : Path) (days others : List (Waiting C)) (went : List Step → Type 0) → others ≡ days → AreWaitingAt went archive folder days → AreWaitingAt went archive folder others
  wait_as archive folder days others went is wait = subst (λ (l : List (Waiting C)). AreWaitingAt went archive folder l) (sym is) wait

  pub wait_none : (archive : Archiving) (folder : Path) (days : List (Waiting C)) (went : List Step → Type 0) → days ≡ [] → AreWaitingAt went archive folder days
  wait_none archive folder days went is = wait_as archive folder [] days went is (λ past at. waiting_none archive folder past)

  pub of_days_as : (archive : Archiving) (days others : List (Waiting C)) (went : List Step → Type 0) → others ≡ days → AreOfDaysAt went archive days → AreOfDaysAt went archive others
  of_days_as archive days others went is of = subst (λ (l : List (Waiting C)). AreOfDaysAt went archive l) (sym is) of

  module _ (archive : Archiving) (day : Waiting C) (ours : List (Waiting C)) (before after : List Step → Type 0) where
    -- it waits no more
    pub drops_waiting : (apart : StandApart archive.folders) (others : List (Waiting C)) → others ≡ ours → Goes before after (SettlesNames archive (day.files.stamp.part ∷ []))
        → TakenWaits before after archive day ours others
    drops_waiting apart others is goes = record {
      on = λ folder days wait past went.
          let sooner = goes.from past went in
          subst (λ (l : List (Waiting C)). AreWaiting archive folder (days ++ reverse l) past) (sym is)
          (waiting_dropped archive folder day days (reverse ours) sooner.0 past (inputs_same archive apart sooner.0 past sooner.2.works.does.within) sooner.2.only (wait sooner.0 sooner.1));
    }

  -- or waits on
  pub keeps_waiting : (archive : Archiving) (day : Waiting C) (ours others : List (Waiting C)) (went : List Step → Type 0) → others ≡ ours ++ day ∷ [] → TakenWaits went went archive day ours others
  keeps_waiting archive day ours others went is = record {
    on = λ folder days wait. subst (λ (l : List (Waiting C)). AreWaitingAt went archive folder (days ++ l)) (sym (ap reverse is ∙ reverse-append ours (day ∷ []))) wait;
  }

  -- none was taken yet
  pub begun : (archive : Archiving) (days ours : List (Waiting C)) (went : List Step → Type 0) → AreOfDaysAt went archive days → ours ≡ []
      → AreOfDaysAt went archive days × AreSome days (days ++ reverse ours) × SomeWait went went archive days (days ++ reverse ours)
      × Goes went went (SettlesNames archive (stamp_paths (files_waiting days)))
  begun archive days ours went of none =
      let same : days ++ reverse ours ≡ days = ap (λ l. days ++ reverse l) none ∙ append-nil days in (
        of,
        record { fewer = λ name clear. subst (λ (l : List (Waiting C)). IsNoneOf name (stamp_paths (files_waiting l))) (sym same) clear },
        record { on = λ folder held. subst (λ (l : List (Waiting C)). AreWaitingAt went archive folder l) (sym same) held },
        goes_settles_none archive (stamp_paths (files_waiting days)) went,
      )

  -- the last of some is taken
  module _ (archive : Archiving) (apart : StandApart archive.folders) (days0 days rest ours : List (Waiting C)) (day : Waiting C) (is : days ≡ rest ++ day ∷ []) where
    whole : days ++ reverse ours ≡ rest ++ day ∷ reverse ours
    whole = ap (λ l. l ++ reverse ours) is ∙ append_assoc rest (day ∷ []) (reverse ours)

    pub taken_of : (went : List Step → Type 0) → AreOfDaysAt went archive days → HoldsAt went (λ past. AreOfDay archive day.files)
    taken_of went of past at = (all_but (AreOfDay archive) day rest [] (subst (λ (l : List (Waiting C)). AllByRecursion (AreOfDay archive) (files_waiting l)) is (of past at))).1

    rest_of : (before after : List Step → Type 0) (Does : (old new : List Step) → Type 0) → Goes before after Does → AreOfDaysAt before archive days → AreOfDaysAt after archive rest
    rest_of before after Does goes of past went =
        let sooner = goes.from past went in
        subst (λ (l : List (Waiting C)). AllByRecursion (AreOfDay archive) (files_waiting l)) (append-nil rest)
        (all_but (AreOfDay archive) day rest [] (subst (λ (l : List (Waiting C)). AllByRecursion (AreOfDay archive) (files_waiting l)) is (of sooner.0 sooner.1))).0

    some_left : (others : List (Waiting C)) → (others ≡ ours ++ day ∷ []) ⊎ (others ≡ ours) → AreSome days0 (days ++ reverse ours) → AreSome days0 (rest ++ reverse others)
    some_left others which some = record {
      fewer = λ name none.
          let all = subst (λ (l : List (Waiting C)). IsNoneOf name (stamp_paths (files_waiting l))) whole (some.fewer name none) in
          ⊎_elim
          (λ kept. subst (λ (l : List (Waiting C)). IsNoneOf name (stamp_paths (files_waiting (rest ++ l)))) (sym (ap reverse kept ∙ reverse-append ours (day ∷ []))) all)
          (λ gone. subst (λ (l : List (Waiting C)). IsNoneOf name (stamp_paths (files_waiting (rest ++ reverse l)))) (sym gone) (stamps_but name day rest (reverse ours) all).0)
          which;
    }

    pub step_taken : (before mid after : List Step → Type 0) (others : List (Waiting C)) → AreOfDaysAt mid archive days → AreSome days0 (days ++ reverse ours)
        → SomeWait before mid archive days0 (days ++ reverse ours) → Goes before mid (SettlesNames archive (stamp_paths (files_waiting days0)))
        → (others ≡ ours ++ day ∷ []) ⊎ (others ≡ ours) → TakenWaits mid after archive day ours others → Goes mid after (SettlesNames archive (day.files.stamp.part ∷ []))
        → AreOfDaysAt after archive rest × AreSome days0 (rest ++ reverse others) × SomeWait before after archive days0 (rest ++ reverse others)
        × Goes before after (SettlesNames archive (stamp_paths (files_waiting days0)))
    step_taken before mid after others of some wait first which on goes = (
      rest_of mid after _ goes of,
      some_left others which some,
      record { on = λ folder held. on.on folder rest (subst (λ (l : List (Waiting C)). AreWaitingAt mid archive folder l) whole (wait.on folder held)) },
      goes_settles_then archive apart (stamp_paths (files_waiting days0)) before mid after first
          (goes_settles_more archive (day.files.stamp.part ∷ []) (stamp_paths (files_waiting days0)) mid after
          (λ name none. ((stamps_but name day rest (reverse ours) (subst (λ (l : List (Waiting C)). IsNoneOf name (stamp_paths (files_waiting l))) whole (some.fewer name none))).2, tt)) goes),
    )

  -- none is left
  module _ (days ours : List (Waiting C)) (none : days ≡ []) where
    left : days ++ reverse ours ≡ reverse ours
    left = ap (λ l. l ++ reverse ours) none

    pub some_ours : (days0 : List (Waiting C)) → AreSome days0 (days ++ reverse ours) → AreSome days0 ours
    some_ours days0 some = record { fewer = λ name clear. stamps_turned name ours (subst (λ (l : List (Waiting C)). IsNoneOf name (stamp_paths (files_waiting l))) left (some.fewer name clear)) }

    pub wait_ours : (archive : Archiving) (days0 : List (Waiting C)) (before after : List Step → Type 0) → SomeWait before after archive days0 (days ++ reverse ours) → SomeWait before after archive days0 ours
    wait_ours archive days0 before after wait = record {
      on = λ folder held past went. waiting_turned archive folder ours past (subst (λ (l : List (Waiting C)). AreWaiting archive folder l past) left (wait.on folder held past went));
    }

  -- all of them are settled
  pub settled_all : (archive : Archiving) (apart : StandApart archive.folders) (all days ours named released : List (Waiting C)) → days ≡ all → named ≡ ours → released ≡ ours → AreSome days ours
      → (before mid later after : List Step → Type 0) → Goes before mid (SettlesNames archive (stamp_paths (files_waiting days)))
      → Goes mid later (SettlesNames archive (stamp_paths (files_waiting named))) → Goes later after (SettlesNames archive (parts_waiting released))
      → Goes before after (SettlesNames archive (stamp_paths (files_waiting all)))
  settled_all archive apart all days ours named released is same too some before mid later after one two three =
      let names = stamp_paths (files_waiting days) in
      subst (λ (l : List (Waiting C)). Goes before after (SettlesNames archive (stamp_paths (files_waiting l)))) is
      (goes_settles_then archive apart names before mid after one
      (goes_settles_then archive apart names mid later after
      (goes_settles_more archive (stamp_paths (files_waiting named)) names mid later
      (λ name none. subst (λ (l : List (Waiting C)). IsNoneOf name (stamp_paths (files_waiting l))) (sym same) (some.fewer name none)) two)
      (goes_settles_more archive (parts_waiting released) names later after
      (λ name none. subst (λ (l : List (Waiting C)). IsNoneOf name (parts_waiting l)) (sym too) (parts_among name ours (some.fewer name none))) three)))

  pub none_after : (archive : Archiving) (path : Path) (days : List (Waiting C)) (Does : (old new : List Step) → Type 0) (before after : List Step → Type 0) → Goes before after Does
      → HoldsAt before (λ past. IsNoneWaiting archive path days) → HoldsAt after (λ past. IsNoneWaiting archive path days)
  none_after archive path days Does before after goes none = held_after (IsNoneWaiting archive path days) Does before after goes none

  -- another day, once those that wait are settled
  module _ (archive : Archiving) (apart : StandApart archive.folders) (path : Path) (day : Waiting C) (days : List (Waiting C)) where
    pub others_of : (went : List Step → Type 0) → HoldsAt went (WaitsAs archive path day.files) → HoldsAt went (λ past. IsNoneWaiting archive path days)
        → HoldsAt went (λ past. HaveNames archive.folders.out.now archive.folders.reports.now → AllByRecursion (λ files. IsOther files day.files) (files_waiting days))
    others_of went waits none past at have =
        let w = waits past at in
        subst (λ (f : DayFiles). AllByRecursion (λ files. IsOther files f) (files_waiting days)) (sym w.are) ((none past at).others have w.number)

    pub waits_settled : (before after : List Step → Type 0) → Goes before after (SettlesNames archive (stamp_paths (files_waiting days)))
        → HoldsAt before (WaitsAs archive path day.files) → HoldsAt before (λ past. IsNoneWaiting archive path days) → HoldsAt after (WaitsAs archive path day.files)
    waits_settled before after goes waits none past went =
        let sooner = goes.from past went in
        waits_beside archive path day.files (files_waiting days) sooner.0 past (inputs_same archive apart sooner.0 past sooner.2.works.does.within) sooner.2.only
        (others_of before waits none sooner.0 sooner.1) (waits sooner.0 sooner.1)

    -- it waits with them, if they are of its folder
    pub wait_more : (folder : Path) (others : List (Waiting C)) (went : List Step → Type 0) → IsDay path → folder ≡ folder_of path → (others ≡ days) ⊎ (others ≡ [])
        → HoldsAt went (WaitsAs archive path day.files) → HoldsAt went (λ past. IsNoneWaiting archive path days) → AreWaitingAt went archive folder others
        → AreWaitingAt went archive folder (others ++ day ∷ [])
    wait_more folder others went is beside which waits none wait past at =
        waiting_more archive folder path day others past is (sym beside) (waits past at)
        (λ have. ⊎_elim
        (λ same. subst (λ (l : List (Waiting C)). AllByRecursion (λ files. IsOther files day.files) (files_waiting l)) (sym same) (others_of went waits none past at have))
        (λ empty. subst (λ (l : List (Waiting C)). AllByRecursion (λ files. IsOther files day.files) (files_waiting l)) (sym empty) tt) which)
        (wait past at)

    -- or it waits no more
    pub wait_without : (folder : Path) (others : List (Waiting C)) (before after : List Step → Type 0) → (others ≡ days) ⊎ (others ≡ [])
        → HoldsAt before (WaitsAs archive path day.files) → HoldsAt before (λ past. IsNoneWaiting archive path days) → AreWaitingAt before archive folder others
        → Goes before after (SettlesNames archive (day.files.stamp.part ∷ [])) → AreWaitingAt after archive folder others
    wait_without folder others before after which waits none wait goes = ⊎_elim
        (λ same. λ past went.
        let sooner = goes.from past went in
        let held : AreWaiting archive folder days sooner.0 = subst (λ (l : List (Waiting C)). AreWaiting archive folder l sooner.0) same (wait sooner.0 sooner.1) in
        subst (λ (l : List (Waiting C)). AreWaiting archive folder l past) (sym same)
        (waiting_apart archive folder day days sooner.0 past (inputs_same archive apart sooner.0 past sooner.2.works.does.within) sooner.2.only (others_of before waits none sooner.0 sooner.1) held))
        (λ empty. wait_none archive folder others after empty)
        which

    -- it is a day of the archive
    pub of_waits : (went : List Step → Type 0) → IsDay path → HoldsAt went (WaitsAs archive path day.files) → HoldsAt went (λ past. AreOfDay archive day.files)
    of_waits went is waits past at = let w = waits past at in record { path = path; day = is; number = w.number; are = w.are }

-- what ends in a path
ends_self : (front path : Path) → ends_with nat_eq (front ++ path) path ≡ true
ends_self front path =
    let same : drop (length (front ++ path) - length path) (front ++ path) ≡ path
    = ap (λ n. drop n (front ++ path)) (let n : length (front ++ path) - length path ≡ length front = omega (arith, length-append front path) in n) ∙ drop_at front path (length front) refl in
    ap (λ l. bytes_eq path l) same ∙ (bytes_eq-Decides path path).1 refl

-- what does not end in the last bytes of a path does not end in it
last_lacks : (name path : Path) (n : ℕ) → ends_with nat_eq name (drop n path) ≡ false → ends_with nat_eq name path ≡ false
last_lacks name path n gone = elim (cases_Bool (ends_with nat_eq name path)) [
  | inl is ↦
      let k : ℕ = length name - length path in
      let tail : path ≡ drop k name = (bytes_eq-Decides path (drop k name)).0 is in
      let whole : name ≡ (take k name ++ take n path) ++ drop n path =
      sym (take-append-drop k name) ∙ (ap (λ l. take k name ++ l) (sym tail ∙ sym (take-append-drop n path)) ∙ sym (append_assoc (take k name) (take n path) (drop n path))) in
      let yes : ends_with nat_eq name (drop n path) ≡ true = ap (λ l. ends_with nat_eq l (drop n path)) whole ∙ ends_self (take k name ++ take n path) (drop n path) in
      absurd cc
  | inr not ↦ not
]

pub not_ending : (name given path bytes : Path) (n : ℕ) → given ≡ name → bytes ≡ path
    → (ends_with nat_eq given (take (length bytes - n) (drop n bytes)) ≡ false) ⊎ (ends_with nat_eq given bytes ≡ false) → ends_with nat_eq name path ≡ false
not_ending name given path bytes n is same which =
    let whole : take (length bytes - n) (drop n bytes) ≡ drop n bytes = take_all (length bytes - n) (drop n bytes) (omega (arith, length-drop {A = ℕ})) in
    let not : ends_with nat_eq given bytes ≡ false = ⊎_elim (λ gone. last_lacks given bytes n (ap (λ l. ends_with nat_eq given l) (sym whole) ∙ gone)) (λ no. no) which in
    subst (λ p. ends_with nat_eq name p ≡ false) same (subst (λ l. ends_with nat_eq l bytes ≡ false) is not)

ends_joined : (folder path : Path) → folder ≢ [] → 0 < length path → ends_with nat_eq (joined folder path) path ≡ true
ends_joined folder path named some =
    ap (λ l. ends_with nat_eq l path) (joined_some folder path named some ∙ sym (append_assoc folder (47 ∷ []) path)) ∙ ends_self (folder ++ 47 ∷ []) path

-- a day that is to be done
module _ {C : Type 0} (archive : Archiving) (apart : StandApart archive.folders) (path : Path) (day : IsDay path) (days : List (Waiting C)) where
  unlike : HaveNames archive.folders.out.now archive.folders.reports.now → (list : List DayFiles) → AllByRecursion (λ files. ends_with nat_eq files.records.path path ≡ false) list
      → AllByRecursion (λ files. files.records.path ≢ (day_names_in archive path).records) list
  unlike have list none = all_so _ _ list (λ files not is.
      let yes : ends_with nat_eq files.records.path path ≡ true = ap (λ l. ends_with nat_eq l path) is ∙ ends_joined archive.folders.out.now path have.out_some (omega (arith, long path day.0 day.1)) in
      absurd cc) none

  pub none_among : (folder : Path) (went : List Step → Type 0) → AllByRecursion (λ files. ends_with nat_eq files.records.path path ≡ false) (files_waiting days)
      → AreWaitingAt went archive folder days → HoldsAt went (λ past. IsNoneWaiting archive path days)
  none_among folder went none wait past at = none_waiting archive apart folder path day days past (λ have. unlike have (files_waiting days) none) (wait past at)

  -- nothing was done for it
  pub drops_none : (before : List Step → Type 0) → Goes before before (DropsWaiting archive path)
  drops_none before = goes_none _ before (λ past. record { works = (settles_none archive [] past).works; still = λ have. (refl, refl, refl) })

  -- none of its names is beside that of a stamp
  parts_aside : (have : HaveNames archive.folders.out.now archive.folders.reports.now) (list : List (Waiting C)) → AllByRecursion (AreOfDay archive) (files_waiting list)
      → IsNoneOf (day_names_in archive path).records (parts_waiting list) × IsNoneOf (day_names_in archive path).report (parts_waiting list)
      × IsNoneOf (day_names_in archive path).stamp (parts_waiting list)
  parts_aside have [] all = (tt, tt, tt)
  parts_aside have (first ∷ list) all =
      let rest = parts_aside have list all.1 in
      let aside = part_apart archive.folders apart have path all.0.path day all.0.day 0 all.0.number in
      let here = λ (name : Path) (not : bytes_eq name (files_of (day_names_in archive all.0.path) all.0.number).stamp.part ≡ false).
      subst (λ (f : DayFiles). bytes_eq name f.stamp.part ≡ false) (sym all.0.are) not in
      ((here _ aside.0, rest.0), (here _ aside.1, rest.1), (here _ aside.2, rest.2))

  pub drops_all : (released : List (Waiting C)) (before after : List Step → Type 0) → released ≡ days → AreOfDaysAt before archive days → Goes before after (SettlesNames archive (parts_waiting released))
      → Goes before after (DropsWaiting archive path)
  drops_all released before after is of goes = goes_so _ _ before after (λ old new went settles. record {
    works = settles.works;
    still = λ have.
        let only : ChangesOnly (parts_waiting days) old new = subst (λ (l : List (Waiting C)). ChangesOnly (parts_waiting l) old new) is settles.only in
        let aside = parts_aside have days (of old went) in
        (now_kept (parts_waiting days) _ old new aside.0 only, now_kept (parts_waiting days) _ old new aside.1 only, now_kept (parts_waiting days) _ old new aside.2 only);
  }) goes

  pub none_of_none : (went : List Step → Type 0) → days ≡ [] → HoldsAt went (λ past. IsNoneWaiting archive path days)
  none_of_none went is past at = record { others = λ have number. subst (λ (l : List (Waiting C)). AllByRecursion (λ files. IsOther files (files_of (day_names_in archive path) number)) (files_waiting l)) (sym is) tt }
