-- A walk, put together from visits.
use Rattle.std.proofs.Common.{◌≡◌, ◌≢◌, ◌<◌, ◌==◌, inl, inr, ⊎_elim, ℕ, zero, suc, ◌-◌, Bool, true, false, if◌then◌else◌, List, [], ◌∷◌, ◌++◌, refl, sym, ◌∙◌, ap, subst, append_assoc, arith, get_or, length, IfErr, IfOk, Ok, Err, OnOk, Result, Option, None, Some, unwrap_or}
use Rattle.std.proofs.lemmas.Bool.Decides.{Decides-eqb}
use Rattle.std.proofs.lemmas.List.{append-nil}
use Rattle.std.specs.Borrow.{Bor}
use Rattle.std.specs.Prelude.{String, string_bytes}
use Rattle.msr_sds.specs.Folders.{IsDepthBelow}
use Rattle.msr_devices.specs.Device.{CanCountCall, Device}
use Rattle.msr_devices.specs.declared.fault.DeviceFault.{DeviceFault}
use Rattle.msr_devices.proofs.Chaining.{steady_can_count}
use Rattle.msr_tree.specs.Calls.{Goes}
use Rattle.msr_tree.specs.Listing.{IsListing, IsTold, ListsFolder, has_folder, is_there, kind_now, listed, unlisted_after}
use Rattle.msr_tree.specs.Steps.{Failed, Path, Step, Unlisted}
use Rattle.msr_tree.specs.declared.kind.FileKind.{FileKind}
use Rattle.msr_tree.specs.declared.tree.TreeFault.{TreeFault}
use Rattle.msr_tree.specs.declared.tree.TreeFault.TheVariants as tree_fault
use Rattle.msr_tree.specs.declared.kind.FileKind.TheVariants.{Folder, Gone, Other}
use Rattle.msr_folders.specs.Entries.{AreEntriesBelow, AreEntries, AreEntriesBetween, AreEntriesOf, AreOfEntry, Entry, ForEach, IsMoment, IsSameWithin, Left, Passed, Visit, WithoutList, unlisted_in}
use Rattle.msr_folders.specs.Opening.{AreSoFar, IsKindAt, OpensFolder}
use Rattle.msr_folders.specs.declared.opened.Opened.{Opened}
use Rattle.msr_folders.specs.Paths.{below, joined}
use Rattle.msr_folders.specs.Walks.{AreSaid, HoldsAt, HoldsListed, IsWalked, TellsVisit, TellsWalk, VisitDoes, VisitLaws}
use Rattle.msr_folders.proofs.EntryLemmas.{earlier, entries_now, entries_seen, entry_seen, later, for_each_as, for_each_push, unlisted_append}

-- one call, and then another
pub goes_then : (One Two Both : (old new : List Step) → Type 0) (before mid after : List Step → Type 0)
    → ((old middle new : List Step) → One old middle → Two middle new → Both old new)
    → Goes before mid One → Goes mid after Two → Goes before after Both
goes_then One Two Both before mid after so one two = record {
  from = λ new went.
      let later = two.from new went in
      let sooner = one.from later.0 later.1 in
      (sooner.0, sooner.1, so sooner.0 later.0 new sooner.2 later.2);
}

-- the same in other words, of steps that may have been done before
pub goes_so : (One Two : (old new : List Step) → Type 0) (before after : List Step → Type 0)
    → ((old new : List Step) → before old → One old new → Two old new) → Goes before after One → Goes before after Two
goes_so One Two before after so goes = record {
  from = λ new went. let sooner = goes.from new went in (sooner.0, sooner.1, so sooner.0 new sooner.1 sooner.2);
}

-- nothing was done
pub goes_none : (Does : (old new : List Step) → Type 0) (before : List Step → Type 0) → ((past : List Step) → Does past past) → Goes before before Does
goes_none Does before still = record { from = λ new went. (new, went, still new) }

-- This was said of a visit, between two moments.
pub record IsSaidBetween {L : Type 0} (Says : (old new : List Step) → Visit → List L → Type 0) (Does : (old new : List Step) → Type 0)
    (old new : List Step) (visit : Visit) (lines : List L) : Type 0 where
  pub from : List Step
  pub to : List Step
  pub before : Does old from
  pub says : Says from to visit lines
  pub after : Does to new

-- the same was said where less is known of what was done
pub said_as : {L : Type 0} (Says : (old new : List Step) → Visit → List L → Type 0) (One Two Rests Leaves : (old new : List Step) → Type 0)
    → ((old new : List Step) → One old new → Two old new) → ((old new : List Step) → Rests old new → Leaves old new)
    → (old new : List Step) (visits : List Visit) (lines : List L) → AreSaid Says One Rests old new visits lines → AreSaid Says Two Leaves old new visits lines
said_as Says One Two Rests Leaves so rests old new [] lines said = (said.0, rests old new said.1)
said_as Says One Two Rests Leaves so rests old new (visit ∷ visits) lines said =
    let first = said.3 in (
      said.0,
      said.1,
      said.2,
      record { from = first.from; before = rests old first.from first.before; does = so first.from said.0 first.does; says = first.says },
      said_as Says One Two Rests Leaves so rests said.0 new visits said.2 said.4,
      said.5,
    )

module _ {L : Type 0} (Says : (old new : List Step) → Visit → List L → Type 0) (Does Between : (old new : List Step) → Type 0)
    (onward : (old mid new : List Step) → Does old mid → Does mid new → Does old new) (resting : (old new : List Step) → Between old new → Does old new) where
  -- what is done by visits, one after another
  pub said_does : (old new : List Step) (visits : List Visit) (lines : List L) → AreSaid Says Does Between old new visits lines → Does old new
  said_does old new [] lines said = resting old new said.1
  said_does old new (visit ∷ visits) lines said =
      let first = said.3 in
      onward old said.0 new (onward old first.from said.0 (resting old first.from first.before) first.does) (said_does said.0 new visits said.2 said.4)

  -- what was said of each visit was so between these moments
  pub said_each : (old new : List Step) (visits : List Visit) (lines : List L) → AreSaid Says Does Between old new visits lines
      → ForEach (IsSaidBetween Says Does old new) visits lines
  said_each old new [] lines said = said.0
  said_each old new (visit ∷ visits) lines said =
      let first = said.3 in
      let before = resting old first.from first.before in
      let done = onward old first.from said.0 before first.does in (
        said.1,
        said.2,
        record { from = first.from; to = said.0; before = before; says = first.says; after = said_does said.0 new visits said.2 said.4 },
        for_each_as (IsSaidBetween Says Does said.0 new) (IsSaidBetween Says Does old new) visits said.2
            (λ item part is. record { from = is.from; to = is.to; before = onward old said.0 is.from done is.before; says = is.says; after = is.after })
            (said_each said.0 new visits said.2 said.4),
        said.5,
      )

-- what is told of an entry that is no folder
pub entry_alone : (Since : (past at : List Step) → Type 0) (past : List Step) → Since past past → (root path : Path) (levels : ℕ) (kind : FileKind)
    → (0 < levels → kind ≢ Folder) → (0 < levels → IsTold past (joined root path) kind)
    → (levels ≡ 0 → kind ≡ Other) → AreOfEntry Since past root levels path (Entry path kind ∷ [])
entry_alone Since past still root path zero kind alone told none = ap (λ k. Entry path k ∷ []) (none refl)
entry_alone Since past still root path (suc levels) kind alone told none = ⊎_elim
    (λ folder. absurd (alone (omega arith) folder))
    (λ is. inr (record {
      at = past;
      since = still;
      alone = no_folder (alone (omega arith)) is;
      as_it_was = ap (λ k. Entry path k ∷ []) is;
    }))
    (told (omega arith))
  where
    no_folder : kind ≢ Folder → kind ≡ kind_now past (joined root path) → has_folder past (joined root path) ≡ false
    no_folder apart is = by (has_folder past (joined root path)) refl
      where
        by : (test : Bool) → has_folder past (joined root path) ≡ test → test ≡ false
        by false e = refl
        by true e = absurd (apart (is ∙ ap (λ f. if f then Folder else if is_there past (joined root path) then Other else Gone) e))

-- the entries of a folder are those of an entry
pub folder_entry : (Since : (past at : List Step) → Type 0) (past : List Step) (root path : Path) (levels : ℕ) (visits : List Visit) → 0 < levels
    → AreEntries Since past root (levels - 1) path visits → AreOfEntry Since past root levels path visits
folder_entry Since past root path zero visits some are = absurd (omega arith)
folder_entry Since past root path (suc levels) visits some are =
    let less : suc levels - 1 ≡ levels = omega arith in
    inl (subst (λ n. AreEntries Since past root n path visits) less are)

-- a call that gave no list
abbrev pub IsUnlisted : (place : Path) → (old new : List Step) → Type 0
IsUnlisted place old new = (left : List Step) × (left ≡ Unlisted place ∷ old) × (new ≡ Failed ∷ left)

without : (place : Path) (old new : List Step) → IsUnlisted place old new → new ≡ Failed ∷ Unlisted place ∷ old
without place old new is = is.2 ∙ ap (λ l. Failed ∷ l) is.1

pub on_ok_as : {A E : Type 0} {P Q : Type 0} (result : Result A E) → (P → Q) → OnOk result P → OnOk result Q
on_ok_as (Ok x) so p = so p
on_ok_as (Err why) so p = tt

pub if_ok_as : {A E : Type 0} {P Q : A → Type 0} (result : Result A E) → ((x : A) → P x → Q x) → IfOk result P → IfOk result Q
if_ok_as (Ok x) so p = so x p
if_ok_as (Err why) so p = tt

pub if_err_as : {A E : Type 0} {P Q : E → Type 0} (result : Result A E) → ((why : E) → P why → Q why) → IfErr result P → IfErr result Q
if_err_as (Ok x) so p = tt
if_err_as (Err why) so p = so why p

-- the name of an entry among all
pub name_at : {Z : Type 0} (items : List (String Z)) (i : ℕ) (item : String Z) → i < length items → get_or items i item ≡ item → get_or (listed items) i [] ≡ string_bytes item
name_at [] i item lt is = absurd (omega (arith, lt))
name_at (first ∷ items) zero item lt is = ap (λ s. string_bytes s) is
name_at (first ∷ items) (suc i) item lt is = name_at items i item (omega (arith, lt)) is

none_in : {A : Type 0} (items : List A) → length items ≡ 0 → items ≡ []
none_in [] is = refl
none_in (item ∷ items) is = absurd (omega (arith, is))

pub is_nothing : {A : Type 0} (items : List A) (answer : Bool) → answer ≡ (length items == 0) → answer ≡ true → items ≡ []
is_nothing items answer is empty = none_in items ((Decides-eqb (length items) 0).0 (sym is ∙ empty))

module _ {V L T : Type 0} (tells : V → List L → (out0 out : Device) → (tally0 tally : T) → Type 0)
    (stops : V → (out0 out : Device) → DeviceFault → Type 0) (says : V → (old new : List Step) → Visit → List L → Type 0)
    (does : V → Bool → (old new : List Step) → Type 0) (between : V → (old new : List Step) → Type 0) (listless : V → Type 0)
    (laws : VisitLaws tells stops does between) (visitor : V) (root : Path) where
  abbrev Walk : (Are : (old new : List Step) → List Visit → Type 0) (before after : List Step → Type 0) (out0 out : Device) (tally0 tally : T) → Type 0
  Walk Are before after out0 out tally0 tally = TellsWalk (tells visitor) (says visitor) (does visitor true) (between visitor) (listless visitor) root Are before after out0 out tally0 tally

  abbrev Visited : Visit → (before after : List Step → Type 0) (out0 out : Device) (tally0 tally : T) → Type 0
  Visited visit before after out0 out tally0 tally = TellsVisit (tells visitor) (says visitor) (does visitor true) (listless visitor) visit before after out0 out tally0 tally

  abbrev Moment : (new past at : List Step) → Type 0
  Moment new past at = IsMoment (does visitor true) new past at

  abbrev SoFar : (levels : ℕ) → (folder : Path) → (names taken : List Path) → (old new : List Step) → List Visit → Type 0
  SoFar levels folder names taken old new visits = AreSoFar (Moment new) root levels folder names taken old visits

  abbrev OfFolder : (levels : ℕ) → (folder : Path) → (old new : List Step) → List Visit → Type 0
  OfFolder levels folder old new visits = AreEntries (Moment new) old root levels folder visits

  abbrev OfEntry : (levels : ℕ) → (path : Path) → (old new : List Step) → List Visit → Type 0
  OfEntry levels path old new visits = AreOfEntry (Moment new) old root levels path visits

  abbrev OfFolders : List (Bor Path) → (old new : List Step) → List Visit → Type 0
  OfFolders folders old new visits = ForEach (AreEntriesBelow (Moment new) old root) folders visits

  abbrev Said : (old new : List Step) → List Visit → List L → Type 0
  Said old new visits lines = AreSaid (says visitor) (does visitor true) (between visitor) old new visits lines

  -- something before visits, of which nothing is told
  said_before : (old mid new : List Step) (visits : List Visit) (lines : List L) → between visitor old mid → Said mid new visits lines → Said old new visits lines
  said_before old mid new [] lines rests said = (said.0, laws.rests_on visitor old mid new rests said.1)
  said_before old mid new (visit ∷ visits) lines rests said =
      let first = said.3 in (
        said.0,
        said.1,
        said.2,
        record { from = first.from; before = laws.rests_on visitor old mid first.from rests first.before; does = first.does; says = first.says },
        said.4,
        said.5,
      )

  -- visits, and then more
  said_more : (old mid new : List Step) (visits more : List Visit) (lines others : List L) → Said old mid visits lines → Said mid new more others
      → Said old new (visits ++ more) (lines ++ others)
  said_more old mid new [] more lines others none said =
      subst (λ l. Said old new more (l ++ others)) (sym none.0) (said_before old mid new more others none.1 said)
  said_more old mid new (visit ∷ visits) more lines others one two = (
    one.0,
    one.1,
    one.2 ++ others,
    one.3,
    said_more one.0 mid new visits more one.2 others one.4 two,
    ap (λ l. l ++ others) one.5 ∙ append_assoc one.1 one.2 others,
  )

  -- one visit
  said_one : (old new : List Step) (visit : Visit) (lines : List L) → does visitor true old new → says visitor old new visit lines → Said old new (visit ∷ []) lines
  said_one old new visit lines done said = (
    new,
    lines,
    [],
    record { from = old; before = laws.rests visitor old; does = done; says = said },
    (refl, laws.rests visitor new),
    sym (append-nil lines),
  )

  -- something after visits, of which nothing is told
  said_after : (old mid new : List Step) (visits : List Visit) (lines : List L) → Said old mid visits lines → between visitor mid new → Said old new visits lines
  said_after old mid new [] lines said rests = (said.0, laws.rests_on visitor old mid new said.1 rests)
  said_after old mid new (visit ∷ visits) lines said rests = (said.0, said.1, said.2, said.3, said_after said.0 mid new visits said.2 said.4 rests, said.5)

  walked_more : (One Two Both : (old new : List Step) → List Visit → Type 0) (visits more : List Visit) (lines others : List L) (old mid new : List Step)
      → ((old mid new : List Step) (visits more : List Visit) → does visitor true old mid → does visitor true mid new → One old mid visits → Two mid new more → Both old new (visits ++ more))
      → IsWalked (says visitor) (does visitor true) (between visitor) (listless visitor) root One visits lines old mid → IsWalked (says visitor) (does visitor true) (between visitor) (listless visitor) root Two more others mid new
      → IsWalked (says visitor) (does visitor true) (between visitor) (listless visitor) root Both (visits ++ more) (lines ++ others) old new
  walked_more One Two Both visits more lines others old mid new so one two = record {
    are = so old mid new visits more one.does two.does one.are two.are;
    says = said_more old mid new visits more lines others one.says two.says;
    does = laws.onward visitor true old mid new one.does two.does;
    unlisted = λ none. two.unlisted none ∙ (ap (λ l. l ++ unlisted_in root more) (one.unlisted none)
        ∙ (append_assoc (unlisted_after old) (unlisted_in root visits) (unlisted_in root more)
        ∙ ap (λ l. unlisted_after old ++ l) (sym (unlisted_append root visits more))));
  }

  -- one part of a walk, and then another
  pub walk_more : (One Two Both : (old new : List Step) → List Visit → Type 0) (before mid after : List Step → Type 0) (out0 out1 out : Device) (tally0 tally1 tally : T)
      → ((old mid new : List Step) (visits more : List Visit) → does visitor true old mid → does visitor true mid new → One old mid visits → Two mid new more → Both old new (visits ++ more))
      → Walk One before mid out0 out1 tally0 tally1 → Walk Two mid after out1 out tally1 tally → Walk Both before after out0 out tally0 tally
  walk_more One Two Both before mid after out0 out1 out tally0 tally1 tally so one two = record {
    visits = one.visits ++ two.visits;
    lines = one.lines ++ two.lines;
    told = laws.more visitor one.lines two.lines out0 out1 out tally0 tally1 tally one.told two.told;
    goes = goes_then _ _ _ before mid after (λ old middle new first second. walked_more One Two Both one.visits two.visits one.lines two.lines old middle new so first second) one.goes two.goes;
  }

  -- what is done of which nothing is told
  pub walk_quiet : (Are : (old new : List Step) → List Visit → Type 0) (before after : List Step → Type 0) (out0 out : Device) (tally0 tally : T)
      → ((old new : List Step) → after new → does visitor true old new → Are old new []) → tells visitor [] out0 out tally0 tally
      → Goes before after (VisitDoes (between visitor) (listless visitor)) → Walk Are before after out0 out tally0 tally
  walk_quiet Are before after out0 out tally0 tally so told goes = record {
    visits = [];
    lines = [];
    told = told;
    goes = record {
      from = λ new went.
          let sooner = goes.from new went in
          let done = laws.resting visitor sooner.0 new sooner.2.does in (
            sooner.0,
            sooner.1,
            record {
              are = so sooner.0 new went done;
              says = (refl, sooner.2.does);
              does = done;
              unlisted = λ none. sooner.2.lists_none none ∙ sym (append-nil (unlisted_after sooner.0));
            },
          );
    };
  }

  -- before the first visit
  pub walk_none : (Before : (old new : List Step) → Type 0) (Are : (old new : List Step) → List Visit → Type 0) (before after : List Step → Type 0) (out : Device) (tally : T)
      → ((old new : List Step) → Before old new → (new ≡ old) × Are old new [])
      → Goes before after Before → Walk Are before after out out tally tally
  walk_none Before Are before after out tally so goes = record {
    visits = [];
    lines = [];
    told = laws.none visitor out tally;
    goes = goes_so _ _ before after (λ old new went first.
        let is = so old new first in
        record {
          are = is.1;
          says = (refl, subst (λ l. between visitor old l) (sym is.0) (laws.rests visitor old));
          does = subst (λ l. does visitor true old l) (sym is.0) (laws.still visitor old);
          unlisted = λ none. ap unlisted_after is.0 ∙ sym (append-nil (unlisted_after old));
        }) goes;
  }

  -- one visit, of which no folder without a list is told
  pub walk_visit : (Are : (old new : List Step) → List Visit → Type 0) (visit : Visit) (before after : List Step → Type 0) (out0 out : Device) (tally0 tally : T)
      → unlisted_in root (visit ∷ []) ≡ []
      → ((old new : List Step) → before old → does visitor true old new → Are old new (visit ∷ []))
      → Visited visit before after out0 out tally0 tally → Walk Are before after out0 out tally0 tally
  walk_visit Are visit before after out0 out tally0 tally listed so made = record {
    visits = visit ∷ [];
    lines = made.lines;
    told = made.told;
    goes = goes_so _ _ before after (λ old new went is. record {
      are = so old new went is.done.does;
      says = said_one old new visit made.lines is.done.does is.says;
      does = is.done.does;
      unlisted = λ none. is.done.lists_none none ∙ (sym (append-nil (unlisted_after old)) ∙ ap (λ l. unlisted_after old ++ l) (sym listed));
    }) made.goes;
  }

  -- a folder that has no list
  pub walk_unlisted : (levels : ℕ) (folder place : Path) (before mid after : List Step → Type 0) (out0 out : Device) (tally0 tally : T)
      → place ≡ joined root folder
      → Goes before mid (IsUnlisted place)
      → Visited (WithoutList folder) mid after out0 out tally0 tally
      → Walk (OfFolder levels folder) before after out0 out tally0 tally
  walk_unlisted levels folder place before mid after out0 out tally0 tally at lists visit = record {
    visits = WithoutList folder ∷ [];
    lines = visit.lines;
    told = visit.told;
    goes = goes_then _ _ _ before mid after (λ old middle new fails is.
        let so = without place old middle fails in
        let rests = subst (λ l. between visitor old l) (sym so) (laws.unlisted visitor old place) in
        record {
          are = inl refl;
          says = said_before old middle new (WithoutList folder ∷ []) visit.lines rests (said_one middle new (WithoutList folder) visit.lines is.done.does is.says);
          does = laws.onward visitor true old middle new (laws.resting visitor old middle rests) is.done.does;
          unlisted = λ none. is.done.lists_none none ∙ (ap unlisted_after so ∙ ap (λ p. unlisted_after old ++ p ∷ []) at);
        }) lists visit.goes;
  }

  -- the same walk, seen another way
  pub walk_as : (Are Seen : (old new : List Step) → List Visit → Type 0) (before after : List Step → Type 0) (out0 out : Device) (tally0 tally : T)
      → ((old new : List Step) (visits : List Visit) → Are old new visits → Seen old new visits) → Walk Are before after out0 out tally0 tally → Walk Seen before after out0 out tally0 tally
  walk_as Are Seen before after out0 out tally0 tally so walk = record {
    visits = walk.visits;
    lines = walk.lines;
    told = walk.told;
    goes = goes_so _ _ before after (λ old new went is. record { are = so old new walk.visits is.are; says = is.says; does = is.does; unlisted = is.unlisted }) walk.goes;
  }

  -- a walk, after something of which nothing is told
  walk_after : (Are Seen : (old new : List Step) → List Visit → Type 0) (before mid after : List Step → Type 0) (out0 out1 out : Device) (tally0 tally1 tally : T)
      → ((old mid new : List Step) (visits : List Visit) → does visitor true old mid → Are mid new visits → Seen old new visits)
      → tells visitor [] out0 out1 tally0 tally1 → Goes before mid (VisitDoes (between visitor) (listless visitor))
      → Walk Are mid after out1 out tally1 tally → Walk Seen before after out0 out tally0 tally
  walk_after Are Seen before mid after out0 out1 out tally0 tally1 tally so told goes walk =
      walk_more (λ old new visits. visits ≡ []) Are Seen before mid after out0 out1 out tally0 tally1 tally
      (λ old middle new visits more done next none are. subst (λ l. Seen old new (l ++ more)) (sym none) (so old middle new more done are))
      (walk_quiet (λ old new visits. visits ≡ []) before mid out0 out1 tally0 tally1 (λ old new went done. refl) told goes) walk

  -- a folder that is left alone
  pub opens_passed : (levels : ℕ) (folder : Path) (before after : List Step → Type 0) (out0 out : Device) (tally0 tally : T)
      → Visited (Passed folder) before after out0 out tally0 tally
      → Walk (OfFolder levels folder) before after out0 out tally0 tally
  opens_passed levels folder before after out0 out tally0 tally visit =
      walk_visit (OfFolder levels folder) (Passed folder) before after out0 out tally0 tally refl (λ old new went done. inr (inl refl)) visit

  -- one that has a list
  pub walk_listed : (levels : ℕ) (folder place : Path) (names : List Path) (before after : List Step → Type 0) (out : Device) (tally : T)
      → place ≡ joined root folder → Goes before after (λ old new. (new ≡ old) × IsListing old place names)
      → Walk (SoFar levels folder names []) before after out out tally tally
  walk_listed levels folder place names before after out tally at lists =
      walk_none (λ old new. (new ≡ old) × IsListing old place names) (SoFar levels folder names []) before after out tally
      (λ old new is. (
        is.0,
        record {
          at = old;
          since = record { since = laws.still visitor old; until = subst (λ l. does visitor true old l) (sym is.0) (laws.still visitor old) };
          listing = subst (λ p. IsListing old p names) at is.1;
          each = refl;
        },
      )) lists

  -- one that was begun with before
  pub opens_after : {F : Type 0} (levels : ℕ) (folder : Path) (opened : Option (Opened F)) (before mid after : List Step → Type 0) (out0 out1 out : Device) (tally0 tally1 tally : T)
      → tells visitor [] out0 out1 tally0 tally1 → Goes before mid (VisitDoes (between visitor) (listless visitor))
      → OpensFolder (tells visitor) (says visitor) (does visitor true) (between visitor) (listless visitor) root levels folder opened mid after out1 out tally1 tally
      → OpensFolder (tells visitor) (says visitor) (does visitor true) (between visitor) (listless visitor) root levels folder opened before after out0 out tally0 tally
  opens_after levels folder None before mid after out0 out1 out tally0 tally1 tally told goes walk =
      walk_after (OfFolder levels folder) (OfFolder levels folder)
      before mid after out0 out1 out tally0 tally1 tally
      (λ old middle new visits done are.
      entries_seen root (Moment new) (Moment new) old middle (earlier (does visitor true) (laws.onward visitor true) root old middle new done) levels folder visits are)
      told goes walk
  opens_after levels folder (Some opened) before mid after out0 out1 out tally0 tally1 tally told goes walk =
      walk_after (SoFar levels folder (listed opened.names.items) []) (SoFar levels folder (listed opened.names.items) [])
      before mid after out0 out1 out tally0 tally1 tally
      (λ old middle new visits done are. record {
        at = are.at;
        since = record { since = laws.onward visitor true old middle are.at done are.since.since; until = are.since.until };
        listing = are.listing;
        each = are.each;
      })
      told goes walk

  -- what was visited so far was so until later
  far_later : (levels : ℕ) (folder : Path) (names taken : List Path) (old mid new : List Step) (visits : List Visit) → does visitor true mid new
      → SoFar levels folder names taken old mid visits → SoFar levels folder names taken old new visits
  far_later levels folder names taken old mid new visits next are = record {
    at = are.at;
    since = record { since = are.since.since; until = laws.onward visitor true are.at mid new are.since.until next };
    listing = are.listing;
    each = for_each_as (λ n. OfEntry levels (below folder n) old mid) (λ n. OfEntry levels (below folder n) old new) taken visits
        (λ n part one. entry_seen root (Moment mid) (Moment new) old old (later (does visitor true) (laws.onward visitor true) root old mid new next) levels (below folder n) part one)
        are.each;
  }

  -- the next name of a folder
  pub next_name : (levels : ℕ) (folder name : Path) (names taken : List Path) (before mid after : List Step → Type 0) (out0 out1 out : Device) (tally0 tally1 tally : T)
      → Walk (SoFar levels folder names taken) before mid out0 out1 tally0 tally1
      → Walk (OfEntry levels (below folder name)) mid after out1 out tally1 tally
      → Walk (SoFar levels folder names (taken ++ name ∷ [])) before after out0 out tally0 tally
  next_name levels folder name names taken before mid after out0 out1 out tally0 tally1 tally one two =
      walk_more (SoFar levels folder names taken) (OfEntry levels (below folder name)) (SoFar levels folder names (taken ++ name ∷ []))
      before mid after out0 out1 out tally0 tally1 tally
      (λ old middle new visits more done next are entry.
      let far = far_later levels folder names taken old middle new visits next are in
      record {
        at = far.at;
        since = far.since;
        listing = far.listing;
        each = for_each_push (λ n. OfEntry levels (below folder n) old new) taken name visits more far.each
            (entry_seen root (Moment new) (Moment new) old middle (earlier (does visitor true) (laws.onward visitor true) root old middle new done) levels (below folder name) more entry);
      })
      one two

  pub next_folder : (levels : ℕ) (path : Path) (before after : List Step → Type 0) (out0 out : Device) (tally0 tally : T) → 0 < levels
      → Walk (OfFolder (levels - 1) path) before after out0 out tally0 tally
      → Walk (OfEntry levels path) before after out0 out tally0 tally
  next_folder levels path before after out0 out tally0 tally some walk =
      walk_as _ _ before after out0 out tally0 tally (λ old new visits are. folder_entry (Moment new) old root path levels visits some are) walk

  pub next_entry : (levels : ℕ) (path : Path) (kind : FileKind) (before after : List Step → Type 0) (out0 out : Device) (tally0 tally : T)
      → kind ≢ Folder → IsKindAt before (joined root path) levels kind
      → Visited (Entry path kind) before after out0 out tally0 tally
      → Walk (OfEntry levels path) before after out0 out tally0 tally
  next_entry levels path kind before after out0 out tally0 tally alone is visit =
      walk_visit _ (Entry path kind) before after out0 out tally0 tally refl
      (λ old new went done. entry_alone (Moment new) old (record { since = laws.still visitor old; until = done }) root path levels kind (λ _. alone) (λ some. is.told some old went) is.none) visit

  -- all of them, and then the folder is left
  pub all_names : (levels : ℕ) (folder : Path) (names : List Path) (before mid after : List Step → Type 0) (out0 out1 out : Device) (tally0 tally1 tally : T)
      → Walk (SoFar levels folder names names) before mid out0 out1 tally0 tally1
      → Visited (Left folder) mid after out1 out tally1 tally
      → Walk (OfFolder levels folder) before after out0 out tally0 tally
  all_names levels folder names before mid after out0 out1 out tally0 tally1 tally walk left =
      walk_more (SoFar levels folder names names) (λ old new visits. visits ≡ Left folder ∷ []) (OfFolder levels folder)
      before mid after out0 out1 out tally0 tally1 tally
      (λ old middle new visits more done next are is.
      let far = far_later levels folder names names old middle new visits next are in
      inr (inr (record {
        at = far.at;
        since = far.since;
        names = names;
        listing = far.listing;
        within = visits;
        each = far.each;
        whole = ap (λ l. visits ++ l) is;
      })))
      walk (walk_visit (λ old new visits. visits ≡ Left folder ∷ []) (Left folder) mid after out1 out tally1 tally refl (λ old new went done. refl) left)

  -- what is done at the end of a walk, of which nothing is told
  walked_left : (Are : (old new : List Step) → List Visit → Type 0) (visits : List Visit) (lines : List L) (old mid new : List Step)
      → (Are old mid visits → Are old new visits) → IsWalked (says visitor) (does visitor true) (between visitor) (listless visitor) root Are visits lines old mid → VisitDoes (between visitor) (listless visitor) mid new
      → IsWalked (says visitor) (does visitor true) (between visitor) (listless visitor) root Are visits lines old new
  walked_left Are visits lines old mid new so one two = record {
    are = so one.are;
    says = said_after old mid new visits lines one.says two.does;
    does = laws.onward visitor true old mid new one.does (laws.resting visitor mid new two.does);
    unlisted = λ none. two.lists_none none ∙ one.unlisted none;
  }

  pub walk_left : (Are : (old new : List Step) → List Visit → Type 0) (before mid after : List Step → Type 0) (out0 out : Device) (tally0 tally1 tally : T)
      → ((old mid new : List Step) (visits : List Visit) → Are old mid visits → Are old new visits) → Walk Are before mid out0 out tally0 tally1 → ((at : Device) → tells visitor [] at at tally1 tally)
      → Goes mid after (VisitDoes (between visitor) (listless visitor)) → Walk Are before after out0 out tally0 tally
  walk_left Are before mid after out0 out tally0 tally1 tally so walk told goes = record {
    visits = walk.visits;
    lines = walk.lines;
    told = subst (λ l. tells visitor l out0 out tally0 tally) (append-nil walk.lines) (laws.more visitor walk.lines [] out0 out out tally0 tally1 tally walk.told (told out));
    goes = goes_then _ _ _ before mid after (λ old middle new first second. walked_left Are walk.visits walk.lines old middle new (so old middle new walk.visits) first second) walk.goes goes;
  }

  pub does_then : (goes_on : Bool) (before mid after : List Step → Type 0) → Goes before mid (does visitor true) → Goes mid after (VisitDoes (does visitor goes_on) (listless visitor))
      → Goes before after (does visitor goes_on)
  does_then goes_on before mid after one two = goes_then _ _ _ before mid after (λ old middle new first second. laws.onward visitor goes_on old middle new first second.does) one two

  pub does_both : (goes_on : Bool) (before mid after : List Step → Type 0) → Goes before mid (does visitor true) → Goes mid after (does visitor goes_on) → Goes before after (does visitor goes_on)
  does_both goes_on before mid after one two = goes_then _ _ _ before mid after (λ old middle new first second. laws.onward visitor goes_on old middle new first second) one two

  pub does_visit : (goes_on : Bool) (before after : List Step → Type 0) → Goes before after (VisitDoes (does visitor goes_on) (listless visitor)) → Goes before after (does visitor goes_on)
  does_visit goes_on before after goes = goes_so _ _ before after (λ old new went is. is.does) goes

  -- the walk stops after it
  pub does_end : (before after : List Step → Type 0) → Goes before after (does visitor true) → Goes before after (does visitor false)
  does_end before after goes = goes_so _ _ before after (λ old new went is. laws.ends visitor old new is) goes

  pub does_walk : (Are : (old new : List Step) → List Visit → Type 0) (before after : List Step → Type 0) (out0 out : Device) (tally0 tally : T)
      → Walk Are before after out0 out tally0 tally → Goes before after (does visitor true)
  does_walk Are before after out0 out tally0 tally walk = goes_so _ _ before after (λ old new went is. is.does) walk.goes

  -- a visit that stops after others stops these too, and so does memory that is refused
  pub stops_later : (Are : (old new : List Step) → List Visit → Type 0) (before after : List Step → Type 0) (out0 out1 out : Device) (tally0 tally1 : T)
      → Walk Are before after out0 out1 tally0 tally1 → (fault : DeviceFault) → stops visitor out1 out fault → stops visitor out0 out fault
  stops_later Are before after out0 out1 out tally0 tally1 walk fault stopped = laws.later visitor walk.lines out0 out1 out tally0 tally1 fault walk.told stopped

  -- the calls can still be counted
  pub told_can_count : (lines : List L) (out0 out : Device) (tally0 tally : T) → tells visitor lines out0 out tally0 tally → CanCountCall out0 → CanCountCall out
  told_can_count lines out0 out tally0 tally told can = steady_can_count out0 out (laws.calm visitor lines out0 out tally0 tally told).steady can

  -- a folder was listed, whatever is answered
  pub does_listed : {N : Type 0} (place : Path) (names : N → List Path) (result : Result N TreeFault) (before after : List Step → Type 0)
      → Goes before after (ListsFolder place names result) → Goes before after (does visitor true)
  does_listed {N = N} place names result before after goes = goes_so _ _ before after (λ old new went lists. by result old new lists) goes
    where
      same : (old new : List Step) → new ≡ old → does visitor true old new
      same old new is = subst (λ l. does visitor true old l) (sym is) (laws.still visitor old)

      by : (answer : Result N TreeFault) (old new : List Step) → ListsFolder place names answer old new → does visitor true old new
      by (Ok x) old new lists = same old new lists.0
      by (Err tree_fault.Memory) old new lists = same old new lists
      by (Err tree_fault.Failed) old new lists =
          subst (λ l. does visitor true old l) (sym (lists.2 ∙ ap (λ l. Failed ∷ l) lists.1))
          (laws.resting visitor old (Failed ∷ Unlisted place ∷ old) (laws.unlisted visitor old place))

  -- before the first folder that is asked for
  pub no_folder_yet : (before : List Step → Type 0) (out : Device) (tally : T) → Walk (OfFolders []) before before out out tally tally
  no_folder_yet before out tally = walk_none (λ old new. new ≡ old) (OfFolders []) before before out tally (λ old new is. (is, refl))
      (goes_none (λ old new. new ≡ old) before (λ past. refl))

  -- the next one
  pub next_below : (levels : ℕ) (depth : Option ℕ) (folder : Bor Path) (taken : List (Bor Path)) (before mid after : List Step → Type 0) (out0 out1 out : Device) (tally0 tally1 tally : T)
      → IsDepthBelow folder.now depth → levels ≡ unwrap_or depth 0
      → Walk (OfFolders taken) before mid out0 out1 tally0 tally1
      → Walk (OfFolder levels folder.now) mid after out1 out tally1 tally
      → Walk (OfFolders (taken ++ folder ∷ [])) before after out0 out tally0 tally
  next_below levels depth folder taken before mid after out0 out1 out tally0 tally1 tally deep so_deep one two =
      walk_more (OfFolders taken) (OfFolder levels folder.now)
      (OfFolders (taken ++ folder ∷ []))
      before mid after out0 out1 out tally0 tally1 tally
      (λ old middle new visits more done next are entries.
      let there = entries_seen root (Moment new) (Moment new) old middle (earlier (does visitor true) (laws.onward visitor true) root old middle new done) levels folder.now more entries in
      let far = for_each_as (AreEntriesBelow (Moment middle) old root) (AreEntriesBelow (Moment new) old root) taken visits (λ item part is. (
        is.0,
        is.1,
        entries_seen root (Moment middle) (Moment new) old old (later (does visitor true) (laws.onward visitor true) root old middle new next) (unwrap_or is.0 0) item.now part is.2,
      )) are in
      for_each_push (AreEntriesBelow (Moment new) old root) taken folder visits more far (depth, deep, subst (λ n. AreEntries (Moment new) old root n folder.now more) so_deep there))
      one two

  -- all of them, some of which were asked for
  pub walked_folders : (folders : List (Bor Path)) (answer : Bool) → answer ≡ (length folders == 0) → answer ≡ false
      → (before after : List Step → Type 0) (out0 out : Device) (tally0 tally : T)
      → Walk (OfFolders folders) before after out0 out tally0 tally
      → Walk (λ old new. AreEntriesBetween (does visitor true) old new root folders) before after out0 out tally0 tally
  walked_folders [] answer is some before after out0 out tally0 tally walk = absurd cc
  walked_folders (folder ∷ folders) answer is some before after out0 out tally0 tally walk = walk

-- what holds before a folder is listed holds after it, whatever is answered
pub holds_listed : {V T N : Type 0} (holds : V → T → List Step → Type 0) → HoldsListed holds → (visitor : V) (tally : T) (place : Path) (names : N → List Path)
    (result : Result N TreeFault) (before after : List Step → Type 0)
    → HoldsAt before (holds visitor tally) → Goes before after (ListsFolder place names result) → HoldsAt after (holds visitor tally)
holds_listed {N = N} holds laws visitor tally place names result before after held goes = λ new went.
    let sooner = goes.from new went in by result sooner.0 new (held sooner.0 sooner.1) sooner.2
  where
    by : (answer : Result N TreeFault) (old new : List Step) → holds visitor tally old → ListsFolder place names answer old new → holds visitor tally new
    by (Ok x) old new held lists = subst (λ l. holds visitor tally l) (sym lists.0) held
    by (Err tree_fault.Memory) old new held lists = subst (λ l. holds visitor tally l) (sym lists) held
    by (Err tree_fault.Failed) old new held lists =
        subst (λ l. holds visitor tally l) (sym (lists.2 ∙ ap (λ l. Failed ∷ l) lists.1)) (laws.stays visitor tally old place held)

-- a walk of entries that stay as they were
pub tells_now : {L T : Type 0} (Tells : List L → (out0 out : Device) → (tally0 tally : T) → Type 0) (Says : (old new : List Step) → Visit → List L → Type 0)
    (Does Between : (old new : List Step) → Type 0) (Listless : Type 0) (root : Path) (folders : List (Bor Path)) (before after : List Step → Type 0) (out0 out : Device) (tally0 tally : T)
    → ((old new : List Step) → Does old new → IsSameWithin root old new)
    → TellsWalk Tells Says Does Between Listless root (λ past new. AreEntriesBetween Does past new root folders) before after out0 out tally0 tally
    → TellsWalk Tells Says Does Between Listless root (λ past new. AreEntriesOf past root folders) before after out0 out tally0 tally
tells_now Tells Says Does Between Listless root folders before after out0 out tally0 tally same walk = record {
  visits = walk.visits;
  lines = walk.lines;
  told = walk.told;
  goes = goes_so _ _ before after (λ old new went is. record {
    are = entries_now (IsMoment Does new) root old (λ at moment. same old at moment.since) folders walk.visits is.are;
    says = is.says;
    does = is.does;
    unlisted = is.unlisted;
  }) walk.goes;
}
