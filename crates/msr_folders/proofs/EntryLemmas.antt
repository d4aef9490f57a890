-- Visits that follow one another, and what stays where a tree is walked.
use Rattle.std.proofs.Common.{◌≡◌, inl, inr, ⊎_elim, ℕ, zero, suc, if◌then◌else◌, List, [], ◌∷◌, ◌++◌, refl, sym, ◌∙◌, ap, subst, append_assoc, unwrap_or}
use Rattle.std.proofs.lemmas.List.{append-nil}
use Rattle.std.specs.Borrow.{Bor}
use Rattle.msr_tree.specs.Listing.{IsListing, has_folder, is_there, kind_now, path_in}
use Rattle.msr_tree.specs.Steps.{Path, Step}
use Rattle.msr_tree.specs.declared.kind.FileKind.TheVariants.{Folder, Gone, Other}
use Rattle.msr_folders.specs.Entries.{AreEntriesBelow, AreEntries, AreOfEntry, AreOfFolder, AreEntriesOf, AreEntriesSince, Entry, ForEach, IsAlone, IsGoneThrough, IsMoment, IsNow, IsSameWithin, Left, Passed, StandsWithin, Visit, WithoutList, unlisted_in}
use Rattle.msr_folders.specs.Paths.{below, joined}

pub for_each_append : {E X : Type 0} (Are : E → List X → Type 0) (items more : List E) (all parts : List X)
    → ForEach Are items all → ForEach Are more parts → ForEach Are (items ++ more) (all ++ parts)
for_each_append Are [] more all parts none some = subst (λ l. ForEach Are more (l ++ parts)) (sym none) some
for_each_append Are (item ∷ items) more all parts first some = (
  first.0,
  first.1 ++ parts,
  first.2,
  for_each_append Are items more first.1 parts first.3 some,
  ap (λ l. l ++ parts) first.4 ∙ append_assoc first.0 first.1 parts,
)

pub for_each_one : {E X : Type 0} (Are : E → List X → Type 0) (item : E) (part : List X) → Are item part → ForEach Are (item ∷ []) part
for_each_one Are item part are = (part, [], are, refl, sym (append-nil part))

pub for_each_push : {E X : Type 0} (Are : E → List X → Type 0) (items : List E) (item : E) (all part : List X)
    → ForEach Are items all → Are item part → ForEach Are (items ++ item ∷ []) (all ++ part)
for_each_push Are items item all part are is = for_each_append Are items (item ∷ []) all part are (for_each_one Are item part is)

pub for_each_as : {E X : Type 0} (Are Seen : E → List X → Type 0) (items : List E) (all : List X)
    → ((item : E) (part : List X) → Are item part → Seen item part) → ForEach Are items all → ForEach Seen items all
for_each_as Are Seen [] all so none = none
for_each_as Are Seen (item ∷ items) all so some = (some.0, some.1, so item some.0 some.2, for_each_as Are Seen items some.1 so some.3, some.4)

pub unlisted_append : (root : Path) (visits more : List Visit) → unlisted_in root (visits ++ more) ≡ unlisted_in root visits ++ unlisted_in root more
unlisted_append root [] more = refl
unlisted_append root (Entry path kind ∷ visits) more = unlisted_append root visits more
unlisted_append root (WithoutList folder ∷ visits) more = ap (λ l. joined root folder ∷ l) (unlisted_append root visits more)
unlisted_append root (Passed folder ∷ visits) more = unlisted_append root visits more
unlisted_append root (Left folder ∷ visits) more = unlisted_append root visits more

within_joined : (root path : Path) → StandsWithin root (joined root path)
within_joined [] path = inl refl
within_joined (f ∷ root) [] = inl refl
within_joined (f ∷ root) (p ∷ path) = inr (p ∷ path, refl)

within_in : (root place name : Path) → StandsWithin root place → StandsWithin root (path_in place name)
within_in root place name within = ⊎_elim
    (λ is. inr (name, ap (λ p. path_in p name) is))
    (λ there. inr (there.0 ++ 47 ∷ name, ap (λ p. path_in p name) there.1 ∙ append_assoc root (47 ∷ there.0) (47 ∷ name)))
    within

-- a tree in which the same stands
module _ (root : Path) (old new : List Step) (same : IsSameWithin root old new) where
  kind_same : (place : Path) → StandsWithin root place → kind_now new place ≡ kind_now old place
  kind_same place within =
      ap (λ f. if f then Folder else if is_there new place then Other else Gone) (same.folders place within)
      ∙ ap (λ t. if has_folder old place then Folder else if t then Other else Gone) (same.there place within)

  listing_same : (place : Path) (names : List Path) → StandsWithin root place → IsListing new place names → IsListing old place names
  listing_same place names within listing = record {
    there = sym (same.folders place within) ∙ listing.there;
    ascend = listing.ascend;
    all = λ name proper is. listing.all name proper (same.there (path_in place name) (within_in root place name within) ∙ is);
    only = λ name has.
        let is = listing.only name has in
        (is.0, sym (same.there (path_in place name) (within_in root place name within)) ∙ is.1);
  }

pub same_still : (root : Path) (past : List Step) → IsSameWithin root past past
same_still root past = record { folders = λ place within. refl; there = λ place within. refl }

-- A moment at which the same stands as at another one.
pub record SeenFrom (Since : (past at : List Step) → Type 0) (root : Path) (past at : List Step) : Type 0 where
  pub moment : List Step
  pub since : Since past moment
  pub same : IsSameWithin root moment at

-- entries that are seen from another moment
module _ (root : Path) (One Two : (past at : List Step) → Type 0) (old new : List Step)
    (seen : (at : List Step) → One new at → SeenFrom Two root old at) where
  through_seen : (Are Seen : Path → List Visit → Type 0) (folder : Path) (visits : List Visit)
      → ((name : Path) (part : List Visit) → Are name part → Seen name part)
      → IsGoneThrough One new root Are folder visits → IsGoneThrough Two old root Seen folder visits
  through_seen Are Seen folder visits so are =
      let from = seen are.at are.since in
      record {
        at = from.moment;
        since = from.since;
        names = are.names;
        listing = listing_same root from.moment are.at from.same (joined root folder) are.names (within_joined root folder) are.listing;
        within = are.within;
        each = for_each_as Are Seen are.names are.within so are.each;
        whole = are.whole;
      }

  folder_seen : (Are Seen : Path → List Visit → Type 0) (folder : Path) (visits : List Visit)
      → ((name : Path) (part : List Visit) → Are name part → Seen name part)
      → AreOfFolder One new root Are folder visits → AreOfFolder Two old root Seen folder visits
  folder_seen Are Seen folder visits so are = ⊎_elim
      (λ none. inl none)
      (λ some. inr (⊎_elim (λ passed. inl passed) (λ through. inr (through_seen Are Seen folder visits so through)) some))
      are

  alone_seen : (path : Path) (visits : List Visit) → IsAlone One new root path visits → IsAlone Two old root path visits
  alone_seen path visits is =
      let from = seen is.at is.since in
      record {
        at = from.moment;
        since = from.since;
        alone = sym (from.same.folders (joined root path) (within_joined root path)) ∙ is.alone;
        as_it_was = is.as_it_was ∙ ap (λ k. Entry path k ∷ []) (kind_same root from.moment is.at from.same (joined root path) (within_joined root path));
      }

  pub entry_seen : (levels : ℕ) (path : Path) (visits : List Visit) → AreOfEntry One new root levels path visits → AreOfEntry Two old root levels path visits
  entry_seen zero path visits is = is
  entry_seen (suc levels) path visits is = ⊎_elim
      (λ are. inl (folder_seen (λ name. AreOfEntry One new root levels (below path name)) (λ name. AreOfEntry Two old root levels (below path name)) path visits
      (λ name part one. entry_seen levels (below path name) part one) are))
      (λ alone. inr (alone_seen path visits alone))
      is

  pub entries_seen : (levels : ℕ) (folder : Path) (visits : List Visit) → AreEntries One new root levels folder visits → AreEntries Two old root levels folder visits
  entries_seen levels folder visits are =
      folder_seen (λ name. AreOfEntry One new root levels (below folder name)) (λ name. AreOfEntry Two old root levels (below folder name)) folder visits
      (λ name part one. entry_seen levels (below folder name) part one) are

  pub folders_seen : (folders : List (Bor Path)) (visits : List Visit) → AreEntriesSince One new root folders visits → AreEntriesSince Two old root folders visits
  folders_seen [] visits are = entries_seen 4 [] visits are
  folders_seen (folder ∷ folders) visits are =
      for_each_as (AreEntriesBelow One new root) (AreEntriesBelow Two old root) (folder ∷ folders) visits
      (λ item part is. (is.0, is.1, entries_seen (unwrap_or is.0 0) item.now part is.2)) are

-- what was seen between two moments was seen between an earlier one and the second
pub earlier : (Does : (old new : List Step) → Type 0) → ((old mid new : List Step) → Does old mid → Does mid new → Does old new)
    → (root : Path) (old mid new : List Step) → Does old mid → (at : List Step) → IsMoment Does new mid at → SeenFrom (IsMoment Does new) root old at
earlier Does onward root old mid new done at moment = record {
  moment = at;
  since = record { since = onward old mid at done moment.since; until = moment.until };
  same = same_still root at;
}

-- and between the first and a later one
pub later : (Does : (old new : List Step) → Type 0) → ((old mid new : List Step) → Does old mid → Does mid new → Does old new)
    → (root : Path) (old mid new : List Step) → Does mid new → (at : List Step) → IsMoment Does mid old at → SeenFrom (IsMoment Does new) root old at
later Does onward root old mid new done at moment = record {
  moment = at;
  since = record { since = moment.since; until = onward at mid new moment.until done };
  same = same_still root at;
}

-- a tree in which the same stands at each moment since
pub entries_now : (Since : (past at : List Step) → Type 0) (root : Path) (past : List Step) → ((at : List Step) → Since past at → IsSameWithin root past at)
    → (folders : List (Bor Path)) (visits : List Visit) → AreEntriesSince Since past root folders visits → AreEntriesOf past root folders visits
entries_now Since root past same folders visits are =
    folders_seen root Since IsNow past past (λ at since. record { moment = past; since = refl; same = same at since }) folders visits are

-- the same, from a moment at which the same stood
pub folders_same : (root : Path) (old new : List Step) → IsSameWithin root old new → (folders : List (Bor Path)) (visits : List Visit)
    → AreEntriesOf new root folders visits → AreEntriesOf old root folders visits
folders_same root old new same folders visits are =
    folders_seen root IsNow IsNow old new (λ at is. record { moment = old; since = refl; same = subst (λ l. IsSameWithin root old l) (sym is) same }) folders visits are
