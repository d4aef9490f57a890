-- What is told of names while nothing is changed.
use Rattle.std.proofs.Common.{◌≡◌, ◌⊎◌, ◌<◌, inl, inr, ⊎_elim, ℕ, Bool, true, List, [], refl, sym, ◌∙◌, ap, subst, Result, Ok, Err, Option, Some, None, IfOk, IsSomeAnd, option_map, length, arith}
use Rattle.std.specs.declared.alloc.AllocError.{AllocError}
use Rattle.msr_tree.specs.Calls.{Goes, Looks, Tells, TellsOneFile}
use Rattle.msr_tree.specs.Folders.{ChangesFiles}
use Rattle.msr_tree.specs.Reads.{OnlyLooks}
use Rattle.msr_tree.specs.Steps.{File, Path, Step, failures, now, seen}
use Rattle.msr_tree.specs.declared.facts.Facts.{Facts}
use Rattle.msr_tree.specs.declared.facts.Kind.{Kind}
use Rattle.msr_tree.specs.declared.facts.Kind.TheVariants as kind
use Rattle.msr_tree.specs.declared.tree.TreeFault.{TreeFault}
use Rattle.msr_tree.specs.declared.tree.TreeFault.TheVariants as fault
use Rattle.msr_tree.proofs.Acting.{goes_as}
use Rattle.msr_tree.proofs.Filing.{acts_tells, changes_none, changes_then, no_fewer, now_kept}
use Rattle.msr_tree.proofs.Reading.{looks_none, tells_looks}
use Rattle.msr_naming.proofs.FallingBack.{goes_both}
use Rattle.msr_making.specs.Looking.{Asks, AsksForOne, FindsBeside, FindsDay, IsDayLook, IsSightAt, SaysBeside, SaysDay, SaysSight, SeesAt}
use Rattle.msr_making.specs.Places.{DayPaths}
use Rattle.msr_making.specs.declared.looks.DayLook.{DayLook}
use Rattle.msr_making.specs.declared.looks.Sight.{Sight}
use Rattle.msr_making.specs.declared.looks.Sight.TheVariants.{Found, Nothing, Unknown}

-- a call that changes nothing
pub tells_changes : {A : Type 0} (Says : List Step → A → Type 0) (answer : Result A TreeFault) (old new : List Step) → Tells Says answer old new → ChangesFiles [] old new
tells_changes Says answer old new tells = (acts_tells [] Says answer old new tells).changes

pub tells_failed : {A : Type 0} (Says : List Step → A → Type 0) (old new : List Step) → Tells Says (Err fault.Failed) old new → failures old < failures new
tells_failed Says old new tells = (acts_tells [] Says (Err fault.Failed) old new tells).cause refl

pub asks_by : {A B : Type 0} (Says : List Step → A → Type 0) (answer : Result A TreeFault) (Said : (old new : List Step) → B → Type 0) (result : Result B AllocError) (one two : List Step → Type 0)
    → ((p q : List Step) → Tells Says answer p q → IfOk result (λ b. Said p q b)) → Goes one two (Tells Says answer) → Goes one two (Asks Said result)
asks_by Says answer Said result one two so goes = goes_as _ _ one two (λ p q tells. record { changes = tells_changes Says answer p q tells; said = so p q tells }) goes

-- one question, and then another
pub asks_then : {A B C : Type 0} (First : (old new : List Step) → A → Type 0) (Second : (old new : List Step) → B → Type 0) (Done : (old new : List Step) → C → Type 0)
    (first : Result A AllocError) (second : Result B AllocError) (result : Result C AllocError) (one mid two : List Step → Type 0)
    → ((p q r : List Step) → ChangesFiles [] p q → ChangesFiles [] q r → IfOk first (λ a. First p q a) → IfOk second (λ b. Second q r b) → IfOk result (λ c. Done p r c))
    → Goes one mid (Asks First first) → Goes mid two (Asks Second second) → Goes one two (Asks Done result)
asks_then First Second Done first second result one mid two so a b =
    goes_both _ _ _ one mid two (λ p q r x y. record { changes = changes_then [] p q r x.changes y.changes; said = so p q r x.changes y.changes x.said y.said }) a b

-- what is told in other words
pub asks_as : {A B : Type 0} (First : (old new : List Step) → A → Type 0) (Done : (old new : List Step) → B → Type 0) (first : Result A AllocError) (result : Result B AllocError) (one two : List Step → Type 0)
    → ((p q : List Step) → ChangesFiles [] p q → IfOk first (λ a. First p q a) → IfOk result (λ b. Done p q b)) → Goes one two (Asks First first) → Goes one two (Asks Done result)
asks_as First Done first result one two so goes = goes_as _ _ one two (λ p q x. record { changes = x.changes; said = so p q x.changes x.said }) goes

abbrev pub no_memory : (A : Type 0) → AllocError → Result A AllocError
no_memory A e = Err e

-- memory was refused
pub asks_none : {A B : Type 0} (First : (old new : List Step) → A → Type 0) (Done : (old new : List Step) → B → Type 0) (e : AllocError) (one two : List Step → Type 0)
    → Goes one two (Asks First (no_memory A e)) → Goes one two (Asks Done (no_memory B e))
asks_none {A = A} {B = B} First Done e one two goes = asks_as First Done (no_memory A e) (no_memory B e) one two (λ p q c said. tt) goes

-- a look
module _ (path : Path) where
  pub saw : (facts : Facts) (one two : List Step → Type 0) → Goes one two (Tells (Looks path) (Ok (Some facts))) → Goes one two (SeesAt path (Ok (Found facts)))
  saw facts one two goes = asks_by (Looks path) (Ok (Some facts)) (SaysSight path) (Ok (Found facts)) one two (λ p q tells. record { is = tells.1; failed = λ is. cc }) goes

  pub saw_nothing : (one two : List Step → Type 0) → Goes one two (Tells (Looks path) (Ok None)) → Goes one two (SeesAt path (Ok Nothing))
  saw_nothing one two goes = asks_by (Looks path) (Ok None) (SaysSight path) (Ok Nothing) one two (λ p q tells. record { is = tells.1; failed = λ is. cc }) goes

  pub saw_unknown : (one two : List Step → Type 0) → Goes one two (Tells (Looks path) (Err fault.Failed)) → Goes one two (SeesAt path (Ok Unknown))
  saw_unknown one two goes = asks_by (Looks path) (Err fault.Failed) (SaysSight path) (Ok Unknown) one two (λ p q tells. record { is = tt; failed = λ is. tells_failed (Looks path) p q tells }) goes

  pub saw_none : (e : AllocError) (one two : List Step → Type 0) → Goes one two (Tells (Looks path) (Err fault.Memory)) → Goes one two (SeesAt path (Err e))
  saw_none e one two goes = asks_by (Looks path) (Err fault.Memory) (SaysSight path) (Err e) one two (λ p q tells. tt) goes

-- what a look told is so while nothing is changed
pub looks_kept : (path : Path) (old new : List Step) (found : Option Facts) → ChangesFiles [] old new → Looks path new found → Looks path old found
looks_kept path old new None changes is = sym (now_kept [] path old new tt changes) ∙ is
looks_kept path old new (Some facts) changes is = record {
  regular = λ r. subst (λ (x : Option File). IsSomeAnd x (λ file. facts.bytes ≡ length file.bytes)) (now_kept [] path old new tt changes) (is.regular r);
  other = λ o. sym (now_kept [] path old new tt changes) ∙ is.other o;
}

pub sight_kept : (path : Path) (old new : List Step) (sight : Sight) → ChangesFiles [] old new → IsSightAt path new sight → IsSightAt path old sight
sight_kept path old new (Found facts) changes is = looks_kept path old new (Some facts) changes is
sight_kept path old new Nothing changes is = sym (now_kept [] path old new tt changes) ∙ is
sight_kept path old new Unknown changes is = tt

pub looks_later : (path : Path) (old new : List Step) (found : Option Facts) → ChangesFiles [] old new → Looks path old found → Looks path new found
looks_later path old new None changes is = now_kept [] path old new tt changes ∙ is
looks_later path old new (Some facts) changes is = record {
  regular = λ r. subst (λ (x : Option File). IsSomeAnd x (λ file. facts.bytes ≡ length file.bytes)) (sym (now_kept [] path old new tt changes)) (is.regular r);
  other = λ o. now_kept [] path old new tt changes ∙ is.other o;
}

pub sight_later : (path : Path) (old new : List Step) (sight : Sight) → ChangesFiles [] old new → IsSightAt path old sight → IsSightAt path new sight
sight_later path old new (Found facts) changes is = looks_later path old new (Some facts) changes is
sight_later path old new Nothing changes is = now_kept [] path old new tt changes ∙ is
sight_later path old new Unknown changes is = tt

pub day_look_kept : (paths : DayPaths) (look : DayLook) (old new : List Step) → ChangesFiles [] old new → IsDayLook paths look new → IsDayLook paths look old
day_look_kept paths look old new changes is = record {
  input = sight_kept paths.input old new look.input changes is.input;
  records = sight_kept paths.records old new look.records changes is.records;
  report = sight_kept paths.report old new look.report changes is.report;
  stamp = sight_kept paths.stamp old new look.stamp changes is.stamp;
}

pub day_look_later : (paths : DayPaths) (look : DayLook) (old new : List Step) → ChangesFiles [] old new → IsDayLook paths look old → IsDayLook paths look new
day_look_later paths look old new changes is = record {
  input = sight_later paths.input old new look.input changes is.input;
  records = sight_later paths.records old new look.records changes is.records;
  report = sight_later paths.report old new look.report changes is.report;
  stamp = sight_later paths.stamp old new look.stamp changes is.stamp;
}

-- nothing is said
abbrev pub said_nothing : (old new : List Step) → Unit {0} → Type 0
said_nothing old new x = Unit {0}

-- one question that was answered, and then one without memory
pub asks_then_none : {A B C : Type 0} (First : (old new : List Step) → A → Type 0) (Second : (old new : List Step) → B → Type 0) (Done : (old new : List Step) → C → Type 0)
    (first : Result A AllocError) (e : AllocError) (one mid two : List Step → Type 0)
    → Goes one mid (Asks First first) → Goes mid two (Asks Second (no_memory B e)) → Goes one two (Asks Done (no_memory C e))
asks_then_none {A = A} {B = B} {C = C} First Second Done first e one mid two a b = asks_then First Second Done first (no_memory B e) (no_memory C e) one mid two (λ p q r x y said none. tt) a b

-- what two looks told
pub record SaysTwo (paths : DayPaths) (records report : Sight) (old new : List Step) (x : Unit {0}) : Type 0 where
  pub is_records : IsSightAt paths.records old records
  pub is_report : IsSightAt paths.report old report
  pub failed : (records ≡ Unknown) ⊎ (report ≡ Unknown) → failures old < failures new

abbrev answered : {A : Type 0} → A → Result A AllocError
answered a = Ok a

-- the three looks beside that at the stamp
pub beside_three : (paths : DayPaths) (stamp input records report : Sight) (one two three four : List Step → Type 0)
    → Goes one two (SeesAt paths.input (Ok input)) → Goes two three (SeesAt paths.records (Ok records)) → Goes three four (SeesAt paths.report (Ok report))
    → Goes one four (FindsBeside paths stamp (Ok (record { input = input; records = records; report = report; stamp = stamp })))
beside_three paths stamp input records report one two three four a b c =
    asks_then (SaysSight paths.input) (SaysTwo paths records report) (SaysBeside paths stamp) (answered input) (answered tt)
    (answered (record { input = input; records = records; report = report; stamp = stamp })) one two four
    (λ p q r x y said both.
    let few = no_fewer [] p q x in
    let more = no_fewer [] q r y in
    record {
      are = λ is. record {
        input = said.is;
        records = sight_kept paths.records p q records x both.is_records;
        report = sight_kept paths.report p q report x both.is_report;
        stamp = is;
      };
      failed = λ unknown. ⊎_elim
          (λ is. let so = said.failed is in inr (omega arith))
          (λ rest. ⊎_elim
          (λ is. let so = both.failed (inl is) in inr (omega arith))
          (λ last. ⊎_elim (λ is. let so = both.failed (inr is) in inr (omega arith)) (λ is. inl is) last)
          rest)
          unknown;
    }) a
    (asks_then (SaysSight paths.records) (SaysSight paths.report) (SaysTwo paths records report) (answered records) (answered report) (answered tt) two three four
    (λ p q r x y one_said other.
    let few = no_fewer [] p q x in
    let more = no_fewer [] q r y in
    record {
      is_records = one_said.is;
      is_report = sight_kept paths.report p q report x other.is;
      failed = λ unknown. ⊎_elim (λ is. let so = one_said.failed is in omega arith) (λ is. let so = other.failed is in omega arith) unknown;
    }) b c)

-- all four
pub found_day : (paths : DayPaths) (stamp : Sight) (result : Result DayLook AllocError) (one two three : List Step → Type 0)
    → Goes one two (SeesAt paths.stamp (Ok stamp)) → Goes two three (FindsBeside paths stamp result) → Goes one three (FindsDay paths result)
found_day paths stamp result one two three a b =
    asks_then (SaysSight paths.stamp) (SaysBeside paths stamp) (SaysDay paths) (answered stamp) result result one two three (λ p q r x y said beside. of result p q r x y said beside) a b
  where
    of : (found : Result DayLook AllocError) (p q r : List Step) → ChangesFiles [] p q → ChangesFiles [] q r → SaysSight paths.stamp p q stamp → IfOk found (λ look. SaysBeside paths stamp q r look) → IfOk found (λ look. SaysDay paths p r look)
    of (Ok look) p q r x y said beside =
        let few = no_fewer [] p q x in
        let more = no_fewer [] q r y in
        record {
          are = day_look_kept paths look p q x (beside.are (sight_later paths.stamp p q stamp x said.is));
          failed = λ unknown. ⊎_elim (λ is. let so = said.failed is in omega arith) (λ so. omega arith) (beside.failed unknown);
        }
    of (Err e) p q r x y said beside = tt

-- both names lead to one file, or not
module _ (input path : Path) where
  pub one_so : (answer : Bool) (one two : List Step → Type 0) → Goes one two (Tells (TellsOneFile input path) (Ok answer)) → Goes one two (AsksForOne input path (Ok answer))
  one_so answer one two goes = asks_by (TellsOneFile input path) (Ok answer) _ (answered answer) one two (λ p q tells. λ is. inl (tells.1.yes is)) goes

  pub one_failed : (one two : List Step → Type 0) → Goes one two (Tells (TellsOneFile input path) (Err fault.Failed)) → Goes one two (AsksForOne input path (Ok true))
  one_failed one two goes = asks_by (TellsOneFile input path) (Err fault.Failed) _ (answered true) one two (λ p q tells. λ is. inr (tells_failed (TellsOneFile input path) p q tells)) goes

  pub one_none : (e : AllocError) (one two : List Step → Type 0) → Goes one two (Tells (TellsOneFile input path) (Err fault.Memory)) → Goes one two (AsksForOne input path (Err e))
  one_none e one two goes = asks_by (TellsOneFile input path) (Err fault.Memory) _ (no_memory Bool e) one two (λ p q tells. tt) goes

-- nothing was asked
pub asks_nothing : {A : Type 0} (Said : (old new : List Step) → A → Type 0) (result : Result A AllocError) (one : List Step → Type 0) → ((p : List Step) → IfOk result (λ a. Said p p a)) → Goes one one (Asks Said result)
asks_nothing Said result one so = record { from = λ new went. (new, went, record { changes = changes_none [] new; said = so new }) }

-- a file that was opened is as long as a look told
pub found_length : (path : Path) (past : List Step) (facts : Facts) (bytes : List ℕ) → Looks path past (Some facts) → seen past path ≡ Some bytes → facts.bytes ≡ length bytes
found_length path past facts bytes looks is = by_kind facts.kind refl
  where
    gone : now past path ≡ None → facts.bytes ≡ length bytes
    gone none = let other : seen past path ≡ None = ap (λ found. option_map (λ file. file.bytes) found) none in absurd cc

    there : (found : Option File) → now past path ≡ found → IsSomeAnd found (λ file. facts.bytes ≡ length file.bytes) → facts.bytes ≡ length bytes
    there None at so = absurd so
    there (Some file) at so =
        let same : seen past path ≡ Some file.bytes = ap (λ found. option_map (λ file. file.bytes) found) at in
        let e : file.bytes ≡ bytes = cc in
        so ∙ ap length e

    by_kind : (k : Kind) → facts.kind ≡ k → facts.bytes ≡ length bytes
    by_kind kind.Regular at = there (now past path) refl (looks.regular at)
    by_kind kind.Folder at = gone (looks.other (λ r. absurd cc))
    by_kind kind.Link at = gone (looks.other (λ r. absurd cc))
    by_kind kind.Other at = gone (looks.other (λ r. absurd cc))

-- a call that changes nothing, and none at all
pub goes_changes : {A : Type 0} (Says : List Step → A → Type 0) (answer : Result A TreeFault) (one two : List Step → Type 0) → Goes one two (Tells Says answer) → Goes one two (λ p q. ChangesFiles [] p q)
goes_changes Says answer one two goes = goes_as _ _ one two (λ p q tells. tells_changes Says answer p q tells) goes

pub goes_nothing : (one : List Step → Type 0) → Goes one one (λ p q. ChangesFiles [] p q)
goes_nothing one = record { from = λ new went. (new, went, changes_none [] new) }

-- the same of one that only looks
pub goes_looks : {A : Type 0} (Says : List Step → A → Type 0) (answer : Result A TreeFault) (one two : List Step → Type 0) → Goes one two (Tells Says answer) → Goes one two OnlyLooks
goes_looks Says answer one two goes = goes_as _ _ one two (λ p q tells. tells_looks Says answer p q tells) goes

pub looks_nothing : (one : List Step → Type 0) → Goes one one OnlyLooks
looks_nothing one = record { from = λ new went. (new, went, looks_none new) }
