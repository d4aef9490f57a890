-- A walk that changes nothing.
use Rattle.std.proofs.Common.{ℕ, List}
use Rattle.msr_devices.proofs.Chaining.{calm_same}
use Rattle.msr_devices.specs.Device.{Device}
use Rattle.msr_tree.proofs.Reading.{folder_read, look_lists_none, look_reads, looks_none, reads_none, reads_then, reads_unlisted, there_read}
use Rattle.msr_tree.specs.Calls.{Goes}
use Rattle.msr_tree.specs.Reads.{OnlyLooks, OnlyReads}
use Rattle.msr_tree.specs.Steps.{Path, Step}
use Rattle.msr_folders.specs.Entries.{IsSameWithin, Visit}
use Rattle.msr_folders.specs.Visits.{StopsAt, TellsInPart, TellsThese}
use Rattle.msr_folders.specs.Walks.{HoldsListed, TellsVisit, VisitDoes, VisitLaws}
use Rattle.msr_folders.proofs.VisitLemmas.{part_none, stops_more, these_more, these_none}
use Rattle.msr_folders.proofs.WalkedLemmas.{goes_none, goes_so}

-- who only reads leaves all as it stood
pub reads_same : (folder : Path) (old new : List Step) → OnlyReads old new → IsSameWithin folder old new
reads_same folder old new reads = record {
  folders = λ place within. folder_read old new reads place;
  there = λ place within. there_read old new reads place;
}

-- the laws of a visitor that tells entries, and only reads
pub reading_laws : {V E T : Type 0} (is_entry : V → E → Type 0) (is_line : V → E → List ℕ → Type 0) (is_tally : List E → T → Type 0) →
    VisitLaws {V = V} {L = E} {T = T} (λ visitor. TellsThese (is_entry visitor) (is_line visitor) is_tally)
    (λ visitor out0 out. StopsAt (TellsInPart (is_entry visitor) (is_line visitor) out0 out) out0 out) (λ visitor goes_on. OnlyReads)
    (λ visitor. OnlyReads)
reading_laws is_entry is_line is_tally = record {
  calm = λ visitor lines out0 out tally0 tally these. these.told.calm;
  none = λ visitor. these_none (is_entry visitor) (is_line visitor) is_tally;
  more = λ visitor. these_more (is_entry visitor) (is_line visitor) is_tally;
  refused = λ visitor out. (part_none (is_entry visitor) (is_line visitor) out, (calm_same out).steady);
  later = λ visitor lines out0 out1 out tally0 tally1 fault these stopped.
      stops_more (is_entry visitor) (is_line visitor) is_tally out0 out1 out tally0 tally1 fault these.told stopped;
  still = λ visitor. reads_none;
  onward = λ visitor goes_on. reads_then;
  ends = λ visitor old new reads. reads;
  rests = λ visitor. reads_none;
  rests_on = λ visitor. reads_then;
  resting = λ visitor old new reads. reads;
  unlisted = λ visitor. reads_unlisted;
}

-- nothing is relied on between its visits
pub none_holds : {V T : Type 0} → HoldsListed (λ (visitor : V) (tally : T) (past : List Step). Unit {0})
none_holds = record { stays = λ visitor tally past place held. tt }

-- a visit that only looks
pub visit_looks : (old new : List Step) → OnlyLooks old new → VisitDoes OnlyReads (Unit {0}) old new
visit_looks old new looks = record { does = look_reads old new looks; lists_none = λ none. look_lists_none old new looks }

-- one that makes this call
pub visit_by : (Does : (old new : List Step) → Type 0) (before after : List Step → Type 0) → ((old new : List Step) → Does old new → OnlyLooks old new)
    → Goes before after Does → Goes before after (VisitDoes OnlyReads (Unit {0}))
visit_by Does before after so goes = goes_so Does (VisitDoes OnlyReads (Unit {0})) before after (λ old new went is. visit_looks old new (so old new is)) goes

-- one that does nothing
pub visits_nothing : (before : List Step → Type 0) → Goes before before (VisitDoes OnlyReads (Unit {0}))
visits_nothing before = goes_none (VisitDoes OnlyReads (Unit {0})) before (λ past. visit_looks past past (looks_none past))

-- what is told of them
module _ {L T : Type 0} (Tells : List L → (out0 out : Device) → (tally0 tally : T) → Type 0) (Says : (old new : List Step) → Visit → List L → Type 0)
    (visit : Visit) (lines : List L) where
  pub visited_by : (Does : (old new : List Step) → Type 0) (before after : List Step → Type 0) (out0 out : Device) (tally0 tally : T)
      → ((old new : List Step) → Does old new → OnlyLooks old new × Says old new visit lines) → Goes before after Does
      → Tells lines out0 out tally0 tally → TellsVisit Tells Says OnlyReads (Unit {0}) visit before after out0 out tally0 tally
  visited_by Does before after out0 out tally0 tally so goes told = record {
    lines = lines;
    told = told;
    goes = goes_so _ _ before after (λ old new went is.
        let both = so old new is in
        record { done = visit_looks old new both.0; says = both.1 }) goes;
  }

  pub visited_still : (before : List Step → Type 0) (out0 out : Device) (tally0 tally : T) → ((past : List Step) → Says past past visit lines)
      → Tells lines out0 out tally0 tally → TellsVisit Tells Says OnlyReads (Unit {0}) visit before before out0 out tally0 tally
  visited_still before out0 out tally0 tally so told = record {
    lines = lines;
    told = told;
    goes = goes_none _ before (λ past. record { done = visit_looks past past (looks_none past); says = so past });
  }
