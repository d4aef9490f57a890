-- A walk that changes what stands within two other folders.
use Rattle.std.proofs.Common.{◌≡◌, ◌||◌, ℕ, List, [], ◌∷◌, ◌++◌, refl, sym, ◌∙◌, ap, append_assoc, is_some}
use Rattle.msr_devices.proofs.Chaining.{calm_same}
use Rattle.msr_tree.proofs.Changes.{same_now}
use Rattle.msr_tree.specs.Listing.{has_folder}
use Rattle.msr_tree.specs.Steps.{Failed, Path, Spares, Step, Unlisted, now}
use Rattle.msr_folders.proofs.VisitLemmas.{part_none, stops_more, these_more, these_none}
use Rattle.msr_folders.specs.Entries.{IsSameWithin, StandsWithin}
use Rattle.msr_folders.specs.Visits.{StopsAt, TellsInPart, TellsThese}
use Rattle.msr_folders.specs.Walks.{VisitLaws}
use Rattle.msr_folders.specs.Within.{ChangesWithin, IsSeparate}

spares_both : (name : Path) (first second : List Step) → Spares name first → Spares name second → Spares name (second ++ first)
spares_both name first [] a b = a
spares_both name first (step ∷ second) a b = (spares_both name first second a b.0, b.1)

module _ (one two : Path) where
  pub within_none : (past : List Step) → ChangesWithin one two past past
  within_none past = record { made = []; since = refl; spares = λ name no none. tt; folders = λ place. refl }

  pub within_then : (old mid new : List Step) → ChangesWithin one two old mid → ChangesWithin one two mid new → ChangesWithin one two old new
  within_then old mid new first second = record {
    made = second.made ++ first.made;
    since = second.since ∙ ap (λ l. second.made ++ l) first.since ∙ sym (append_assoc second.made first.made old);
    spares = λ name no none. spares_both name first.made second.made (first.spares name no none) (second.spares name no none);
    folders = λ place. second.folders place ∙ first.folders place;
  }

  pub within_unlisted : (past : List Step) (place : Path) → ChangesWithin one two past (Failed ∷ Unlisted place ∷ past)
  within_unlisted past place = record {
    made = Failed ∷ Unlisted place ∷ [];
    since = refl;
    spares = λ name no none. ((tt, refl), refl);
    folders = λ at. refl;
  }

  -- a folder that is separate from both
  module _ (root : Path) (apart : IsSeparate root one two) where
    pub root_spares : (name : Path) (old new : List Step) (changes : ChangesWithin one two old new) → StandsWithin root name → Spares name changes.made
    root_spares name old new changes within = changes.spares name (apart.from_one name within) (apart.from_two name within)

    now_same : (name : Path) (old new : List Step) → ChangesWithin one two old new → StandsWithin root name → now new name ≡ now old name
    now_same name old new changes within = ap (λ l. now l name) changes.since ∙ same_now name old changes.made (root_spares name old new changes within)

    pub root_same : (old new : List Step) → ChangesWithin one two old new → IsSameWithin root old new
    root_same old new changes = record {
      folders = λ place within. changes.folders place;
      there = λ place within.
          ap (λ f. f || is_some (now new place)) (changes.folders place)
          ∙ ap (λ file. has_folder old place || is_some file) (now_same place old new changes within);
    }

-- the laws of a visitor that tells entries, and changes what stands there
pub within_laws : {V E T : Type 0} (is_entry : V → E → Type 0) (is_line : V → E → List ℕ → Type 0) (is_tally : List E → T → Type 0)
    (one two : V → Path) →
    VisitLaws {V = V} {L = E} {T = T} (λ visitor. TellsThese (is_entry visitor) (is_line visitor) is_tally)
    (λ visitor out0 out. StopsAt (TellsInPart (is_entry visitor) (is_line visitor) out0 out) out0 out)
    (λ visitor goes_on. ChangesWithin (one visitor) (two visitor)) (λ visitor. ChangesWithin (one visitor) (two visitor))
within_laws is_entry is_line is_tally one two = record {
  calm = λ visitor lines out0 out tally0 tally these. these.told.calm;
  none = λ visitor. these_none (is_entry visitor) (is_line visitor) is_tally;
  more = λ visitor. these_more (is_entry visitor) (is_line visitor) is_tally;
  refused = λ visitor out. (part_none (is_entry visitor) (is_line visitor) out, (calm_same out).steady);
  later = λ visitor lines out0 out1 out tally0 tally1 fault these stopped.
      stops_more (is_entry visitor) (is_line visitor) is_tally out0 out1 out tally0 tally1 fault these.told stopped;
  still = λ visitor. within_none (one visitor) (two visitor);
  onward = λ visitor goes_on. within_then (one visitor) (two visitor);
  ends = λ visitor old new changes. changes;
  rests = λ visitor. within_none (one visitor) (two visitor);
  rests_on = λ visitor. within_then (one visitor) (two visitor);
  resting = λ visitor old new changes. changes;
  unlisted = λ visitor. within_unlisted (one visitor) (two visitor);
}
