-- What killed runs left in a folder goes.
use Rattle.std.proofs.Common.{◌≡◌, ◌<◌, inl, inr, ⊎_elim, ℕ, Bool, true, List, [], ◌∷◌, refl, ap, ◌∙◌, subst, None, Result, Ok, Err}
use Rattle.std.specs.List.{All}
use Rattle.msr_tree.specs.Acts.{Acts}
use Rattle.msr_tree.specs.Calls.{DoesStep, Goes}
use Rattle.msr_tree.specs.Steps.{ChangesOnly, Path, Removed, Step, failures, now}
use Rattle.msr_tree.specs.declared.tree.TreeFault.{TreeFault}
use Rattle.msr_tree.specs.declared.tree.TreeFault.TheVariants as fault
use Rattle.msr_tree.proofs.Acting.{acts_does, giving, goes_as, stopping}
use Rattle.msr_tree.proofs.Changes.{changes_more, changes_none, changes_then}
use Rattle.msr_tree.proofs.Deeds.{without}
use Rattle.msr_naming.proofs.Begun.{goes_both}
use Rattle.msr_exchange.specs.Moves.{Clears}
use Rattle.msr_exchange.specs.Stamped.{all_parts_in, stamp_part_in}
use Rattle.msr_exchange.specs.Work.{parts_in}
use Rattle.msr_exchange.specs.declared.work.DayWork.{DayWork}
use Rattle.msr_replace.specs.Ways.{AreWays, BeginsFolder, RemovesOnly, goes_back, have_links}
use Rattle.msr_replace.specs.declared.ways.Ways.{Ways}

-- a name that leads to nothing is given no file by taking one away, done or not
none_does : {T : Type 0} (path : Path) (result : Result T TreeFault) (old new : List Step) → DoesStep (Removed path) result old new → (name : Path) → now old name ≡ None → now new name ≡ None
none_does path (Ok x) old new does name none = ap (λ (l : List Step). now l name) does ∙ without (Removed path) old name tt none
none_does path (Err fault.Memory) old new does name none = ap (λ (l : List Step). now l name) does ∙ none
none_does path (Err fault.Failed) old new does name none = ap (λ (l : List Step). now l name) does.2 ∙ ⊎_elim
    (λ same. ap (λ (l : List Step). now l name) same ∙ none)
    (λ done. ap (λ (l : List Step). now l name) done ∙ without (Removed path) old name tt none)
    does.1

pub removes_none : (names : List Path) (one : List Step → Type 0) → Goes one one (RemovesOnly names)
removes_none names one = record { from = λ new went. (new, went, record { changes = changes_none names new; none_given = λ name none. none }) }

pub removes_one : {T : Type 0} (path : Path) (result : Result T TreeFault) (one two : List Step → Type 0) → Goes one two (DoesStep (Removed path) result)
    → Goes one two (RemovesOnly (path ∷ []))
removes_one path result one two goes = goes_as _ _ one two
    (λ p q does. record {
      changes = (acts_does (path ∷ []) (Removed path) result p q (λ name none. none.0) does).changes;
      none_given = none_does path result p q does;
    }) goes

abbrev AreGone : DayWork → (folder : List ℕ) → (old new : List Step) → Type 0
AreGone work folder old new = ChangesOnly (all_parts_in work folder) old new × All (λ name. now new name ≡ None) (parts_in work folder)

abbrev pub FindsWays : DayWork → (folder : List ℕ) → (old new : List Step) → Ways → Type 0
FindsWays work folder old new ways = (new ≡ old) × AreWays work folder old ways

module _ (work : DayWork) (folder : List ℕ) where
  pub begun_stopped : (why : TreeFault) (one two : List Step → Type 0) → Goes one two (Acts [] (FindsWays work folder) (stopping Ways why))
      → Goes one two (BeginsFolder work folder (stopping Bool why))
  begun_stopped why one two goes = goes_as _ _ one two
      (λ p q acts. record {
        changes = changes_more [] (all_parts_in work folder) p q (λ n none. tt) acts.changes;
        cause = λ is. let so : why ≡ fault.Failed = cc in acts.cause (ap (λ w. Err w) so);
        leads = tt;
        cleared = tt;
      }) goes

  pub begun_unfinished : (ways : Ways) (why : TreeFault) (one mid two : List Step → Type 0) → Goes one mid (Acts [] (FindsWays work folder) (giving ways))
      → Goes mid two (Acts (parts_in work folder) (Clears {T = Unit {0}} (parts_in work folder)) (stopping (Unit {0}) why))
      → Goes one two (BeginsFolder work folder (stopping Bool why))
  begun_unfinished ways why one mid two looks clears =
      let whole = all_parts_in work folder in
      goes_both _ _ _ one mid two
      (λ p q r found acts. record {
        changes = changes_then whole p q r (changes_more [] whole p q (λ n none. tt) found.changes) (changes_more (parts_in work folder) whole q r (λ n none. none.1) acts.changes);
        cause = λ is. let so : why ≡ fault.Failed = cc in subst (λ s. failures s < failures r) found.does.0 (acts.cause (ap (λ w. Err w) so));
        leads = tt;
        cleared = tt;
      }) looks clears

  -- a link is on the way
  pub begun_passed : (ways : Ways) (one two : List Step → Type 0) → have_links ways ≡ true → Goes one two (Acts [] (FindsWays work folder) (giving ways))
      → Goes one two (BeginsFolder work folder (giving (goes_back ways.root ways.aside)))
  begun_passed ways one two links goes = goes_as _ _ one two
      (λ p q acts. record {
        changes = changes_more [] (all_parts_in work folder) p q (λ n none. tt) acts.changes;
        cause = λ is. cc;
        leads = (ways, acts.does.1, refl);
        cleared = inl (ways, acts.does.1, links, acts.changes);
      }) goes

  pub begun_cleared : (ways : Ways) (one mid three two : List Step → Type 0) → Goes one mid (Acts [] (FindsWays work folder) (giving ways))
      → Goes mid three (Acts (parts_in work folder) (Clears {T = Unit {0}} (parts_in work folder)) (giving tt))
      → Goes three two (RemovesOnly (stamp_part_in work folder ∷ [])) → Goes one two (BeginsFolder work folder (giving (goes_back ways.root ways.aside)))
  begun_cleared ways one mid three two looks clears stamp =
      let whole = all_parts_in work folder in
      goes_both _ _ _ one mid two
      (λ p q r found rest. record {
        changes = changes_then whole p q r (changes_more [] whole p q (λ n none. tt) found.changes) rest.0;
        cause = λ is. cc;
        leads = (ways, found.does.1, refl);
        cleared = inr rest.1;
      }) looks
      (goes_both _ _ (AreGone work folder) mid three two
      (λ p q r acts removes. (
        changes_then whole p q r (changes_more (parts_in work folder) whole p q (λ n none. none.1) acts.changes)
            (changes_more (stamp_part_in work folder ∷ []) whole q r (λ n none. (none.0, tt)) removes.changes),
        (λ k d inside. removes.none_given _ (acts.does.gone k d inside)),
      )) clears stamp)
