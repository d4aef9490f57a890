-- A walk that changes what it walks, put together from its visits.
use Rattle.std.proofs.Common.{◌≡◌, ℕ, Bool, true, false, List, [], ◌∷◌, ◌++◌, refl, sym, ◌∙◌, ap, subst, append_assoc, Option, None, Some}
use Rattle.msr_devices.specs.Device.{Device}
use Rattle.msr_devices.proofs.Chaining.{calm_same}
use Rattle.msr_tree.specs.Steps.{Failed, Step, Unlisted}
use Rattle.msr_folders.specs.Stopping.{AreStopped, AreTold, AreToldFirst, ComesAfter, TellsUntil, entries_of}
use Rattle.msr_folders.specs.Visits.{StopsAt, TellsInPart, TellsThese}
use Rattle.msr_folders.specs.Walks.{VisitLaws}
use Rattle.msr_folders.proofs.VisitLemmas.{part_none, stops_more, these_more, these_none}

module _ {E : Type 0} where
  entries_append : (one two : List (Option E)) → entries_of (one ++ two) ≡ entries_of one ++ entries_of two
  entries_append [] two = refl
  entries_append (Some entry ∷ one) two = ap (λ l. entry ∷ l) (entries_append one two)
  entries_append (None ∷ one) two = entries_append one two

  both_told : (one two : List (Option E)) → AreTold one → AreTold two → AreTold (one ++ two)
  both_told [] two a b = b
  both_told (Some entry ∷ one) two a b = both_told one two a b
  both_told (None ∷ one) two a b = absurd a

  both_stopped : (one two : List (Option E)) → AreStopped one → AreStopped two → AreStopped (one ++ two)
  both_stopped [] two a b = b
  both_stopped (Some entry ∷ one) two a b = absurd a
  both_stopped (None ∷ one) two a b = both_stopped one two a b

  stopped_first : (said : List (Option E)) → AreStopped said → AreToldFirst said
  stopped_first [] a = tt
  stopped_first (Some entry ∷ said) a = absurd a
  stopped_first (None ∷ said) a = a

  told_then : (one two : List (Option E)) → AreTold one → AreToldFirst two → AreToldFirst (one ++ two)
  told_then [] two a b = b
  told_then (Some entry ∷ one) two a b = told_then one two a b
  told_then (None ∷ one) two a b = absurd a

  stopped_then : (one two : List (Option E)) → AreToldFirst one → AreStopped two → AreToldFirst (one ++ two)
  stopped_then [] two a b = stopped_first two b
  stopped_then (Some entry ∷ one) two a b = stopped_then one two a b
  stopped_then (None ∷ one) two a b = both_stopped one two a b

pub not_both : (b : Bool) → b ≡ true → b ≡ false → ⊥
not_both b is isnt = let false_one : true ≡ false = sym is ∙ isnt in differ false_one
  where
    differ : true ≡ false → ⊥
    differ e = subst holds e tt
      where
        holds : Bool → Type 0
        holds true = Unit {0}
        holds false = ⊥

pub later_still : (past : List Step) → ComesAfter past past
later_still past = record { made = []; since = refl }

pub later_then : (old mid new : List Step) → ComesAfter old mid → ComesAfter mid new → ComesAfter old new
later_then old mid new first second = record {
  made = second.made ++ first.made;
  since = second.since ∙ ap (λ l. second.made ++ l) first.since ∙ sym (append_assoc second.made first.made old);
}

module _ {E T : Type 0} (is_entry : E → Type 0) (is_line : E → List ℕ → Type 0) (is_tally : List E → T → Type 0) (has_failed : T → Bool) where
  abbrev Until : List (Option E) → (out0 out : Device) (tally0 tally : T) → Type 0
  Until said out0 out tally0 tally = TellsUntil is_entry is_line is_tally has_failed said out0 out tally0 tally

  -- nothing is told
  pub until_none : (out : Device) (tally : T) → Until [] out out tally tally
  until_none out tally = record {
    told = these_none is_entry is_line is_tally out tally;
    first = tt;
    after = λ is. (tt, is);
    all = λ none. tt;
  }

  -- nothing more is begun
  pub until_stopped : (out : Device) (tally : T) → has_failed tally ≡ true → Until (None ∷ []) out out tally tally
  until_stopped out tally failed = record {
    told = these_none is_entry is_line is_tally out tally;
    first = tt;
    after = λ is. (tt, is);
    all = λ none. absurd (not_both (has_failed tally) failed none);
  }

  -- one line
  pub until_line : (entry : E) (out0 out : Device) (tally0 tally : T) → has_failed tally0 ≡ false
      → TellsThese is_entry is_line is_tally (entry ∷ []) out0 out tally0 tally → Until (Some entry ∷ []) out0 out tally0 tally
  until_line entry out0 out tally0 tally going told = record {
    told = told;
    first = tt;
    after = λ failed. absurd (not_both (has_failed tally0) failed going);
    all = λ none. tt;
  }

  pub until_more : (one two : List (Option E)) (out0 out1 out : Device) (tally0 tally1 tally : T) → Until one out0 out1 tally0 tally1 → Until two out1 out tally1 tally
      → Until (one ++ two) out0 out tally0 tally
  until_more one two out0 out1 out tally0 tally1 tally first second = record {
    told = subst (λ l. TellsThese is_entry is_line is_tally l out0 out tally0 tally) (sym (entries_append one two))
        (these_more is_entry is_line is_tally (entries_of one) (entries_of two) out0 out1 out tally0 tally1 tally first.told second.told);
    first = in_order (has_failed tally1) refl;
    after = λ failed.
        let a = first.after failed in
        let b = second.after a.1 in
        (both_stopped one two a.0 b.0, b.1);
    all = λ none. whole none (has_failed tally1) refl;
  }
    where
      in_order : (failed : Bool) → has_failed tally1 ≡ failed → AreToldFirst (one ++ two)
      in_order false e = told_then one two (first.all e) second.first
      in_order true e = stopped_then one two first.first (second.after e).0

      whole : has_failed tally ≡ false → (failed : Bool) → has_failed tally1 ≡ failed → AreTold (one ++ two)
      whole none false e = both_told one two (first.all e) (second.all none)
      whole none true e = absurd (not_both (has_failed tally) (second.after e).1 none)

  -- the laws of a visitor that tells entries until something fails
  pub stopping_laws : {V : Type 0} → VisitLaws {V = V} {L = Option E} {T = T} (λ visitor. TellsUntil is_entry is_line is_tally has_failed)
      (λ visitor out0 out. StopsAt (TellsInPart is_entry is_line out0 out) out0 out) (λ visitor goes_on. ComesAfter) (λ visitor. ComesAfter)
  stopping_laws = record {
    calm = λ visitor said out0 out tally0 tally told. told.told.told.calm;
    none = λ visitor. until_none;
    more = λ visitor. until_more;
    refused = λ visitor out. (part_none is_entry is_line out, (calm_same out).steady);
    later = λ visitor said out0 out1 out tally0 tally1 fault told stopped. stops_more is_entry is_line is_tally out0 out1 out tally0 tally1 fault told.told.told stopped;
    still = λ visitor. later_still;
    onward = λ visitor goes_on. later_then;
    ends = λ visitor old new later. later;
    rests = λ visitor. later_still;
    rests_on = λ visitor. later_then;
    resting = λ visitor old new later. later;
    unlisted = λ visitor past folder. record { made = Failed ∷ Unlisted folder ∷ []; since = refl };
  }
