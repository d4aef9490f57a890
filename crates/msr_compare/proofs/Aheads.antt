-- What stands ahead of a side.
use Rattle.std.proofs.Common.{◌≡◌, ℕ, ◌+◌, min, Bool, false, List, [], ◌∷◌, ◌++◌, length, map, drop, refl, sym, ap, ◌∙◌, drop-drop, ℤ, Some}
use Rattle.std.proofs.lemmas.List.{drop_min}
use Rattle.msr_rows.specs.declared.row.Row.{Row}
use Rattle.msr_compare.specs.Symbols.{Symbol, Opens, Holds, held_in, row_ahead}
use Rattle.msr_compare.proofs.Symbols.{held_ahead, held_map}
use Rattle.msr_compare.specs.Meetings.{HoldsNone, HoldsNext}

-- where no sample is ahead, none is of what is ahead with more after it, if there is more only after something
pub none_held_more : (ahead more : List Symbol) → HoldsNone ahead → (ahead ≡ [] → more ≡ []) → HoldsNone (ahead ++ more)
none_held_more [] more none end sample rest e = let nothing : more ≡ [] = end refl in cc
none_held_more (Opens key start ∷ ahead) more none end sample rest e = cc
none_held_more (Holds x ∷ ahead) more none end sample rest e = none x ahead refl

-- only samples are ahead: none of them, or some
pub none_next : {ahead : List Symbol} (samples : List ℤ) → map Holds samples ≡ ahead → held_in ahead ≡ [] → ahead ≡ []
none_next samples e none = sym e ∙ ap (map Holds) (sym (held_map samples) ∙ ap held_in e ∙ none)

pub held_next : {ahead : List Symbol} (samples : List ℤ) → map Holds samples ≡ ahead → (held_in ahead ≡ [] → ⊥)
    → HoldsNext ahead
held_next [] e some = absurd (some (ap held_in (sym e)))
held_next (x ∷ xs) e some = record { sample = x; samples = xs; ahead_is = sym e }

pub held_row : {ahead : List Symbol} (row : Row) (begins : Bool) (passed : ℕ)
    → row_ahead (Some row) begins passed ≡ ahead → drop passed row.samples ≡ held_in ahead
held_row row begins passed view = sym (held_ahead row begins passed) ∙ ap held_in view

-- more of the row is passed, as far as it goes
pub more_passed : {ahead : List Symbol} (row : Row) (begins : Bool) (passed count new : ℕ)
    → row_ahead (Some row) begins passed ≡ ahead → new ≡ min (passed + count) (length row.samples)
    → row_ahead (Some row) false new ≡ map Holds (drop count (held_in ahead))
more_passed row begins passed count new view e =
    ap (map Holds) (ap (λ (n : ℕ). drop n row.samples) e ∙ drop_min (passed + count) row.samples
    ∙ sym (drop-drop count passed row.samples) ∙ ap (drop count) (held_row row begins passed view))
