-- The names between the slashes of a path.
use Rattle.std.proofs.Common.{ℕ, ◌<◌, arith, Bool, true, false, List, [], length, refl, All}
use Rattle.std.specs.Bool.{Decides, MatchBool}
use Rattle.std.specs.List.{AllWithin, HoldsAt}
use Rattle.msr_sds.specs.Folders.{IsName, names_of}

-- what `all` gives over the names of a path
pub names_from_all : (path : List ℕ) (r : Bool) →
    MatchBool r (AllWithin IsName (names_of path) 0 (length (names_of path)))
    ((k : ℕ) × (k < length (names_of path)) × HoldsAt (λ name. ¬ (IsName name)) (names_of path) k) →
    Decides r (All IsName (names_of path))
names_from_all path true h = (λ _ k d lt. h k d (omega arith) lt, λ _. refl)
names_from_all path false h = (λ e. absurd cc, λ all. absurd (h.2 [] (all h.0 [] h.1)))
