-- What there always is: an answer whether a run fits, a kind that is tried first, a canonical division.
use Rattle.std.specs.Prelude.{ℕ, ◌⊎◌, ℤ, List}
use Rattle.msr_base.specs.declared.storage.Version.{Version}
use Rattle.msr_base.specs.declared.kinds.Kind.{Kind}
use Rattle.msr_words.specs.Fit.{Records, FitsAny, IsFirstKind}
use Rattle.msr_words.specs.Canonical.{IsCanonicalDivision}
use Rattle.msr_words.specs.Division.{CanDivide}

-- it holds, or it does not
abbrev pub Decided : Type 0 → Type 0
Decided P = P ⊎ (P → ⊥)

-- a run fits one of some records, or it fits none
abbrev pub FittingIsDecided : Type 0
FittingIsDecided = (records : Records) (run : List (ℤ × ℤ)) → Decided (FitsAny records run)

-- of the kinds that a run fits, one is tried first
abbrev pub FirstKindExists : Type 0
FirstKindExists = (records : Records) (run : List (ℤ × ℤ)) → FitsAny records run
    → (kind : Kind) × IsFirstKind records run kind

-- differences that can be divided have a canonical division
abbrev pub DivisionExists : Type 0
DivisionExists = (version : Version) (words : ℕ) (ds : List ℤ) → CanDivide version words ds
    → (groups : List (List ℤ)) × IsCanonicalDivision version groups ds
