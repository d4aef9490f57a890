-- A text that is cut at separators.
use Rattle.std.proofs.Common.{◌≡◌, ◌≢◌, ℕ, ◌<◌, List, ◌∷◌, ◌++◌, Option, None, Some, Bor, IfSome, IsSomeAnd, MatchOption, sym, refl, ◌∙◌}
use Rattle.std.proofs.lemmas.List.{append_cancel_left}
use Rattle.std.proofs.lemmas.Str.Pattern.{IsSplitOnceResult, split_after}
use Rattle.msr_sds.specs.Separators.{Lacks, slash, dot}
use Rattle.msr_sds.specs.SdsPath.{SdsPath, in_folders}

-- a cut at the first separator gives what stands before it and after it
pub cut_only : (c : ℕ) (text : List ℕ) (r : Option (Bor (List ℕ) × Bor (List ℕ)))
    → IsSplitOnceResult c text r → c < 128
    → (first rest : List ℕ) → Lacks c first → text ≡ first ++ c ∷ rest
    → IsSomeAnd r (λ x. (x.0.now ≡ first) × (x.1.now ≡ rest))
cut_only c text None cut ascii first rest lacks e =
    split_after c text first rest None cut ascii e (λ i inside. lacks i 0 inside)
cut_only c text (Some x) cut ascii first rest lacks e =
    split_after c text first rest (Some x) cut ascii e (λ i inside. lacks i 0 inside)

-- what follows a part and a dot
pub strip_found : (text part after : List ℕ) (r : Option (Bor (List ℕ))) → text ≡ part ++ after
    → MatchOption r ((rest : List ℕ) → after ≢ dot ∷ rest) (λ x. after ≡ dot ∷ x.now)
    → IfSome r (λ x. text ≡ part ++ dot ∷ x.now)
strip_found text part after None e none = tt
strip_found text part after (Some x) e found = rw found at e

-- and only that
pub strip_only : (text part after : List ℕ) (r : Option (Bor (List ℕ))) → text ≡ part ++ after
    → MatchOption r ((rest : List ℕ) → after ≢ dot ∷ rest) (λ x. after ≡ dot ∷ x.now)
    → (rest : List ℕ) → text ≡ part ++ dot ∷ rest → IsSomeAnd r (λ x. x.now ≡ rest)
strip_only text part after None e none rest same =
    absurd (none rest (append_cancel_left part after (dot ∷ rest) (sym e ∙ same)))
strip_only text part after (Some x) e found rest same =
    let stays = append_cancel_left part after (dot ∷ rest) (sym e ∙ same) in cc

-- what follows each folder of a path
abbrev pub after_channel : SdsPath → List ℕ → List ℕ
after_channel p file = p.data_type ++ slash ∷ file

abbrev pub after_station : SdsPath → List ℕ → List ℕ
after_station p file = p.channel ++ dot ∷ after_channel p file

abbrev pub after_network : SdsPath → List ℕ → List ℕ
after_network p file = p.station ++ slash ∷ after_station p file

abbrev pub after_year : SdsPath → List ℕ → List ℕ
after_year p file = p.network ++ slash ∷ after_network p file

-- a text that was cut at each separator of the folders
pub folders_found : (p : SdsPath) (text a b c d file : List ℕ)
    → text ≡ p.year ++ slash ∷ a → a ≡ p.network ++ slash ∷ b → b ≡ p.station ++ slash ∷ c
    → c ≡ p.channel ++ dot ∷ d → d ≡ p.data_type ++ slash ∷ file → text ≡ in_folders p file
folders_found p text a b c d file ea eb ec ed ee = rw ea (rw eb (rw ec (rw ed (rw ee refl))))

-- a file's name from each of its parts on
abbrev pub from_year : SdsPath → List ℕ
from_year p = p.year ++ dot ∷ p.day

abbrev pub from_data_type : SdsPath → List ℕ
from_data_type p = p.data_type ++ dot ∷ from_year p

abbrev pub from_channel : SdsPath → List ℕ
from_channel p = p.channel ++ dot ∷ from_data_type p

abbrev pub from_location : SdsPath → List ℕ
from_location p = p.location ++ dot ∷ from_channel p

abbrev pub from_station : SdsPath → List ℕ
from_station p = p.station ++ dot ∷ from_location p
