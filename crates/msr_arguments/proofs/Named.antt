-- What clap reads of a text is the number or the flag that the text is.
use Rattle.std.proofs.Common.{◌≡◌, refl, ℕ, Bool, true, false, List, Option, None, Some, Result, codes, ap}
use Rattle.std.specs.Str.Parse.{ParsesUnsigned}
use Rattle.clap.specs.Words.{ReadsOne}
use Rattle.msr_arguments.specs.Found.{IsFlagOf, IsNumberOf}

pub number_read : (E : Type 0) (gives : List ℕ → Result ℕ E → Type 0) (text : Option (List ℕ)) (number : Option ℕ) →
    ((given : List ℕ) (result : Result ℕ E) → gives given result → ParsesUnsigned 32 10 given result) →
    (text ≡ None → number ≡ None) →
    ((given : List ℕ) → text ≡ Some given → ReadsOne gives given number) → IsNumberOf text number
number_read E gives None number parses none some = none refl
number_read E gives (Some given) None parses none some =
    let failed = some given refl in
    parses given _ failed.1
number_read E gives (Some given) (Some number) parses none some = parses given _ (some given refl)

pub flag_read : (text : Option (List ℕ)) (flag : Bool) → (text ≡ None → flag ≡ false) →
    (text ≡ Some (codes "true") → flag ≡ true) → (text ≡ Some (codes "false") → flag ≡ false) → IsFlagOf text flag
flag_read None flag none set unset = none refl
flag_read (Some given) flag none set unset = (λ is. set (ap Some is), λ is. unset (ap Some is))
