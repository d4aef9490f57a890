-- A path without the slash at its end.
use Rattle.std.proofs.Common.{◌≡◌, ◌≢◌, ◌∙◌, ◌==◌, arith, ℕ, Bool, false, cond, List, [], ◌∷◌, ◌++◌, map, refl, ap, sym, Option, None, Some}
use Rattle.std.proofs.lemmas.Bool.Decides.{nat_tests}
use Rattle.std.specs.Option.{MatchOption, unwrap_or}
use Rattle.msr_arguments.specs.Found.{without_slash}
use denote.Ref.{Bor}

slash_goes : (front : List ℕ) → without_slash (front ++ (47 ∷ [])) ≡ front
slash_goes [] = refl
slash_goes (byte ∷ []) = refl
slash_goes (byte ∷ next ∷ front) = ap (λ (l : List ℕ). byte ∷ l) (slash_goes (next ∷ front))

other_stays : (byte : ℕ) → byte ≢ 47 → cond (byte == 47) [] (byte ∷ []) ≡ byte ∷ []
other_stays byte other =
    let no : (byte == 47) ≡ false = grind (arith, nat_tests) in
    ap (λ (b : Bool). cond b [] (byte ∷ [])) no

path_stays : (path : List ℕ) → ((front : List ℕ) → path ≢ front ++ (47 ∷ [])) → without_slash path ≡ path
path_stays [] other = refl
path_stays (byte ∷ []) other = other_stays byte (λ is. other [] (ap (λ (b : ℕ). b ∷ []) is))
path_stays (byte ∷ next ∷ path) other =
    ap (λ (l : List ℕ). byte ∷ l)
    (path_stays (next ∷ path) (λ front is. other (byte ∷ front) (ap (λ (l : List ℕ). byte ∷ l) is)))

pub slash_stripped : (folder : Bor (List ℕ)) (stripped : Option (Bor (List ℕ))) →
    MatchOption stripped ((front : List ℕ) → folder.now ≢ front ++ (47 ∷ [])) (λ x. folder.now ≡ x.now ++ (47 ∷ [])) →
    (unwrap_or stripped folder).now ≡ without_slash folder.now
slash_stripped folder None other = sym (path_stays folder.now other)
slash_stripped folder (Some x) is = sym (ap without_slash is ∙ slash_goes x.now)

pub all_stripped : (folders : List (Bor (List ℕ))) →
    map (λ folder. without_slash folder.now) folders ≡ map without_slash (map (λ folder. folder.now) folders)
all_stripped [] = refl
all_stripped (folder ∷ folders) =
    ap (λ (l : List (List ℕ)). without_slash folder.now ∷ l) (all_stripped folders)
