-- What a step changes of what a crash may leave.
use Rattle.std.proofs.Common.{◌≡◌, ◌⊎◌, inl, inr, ⊎_elim, ℕ, Bool, true, false, ◌||◌, List, [], ◌∷◌, refl, if◌then◌else◌, subst, Option, Some, None, option_map}
use Rattle.std.specs.Str.{bytes_eq}
use Rattle.std.proofs.lemmas.Slice.Eq.{bytes_eq-Decides}
use Rattle.msr_tree.specs.Steps.{Failed, File, FileStored, FolderMade, FolderStored, IfThenElse, IsStored, Leaves, Linked, Made, MayLead, MayLeave, Path, Removed, Renamed, ShowsAfter, Step, Unlisted, now, seen, stands_in, touches}

both : {P Q : Type 0} (test : Bool) → P → Q → IfThenElse test P Q
both true p q = p
both false p q = q

either : {P Q : Type 0} (test : Bool) → IfThenElse test P Q → P ⊎ Q
either true p = inl p
either false q = inr q

chosen : (P Q : Type 0) (test : Bool) → test ≡ true → IfThenElse test P Q → P
chosen P Q test is p = subst (λ t. IfThenElse t P Q) is p

-- a name may lead to where it leads now
pub leads_now : (past : List Step) (name : Path) → MayLead past name (now past name)
leads_now [] name = refl
leads_now (Made at bytes ∷ past) name = inr refl
leads_now (Linked from to ∷ past) name = inr refl
leads_now (Renamed from to ∷ past) name = inr refl
leads_now (Removed at ∷ past) name = inr refl
leads_now (FileStored at ∷ past) name = inr refl
leads_now (FolderStored at ∷ past) name = both (stands_in at name) refl (leads_now past name)
leads_now (FolderMade at ∷ past) name = inr refl
leads_now (Unlisted at ∷ past) name = inr refl
leads_now (Failed ∷ past) name = inr refl

shows_seen : (past : List Step) (found : Option File) → ShowsAfter past found (option_map (λ file. file.bytes) found)
shows_seen past None = refl
shows_seen past (Some file) = λ stored. refl

-- a crash may leave what is seen now
pub leaves_seen : (past : List Step) (name : Path) → MayLeave past name (seen past name)
leaves_seen past name = record { found = now past name; leads = leads_now past name; shows = shows_seen past (now past name) }

-- what is stored stays so
pub stays : (step : Step) (past : List Step) (file : File) → IsStored past file → IsStored (step ∷ past) file
stays (Made at bytes) past file stored = stored
stays (Linked from to) past file stored = stored
stays (Renamed from to) past file stored = stored
stays (Removed at) past file stored = stored
stays (FileStored at) past file stored = inl stored
stays (FolderStored at) past file stored = stored
stays (FolderMade at) past file stored = stored
stays (Unlisted at) past file stored = stored
stays Failed past file stored = stored

fewer : (step : Step) (past : List Step) (found : Option File) (after : Option (List ℕ)) → ShowsAfter (step ∷ past) found after → ShowsAfter past found after
fewer step past None after shows = shows
fewer step past (Some file) after shows = λ stored. shows (stays step past file stored)

-- after a step a name may lead to where it might before, or where it leads now
leads : (step : Step) (past : List Step) (name : Path) (found : Option File) → MayLead (step ∷ past) name found → MayLead past name found ⊎ (found ≡ now (step ∷ past) name)
leads (Made at bytes) past name found may = may
leads (Linked from to) past name found may = may
leads (Renamed from to) past name found may = may
leads (Removed at) past name found may = may
leads (FileStored at) past name found may = may
leads (FolderStored at) past name found may = ⊎_elim (λ same. inr same) (λ before. inl before) (either (stands_in at name) may)
leads (FolderMade at) past name found may = may
leads (Unlisted at) past name found may = may
leads Failed past name found may = may

-- after a step a crash may leave what it might before, or what the name leads to now
pub leaves : (step : Step) (past : List Step) (name : Path) (after : Option (List ℕ)) → MayLeave (step ∷ past) name after → MayLeave past name after ⊎ ShowsAfter (step ∷ past) (now (step ∷ past) name) after
leaves step past name after may =
    ⊎_elim
    (λ before. inl (record { found = may.found; leads = before; shows = fewer step past may.found after may.shows }))
    (λ same. inr (subst (λ found. ShowsAfter (step ∷ past) found after) same may.shows))
    (leads step past name may.found may.leads)

-- a step that leaves a name alone
pub quiet : (step : Step) (past : List Step) (name : Path) (after : Option (List ℕ)) → now (step ∷ past) name ≡ now past name → MayLeave (step ∷ past) name after → MayLeave past name after
quiet step past name after same may =
    ⊎_elim
    (λ before. before)
    (λ shows. record {
      found = now past name;
      leads = leads_now past name;
      shows = fewer step past (now past name) after (subst (λ found. ShowsAfter (step ∷ past) found after) same shows);
    })
    (leaves step past name after may)

-- once its folder is stored, a name leads where it leads now
pub settled : (at : Path) (past : List Step) (name : Path) (after : Option (List ℕ)) → stands_in at name ≡ true → MayLeave (FolderStored at ∷ past) name after → ShowsAfter past (now past name) after
settled at past name after beside may =
    fewer (FolderStored at) past (now past name) after
    (subst (λ found. ShowsAfter (FolderStored at ∷ past) found after) (chosen _ _ (stands_in at name) beside may.leads) may.shows)

-- a name that leads to a stored file shows it
pub is_of : (past : List Step) (found : Option File) (file : File) (after : Option (List ℕ)) → found ≡ Some file → IsStored past file → ShowsAfter past found after → after ≡ Some file.bytes
is_of past found file after is stored shows = let whole : ShowsAfter past (Some file) after = subst (λ f. ShowsAfter past f after) is shows in whole stored

-- what is seen under a name is in a file
pub file_of : (found : Option File) (bytes : List ℕ) → option_map (λ file. file.bytes) found ≡ Some bytes → (file : File) × (found ≡ Some file) × (file.bytes ≡ bytes)
file_of None bytes is = cc
file_of (Some file) bytes is = (file, refl, cc)

pub is_self : (name : Path) → bytes_eq name name ≡ true
is_self name = (bytes_eq-Decides name name).1 refl

-- a step that does not touch a name
pub untouched : (step : Step) (past : List Step) (name : Path) → touches step name ≡ false → now (step ∷ past) name ≡ now past name
untouched (Made at bytes) past name not = rw not refl
untouched (Linked from to) past name not = rw not refl
untouched (Renamed from to) past name not = two (bytes_eq name to) (bytes_eq name from) not
  where
    two : (one other : Bool) → (one || other) ≡ false → (if one then now past from else if other then None else now past name) ≡ now past name
    two false false is = refl
    two true other is = cc
    two false true is = cc
untouched (Removed at) past name not = rw not refl
untouched (FileStored at) past name not = refl
untouched (FolderStored at) past name not = refl
untouched (FolderMade at) past name not = refl
untouched (Unlisted at) past name not = refl
untouched Failed past name not = refl

-- what a crash leaves goes on while a name is left alone
pub still : (step : Step) (past : List Step) (name : Path) (what : Option (List ℕ)) → touches step name ≡ false → Leaves past name what → Leaves (step ∷ past) name what
still step past name what not leaves_it after may = leaves_it after (quiet step past name after (untouched step past name not) may)
