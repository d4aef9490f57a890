-- Lines that are known, and what stands after a beginning.
use Rattle.std.proofs.Common.{arith, ◌≡◌, ◌≢◌, ◌∙◌, ◌||◌, ◌==◌, ◌≤◌, ℕ, suc, zero, ◌+◌, Bool, true, false, if◌then◌else◌, List, [], ◌∷◌, ◌++◌, drop, length, refl, ap, sym, Option, None, Some, String}
use Rattle.std.proofs.lemmas.Bool.Decides.{nat_tests}
use Rattle.std.proofs.lemmas.List.{drop_all, length-map}
use Rattle.std.specs.List.{list_any, slice_get}
use Rattle.std.specs.Option.{option_or}
use Rattle.std.specs.Str.{bytes_eq}
use Rattle.std.specs.String.{string_bytes, string_eq}
use Rattle.indexmap.specs.IndexSet.{insert_key}
use Rattle.msr_options.specs.Known.{has_line, rest_after, text_after}
use Rattle.msr_options.specs.Texts.{texts_of}

-- a set of texts has a line as their bytes do
pub has_texts : {Z : Type 0} (line : List ℕ) (keys : List (String Z))
    → list_any (λ key. bytes_eq line (string_bytes key)) keys ≡ has_line (texts_of keys) line
has_texts line [] = refl
has_texts line (key ∷ keys) = ap (λ rest. bytes_eq line (string_bytes key) || rest) (has_texts line keys)

texts_more : {Z : Type 0} (keys : List (String Z)) (key : String Z) → texts_of (keys ++ key ∷ []) ≡ texts_of keys ++ string_bytes key ∷ []
texts_more [] key = refl
texts_more (one ∷ keys) key = ap (λ more. string_bytes one ∷ more) (texts_more keys key)

-- one text more
pub texts_insert : {Z : Type 0} (keys : List (String Z)) (key : String Z)
    → texts_of (insert_key string_eq keys key)
    ≡ (if has_line (texts_of keys) (string_bytes key) then texts_of keys else texts_of keys ++ string_bytes key ∷ [])
texts_insert keys key = by (list_any (string_eq key) keys) refl
  where
    by : (b : Bool) → list_any (string_eq key) keys ≡ b → texts_of (insert_key string_eq keys key)
        ≡ (if has_line (texts_of keys) (string_bytes key) then texts_of keys else texts_of keys ++ string_bytes key ∷ [])
    by true there = rw (there, sym (has_texts (string_bytes key) keys) ∙ there) refl
    by false other = rw (other, sym (has_texts (string_bytes key) keys) ∙ other) (texts_more keys key)

-- a line that has the beginning
after_begun : (beginning rest : List ℕ) → rest_after beginning (beginning ++ rest) ≡ Some rest
after_begun [] rest = refl
after_begun (one ∷ beginning) rest =
    let same : (one == one) ≡ true = grind (arith, nat_tests) in
    rw same (after_begun beginning rest)

-- what is found has it before
begun_of : (beginning line rest : List ℕ) → rest_after beginning line ≡ Some rest → line ≡ beginning ++ rest
begun_of [] line rest is = cc
begun_of (one ∷ beginning) [] rest is = absurd cc
begun_of (one ∷ beginning) (other ∷ line) rest is = by (one == other) refl is (begun_of beginning line rest)
  where
    by : (b : Bool) → (one == other) ≡ b → (if b then rest_after beginning line else None) ≡ Some rest
        → (rest_after beginning line ≡ Some rest → line ≡ beginning ++ rest) → other ∷ line ≡ one ∷ (beginning ++ rest)
    by true same found more =
        let equal : one ≡ other = grind (arith, nat_tests) in
        rw (← equal) (ap (λ (l : List ℕ). one ∷ l) (more found))
    by false differ found more = absurd cc

-- a line that has it nowhere
pub none_begun : (beginning line : List ℕ) → ((rest : List ℕ) → line ≢ beginning ++ rest) → rest_after beginning line ≡ None
none_begun beginning line never = by (rest_after beginning line) refl
  where
    by : (found : Option (List ℕ)) → rest_after beginning line ≡ found → rest_after beginning line ≡ None
    by None is = is
    by (Some rest) is = absurd (never rest (begun_of beginning line rest is))

-- what is stripped is what stands after
pub stripped : (beginning line rest : List ℕ) (n : ℕ) → line ≡ beginning ++ drop n line → rest ≡ drop n line → rest_after beginning line ≡ Some rest
stripped beginning line rest n begun is =
    ap (rest_after beginning) begun ∙ after_begun beginning (drop n line) ∙ ap Some (sym is)

pub texts_at : {Z : Type 0} (keys : List (String Z)) (place : ℕ) (key : String Z) → slice_get keys place ≡ Some key
    → slice_get (texts_of keys) place ≡ Some (string_bytes key)
texts_at [] place key there = absurd cc
texts_at (one ∷ keys) zero key there =
    let same : one ≡ key = cc in
    rw same refl
texts_at (one ∷ keys) (suc place) key there = texts_at keys place key there

-- past the last line none is left
pub none_left : (beginning : List ℕ) (lines : List (List ℕ)) (place : ℕ) → length lines ≤ place
    → text_after beginning (drop place lines) ≡ None
none_left beginning lines place past = rw (drop_all place lines past) refl

-- a line at a place, and those from it on
from_place : (beginning line : List ℕ) (lines : List (List ℕ)) (place : ℕ) → slice_get lines place ≡ Some line
    → text_after beginning (drop place lines) ≡ option_or (rest_after beginning line) (text_after beginning (drop (suc place) lines))
from_place beginning line [] place there = absurd cc
from_place beginning line (one ∷ lines) zero there =
    let same : one ≡ line = cc in
    rw same refl
from_place beginning line (one ∷ lines) (suc place) there = from_place beginning line lines place there

pub length_texts : {Z : Type 0} (keys : List (String Z)) → length (texts_of keys) ≡ length keys
length_texts keys = length-map keys string_bytes

pub from_some : (beginning line rest : List ℕ) (lines : List (List ℕ)) (place : ℕ) → slice_get lines place ≡ Some line
    → rest_after beginning line ≡ Some rest → text_after beginning (drop place lines) ≡ Some rest
from_some beginning line rest lines place there begins =
    from_place beginning line lines place there
    ∙ ap (λ found. option_or found (text_after beginning (drop (suc place) lines))) begins

pub from_none : (beginning line : List ℕ) (lines : List (List ℕ)) (place : ℕ) → slice_get lines place ≡ Some line
    → rest_after beginning line ≡ None → text_after beginning (drop place lines) ≡ text_after beginning (drop (place + 1) lines)
from_none beginning line lines place there none =
    let next : suc place ≡ place + 1 = omega arith in
    from_place beginning line lines place there
    ∙ ap (λ found. option_or found (text_after beginning (drop (suc place) lines))) none
    ∙ ap (λ n. text_after beginning (drop n lines)) next
