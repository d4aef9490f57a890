-- An area has one outcome.
use Rattle.std.proofs.Common.{◌≡◌, ◌<◌, ◌≤◌, ℕ, zero, suc, ◌+◌, ℤ, ◌+ℤ◌, List, [], ◌∷◌, ◌++◌, length, take, drop, get_or, refl, sym, ap, ◌∙◌, arith, length-append, ⊎_elim}
use Rattle.std.specs.Int.{int_wrap, w32}
use Rattle.std.proofs.lemmas.List.{ext_get_or}
use Rattle.std.proofs.lemmas.Bool.{cases_lt}
use Rattle.std.proofs.lemmas.Grind.{flat_map-append}
use Rattle.std.proofs.lemmas.List.{take-append-drop, take-append-le, length-take, get_or-take}
use Rattle.msr_base.specs.declared.order.Order.{Order}
use Rattle.msr_base.specs.declared.storage.Version.{Version}
use Rattle.msr_steim.specs.Area.{CarriesSteim, EndsBefore, FirstWordsHold, IsUndefined, IsUndefinedBefore, arranged_word, constant, joined_groups, samples_of, sums_after, word_code}
use Rattle.msr_steim.proofs.OneList.{holds_one, undefined_holds_none}
use Rattle.msr_steim.proofs.Decoding.{length-samples_of}

-- the first words hold one list of groups
same_groups : (version : Version) (order : Order) (area : List ℕ) (gs hs : List (List ℤ))
    → FirstWordsHold version order area gs → FirstWordsHold version order area hs → length gs ≤ length hs
    → gs ≡ take (length gs) hs
same_groups version order area gs hs f g few =
    ext_get_or [] gs (take (length gs) hs) (sym (length-take (length gs) hs ∙ omega arith))
    (λ k (within : k < length gs). holds_one version (word_code order area k)
    (arranged_word version order (word_code order area k) area k) (get_or gs k []) (get_or (take (length gs) hs) k [])
    (f.each k within) (rw (get_or-take (length gs) hs k [] within) (g.each k (omega arith))))

-- so the differences of fewer words begin those of more
more_differences : (version : Version) (order : Order) (area : List ℕ) (gs hs : List (List ℤ))
    → FirstWordsHold version order area gs → FirstWordsHold version order area hs → length gs ≤ length hs
    → joined_groups hs ≡ joined_groups gs ++ joined_groups (drop (length gs) hs)
more_differences version order area gs hs f g few =
    ap joined_groups (sym (take-append-drop (length gs) hs))
    ∙ flat_map-append (λ g. g) (take (length gs) hs) (drop (length gs) hs)
    ∙ ap (λ xs. joined_groups xs ++ joined_groups (drop (length gs) hs))
    (sym (same_groups version order area gs hs f g few))

fewer_differences : (version : Version) (order : Order) (area : List ℕ) (gs hs : List (List ℤ))
    → FirstWordsHold version order area gs → FirstWordsHold version order area hs → length gs ≤ length hs
    → length (joined_groups gs) ≤ length (joined_groups hs)
fewer_differences version order area gs hs f g few =
    let e : length (joined_groups hs) ≡ length (joined_groups gs) + length (joined_groups (drop (length gs) hs)) =
    ap length (more_differences version order area gs hs f g few)
    ∙ length-append (joined_groups gs) (joined_groups (drop (length gs) hs)) in
    omega arith

-- words that hold too few differences are no more than those that hold enough
enough_after : (version : Version) (order : Order) (area : List ℕ) (gs hs : List (List ℤ)) (count : ℕ)
    → FirstWordsHold version order area gs → FirstWordsHold version order area hs → length (joined_groups gs) < count
    → count ≤ length (joined_groups hs) → length gs < length hs
enough_after version order area gs hs count f g few enough =
    ⊎_elim (λ (lt : length gs < length hs). lt)
    (λ (ge : length hs ≤ length gs). let h = fewer_differences version order area hs gs g f ge in absurd (omega arith))
    (cases_lt (length gs) (length hs))

-- an undefined word is none of the words that hold lists
undefined_not_held : (version : Version) (order : Order) (area : List ℕ) (hs : List (List ℤ)) (number : ℕ)
    → IsUndefined version order area number → FirstWordsHold version order area hs → number < length hs → ⊥
undefined_not_held version order area hs number undefined held within =
    undefined_holds_none version (word_code order area number)
    (arranged_word version order (word_code order area number) area number) (get_or hs number []) undefined
    (held.each number within)

pub not_short : (version : Version) (order : Order) (area : List ℕ) (samples : List ℤ)
    → CarriesSteim version order area samples → EndsBefore version order area (length samples) → ⊥
not_short version order area samples c e =
    let more = enough_after version order area e.groups c.groups (length samples) e.held c.held e.few c.enough in
    absurd (omega (arith, e.all, c.held.within))

pub not_undefined : (version : Version) (order : Order) (area : List ℕ) (samples : List ℤ) (number : ℕ)
    → CarriesSteim version order area samples → IsUndefinedBefore version order area (length samples) number → ⊥
not_undefined version order area samples number c u =
    let more = enough_after version order area u.groups c.groups (length samples) u.held c.held u.few c.enough in
    undefined_not_held version order area c.groups number u.undefined c.held (omega (arith, u.first))

pub short_or_undefined : (version : Version) (order : Order) (area : List ℕ) (count number : ℕ)
    → EndsBefore version order area count → IsUndefinedBefore version order area count number → ⊥
short_or_undefined version order area count number e u =
    undefined_not_held version order area e.groups number u.undefined e.held (omega (arith, e.all, u.within))

pub one_undefined : (version : Version) (order : Order) (area : List ℕ) (count m n : ℕ)
    → IsUndefinedBefore version order area count m → IsUndefinedBefore version order area count n → m ≡ n
one_undefined version order area count m n u v =
    ⊎_elim
    (λ (lt : m < n). absurd (undefined_not_held version order area v.groups m u.undefined v.held
    (omega (arith, v.first))))
    (λ (ge : n ≤ m). ⊎_elim
    (λ (lt : n < m). absurd (undefined_not_held version order area u.groups n v.undefined u.held
    (omega (arith, u.first))))
    (λ (le : m ≤ n). omega arith) (cases_lt n m)) (cases_lt m n)

-- ---- the samples are one list

sums_more : (x : ℤ) (es more : List ℤ) → (tail : List ℤ) × (sums_after x (es ++ more) ≡ sums_after x es ++ tail)
sums_more x [] more = (sums_after x more, refl)
sums_more x (e ∷ es) more =
    let y = int_wrap w32 (x +ℤ e) in
    let r = sums_more y es more in
    (r.0, ap (λ s. y ∷ s) r.1)

pub samples_more : (first : ℤ) (es more : List ℤ) (m : ℕ) → m ≤ length es
    → take m (samples_of first (es ++ more)) ≡ take m (samples_of first es)
samples_more first [] more zero few = refl
samples_more first [] more (suc m) few = absurd (omega arith)
samples_more first (e ∷ es) more m few =
    let r = sums_more first es more in
    let size : length (samples_of first (e ∷ es)) ≡ length (e ∷ es) = length-samples_of first (e ∷ es) in
    ap (λ s. take m (first ∷ s)) r.1 ∙ take-append-le m (first ∷ sums_after first es) r.0 (omega arith)

samples_fewer : (version : Version) (order : Order) (area : List ℕ) (xs ys : List ℤ)
    (c : CarriesSteim version order area xs) (d : CarriesSteim version order area ys) → length xs ≡ length ys
    → length c.groups ≤ length d.groups → xs ≡ ys
samples_fewer version order area xs ys c d same few =
    let first = constant order area 1 in
    let ds = joined_groups c.groups in
    let more = joined_groups (drop (length c.groups) d.groups) in
    let e : joined_groups d.groups ≡ ds ++ more =
    more_differences version order area c.groups d.groups c.held d.held few in
    c.sums ∙ sym (samples_more first ds more (length xs) c.enough)
    ∙ ap (λ z. take (length xs) (samples_of first z)) (sym e)
    ∙ ap (λ n. take n (samples_of first (joined_groups d.groups))) same ∙ sym d.sums

pub carries_one : (version : Version) (order : Order) (area : List ℕ) (xs ys : List ℤ)
    → CarriesSteim version order area xs → CarriesSteim version order area ys → length xs ≡ length ys → xs ≡ ys
carries_one version order area xs ys c d same =
    ⊎_elim
    (λ (lt : length c.groups < length d.groups). samples_fewer version order area xs ys c d same (omega arith))
    (λ (ge : length d.groups ≤ length c.groups). sym (samples_fewer version order area ys xs d c (sym same) ge))
    (cases_lt (length c.groups) (length d.groups))
