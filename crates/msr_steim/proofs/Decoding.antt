-- Lemmas on the samples of an area.
use Rattle.std.proofs.Common.{◌≡◌, ◌≢◌, ◌<◌, ◌≤◌, ℕ, suc, ◌+◌, ℤ, pos, ◌+ℤ◌, List, [], ◌∷◌, ◌++◌, length, take, get_or, min, refl, sym, ap, ◌∙◌, subst, arith, w32, length-append, ⊎_elim}
use Rattle.std.specs.Int.{int_wrap}
use Rattle.std.proofs.lemmas.List.{take_all, length-take, append-nil}
use Rattle.std.proofs.Math.ListN.{get_or-append}
use Rattle.std.proofs.Math.Seq.{get_or-append_seam}
use Rattle.std.proofs.lemmas.Bool.{cases_lt}
use Rattle.std.proofs.lemmas.Grind.{flat_map-append}
use Rattle.msr_base.specs.declared.order.Order.{Order}
use Rattle.msr_base.specs.declared.storage.Version.{Version}
use Rattle.msr_steim.specs.Area.{CarriesSteim, FirstWordsHold, WordHolds, constant, joined_groups, samples_of, sums_after, word_count}

pub sums_after_push : (x : ℤ) (es : List ℤ) (d : ℤ) → sums_after x (es ++ d ∷ []) ≡ sums_after x es
    ++ int_wrap w32 (get_or (x ∷ sums_after x es) (length (sums_after x es)) (pos 0) +ℤ d) ∷ []
sums_after_push x [] d = refl
sums_after_push x (e ∷ es) d = ap (λ s. int_wrap w32 (x +ℤ e) ∷ s) (sums_after_push (int_wrap w32 (x +ℤ e)) es d)

pub length-sums_after : (x : ℤ) (es : List ℤ) → length (sums_after x es) ≡ length es
length-sums_after x [] = refl
length-sums_after x (e ∷ es) = ap suc (length-sums_after (int_wrap w32 (x +ℤ e)) es)

pub length-samples_of : (first : ℤ) (es : List ℤ) → length (samples_of first es) ≡ length es
length-samples_of first [] = refl
length-samples_of first (e ∷ es) = ap suc (length-sums_after first es)

-- ---- word by word

-- the words below this number were read, and gave these samples
pub record AreReadBelow (version : Version) (order : Order) (area : List ℕ) (count number : ℕ) (first : ℤ)
    (samples : List ℤ) : Type 0 where
  pub groups : List (List ℤ)
  pub held : FirstWordsHold version order area groups
  pub number_is : length groups ≡ number
  pub few : length (joined_groups groups) < count
  pub sums : samples ≡ samples_of first (joined_groups groups)

pub one_more_held : (version : Version) (order : Order) (area : List ℕ) (groups : List (List ℤ)) (group : List ℤ)
    → FirstWordsHold version order area groups → length groups < word_count area
    → WordHolds version order area (length groups) group → FirstWordsHold version order area (groups ++ group ∷ [])
one_more_held version order area groups group held within here = record {
  within = rw length-append (omega arith);
  each = λ n below. each n (rw length-append at below);
}
  where
    each : (n : ℕ) → n < length groups + 1 → WordHolds version order area n (get_or (groups ++ group ∷ []) n [])
    each n below = ⊎_elim
        (λ (lt : n < length groups). rw (get_or-append groups (group ∷ []) [] n lt) (held.each n lt))
        (λ (le : length groups ≤ n). let e : length groups ≡ n = omega arith in
        subst (λ m. WordHolds version order area m (get_or (groups ++ group ∷ []) m [])) e
        (rw (get_or-append_seam groups group [] []) here)) (cases_lt n (length groups))

pub differences_push : (groups : List (List ℤ)) (group : List ℤ)
    → joined_groups (groups ++ group ∷ []) ≡ joined_groups groups ++ group
differences_push groups group = flat_map-append (λ g. g) groups (group ∷ [])
    ∙ ap (λ g. joined_groups groups ++ g) (append-nil group)

-- one more word, and still too few samples
pub read_more : (version : Version) (order : Order) (area : List ℕ) (count number : ℕ) (first : ℤ)
    (old new group : List ℤ) → AreReadBelow version order area count number first old
    → number < word_count area → WordHolds version order area number group
    → ((before : List ℤ) → old ≡ samples_of first before → new ≡ take count (samples_of first (before ++ group)))
    → length new ≢ count → AreReadBelow version order area count (number + 1) first new
read_more version order area count number first old new group read within here pushed unlike =
    let ds = joined_groups read.groups ++ group in
    let here_so : WordHolds version order area (length read.groups) group = rw read.number_is here in
    let more : joined_groups (read.groups ++ group ∷ []) ≡ ds = differences_push read.groups group in
    let cut : new ≡ take count (samples_of first ds) = pushed (joined_groups read.groups) read.sums in
    let size : length new ≡ min count (length (samples_of first ds)) = ap length cut
    ∙ length-take count (samples_of first ds) in
    let number_of_samples : length (samples_of first ds) ≡ length ds = length-samples_of first ds in
    let few : length ds < count = omega arith in
    record {
      groups = read.groups ++ group ∷ [];
      held = one_more_held version order area read.groups group read.held (omega (arith, read.number_is)) here_so;
      number_is = length-append read.groups (group ∷ []) ∙ ap (λ n. n + 1) read.number_is;
      few = rw more few;
      sums = cut ∙ take_all count (samples_of first ds) (omega arith) ∙ ap (samples_of first) (sym more);
    }

-- one more word, and the samples are there
pub read_enough : (version : Version) (order : Order) (area : List ℕ) (count number : ℕ) (old new group : List ℤ)
    → AreReadBelow version order area count number (constant order area 1) old
    → number < word_count area → WordHolds version order area number group
    → ((before : List ℤ) → old ≡ samples_of (constant order area 1) before
    → new ≡ take count (samples_of (constant order area 1) (before ++ group)))
    → length new ≡ count → CarriesSteim version order area new
read_enough version order area count number old new group read within here pushed same =
    let first = constant order area 1 in
    let ds = joined_groups read.groups ++ group in
    let here_so : WordHolds version order area (length read.groups) group = rw read.number_is here in
    let more : joined_groups (read.groups ++ group ∷ []) ≡ ds = differences_push read.groups group in
    let cut : new ≡ take count (samples_of first ds) = pushed (joined_groups read.groups) read.sums in
    let size : length new ≡ min count (length (samples_of first ds)) = ap length cut
    ∙ length-take count (samples_of first ds) in
    let number_of_samples : length (samples_of first ds) ≡ length ds = length-samples_of first ds in
    record {
      groups = read.groups ++ group ∷ [];
      held = one_more_held version order area read.groups group read.held (omega (arith, read.number_is)) here_so;
      enough = rw more (omega arith);
      sums = rw (same, more) cut;
    }
