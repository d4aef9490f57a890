-- What the differences of a run tell of the records that hold it.
use Rattle.std.specs.Prelude.{◌≡◌, ◌↔◌, ℕ, zero, suc, ◌+◌, ◌-◌, ◌*◌, ◌^◌, ◌<◌, ◌≤◌, None, get_or, map, slice_index_or, ℤ, pos, negsuc, true, cond, List, [], ◌∷◌, ◌++◌, length, take, drop, flat_map, sum_by, count_by}
use Rattle.std.specs.List.{AllByRecursion}
use Rattle.std.proofs.Common.{arith, refl, sym, ap, ◌∙◌, subst, lit≤}
use Rattle.std.proofs.lemmas.Bool.Decides.{nat_tests}
use Rattle.std.proofs.lemmas.List.{get_or-drop, get_or-take, length-map}
use Rattle.std.proofs.lemmas.List.Sums.{sum_by-append}
use Rattle.msr_base.specs.declared.storage.Version.{Version}
use Rattle.msr_base.specs.declared.storage.Version.TheVariants.{One, Two}
use Rattle.msr_steim.specs.Word.{AreGroups, FitsBits, IsGroup}
use Rattle.msr_words.specs.Bounds.{BeginsWithFour, EndLaw, HalvesLaw, LookBackLaw, WideLaw, is_very_wide, is_wide}
use Rattle.msr_words.specs.Division.{CanDivide}
use Rattle.msr_words.specs.Fit.{Fits}
use Rattle.msr_words.specs.Groups.{IsOneBelow}
use Rattle.msr_words.specs.Segment.{difference_at, points, run_points}
use Rattle.msr_base.specs.declared.kinds.Kind.TheVariants.{Steim1, Steim2}
use Rattle.msr_base.specs.RecordLength.{words_of}
use Rattle.msr_words.specs.Lemmas.KindLaws.{prefix_kind}
use Rattle.msr_words.specs.Lemmas.LeastCounts.{a_group_has_few}
use Rattle.msr_words.specs.Lemmas.SteimLaws.{all_more, head_group, one_has_few, tail_groups}
use Rattle.msr_words.proofs.WrittenDivision.{inner_first}
use Rattle.msr_words.proofs.Plain.{second}
use Rattle.msr_words.proofs.Runs.{length-run_points, points_at, prefix_run}

-- ---- sums over groups

-- if no group has more than `most`, n groups have at most n times as many
sum_of_groups : (version : Version) (f : ℤ → ℕ) (most : ℕ)
    → ((group : List ℤ) → IsGroup version group → sum_by f group ≤ most) →
    (groups : List (List ℤ)) → AreGroups version groups
    → sum_by f (flat_map (λ group. group) groups) ≤ most * length groups
sum_of_groups version f most each [] are = omega arith
sum_of_groups version f most each (g ∷ gs) are =
    let here = each g (head_group version g gs are) in
    let rest = sum_of_groups version f most each gs (tail_groups version g gs are) in
    rw (sum_by-append f g (flat_map (λ group. group) gs)) (omega arith)

-- ---- wide differences

wide : ℤ → ℕ
wide d = cond (is_wide d) 1 0

wide_any : (d : ℤ) → wide d ≤ 1
unfolding wide
wide_any (pos n) = grind (arith, nat_tests)
wide_any (negsuc n) = grind (arith, nat_tests)

wide_none : (d : ℤ) → FitsBits 10 d → wide d ≡ 0
unfolding wide
wide_none (pos n) fits = grind (arith, nat_tests)
wide_none (negsuc n) fits = grind (arith, nat_tests)

none_wide : (ds : List ℤ) → AllByRecursion (FitsBits 10) ds → sum_by wide ds ≡ 0
none_wide [] all = refl
none_wide (d ∷ ds) all = sum_by-append wide (d ∷ []) ds
    ∙ (let p = wide_none d all.0 in let q = none_wide ds all.1 in omega arith)

-- three or more that share a Steim-2 word are of 10 bits each
three_of_10 : (a b c : ℤ) (ds : List ℤ) → IsGroup Two (a ∷ b ∷ c ∷ ds)
    → AllByRecursion (FitsBits 10) (a ∷ b ∷ c ∷ ds)
three_of_10 a b c [] is = is
three_of_10 a b c (d ∷ []) is = all_more 8 10 (a ∷ b ∷ c ∷ d ∷ []) (lit≤ tt) is
three_of_10 a b c (d ∷ e ∷ []) is = all_more 6 10 (a ∷ b ∷ c ∷ d ∷ e ∷ []) (lit≤ tt) is
three_of_10 a b c (d ∷ e ∷ f ∷ []) is = all_more 5 10 (a ∷ b ∷ c ∷ d ∷ e ∷ f ∷ []) (lit≤ tt) is
three_of_10 a b c (d ∷ e ∷ f ∷ g ∷ []) is = all_more 4 10 (a ∷ b ∷ c ∷ d ∷ e ∷ f ∷ g ∷ []) (lit≤ tt) is
three_of_10 a b c (d ∷ e ∷ f ∷ g ∷ h ∷ more) is =
    let few = (a_group_has_few Two true (a ∷ b ∷ c ∷ d ∷ e ∷ f ∷ g ∷ h ∷ more) is).1 in absurd (omega arith)

wide_group : (version : Version) (group : List ℤ) → IsGroup version group → sum_by wide group ≤ 2
wide_group version [] is = omega arith
wide_group version (a ∷ []) is = let p = wide_any a in omega arith
wide_group version (a ∷ b ∷ []) is = let p = wide_any a in let q = wide_any b in omega arith
wide_group One (a ∷ b ∷ c ∷ []) is = let none =
    none_wide (a ∷ b ∷ c ∷ []) (all_more 8 10 (a ∷ b ∷ c ∷ []) (lit≤ tt) is) in omega arith
wide_group One (a ∷ b ∷ c ∷ d ∷ []) is = let none =
    none_wide (a ∷ b ∷ c ∷ d ∷ []) (all_more 8 10 (a ∷ b ∷ c ∷ d ∷ []) (lit≤ tt) is) in omega arith
wide_group One (a ∷ b ∷ c ∷ d ∷ e ∷ more) is = let few = one_has_few (a ∷ b ∷ c ∷ d ∷ e ∷ more) is in
    absurd (omega arith)
wide_group Two (a ∷ b ∷ c ∷ ds) is = let none = none_wide (a ∷ b ∷ c ∷ ds) (three_of_10 a b c ds is) in omega arith

pub wide_law : WideLaw
unfolding wide
wide_law version words ds can =
    let all = sum_of_groups version wide 2 (wide_group version) can.groups can.are_groups in
    let same : sum_by wide ds ≤ 2 * length can.groups =
    subst (λ l. sum_by wide l ≤ 2 * length can.groups) can.join all in
    let few = can.few in
    omega arith

-- ---- halves of a Steim-2 word

very_wide : ℤ → ℕ
very_wide d = cond (is_very_wide d) 1 0

very_wide_any : (d : ℤ) → very_wide d ≤ 1
unfolding very_wide
very_wide_any (pos n) = grind (arith, nat_tests)
very_wide_any (negsuc n) = grind (arith, nat_tests)

very_wide_none : (d : ℤ) → FitsBits 15 d → very_wide d ≡ 0
unfolding very_wide
very_wide_none (pos n) fits = grind (arith, nat_tests)
very_wide_none (negsuc n) fits = grind (arith, nat_tests)

none_very_wide : (ds : List ℤ) → AllByRecursion (FitsBits 15) ds → sum_by very_wide ds ≡ 0
none_very_wide [] all = refl
none_very_wide (d ∷ ds) all = sum_by-append very_wide (d ∷ []) ds
    ∙ (let p = very_wide_none d all.0 in let q = none_very_wide ds all.1 in omega arith)

halves : ℤ → ℕ
halves d = wide d + very_wide d

halves_are : (ds : List ℤ) → sum_by halves ds ≡ sum_by wide ds + sum_by very_wide ds
unfolding halves
halves_are [] = refl
halves_are (d ∷ ds) =
    let all = sum_by-append halves (d ∷ []) ds in
    let some = sum_by-append wide (d ∷ []) ds in
    let more = sum_by-append very_wide (d ∷ []) ds in
    let rest = halves_are ds in
    omega arith

-- one alone, two of 15 bits, or more of 10
halves_group : (group : List ℤ) → IsGroup Two group → sum_by halves group ≤ 2
halves_group [] is = omega arith
halves_group (a ∷ []) is =
    let few = wide_group Two (a ∷ []) is in
    let here = wide_any a in
    let more = very_wide_any a in
    let are = halves_are (a ∷ []) in
    omega arith
halves_group (a ∷ b ∷ []) is =
    let few = wide_group Two (a ∷ b ∷ []) is in
    let none = none_very_wide (a ∷ b ∷ []) is in
    let are = halves_are (a ∷ b ∷ []) in
    omega arith
halves_group (a ∷ b ∷ c ∷ ds) is =
    let fits = three_of_10 a b c ds is in
    let none = none_wide (a ∷ b ∷ c ∷ ds) fits in
    let more = none_very_wide (a ∷ b ∷ c ∷ ds) (all_more 10 15 (a ∷ b ∷ c ∷ ds) (lit≤ tt) fits) in
    let are = halves_are (a ∷ b ∷ c ∷ ds) in
    omega arith

pub halves_law : HalvesLaw
unfolding wide very_wide
halves_law words ds can =
    let all = sum_of_groups Two halves 2 halves_group can.groups can.are_groups in
    let same : sum_by halves ds ≤ 2 * length can.groups =
    subst (λ l. sum_by halves l ≤ 2 * length can.groups) can.join all in
    let are : sum_by halves ds ≡ count_by is_wide ds + count_by is_very_wide ds = halves_are ds in
    let few = can.few in
    omega arith

-- ---- the first difference

divided : (words : ℕ) (g rest : List ℤ) (gs : List (List ℤ)) → AreGroups One (g ∷ gs)
    → rest ≡ g ++ flat_map (λ group. group) gs → length (g ∷ gs) ≤ words → CanDivide One words rest
divided words g rest gs are join few = record { groups = g ∷ gs; are_groups = are; join = sym join; few = few }

pub look_back_law : LookBackLaw
look_back_law words d ds apart can = go can.groups can.are_groups can.join can.few
  where
    -- a first group with one fewer
    fewer : (g : List ℤ) (gs : List (List ℤ)) → IsGroup One g → (length g ≡ 3 → ⊥) → AreGroups One gs
        → ds ≡ g ++ flat_map (λ group. group) gs → suc (length gs) ≤ words → CanDivide One words ds
    fewer g gs is three are join few = divided words g ds gs (inner_first One g gs (is, three) are) join few

    go : (groups : List (List ℤ)) → AreGroups One groups → flat_map (λ group. group) groups ≡ d ∷ ds
        → length groups ≤ words → CanDivide One words ds
    go [] are join few = absurd cc
    go ([] ∷ gs) are join few = let some = (a_group_has_few One true [] (head_group One [] gs are)).0 in
        absurd (omega arith)
    go ((a ∷ []) ∷ gs) are join few = record {
      groups = gs;
      are_groups = tail_groups One (a ∷ []) gs are;
      join = ap (drop 1) join;
      few = omega arith;
    }
    go ((a ∷ b ∷ []) ∷ gs) are join few =
        fewer (b ∷ []) gs (all_more 16 32 (b ∷ []) (lit≤ tt) (head_group One (a ∷ b ∷ []) gs are).1)
        (λ e. omega arith) (tail_groups One (a ∷ b ∷ []) gs are) (sym (ap (drop 1) join)) few
    go ((a ∷ b ∷ c ∷ []) ∷ gs) are join few =
        fewer (b ∷ c ∷ []) gs (all_more 8 16 (b ∷ c ∷ []) (lit≤ tt) (head_group One (a ∷ b ∷ c ∷ []) gs are).1)
        (λ e. omega arith) (tail_groups One (a ∷ b ∷ c ∷ []) gs are) (sym (ap (drop 1) join)) few
    go ((a ∷ b ∷ c ∷ e ∷ []) ∷ gs) are join few =
        let is = head_group One (a ∷ b ∷ c ∷ e ∷ []) gs are in
        absurd (apart (record {
          enough = (let l : suc (suc (suc (suc (length (flat_map (λ group. group) gs))))) ≡ suc (length ds) =
              ap length join in omega arith);
          small = subst (λ l. AllByRecursion (FitsBits 8) (take 4 l)) join is;
        }))
    go ((a ∷ b ∷ c ∷ e ∷ f ∷ more) ∷ gs) are join few = let few' =
        one_has_few (a ∷ b ∷ c ∷ e ∷ f ∷ more) (head_group One (a ∷ b ∷ c ∷ e ∷ f ∷ more) gs are) in
        absurd (omega arith)

-- ---- ends

pub end_law : EndLaw
end_law kind bytes samples a end is c le = (
  λ run. is.furthest c run,
  λ less. prefix_run (Fits kind bytes) (prefix_kind kind bytes) samples a c end le less is.fits,
)

-- ---- the size of a difference

module _ (size a : ℕ) (a_is : IsOneBelow size 512 a) where
  pub wide_is : (d : ℤ) → ((width : ℕ) → (FitsBits width d ↔ size < 2 ^ (width - 1))) → 1 - a ≡ cond (is_wide d) 1 0
  wide_is (pos n) size_is = let p = size_is 10 in let am = a_is.most in let ab = a_is.below in grind (arith, nat_tests)
  wide_is (negsuc n) size_is = let p = size_is 10 in let am = a_is.most in let ab = a_is.below in
      grind (arith, nat_tests)

module _ (size a : ℕ) (a_is : IsOneBelow size 16384 a) where
  very_wide_is : (d : ℤ) → ((width : ℕ) → (FitsBits width d ↔ size < 2 ^ (width - 1)))
      → 1 - a ≡ cond (is_very_wide d) 1 0
  very_wide_is (pos n) size_is = let p = size_is 15 in let am = a_is.most in let ab = a_is.below in
      grind (arith, nat_tests)
  very_wide_is (negsuc n) size_is = let p = size_is 15 in let am = a_is.most in let ab = a_is.below in
      grind (arith, nat_tests)

module _ (size a b : ℕ) (a_is : IsOneBelow size 512 a) (b_is : IsOneBelow size 16384 b) where
  pub halves_is : (d : ℤ) → ((width : ℕ) → (FitsBits width d ↔ size < 2 ^ (width - 1)))
      → 2 - a - b ≡ cond (is_wide d) 1 0 + cond (is_very_wide d) 1 0
  halves_is d size_is =
      let one = wide_is size a a_is d size_is in
      let two = very_wide_is size b b_is d size_is in
      let am = a_is.most in
      let bm = b_is.most in
      omega arith

pub very_wide_one_at_most : (d : ℤ) → cond (is_very_wide d) 1 0 ≤ 1
very_wide_one_at_most d = grind (arith, nat_tests)

pub wide_one_at_most : (d : ℤ) → cond (is_wide d) 1 0 ≤ 1
wide_one_at_most d = grind (arith, nat_tests)

-- ---- the first four differences

pub four_each : (ds : List ℤ) (k : ℕ) → BeginsWithFour ds → k < 4 → FitsBits 8 (get_or ds k (pos 0))
four_each [] k four less = let e = four.enough in absurd (omega arith)
four_each (a ∷ []) k four less = let e = four.enough in absurd (omega arith)
four_each (a ∷ b ∷ []) k four less = let e = four.enough in absurd (omega arith)
four_each (a ∷ b ∷ c ∷ []) k four less = let e = four.enough in absurd (omega arith)
four_each (a ∷ b ∷ c ∷ d ∷ ds) zero four less = four.small.0
four_each (a ∷ b ∷ c ∷ d ∷ ds) (suc zero) four less = four.small.1.0
four_each (a ∷ b ∷ c ∷ d ∷ ds) (suc (suc zero)) four less = four.small.1.1.0
four_each (a ∷ b ∷ c ∷ d ∷ ds) (suc (suc (suc zero))) four less = four.small.1.1.1.0
four_each (a ∷ b ∷ c ∷ d ∷ ds) (suc (suc (suc (suc k)))) four less = absurd (omega arith)

-- each of the four differences with which a run begins
pub four_begin : (samples : List ℤ) (a b at : ℕ) → a ≤ at → at < a + 4 → a ≤ b → b ≤ length samples
    → BeginsWithFour (map (λ p. p.1) (run_points samples a b)) → FitsBits 8 (difference_at samples at)
four_begin samples a b at le less order within four =
    let d : ℤ × ℤ = (pos 0, pos 0) in
    let enough = four.enough in
    let l = length-map (run_points samples a b) (λ (p : ℤ × ℤ). p.1) in
    let long = length-run_points samples a b order within in
    let in' : at < b = omega arith in
    let here : get_or (run_points samples a b) (at - a) d
    ≡ (slice_index_or samples at (pos 0), difference_at samples at) =
    get_or-take (b - a) (drop a (points None samples)) (at - a) d (omega arith)
    ∙ get_or-drop a (points None samples) (at - a) d ∙ ap (λ n. get_or (points None samples) n d) (omega arith)
    ∙ points_at samples at d (omega arith) in
    subst (FitsBits 8) (second (run_points samples a b) (at - a) d ∙ ap (λ (p : ℤ × ℤ). p.1) here)
    (four_each (map (λ p. p.1) (run_points samples a b)) (at - a) four (omega arith))

-- ---- for the runs of a record

pub wide_of_steim2 : (bytes : ℕ) (run : List (ℤ × ℤ)) → Fits Steim2 bytes run
    → count_by is_wide (map (λ p. p.1) run) ≤ 2 * words_of bytes
wide_of_steim2 bytes run fits = wide_law Two (words_of bytes) (map (λ p. p.1) run) fits.1

pub halves_of_steim2 : (bytes : ℕ) (run : List (ℤ × ℤ)) → Fits Steim2 bytes run
    → count_by is_wide (map (λ p. p.1) run) + count_by is_very_wide (map (λ p. p.1) run) ≤ 2 * words_of bytes
halves_of_steim2 bytes run fits = halves_law (words_of bytes) (map (λ p. p.1) run) fits.1

pub wide_of_steim1 : (bytes : ℕ) (run : List (ℤ × ℤ)) → Fits Steim1 bytes run
    → count_by is_wide (map (λ p. p.1) run) ≤ 2 * words_of bytes
wide_of_steim1 bytes run fits = wide_law One (words_of bytes) (map (λ p. p.1) run) fits.1

pub rest_of_run : (bytes : ℕ) (p : ℤ × ℤ) (run : List (ℤ × ℤ)) → (BeginsWithFour (map (λ q. q.1) (p ∷ run)) → ⊥)
    → Fits Steim1 bytes (p ∷ run) → Fits Steim1 bytes run
rest_of_run bytes p run apart fits = (
  omega (arith, fits.0),
  look_back_law (words_of bytes) p.1
      (map (λ q. q.1) run) apart fits.1,
)
