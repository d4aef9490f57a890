-- The prefix law and the back-step law.
use Rattle.std.proofs.Common.{◌≡◌, ◌*◌, ◌<◌, ◌≤◌, ℕ, zero, suc, ◌+◌, ◌-◌, ◌^◌, ℤ, pos, negsuc, true, false, eqb, None, List, [], ◌∷◌, ◌++◌, length, take, drop, refl, sym, ap, ◌∙◌, subst, arith, append_assoc, length-append, ⊎_elim, lit<, lit≤}
use Rattle.std.specs.Prelude.{IsSomeAnd, reverse, flat_map}
use Rattle.std.specs.List.{AllByRecursion}
use Rattle.std.proofs.lemmas.Bool.{cases_lt}
use Rattle.std.proofs.lemmas.Bool.Decides.{nat_tests}
use Rattle.std.proofs.lemmas.List.{append-nil, reverse-append, take-append-drop, take-append-le, drop-append-le}
use Rattle.std.proofs.Math.Nat.{pow-le-pow_right, mul-le-mul_left}
use Rattle.std.proofs.Math.Seq.{take-append_seam, drop-append_seam}
use Rattle.msr_base.specs.declared.storage.Version.{Version}
use Rattle.msr_base.specs.declared.storage.Version.TheVariants.{One, Two}
use Rattle.msr_steim.proofs.Filling.{inner_is_group}
use Rattle.msr_steim.specs.Word.{AreGroups, FitsBits, IsGroup, IsInnerGroup, group_width}
use Rattle.msr_words.specs.Division.{CanDivide}
use Rattle.msr_words.specs.Counts.{EndsIn, Parts}
use Rattle.msr_words.specs.Laws.{largest_of, places_of}
use Rattle.msr_words.specs.Lemmas.LeastCounts.{a_group_has_few}
use Rattle.msr_words.specs.Lemmas.Ends.{ends_is_division}

-- ---- less of a group is a group

fits_more : (w v : ℕ) (z : ℤ) → w ≤ v → FitsBits w z → FitsBits v z
fits_more w v (pos n) more fits =
    let two : 0 < 2 = lit< tt in
    let p : 2 ^ (w - 1) ≤ 2 ^ (v - 1) = pow-le-pow_right {n = 2} two {i = w - 1} {j = v - 1} (omega arith) in
    omega arith
fits_more w v (negsuc n) more fits =
    let two : 0 < 2 = lit< tt in
    let p : 2 ^ (w - 1) ≤ 2 ^ (v - 1) = pow-le-pow_right {n = 2} two {i = w - 1} {j = v - 1} (omega arith) in
    omega arith

pub all_more : (w v : ℕ) (zs : List ℤ) → w ≤ v → AllByRecursion (FitsBits w) zs → AllByRecursion (FitsBits v) zs
all_more w v [] more all = tt
all_more w v (z ∷ zs) more all = (fits_more w v z more all.0, all_more w v zs more all.1)

too_many_one : (n : ℕ) → 4 < n → group_width One n ≡ None
too_many_one n many =
    let a : eqb n 1 ≡ false = grind (arith, nat_tests) in
    let b : eqb n 2 ≡ false = grind (arith, nat_tests) in
    let c : eqb n 3 ≡ false = grind (arith, nat_tests) in
    let d : eqb n 4 ≡ false = grind (arith, nat_tests) in
    simp (a, b, c, d)

pub one_has_few : (group : List ℤ) → IsGroup One group → length group ≤ 4
one_has_few group is = ⊎_elim
    (λ (h : 4 < length group). absurd (subst (λ w. IsSomeAnd w (λ width. AllByRecursion (FitsBits width) group))
    (too_many_one (length group) h) is))
    (λ (h : length group ≤ 4). h) (cases_lt 4 (length group))

group_tail : (version : Version) (x : ℤ) (xs : List ℤ) → IsGroup version (x ∷ xs) → 0 < length xs → IsGroup version xs
group_tail version x [] is some = absurd (omega arith)
group_tail One x (a ∷ []) is some = all_more 16 32 (a ∷ []) (lit≤ tt) is.1
group_tail One x (a ∷ b ∷ []) is some = all_more 8 16 (a ∷ b ∷ []) (lit≤ tt) is.1
group_tail One x (a ∷ b ∷ c ∷ []) is some = is.1
group_tail One x (a ∷ b ∷ c ∷ d ∷ zs) is some = let few = one_has_few (x ∷ a ∷ b ∷ c ∷ d ∷ zs) is in
    absurd (omega arith)
group_tail Two x (a ∷ []) is some = all_more 15 30 (a ∷ []) (lit≤ tt) is.1
group_tail Two x (a ∷ b ∷ []) is some = all_more 10 15 (a ∷ b ∷ []) (lit≤ tt) is.1
group_tail Two x (a ∷ b ∷ c ∷ []) is some = all_more 8 10 (a ∷ b ∷ c ∷ []) (lit≤ tt) is.1
group_tail Two x (a ∷ b ∷ c ∷ d ∷ []) is some = all_more 6 8 (a ∷ b ∷ c ∷ d ∷ []) (lit≤ tt) is.1
group_tail Two x (a ∷ b ∷ c ∷ d ∷ e ∷ []) is some = all_more 5 6 (a ∷ b ∷ c ∷ d ∷ e ∷ []) (lit≤ tt) is.1
group_tail Two x (a ∷ b ∷ c ∷ d ∷ e ∷ f ∷ []) is some = all_more 4 5 (a ∷ b ∷ c ∷ d ∷ e ∷ f ∷ []) (lit≤ tt) is.1
group_tail Two x (a ∷ b ∷ c ∷ d ∷ e ∷ f ∷ g ∷ zs) is some = let few =
    (a_group_has_few Two true (x ∷ a ∷ b ∷ c ∷ d ∷ e ∷ f ∷ g ∷ zs) is).1 in absurd (omega arith)

pub group_drop : (version : Version) (front back : List ℤ) → IsGroup version (front ++ back) → 0 < length back
    → IsGroup version back
group_drop version [] back is some = is
group_drop version (x ∷ front) back is some =
    group_drop version front back (group_tail version x (front ++ back) is (rw length-append (omega arith))) some

-- ---- the prefix law

ends_tail : (version : Version) (n : ℕ) (x : ℤ) (past : List ℤ) → EndsIn version true n (x ∷ past)
    → 0 < length past → EndsIn version true n past
ends_tail version n x past e some = go e.group e.rest e.number e.few e.newest e.parts e.join
  where
    inner : (m : ℕ) (rest : List ℤ) → m < n → Parts version m rest → past ≡ rest → EndsIn version true n past
    inner zero rest few parts same = let size : length past ≡ 0 = ap length (same ∙ parts) in absurd (omega arith)
    inner (suc m) rest few parts same = record {
      group = parts.0;
      rest = parts.1;
      number = m;
      few = omega arith;
      newest = inner_is_group version parts.0 parts.2;
      parts = parts.3;
      join = same ∙ parts.4;
    }

    go : (group rest : List ℤ) (m : ℕ) → m < n → IsGroup version group → Parts version m rest
        → x ∷ past ≡ group ++ rest → EndsIn version true n past
    go [] rest m few is parts join = let h = (a_group_has_few version true [] is).0 in absurd (omega arith)
    go (y ∷ []) rest m few is parts join = inner m rest few parts (ap (drop 1) join)
    go (y ∷ z ∷ group) rest m few is parts join =
        record {
          group = z ∷ group;
          rest = rest;
          number = m;
          few = few;
          newest = group_tail version y (z ∷ group) is (omega arith);
          parts = parts;
          join = ap (drop 1) join;
        }

one_less : (version : Version) (n : ℕ) (ds : List ℤ) (x d : ℤ) → CanDivide version n ((ds ++ d ∷ []) ++ x ∷ [])
    → CanDivide version n (ds ++ d ∷ [])
one_less version n ds x d can =
    let ends : EndsIn version true n (reverse ((ds ++ d ∷ []) ++ x ∷ [])) =
    (ends_is_division version n x (ds ++ d ∷ [])).1 can in
    let turned : EndsIn version true n (x ∷ reverse (ds ++ d ∷ [])) =
    subst (EndsIn version true n) (reverse-append (ds ++ d ∷ []) (x ∷ [])) ends in
    let some : 0 < length (reverse (ds ++ d ∷ [])) = rw (reverse-append ds (d ∷ [])) (omega arith) in
    (ends_is_division version n d ds).0 (ends_tail version n x (reverse (ds ++ d ∷ [])) turned some)

pub prefix_law : (version : Version) (n : ℕ) (ds more : List ℤ) (d : ℤ)
    → CanDivide version n ((ds ++ d ∷ []) ++ more) → CanDivide version n (ds ++ d ∷ [])
prefix_law version n ds [] d can = subst (CanDivide version n) (append-nil (ds ++ d ∷ [])) can
prefix_law version n ds (x ∷ more) d can =
    let e : (ds ++ d ∷ []) ++ (x ∷ more) ≡ ((ds ++ d ∷ []) ++ x ∷ []) ++ more =
    sym (append_assoc (ds ++ d ∷ []) (x ∷ []) more) in
    one_less version n ds x d (prefix_law version n (ds ++ d ∷ []) more x (subst (CanDivide version n) e can))

pub none_divides : (version : Version) (n : ℕ) → CanDivide version n []
none_divides version n = record { groups = []; are_groups = tt; join = refl; few = omega arith }

-- ---- the back-step law

-- a start close before this one, from which the run can be divided
pub record StepsBack (version : Version) (n : ℕ) (front back : List ℤ) : Type 0 where
  pub before : List ℤ
  pub near : List ℤ
  pub join : front ≡ before ++ near
  pub few : length near ≤ places_of version
  pub can : CanDivide version n (near ++ back)

pub tail_groups : (version : Version) (g : List ℤ) (gs : List (List ℤ)) → AreGroups version (g ∷ gs)
    → AreGroups version gs
tail_groups version g [] are = tt
tail_groups version g (h ∷ gs) are = are.1

pub head_group : (version : Version) (g : List ℤ) (gs : List (List ℤ)) → AreGroups version (g ∷ gs) → IsGroup version g
head_group version g [] are = are
head_group version g (h ∷ gs) are = inner_is_group version g are.0

new_head : (version : Version) (g k : List ℤ) (gs : List (List ℤ)) → AreGroups version (g ∷ gs)
    → IsInnerGroup version k → AreGroups version (k ∷ gs)
new_head version g k [] are is = inner_is_group version k is
new_head version g k (h ∷ gs) are is = (is, are.1)

front_of : (g rest front back : List ℤ) → g ++ rest ≡ front ++ back → length g ≤ length front
    → front ≡ g ++ drop (length g) front
front_of g rest front back join ge =
    let e : take (length g) front ≡ g = sym (take-append-le (length g) front back ge)
    ∙ ap (take (length g)) (sym join) ∙ take-append_seam g rest in
    sym (take-append-drop (length g) front) ∙ ap (λ p. p ++ drop (length g) front) e

rest_of : (g rest front back : List ℤ) → g ++ rest ≡ front ++ back → length g ≤ length front
    → rest ≡ drop (length g) front ++ back
rest_of g rest front back join ge = sym (drop-append_seam g rest) ∙ ap (drop (length g)) join
    ∙ drop-append-le (length g) front back ge

-- a first group that is cut
module _ (version : Version) (n : ℕ) (g : List ℤ) (gs : List (List ℤ)) (front back : List ℤ)
    (are : AreGroups version (g ∷ gs))
    (join : g ++ flat_map (λ group. group) gs ≡ front ++ back) (few : length (g ∷ gs) ≤ n)
    (lt : length front < length g) where
  split : g ≡ front ++ drop (length front) g
  split = front_of front back g (flat_map (λ group. group) gs) (sym join) (omega arith)

  after : back ≡ drop (length front) g ++ flat_map (λ group. group) gs
  after = rest_of front back g (flat_map (λ group. group) gs) (sym join) (omega arith)

  pub back_length : length g ≡ length front + length (drop (length front) g)
  back_length = ap length split ∙ length-append front (drop (length front) g)

  pub back_group : IsGroup version (drop (length front) g)
  back_group =
      let size = back_length in
      group_drop version front (drop (length front) g)
      (subst (IsGroup version) split (head_group version g gs are)) (omega arith)

  pub cut_behind : IsInnerGroup version (drop (length front) g) → StepsBack version n front back
  cut_behind is = record {
    before = front;
    near = [];
    join = sym (append-nil front);
    few = omega arith;
    can = record {
      groups = drop (length front) g ∷ gs;
      are_groups = new_head version g (drop (length front) g) gs are is;
      join = sym after;
      few = few;
    };
  }

  pub keep_whole : length front ≤ places_of version → StepsBack version n front back
  keep_whole near = record {
    before = [];
    near = front;
    join = refl;
    few = near;
    can = record { groups = g ∷ gs; are_groups = are; join = join; few = few };
  }

within : (version : Version) (n : ℕ) (g : List ℤ) (gs : List (List ℤ)) (front back : List ℤ)
    → AreGroups version (g ∷ gs) → g ++ flat_map (λ group. group) gs ≡ front ++ back → length (g ∷ gs) ≤ n
    → length front < length g
    → StepsBack version n front back
within One n g gs front back are join few lt =
    let small = one_has_few g (head_group One g gs are) in
    let size = back_length One n g gs front back are join few lt in
    ⊎_elim
    (λ (far : 1 < length front). cut_behind One n g gs front back are join few lt
    (back_group One n g gs front back are join few lt, λ three. absurd (omega arith)))
    (λ (near : length front ≤ 1). keep_whole One n g gs front back are join few lt near)
    (cases_lt 1 (length front))
within Two n g gs front back are join few lt =
    cut_behind Two n g gs front back are join few lt (back_group Two n g gs front back are join few lt)

steps_further : (version : Version) (n : ℕ) (g front rest back : List ℤ) → front ≡ g ++ rest
    → StepsBack version n rest back → StepsBack version n front back
steps_further version n g front rest back join r =
    record {
      before = g ++ r.before;
      near = r.near;
      join = join ∙ ap (λ p. g ++ p) r.join
          ∙ sym (append_assoc g r.before r.near);
      few = r.few;
      can = r.can;
    }

back_step : (version : Version) (n : ℕ) (gs : List (List ℤ)) (front back : List ℤ) → AreGroups version gs
    → flat_map (λ group. group) gs ≡ front ++ back → length gs ≤ n → 0 < length back → StepsBack version n front back
back_step version n [] front back are join few some =
    let size : 0 ≡ length front + length back = ap length join ∙ length-append front back in absurd (omega arith)
back_step version n (g ∷ gs) front back are join few some =
    ⊎_elim
    (λ (lt : length front < length g). within version n g gs front back are join few lt)
    (λ (ge : length g ≤ length front). steps_further version n g front (drop (length g) front) back
    (front_of g (flat_map (λ group. group) gs) front back join ge)
    (back_step version n gs (drop (length g) front) back (tail_groups version g gs are)
    (rest_of g (flat_map (λ group. group) gs) front back join ge) (omega arith) some))
    (cases_lt (length front) (length g))

pub back_step_law : (version : Version) (n : ℕ) (front back : List ℤ) → CanDivide version n (front ++ back)
    → 0 < length back → StepsBack version n front back
back_step_law version n front back can some =
    back_step version n can.groups front back can.are_groups can.join can.few some

-- ---- the size law

group_size : (version : Version) (group : List ℤ) → IsGroup version group → length group ≤ largest_of version
group_size One group is = one_has_few group is
group_size Two group is = (a_group_has_few Two true group is).1

joined_size : (version : Version) (gs : List (List ℤ)) → AreGroups version gs
    → length (flat_map (λ group. group) gs) ≤ largest_of version * length gs
joined_size version [] are = omega arith
joined_size version (g ∷ gs) are =
    let here = group_size version g (head_group version g gs are) in
    let rest = joined_size version gs (tail_groups version g gs are) in
    rw length-append (omega arith)

pub size_law : (version : Version) (n : ℕ) (ds : List ℤ) → CanDivide version n ds → length ds ≤ largest_of version * n
size_law version n ds can =
    let joined = joined_size version can.groups can.are_groups in
    let scaled : largest_of version * length can.groups ≤ largest_of version * n =
    mul-le-mul_left (largest_of version) can.few in
    let all : length ds ≤ largest_of version * length can.groups =
    subst (λ l. length l ≤ largest_of version * length can.groups) can.join joined in
    omega arith
