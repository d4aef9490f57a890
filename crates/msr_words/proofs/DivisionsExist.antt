-- It is decided which runs fit a record of a kind, and differences that can be divided have a canonical division.
use Rattle.std.proofs.Common.{◌≡◌, ◌≢◌, ◌^◌, ◌*◌, ◌<◌, ◌≤◌, ◌⊎◌, ◌++◌, ℕ, zero, suc, ◌+◌, ◌-◌, ℤ, pos, negsuc, Bool, true, false, Option, Some, None, List, [], ◌∷◌, length, take, drop, map, refl, sym, ap, ◌∙◌, subst, arith, inl, inr, eqb}
use Rattle.std.specs.Prelude.{All, IsSomeAnd, IsTrue}
use Rattle.std.specs.List.{AllByRecursion}
use Rattle.std.proofs.lemmas.Bool.{cases_lt}
use Rattle.std.proofs.lemmas.List.{length-take-le, take-append-drop}
use Rattle.msr_base.specs.declared.storage.Version.{Version}
use Rattle.msr_base.specs.declared.storage.Version.TheVariants.{One, Two}
use Rattle.msr_base.specs.declared.storage.Storage.{Storage}
use Rattle.msr_base.specs.declared.storage.Storage.TheVariants.{Integers, Frames}
use Rattle.msr_base.specs.declared.storage.Width.{Width}
use Rattle.msr_base.specs.declared.storage.Width.TheVariants.{Two as TwoBytes, Three as ThreeBytes, Four as FourBytes}
use Rattle.msr_base.specs.Storage.{size_of, storage_of}
use Rattle.msr_steim.specs.Area.{joined_groups}
use Rattle.msr_steim.specs.Word.{AreGroups, FitsBits, IsGroup, IsGroupAt, group_width}
use Rattle.msr_base.specs.declared.kinds.Kind.{Kind}
use Rattle.msr_base.specs.declared.kinds.Kind.TheVariants.{Int16, Int24, Int32, Steim1, Steim2}
use Rattle.msr_words.specs.Fit.{Records, Fits, FitsAny, FitsIn, HasRoom, IsFirstKind, most_counted, rank}
use Rattle.msr_base.specs.declared.kinds.Kinds.{Kinds}
use Rattle.msr_base.specs.Kinds.{IsChosen, contains}
use Rattle.msr_words.specs.Division.{CanDivide}
use Rattle.msr_words.specs.Canonical.{IsCanonicalDivision}
use Rattle.msr_words.specs.Existence.{Decided}
use Rattle.msr_base.specs.RecordLength.{words_of}
use Rattle.msr_words.specs.Fit.{Fits, FitsAny, FitsIn, HasRoom, IsFirstKind, IsInteger, most_counted, rank}
use Rattle.msr_words.specs.Lemmas.LeastCounts.{a_group_has_few}
use Rattle.msr_words.specs.Lemmas.SteimLaws.{head_group, none_divides}
use Rattle.msr_words.proofs.WrittenDivision.{divides_can, starts_with, with_first, DividesFrom}
use Rattle.msr_words.proofs.DecidedStatements.{Last, all_decided, both_decided, each_decided, last_of, less_decided, most_decided, other_decided}

-- ---- groups

bits_decided : (w : ℕ) (z : ℤ) → Decided (FitsBits w z)
bits_decided w (pos n) = less_decided n (2 ^ (w - 1))
bits_decided w (negsuc n) = less_decided n (2 ^ (w - 1))

width_decided : (o : Option ℕ) (zs : List ℤ) → Decided (IsSomeAnd o (λ w. AllByRecursion (FitsBits w) zs))
width_decided None zs = inr (λ h. h)
width_decided (Some w) zs = each_decided (FitsBits w) (bits_decided w) zs

group_decided : (version : Version) (zs : List ℤ) → Decided (IsGroup version zs)
group_decided version zs = width_decided (group_width version (length zs)) zs

place_decided : (version : Version) (last : Bool) (zs : List ℤ) → Decided (IsGroupAt version last zs)
place_decided version true zs = group_decided version zs
place_decided One false zs = both_decided (IsGroup One zs) (length zs ≢ 3) (group_decided One zs)
    (other_decided (length zs) 3)
place_decided Two false zs = group_decided Two zs

-- ---- divisions

module _ (version : Version) where
  pub can_more : (m n : ℕ) (ds : List ℤ) → m ≤ n → CanDivide version m ds → CanDivide version n ds
  can_more m n ds le c = record {
    groups = c.groups;
    are_groups = c.are_groups;
    join = c.join;
    few = omega (arith, c.few);
  }

  from_more : (m n size : ℕ) (ds : List ℤ) → m ≤ n → DividesFrom version m size ds → DividesFrom version n size ds
  from_more m n size ds le d = record {
    within = d.within;
    some = omega (arith, d.some);
    group = d.group;
    can = can_more (m - 1) (n - 1) (drop size ds) (omega arith) d.can;
  }

  -- a division has a first group
  pub first_size : (n : ℕ) (ds : List ℤ) → 0 < length ds → CanDivide version n ds
      → (size : ℕ) × (size ≤ 7) × DividesFrom version n size ds
  first_size n ds some can = go can.groups can.are_groups can.join can.few
    where
      go : (gs : List (List ℤ)) → AreGroups version gs → joined_groups gs ≡ ds → length gs ≤ n
          → (size : ℕ) × (size ≤ 7) × DividesFrom version n size ds
      go [] are join few = let e : 0 ≡ length ds = ap length join in absurd (omega arith)
      go (g ∷ gs) are join few = (
        length g,
        (a_group_has_few version true g (head_group version g gs are)).1,
        from_more (suc (length gs)) n (length g) ds few (starts_with version g gs ds are join),
      )

  from_decided : (n size : ℕ) (ds : List ℤ) → Decided (CanDivide version n (drop size ds))
      → Decided (DividesFrom version (suc n) size ds)
  from_decided n size ds rest =
      let one : suc n - 1 ≡ n = omega arith in
      elim (most_decided size (length ds)) [
        | inr never ↦ inr (λ d. never d.within)
        | inl within ↦ elim (place_decided version (eqb size (length ds)) (take size ds)) [
          | inr never ↦ inr (λ d. never d.group)
          | inl group ↦ elim rest [
            | inr never ↦ inr (λ d. never (subst (λ k. CanDivide version k (drop size ds)) one d.can))
            | inl can ↦ inl (record {
              within = within;
              some = omega arith;
              group = group;
              can = subst (λ k. CanDivide version k (drop size ds)) (sym one) can;
            })
          ]
        ]
      ]

  pub divide_decided : (n : ℕ) (ds : List ℤ) → Decided (CanDivide version n ds)
  divide_decided n [] = inl (none_divides version n)
  divide_decided zero (x ∷ xs) = inr (λ can. let first = first_size 0 (x ∷ xs) (omega arith) can in
      let some = first.2.some in omega arith)
  divide_decided (suc n) (x ∷ xs) = elim (last_of (λ size. DividesFrom version (suc n) size (x ∷ xs))
      (λ size. from_decided n size (x ∷ xs) (divide_decided n (drop size (x ∷ xs)))) 7) [
        | inl l ↦ inl (divides_can version (suc n) l.place (x ∷ xs) l.holds)
        | inr nowhere ↦ inr (λ can. let first = first_size (suc n) (x ∷ xs) (omega arith) can in
            nowhere first.0 first.1 first.2)
      ]

  -- `n` groups suffice for the differences, and no division has fewer
  record IsFewest (n : ℕ) (ds : List ℤ) : Type 0 where
    can : CanDivide version n ds
    fewest : (m : ℕ) → CanDivide version m ds → n ≤ m

  fewest_of : (n : ℕ) (ds : List ℤ) → CanDivide version n ds → (m : ℕ) × IsFewest m ds
  fewest_of zero ds can = (0, record { can = can; fewest = λ m other. omega arith })
  fewest_of (suc n) ds can = elim (divide_decided n ds) [
    | inl fewer ↦ fewest_of n ds fewer
    | inr never ↦ (
      suc n,
      record {
        can = can;
        fewest = λ m other. elim (cases_lt n m) [
          | inl more ↦ omega arith
          | inr few ↦ absurd (never (can_more m n ds few other))
        ];
      },
    )
  ]

  -- ---- the canonical division

  pub record HasDivision (ds : List ℤ) : Type 0 where
    pub groups : List (List ℤ)
    pub canonical : IsCanonicalDivision version groups ds

  -- the longest first group with which no more groups are needed, and the groups after it
  module _ (n : ℕ) (ds : List ℤ) (is : IsFewest (suc n) ds)
      (l : Last (λ size. DividesFrom version (suc n) size ds) 7) where
    one : suc n - 1 ≡ n
    one = omega arith

    behind : CanDivide version n (drop l.place ds)
    behind = subst (λ k. CanDivide version k (drop l.place ds)) one l.holds.can

    fewest_behind : IsFewest n (drop l.place ds)
    fewest_behind = record {
      can = behind;
      fewest = λ m other.
          let same : suc m - 1 ≡ m = omega arith in
          let all = is.fewest (suc m) (divides_can version (suc m) l.place ds
          (record {
            within = l.holds.within;
            some = omega arith;
            group = l.holds.group;
            can = subst (λ k. CanDivide version k (drop l.place ds)) (sym same) other;
          })) in
          omega arith;
    }

    one_more : HasDivision (drop l.place ds) → HasDivision ds
    one_more rest =
        let joined : joined_groups (take l.place ds ∷ rest.groups) ≡ ds =
        ap (λ x. take l.place ds ++ x) rest.canonical.join ∙ take-append-drop l.place ds in
        let few : length rest.groups ≤ n = let f =
        rest.canonical.fewest behind.groups behind.are_groups behind.join in let b = behind.few in omega arith in
        let size : length (take l.place ds) ≡ l.place = length-take-le l.place ds l.holds.within in
        record {
          groups = take l.place ds ∷ rest.groups;
          canonical = record {
            are_groups = with_first version l.place ds rest.groups l.holds.within l.holds.group
                rest.canonical.are_groups rest.canonical.join;
            join = joined;
            fewest = λ others are join. let f = is.fewest (length others)
                (record { groups = others; are_groups = are; join = join; few = omega arith }) in omega arith;
            longest = (
              λ other others are join short.
                  let d = from_more (suc (length others)) (suc n) (length other) ds (omega arith)
                  (starts_with version other others ds are (join ∙ joined)) in
                  let small = (a_group_has_few version true other (head_group version other others are)).1 in
                  let last = l.last (length other) small d in
                  omega arith,
              rest.canonical.longest,
            );
          };
        }

  divided : (n : ℕ) (ds : List ℤ) → IsFewest n ds → HasDivision ds
  divided n [] is = record {
    groups = [];
    canonical =
        record { are_groups = tt; join = refl; fewest = λ others are join. omega arith; longest = tt };
  }
  divided zero (x ∷ xs) is = let first = first_size 0 (x ∷ xs) (omega arith) is.can in let some = first.2.some in
      absurd (omega arith)
  divided (suc n) (x ∷ xs) is = elim (last_of (λ size. DividesFrom version (suc n) size (x ∷ xs))
      (λ size. from_decided n size (x ∷ xs) (divide_decided n (drop size (x ∷ xs)))) 7) [
        | inl l ↦ one_more n (x ∷ xs) is l (divided n (drop l.place (x ∷ xs)) (fewest_behind n (x ∷ xs) is l))
        | inr nowhere ↦ let first = first_size (suc n) (x ∷ xs) (omega arith) is.can in
            absurd (nowhere first.0 first.1 first.2)
      ]

  pub has_division : (words : ℕ) (ds : List ℤ) → CanDivide version words ds → HasDivision ds
  has_division words ds can = let f = fewest_of words ds can in divided f.0 ds f.1

-- ---- the kinds

integer_decided : (width : Width) (x : ℤ) → Decided (IsInteger width x)
integer_decided TwoBytes x = bits_decided 16 x
integer_decided ThreeBytes x = bits_decided 24 x
integer_decided FourBytes x = inl tt

room_decided : (storage : Storage) (bytes : ℕ) (run : List (ℤ × ℤ)) → Decided (HasRoom storage bytes run)
room_decided (Integers width) bytes run = both_decided (All (λ p. IsInteger width p.0) run)
    (size_of width * length run + 64 ≤ bytes)
    (all_decided (λ p. IsInteger width p.0) (λ p. integer_decided width p.0) run)
    (most_decided (size_of width * length run + 64) bytes)
room_decided (Frames version) bytes run = divide_decided version (words_of bytes) (map (λ p. p.1) run)

pub fits_decided : (kind : Kind) (bytes : ℕ) (run : List (ℤ × ℤ)) → Decided (Fits kind bytes run)
fits_decided kind bytes run = both_decided (length run ≤ most_counted) (HasRoom (storage_of kind) bytes run)
    (most_decided (length run) most_counted) (room_decided (storage_of kind) bytes run)

chosen_decided : (kinds : Kinds) (kind : Kind) → Decided (IsChosen kinds kind)
chosen_decided kinds kind = elim (contains kinds kind) as (λ chosen. Decided (IsTrue chosen)) [
  | true ↦ inl refl
  | false ↦ inr (λ h. cc)
]

pub in_decided : (kind : Kind) (records : Records) (run : List (ℤ × ℤ)) → Decided (FitsIn kind records run)
in_decided kind records run = both_decided (IsChosen records.kinds kind) (Fits kind records.bytes run)
    (chosen_decided records.kinds kind) (fits_decided kind records.bytes run)

-- the kind that is tried first
pub record HasFirstKind (records : Records) (run : List (ℤ × ℤ)) : Type 0 where
  pub kind : Kind
  pub first : IsFirstKind records run kind

-- the kind of a rank
of_rank : ℕ → Kind
of_rank zero = Steim2
of_rank (suc zero) = Steim1
of_rank (suc (suc zero)) = Int16
of_rank (suc (suc (suc zero))) = Int24
of_rank (suc (suc (suc (suc n)))) = Int32

of_its_rank : (kind : Kind) → of_rank (rank kind) ≡ kind
unfolding of_rank
of_its_rank Steim2 = refl
of_its_rank Steim1 = refl
of_its_rank Int16 = refl
of_its_rank Int24 = refl
of_its_rank Int32 = refl

its_rank : (n : ℕ) → rank (of_rank n) ≤ n
unfolding of_rank
its_rank zero = omega arith
its_rank (suc zero) = omega arith
its_rank (suc (suc zero)) = omega arith
its_rank (suc (suc (suc zero))) = omega arith
its_rank (suc (suc (suc (suc n)))) = omega arith

pub few_kinds : (kind : Kind) → rank kind < 5
few_kinds Steim2 = omega arith
few_kinds Steim1 = omega arith
few_kinds Int16 = omega arith
few_kinds Int24 = omega arith
few_kinds Int32 = omega arith

-- no two kinds are tried at the same time
pub rank_same : (k l : Kind) → rank k ≡ rank l → k ≡ l
rank_same k l e = sym (of_its_rank k) ∙ ap of_rank e ∙ of_its_rank l

module _ (records : Records) (run : List (ℤ × ℤ)) where
  -- the run fits no kind that is tried before the n-th
  abbrev NoneBefore : ℕ → Type 0
  NoneBefore n = (kind : Kind) → rank kind < n → FitsIn kind records run → ⊥

  none_at : (n : ℕ) → NoneBefore n → (FitsIn (of_rank n) records run → ⊥) → NoneBefore (suc n)
  none_at n none not kind lower fits = elim (cases_lt (rank kind) n) [
    | inl less ↦ none kind less fits
    | inr here ↦ not (subst (λ k. FitsIn k records run) (sym (of_its_rank kind) ∙ ap of_rank (omega arith)) fits)
  ]

  -- whether some of the kinds from the n-th on fits, and then which is tried first
  first_from : (left n : ℕ) → NoneBefore n → HasFirstKind records run ⊎ NoneBefore (n + left)
  first_from zero n none = inr (subst NoneBefore (omega arith) none)
  first_from (suc left) n none = elim (in_decided (of_rank n) records run) [
    | inl fits ↦ inl (record {
      kind = of_rank n;
      first = (fits, λ other lower h. let low = its_rank n in none other (omega arith) h);
    })
    | inr not ↦ elim (first_from left (suc n) (none_at n none not)) [
      | inl found ↦ inl found
      | inr never ↦ inr (subst NoneBefore (omega arith) never)
    ]
  ]

  -- whether some kind fits, and then which is tried first
  first_of_kinds : HasFirstKind records run ⊎ (FitsAny records run → ⊥)
  first_of_kinds = elim (first_from 5 0 (λ kind lower h. omega arith)) [
    | inl found ↦ inl found
    | inr never ↦ inr (λ any. never any.0 (few_kinds any.0) any.1)
  ]

  pub any_decided : Decided (FitsAny records run)
  any_decided = elim first_of_kinds [
    | inl f ↦ inl (f.kind, f.first.0)
    | inr never ↦ inr never
  ]

  pub has_first_kind : FitsAny records run → HasFirstKind records run
  has_first_kind any = elim first_of_kinds [
    | inl f ↦ f
    | inr never ↦ absurd (never any)
  ]
