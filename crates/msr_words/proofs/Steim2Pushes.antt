-- What one more difference does to whether a run of Steim-2 differences fits.
use Rattle.std.proofs.Common.{◌≡◌, ℕ, suc, ◌+◌, ◌-◌, ◌≤◌, ◌<◌, min, Bool, true, false, IsTrue, ◌∙◌, ◌↔◌, ℤ, List, [], ◌∷◌, ◌++◌, length, arith, refl, sym, subst, inl, inr, ◌⊎◌, map, append_assoc, length-append}
use Rattle.std.specs.List.{All}
use Rattle.std.proofs.lemmas.List.{append-nil, nil_from_length, map-append}
use Rattle.std.proofs.lemmas.Bool.{cases_lt}
use Rattle.std.proofs.lemmas.List.Elements.{All-weaker, All-push, All-nil, All-cons, All-take, All-contains, Contains-push}
use Rattle.std.proofs.lemmas.List.{take_at}
use Rattle.msr_base.specs.declared.storage.Version.TheVariants.{Two}
use Rattle.msr_steim.specs.Word.{FitsBits}
use Rattle.msr_base.specs.declared.kinds.Kind.TheVariants.{Steim2}
use Rattle.msr_words.specs.Division.{CanDivide}
use Rattle.msr_words.specs.Fit.{Fits}
use Rattle.msr_words.specs.Laws.{most_of}
use Rattle.msr_base.specs.RecordLength.{words_of}
use Rattle.msr_words.specs.Lemmas.KindLaws.{prefix_kind, size_kind}
use Rattle.msr_words.proofs.Parts.{HasDivision, division_back, division_rest, first_fits, none_left, one_group, no_groups}
use Rattle.msr_words.specs.Groups.{IsCapacity}
use Rattle.msr_words.proofs.Steim2Groups.{IsOfBits, IsSteim2Group, bits_from, bits_to, capacity_at, division_from, division_to, row, row_of, steim2_bits, steim2_parts}
use Rattle.msr_words.specs.Trackers.{FollowsSteim2, Steim2SoFar}

-- a tracker with these fields
abbrev tracker : ℕ → ℕ → ℕ → ℕ → Bool → Steim2SoFar
tracker left count most more fits =
    record { left = left; count = count; most = most; more = more; fits = fits }

-- what a Steim-2 tracker says of differences that fit so far, over the parts of groups
pub record IsOpen (words : ℕ) (ds : List ℤ) (left count most : ℕ) : Type 0 where
  pub group : List ℤ
  pub size : length group ≡ count
  pub room : count ≤ most
  pub limit : most ≤ 7
  pub bits : (n : ℕ) → 1 ≤ n → n ≤ 7 → (All (IsOfBits (steim2_bits n)) group ↔ n ≤ most)
  pub so_far : (tail : List ℤ) → (HasDivision IsSteim2Group words (ds ++ tail)
      ↔ HasDivision IsSteim2Group (suc left) (group ++ tail))

module _ (bytes : ℕ) (run : List (ℤ × ℤ)) (left count most more : ℕ) where
  open_of : FollowsSteim2 bytes run (tracker left count most more true)
      → IsOpen (words_of bytes) (map (λ p. p.1) run) left count most
  open_of state = record {
    group = state.group;
    size = state.size;
    room = state.room;
    limit = state.limit;
    bits = λ n l h.
        let w = steim2_bits n in
        let e = state.bits n w (row n l h) in (
          λ all. e.0 (All-weaker (IsOfBits w) (FitsBits w) (bits_from w) state.group all),
          λ le. All-weaker (FitsBits w) (IsOfBits w) (bits_to w) state.group (e.1 le),
        );
    so_far = λ tail.
        let e = state.so_far refl tail in (
          λ d. division_to (suc left) (state.group ++ tail)
              (e.0 (division_from (words_of bytes) (map (λ p. p.1) run ++ tail) d)),
          λ d. division_to (words_of bytes) (map (λ p. p.1) run ++ tail)
              (e.1 (division_from (suc left) (state.group ++ tail) d)),
        );
  }

  follows_of : IsOpen (words_of bytes) (map (λ p. p.1) run) left count most
      → length run + more ≡ most_of Steim2 bytes → FollowsSteim2 bytes run (tracker left count most more true)
  follows_of state number = record {
    group = state.group;
    size = state.size;
    room = state.room;
    limit = state.limit;
    bits = λ n width is.
        let r = row_of n width is in
        let e = state.bits n r.0 r.1 in
        subst (λ w. All (FitsBits w) state.group ↔ n ≤ most) r.2 (
          λ all. e.0 (All-weaker (FitsBits (steim2_bits n)) (IsOfBits (steim2_bits n))
              (bits_to (steim2_bits n)) state.group all),
          λ le. All-weaker (IsOfBits (steim2_bits n)) (FitsBits (steim2_bits n))
              (bits_from (steim2_bits n)) state.group (e.1 le),
        );
    so_far = λ t tail.
        let e = state.so_far tail in (
          λ c. division_from (suc left) (state.group ++ tail)
              (e.0 (division_to (words_of bytes) (map (λ p. p.1) run ++ tail) c)),
          λ c. division_from (words_of bytes) (map (λ p. p.1) run ++ tail)
              (e.1 (division_to (suc left) (state.group ++ tail) c)),
        );
    number = λ t. number;
    past = λ f. cc;
  }

  -- a run that does not fit
  refused_of : {fits : Bool} (before : List (ℤ × ℤ)) → FollowsSteim2 bytes before (tracker left count most more fits)
      → (Fits Steim2 bytes run → ⊥) → FollowsSteim2 bytes run (tracker left count most more false)
  refused_of before state never = record {
    group = state.group;
    size = state.size;
    room = state.room;
    limit = state.limit;
    bits = state.bits;
    so_far = λ t. cc;
    number = λ t. cc;
    past = λ f. never;
  }

module _ (words left count most : ℕ) (ds : List ℤ) (state : IsOpen words ds left count most) (d : ℤ) (capacity : ℕ)
    (is : IsCapacity d capacity) (seven : capacity ≤ 7) where
  -- the open group with the next difference
  bits_more : (n : ℕ) → 1 ≤ n → n ≤ 7 → (All (IsOfBits (steim2_bits n)) (state.group ++ d ∷ []) ↔ n ≤ min most capacity)
  bits_more n l h =
      let old = state.bits n l h in
      let new = capacity_at d capacity n is l h in (
        λ all. let a = old.0 (subst (All (IsOfBits (steim2_bits n)))
            (take_at state.group (d ∷ []) (length state.group) refl)
            (All-take (IsOfBits (steim2_bits n)) (length state.group) (state.group ++ d ∷ []) all)) in
            let b = new.0 (All-contains (IsOfBits (steim2_bits n)) (state.group ++ d ∷ []) d all
            (Contains-push state.group d)) in omega arith,
        λ le. All-push (IsOfBits (steim2_bits n)) state.group d (old.1 (omega arith)) (new.1 (omega arith)),
      )

  is_group : 0 < count → IsSteim2Group state.group
  is_group some =
      let size = state.size in
      let room = state.room in
      let limit = state.limit in
      record {
        some = omega arith;
        most = omega arith;
        bits = subst (λ n. All (IsOfBits (steim2_bits n)) state.group) (sym size)
            ((state.bits count (omega arith) (omega arith)).1 room);
      }

  no_more : (count < min most capacity → ⊥) → 0 < capacity → 0 < count
  no_more full some = elim (cases_lt 0 count) [
    | inl yes' ↦ yes'
    | inr none ↦
        let size = state.size in
        let nil : state.group ≡ [] = nil_from_length state.group (omega arith) in
        let one = (state.bits 1 (omega arith) (omega arith)).0
        (subst (All (IsOfBits 30)) (sym nil) (All-nil (IsOfBits 30))) in
        absurd (full (omega arith))
  ]

  alone : 0 < capacity → IsSteim2Group (d ∷ [])
  alone some = record {
    some = omega arith;
    most = omega arith;
    bits = All-cons (IsOfBits 30) d [] ((capacity_at d capacity 1 is (omega arith) (omega arith)).1 some)
        (All-nil (IsOfBits 30));
  }

  no_room : IsSteim2Group (d ∷ []) → 0 < capacity
  no_room group = (capacity_at d capacity 1 is (omega arith) (omega arith)).0 (group.bits 0 d (omega arith))

  closed : (count < min most capacity → ⊥) → IsSteim2Group (state.group ++ d ∷ []) → ⊥
  closed full group =
      let size = state.size in
      let l = length-append state.group (d ∷ []) in
      let most' = group.most in
      let b = (bits_more (length (state.group ++ d ∷ [])) group.some group.most).0 group.bits in
      full (omega arith)

  -- what is left after a closed group
  rest : (tail : List ℤ) → (count < min most capacity → ⊥) → 0 < capacity
      → HasDivision IsSteim2Group (suc left) (state.group ++ d ∷ tail) → HasDivision IsSteim2Group left (d ∷ tail)
  rest tail full some h =
      division_rest IsSteim2Group steim2_parts left state.group (d ∷ tail) (is_group (no_more full some))
      (λ y ys e g. let same : y ≡ d = cc in closed full (subst (λ z. IsSteim2Group (state.group ++ z ∷ [])) same g)) h

  pub steim2_no : (left ≡ 0) ⊎ (capacity ≡ 0) → (count < min most capacity → ⊥)
      → HasDivision IsSteim2Group words (ds ++ d ∷ []) → ⊥
  steim2_no why full h =
      let open' = (state.so_far (d ∷ [])).0 h in
      let some = no_room (first_fits IsSteim2Group steim2_parts (suc left) d []
      (division_back IsSteim2Group steim2_parts (suc left) state.group (d ∷ []) open')) in
      elim why [
        | inl none ↦ none_left IsSteim2Group steim2_parts d []
            (subst (λ n. HasDivision IsSteim2Group n (d ∷ [])) none (rest [] full some open'))
        | inr zero' ↦ absurd (omega arith)
      ]

  pub steim2_same : count < min most capacity → IsOpen words (ds ++ d ∷ []) left (count + 1) (min most capacity)
      × HasDivision IsSteim2Group words (ds ++ d ∷ [])
  steim2_same fits =
      let size : length (state.group ++ d ∷ []) ≡ count + 1 =
      (let l = length-append state.group (d ∷ []) in let s = state.size in omega arith) in
      let limit = state.limit in
      let group : IsSteim2Group (state.group ++ d ∷ []) = record {
        some = omega arith;
        most = omega arith;
        bits = (bits_more (length (state.group ++ d ∷ [])) (omega arith) (omega arith)).1 (omega arith);
      } in (
        record {
          group = state.group ++ d ∷ [];
          size = size;
          room = omega arith;
          limit = omega arith;
          bits = bits_more;
          so_far = λ tail. rw (append_assoc ds (d ∷ []) tail, append_assoc state.group (d ∷ []) tail)
              (state.so_far (d ∷ tail));
        },
        (state.so_far (d ∷ [])).1 (subst (HasDivision IsSteim2Group (suc left)) (append-nil (state.group ++ d ∷ []))
            (one_group IsSteim2Group left (state.group ++ d ∷ []) [] group (no_groups IsSteim2Group left))),
      )

  pub steim2_next : (count < min most capacity → ⊥) → 0 < left → 0 < capacity
      → IsOpen words (ds ++ d ∷ []) (left - 1) 1 capacity × HasDivision IsSteim2Group words (ds ++ d ∷ [])
  steim2_next full more some =
      let less : left ≡ suc (left - 1) = omega arith in
      let group = is_group (no_more full some) in (
        record {
          group = d ∷ [];
          size = refl;
          room = omega arith;
          limit = seven;
          bits = λ n l h. (
            λ all. (capacity_at d capacity n is l h).0 (all 0 d (omega arith)),
            λ le. All-cons (IsOfBits (steim2_bits n)) d [] ((capacity_at d capacity n is l h).1 le)
                (All-nil (IsOfBits (steim2_bits n))),
          );
          so_far = λ tail. rw (append_assoc ds (d ∷ []) tail) (
            λ h. subst (λ n. HasDivision IsSteim2Group n (d ∷ tail)) less
                (rest tail full some ((state.so_far (d ∷ tail)).0 h)),
            λ h. (state.so_far (d ∷ tail)).1 (one_group IsSteim2Group left state.group (d ∷ tail) group
                (subst (λ n. HasDivision IsSteim2Group n (d ∷ tail)) (sym less) h)),
          );
        },
        (state.so_far (d ∷ [])).1 (one_group IsSteim2Group left state.group (d ∷ []) group
            (subst (λ n. HasDivision IsSteim2Group n (d ∷ [])) (sym less)
            (one_group IsSteim2Group (left - 1) (d ∷ []) [] (alone some) (no_groups IsSteim2Group (left - 1))))),
      )

-- ---- the tracker before the first sample

pub steim2_start : (bytes left more : ℕ) → words_of bytes ≡ suc left → more ≡ most_of Steim2 bytes
    → FollowsSteim2 bytes [] (tracker left 0 7 more true)
steim2_start bytes left more e number =
    let state : IsOpen (words_of bytes) [] left 0 7 = record {
      group = [];
      size = refl;
      room = omega arith;
      limit = omega arith;
      bits = λ n l h. (λ all. h, λ le. All-nil (IsOfBits (steim2_bits n)));
      so_far = λ tail. (
        λ h. subst (λ n. HasDivision IsSteim2Group n tail) e h,
        λ h. subst
            (λ n. HasDivision IsSteim2Group n tail) (sym e) h,
      );
    } in
    follows_of bytes [] left 0 7 more state (omega (arith, number))

-- ---- one sample more, as the code computes it

-- the tracker after a run, and whether it says that the run fits
abbrev pub IsPushed : ℕ → List (ℤ × ℤ) → ℕ → ℕ → ℕ → ℕ → Bool → Type 0
IsPushed bytes run left count most more fits =
    FollowsSteim2 bytes run (tracker left count most more fits) × (IsTrue fits ↔ Fits Steim2 bytes run)

module _ (bytes : ℕ) (run : List (ℤ × ℤ)) (x d : ℤ) (left count most more : ℕ) where
  last : map (λ p. p.1) (run ++ (x, d) ∷ []) ≡ map (λ p. p.1) run ++ d ∷ []
  last = map-append (λ (p : ℤ × ℤ). p.1) run ((x, d) ∷ [])

  refused : {fits : Bool} → FollowsSteim2 bytes run (tracker left count most more fits)
      → (Fits Steim2 bytes (run ++ (x, d) ∷ []) → ⊥) → IsPushed bytes (run ++ (x, d) ∷ []) left count most more false
  refused state never = (
    refused_of bytes (run ++ (x, d) ∷ []) left count most more run state never,
    (λ t. cc, λ h. absurd (never h)),
  )

  pub push_steim2_dead : FollowsSteim2 bytes run (tracker left count most more false)
      → IsPushed bytes (run ++ (x, d) ∷ []) left count most more false
  push_steim2_dead state = refused state (λ h. state.past refl (prefix_kind Steim2 bytes run ((x, d) ∷ []) h))

  module _ (state : FollowsSteim2 bytes run (tracker left count most more true)) where
    -- a record has no more samples
    pub push_steim2_full : more ≡ 0 → IsPushed bytes (run ++ (x, d) ∷ []) left count most more false
    push_steim2_full none = refused state (λ h.
        let few = size_kind Steim2 bytes (run ++ (x, d) ∷ []) h in
        let number = state.number refl in
        omega (arith, length-append run ((x, d) ∷ []), few, number, none))

    module _ (capacity : ℕ) (is : IsCapacity d capacity) (room opened : ℕ) (room_is : room ≡ min most capacity)
        (stays : count < room → opened ≡ 0) (opens : room ≤ count → opened ≡ 1) where
      no_word : (left ≡ 0) ⊎ (capacity ≡ 0) → (count < min most capacity → ⊥)
          → IsPushed bytes (run ++ (x, d) ∷ []) left count most more false
      no_word why full = refused state (λ h.
          steim2_no (words_of bytes) left count most (map (λ p. p.1) run)
          (open_of bytes run left count most more state) d capacity is is.most why full
          (subst (HasDivision IsSteim2Group (words_of bytes)) last
          (division_to (words_of bytes) (map (λ p. p.1) (run ++ (x, d) ∷ [])) h.1)))

      pub push_steim2_off : (left < opened) ⊎ (capacity < opened)
          → IsPushed bytes (run ++ (x, d) ∷ []) left count most more false
      push_steim2_off why = elim (cases_lt count room) [
        | inl less ↦ absurd (let none = stays less in elim why [ inl h ↦ omega arith | inr h ↦ omega arith ])
        | inr full ↦
            let one = opens full in
            no_word (elim why [ inl h ↦ inl (omega arith) | inr h ↦ inr (omega arith) ]) (λ less. omega arith)
      ]

      module _ (some : 0 < more) where
        taken : (left' count' most' : ℕ) → IsOpen (words_of bytes)
            (map (λ p. p.1) run ++ d ∷ []) left' count' most'
            × HasDivision IsSteim2Group (words_of bytes) (map (λ p. p.1) run ++ d ∷ [])
            → IsPushed bytes (run ++ (x, d) ∷ []) left' count' most' (more - 1) true
        taken left' count' most' r =
            let number = state.number refl in
            let long = length-append run ((x, d) ∷ []) in
            let state' = subst (λ ds. IsOpen (words_of bytes) ds left' count' most') (sym last) r.0 in
            let can = subst (CanDivide Two (words_of bytes)) (sym last)
            (division_from (words_of bytes) (map (λ p. p.1) run ++ d ∷ []) r.1) in (
              follows_of bytes (run ++ (x, d) ∷ []) left' count' most' (more - 1) state' (omega arith),
              (λ t. (omega arith, can), λ h. refl),
            )

        pub push_steim2_on : opened ≤ left → opened ≤ capacity → (left' count' most' : ℕ) → left' ≡ left - opened →
            (count < room → count' ≡ count + 1) → (room ≤ count → count' ≡ 1) → (count < room → most' ≡ room)
            → (room ≤ count → most' ≡ capacity) →
            IsPushed bytes (run ++ (x, d) ∷ []) left' count' most' (more - 1) true
        push_steim2_on enough one_more left' count' most' l c c' m m' = elim (cases_lt count room) [
          | inl less ↦
              let none = stays less in
              let same_left : left' ≡ left = omega arith in
              let same_most : most' ≡ min most capacity = m less ∙ room_is in
              rw (same_left, c less, same_most) (taken left (count + 1) (min most capacity)
              (steim2_same (words_of bytes) left count most (map (λ p. p.1) run)
              (open_of bytes run left count most more state) d capacity is is.most (omega arith)))
          | inr full ↦
              let one = opens full in
              let next_left : left' ≡ left - 1 = omega arith in
              rw (next_left, c' full, m' full) (taken (left - 1) 1 capacity
              (steim2_next (words_of bytes) left count most (map (λ p. p.1) run)
              (open_of bytes run left count most more state) d capacity is is.most (λ less. omega arith)
              (omega arith) (omega arith)))
        ]
