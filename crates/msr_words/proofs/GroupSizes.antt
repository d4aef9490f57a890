-- Groups of Steim-1 by the sizes of their differences.
use Rattle.std.proofs.Common.{◌↔◌, ◌<◌, ◌≤◌, ℕ, suc, ℤ, List, [], ◌∷◌, length, take, arith, bit_or, lit≤}
use Rattle.std.proofs.lemmas.Nat.{le_or_l, le_or_r, or_lt}
use Rattle.msr_base.specs.declared.storage.Version.TheVariants.{One}
use Rattle.msr_steim.specs.Word.{IsGroup}
use Rattle.msr_words.specs.FirstGroup.{IsSizeAt}
use Rattle.msr_words.specs.Window.{IsSize}

-- ---- the sizes of the differences

pub size_here : (d : ℤ) (ds : List ℤ) (size : ℕ) → IsSize d size → IsSizeAt (d ∷ ds) 0 size
size_here d ds size here width small = (λ less. (omega arith, (here width).1 less), λ fits. (here width).0 fits.1)

pub size_later : (d : ℤ) (ds : List ℤ) (at size : ℕ) → IsSizeAt ds at size → IsSizeAt (d ∷ ds) (suc at) size
size_later d ds at size there width small = (
  λ less. let h = (there width small).0 less in
      (omega (arith, h.0), h.1),
  λ fits. (there width small).1 (omega (arith, fits.0), fits.1),
)

-- ---- groups by sizes

pub pair_is : (d : ℤ) (ds : List ℤ) (size first : ℕ) → IsSize d size → IsSizeAt ds 0 first
    → (bit_or size first < 32768 ↔ (2 ≤ length (d ∷ ds)) × IsGroup One (take 2 (d ∷ ds)))
pair_is d [] size first here one =
    let r = le_or_r size first in (
      λ small. let e = ((one 16 (lit≤ tt)).0 (omega arith)).0 in absurd (omega arith),
      λ group. let e = group.0 in
          absurd (omega arith),
    )
pair_is d (x ∷ ds) size first here one =
    let l = le_or_l size first in
    let r = le_or_r size first in (
      λ small. (omega arith, ((here 16).1 (omega arith), (((one 16 (lit≤ tt)).0 (omega arith)).1, tt))),
      λ group. or_lt 15 size first ((here 16).0 group.1.0) ((one 16 (lit≤ tt)).1 (omega arith, group.1.1.0)),
    )

-- if there is no difference at a place, it is in no group
missing : (P : Type 0) (ds : List ℤ) (at before last : ℕ) → IsSizeAt ds at last → length ds ≤ at
    → (bit_or before last < 128 ↔ (suc at ≤ length ds) × P)
missing P ds at before last there short =
    let r = le_or_r before last in (
      λ small. absurd (omega (arith, ((there 8 (lit≤ tt)).0 (omega arith)).0)),
      λ group. absurd (omega (arith, group.0)),
    )

-- three differences
pub triple_at : (ds : List ℤ) (first second third : ℕ) → IsSizeAt ds 0 first → IsSizeAt ds 1 second
    → IsSizeAt ds 2 third
    → (bit_or (bit_or first second) third < 128 ↔ (3 ≤ length ds) × IsGroup One (take 3 ds))
triple_at [] first second third one two three =
    missing (IsGroup One (take 3 [])) [] 2 (bit_or first second) third three (omega arith)
triple_at (x ∷ []) first second third one two three =
    missing (IsGroup One (take 3 (x ∷ []))) (x ∷ []) 2 (bit_or first second) third three (omega arith)
triple_at (x ∷ y ∷ []) first second third one two three =
    missing (IsGroup One (take 3 (x ∷ y ∷ []))) (x ∷ y ∷ []) 2 (bit_or first second) third three (omega arith)
triple_at (x ∷ y ∷ z ∷ ds) first second third one two three =
    let l = le_or_l first second in
    let r = le_or_r first second in
    let l' = le_or_l (bit_or first second) third in
    let r' = le_or_r (bit_or first second) third in (
      λ small. (
        omega arith,
        (
          ((one 8 (lit≤ tt)).0 (omega arith)).1,
          (((two 8 (lit≤ tt)).0 (omega arith)).1, (((three 8 (lit≤ tt)).0 (omega arith)).1, tt)),
        ),
      ),
      λ group. or_lt 7 (bit_or first second) third
          (or_lt 7 first second ((one 8 (lit≤ tt)).1 (omega arith, group.1.0))
          ((two 8 (lit≤ tt)).1 (omega arith, group.1.1.0))) ((three 8 (lit≤ tt)).1 (omega arith, group.1.1.1.0)),
    )

pub triple_is : (d : ℤ) (ds : List ℤ) (size first second : ℕ) → IsSize d size → IsSizeAt ds 0 first
    → IsSizeAt ds 1 second
    → (bit_or (bit_or size first) second < 128 ↔ (3 ≤ length (d ∷ ds)) × IsGroup One (take 3 (d ∷ ds)))
triple_is d ds size first second here one two =
    triple_at (d ∷ ds) size first second (size_here d ds size here) (size_later d ds 0 first one)
    (size_later d ds 1 second two)

pub four_is : (d : ℤ) (ds : List ℤ) (size first second third : ℕ) → IsSize d size → IsSizeAt ds 0 first
    → IsSizeAt ds 1 second → IsSizeAt ds 2 third
    → (bit_or (bit_or (bit_or size first) second) third < 128 ↔ (4 ≤ length (d ∷ ds)) × IsGroup One (take 4 (d ∷ ds)))
four_is d [] size first second third here one two three =
    missing (IsGroup One (take 4 (d ∷ []))) (d ∷ []) 3 (bit_or (bit_or size first) second) third
    (size_later d [] 2 third three) (omega arith)
four_is d (x ∷ []) size first second third here one two three =
    missing (IsGroup One (take 4 (d ∷ x ∷ []))) (d ∷ x ∷ []) 3 (bit_or (bit_or size first) second) third
    (size_later d (x ∷ []) 2 third three) (omega arith)
four_is d (x ∷ y ∷ []) size first second third here one two three =
    missing (IsGroup One (take 4 (d ∷ x ∷ y ∷ []))) (d ∷ x ∷ y ∷ []) 3 (bit_or (bit_or size first) second) third
    (size_later d (x ∷ y ∷ []) 2 third three) (omega arith)
four_is d (x ∷ y ∷ z ∷ ds) size first second third here one two three =
    let l = le_or_l size first in
    let r = le_or_r size first in
    let l' = le_or_l (bit_or size first) second in
    let r' = le_or_r (bit_or size first) second in
    let l'' = le_or_l (bit_or (bit_or size first) second) third in
    let r'' = le_or_r (bit_or (bit_or size first) second) third in (
      λ small. (
        omega arith,
        (
          (here 8).1 (omega arith),
          (
            ((one 8 (lit≤ tt)).0 (omega arith)).1,
            (
              ((two 8 (lit≤ tt)).0 (omega arith)).1,
              (((three 8 (lit≤ tt)).0 (omega arith)).1, tt),
            ),
          ),
        ),
      ),
      λ group. or_lt 7 (bit_or (bit_or size first) second) third
          (or_lt 7 (bit_or size first) second (or_lt 7 size first ((here 8).0 group.1.0)
          ((one 8 (lit≤ tt)).1 (omega arith, group.1.1.0))) ((two 8 (lit≤ tt)).1
          (omega arith, group.1.1.1.0))) ((three 8 (lit≤ tt)).1 (omega arith, group.1.1.1.1.0)),
    )
