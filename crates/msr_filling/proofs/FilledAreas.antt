-- The area that is filled with the words of a run.
use Rattle.std.proofs.Common.{◌≡◌, ◌≤◌, ◌+◌, ◌-◌, ◌*◌, ℕ, ℤ, pos, List, Option, length, get_or, arith, inl, inr}
use Rattle.std.proofs.lemmas.Bool.{cases_lt}
use Rattle.msr_base.specs.declared.storage.Version.{Version}
use Rattle.msr_steim.specs.Frames.{frame_bytes}
use Rattle.msr_words.specs.Canonical.{IsCanonicalDivision}
use Rattle.msr_words.specs.Division.{CanDivide}
use Rattle.msr_filling.specs.Filled.{IsFilledArea}
use Rattle.msr_words.specs.Segment.{differences}
use Rattle.msr_words.specs.Lemmas.SteimLaws.{size_law}
use Rattle.msr_words.proofs.DivisionsExist.{has_division}
use Rattle.msr_words.proofs.Plain.{length-differences}

-- with the groups of the division that is written, which has room if any division has
pub area_filled : (version : Version) (before : Option ℤ) (run : List ℤ) (frames : ℕ) (area : List ℕ) (number : ℕ)
    → 1 ≤ length run → CanDivide version (15 * frames - 2) (differences before run)
    → ((groups : List (List ℤ)) → IsCanonicalDivision version groups (differences before run)
    → length groups + 2 ≤ 15 * frames
    → (area ≡ frame_bytes version (get_or run 0 (pos 0)) (get_or run (length run - 1) (pos 0)) groups frames)
    × (number ≡ length groups))
    → IsFilledArea version before run frames area number
area_filled version before run frames area number some can filled =
    let found = has_division version (15 * frames - 2) (differences before run) can in
    let gs = found.groups in
    let chosen = found.canonical in
    let few : length found.groups ≤ 15 * frames - 2 =
    (let least = chosen.fewest can.groups can.are_groups can.join in let most = can.few in omega arith) in
    let long = length-differences before run in
    let room : length found.groups + 2 ≤ 15 * frames = elim (cases_lt 0 frames) [
      | inl some' ↦ omega arith
      | inr none ↦ absurd (let most = size_law version 0 (differences before run)
          (record { groups = gs; are_groups = chosen.are_groups; join = chosen.join; few = omega arith }) in
          omega arith)
    ] in
    let is = filled gs chosen room in
    record { groups = gs; canonical = chosen; bytes_are = is.0; number_is = is.1 }
