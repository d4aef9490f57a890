-- How long files were not changed.
use Rattle.std.specs.Prelude.{◌≡◌, ◌⊎◌, ℕ, pos, ◌-ℤ◌, ◌*ℤ◌, ◌<ℤ◌}
use Rattle.std.specs.Int.{saturate_signed, w64}
use Rattle.msr_tree.specs.declared.facts.Time.{Time}

abbrev pub IsLater : (time other : Time) → Type 0
IsLater time other = (other.seconds <ℤ time.seconds)
    ⊎ ((time.seconds ≡ other.seconds) × (other.nanoseconds <ℤ time.nanoseconds))

-- the time so many days before
abbrev pub before : Time → (days : ℕ) → Time
before time days = record {
  seconds = saturate_signed w64 (time.seconds -ℤ (pos days *ℤ pos 86_400));
  nanoseconds = time.nanoseconds;
}
