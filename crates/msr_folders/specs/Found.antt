-- What a walk found.
use Rattle.std.specs.Prelude.{◌≡◌, ℕ, ◌<◌}
use Rattle.msr_folders.specs.declared.found.WalkFound.{WalkFound}
use Rattle.msr_folders.specs.declared.found.WalkFound.TheVariants.{Well, Unwell, NoDay}

-- a walk found this if so many of its entries are to be looked at, and so many are days that are well
abbrev pub Finds : (unwell days : ℕ) → WalkFound → Type 0
Finds unwell days Well = (unwell ≡ 0) × (0 < days)
Finds unwell days Unwell = 0 < unwell
Finds unwell days NoDay = (unwell ≡ 0) × (days ≡ 0)
