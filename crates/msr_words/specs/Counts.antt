-- The least number of groups of a run that grows, seen from its end.
use Rattle.std.specs.Prelude.{◌≡◌, ◌<◌, ◌≤◌, ℕ, suc, zero, ℤ, Bool, List, [], ◌++◌}
use Rattle.msr_base.specs.declared.storage.Version.{Version}
use Rattle.msr_steim.specs.Word.{IsGroupAt, IsInnerGroup}

-- These differences, the newest first, are divided into exactly the given number of groups that
-- others may follow.
abbrev pub Parts : Version → ℕ → List ℤ → Type 0
Parts version zero past = past ≡ []
Parts version (suc n) past = (group : List ℤ) × (rest : List ℤ) × IsInnerGroup version group × Parts version n rest
    × (past ≡ group ++ rest)

-- they are divided into at most `n` such groups
pub record AtMost (version : Version) (n : ℕ) (past : List ℤ) : Type 0 where
  pub number : ℕ
  pub few : number ≤ n
  pub parts : Parts version number past

-- they are divided into at most `n` groups, of which the newest is a group at its place
pub record EndsIn (version : Version) (last : Bool) (n : ℕ) (past : List ℤ) : Type 0 where
  pub group : List ℤ
  pub rest : List ℤ
  pub number : ℕ
  pub few : number < n
  pub newest : IsGroupAt version last group
  pub parts : Parts version number rest
  pub join : past ≡ group ++ rest

-- c is the least number for which P holds of these differences, as far as numbers up to `words` go
abbrev pub IsLeastUpTo : (ℕ → List ℤ → Type 0) → ℕ → ℕ → List ℤ → Type 0
IsLeastUpTo P words c past = (n : ℕ) → n ≤ words → ((c ≤ n → P n past) × (P n past → c ≤ n))
