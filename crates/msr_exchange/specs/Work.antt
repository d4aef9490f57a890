-- The folders of an archive whose files change places.
use Rattle.std.specs.Prelude.{◌≢◌, ◌∷◌, [], List, ℕ, codes}
use Rattle.msr_tree.specs.Steps.{Path}
use Rattle.msr_exchange.specs.Names.{Names, StampPlaces, path_below, names_of_day, stamp_of_day}
use Rattle.msr_exchange.specs.declared.work.DayWork.{DayWork}

-- No two of those in which names change are one.
pub record AreThreeFolders (work : DayWork) : Type 0 where
  pub out : work.root.now ≢ work.out.now
  pub aside : work.root.now ≢ work.aside.now
  pub others : work.out.now ≢ work.aside.now

-- the names of the day with this path from ROOT
abbrev pub names_in : DayWork → (path : List ℕ) → Names
names_in work path = names_of_day work.root.now work.out.now work.aside.now path

abbrev pub stamp_in : DayWork → (path : List ℕ) → StampPlaces
stamp_in work path = stamp_of_day work.reports.now path

-- the names of what is in its making in a folder of the three
abbrev pub parts_in : DayWork → (folder : List ℕ) → List Path
parts_in work folder =
    path_below work.root.now (path_below folder (codes ".msrepack-replace.day"))
    ∷ path_below work.out.now (path_below folder (codes ".msrepack-replace.records"))
    ∷ path_below work.aside.now (path_below folder (codes ".msrepack-replace.original"))
    ∷ path_below work.aside.now (path_below folder (codes ".msrepack-replace.note"))
    ∷ []
