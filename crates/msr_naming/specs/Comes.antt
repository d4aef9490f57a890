-- The report and the records of a day get their names as they come, and no folder is stored between.
use Rattle.std.specs.Prelude.{List, [], ◌∷◌, codes}
use Rattle.msr_tree.specs.Steps.{FileStored, Made, Path, Renamed, Step}

abbrev pub records_name : Path
records_name = codes "out/day"

abbrev pub report_name : Path
report_name = codes "reports/day.txt"

abbrev pub as_they_come : List Step
as_they_come = Renamed (codes "out/day.part") records_name ∷ Renamed (codes "reports/day.txt.part") report_name
    ∷ FileStored (codes "reports/day.txt.part") ∷ Made (codes "reports/day.txt.part") (codes "report")
    ∷ FileStored (codes "out/day.part") ∷ Made (codes "out/day.part") (codes "records") ∷ []
