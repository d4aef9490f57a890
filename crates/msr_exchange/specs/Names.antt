-- The names of a day's files.
use Rattle.std.specs.Prelude.{◌≡◌, ◌≢◌, ◌==◌, ℕ, Bool, true, false, List, [], ◌∷◌, ◌++◌, bytes_eq, codes, string_bytes}
use Rattle.msr_tree.specs.Steps.{IsNoneOf, Path, folder_above, stands_in}
use Rattle.msr_sds.specs.SdsPath.{ReadsAsDay, SdsPath}
use Rattle.msr_exchange.specs.declared.names.Place.{Place}
use Rattle.msr_exchange.specs.declared.names.Side.{Side}
use Rattle.msr_exchange.specs.declared.names.Place.TheVariants.{Day, DayPart, Original, OriginalPart, Records, RecordsPart, Note, NotePart}

-- the paths of the names, and of the folders in which they stand
pub record Names : Type 0 where
  pub day : Path
  pub day_part : Path
  pub original : Path
  pub original_part : Path
  pub records : Path
  pub records_part : Path
  pub note : Path
  pub note_part : Path
  pub root : Path
  pub aside : Path
  pub out : Path

abbrev pub path_below : (folder : Path) (path : List ℕ) → Path
path_below folder path = folder ++ (codes "/" ++ path)

-- another name in the folder of a path
abbrev pub beside : (path name : List ℕ) → List ℕ
beside path name = path_below (folder_above path) name

-- the names of the day with this path from ROOT
abbrev pub names_of_day : (root out aside : Path) (path : List ℕ) → Names
names_of_day root out aside path = record {
  day = path_below root path;
  day_part = path_below root (beside path (codes ".msrepack-replace.day"));
  original = path_below aside path;
  original_part = path_below aside (beside path (codes ".msrepack-replace.original"));
  records = path_below out path;
  records_part = path_below out (beside path (codes ".msrepack-replace.records"));
  note = path_below aside (path ++ codes ".touch-time");
  note_part = path_below aside (beside path (codes ".msrepack-replace.note"));
  root = path_below root (folder_above path);
  aside = path_below aside (folder_above path);
  out = path_below out (folder_above path);
}

-- What a day has below one of the three folders.
pub record IsSide (top path name : List ℕ) (side : Side) : Type 0 where
  pub folder : string_bytes side.folder ≡ path_below top (folder_above path)
  pub file : string_bytes side.file ≡ path_below top path
  pub part : string_bytes side.part ≡ path_below top (beside path name)

abbrev pub path_at : Names → Place → Path
path_at names Day = names.day
path_at names DayPart = names.day_part
path_at names Original = names.original
path_at names OriginalPart = names.original_part
path_at names Records = names.records
path_at names RecordsPart = names.records_part
path_at names Note = names.note
path_at names NotePart = names.note_part

abbrev pub folder_at : Names → Place → Path
folder_at names Day = names.root
folder_at names DayPart = names.root
folder_at names Original = names.aside
folder_at names OriginalPart = names.aside
folder_at names Records = names.out
folder_at names RecordsPart = names.out
folder_at names Note = names.aside
folder_at names NotePart = names.aside

abbrev pub place_number : Place → ℕ
place_number Day = 0
place_number DayPart = 1
place_number Original = 2
place_number OriginalPart = 3
place_number Records = 4
place_number RecordsPart = 5
place_number Note = 6
place_number NotePart = 7

abbrev pub is_place : Place → Place → Bool
is_place one other = place_number one == place_number other

-- No two are the same, and each stands in its folder.
pub record AreNames (names : Names) : Type 0 where
  pub apart : (one other : Place) → is_place one other ≡ false → bytes_eq (path_at names one) (path_at names other) ≡ false
  pub inside : (place : Place) → stands_in (folder_at names place) (path_at names place) ≡ true

-- the name of a day's stamp, beside its report, and the one under which it is made
pub record StampPlaces : Type 0 where
  pub path : Path
  pub part : Path

abbrev pub stamp_of_day : (reports : Path) (path : List ℕ) → StampPlaces
stamp_of_day reports path = record {
  path = path_below reports (path ++ codes ".from");
  part = path_below reports (beside path (codes ".msrepack-replace.stamp"));
}

-- None of the two is one of the day's other names, nor the other.
pub record AreStampNames (names : Names) (stamp : StampPlaces) : Type 0 where
  pub apart : (place : Place) → IsNoneOf (path_at names place) (stamp.path ∷ stamp.part ∷ [])
  pub parts : bytes_eq stamp.path stamp.part ≡ false

-- the names of a day, without those of what is in its making
abbrev pub is_lasting : Place → Bool
is_lasting DayPart = false
is_lasting OriginalPart = false
is_lasting RecordsPart = false
is_lasting NotePart = false
is_lasting place = true

-- the names of a day
abbrev pub all : Names → List Path
all names = names.day ∷ names.day_part ∷ names.original ∷ names.original_part ∷ names.records ∷ names.records_part ∷ names.note ∷ names.note_part ∷ []

-- of the names that a day may change none is another day's
abbrev pub OtherDaysAreApart : Type 0
OtherDaysAreApart =
    (root out aside : Path) (path other : List ℕ) (day another : SdsPath) → ReadsAsDay path day → ReadsAsDay other another
    → path ≢ other
    → (place : Place) → is_lasting place ≡ true
    → IsNoneOf (path_at (names_of_day root out aside other) place) (all (names_of_day root out aside path))
