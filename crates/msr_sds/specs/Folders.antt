-- Folders of an archive, and how many levels of folders stand below one.
use Rattle.std.specs.Prelude.{◌≡◌, ◌≢◌, ℕ, ◌+◌, ◌≤◌, ◌==◌, Bool, List, [], length, codes, All, Option, None, Some}
use Rattle.std.specs.List.{slice_split}

abbrev pub is_slash : ℕ → Bool
is_slash byte = byte == 47

-- a file or folder has such a name; `.` and `..` are other names of folders
abbrev pub IsName : List ℕ → Type 0
IsName name = (name ≢ []) × (name ≢ codes ".") × (name ≢ codes "..")

-- what stands between the slashes of a path
abbrev pub names_of : List ℕ → List (List ℕ)
names_of path = slice_split is_slash path

-- the path is one of names, no more of them than the path of a day file has folders
abbrev pub IsFolder : List ℕ → Type 0
IsFolder path = All IsName (names_of path) × (length (names_of path) ≤ 4)

-- what a number of levels of folders says of the path below which a walk goes so deep
abbrev pub IsDepthBelow : List ℕ → Option ℕ → Type 0
IsDepthBelow path None = ¬ (IsFolder path)
IsDepthBelow path (Some levels) = IsFolder path × (length (names_of path) + levels ≡ 4)
