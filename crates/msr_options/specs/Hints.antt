-- What is told to people, and when.
use Rattle.std.specs.Prelude.{if◌then◌else◌, ◌≡◌, ◌⊎◌, ◌==◌, ℕ, List, [], ◌∷◌, ◌++◌, codes, Option, None, Some}
use Rattle.std.specs.List.{starts_with}
use Rattle.std.specs.declared.io.Error.{Error}
use Rattle.std.specs.Option.{option_map}
use Rattle.msr_options.specs.declared.hint.Hint.{Hint}
use Rattle.msr_options.specs.declared.hint.Hint.TheVariants.{Gzip, MiniSeed3, Folder, UnreadReport, UnreadRecords, Turns, NoArchive, Waiting, Lengths, System, FirstDay}
use Rattle.msr_options.specs.declared.hint.Side.{Side}
use Rattle.msr_options.specs.declared.hint.Side.TheVariants.{File, Records, Report, Outputs}

-- what of a day could not be opened or made
abbrev pub side_text : Side → List ℕ
side_text File = codes "its file in ROOT"
side_text Records = codes "its records in OUT"
side_text Report = codes "its report in REPORTS"
side_text Outputs = codes "its records or report might stand in ROOT"

abbrev pub unopened_text : Side → Option Error → Option (List ℕ)
unopened_text side None = Some (codes "the first day refused as cannot open: " ++ side_text side)
unopened_text side (Some error) = None

-- the text of a hint; that of the system's reason is the system's own
abbrev pub hint_text : Hint → Option (List ℕ)
hint_text Gzip = Some (codes "this is gzip")
hint_text MiniSeed3 = Some (codes "this is miniSEED 3, which msrepack does not read")
hint_text Folder = Some (codes "a folder: msrepack archive reads archives")
hint_text UnreadReport = Some (codes "the report cannot be read")
hint_text UnreadRecords = Some (codes "the report can be read, so it is the records")
hint_text Turns =
    Some (codes "no record was saved: most segments are one record long, as with channels in turns, or gaps")
hint_text NoArchive = Some (codes "no folder of an archive below ROOT")
hint_text Waiting =
    Some (codes "msrepack waits for records on standard input; msrepack --help tells what else it does")
hint_text Lengths =
    Some (codes "msrepack writes records of 256, 512, 1024, 2048, 4096, 8192, 16384, 32768 or 65536 bytes")
hint_text (System error) = None
hint_text (FirstDay unopened) = unopened_text unopened.side unopened.why

-- the line of a hint
abbrev pub line_of : Hint → Option (List ℕ)
line_of hint = option_map (λ text. codes "hint: " ++ (text ++ codes "\n")) (hint_text hint)

-- how files of gzip begin, and records of miniSEED 3
abbrev pub gzip_begin : List ℕ
gzip_begin = 31 ∷ 139 ∷ []

abbrev pub miniseed_3_begin : List ℕ
miniseed_3_begin = codes "MS" ++ 3 ∷ []

-- what begins so
abbrev pub hint_of_begin : List ℕ → Option Hint
hint_of_begin bytes =
    if starts_with (λ x y. x == y) bytes gzip_begin then Some Gzip
    else if starts_with (λ x y. x == y) bytes miniseed_3_begin then Some MiniSeed3
    else None

-- the bytes of a file have told it
abbrev pub IsOfBytes : Hint → Type 0
IsOfBytes hint = (hint ≡ Gzip) ⊎ (hint ≡ MiniSeed3)

-- one of two files that could not be read, the report or the records
abbrev pub IsOfUnread : Hint → Type 0
IsOfUnread hint = (hint ≡ UnreadReport) ⊎ (hint ≡ UnreadRecords)
