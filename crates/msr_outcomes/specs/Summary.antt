-- The last lines of a walk: its channels, and its counts.
use Rattle.std.specs.Prelude.{ℕ, Bool, false, true, List, [], ◌++◌, map, codes, nat_lt}
use Rattle.std.specs.Fmt.{decimal}
use Rattle.std.specs.List.{flat_map, zip}
use Rattle.msr_folders.specs.Paths.{text_json}
use Rattle.msr_folders.specs.declared.totals.Total.{Total}
use Rattle.msr_options.specs.declared.days.DayOptions.{DayOptions}
use Rattle.msr_options.specs.Known.{knows_any}
use Rattle.msr_options.specs.declared.task.Archiving.{Archiving}
use Rattle.msr_options.specs.declared.task.ListForm.{ListForm}
use Rattle.msr_options.specs.declared.task.ListForm.TheVariants.{Words, Json}
use Rattle.msr_outcomes.specs.Entries.{Entry, bytes_of_channels, channels_of, counted, first_unopened, is_done, is_known, is_larger, is_refused, is_skipped, is_young, summed}
use Rattle.msr_outcomes.specs.Lines.{bytes_json, bytes_told}
use Rattle.msr_outcomes.specs.declared.tally.Tally.{Tally}

-- each channel's name with the totals of its records, and those of its bytes
abbrev pub with_bytes : (totals bytes : List (List ℕ × Total)) → List ((List ℕ × Total) × Total)
with_bytes totals bytes = zip totals (map (λ total. total.1) bytes)

-- the line of a channel's totals, of records and of bytes, in words
abbrev pub channel_words : (bytes : Bool) → (List ℕ × Total) × Total → List ℕ
channel_words bytes of =
    codes "channel " ++ (of.0.0 ++ (codes " files "
    ++ (decimal of.0.1.files ++ (codes " read "
    ++ (decimal of.0.1.read ++ (codes " written " ++ (decimal of.0.1.written
    ++ (bytes_told bytes of.1.read of.1.written ++ codes "\n"))))))))

-- in JSON
abbrev pub channel_json : (bytes : Bool) → (List ℕ × Total) × Total → List ℕ
channel_json bytes of =
    codes "{\"what\":\"channel\",\"id\":\"" ++ (text_json of.0.0 ++ (codes "\",\"files\":"
    ++ (decimal of.0.1.files ++ (codes ",\"read\":"
    ++ (decimal of.0.1.read ++ (codes ",\"written\":" ++ (decimal of.0.1.written
    ++ (bytes_json bytes of.1.read of.1.written ++ codes "}\n"))))))))

abbrev pub channel_told : ListForm → (bytes : Bool) → (List ℕ × Total) × Total → List ℕ
channel_told Words bytes of = channel_words bytes of
channel_told Json bytes of = channel_json bytes of

abbrev pub channel_line : DayOptions → (List ℕ × Total) × Total → List ℕ
channel_line asked of = channel_told asked.telling.form asked.bytes of

-- what the last line says of days that are counted only if that is asked for: those that are known, that did not get
-- smaller, and that are young
abbrev pub count_told : (told : Bool) (word : List ℕ) (days : ℕ) → List ℕ
count_told false word days = []
count_told true word days = codes " " ++ (word ++ (codes " " ++ decimal days))

abbrev pub count_json : (told : Bool) (word : List ℕ) (days : ℕ) → List ℕ
count_json false word days = []
count_json true word days = codes ",\"" ++ (word ++ (codes "\":" ++ decimal days))

-- the last line in words
abbrev pub files_words : DayOptions → (known : Bool) → Tally → List ℕ
files_words days known tally =
    codes "files " ++ (decimal tally.done ++ (codes " skipped "
    ++ (decimal tally.skipped ++ (codes " refused " ++ (decimal tally.refused
    ++ (count_told known (codes "known") tally.known ++ (count_told days.only_smaller (codes "larger") tally.larger ++ (count_told (nat_lt 0 days.older_than) (codes "young") tally.young
    ++ (bytes_told days.bytes tally.bytes_read tally.bytes_written ++ codes "\n")))))))))

-- in JSON
abbrev pub files_json : DayOptions → (known : Bool) → Tally → List ℕ
files_json days known tally =
    codes "{\"what\":\"files\",\"files\":" ++ (decimal tally.done ++ (codes ",\"skipped\":"
    ++ (decimal tally.skipped ++ (codes ",\"refused\":" ++ (decimal tally.refused
    ++ (count_json known (codes "known") tally.known ++ (count_json days.only_smaller (codes "larger") tally.larger ++ (count_json (nat_lt 0 days.older_than) (codes "young") tally.young
    ++ (bytes_json days.bytes tally.bytes_read tally.bytes_written ++ codes "}\n")))))))))

abbrev pub files_told : ListForm → DayOptions → (known : Bool) → Tally → List ℕ
files_told Words days known tally = files_words days known tally
files_told Json days known tally = files_json days known tally

-- the last line
abbrev pub files_line : DayOptions → (known : Bool) → Tally → List ℕ
files_line days known tally = files_told days.telling.form days known tally

-- the lines after those of the entries, from what is counted of these
abbrev pub tally_lines : DayOptions → (known : Bool) → Tally → List ℕ
tally_lines days known tally = flat_map (channel_line days) (with_bytes tally.channels tally.bytes)
    ++ files_line days known tally

-- the counts and totals of the entries
abbrev pub tally_of : List Entry → Tally
tally_of entries = record {
  done = counted is_done entries;
  skipped = counted is_skipped entries;
  refused = counted is_refused entries;
  known = counted is_known entries;
  larger = counted is_larger entries;
  young = counted is_young entries;
  bytes_read = summed (λ add. add.read) entries;
  bytes_written = summed (λ add. add.written) entries;
  channels = channels_of entries;
  bytes = bytes_of_channels entries;
  unopened = first_unopened entries;
}

-- the lines after those of the entries, with the count of those that are known if that is told
abbrev pub summary_by : DayOptions → (known : Bool) → List Entry → List ℕ
summary_by days known entries = tally_lines days known (tally_of entries)

-- those of a walk over an archive
abbrev pub summary : Archiving → List Entry → List ℕ
summary asked = summary_by asked.days (knows_any asked.known)
