-- The names of days and of segments.
use Rattle.std.specs.Prelude.{◌≡◌, ℕ, ◌-◌, List, ◌∷◌, ◌++◌, codes, replicate, length, flat_map}
use Rattle.std.specs.Fmt.{decimal}
use Rattle.std.specs.Str.Parse.{digits_value}
use Rattle.msr_options.specs.declared.names.DayName.{DayName}
use Rattle.msr_report.specs.Json.{unpadded}
use Rattle.msr_report.specs.Text.{byte_text, padded_decimal}
use Rattle.msr_report.specs.declared.json.ListedSegment.{ListedSegment}
use Rattle.msr_sds.specs.SdsPath.{SdsPath}

-- a code in the width that it has room for in a path, with spaces after it
abbrev pub padded : List ℕ → List ℕ
padded code = code ++ replicate (8 - length code) 32

-- the name of the day with this path
abbrev pub day_name : SdsPath → DayName
day_name path = record {
  network = padded path.network;
  station = padded path.station;
  location = padded path.location;
  channel = padded path.channel;
  year = digits_value 10 path.year;
  day = digits_value 10 path.day;
}

-- The segment is of the channel of that name: each field of its own is the code, with spaces after it.
pub record IsOfChannel (name : DayName) (segment : ListedSegment) : Type 0 where
  pub network : padded segment.key.network ≡ name.network
  pub station : padded segment.key.station ≡ name.station
  pub location : padded segment.key.location ≡ name.location
  pub channel : padded segment.key.channel ≡ name.channel

-- a code without the spaces after it, each byte as the name of a segment in a report has it
abbrev pub code_text : List ℕ → List ℕ
code_text code = flat_map byte_text (unpadded code)

-- NET.STA.LOC.CHAN
abbrev pub id_text : DayName → List ℕ
id_text name =
    code_text name.network ++ (46 ∷ (code_text name.station
    ++ (46 ∷ (code_text name.location ++ (46 ∷ code_text name.channel)))))

-- YEAR,DAY
abbrev pub day_text : DayName → List ℕ
day_text name = padded_decimal 4 name.year ++ (44 ∷ padded_decimal 3 name.day)

-- what a line says of a segment that does not belong to a day, in words
abbrev pub found_words : DayName → List ℕ
found_words found = codes " " ++ (id_text found ++ (codes " " ++ day_text found))

-- the members of JSON that tell it
abbrev pub found_json : DayName → List ℕ
found_json found =
    codes ",\"id\":\"" ++ (id_text found ++ (codes "\",\"year\":" ++ (decimal found.year
    ++ (codes ",\"day\":" ++ decimal found.day))))
