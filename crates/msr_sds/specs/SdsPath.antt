-- The path of a day file in a SeisComP Data Structure archive, relative to the archive's folder:
-- YEAR/NET/STA/CHAN.TYPE/NET.STA.LOC.CHAN.TYPE.YEAR.DAY
use Rattle.std.specs.Prelude.{◌≡◌, ℕ, ◌<◌, ◌≤◌, List, ◌∷◌, ◌++◌, length, IsTrue, All, pos, codes}
use Rattle.std.specs.Char.{is_ascii_alphanumeric, is_ascii_digit, is_ascii_uppercase}
use Rattle.std.specs.Str.Parse.{digits_value}
use Rattle.jiff_core.specs.Calendar.{days_in_year}
use Rattle.msr_sds.specs.Separators.{slash, dot}

-- the parts of a path, each as its text
pub record SdsPath : Type 0 where
  pub year : List ℕ
  pub network : List ℕ
  pub station : List ℕ
  pub location : List ℕ
  pub channel : List ℕ
  pub data_type : List ℕ
  pub day : List ℕ

-- NET.STA.LOC.CHAN.TYPE.YEAR.DAY
abbrev pub file_name : SdsPath → List ℕ
file_name p =
    p.network ++ dot ∷ (p.station ++ dot ∷ (p.location ++ dot ∷ (p.channel
    ++ dot ∷ (p.data_type ++ dot ∷ (p.year ++ dot ∷ p.day)))))

-- YEAR/NET/STA/CHAN.TYPE/ and the name of a file there
abbrev pub in_folders : SdsPath → List ℕ → List ℕ
in_folders p file =
    p.year ++ slash ∷ (p.network ++ slash ∷ (p.station ++ slash ∷ (p.channel
    ++ dot ∷ (p.data_type ++ slash ∷ file))))

-- the whole path
abbrev pub path_of : SdsPath → List ℕ
path_of p = in_folders p (file_name p)

-- the text is `count` decimal digits
abbrev pub AreDigits : ℕ → List ℕ → Type 0
AreDigits count text = (length text ≡ count) × All (λ b. IsTrue (is_ascii_digit b)) text

-- at most 8 letters or digits of ASCII
abbrev pub IsLocation : List ℕ → Type 0
IsLocation text = (length text ≤ 8) × All (λ b. IsTrue (is_ascii_alphanumeric b)) text

-- 1 to 8 letters or digits of ASCII
abbrev pub IsCode : List ℕ → Type 0
IsCode text = (0 < length text) × IsLocation text

-- one letter from A to Z
abbrev pub IsDataType : List ℕ → Type 0
IsDataType text = (length text ≡ 1) × All (λ b. IsTrue (is_ascii_uppercase b)) text

-- each part is of its form. Only the location may be empty.
pub record HasForm (p : SdsPath) : Type 0 where
  pub year : AreDigits 4 p.year
  pub network : IsCode p.network
  pub station : IsCode p.station
  pub location : IsLocation p.location
  pub channel : IsCode p.channel
  pub data_type : IsDataType p.data_type
  pub day : AreDigits 3 p.day

-- type D is waveform data
abbrev pub IsWaveform : SdsPath → Type 0
IsWaveform p = p.data_type ≡ codes "D"

-- a year from 1900 to 2100, and a day that it has, where day 1 is 1 January
pub record HasDate (p : SdsPath) : Type 0 where
  pub year : (1900 ≤ digits_value 10 p.year) × (digits_value 10 p.year ≤ 2100)
  pub day : (1 ≤ digits_value 10 p.day)
      × (digits_value 10 p.day ≤ days_in_year (pos (digits_value 10 p.year)))

-- the text reads as a path with these parts, each of its form
pub record ReadsAs (text : List ℕ) (p : SdsPath) : Type 0 where
  pub form : HasForm p
  pub spelled : text ≡ path_of p

-- the text reads as the path of a day of waveform data
pub record ReadsAsDay (text : List ℕ) (p : SdsPath) : Type 0 where
  pub reads : ReadsAs text p
  pub waveform : IsWaveform p
  pub date : HasDate p

-- a text reads as one path at most
abbrev pub OneReading : Type 0
OneReading = (text : List ℕ) (p q : SdsPath) → ReadsAs text p → ReadsAs text q → p ≡ q
