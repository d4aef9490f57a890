-- What the parts of a path show, and what the functions that cut a path say of them.
use Rattle.std.specs.Prelude.{List, ℕ, ◌≡◌}
use Rattle.msr_sds.specs.SdsPath.{SdsPath}
use Rattle.msr_sds.specs.Separators.{Lacks, slash, dot}
use Rattle.msr_sds.specs.declared.parts.Parts.{Parts}

-- each part's text
abbrev pub parts_of : Parts → SdsPath
parts_of p = record {
  year = p.year.now;
  network = p.network.now;
  station = p.station.now;
  location = p.location.now;
  channel = p.channel.now;
  data_type = p.data_type.now;
  day = p.day.now;
}

-- the path with another location and day
abbrev pub with_file : SdsPath → List ℕ → List ℕ → SdsPath
with_file p location day = record p { location = location; day = day }

-- the parts of the folders agree
pub record SameFolders (p q : SdsPath) : Type 0 where
  pub year : p.year ≡ q.year
  pub network : p.network ≡ q.network
  pub station : p.station ≡ q.station
  pub channel : p.channel ≡ q.channel
  pub data_type : p.data_type ≡ q.data_type

-- no part has the separator that follows it
pub record HaveNoSeparator (p : SdsPath) : Type 0 where
  pub year : Lacks slash p.year
  pub network : Lacks slash p.network
  pub station : Lacks slash p.station
  pub channel : Lacks dot p.channel
  pub data_type : Lacks slash p.data_type
  pub location : Lacks dot p.location
