-- A text reads as one path at most.
use Rattle.std.proofs.Common.{◌≡◌, ℕ, suc, ◌<◌, List, [], ◌∷◌, ◌++◌, refl, sym, ◌∙◌, arith}
use Rattle.std.proofs.lemmas.Bool.Decides.{nat_tests}
use Rattle.msr_sds.specs.Separators.{Lacks, slash, dot}
use Rattle.msr_sds.specs.Parts.{HaveNoSeparator}
use Rattle.msr_sds.specs.SdsPath.{SdsPath, HasForm, OneReading, path_of, file_name, IsLocation, IsDataType, AreDigits}
use Rattle.msr_sds.proofs.CutLemmas.{after_year, after_network, after_station, after_channel, from_station, from_location, from_channel, from_data_type, from_year}

lacks_tail : (c b : ℕ) (bs : List ℕ) → Lacks c (b ∷ bs) → Lacks c bs
lacks_tail c b bs lacks k d inside = lacks (suc k) d (omega arith)

-- what stands before the first separator and after it is determined
same_parts : (c : ℕ) (a b x y : List ℕ) → Lacks c a → Lacks c b → a ++ c ∷ x ≡ b ++ c ∷ y
    → (a ≡ b) × (x ≡ y)
same_parts c [] [] x y p q e = (refl, cc)
same_parts c [] (d ∷ b) x y p q e = absurd (q 0 0 (omega arith) (cc))
same_parts c (d ∷ a) [] x y p q e = absurd (p 0 0 (omega arith) (cc))
same_parts c (d ∷ a) (f ∷ b) x y p q e =
    let tails : a ++ c ∷ x ≡ b ++ c ∷ y = cc in
    let rest = same_parts c a b x y (lacks_tail c d a p) (lacks_tail c f b q) tails in
    (cc, rest.1)

-- neither separator is a digit, a letter or a capital
digits_lack : (c count : ℕ) (text : List ℕ) → c < 48 → AreDigits count text → Lacks c text
digits_lack c count text low are_digits k d inside same =
    let byte = are_digits.1 k d inside in grind (arith, nat_tests)

location_lacks : (c : ℕ) (text : List ℕ) → c < 48 → IsLocation text → Lacks c text
location_lacks c text low is_location k d inside same =
    let byte = is_location.1 k d inside in grind (arith, nat_tests)

type_lacks : (c : ℕ) (text : List ℕ) → c < 48 → IsDataType text → Lacks c text
type_lacks c text low is_type k d inside same =
    let byte = is_type.1 k d inside in grind (arith, nat_tests)

-- parts of their forms have no separator
pub no_separator : (p : SdsPath) → HasForm p → HaveNoSeparator p
no_separator p form = record {
  year = digits_lack slash 4 p.year (omega arith) form.year;
  network = location_lacks slash p.network (omega arith) form.network.1;
  station = location_lacks slash p.station (omega arith) form.station.1;
  channel = location_lacks dot p.channel (omega arith) form.channel.1;
  data_type = type_lacks slash p.data_type (omega arith) form.data_type;
  location = location_lacks dot p.location (omega arith) form.location;
}

-- two paths with one text are the same
one_path : (p q : SdsPath) → HasForm p → HasForm q → path_of p ≡ path_of q → p ≡ q
one_path p q hp hq e =
    let a = no_separator p hp in
    let b = no_separator q hq in
    let fp = file_name p in
    let fq = file_name q in
    let year = same_parts slash p.year q.year (after_year p fp) (after_year q fq) a.year b.year e in
    let network =
    same_parts slash p.network q.network (after_network p fp) (after_network q fq)
    a.network b.network year.1 in
    let station =
    same_parts slash p.station q.station (after_station p fp) (after_station q fq)
    a.station b.station network.1 in
    let channel =
    same_parts dot p.channel q.channel (after_channel p fp) (after_channel q fq)
    a.channel b.channel station.1 in
    let data_type =
    same_parts slash p.data_type q.data_type fp fq a.data_type b.data_type channel.1 in
    let lacks_dot = λ (text : List ℕ) (is : IsLocation text).
    location_lacks dot text (omega arith) is in
    let file_network =
    same_parts dot p.network q.network (from_station p) (from_station q)
    (lacks_dot p.network hp.network.1) (lacks_dot q.network hq.network.1) data_type.1 in
    let file_station =
    same_parts dot p.station q.station (from_location p) (from_location q)
    (lacks_dot p.station hp.station.1) (lacks_dot q.station hq.station.1) file_network.1 in
    let location =
    same_parts dot p.location q.location (from_channel p) (from_channel q)
    a.location b.location file_station.1 in
    let file_channel =
    same_parts dot p.channel q.channel (from_data_type p) (from_data_type q)
    a.channel b.channel location.1 in
    let file_type =
    same_parts dot p.data_type q.data_type (from_year p) (from_year q)
    (type_lacks dot p.data_type (omega arith) hp.data_type)
    (type_lacks dot q.data_type (omega arith) hq.data_type) file_channel.1 in
    let file_year =
    same_parts dot p.year q.year p.day q.day (digits_lack dot 4 p.year (omega arith) hp.year)
    (digits_lack dot 4 q.year (omega arith) hq.year) file_type.1 in
    λ i. record {
      year = year.0 i;
      network = network.0 i;
      station = station.0 i;
      location = location.0 i;
      channel = channel.0 i;
      data_type = data_type.0 i;
      day = file_year.1 i;
    }

pub one_reading : OneReading
one_reading text p q as_p as_q =
    one_path p q as_p.form as_q.form (sym as_p.spelled ∙ as_q.spelled)
