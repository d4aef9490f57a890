-- The names of a day are apart, and those of two days.
use Rattle.std.proofs.Common.{◌≡◌, ◌≢◌, ◌<◌, ℕ, zero, suc, ◌+◌, ◌-◌, ◌==◌, if◌then◌else◌, Bool, true, false, List, [], ◌∷◌, ◌++◌, length, get_or, refl, sym, ap, subst, ◌∙◌, append_assoc, length-append, arith, codes}
use Rattle.std.specs.Prelude.{string_bytes}
use Rattle.std.specs.Str.{bytes_eq}
use Rattle.std.proofs.lemmas.Bool.{cases_Bool}
use Rattle.std.proofs.Common.{inl, inr}
use Rattle.std.proofs.lemmas.Bool.Decides.{nat_tests}
use Rattle.std.proofs.lemmas.List.{append_cancel_right, get_or_append_left, get_or-append-add}
use Rattle.std.proofs.lemmas.List.Elements.{All-append}
use Rattle.std.proofs.lemmas.Slice.Eq.{bytes_eq-Decides}
use Rattle.std.proofs.Math.Seq.{get_or-append_seam, take-append_seam}
use Rattle.msr_sds.specs.Separators.{Lacks, dot, slash}
use Rattle.msr_sds.specs.SdsPath.{AreDigits, HasForm, IsDataType, IsLocation, ReadsAsDay, SdsPath, file_name, in_folders, path_of}
use Rattle.msr_sds.proofs.CutLemmas.{from_channel, from_data_type, from_location, from_station, from_year}
use Rattle.msr_tree.specs.Steps.{folder_above, stands_in}
use Rattle.msr_tree.proofs.FolderLemmas.{folder_at as folder_at_slash}
use Rattle.msr_exchange.specs.Names.{AreNames, AreStampNames, IsSide, Names, OtherDaysAreApart, beside, folder_at, is_place, is_lasting, names_of_day, path_at, path_below, stamp_of_day}
use Rattle.msr_exchange.specs.declared.names.Place.{Place}
use Rattle.msr_exchange.specs.declared.names.Side.{Side}
use Rattle.msr_exchange.specs.declared.names.Place.TheVariants.{Day, DayPart, Original, OriginalPart, Records, RecordsPart, Note, NotePart}

lacks_tail : (c b : ℕ) (bs : List ℕ) → Lacks c (b ∷ bs) → Lacks c bs
lacks_tail c b bs lacks k d inside = lacks (suc k) d (omega arith)

-- a text without a slash does not end in one that has it
no_slash : (x a y : List ℕ) → Lacks slash x → x ≢ a ++ slash ∷ y
no_slash x a y lacks e =
    lacks (length a) 0 (omega (arith, length-append a (slash ∷ y), ap length e)) (ap (λ t. get_or t (length a) 0) e ∙ get_or-append_seam a slash y 0)

-- what stands before the last slash and after it is determined
last_cut : (a b x y : List ℕ) → Lacks slash x → Lacks slash y → a ++ slash ∷ x ≡ b ++ slash ∷ y → (a ≡ b) × (x ≡ y)
last_cut [] [] x y p q e = (refl, cc)
last_cut [] (d ∷ b) x y p q e = absurd (no_slash x b y p (let tails : x ≡ b ++ slash ∷ y = cc in tails))
last_cut (d ∷ a) [] x y p q e = absurd (no_slash y a x q (let tails : y ≡ a ++ slash ∷ x = cc in tails))
last_cut (d ∷ a) (f ∷ b) x y p q e =
    let tails : a ++ slash ∷ x ≡ b ++ slash ∷ y = cc in
    let rest = last_cut a b x y p q tails in
    let head : d ≡ f = cc in
    let front : a ≡ b = rest.0 in
    (cc, rest.1)

-- the folder of a path
folder_of : (a x : List ℕ) → Lacks slash x → folder_above (a ++ slash ∷ x) ≡ a
folder_of a x lacks =
    folder_at_slash (a ++ slash ∷ x) (length a) (omega (arith, length-append a (slash ∷ x))) (get_or-append_seam a slash x 0)
    (λ i after within is.
    let k : i ≡ length a + suc (i - suc (length a)) = omega arith in
    let inside : i - suc (length a) < length x = omega (arith, length-append a (slash ∷ x)) in
    lacks (i - suc (length a)) 0 inside (sym (ap (λ n. get_or (a ++ slash ∷ x) n 0) k ∙ get_or-append-add a (slash ∷ x) (suc (i - suc (length a))) 0) ∙ is))
    ∙ take-append_seam a (slash ∷ x)

-- what stands after the folder
abbrev pub tail_at : (file : List ℕ) → Place → List ℕ
tail_at file Day = file
tail_at file DayPart = codes ".msrepack-replace.day"
tail_at file Original = file
tail_at file OriginalPart = codes ".msrepack-replace.original"
tail_at file Records = file
tail_at file RecordsPart = codes ".msrepack-replace.records"
tail_at file Note = file ++ codes ".touch-time"
tail_at file NotePart = codes ".msrepack-replace.note"

-- a file's name begins with no dot, and has no slash
pub record IsFileName (file : List ℕ) : Type 0 where
  pub starts : get_or file 0 46 ≢ 46
  pub lacks : Lacks slash file

-- the path of a day: a folder, and its file's name there
pub record IsIn (folder file path : List ℕ) : Type 0 where
  pub is : path ≡ folder ++ slash ∷ file
  pub name : IsFileName file

unlike : (x y : List ℕ) → x ≢ y → bytes_eq x y ≡ false
unlike x y differ = elim (cases_Bool (bytes_eq x y)) [
  | inl is ↦ absurd (differ ((bytes_eq-Decides x y).0 is))
  | inr not ↦ not
]

unequal : (x y : List ℕ) → bytes_eq x y ≡ false → x ≢ y
unequal x y not is = let yes = (bytes_eq-Decides x y).1 is in cc

abbrev mark : List ℕ
mark = codes ".touch-time"

abbrev from_mark : List ℕ
from_mark = codes ".from"

abbrev stamp_part : List ℕ
stamp_part = codes ".msrepack-replace.stamp"

ended_starts : (file ending : List ℕ) → get_or file 0 46 ≢ 46 → get_or (file ++ ending) 0 46 ≢ 46
ended_starts [] ending starts = absurd (starts refl)
ended_starts (b ∷ file) ending starts = starts

noted_starts : (file : List ℕ) → get_or file 0 46 ≢ 46 → get_or (file ++ mark) 0 46 ≢ 46
noted_starts file starts = ended_starts file mark starts

longer : (file : List ℕ) → file ≢ file ++ mark
longer file e = let eleven : length mark ≡ 11 = refl in omega (arith, length-append file mark, ap length e)

lacks_more : (c b : ℕ) (text : List ℕ) → b ≢ c → Lacks c text → Lacks c (b ∷ text)
lacks_more c b text not lacks zero d inside = not
lacks_more c b text not lacks (suc k) d inside = lacks k d (omega arith)

lacks_none : (c : ℕ) → Lacks c []
lacks_none c k d inside = absurd (omega arith)

abbrev is_clear : List ℕ → Bool
is_clear [] = true
is_clear (b ∷ text) = if b == 47 then false else is_clear text

clear_first : (b : ℕ) (text : List ℕ) (test : Bool) → (b == 47) ≡ test → (if test then false else is_clear text) ≡ true → (is_clear text ≡ true → Lacks slash text) → Lacks slash (b ∷ text)
clear_first b text true is none rest = absurd (cc)
clear_first b text false is clear rest = lacks_more slash b text (λ same. let other : (47 == 47) ≡ false = subst (λ n. (n == 47) ≡ false) same is in cc) (rest clear)

clear_lacks : (text : List ℕ) → is_clear text ≡ true → Lacks slash text
clear_lacks [] clear = lacks_none slash
clear_lacks (b ∷ text) clear = clear_first b text (b == 47) refl clear (λ c. clear_lacks text c)

tail_lacks : (file : List ℕ) → IsFileName file → (place : Place) → Lacks slash (tail_at file place)
tail_lacks file name Day = name.lacks
tail_lacks file name DayPart = clear_lacks (codes ".msrepack-replace.day") refl
tail_lacks file name Original = name.lacks
tail_lacks file name OriginalPart = clear_lacks (codes ".msrepack-replace.original") refl
tail_lacks file name Records = name.lacks
tail_lacks file name RecordsPart = clear_lacks (codes ".msrepack-replace.records") refl
tail_lacks file name Note = All-append (λ byte. byte ≢ slash) file mark name.lacks (clear_lacks mark refl)
tail_lacks file name NotePart = clear_lacks (codes ".msrepack-replace.note") refl

placed : (top folder tail : List ℕ) → top ++ slash ∷ (folder ++ slash ∷ tail) ≡ (top ++ slash ∷ folder) ++ slash ∷ tail
placed top folder tail = sym (append_assoc top (slash ∷ folder) (slash ∷ tail))

module _ (root out aside folder file path : List ℕ) (is_in : IsIn folder file path) where
  abbrev N : Names
  N = names_of_day root out aside path

  cut_path : path ≡ folder_above path ++ slash ∷ file
  cut_path = is_in.is ∙ ap (λ f. f ++ slash ∷ file) (sym (ap folder_above is_in.is ∙ folder_of folder file is_in.name.lacks))

  pub in_folder : (place : Place) → path_at N place ≡ folder_at N place ++ slash ∷ tail_at file place
  in_folder Day = ap (λ p. root ++ slash ∷ p) cut_path ∙ placed root (folder_above path) file
  in_folder DayPart = placed root (folder_above path) (codes ".msrepack-replace.day")
  in_folder Original = ap (λ p. aside ++ slash ∷ p) cut_path ∙ placed aside (folder_above path) file
  in_folder OriginalPart = placed aside (folder_above path) (codes ".msrepack-replace.original")
  in_folder Records = ap (λ p. out ++ slash ∷ p) cut_path ∙ placed out (folder_above path) file
  in_folder RecordsPart = placed out (folder_above path) (codes ".msrepack-replace.records")
  in_folder Note = ap (λ p. aside ++ slash ∷ (p ++ mark)) cut_path ∙ ap (λ t. aside ++ slash ∷ t) (append_assoc (folder_above path) (slash ∷ file) mark) ∙ placed aside (folder_above path) (file ++ mark)
  in_folder NotePart = placed aside (folder_above path) (codes ".msrepack-replace.note")

  stands : (place : Place) → stands_in (folder_at N place) (path_at N place) ≡ true
  stands place = (bytes_eq-Decides (folder_above (path_at N place)) (folder_at N place)).1
      (ap folder_above (in_folder place) ∙ folder_of (folder_at N place) (tail_at file place) (tail_lacks file is_in.name place))

  cut : (one other : Place) → path_at N one ≡ path_at N other → (folder_at N one ≡ folder_at N other) × (tail_at file one ≡ tail_at file other)
  cut one other e = last_cut (folder_at N one) (folder_at N other) (tail_at file one) (tail_at file other)
      (tail_lacks file is_in.name one) (tail_lacks file is_in.name other) (sym (in_folder one) ∙ e ∙ in_folder other)

  -- beside the report
  module _ (reports : List ℕ) where
    abbrev beside_report : List ℕ
    beside_report = path_below reports (path ++ from_mark)

    abbrev beside_part : List ℕ
    beside_part = path_below reports (beside path stamp_part)

    from_in : beside_report ≡ (reports ++ slash ∷ folder_above path) ++ slash ∷ (file ++ from_mark)
    from_in = ap (λ p. reports ++ slash ∷ (p ++ from_mark)) cut_path ∙ ap (λ t. reports ++ slash ∷ t) (append_assoc (folder_above path) (slash ∷ file) from_mark) ∙ placed reports (folder_above path) (file ++ from_mark)

    from_lacks : Lacks slash (file ++ from_mark)
    from_lacks = All-append (λ byte. byte ≢ slash) file from_mark is_in.name.lacks (clear_lacks from_mark refl)

    not_from : (place : Place) → tail_at file place ≢ file ++ from_mark
    not_from Day e = let five : length from_mark ≡ 5 = refl in omega (arith, length-append file from_mark, ap length e)
    not_from DayPart e = ended_starts file from_mark is_in.name.starts (ap (λ t. get_or t 0 46) (sym e))
    not_from Original e = let five : length from_mark ≡ 5 = refl in omega (arith, length-append file from_mark, ap length e)
    not_from OriginalPart e = ended_starts file from_mark is_in.name.starts (ap (λ t. get_or t 0 46) (sym e))
    not_from Records e = let five : length from_mark ≡ 5 = refl in omega (arith, length-append file from_mark, ap length e)
    not_from RecordsPart e = ended_starts file from_mark is_in.name.starts (ap (λ t. get_or t 0 46) (sym e))
    not_from Note e = let five : length from_mark ≡ 5 = refl in let eleven : length mark ≡ 11 = refl in omega (arith, length-append file from_mark, length-append file mark, ap length e)
    not_from NotePart e = ended_starts file from_mark is_in.name.starts (ap (λ t. get_or t 0 46) (sym e))

    not_part : (place : Place) → tail_at file place ≢ stamp_part
    not_part Day e = is_in.name.starts (ap (λ t. get_or t 0 46) e)
    not_part DayPart e = unequal (codes ".msrepack-replace.day") stamp_part refl e
    not_part Original e = is_in.name.starts (ap (λ t. get_or t 0 46) e)
    not_part OriginalPart e = unequal (codes ".msrepack-replace.original") stamp_part refl e
    not_part Records e = is_in.name.starts (ap (λ t. get_or t 0 46) e)
    not_part RecordsPart e = unequal (codes ".msrepack-replace.records") stamp_part refl e
    not_part Note e = noted_starts file is_in.name.starts (ap (λ t. get_or t 0 46) e)
    not_part NotePart e = unequal (codes ".msrepack-replace.note") stamp_part refl e

    pub apart_from_stamp : (place : Place) → bytes_eq (path_at N place) beside_report ≡ false
    apart_from_stamp place = unlike (path_at N place) beside_report (λ e. not_from place
        (last_cut (folder_at N place) (reports ++ slash ∷ folder_above path) (tail_at file place) (file ++ from_mark)
        (tail_lacks file is_in.name place) from_lacks (sym (in_folder place) ∙ e ∙ from_in)).1)

    pub apart_from_part : (place : Place) → bytes_eq (path_at N place) beside_part ≡ false
    apart_from_part place = unlike (path_at N place) beside_part (λ e. not_part place
        (last_cut (folder_at N place) (reports ++ slash ∷ folder_above path) (tail_at file place) stamp_part
        (tail_lacks file is_in.name place) (clear_lacks stamp_part refl) (sym (in_folder place) ∙ e ∙ placed reports (folder_above path) stamp_part)).1)

    pub part_apart : bytes_eq beside_report beside_part ≡ false
    part_apart = unlike beside_report beside_part (λ e. ended_starts file from_mark is_in.name.starts (ap (λ t. get_or t 0 46)
        (last_cut (reports ++ slash ∷ folder_above path) (reports ++ slash ∷ folder_above path) (file ++ from_mark) stamp_part
        from_lacks (clear_lacks stamp_part refl) (sym from_in ∙ e ∙ placed reports (folder_above path) stamp_part)).1))

  module _ (out_is : root ≢ out) (aside_is : root ≢ aside) (others_are : out ≢ aside) where
    differ : (one other : Place) → is_place one other ≡ false → path_at N one ≢ path_at N other
    differ Day Day apart e = cc
    differ Day DayPart apart e = is_in.name.starts (ap (λ t. get_or t 0 46) (cut Day DayPart e).1)
    differ Day Original apart e = aside_is (append_cancel_right root aside (slash ∷ folder_above path) (cut Day Original e).0)
    differ Day OriginalPart apart e = is_in.name.starts (ap (λ t. get_or t 0 46) (cut Day OriginalPart e).1)
    differ Day Records apart e = out_is (append_cancel_right root out (slash ∷ folder_above path) (cut Day Records e).0)
    differ Day RecordsPart apart e = is_in.name.starts (ap (λ t. get_or t 0 46) (cut Day RecordsPart e).1)
    differ Day Note apart e = longer file (cut Day Note e).1
    differ Day NotePart apart e = is_in.name.starts (ap (λ t. get_or t 0 46) (cut Day NotePart e).1)
    differ DayPart Day apart e = is_in.name.starts (ap (λ t. get_or t 0 46) (sym (cut DayPart Day e).1))
    differ DayPart DayPart apart e = cc
    differ DayPart Original apart e = is_in.name.starts (ap (λ t. get_or t 0 46) (sym (cut DayPart Original e).1))
    differ DayPart OriginalPart apart e = unequal (codes ".msrepack-replace.day") (codes ".msrepack-replace.original") refl (cut DayPart OriginalPart e).1
    differ DayPart Records apart e = is_in.name.starts (ap (λ t. get_or t 0 46) (sym (cut DayPart Records e).1))
    differ DayPart RecordsPart apart e = unequal (codes ".msrepack-replace.day") (codes ".msrepack-replace.records") refl (cut DayPart RecordsPart e).1
    differ DayPart Note apart e = noted_starts file is_in.name.starts (ap (λ t. get_or t 0 46) (sym (cut DayPart Note e).1))
    differ DayPart NotePart apart e = unequal (codes ".msrepack-replace.day") (codes ".msrepack-replace.note") refl (cut DayPart NotePart e).1
    differ Original Day apart e = aside_is (sym (append_cancel_right aside root (slash ∷ folder_above path) (cut Original Day e).0))
    differ Original DayPart apart e = is_in.name.starts (ap (λ t. get_or t 0 46) (cut Original DayPart e).1)
    differ Original Original apart e = cc
    differ Original OriginalPart apart e = is_in.name.starts (ap (λ t. get_or t 0 46) (cut Original OriginalPart e).1)
    differ Original Records apart e = others_are (sym (append_cancel_right aside out (slash ∷ folder_above path) (cut Original Records e).0))
    differ Original RecordsPart apart e = is_in.name.starts (ap (λ t. get_or t 0 46) (cut Original RecordsPart e).1)
    differ Original Note apart e = longer file (cut Original Note e).1
    differ Original NotePart apart e = is_in.name.starts (ap (λ t. get_or t 0 46) (cut Original NotePart e).1)
    differ OriginalPart Day apart e = is_in.name.starts (ap (λ t. get_or t 0 46) (sym (cut OriginalPart Day e).1))
    differ OriginalPart DayPart apart e = unequal (codes ".msrepack-replace.original") (codes ".msrepack-replace.day") refl (cut OriginalPart DayPart e).1
    differ OriginalPart Original apart e = is_in.name.starts (ap (λ t. get_or t 0 46) (sym (cut OriginalPart Original e).1))
    differ OriginalPart OriginalPart apart e = cc
    differ OriginalPart Records apart e = is_in.name.starts (ap (λ t. get_or t 0 46) (sym (cut OriginalPart Records e).1))
    differ OriginalPart RecordsPart apart e = unequal (codes ".msrepack-replace.original") (codes ".msrepack-replace.records") refl (cut OriginalPart RecordsPart e).1
    differ OriginalPart Note apart e = noted_starts file is_in.name.starts (ap (λ t. get_or t 0 46) (sym (cut OriginalPart Note e).1))
    differ OriginalPart NotePart apart e = unequal (codes ".msrepack-replace.original") (codes ".msrepack-replace.note") refl (cut OriginalPart NotePart e).1
    differ Records Day apart e = out_is (sym (append_cancel_right out root (slash ∷ folder_above path) (cut Records Day e).0))
    differ Records DayPart apart e = is_in.name.starts (ap (λ t. get_or t 0 46) (cut Records DayPart e).1)
    differ Records Original apart e = others_are (append_cancel_right out aside (slash ∷ folder_above path) (cut Records Original e).0)
    differ Records OriginalPart apart e = is_in.name.starts (ap (λ t. get_or t 0 46) (cut Records OriginalPart e).1)
    differ Records Records apart e = cc
    differ Records RecordsPart apart e = is_in.name.starts (ap (λ t. get_or t 0 46) (cut Records RecordsPart e).1)
    differ Records Note apart e = longer file (cut Records Note e).1
    differ Records NotePart apart e = is_in.name.starts (ap (λ t. get_or t 0 46) (cut Records NotePart e).1)
    differ RecordsPart Day apart e = is_in.name.starts (ap (λ t. get_or t 0 46) (sym (cut RecordsPart Day e).1))
    differ RecordsPart DayPart apart e = unequal (codes ".msrepack-replace.records") (codes ".msrepack-replace.day") refl (cut RecordsPart DayPart e).1
    differ RecordsPart Original apart e = is_in.name.starts (ap (λ t. get_or t 0 46) (sym (cut RecordsPart Original e).1))
    differ RecordsPart OriginalPart apart e = unequal (codes ".msrepack-replace.records") (codes ".msrepack-replace.original") refl (cut RecordsPart OriginalPart e).1
    differ RecordsPart Records apart e = is_in.name.starts (ap (λ t. get_or t 0 46) (sym (cut RecordsPart Records e).1))
    differ RecordsPart RecordsPart apart e = cc
    differ RecordsPart Note apart e = noted_starts file is_in.name.starts (ap (λ t. get_or t 0 46) (sym (cut RecordsPart Note e).1))
    differ RecordsPart NotePart apart e = unequal (codes ".msrepack-replace.records") (codes ".msrepack-replace.note") refl (cut RecordsPart NotePart e).1
    differ Note Day apart e = longer file (sym (cut Note Day e).1)
    differ Note DayPart apart e = noted_starts file is_in.name.starts (ap (λ t. get_or t 0 46) (cut Note DayPart e).1)
    differ Note Original apart e = longer file (sym (cut Note Original e).1)
    differ Note OriginalPart apart e = noted_starts file is_in.name.starts (ap (λ t. get_or t 0 46) (cut Note OriginalPart e).1)
    differ Note Records apart e = longer file (sym (cut Note Records e).1)
    differ Note RecordsPart apart e = noted_starts file is_in.name.starts (ap (λ t. get_or t 0 46) (cut Note RecordsPart e).1)
    differ Note Note apart e = cc
    differ Note NotePart apart e = noted_starts file is_in.name.starts (ap (λ t. get_or t 0 46) (cut Note NotePart e).1)
    differ NotePart Day apart e = is_in.name.starts (ap (λ t. get_or t 0 46) (sym (cut NotePart Day e).1))
    differ NotePart DayPart apart e = unequal (codes ".msrepack-replace.note") (codes ".msrepack-replace.day") refl (cut NotePart DayPart e).1
    differ NotePart Original apart e = is_in.name.starts (ap (λ t. get_or t 0 46) (sym (cut NotePart Original e).1))
    differ NotePart OriginalPart apart e = unequal (codes ".msrepack-replace.note") (codes ".msrepack-replace.original") refl (cut NotePart OriginalPart e).1
    differ NotePart Records apart e = is_in.name.starts (ap (λ t. get_or t 0 46) (sym (cut NotePart Records e).1))
    differ NotePart RecordsPart apart e = unequal (codes ".msrepack-replace.note") (codes ".msrepack-replace.records") refl (cut NotePart RecordsPart e).1
    differ NotePart Note apart e = noted_starts file is_in.name.starts (ap (λ t. get_or t 0 46) (sym (cut NotePart Note e).1))
    differ NotePart NotePart apart e = cc

    pub are_names : AreNames N
    are_names = record { apart = λ one other apart. unlike (path_at N one) (path_at N other) (differ one other apart); inside = stands }

-- the parts of a day's path
form_lacks : (c : ℕ) (text : List ℕ) → c < 48 → IsLocation text → Lacks c text
form_lacks c text low form k d inside same = let byte = form.1 k d inside in grind (arith, nat_tests)

digits_lack : (c count : ℕ) (text : List ℕ) → c < 48 → AreDigits count text → Lacks c text
digits_lack c count text low digits k d inside same = let byte = digits.1 k d inside in grind (arith, nat_tests)

type_lacks : (c : ℕ) (text : List ℕ) → c < 48 → IsDataType text → Lacks c text
type_lacks c text low form k d inside same = let byte = form.1 k d inside in grind (arith, nat_tests)

joined_lacks : (a b : List ℕ) → Lacks slash a → Lacks slash b → Lacks slash (a ++ dot ∷ b)
joined_lacks a b first second = All-append (λ byte. byte ≢ slash) a (dot ∷ b) first (lacks_more slash dot b (λ e. omega arith) second)

name_lacks : (p : SdsPath) → HasForm p → Lacks slash (file_name p)
name_lacks p form =
    joined_lacks p.network (from_station p) (form_lacks slash p.network (omega arith) form.network.1)
    (joined_lacks p.station (from_location p) (form_lacks slash p.station (omega arith) form.station.1)
    (joined_lacks p.location (from_channel p) (form_lacks slash p.location (omega arith) form.location)
    (joined_lacks p.channel (from_data_type p) (form_lacks slash p.channel (omega arith) form.channel.1)
    (joined_lacks p.data_type (from_year p) (type_lacks slash p.data_type (omega arith) form.data_type)
    (joined_lacks p.year p.day (digits_lack slash 4 p.year (omega arith) form.year) (digits_lack slash 3 p.day (omega arith) form.day))))))

name_starts : (p : SdsPath) → HasForm p → get_or (file_name p) 0 46 ≢ 46
name_starts p form e =
    let first = form.network.1.1 0 46 form.network.0 in
    let same = get_or_append_left p.network (dot ∷ from_station p) 46 0 form.network.0 in
    let is : get_or p.network 0 46 ≡ 46 = sym same ∙ e in
    grind (arith, nat_tests)

abbrev folder_text : SdsPath → List ℕ
folder_text p = p.year ++ slash ∷ (p.network ++ slash ∷ (p.station ++ slash ∷ (p.channel ++ dot ∷ p.data_type)))

whole_path : (p : SdsPath) (file : List ℕ) → folder_text p ++ slash ∷ file ≡ in_folders p file
whole_path p file = simp append_assoc

pub day_is_in : (path : List ℕ) (p : SdsPath) → ReadsAsDay path p → IsIn (folder_text p) (file_name p) path
day_is_in path p day = record {
  is = day.reads.spelled ∙ sym (whole_path p (file_name p));
  name = record { starts = name_starts p day.reads.form; lacks = name_lacks p day.reads.form };
}

-- what a day is called when its folders stand apart
pub are_names_of : (root out aside path : List ℕ) (p : SdsPath) → ReadsAsDay path p → root ≢ out → root ≢ aside → out ≢ aside → AreNames (names_of_day root out aside path)
are_names_of root out aside path p day out_is aside_is others_are =
    are_names root out aside (folder_text p) (file_name p) path (day_is_in path p day) out_is aside_is others_are

-- the names of a day, by what it has below each of the three folders, and those of its note
abbrev pub names_by : (root aside out : Side) (note note_part : List ℕ) → Names
names_by root aside out note note_part = record {
  day = string_bytes root.file;
  day_part = string_bytes root.part;
  original = string_bytes aside.file;
  original_part = string_bytes aside.part;
  records = string_bytes out.file;
  records_part = string_bytes out.part;
  note = note;
  note_part = note_part;
  root = string_bytes root.folder;
  aside = string_bytes aside.folder;
  out = string_bytes out.folder;
}

pub names_are : (root out aside path : List ℕ) (r a o : Side) (note note_part : List ℕ)
    → IsSide root path (codes ".msrepack-replace.day") r → IsSide aside path (codes ".msrepack-replace.original") a → IsSide out path (codes ".msrepack-replace.records") o
    → note ≡ path_below aside (path ++ codes ".touch-time") → note_part ≡ path_below aside (beside path (codes ".msrepack-replace.note"))
    → names_by r a o note note_part ≡ names_of_day root out aside path
names_are root out aside path r a o note note_part in_root in_aside in_out is is_part =
    rw (in_root.file, in_root.part, in_root.folder, in_aside.file, in_aside.part, in_aside.folder, in_out.file, in_out.part, in_out.folder, is, is_part) refl

-- and its stamp
pub are_stamp_names : (root out aside reports path : List ℕ) (p : SdsPath) → ReadsAsDay path p → AreStampNames (names_of_day root out aside path) (stamp_of_day reports path)
are_stamp_names root out aside reports path p day =
    let is = day_is_in path p day in
    record {
      apart = λ place. (apart_from_stamp root out aside (folder_text p) (file_name p) path is reports place, (apart_from_part root out aside (folder_text p) (file_name p) path is reports place, tt));
      parts = part_apart root out aside (folder_text p) (file_name p) path is reports;
    }

-- what stands before the first dot and after it is determined
same_parts : (a b x y : List ℕ) → Lacks dot a → Lacks dot b → a ++ dot ∷ x ≡ b ++ dot ∷ y → (a ≡ b) × (x ≡ y)
same_parts [] [] x y p q e = (refl, cc)
same_parts [] (d ∷ b) x y p q e = absurd (q 0 0 (omega arith) (cc))
same_parts (d ∷ a) [] x y p q e = absurd (p 0 0 (omega arith) (cc))
same_parts (d ∷ a) (f ∷ b) x y p q e =
    let tails : a ++ dot ∷ x ≡ b ++ dot ∷ y = cc in
    let rest = same_parts a b x y (lacks_tail dot d a p) (lacks_tail dot f b q) tails in
    let front : a ≡ b = rest.0 in
    let head : d ≡ f = cc in
    (cc, rest.1)

-- one file's name has one list of parts
record HaveSameParts (p q : SdsPath) (day : List ℕ) : Type 0 where
  network : p.network ≡ q.network
  station : p.station ≡ q.station
  location : p.location ≡ q.location
  channel : p.channel ≡ q.channel
  data_type : p.data_type ≡ q.data_type
  year : p.year ≡ q.year
  day_is : p.day ≡ day

abbrev name_with : SdsPath → List ℕ → List ℕ
name_with p day = p.network ++ dot ∷ (p.station ++ dot ∷ (p.location ++ dot ∷ (p.channel ++ dot ∷ (p.data_type ++ dot ∷ (p.year ++ dot ∷ day)))))

name_parts : (p q : SdsPath) (day : List ℕ) → HasForm p → HasForm q → file_name p ≡ name_with q day → HaveSameParts p q day
name_parts p q day hp hq e =
    let lacks = λ (text : List ℕ) (form : IsLocation text). form_lacks dot text (omega arith) form in
    let network = same_parts p.network q.network (from_station p) (q.station ++ dot ∷ (q.location ++ dot ∷ (q.channel ++ dot ∷ (q.data_type ++ dot ∷ (q.year ++ dot ∷ day))))) (lacks p.network hp.network.1) (lacks q.network hq.network.1) e in
    let station = same_parts p.station q.station (from_location p) (q.location ++ dot ∷ (q.channel ++ dot ∷ (q.data_type ++ dot ∷ (q.year ++ dot ∷ day)))) (lacks p.station hp.station.1) (lacks q.station hq.station.1) network.1 in
    let location = same_parts p.location q.location (from_channel p) (q.channel ++ dot ∷ (q.data_type ++ dot ∷ (q.year ++ dot ∷ day))) (lacks p.location hp.location) (lacks q.location hq.location) station.1 in
    let channel = same_parts p.channel q.channel (from_data_type p) (q.data_type ++ dot ∷ (q.year ++ dot ∷ day)) (lacks p.channel hp.channel.1) (lacks q.channel hq.channel.1) location.1 in
    let data_type = same_parts p.data_type q.data_type (from_year p) (q.year ++ dot ∷ day) (type_lacks dot p.data_type (omega arith) hp.data_type) (type_lacks dot q.data_type (omega arith) hq.data_type) channel.1 in
    let year = same_parts p.year q.year p.day day (digits_lack dot 4 p.year (omega arith) hp.year) (digits_lack dot 4 q.year (omega arith) hq.year) data_type.1 in
    record {
      network = network.0;
      station = station.0;
      location = location.0;
      channel = channel.0;
      data_type = data_type.0;
      year = year.0;
      day_is = year.1;
    }

one_path_of_name : (path other : List ℕ) (p q : SdsPath) → ReadsAsDay path p → ReadsAsDay other q → file_name p ≡ file_name q → path ≡ other
one_path_of_name path other p q day another e =
    let same = name_parts p q q.day day.reads.form another.reads.form e in
    day.reads.spelled ∙ paths p q same ∙ sym another.reads.spelled
  where
    paths : (p q : SdsPath) → HaveSameParts p q q.day → path_of p ≡ path_of q
    paths p q same = rw (same.network, same.station, same.location, same.channel, same.data_type, same.year, same.day_is) refl

no_note : (p q : SdsPath) → HasForm p → HasForm q → file_name p ≢ file_name q ++ mark
no_note p q hp hq e =
    let all : file_name q ++ mark ≡ name_with q (q.day ++ mark) = simp append_assoc in
    let same = name_parts p q (q.day ++ mark) hp hq (e ∙ all) in
    let eleven : length mark ≡ 11 = refl in
    omega (arith, hp.day.0, hq.day.0, length-append q.day mark, ap length same.day_is)

-- Two days.
module _ (path other : List ℕ) (p q : SdsPath) (day : ReadsAsDay path p) (another : ReadsAsDay other q) (apart : path ≢ other) where
  tails : (place one : Place) → is_lasting place ≡ true → tail_at (file_name q) place ≢ tail_at (file_name p) one
  tails Day Day whole e = apart (sym (one_path_of_name other path q p another day e))
  tails Day DayPart whole e = name_starts q another.reads.form (ap (λ t. get_or t 0 46) e)
  tails Day Original whole e = apart (sym (one_path_of_name other path q p another day e))
  tails Day OriginalPart whole e = name_starts q another.reads.form (ap (λ t. get_or t 0 46) e)
  tails Day Records whole e = apart (sym (one_path_of_name other path q p another day e))
  tails Day RecordsPart whole e = name_starts q another.reads.form (ap (λ t. get_or t 0 46) e)
  tails Day Note whole e = no_note q p another.reads.form day.reads.form e
  tails Day NotePart whole e = name_starts q another.reads.form (ap (λ t. get_or t 0 46) e)
  tails DayPart one whole e = cc
  tails Original Day whole e = apart (sym (one_path_of_name other path q p another day e))
  tails Original DayPart whole e = name_starts q another.reads.form (ap (λ t. get_or t 0 46) e)
  tails Original Original whole e = apart (sym (one_path_of_name other path q p another day e))
  tails Original OriginalPart whole e = name_starts q another.reads.form (ap (λ t. get_or t 0 46) e)
  tails Original Records whole e = apart (sym (one_path_of_name other path q p another day e))
  tails Original RecordsPart whole e = name_starts q another.reads.form (ap (λ t. get_or t 0 46) e)
  tails Original Note whole e = no_note q p another.reads.form day.reads.form e
  tails Original NotePart whole e = name_starts q another.reads.form (ap (λ t. get_or t 0 46) e)
  tails OriginalPart one whole e = cc
  tails Records Day whole e = apart (sym (one_path_of_name other path q p another day e))
  tails Records DayPart whole e = name_starts q another.reads.form (ap (λ t. get_or t 0 46) e)
  tails Records Original whole e = apart (sym (one_path_of_name other path q p another day e))
  tails Records OriginalPart whole e = name_starts q another.reads.form (ap (λ t. get_or t 0 46) e)
  tails Records Records whole e = apart (sym (one_path_of_name other path q p another day e))
  tails Records RecordsPart whole e = name_starts q another.reads.form (ap (λ t. get_or t 0 46) e)
  tails Records Note whole e = no_note q p another.reads.form day.reads.form e
  tails Records NotePart whole e = name_starts q another.reads.form (ap (λ t. get_or t 0 46) e)
  tails RecordsPart one whole e = cc
  tails Note Day whole e = no_note p q day.reads.form another.reads.form (sym e)
  tails Note DayPart whole e = noted_starts (file_name q) (name_starts q another.reads.form) (ap (λ t. get_or t 0 46) e)
  tails Note Original whole e = no_note p q day.reads.form another.reads.form (sym e)
  tails Note OriginalPart whole e = noted_starts (file_name q) (name_starts q another.reads.form) (ap (λ t. get_or t 0 46) e)
  tails Note Records whole e = no_note p q day.reads.form another.reads.form (sym e)
  tails Note RecordsPart whole e = noted_starts (file_name q) (name_starts q another.reads.form) (ap (λ t. get_or t 0 46) e)
  tails Note Note whole e = apart (sym (one_path_of_name other path q p another day (append_cancel_right (file_name q) (file_name p) mark e)))
  tails Note NotePart whole e = noted_starts (file_name q) (name_starts q another.reads.form) (ap (λ t. get_or t 0 46) e)
  tails NotePart one whole e = cc

  others : (root out aside : List ℕ) (place one : Place) → is_lasting place ≡ true
      → bytes_eq (path_at (names_of_day root out aside other) place) (path_at (names_of_day root out aside path) one) ≡ false
  others root out aside place one whole =
      let theirs = day_is_in other q another in
      let ours = day_is_in path p day in
      let A = names_of_day root out aside other in
      let B = names_of_day root out aside path in
      unlike (path_at A place) (path_at B one) (λ e. tails place one whole
      (last_cut (folder_at A place) (folder_at B one) (tail_at (file_name q) place) (tail_at (file_name p) one)
      (tail_lacks (file_name q) theirs.name place) (tail_lacks (file_name p) ours.name one)
      (sym (in_folder root out aside (folder_text q) (file_name q) other theirs place) ∙ e ∙ in_folder root out aside (folder_text p) (file_name p) path ours one)).1)

pub other_days : OtherDaysAreApart
other_days root out aside path other day another reads again apart place whole =
    let not = λ (one : Place). others path other day another reads again apart root out aside place one whole in
    (not Day, (not DayPart, (not Original, (not OriginalPart, (not Records, (not RecordsPart, (not Note, (not NotePart, tt))))))))
