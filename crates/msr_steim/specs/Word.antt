-- What a 32-bit word of Steim data holds (SEED 2.4, appendix B).
use Rattle.std.specs.Prelude.{◌≡◌, ◌≢◌, ◌<◌, ◌==◌, nat_lt, ℕ, zero, suc, ◌+◌, ◌-◌, ◌*◌, ◌/◌, ◌%◌, ◌^◌, ℤ, pos, negsuc, Bool, true, false, List, [], ◌∷◌, ◌++◌, length, map, Option, Some, None, IsSomeAnd, IfSome, if◌then◌else◌, ◌≤◌, replicate, unwrap_or, ⊤}
use Rattle.std.specs.List.{AllByRecursion}
use Rattle.std.specs.Int.Digits.{number_from_digits}
use Rattle.msr_steim.specs.declared.word.WordLayout.{WordLayout}
use Rattle.msr_steim.specs.declared.word.GroupLayout.{GroupLayout}
use Rattle.msr_base.specs.declared.storage.Version.{Version}
use Rattle.msr_base.specs.declared.storage.Version.TheVariants.{One, Two}

-- a number of `width` bits: from -2 ^ (width - 1) to 2 ^ (width - 1) - 1
abbrev pub FitsBits : ℕ → ℤ → Type 0
FitsBits width (pos n) = n < 2 ^ (width - 1)
FitsBits width (negsuc n) = n < 2 ^ (width - 1)

-- the field of `width` bits that is the number in two's complement
abbrev pub twos_complement : ℕ → ℤ → ℕ
twos_complement width (pos n) = n
twos_complement width (negsuc n) = 2 ^ width - suc n

-- the number that a field of `width` bits is in two's complement
unfoldable pub signed_of : ℕ → ℕ → ℤ
signed_of width field = if nat_lt field (2 ^ (width - 1)) then pos field else negsuc (2 ^ width - 1 - field)

-- the numbers that stand in the given number of lowest fields of a word, the highest first
unfoldable pub numbers_in : ℕ → ℕ → ℕ → List ℤ
numbers_in word width zero = []
numbers_in word width (suc below) = signed_of width
    (word / 2 ^ (below * width) % 2 ^ width) ∷ numbers_in word width below

-- the fields of some numbers side by side, as one number: the first field has the highest bits
abbrev pub joined_fields : ℕ → List ℤ → ℕ
joined_fields width numbers = number_from_digits (2 ^ width) (map (twos_complement width) numbers)

-- How a word with this code and these top two bits (in Steim-2 the manual's decode nibble) is laid out
-- in fields of equal width, by the tables of appendix B. Code 0 has no field. A pair that is not in
-- the table has no layout.
abbrev pub layout_of : Version → ℕ → ℕ → Option WordLayout
layout_of One code top =
    if code == 0 then Some (record { count = 0; width = 0 })
    else if code == 1 then Some (record { count = 4; width = 8 })
    else if code == 2 then Some (record { count = 2; width = 16 })
    else if code == 3 then Some (record { count = 1; width = 32 })
    else None
layout_of Two code top =
    if code == 0 then Some (record { count = 0; width = 0 })
    else if code == 1 then Some (record { count = 4; width = 8 })
    else if code == 2 then
    (if top == 1 then Some (record { count = 1; width = 30 })
    else if top == 2 then Some (record { count = 2; width = 15 })
    else if top == 3 then Some (record { count = 3; width = 10 })
    else None)
    else if code == 3 then
    (if top == 0 then Some (record { count = 5; width = 6 })
    else if top == 1 then Some (record { count = 6; width = 5 })
    else if top == 2 then Some (record { count = 7; width = 4 })
    else None)
    else None

-- the lowest bits of the word are these numbers, in the fields of this layout
pub record AreFields (word : ℕ) (numbers : List ℤ) (layout : WordLayout) : Type 0 where
  pub count : length numbers ≡ layout.count
  pub fit : AllByRecursion (FitsBits layout.width) numbers
  pub bits : word % 2 ^ (layout.count * layout.width) ≡ joined_fields layout.width numbers

-- the word with this code holds these differences
abbrev pub Holds : Version → ℕ → ℕ → List ℤ → Type 0
Holds version code word differences = IsSomeAnd (layout_of version code (word / 2 ^ 30)) (AreFields word differences)

-- the word with this code is undefined: it has no layout, and holds no list
abbrev pub IsUndefinedWord : Version → ℕ → ℕ → Type 0
IsUndefinedWord version code word = layout_of version code (word / 2 ^ 30) ≡ None

-- the word has no other bit set than its top two and those of its fields
abbrev pub HasNoOtherBits : Version → ℕ → ℕ → Type 0
HasNoOtherBits version code word =
    IfSome (layout_of version code (word / 2 ^ 30)) (λ d. word % 2 ^ 30 < 2 ^ (d.count * d.width))

-- how many bits each difference of a group of n differences has
abbrev pub group_width : Version → ℕ → Option ℕ
group_width One n =
    if n == 1 then Some 32 else if n == 2 then Some 16 else if n == 3 then Some 8
    else if n == 4 then Some 8 else None
group_width Two n =
    if n == 1 then Some 30 else if n == 2 then Some 15 else if n == 3 then Some 10
    else if n == 4 then Some 8 else if n == 5 then Some 6 else if n == 6 then Some 5
    else if n == 7 then Some 4 else None

-- differences that one word can hold
abbrev pub IsGroup : Version → List ℤ → Type 0
IsGroup version differences =
    IsSomeAnd (group_width version (length differences)) (λ width. AllByRecursion (FitsBits width) differences)

-- a group that others may follow: three Steim-1 differences are the last of their record
abbrev pub IsInnerGroup : Version → List ℤ → Type 0
IsInnerGroup One differences = IsGroup One differences × (length differences ≢ 3)
IsInnerGroup Two differences = IsGroup Two differences

-- a group at its place: the last of a record, or one that others follow
abbrev pub IsGroupAt : Version → Bool → List ℤ → Type 0
IsGroupAt version true differences = IsGroup version differences
IsGroupAt version false differences = IsInnerGroup version differences

-- the groups of a record, in order
abbrev pub AreGroups : Version → List (List ℤ) → Type 0
AreGroups version [] = ⊤
AreGroups version (group ∷ []) = IsGroup version group
AreGroups version (group ∷ next ∷ groups) = IsInnerGroup version group × AreGroups version (next ∷ groups)

-- how many fields of the word are left over, and are 0: a Steim-1 word of three differences has room
-- for four
abbrev pub padding_of : Version → ℕ → ℕ
padding_of One n = if n == 3 then 1 else 0
padding_of Two n = 0

-- what the word of a group is read as: three Steim-1 differences are followed by a 0
abbrev pub as_read : Version → List ℤ → List ℤ
as_read version differences = differences ++ replicate (padding_of version (length differences)) (pos 0)

-- the code that the word of a group of `n` differences has; a word with none has code 0
abbrev pub group_code : Version → ℕ → ℕ
group_code One n =
    if n == 1 then 3 else if n == 2 then 2 else if n == 3 then 1
    else if n == 4 then 1 else 0
group_code Two n =
    if n == 1 then 2 else if n == 2 then 2 else if n == 3 then 2
    else if n == 4 then 1 else if n == 5 then 3 else if n == 6 then 3
    else if n == 7 then 3 else 0

-- the top two bits that the word of `n` differences has, if they are no part of its fields
abbrev pub group_top : Version → ℕ → ℕ
group_top One n = 0
group_top Two n =
    if n == 1 then 1 else if n == 2 then 2 else if n == 3 then 3
    else if n == 6 then 1 else if n == 7 then 2 else 0

-- the word of a group: its top two bits, and its differences in the lowest bits, the first in the
-- highest of them
abbrev pub group_word : Version → List ℤ → ℕ
group_word version differences =
    group_top version (length differences) * 2 ^ 30
    + joined_fields (unwrap_or (group_width version (length differences)) 0) (as_read version differences)

-- these fields below these top bits are a word of `count` fields, with no other bit set
pub record IsWordOf (version : Version) (code top fields count width : ℕ) : Type 0 where
  pub small : top * 2 ^ 30 + fields < 2 ^ 32
  pub layout : layout_of version code ((top * 2 ^ 30 + fields) / 2 ^ 30)
      ≡ Some (record { count = count; width = width })
  pub lowest : (top * 2 ^ 30 + fields) % 2 ^ (count * width) ≡ fields
  pub others : (top * 2 ^ 30 + fields) % 2 ^ 30 < 2 ^ (count * width)

-- the layout of a group of `count` differences: whatever the fields are, the word is read so
pub record IsLayoutFor (version : Version) (count : ℕ) (layout : GroupLayout) : Type 0 where
  pub code : layout.code < 4
  pub padding : layout.padding ≡ padding_of version count
  pub positive : 0 < layout.width
  pub within : (count + layout.padding) * layout.width ≤ 32
  pub words : (fields : ℕ) → fields < 2 ^ ((count + layout.padding) * layout.width)
      → IsWordOf version layout.code layout.top fields (count + layout.padding) layout.width
