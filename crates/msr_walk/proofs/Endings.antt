-- How names end.
use Rattle.std.proofs.Common.{◌≡◌, ◌≢◌, ◌<◌, ℕ, Bool, true, false, [], ◌∷◌, ◌++◌, refl, ap, sym, ◌∙◌, subst, arith, append_assoc, length, reverse, codes, IsTrue}
use Rattle.std.proofs.lemmas.Bool.Decides.{nat_tests}
use Rattle.std.proofs.lemmas.List.{append_cancel_left, reverse-append}
use Rattle.std.proofs.lemmas.Slice.Eq.{bytes_eq-Decides}
use Rattle.std.specs.Char.{is_ascii_digit}
use Rattle.std.specs.Fmt.{decimal}
use Rattle.std.specs.Str.{bytes_eq}
use Rattle.msr_folders.specs.Paths.{ended, joined}
use Rattle.msr_sds.specs.SdsPath.{AreDigits, SdsPath, path_of}
use Rattle.msr_sds.specs.Separators.{dot, slash}
use Rattle.msr_tree.specs.Steps.{Path}

pub differ : (one other : Path) → one ≢ other → bytes_eq one other ≡ false
differ one other not = by (bytes_eq one other) refl
  where
    by : (b : Bool) → bytes_eq one other ≡ b → bytes_eq one other ≡ false
    by true is = absurd (not ((bytes_eq-Decides one other).0 is))
    by false is = is

-- a name that is not empty
pub some_joined : (folder path : Path) → folder ≢ [] → (b : ℕ) × (rest : Path) × (joined folder path ≡ b ∷ rest)
some_joined [] path some = absurd (some refl)
some_joined (f ∷ folder) [] some = (f, folder, refl)
some_joined (f ∷ folder) (p ∷ path) some = (f, folder ++ 47 ∷ p ∷ path, refl)

pub ended_some : (path ending : Path) (b : ℕ) (rest : Path) → path ≡ b ∷ rest → ended path ending ≡ path ++ ending
ended_some path ending b rest is = rw is refl

-- of two paths in one folder
pub same_joined : (folder one other : Path) → folder ≢ [] → 0 < length one → 0 < length other → joined folder one ≡ joined folder other → one ≡ other
same_joined [] one other some a b is = absurd (some refl)
same_joined (f ∷ folder) [] other some a b is = absurd (omega (arith, a))
same_joined (f ∷ folder) (p ∷ one) [] some a b is = absurd (omega (arith, b))
same_joined (f ∷ folder) (p ∷ one) (q ∷ other) some a b is = ap rest (append_cancel_left (f ∷ folder) (47 ∷ p ∷ one) (47 ∷ q ∷ other) is)
  where
    rest : Path → Path
    rest [] = []
    rest (x ∷ xs) = xs

-- the last letters of a name, from the last one on
reversed : (one ending other last : Path) → one ++ ending ≡ other ++ last → reverse ending ++ reverse one ≡ reverse last ++ reverse other
reversed one ending other last is = sym (reverse-append one ending) ∙ (ap reverse is ∙ reverse-append other last)

abbrev first : Path → ℕ
first [] = 0
first (a ∷ rest) = a

abbrev second : Path → ℕ
second (a ∷ b ∷ rest) = b
second rest = 0

t_is_not_m : ◌≢◌ {A = ℕ} 116 109
t_is_not_m is = absurd (omega (arith, is))

x_is_not_r : ◌≢◌ {A = ℕ} 120 114
x_is_not_r is = absurd (omega (arith, is))

pub text_not_from : (one other : Path) → one ++ codes ".txt" ≢ other ++ codes ".from"
text_not_from one other is = t_is_not_m (ap first (reversed one (codes ".txt") other (codes ".from") is))

pub text_not_part : (one other : Path) → one ++ codes ".txt" ≢ other ++ codes ".part"
text_not_part one other is = x_is_not_r (ap second (reversed one (codes ".txt") other (codes ".part") is))

pub from_not_part : (one other : Path) → one ++ codes ".from" ≢ other ++ codes ".part"
from_not_part one other is = t_is_not_m (sym (ap first (reversed one (codes ".from") other (codes ".part") is)))

-- a name beside another
pub part_end : (path : Path) (number : ℕ) → path ++ (codes "." ++ (decimal number ++ codes ".part")) ≡ (path ++ (codes "." ++ decimal number)) ++ codes ".part"
part_end path number = sym (append_assoc path (codes "." ++ decimal number) (codes ".part"))

-- A text ends in this.
record EndsIn (last text : Path) : Type 0 where
  front : Path
  is : text ≡ front ++ last

over : (before : Path) (c : ℕ) (text last : Path) → EndsIn last text → EndsIn last (before ++ c ∷ text)
over before c text last ends = record { front = before ++ c ∷ ends.front; is = ap (λ l. before ++ c ∷ l) ends.is ∙ sym (append_assoc before (c ∷ ends.front) last) }

day_last : (p : SdsPath) → EndsIn p.day (path_of p)
day_last p =
    over p.year slash _ p.day (over p.network slash _ p.day (over p.station slash _ p.day (over p.channel dot _ p.day (over p.data_type slash _ p.day
    (over p.network dot _ p.day (over p.station dot _ p.day (over p.location dot _ p.day (over p.channel dot _ p.day (over p.data_type dot _ p.day
    (over p.year dot p.day p.day (record { front = []; is = refl })))))))))))

joined_ends : (folder path last : Path) → folder ≢ [] → 0 < length path → EndsIn last path → EndsIn last (joined folder path)
joined_ends [] path last some long ends = absurd (some refl)
joined_ends (f ∷ folder) [] last some long ends = absurd (omega (arith, long))
joined_ends (f ∷ folder) (p ∷ path) last some long ends = over (f ∷ folder) 47 (p ∷ path) last ends

-- the last of three digits
last_digit : (day : Path) → AreDigits 3 day → (front : Path) × (c : ℕ) × (day ≡ front ++ c ∷ []) × IsTrue (is_ascii_digit c)
last_digit [] digits = absurd (omega (arith, digits.0))
last_digit (a ∷ []) digits = absurd (omega (arith, digits.0))
last_digit (a ∷ b ∷ []) digits = absurd (omega (arith, digits.0))
last_digit (a ∷ b ∷ c ∷ []) digits = (a ∷ b ∷ [], c, refl, digits.1 2 0 (omega arith))
last_digit (a ∷ b ∷ c ∷ d ∷ rest) digits = absurd (omega (arith, digits.0))

no_digit : (c : ℕ) → IsTrue (is_ascii_digit c) → c ≢ 116
no_digit c digit is = grind (arith, nat_tests)

-- a day's path ends in a digit
pub day_not_part : (folder path : Path) (p : SdsPath) → folder ≢ [] → 0 < length path → path ≡ path_of p → AreDigits 3 p.day → (front : Path) → joined folder path ≢ front ++ codes ".part"
day_not_part folder path p some long spelled digits front is =
    let last = last_digit p.day digits in
    let ends = joined_ends folder path p.day some long (subst (λ t. EndsIn p.day t) (sym spelled) (day_last p)) in
    let whole : joined folder path ≡ (ends.front ++ last.0) ++ last.1 ∷ [] = ends.is ∙ (ap (λ l. ends.front ++ l) last.2 ∙ sym (append_assoc ends.front last.0 (last.1 ∷ []))) in
    no_digit last.1 last.3 (ap first (reversed (ends.front ++ last.0) (last.1 ∷ []) front (codes ".part") (sym whole ∙ is)))
