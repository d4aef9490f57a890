-- The size of the longest group, by the sizes of seven differences.
use Rattle.std.proofs.Common.{◌≡◌, ◌<◌, ◌≤◌, ◌↔◌, ℕ, suc, ◌+◌, ◌-◌, ◌^◌, ℤ, pos, get_or, take, drop, List, [], ◌∷◌, length, Option, Some, None, zero, refl, ◌∙◌, arith, bit_or, true}
use Rattle.std.specs.Bool.{⊤}
use Rattle.std.specs.List.{AllByRecursion}
use Rattle.std.proofs.lemmas.Nat.{le_or_l, le_or_r, or_lt}
use Rattle.std.proofs.lemmas.List.{get_or-drop}
use Rattle.msr_base.specs.declared.storage.Version.TheVariants.{Two}
use Rattle.msr_steim.specs.Word.{FitsBits, IsGroup}
use Rattle.msr_words.specs.Groups.{IsLongestGroup}
use Rattle.msr_words.specs.Segment.{differences, difference_at, difference_from}
use Rattle.msr_words.specs.Window.{IsSize}
use Rattle.msr_words.specs.Lemmas.LeastCounts.{a_group_has_few}
use Rattle.msr_words.proofs.Plain.{difference_of}

-- ---- seven differences of a run

pub seven_of : (xs : List ℤ) → 7 ≤ length xs
    → xs ≡ get_or xs 0 (pos 0) ∷ get_or xs 1 (pos 0) ∷ get_or xs 2 (pos 0) ∷ get_or xs 3 (pos 0) ∷ get_or xs 4
    (pos 0) ∷ get_or xs 5 (pos 0) ∷ get_or xs 6 (pos 0) ∷ drop 7 xs
seven_of (a ∷ b ∷ c ∷ d ∷ e ∷ f ∷ g ∷ xs) h = refl
seven_of [] h = absurd (omega arith)
seven_of (a ∷ []) h = absurd (omega arith)
seven_of (a ∷ b ∷ []) h = absurd (omega arith)
seven_of (a ∷ b ∷ c ∷ []) h = absurd (omega arith)
seven_of (a ∷ b ∷ c ∷ d ∷ []) h = absurd (omega arith)
seven_of (a ∷ b ∷ c ∷ d ∷ e ∷ []) h = absurd (omega arith)
seven_of (a ∷ b ∷ c ∷ d ∷ e ∷ f ∷ []) h = absurd (omega arith)

pub there : (before : Option ℤ) (run : List ℤ) (at i : ℕ) → at + i < length run
    → get_or (drop at (differences before run)) i (pos 0) ≡ difference_from before run (at + i)
there before run at i h = get_or-drop at (differences before run) i (pos 0) ∙ difference_of before run (at + i) h

pub from_inside : (before : Option ℤ) (run : List ℤ) (at : ℕ) → 0 < at
    → difference_at run at ≡ difference_from before run at
from_inside None run at later = refl
from_inside (Some x) run zero later = absurd (omega arith)
from_inside (Some x) run (suc at) later = refl

-- ---- groups by sizes

-- these are the sizes of the differences
abbrev AreSizesOf : List ℤ → List ℕ → Type 0
AreSizesOf [] [] = ⊤
AreSizesOf [] (m ∷ ms) = ⊥
AreSizesOf (d ∷ ds) [] = ⊥
AreSizesOf (d ∷ ds) (m ∷ ms) = IsSize d m × AreSizesOf ds ms

-- the bits that are set in any of them
abbrev or_of : ℕ → List ℕ → ℕ
or_of m [] = m
or_of m (n ∷ ns) = or_of (bit_or m n) ns

or_below : (k m : ℕ) (ms : List ℕ) → (or_of m ms < 2 ^ k ↔ (m < 2 ^ k) × AllByRecursion (λ n. n < 2 ^ k) ms)
or_below k m [] = (λ small. (small, tt), λ each. each.0)
or_below k m (n ∷ ns) =
    let l = le_or_l m n in
    let r = le_or_r m n in
    let rest = or_below k (bit_or m n) ns in (
      λ small. let first = (rest.0 small).0 in (omega arith, (omega arith, (rest.0 small).1)),
      λ each. rest.1 (or_lt k m n each.0 each.1.0, each.1.1),
    )

each_fits : (w : ℕ) (ds : List ℤ) (ms : List ℕ) → AreSizesOf ds ms
    → (AllByRecursion (λ n. n < 2 ^ (w - 1)) ms ↔ AllByRecursion (FitsBits w) ds)
each_fits w [] [] are = (λ each. tt, λ each. tt)
each_fits w [] (m ∷ ms) are = elim are [ ]
each_fits w (d ∷ ds) [] are = elim are [ ]
each_fits w (d ∷ ds) (m ∷ ms) are =
    let rest = each_fits w ds ms are.1 in
    (λ each. ((are.0 w).1 each.0, rest.0 each.1), λ each. ((are.0 w).0 each.0, rest.1 each.1))

group_by : (w : ℕ) (d : ℤ) (m : ℕ) (ds : List ℤ) (ms : List ℕ) → IsSize d m → AreSizesOf ds ms
    → (or_of m ms < 2 ^ (w - 1) ↔ FitsBits w d × AllByRecursion (FitsBits w) ds)
group_by w d m ds ms first are =
    let by = or_below (w - 1) m ms in
    let rest = each_fits w ds ms are in (
      λ small. let each = by.0 small in ((first w).1 each.0, rest.0 each.1),
      λ fits. by.1 ((first w).0 fits.0, rest.1 fits.1),
    )

group_1 : (a : ℤ) (ma : ℕ) → IsSize a ma → (ma < 536870912 ↔ IsGroup Two (a ∷ []))
group_1 a ma ha = group_by 30 a ma [] [] ha tt

group_2 : (a b : ℤ) (ma mb : ℕ) → IsSize a ma → IsSize b mb → (bit_or ma mb < 16384 ↔ IsGroup Two (a ∷ b ∷ []))
group_2 a b ma mb ha hb = group_by 15 a ma (b ∷ []) (mb ∷ []) ha (hb, tt)

group_3 : (a b c : ℤ) (ma mb mc : ℕ) → IsSize a ma → IsSize b mb → IsSize c mc
    → (bit_or (bit_or ma mb) mc < 512 ↔ IsGroup Two (a ∷ b ∷ c ∷ []))
group_3 a b c ma mb mc ha hb hc = group_by 10 a ma (b ∷ c ∷ []) (mb ∷ mc ∷ []) ha (hb, (hc, tt))

group_4 : (a b c d : ℤ) (ma mb mc md : ℕ) → IsSize a ma → IsSize b mb → IsSize c mc → IsSize d md
    → (bit_or (bit_or (bit_or ma mb) mc) md < 128 ↔ IsGroup Two (a ∷ b ∷ c ∷ d ∷ []))
group_4 a b c d ma mb mc md ha hb hc hd =
    group_by 8 a ma (b ∷ c ∷ d ∷ []) (mb ∷ mc ∷ md ∷ []) ha (hb, (hc, (hd, tt)))

group_5 : (a b c d e : ℤ) (ma mb mc md me : ℕ) → IsSize a ma → IsSize b mb → IsSize c mc → IsSize d md
    → IsSize e me → (bit_or (bit_or (bit_or (bit_or ma mb) mc) md) me < 32 ↔ IsGroup Two (a ∷ b ∷ c ∷ d ∷ e ∷ []))
group_5 a b c d e ma mb mc md me ha hb hc hd he =
    group_by 6 a ma (b ∷ c ∷ d ∷ e ∷ []) (mb ∷ mc ∷ md ∷ me ∷ []) ha (hb, (hc, (hd, (he, tt))))

group_6 : (a b c d e f : ℤ) (ma mb mc md me mf : ℕ) → IsSize a ma → IsSize b mb → IsSize c mc → IsSize d md
    → IsSize e me → IsSize f mf → (bit_or (bit_or (bit_or (bit_or (bit_or ma mb) mc) md) me) mf < 16
    ↔ IsGroup Two (a ∷ b ∷ c ∷ d ∷ e ∷ f ∷ []))
group_6 a b c d e f ma mb mc md me mf ha hb hc hd he hf =
    group_by 5 a ma (b ∷ c ∷ d ∷ e ∷ f ∷ []) (mb ∷ mc ∷ md ∷ me ∷ mf ∷ []) ha (hb, (hc, (hd, (he, (hf, tt)))))

group_7 : (a b c d e f g : ℤ) (ma mb mc md me mf mg : ℕ) → IsSize a ma → IsSize b mb → IsSize c mc → IsSize d md
    → IsSize e me → IsSize f mf → IsSize g mg → (bit_or
    (bit_or (bit_or (bit_or (bit_or (bit_or ma mb) mc) md) me) mf) mg < 8
    ↔ IsGroup Two (a ∷ b ∷ c ∷ d ∷ e ∷ f ∷ g ∷ []))
group_7 a b c d e f g ma mb mc md me mf mg ha hb hc hd he hf hg =
    group_by 4 a ma (b ∷ c ∷ d ∷ e ∷ f ∷ g ∷ []) (mb ∷ mc ∷ md ∷ me ∷ mf ∷ mg ∷ []) ha
    (hb, (hc, (hd, (he, (hf, (hg, tt))))))

-- ---- the longest

pub longest_0 : (a : ℤ) (rest : List ℤ) (ma : ℕ) → IsSize a ma → 536870912 ≤ ma → IsLongestGroup (a ∷ rest) 0
longest_0 a rest ma ha not = record {
  within = omega arith;
  group = λ some. absurd (omega arith);
  no_more = λ less is. let few = (group_1 a ma ha).1 is in absurd (omega arith);
}

pub longest_1 : (a b : ℤ) (rest : List ℤ) (ma mb : ℕ) → IsSize a ma → IsSize b mb → ma < 536870912
    → 16384 ≤ bit_or ma mb → IsLongestGroup (a ∷ b ∷ rest) 1
longest_1 a b rest ma mb ha hb fits not = record {
  within = omega arith;
  group = λ some. (group_1 a ma ha).0 fits;
  no_more = λ less is. let few = (group_2 a b ma mb ha hb).1 is in absurd (omega arith);
}

pub longest_2 : (a b c : ℤ) (rest : List ℤ) (ma mb mc : ℕ) → IsSize a ma → IsSize b mb → IsSize c mc
    → bit_or ma mb < 16384 → 512 ≤ bit_or (bit_or ma mb) mc → IsLongestGroup (a ∷ b ∷ c ∷ rest) 2
longest_2 a b c rest ma mb mc ha hb hc fits not = record {
  within = omega arith;
  group = λ some. (group_2 a b ma mb ha hb).0 fits;
  no_more = λ less is. let few = (group_3 a b c ma mb mc ha hb hc).1 is in absurd (omega arith);
}

pub longest_3 : (a b c d : ℤ) (rest : List ℤ) (ma mb mc md : ℕ) → IsSize a ma → IsSize b mb → IsSize c mc
    → IsSize d md → bit_or (bit_or ma mb) mc < 512 → 128 ≤ bit_or (bit_or (bit_or ma mb) mc) md
    → IsLongestGroup (a ∷ b ∷ c ∷ d ∷ rest) 3
longest_3 a b c d rest ma mb mc md ha hb hc hd fits not = record {
  within = omega arith;
  group = λ some. (group_3 a b c ma mb mc ha hb hc).0 fits;
  no_more = λ less is. let few = (group_4 a b c d ma mb mc md ha hb hc hd).1 is in absurd (omega arith);
}

pub longest_4 : (a b c d e : ℤ) (rest : List ℤ) (ma mb mc md me : ℕ) → IsSize a ma → IsSize b mb → IsSize c mc
    → IsSize d md → IsSize e me → bit_or (bit_or (bit_or ma mb) mc) md < 128
    → 32 ≤ bit_or (bit_or (bit_or (bit_or ma mb) mc) md) me → IsLongestGroup (a ∷ b ∷ c ∷ d ∷ e ∷ rest) 4
longest_4 a b c d e rest ma mb mc md me ha hb hc hd he fits not = record {
  within = omega arith;
  group = λ some. (group_4 a b c d ma mb mc md ha hb hc hd).0 fits;
  no_more = λ less is. let few = (group_5 a b c d e ma mb mc md me ha hb hc hd he).1 is in absurd (omega arith);
}

pub longest_5 : (a b c d e f : ℤ) (rest : List ℤ) (ma mb mc md me mf : ℕ) → IsSize a ma → IsSize b mb → IsSize c mc
    → IsSize d md → IsSize e me → IsSize f mf → bit_or (bit_or (bit_or (bit_or ma mb) mc) md) me < 32
    → 16 ≤ bit_or (bit_or (bit_or (bit_or (bit_or ma mb) mc) md) me) mf
    → IsLongestGroup (a ∷ b ∷ c ∷ d ∷ e ∷ f ∷ rest) 5
longest_5 a b c d e f rest ma mb mc md me mf ha hb hc hd he hf fits not = record {
  within = omega arith;
  group = λ some. (group_5 a b c d e ma mb mc md me ha hb hc hd he).0 fits;
  no_more = λ less is. let few = (group_6 a b c d e f ma mb mc md me mf ha hb hc hd he hf).1 is in absurd (omega arith);
}

pub longest_6 : (a b c d e f g : ℤ) (rest : List ℤ) (ma mb mc md me mf mg : ℕ) → IsSize a ma → IsSize b mb
    → IsSize c mc → IsSize d md → IsSize e me → IsSize f mf → IsSize g mg
    → bit_or (bit_or (bit_or (bit_or (bit_or ma mb) mc) md) me) mf < 16
    → 8 ≤ bit_or (bit_or (bit_or (bit_or (bit_or (bit_or ma mb) mc) md) me) mf) mg
    → IsLongestGroup (a ∷ b ∷ c ∷ d ∷ e ∷ f ∷ g ∷ rest) 6
longest_6 a b c d e f g rest ma mb mc md me mf mg ha hb hc hd he hf hg fits not = record {
  within = omega arith;
  group = λ some. (group_6 a b c d e f ma mb mc md me mf ha hb hc hd he hf).0 fits;
  no_more = λ less is. let few = (group_7 a b c d e f g ma mb mc md me mf mg ha hb hc hd he hf hg).1 is in
      absurd (omega arith);
}

too_long : (a b c d e f g : ℤ) (rest : List ℤ) → 7 < length (a ∷ b ∷ c ∷ d ∷ e ∷ f ∷ g ∷ rest)
    → IsGroup Two (take (7 + 1) (a ∷ b ∷ c ∷ d ∷ e ∷ f ∷ g ∷ rest)) → ⊥
too_long a b c d e f g [] less is = absurd (omega arith)
too_long a b c d e f g (h ∷ rest) less is = let few =
    (a_group_has_few Two true (a ∷ b ∷ c ∷ d ∷ e ∷ f ∷ g ∷ h ∷ []) is).1 in absurd (omega arith)

pub longest_7 : (a b c d e f g : ℤ) (rest : List ℤ) (ma mb mc md me mf mg : ℕ) → IsSize a ma → IsSize b mb
    → IsSize c mc → IsSize d md → IsSize e me → IsSize f mf → IsSize g mg
    → bit_or (bit_or (bit_or (bit_or (bit_or (bit_or ma mb) mc) md) me) mf) mg < 8
    → IsLongestGroup (a ∷ b ∷ c ∷ d ∷ e ∷ f ∷ g ∷ rest) 7
longest_7 a b c d e f g rest ma mb mc md me mf mg ha hb hc hd he hf hg fits = record {
  within = omega arith;
  group = λ some. (group_7 a b c d e f g ma mb mc md me mf mg ha hb hc hd he hf hg).0 fits;
  no_more = λ less is. too_long a b c d e f g rest less is;
}
