-- The faults of the lines before the segments.
use Rattle.std.proofs.Common.{◌≡◌, ◌≢◌, ◌∙◌, ap, sym, refl, subst, rules, arith, ℕ, zero, suc, ◌<◌, ◌≤◌, ◌^◌, Bool, true, List, ◌∷◌, ◌++◌, append_assoc, codes, decimal, length}
use Rattle.msr_base.specs.RecordLength.{IsRecordLength}
use Rattle.msr_base.specs.declared.kinds.Kinds.{Kinds}
use Rattle.msr_base.specs.declared.kinds.Kinds.TheVariants.{All as AllKinds, WithoutInt24}
use Rattle.msr_report.specs.Text.{kinds_words, kinds_line}
use Rattle.msr_report_reader.specs.Content.{lines_before}
use Rattle.msr_report_reader.specs.Fault.{IsFaultLine}
use Rattle.msr_report_reader.proofs.Rest.{InFirst, tail_1, tail_2, tail_3, tail_4, tail_5, tail_6, body_1, body_2, body_3, body_5}
use Rattle.msr_report_reader.specs.Draft.{IsEnough, line_limit}
use Rattle.msr_report_reader.proofs.RestOfText.{AfterFourth, FourthBody, at_first, before_1, before_2, before_3, before_4, before_5, counts_split, fault_at, line_is_words, one_2, one_3, one_5, step_1, step_2, step_3, step_4, step_5, words_are_one}
use Rattle.msr_report_reader.proofs.FirstLines.{fault_at_body, second_line, third_line, fourth_line, fifth_line}
use Rattle.msr_report_reader.proofs.Enough.{inside, short_2, short_3, short_5}
use Rattle.msr_report_reader.proofs.ReadTexts.{title_only, length_only, tolerance_only}

abbrev pub IsTitled : List ℕ → List ℕ → Type 0
IsTitled text rest = text ≡ codes "msrepack 1" ++ (10 ∷ rest)

abbrev pub HasLength : List ℕ → ℕ → List ℕ → Type 0
HasLength text bytes rest = text ≡ codes "length " ++ (decimal bytes ++ (10 ∷ rest))

abbrev pub HasTolerance : List ℕ → ℕ → List ℕ → Type 0
HasTolerance text tolerance rest = text ≡ codes "tolerance " ++ (decimal tolerance ++ (10 ∷ rest))

abbrev pub HasKinds : List ℕ → Kinds → List ℕ → Type 0
HasKinds text kinds rest = text ≡ kinds_line kinds ++ rest

abbrev pub NoCounts : List ℕ → Type 0
NoCounts text = (read empty mismatched : ℕ) (x : List ℕ) → read < 2 ^ 64 → empty < 2 ^ 64 → mismatched < 2 ^ 64
    → text ≡ codes "read " ++ (decimal read ++ (codes " empty " ++ (decimal empty
    ++ (codes " mismatched " ++ (decimal mismatched ++ (10 ∷ x)))))) → ⊥

title_more : (text rest more : List ℕ) → IsTitled text rest → IsTitled (text ++ more) (rest ++ more)
title_more text rest more is = ap (λ (l : List ℕ). l ++ more) is

length_more : (text : List ℕ) (bytes : ℕ) (rest more : List ℕ) → HasLength text bytes rest
    → HasLength (text ++ more) bytes (rest ++ more)
length_more text bytes rest more is = ap (λ (l : List ℕ). l ++ more) is
    ∙ ap (λ (l : List ℕ). codes "length " ++ l) (append_assoc (decimal bytes) (10 ∷ rest) more)

tolerance_more : (text : List ℕ) (tolerance : ℕ) (rest more : List ℕ) → HasTolerance text tolerance rest
    → HasTolerance (text ++ more) tolerance (rest ++ more)
tolerance_more text tolerance rest more is = ap (λ (l : List ℕ). l ++ more) is
    ∙ ap (λ (l : List ℕ). codes "tolerance " ++ l) (append_assoc (decimal tolerance) (10 ∷ rest) more)

pub fault_1 : (text more : List ℕ) (begins : Bool) → IsEnough begins text more
    → ((x : List ℕ) → IsTitled (text ++ more) x → begins ≡ true) → ((x : List ℕ) → IsTitled text x → ⊥)
    → IsFaultLine (text ++ more) 1
fault_1 text more begins enough may none =
    fault_at_body tail_1 tail_2 body_1 (text ++ more) (text ++ more) 0 (at_first (text ++ more)) step_1
    (λ content x is_content is.
    let within = inside (codes "msrepack 1") 10 x begins text more (search rules) (omega arith) (may x is) enough is in
    none within.left within.is) (before_1 (text ++ more))

pub fault_2 : (text t1 more : List ℕ) (begins : Bool) → IsTitled text t1 → IsEnough begins t1 more
    → ((x : List ℕ) → t1 ++ more ≡ codes "length " ++ x → begins ≡ true)
    → ((n : ℕ) (x : List ℕ) → IsRecordLength n → HasLength t1 n x → ⊥) → IsFaultLine (text ++ more) 2
fault_2 text t1 more begins title enough may none =
    let whole : List ℕ = text ++ more in
    let s1 : List ℕ = t1 ++ more in
    let is_1 = title_more text t1 more title in
    fault_at_body tail_2 tail_3 body_2 whole s1 1 (second_line whole s1 (title_only whole s1 is_1)) step_2
    (λ content x is_content is.
    let within = inside (body_2 content) 10 x begins t1 more (one_2 content is_content) (short_2 content)
    (may (decimal content.bytes ++ (10 ∷ x)) is) enough is in
    none content.bytes within.left is_content.first.is_length within.is) (before_2 whole s1 is_1)

pub fault_3 : (text t1 t2 more : List ℕ) (bytes : ℕ) (begins : Bool) → IsRecordLength bytes → IsTitled text t1
    → HasLength t1 bytes t2 → IsEnough begins t2 more
    → ((x : List ℕ) → t2 ++ more ≡ codes "tolerance " ++ x → begins ≡ true)
    → ((n : ℕ) (x : List ℕ) → 1 ≤ n → n ≤ 1_000_000 → HasTolerance t2 n x → ⊥) → IsFaultLine (text ++ more) 3
fault_3 text t1 t2 more bytes begins is_length title length enough may none =
    let whole : List ℕ = text ++ more in
    let s1 : List ℕ = t1 ++ more in
    let s2 : List ℕ = t2 ++ more in
    let is_1 = title_more text t1 more title in
    let is_2 = length_more t1 bytes t2 more length in
    fault_at_body tail_3 tail_4 body_3 whole s2 2
    (third_line whole s1 s2 (title_only whole s1 is_1) (length_only s1 s2 bytes is_length is_2)) step_3
    (λ content x is_content is.
    let within = inside (body_3 content) 10 x begins t2 more (one_3 content is_content) (short_3 content)
    (may (decimal content.tolerance ++ (10 ∷ x)) is) enough is in
    none content.tolerance within.left is_content.first.least is_content.first.most within.is)
    (before_3 whole s1 s2 bytes is_length is_1 is_2)

kinds_more : (text : List ℕ) (kinds : Kinds) (rest more : List ℕ) → HasKinds text kinds rest
    → HasKinds (text ++ more) kinds (rest ++ more)
kinds_more text kinds rest more is = ap (λ (l : List ℕ). l ++ more) is ∙ append_assoc (kinds_line kinds) rest more

words_begin : (kinds : Kinds) (text x : List ℕ) (begins : Bool) → ((y : List ℕ) → text ≡ codes "kinds " ++ y
    → begins ≡ true) → text ≡ kinds_words kinds ++ (10 ∷ x) → begins ≡ true
words_begin AllKinds text x begins may is = may _ is
words_begin WithoutInt24 text x begins may is = may _ is

words_short : (kinds : Kinds) → length (kinds_words kinds) < line_limit
words_short AllKinds = let long : length (kinds_words AllKinds) ≡ 37 = refl in omega (arith, long)
words_short WithoutInt24 = let long : length (kinds_words WithoutInt24) ≡ 31 = refl in omega (arith, long)

-- neither the line of some kinds nor that of the counts stands there
none_fourth : (begins : Bool) (text more : List ℕ) → IsEnough begins text more
    → ((x : List ℕ) → text ++ more ≡ codes "read " ++ x → begins ≡ true)
    → ((x : List ℕ) → text ++ more ≡ codes "kinds " ++ x → begins ≡ true)
    → NoCounts text → ((kinds : Kinds) (x : List ℕ) → kinds ≢ AllKinds → HasKinds text kinds x → ⊥)
    → (value : ℕ) (body x : List ℕ) → FourthBody value body → text ++ more ≡ body ++ (10 ∷ x) → ⊥
none_fourth begins text more enough may may_kinds none no_kinds zero body x valid is =
    let shown = is ∙ ap (λ (l : List ℕ). l ++ (10 ∷ x)) valid.is in
    let within = inside (body_5 valid.content) 10 x begins text more (one_5 valid.content valid.is_content)
    (short_5 valid.content) (may _ (shown ∙ counts_split valid.content.counts x)) enough shown in
    let counts = valid.content.counts in
    let first = valid.is_content.first in
    none counts.read counts.empty counts.mismatched within.left first.read first.empty first.mismatched
    (within.is ∙ counts_split counts within.left)
none_fourth begins text more enough may may_kinds none no_kinds (suc n) body x valid is =
    let shown = is ∙ ap (λ (l : List ℕ). l ++ (10 ∷ x)) valid.is in
    let within = inside (kinds_words valid.kinds) 10 x begins text more (words_are_one valid.kinds)
    (words_short valid.kinds) (words_begin valid.kinds (text ++ more) x begins may_kinds shown) enough shown in
    no_kinds valid.kinds within.left valid.fewer (within.is ∙ sym (line_is_words valid.kinds within.left valid.fewer))

-- the line after that of the tolerance, and the one after that of the kinds
fault_4 : (text t1 t2 t3 more : List ℕ) (bytes tolerance : ℕ) (begins : Bool) → IsRecordLength bytes → 1 ≤ tolerance
    → tolerance ≤ 1_000_000 → IsTitled text t1 → HasLength t1 bytes t2 → HasTolerance t2 tolerance t3
    → IsEnough begins t3 more → ((x : List ℕ) → t3 ++ more ≡ codes "read " ++ x → begins ≡ true)
    → ((x : List ℕ) → t3 ++ more ≡ codes "kinds " ++ x → begins ≡ true)
    → NoCounts t3 → ((kinds : Kinds) (x : List ℕ) → kinds ≢ AllKinds → HasKinds t3 kinds x → ⊥)
    → IsFaultLine (text ++ more) 4
fault_4 text t1 t2 t3 more bytes tolerance begins is_length least most title length is_tolerance enough may may_kinds
    none no_kinds =
    let whole : List ℕ = text ++ more in
    let s1 : List ℕ = t1 ++ more in
    let s2 : List ℕ = t2 ++ more in
    let s3 : List ℕ = t3 ++ more in
    let is_1 = title_more text t1 more title in
    let is_2 = length_more t1 bytes t2 more length in
    let is_3 = tolerance_more t2 tolerance t3 more is_tolerance in
    fault_at FourthBody (InFirst tail_4) AfterFourth whole s3 3
    (fourth_line whole s1 s2 s3 (title_only whole s1 is_1) (length_only s1 s2 bytes is_length is_2)
    (tolerance_only s2 s3 tolerance most is_3)) step_4 (none_fourth begins t3 more enough may may_kinds none no_kinds)
    (before_4 whole s1 s2 s3 bytes tolerance is_length least most is_1 is_2 is_3)

fault_5 : (text t1 t2 t3 t4 more : List ℕ) (bytes tolerance : ℕ) (kinds : Kinds) (begins : Bool) → IsRecordLength bytes
    → 1 ≤ tolerance → tolerance ≤ 1_000_000 → IsTitled text t1 → HasLength t1 bytes t2 → HasTolerance t2 tolerance t3
    → kinds ≢ AllKinds → HasKinds t3 kinds t4
    → IsEnough begins t4 more → ((x : List ℕ) → t4 ++ more ≡ codes "read " ++ x → begins ≡ true)
    → NoCounts t4 → IsFaultLine (text ++ more) 5
fault_5 text t1 t2 t3 t4 more bytes tolerance kinds begins is_length least most title length is_tolerance fewer are
    enough may none =
    let whole : List ℕ = text ++ more in
    let s1 : List ℕ = t1 ++ more in
    let s2 : List ℕ = t2 ++ more in
    let s3 : List ℕ = t3 ++ more in
    let s4 : List ℕ = t4 ++ more in
    let is_1 = title_more text t1 more title in
    let is_2 = length_more t1 bytes t2 more length in
    let is_3 = tolerance_more t2 tolerance t3 more is_tolerance in
    let is_4 = kinds_more t3 kinds t4 more are in
    fault_at_body tail_5 tail_6 body_5 whole s4 4
    (fifth_line whole s3 s4 kinds fewer is_4 (fourth_line whole s1 s2 s3 (title_only whole s1 is_1)
    (length_only s1 s2 bytes is_length is_2) (tolerance_only s2 s3 tolerance most is_3))) step_5
    (λ content x is_content is.
    let within = inside (body_5 content) 10 x begins t4 more (one_5 content is_content) (short_5 content)
    (may _ (is ∙ counts_split content.counts x)) enough is in
    none content.counts.read content.counts.empty content.counts.mismatched within.left is_content.first.read
    is_content.first.empty is_content.first.mismatched (within.is ∙ counts_split content.counts within.left))
    (before_5 whole s1 s2 s3 s4 bytes tolerance kinds fewer is_length least most is_1 is_2 is_3 is_4)

-- where the line of the counts is looked for
pub fault_counts : (text t1 t2 t3 t4 more : List ℕ) (bytes tolerance : ℕ) (kinds : Kinds) (begins : Bool)
    → IsRecordLength bytes → 1 ≤ tolerance → tolerance ≤ 1_000_000 → IsTitled text t1 → HasLength t1 bytes t2
    → HasTolerance t2 tolerance t3 → HasKinds t3 kinds t4
    → ((other : Kinds) (x : List ℕ) → other ≢ AllKinds → HasKinds t3 other x → kinds ≡ other)
    → IsEnough begins t4 more → ((x : List ℕ) → t4 ++ more ≡ codes "read " ++ x → begins ≡ true)
    → ((x : List ℕ) → kinds ≡ AllKinds → t4 ++ more ≡ codes "kinds " ++ x → begins ≡ true)
    → NoCounts t4 → IsFaultLine (text ++ more) (lines_before kinds)
fault_counts text t1 t2 t3 t4 more bytes tolerance AllKinds begins is_length least most title length is_tolerance are
    only enough may may_kinds none =
    fault_4 text t1 t2 t4 more bytes tolerance begins is_length least most title length
    (subst (λ (t : List ℕ). HasTolerance t2 tolerance t) are is_tolerance) enough may (λ x is. may_kinds x refl is) none
    (λ other x fewer is. fewer (sym (only other x fewer (are ∙ is))))
fault_counts text t1 t2 t3 t4 more bytes tolerance WithoutInt24 begins is_length least most title length is_tolerance
    are only enough may may_kinds none =
    fault_5 text t1 t2 t3 t4 more bytes tolerance WithoutInt24 begins is_length least most title length is_tolerance
    (λ e. absurd cc) are enough may none
