-- The word that is written for a group.
use Rattle.std.proofs.Common.{◌≡◌, ◌<◌, ℕ, ◌+◌, ◌*◌, ◌/◌, ◌%◌, ◌^◌, ℤ, pos, List, ◌++◌, length, Some, sym, ap, ◌∙◌, subst, arith, replicate, length-append}
use Rattle.std.specs.Prelude.{IsSomeAnd, IfSome, unwrap_or}
use Rattle.std.specs.List.{AllByRecursion}
use Rattle.std.proofs.lemmas.List.{length-replicate}
use Rattle.msr_steim.specs.declared.word.GroupLayout.{GroupLayout}
use Rattle.msr_steim.specs.declared.word.WordLayout.{WordLayout}
use Rattle.msr_base.specs.declared.storage.Version.{Version}
use Rattle.msr_steim.specs.Word.{AreFields, FitsBits, HasNoOtherBits, Holds, IsLayoutFor, IsWordOf, as_read, layout_of, group_top, group_width, group_word, joined_fields}
use Rattle.msr_steim.proofs.Fields.{joined_fields_lt, joined_fields_zeros, all_fit_zeros}

-- what a word of these fields holds
pub word_holds : (version : Version) (code top fields count width word : ℕ) (zs : List ℤ)
    → IsWordOf version code top fields count width → word ≡ top * 2 ^ 30 + fields
    → length zs ≡ count → AllByRecursion (FitsBits width) zs → fields ≡ joined_fields width zs
    → Holds version code word zs × HasNoOtherBits version code word
word_holds version code top fields count width word zs is same number all spelled =
    let layout : WordLayout = record { count = count; width = width } in
    let lowest : word % 2 ^ (count * width) ≡ joined_fields width zs = ap (λ n. n % 2 ^ (count * width)) same
    ∙ is.lowest ∙ spelled in
    let others : word % 2 ^ 30 < 2 ^ (count * width) = rw same is.others in
    let divided : layout_of version code (word / 2 ^ 30) ≡ Some layout =
    ap (λ n. layout_of version code (n / 2 ^ 30)) same ∙ is.layout in
    let fields_are : AreFields word zs layout = record { count = number; fit = all; bits = lowest } in (
      subst (λ d. IsSomeAnd d (AreFields word zs)) (sym divided) fields_are,
      subst
          (λ d. IfSome d (λ d. word % 2 ^ 30 < 2 ^ (d.count * d.width))) (sym divided) others,
    )

-- the word that the layout and the fields of a group make
pub layout_word : (version : Version) (zs : List ℤ) (layout : GroupLayout) (fields word : ℕ)
    → IsLayoutFor version (length zs) layout
    → AllByRecursion (FitsBits layout.width) zs → fields ≡ joined_fields layout.width zs
    → word ≡ layout.top * 1073741824 % 4294967296 + fields * 2 ^ (layout.padding * layout.width) % 4294967296
    → (word < 2 ^ 32) × Holds version layout.code word (as_read version zs) × HasNoOtherBits version layout.code word
    × (word ≡ layout.top * 2 ^ 30 + joined_fields layout.width (as_read version zs))
layout_word version zs layout fields word is all spelled same =
    let spelling = fields * 2 ^ (layout.padding * layout.width) in
    let read : as_read version zs ≡ zs ++ replicate layout.padding (pos 0) =
    ap (λ p. zs ++ replicate p (pos 0)) (sym is.padding) in
    let zeros : joined_fields layout.width (zs ++ replicate layout.padding (pos 0))
    ≡ joined_fields layout.width zs * 2 ^ (layout.padding * layout.width) =
    joined_fields_zeros layout.width layout.padding zs in
    let spelled_so : spelling ≡ joined_fields layout.width (as_read version zs) =
    ap (λ n. n * 2 ^ (layout.padding * layout.width)) spelled ∙ sym zeros
    ∙ ap (joined_fields layout.width) (sym read) in
    let fit : AllByRecursion (FitsBits layout.width) (as_read version zs) =
    subst (AllByRecursion (FitsBits layout.width)) (sym read) (all_fit_zeros layout.width layout.padding zs all) in
    let number : length (as_read version zs) ≡ length zs + layout.padding = ap length read
    ∙ length-append zs (replicate layout.padding (pos 0))
    ∙ ap (λ n. length zs + n) (length-replicate layout.padding (pos 0)) in
    let bound : joined_fields layout.width (as_read version zs) < 2 ^ (length (as_read version zs) * layout.width) =
    joined_fields_lt layout.width (as_read version zs) is.positive fit in
    let few : spelling < 2 ^ ((length zs + layout.padding) * layout.width) = rw (spelled_so, ← number) bound in
    let made = is.words spelling few in
    let sum : word ≡ layout.top * 2 ^ 30 + spelling = omega (arith, made.small) in
    let holds = word_holds version layout.code layout.top spelling (length zs + layout.padding) layout.width word
    (as_read version zs) made sum number fit spelled_so in
    (omega (arith, made.small), holds.0, holds.1, sum ∙ ap (λ n. layout.top * 2 ^ 30 + n) spelled_so)

-- the same word by the tables
pub group_word_is : (version : Version) (zs : List ℤ) (layout : GroupLayout) (word : ℕ)
    → group_width version (length zs) ≡ Some layout.width → group_top version (length zs) ≡ layout.top
    → word ≡ layout.top * 2 ^ 30 + joined_fields layout.width (as_read version zs) → word ≡ group_word version zs
group_word_is version zs layout word width top same =
    same ∙ ap (λ t. t * 2 ^ 30 + joined_fields layout.width (as_read version zs)) (sym top)
    ∙ ap (λ w. group_top version (length zs) * 2 ^ 30 + joined_fields (unwrap_or w 0) (as_read version zs)) (sym width)
