-- An area carries the samples that it was filled with, and one list alone.
use Rattle.std.proofs.Common.{◌≡◌, ℕ, zero, suc, ◌+◌, ◌-◌, ◌*◌, ◌^◌, ◌<◌, ◌≤◌, ℤ, pos, negsuc, List, [], ◌∷◌, ◌++◌, length, take, drop, get_or, refl, sym, ap, ◌∙◌, arith, append_assoc, FitsSigned, All, to_z-of_z}
use Rattle.std.specs.Int.{w16, w32, w64, cast_signed, cast_unsigned}
use Rattle.std.proofs.Math.Nat.{mod-eq_of_lt, mod-lt}
use Rattle.std.proofs.lemmas.Bool.{le-ltb, lt-ltb}
use Rattle.std.proofs.lemmas.Int.{ints}
use Rattle.std.proofs.Math.Seq.{drop-append-add}
use borrow.Rule.Slice.PartMut.{mid_of, put_mid}
use Rattle.std.proofs.lemmas.Grind.{flat_map-append}
use Rattle.std.proofs.lemmas.List.{append-nil, drop-drop, drop_all, drop_at, ext_get_or, length-append, length-drop, length-take-le, take_all, take_at, take_more}
use Rattle.std.proofs.lemmas.List.Elements.{All-head, All-tail}
use Rattle.byteorder.specs.Endian.{low_bytes, twos_complement}
use Rattle.byteorder.specs.Numbers.{big_number-reads_back, length-bytes_high_first}
use Rattle.msr_base.specs.declared.order.Order.{Order}
use Rattle.msr_base.specs.declared.order.Order.TheVariants.{Big}
use Rattle.msr_base.specs.Storage.{size_of}
use Rattle.msr_plain.specs.Plain.{CarriesPlain, FitsThreeBytes, FitsWidth, bytes_of_all, number_in, sample_bytes}
use Rattle.msr_base.specs.declared.storage.Width.{Width}
use Rattle.msr_base.specs.declared.storage.Width.TheVariants.{Two, Three, Four}

below_16 : (x : ℤ) → FitsSigned w16 x → cast_unsigned w16 x < 256 ^ 2
below_16 x f = omega (arith, ints, f)

below_32 : (x : ℤ) → FitsSigned w32 x → cast_unsigned w32 x < 256 ^ 4
below_32 x f = omega (arith, ints, f)

below_24 : (x : ℤ) → low_bytes w64 3 x < 256 ^ 3
below_24 x = mod-lt (cast_unsigned w64 x) (omega arith)

three_back : (x : ℤ) → FitsThreeBytes x → twos_complement 3 (low_bytes w64 3 x) ≡ x
three_back (pos n) f =
    let same : low_bytes w64 3 (pos n) ≡ n = mod-eq_of_lt (omega arith) in
    rw (same, lt-ltb n (2 ^ 23) f) refl
three_back (negsuc n) f =
    let same : low_bytes w64 3 (negsuc n) ≡ 2 ^ 24 - suc n = omega arith in
    rw (same, le-ltb (2 ^ 24 - suc n) (2 ^ 23) (omega arith), lt-ltb (2 ^ 24 - suc n) (2 ^ 24) (omega arith))
    (ap negsuc (omega arith))

number_back : (width : Width) (x : ℤ) (rest : List ℕ) → FitsWidth width x
    → number_in width Big (sample_bytes width x ++ rest) ≡ x
number_back Two x rest f = ap (cast_signed w16) (big_number-reads_back 2 (cast_unsigned w16 x) rest (below_16 x f))
    ∙ to_z-of_z f
number_back Three x rest f = ap (twos_complement 3) (big_number-reads_back 3 (low_bytes w64 3 x) rest (below_24 x))
    ∙ three_back x f
number_back Four x rest f = ap (cast_signed w32)
    (big_number-reads_back 4 (cast_unsigned w32 x) rest (below_32 x f)) ∙ to_z-of_z f

length-bytes_of : (width : Width) (x : ℤ) → length (sample_bytes width x) ≡ size_of width
length-bytes_of Two x = length-bytes_high_first 2 (cast_unsigned w16 x)
length-bytes_of Three x = length-bytes_high_first 3 (low_bytes w64 3 x)
length-bytes_of Four x = length-bytes_high_first 4 (cast_unsigned w32 x)

next_place : (width : Width) (x : ℤ) (rest : List ℕ) (place : ℕ)
    → drop (size_of width * suc place) (sample_bytes width x ++ rest) ≡ drop (size_of width * place) rest
next_place width x rest place =
    let e : size_of width * suc place ≡ length (sample_bytes width x) + size_of width * place =
    omega (arith, length-bytes_of width x) in
    ap (λ (n : ℕ). drop n (sample_bytes width x ++ rest)) e
    ∙ drop-append-add (sample_bytes width x) rest (size_of width * place)

each_back : (width : Width) (xs : List ℤ) (rest : List ℕ) (place : ℕ) → All (FitsWidth width) xs
    → place < length xs → get_or xs place (pos 0)
    ≡ number_in width Big (drop (size_of width * place) (bytes_of_all width xs ++ rest))
each_back width [] rest place fit h = absurd (omega (arith, h))
each_back width (x ∷ xs) rest zero fit h =
    let apart = append_assoc (sample_bytes width x) (bytes_of_all width xs) rest in
    let none : size_of width * 0 ≡ 0 = omega arith in
    sym (ap (λ (n : ℕ). number_in width Big (drop n ((sample_bytes width x ++ bytes_of_all width xs) ++ rest))) none
    ∙ ap (λ (bytes : List ℕ). number_in width Big bytes) apart
    ∙ number_back width x (bytes_of_all width xs ++ rest) (All-head (FitsWidth width) x xs fit))
each_back width (x ∷ xs) rest (suc place) fit h =
    let apart = append_assoc (sample_bytes width x) (bytes_of_all width xs) rest in
    each_back width xs rest place (All-tail (FitsWidth width) x xs fit) (omega (arith, h))
    ∙ sym (ap (λ (bytes : List ℕ). number_in width Big (drop (size_of width * suc place) bytes)) apart
    ∙ ap (λ (bytes : List ℕ). number_in width Big bytes) (next_place width x (bytes_of_all width xs ++ rest) place))

pub length-bytes_of_all : (width : Width) (xs : List ℤ) → length (bytes_of_all width xs) ≡ size_of width * length xs
length-bytes_of_all width [] = omega arith
length-bytes_of_all width (x ∷ xs) = omega (
  arith,
  length-append (sample_bytes width x) (bytes_of_all width xs),
  length-bytes_of width x,
  length-bytes_of_all width xs,
)

-- one sample more, written after those that stand there
pub one_more : (width : Width) (samples : List ℤ) (old area : List ℕ) (place a : ℕ) (x : ℤ)
    → a ≡ size_of width * place → place < length samples → size_of width * length samples ≤ length old
    → x ≡ get_or samples place (pos 0)
    → area ≡ bytes_of_all width (take place samples) ++ drop (size_of width * place) old
    → put_mid a (length area - a) area (sample_bytes width x ++ drop (size_of width) (mid_of a (length area - a) area))
    ≡ bytes_of_all width (take (place + 1) samples) ++ drop (size_of width * (place + 1)) old
one_more width samples old area place a x at within room same is =
    let front = bytes_of_all width (take place samples) in
    let new = sample_bytes width x in
    let long : length front ≡ a = length-bytes_of_all width (take place samples)
    ∙ ap (λ n. size_of width * n) (length-take-le place samples (omega arith)) ∙ sym at in
    let left : take a area ≡ front = ap (take a) is ∙ take_at front (drop (size_of width * place) old) a long in
    let right : drop a area ≡ drop (size_of width * place) old = ap (drop a) is
    ∙ drop_at front (drop (size_of width * place) old) a long in
    let mid : mid_of a (length area - a) area ≡ drop (size_of width * place) old =
    take_all (length area - a) (drop a area) (omega (arith, length-drop a area)) ∙ right in
    let none : drop (length area - a) (drop a area) ≡ [] =
    drop_all (length area - a) (drop a area) (omega (arith, length-drop a area)) in
    let next : drop (size_of width) (drop (size_of width * place) old) ≡ drop (size_of width * (place + 1)) old =
    drop-drop (size_of width) (size_of width * place) old ∙ ap (λ n. drop n old) (omega arith) in
    let all : bytes_of_all width (take (place + 1) samples) ≡ front ++ new =
    ap (bytes_of_all width) (take_more samples place (pos 0) within ∙ ap (λ y. take place samples ++ y ∷ [])
    (sym same)) ∙ flat_map-append (sample_bytes width) (take place samples) (x ∷ []) ∙ ap (λ l. front
    ++ l) (append-nil new) in
    rw (left, mid, none, next, all) (ap (λ l. front ++ l) (append-nil (new ++ drop (size_of width * (place + 1)) old))
    ∙ sym (append_assoc front new (drop (size_of width * (place + 1)) old)))

pub carried : (width : Width) (area : List ℕ) (xs : List ℤ) (rest : List ℕ) → All (FitsWidth width) xs
    → area ≡ bytes_of_all width xs ++ rest → CarriesPlain width Big area xs
carried width area xs rest fit e = rw e (record {
  room = omega (arith, length-append (bytes_of_all width xs) rest, length-bytes_of_all width xs);
  each = λ place h. each_back width xs rest place fit h;
})

-- an area carries at most one list of samples of each length
pub carries_one : (width : Width) (order : Order) (area : List ℕ) (xs ys : List ℤ)
    → CarriesPlain width order area xs → CarriesPlain width order area ys → length xs ≡ length ys → xs ≡ ys
carries_one width order area xs ys first second same =
    ext_get_or (pos 0) xs ys same (λ place within. first.each place within
    ∙ sym (second.each place (omega (arith, within, same))))

-- an area that carries samples is long enough for them
pub not_short : (width : Width) (order : Order) (area : List ℕ) (samples : List ℤ)
    → CarriesPlain width order area samples → length area < size_of width * length samples → ⊥
not_short width order area samples carries short = omega (arith, carries.room, short)
