-- Names without padding, and the time between two segments.
use Rattle.std.proofs.Common.{◌≡◌, ℕ, zero, suc, ◌-◌, ◌==◌, ◌<◌, ◌≤◌, ◌^◌, false, List, [], ◌∷◌, ◌++◌, ◌∙◌, ap, arith, refl, sym, length, take, get_or, ℤ, ◌-ℤ◌, FitsSigned, w64, to_z, of_z, to_z-of_z, codes, Option, Result, Ok, Err, OnOk, is_ok, if◌then◌else◌}
use Rattle.std.proofs.lemmas.Bool.{ne_eqb}
use Rattle.std.specs.Int.{w128}
use Rattle.jiff_core.proofs.SignedLemmas.{signed_arith}
use Rattle.jiff_core.specs.Calendar.{IsWithin}
use Rattle.msr_time.specs.SampleRate.{IsRoundedNominal}
use Rattle.msr_report.specs.Json.{IsBegan, IsIsoText, IsJsonLine, before_name, clock_json, name_json, settings_json, times_json, unpadded}
use Rattle.msr_report.specs.declared.json.ListedSegment.{ListedSegment}
use Rattle.msr_report.proofs.Pieces.{six_pieces}

-- a space at the end is left out
unpadded_space : (name : List ℕ) → unpadded (name ++ 32 ∷ []) ≡ unpadded name
unpadded_space [] = refl
unpadded_space (b ∷ name) = ap (before_name b) (unpadded_space name)

before_more : (b : ℕ) (name : List ℕ) (c : ℕ) → before_name b (name ++ c ∷ []) ≡ b ∷ (name ++ c ∷ [])
before_more b [] c = refl
before_more b (d ∷ name) c = refl

-- and any other byte stays
unpadded_other : (name : List ℕ) (c : ℕ) → (c == 32) ≡ false → unpadded (name ++ c ∷ []) ≡ name ++ c ∷ []
unpadded_other [] c other = rw other refl
unpadded_other (b ∷ name) c other = ap (before_name b) (unpadded_other name c other) ∙ before_more b name c

take_at : (field : List ℕ) (i d : ℕ) → i < length field
    → take (suc i) field ≡ take i field ++ get_or field i d ∷ []
take_at [] i d within = absurd (omega arith)
take_at (b ∷ field) zero d within = refl
take_at (b ∷ field) (suc i) d within = ap (λ (first : List ℕ). b ∷ first) (take_at field i d (omega arith))

-- the same of the first bytes of a field
pub take_space : (field : List ℕ) (end d : ℕ) → 0 < end → end ≤ length field
    → get_or field (end - 1) d ≡ 32 → unpadded (take (end - 1) field) ≡ unpadded (take end field)
take_space field zero d some within space = absurd (omega arith)
take_space field (suc i) d some within space =
    let at : suc i - 1 ≡ i = omega arith in
    let last : get_or field i d ≡ 32 = rw at at space in
    rw at (sym (ap unpadded (take_at field i d (omega arith) ∙ ap (λ (c : ℕ). take i field ++ c ∷ []) last)
    ∙ unpadded_space (take i field)))

pub take_other : (field : List ℕ) (end d : ℕ) → 0 < end → end ≤ length field
    → (get_or field (end - 1) d ≡ 32 → ⊥) → unpadded (take end field) ≡ take end field
take_other field zero d some within other = absurd (omega arith)
take_other field (suc i) d some within other =
    let at : suc i - 1 ≡ i = omega arith in
    let last : get_or field i d ≡ 32 → ⊥ = rw at at other in
    rw (take_at field i d (omega arith))
    (unpadded_other (take i field) (get_or field i d) (ne_eqb (get_or field i d) 32 last))

-- the microseconds from an instant that is rounded to a start, as the code computes them
pub offset_back : (start next : ℤ) → FitsSigned w64 start → IsWithin (2 ^ 120) next
    → (let offset = to_z w128 (of_z w128 (to_z w64 (of_z w64 start))) -ℤ to_z w128 (of_z w128 next) in
    FitsSigned w128 offset × (to_z w128 (of_z w128 offset) ≡ start -ℤ next))
offset_back start next fits within =
    let wide : FitsSigned w128 start = omega (arith, signed_arith) in
    let far : FitsSigned w128 next = omega (arith, signed_arith) in
    let between : FitsSigned w128 (start -ℤ next) = omega (arith, signed_arith) in
    rw (to_z-of_z fits, to_z-of_z wide, to_z-of_z far) (between, to_z-of_z between)

-- bytes put down are a line, if memory is given
pub line_pushed : {A E : Type 0} (answer : Result A E) (new old text bytes : List ℕ) (IsLine : List ℕ → Type 0)
    → IsLine text → bytes ≡ text → new ≡ (if is_ok answer then old ++ bytes else old)
    → OnOk answer ((line : List ℕ) × (IsLine line × (new ≡ old ++ line)))
line_pushed (Ok done) new old text bytes IsLine is same pushed =
    (text, (is, pushed ∙ ap (λ (t : List ℕ). old ++ t) same))
line_pushed (Err why) new old text bytes IsLine is same pushed = tt

-- the members of a segment, put down one after another
pub object_put : (before : Option ListedSegment) (segment : ListedSegment) (last : ℤ)
    (start_text end_text began old one two three four five six : List ℕ)
    → IsRoundedNominal segment.key.rate segment.start (segment.count - 1) last
    → IsIsoText segment.start start_text → IsIsoText last end_text → IsBegan before segment began
    → one ≡ old ++ (codes "{" ++ name_json segment.key)
    → two ≡ one ++ (codes "," ++ times_json start_text end_text segment.count)
    → three ≡ two ++ (codes "," ++ settings_json segment.key)
    → four ≡ three ++ (codes "," ++ clock_json segment.key.correction segment.key.timing)
    → five ≡ four ++ (codes "," ++ began) → six ≡ five ++ codes "}\n"
    → (line : List ℕ) × (IsJsonLine before segment line × (six ≡ old ++ line))
object_put before segment last start_text end_text began old one two three four five six nominal start end is_began
    first second third fourth fifth sixth =
    let key = segment.key in
    let line : List ℕ = codes "{" ++ (name_json key ++ (codes "," ++ (times_json start_text end_text segment.count
    ++ (codes "," ++ (settings_json key ++ (codes "," ++ (clock_json key.correction key.timing
    ++ (codes "," ++ (began ++ codes "}\n"))))))))) in (
      line,
      (
        record {
          start_text = start_text;
          start = start;
          last = last;
          nominal = nominal;
          end_text = end_text;
          end = end;
          began = began;
          is_began = is_began;
          is = refl;
        },
        six_pieces old (codes "{" ++ name_json key) (codes "," ++ times_json start_text end_text segment.count)
            (codes "," ++ settings_json key) (codes "," ++ clock_json key.correction key.timing)
            (codes "," ++ began) (codes "}\n") one two three four five six first second third fourth fifth sixth,
      ),
    )
