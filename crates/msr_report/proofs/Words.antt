-- How the words of a line are written: instants and the two lines of a segment.
use Rattle.std.proofs.Common.{◌≡◌, ℕ, ◌++◌, ◌∷◌, ◌∙◌, [], List, arith, ap, append_assoc, decimal, flat_map, refl, codes, take, ℤ, w64, to_z, of_z}
use Rattle.std.proofs.lemmas.Int.{ints}
use Rattle.msr_time.specs.Instant.{IsInstant}
use Rattle.msr_rows.specs.declared.row.Key.{Key}
use Rattle.msr_report.specs.Text.{IsTimeText, segment_words, settings_text, words_after_quality, segment_line, separators_line, IsSegmentText}
use Rattle.msr_report.specs.declared.report.SegmentLine.{SegmentLine}
use Rattle.msr_report.proofs.Pieces.{six_pieces}

-- an instant fits 64 bits
pub instant_back : (t : ℤ) → IsInstant t → to_z w64 (of_z w64 t) ≡ t
instant_back t h = omega (arith, ints)

-- the two lines of a segment, put down one after the other
pub two_lines : (line : SegmentLine) (time start more old between new separators : List ℕ)
    → IsTimeText line.start time → start ≡ time
    → more ≡ codes " records " ++ (decimal line.records ++ 10 ∷ [])
    → between ≡ old ++ segment_words line.key start line.samples more
    → separators ≡ line.separators.items → new ≡ between ++ separators_line separators
    → (text : List ℕ) × (IsSegmentText line text × (new ≡ old ++ text))
two_lines line time start more old between new separators is_time same rest first are second =
    let head : between ≡ old ++ segment_line line time = first
    ∙ ap (λ (s : List ℕ). old ++ segment_words line.key s line.samples more) same
    ∙ ap (λ (s : List ℕ). old ++ segment_words line.key time line.samples s) rest in (
      segment_line line time ++ separators_line line.separators.items,
      (
        record { start_text = time; time = is_time; is = refl },
        second ∙ ap (λ (t : List ℕ). t ++ separators_line separators) head
            ∙ append_assoc old (segment_line line time) (separators_line separators)
            ∙ ap (λ (s : List ℕ). old ++ (segment_line line time ++ separators_line s)) are,
      ),
    )

-- the numbers of all separators, and the end of their line
pub separators_end : (old separators numbers new : List ℕ) (i : ℕ) → take i separators ≡ separators
    → numbers ≡ (old ++ codes "separators") ++ flat_map (λ n. 32 ∷ decimal n) (take i separators)
    → new ≡ numbers ++ 10 ∷ [] → new ≡ old ++ separators_line separators
separators_end old separators numbers new i all are end =
    let told : List ℕ = flat_map (λ n. 32 ∷ decimal n) separators in
    end ∙ ap (λ (t : List ℕ). t ++ 10 ∷ []) (are
    ∙ ap (λ (s : List ℕ). (old ++ codes "separators") ++ flat_map (λ n. 32 ∷ decimal n) s) all)
    ∙ append_assoc (old ++ codes "separators") told (10 ∷ []) ∙ append_assoc old (codes "separators") (told ++ 10 ∷ [])

-- the words after the quality, put down one after another
pub words_put : (key : Key) (start : List ℕ) (samples : ℕ) (more made first second third fourth fifth whole : List ℕ)
    → made ≡ [] → first ≡ made ++ (32 ∷ settings_text key) → second ≡ first ++ codes " start "
    → third ≡ second ++ start → fourth ≡ third ++ codes " samples " → fifth ≡ fourth ++ decimal samples
    → whole ≡ fifth ++ more → whole ≡ words_after_quality key start samples more
words_put key start samples more made first second third fourth fifth whole none is_first is_second is_third is_fourth
    is_fifth is_whole =
    six_pieces [] (32 ∷ settings_text key) (codes " start ") start (codes " samples ") (decimal samples) more first
    second third fourth fifth whole (is_first ∙ ap (λ (t : List ℕ). t ++ (32 ∷ settings_text key)) none) is_second
    is_third is_fourth is_fifth is_whole
