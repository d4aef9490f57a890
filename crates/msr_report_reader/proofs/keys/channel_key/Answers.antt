use Rattle.std.proofs.Common.{◌≡◌, ◌≢◌, ◌∙◌, ap, sym, to_z-of_z, FitsSigned, ◌++◌, ◌∷◌, codes, decimal, refl, rules, List, ℕ, pos}
use Rattle.std.specs.Int.{w16, w32}
use Rattle.msr_time.specs.SampleRate.{SampleRate}
use Rattle.msr_rows.specs.declared.row.Key.{Key}
use Rattle.std.specs.Fmt.{signed_decimal}
use Rattle.msr_report_reader.specs.Fields.{name_then, rate_then, flags_then}
use Rattle.msr_report_reader.proofs.keys.channel_key.Goals as goal

-- what comes after the parts of a key
abbrev after_correction : Key → List ℕ → List ℕ
after_correction key rest = codes " timing " ++ (decimal key.timing ++ rest)

abbrev after_flags : Key → List ℕ → List ℕ
after_flags key rest = codes " correction " ++ (signed_decimal key.correction ++ after_correction key rest)

abbrev after_rate : Key → List ℕ → List ℕ
after_rate key rest = flags_then key.activity key.clock key.data_quality (after_flags key rest)

abbrev after_quality : Key → List ℕ → List ℕ
after_quality key rest = rate_then key.rate.factor key.rate.multiplier (after_rate key rest)

pub returns-in_default-rate-clause-only : goal.returns-in_default-rate-clause-only
returns-in_default-rate-clause-only c key rest is_key ends is =
    let name = c.in-Some.ensures.only key (after_quality key rest) is_key is in
    absurd (c.in_default-rate.ensures.only key (after_rate key rest) is_key refl name)

pub returns-in_default-new-clause-only : goal.returns-in_default-new-clause-only
returns-in_default-new-clause-only c key rest is_key ends is =
    let name = c.in-Some.ensures.only key (after_quality key rest) is_key is in
    let rate = c.in-Some-rate.ensures.only key (after_rate key rest) is_key refl name in
    let factor : c.in-Some-rate.factor ≢ pos 0 = λ zero. is_key.some_factor (sym rate.0 ∙ zero) in
    let multiplier : c.in-Some-rate.multiplier ≢ pos 0 = λ zero. is_key.some_multiplier (sym rate.1 ∙ zero) in
    let fits_factor : FitsSigned w16 c.in-Some-rate.factor = rw rate.0 is_key.factor in
    let fits_multiplier : FitsSigned w16 c.in-Some-rate.multiplier = rw rate.1 is_key.multiplier in
    absurd (c.in_default-new.ensures (
      λ zero. factor (sym (to_z-of_z fits_factor) ∙ zero),
      λ zero. multiplier (sym (to_z-of_z fits_multiplier) ∙ zero),
    ))

pub returns-in_default-flags-clause-only : goal.returns-in_default-flags-clause-only
returns-in_default-flags-clause-only c key rest is_key ends is =
    let name = c.in-Some.ensures.only key (after_quality key rest) is_key is in
    let rate = c.in-Some-rate.ensures.only key (after_rate key rest) is_key refl name in
    absurd (c.in_default-flags.ensures.only key (after_flags key rest) is_key rate.2)

pub returns-in_default-signed-clause-only : goal.returns-in_default-signed-clause-only
returns-in_default-signed-clause-only c key rest is_key ends is =
    let name = c.in-Some.ensures.only key (after_quality key rest) is_key is in
    let rate = c.in-Some-rate.ensures.only key (after_rate key rest) is_key refl name in
    let flags = c.in-Some-flags.ensures.only key (after_flags key rest) is_key rate.2 in
    absurd (c.in_default-signed.ensures.only key.correction (after_correction key rest) is_key.correction refl flags)

pub returns-in_default-timing-clause-only : goal.returns-in_default-timing-clause-only
returns-in_default-timing-clause-only c key rest is_key ends is =
    let name = c.in-Some.ensures.only key (after_quality key rest) is_key is in
    let rate = c.in-Some-rate.ensures.only key (after_rate key rest) is_key refl name in
    let flags = c.in-Some-flags.ensures.only key (after_flags key rest) is_key rate.2 in
    let correction = c.in-Some-signed.ensures.only key.correction (after_correction key rest) is_key.correction refl flags in
    absurd (c.in_default-timing.ensures.only key.timing rest is_key.timing ends correction.1)

pub returns-clause-only : goal.returns-clause-only
returns-clause-only c key rest is_key ends is =
    let name = c.in-Some.ensures.only key (after_quality key rest) is_key is in
    let rate = c.in-Some-rate.ensures.only key (after_rate key rest) is_key refl name in
    let flags = c.in-Some-flags.ensures.only key (after_flags key rest) is_key rate.2 in
    let correction = c.in-Some-signed.ensures.only key.correction (after_correction key rest) is_key.correction refl flags in
    let timing = c.in-Some-timing.ensures.only key.timing rest is_key.timing ends correction.1 in
    timing.1

pub returns-clause-found : goal.returns-clause-found
returns-clause-found c =
    let behind_correction = c.in-Some-signed.ensures.found
    ∙ ap (λ (l : List ℕ). codes " correction " ++
    (signed_decimal c.in-Some-signed.correction ++ l)) c.in-Some-timing.ensures.found in
    let behind_flags = c.in-Some-flags.ensures.found
    ∙ ap (flags_then c.in-Some-flags.activity c.in-Some-flags.clock c.in-Some-flags.data_quality)
    behind_correction in
    let behind_rate = c.in-Some-rate.ensures.found
    ∙ ap (rate_then c.in-Some-rate.factor c.in-Some-rate.multiplier) behind_flags in
    let behind_name = c.in-Some.ensures.found
    ∙ ap (λ (l : List ℕ). codes "segment "
    ++ name_then c.in-Some.name.network c.in-Some.name.station c.in-Some.name.location
    c.in-Some.name.channel (32 ∷ (c.in-Some.quality ∷ l))) behind_rate in
    let fits_factor : FitsSigned w16 c.in-Some-rate.factor = search rules in
    let fits_multiplier : FitsSigned w16 c.in-Some-rate.multiplier = search rules in
    let factor : c.in-Some-new.rate.factor ≡ c.in-Some-rate.factor =
    ap (λ (r : SampleRate). r.factor) c.in-Some-new.ensures.1 ∙ to_z-of_z fits_factor in
    let multiplier : c.in-Some-new.rate.multiplier ≡ c.in-Some-rate.multiplier =
    ap (λ (r : SampleRate). r.multiplier) c.in-Some-new.ensures.1 ∙ to_z-of_z fits_multiplier in
    let fits_correction : FitsSigned w32 c.in-Some-signed.correction = search rules in
    rw (factor, multiplier, to_z-of_z fits_correction) behind_name

pub returns-clause-is_key : goal.returns-clause-is_key
returns-clause-is_key c =
    let fits_factor : FitsSigned w16 c.in-Some-rate.factor = search rules in
    let fits_multiplier : FitsSigned w16 c.in-Some-rate.multiplier = search rules in
    let factor : c.in-Some-new.rate.factor ≡ c.in-Some-rate.factor =
    ap (λ (r : SampleRate). r.factor) c.in-Some-new.ensures.1 ∙ to_z-of_z fits_factor in
    let multiplier : c.in-Some-new.rate.multiplier ≡ c.in-Some-rate.multiplier =
    ap (λ (r : SampleRate). r.multiplier) c.in-Some-new.ensures.1 ∙ to_z-of_z fits_multiplier in
    let fits_correction : FitsSigned w32 c.in-Some-signed.correction = search rules in
    record {
      network = c.name_in_range.ensures.network;
      station = c.name_in_range.ensures.station;
      location = c.name_in_range.ensures.location;
      channel = c.name_in_range.ensures.channel;
      quality = c.in-Some.ensures.quality;
      factor = rw factor fits_factor;
      multiplier = rw multiplier fits_multiplier;
      some_factor = λ zero. c.in-Some-new.ensures.0.0 (to_z-of_z fits_factor ∙ sym factor ∙ zero);
      some_multiplier = λ zero. c.in-Some-new.ensures.0.1 (to_z-of_z fits_multiplier ∙ sym multiplier ∙ zero);
      activity = search rules;
      clock = search rules;
      data_quality = search rules;
      correction = rw (to_z-of_z fits_correction) fits_correction;
      timing = search rules;
    }
