-- The lines of the channels, one after another.
use Rattle.std.proofs.Common.{◌≡◌, ◌⊎◌, ◌≤◌, inl, inr, ℕ, Bool, zero, suc, ◌+◌, arith, List, [], ◌∷◌, ◌++◌, ◌∙◌, refl, ap, sym, append_assoc, length, map, take, drop, None, Some}
use Rattle.std.proofs.lemmas.List.{append-nil, length-map, take-append-drop, take_all, take_more}
use Rattle.std.proofs.lemmas.Option.{slice_get_cases, slice_get_within, get_or_from_slice_get}
use Rattle.std.proofs.lemmas.Slice.Zip.{length-zip}
use Rattle.std.proofs.lemmas.Grind.{flat_map-append}
use Rattle.std.specs.List.{flat_map, slice_get}
use Rattle.std.specs.Option.{option_map}
use Rattle.msr_devices.specs.Device.{Device, Takes}
use Rattle.msr_devices.proofs.Chaining.{takes_append}
use Rattle.msr_options.specs.declared.days.DayOptions.{DayOptions}
use Rattle.msr_report.specs.Writing.{TakesPrefix}
use Rattle.msr_outcomes.specs.Entries.{Entry, IsTally}
use Rattle.msr_folders.specs.declared.totals.Total.{Total}
use Rattle.msr_outcomes.specs.Summary.{summary_by, tally_lines, with_bytes}
use Rattle.msr_outcomes.specs.declared.tally.Tally.{Tally}

-- the lines up to a place, and the line at the place
pub lines_next : {X : Type 0} (line : X → List ℕ) (xs : List X) (i : ℕ) (x : X) → slice_get xs i ≡ Some x →
    flat_map line (take (i + 1) xs) ≡ flat_map line (take i xs) ++ line x
lines_next line xs i x h =
    ap (flat_map line) (take_more xs i x (slice_get_within xs i x h)
    ∙ ap (λ y. take i xs ++ y ∷ []) (get_or_from_slice_get xs i x x h))
    ∙ flat_map-append line (take i xs) (x ∷ [])
    ∙ ap (λ (t : List ℕ). flat_map line (take i xs) ++ t) (append-nil (line x))

-- the lines up to a place are a prefix of all
pub front_of : {X : Type 0} (line : X → List ℕ) (xs : List X) (i : ℕ) (old new : Device) →
    Takes old new (flat_map line (take i xs)) → TakesPrefix old new (flat_map line xs)
front_of line xs i old new takes = record {
  taken = flat_map line (take i xs);
  rest = flat_map line (drop i xs);
  takes = takes;
  whole = ap (flat_map line) (sym (take-append-drop i xs)) ∙ flat_map-append line (take i xs) (drop i xs);
}

-- with a prefix of the line at the place
pub front_in : {X : Type 0} (line : X → List ℕ) (xs : List X) (i n : ℕ) (x : X) (text : List ℕ)
    (old now new : Device) → slice_get xs i ≡ Some x →
    text ≡ line x → Takes old now (flat_map line (take i xs)) → Takes now new (take n text)
    → TakesPrefix old new (flat_map line xs)
front_in line xs i n x text old now new h is before piece = record {
  taken = flat_map line (take i xs) ++ take n text;
  rest = drop n text ++ flat_map line (drop (i + 1) xs);
  takes = takes_append old now new (flat_map line (take i xs)) (take n text) before piece;
  whole =
      ap (flat_map line) (sym (take-append-drop (i + 1) xs))
      ∙ flat_map-append line (take (i + 1) xs) (drop (i + 1) xs)
      ∙ ap (λ (t : List ℕ). t ++ flat_map line (drop (i + 1) xs))
      (lines_next line xs i x h ∙ ap (λ (t : List ℕ). flat_map line (take i xs) ++ t)
      (sym is ∙ sym (take-append-drop n text)) ∙ sym
      (append_assoc (flat_map line (take i xs)) (take n text) (drop n text)))
      ∙ append_assoc (flat_map line (take i xs) ++ take n text) (drop n text) (flat_map line (drop (i + 1) xs));
}

-- a prefix of what comes first
pub front_before : (old new : Device) (first second : List ℕ) → TakesPrefix old new first
    → TakesPrefix old new (first ++ second)
front_before old new first second front = record {
  taken = front.taken;
  rest = front.rest ++ second;
  takes = front.takes;
  whole = ap (λ (t : List ℕ). t ++ second) front.whole ∙ append_assoc front.taken front.rest second;
}

-- all that comes first, and a prefix of the rest
pub front_after : (old now new : Device) (first second : List ℕ) (n : ℕ) → Takes old now first
    → Takes now new (take n second) → TakesPrefix old new (first ++ second)
front_after old now new first second n before piece = record {
  taken = first ++ take n second;
  rest = drop n second;
  takes = takes_append old now new first (take n second) before piece;
  whole = ap (λ (t : List ℕ). first ++ t) (sym (take-append-drop n second))
      ∙ sym (append_assoc first (take n second) (drop n second));
}

pub front_all : (old new : Device) (first second : List ℕ) → Takes old new first → TakesPrefix old new (first ++ second)
front_all old new first second before = record { taken = first; rest = second; takes = before; whole = refl }

-- the last lines, from the counts and totals of the entries
pub summary_is : (days : DayOptions) (known : Bool) (entries : List Entry) (tally : Tally) → IsTally entries tally →
    tally_lines days known tally ≡ summary_by days known entries
summary_is days known entries tally h =
    rw (h.channels, h.bytes, h.done, h.skipped, h.refused, h.known, h.larger, h.young, h.bytes_read, h.bytes_written, h.unopened) refl

-- a channel's totals with those of its bytes, which stand at the same place
pub channel_at : (totals bytes : List (List ℕ × Total)) (place : ℕ) (one : List ℕ × Total) (size : Total) →
    slice_get totals place ≡ Some one → option_map (λ total. total.1) (slice_get bytes place) ≡ Some size →
    slice_get (with_bytes totals bytes) place ≡ Some (one, size)
channel_at [] bytes place one size first second = absurd cc
channel_at (t ∷ totals) [] place one size first second = absurd cc
channel_at (t ∷ totals) (b ∷ bytes) zero one size first second = cc
channel_at (t ∷ totals) (b ∷ bytes) (suc place) one size first second =
    channel_at totals bytes place one size first second

past_last : {X : Type 0} (xs : List X) (place : ℕ) → slice_get xs place ≡ None → length xs ≤ place
past_last xs place none = elim (slice_get_cases xs place).1 [
  | inl found ↦ absurd cc
  | inr past ↦ past.0
]

-- past the last channel, or the last of bytes, there is none with both
pub channels_end : (totals bytes : List (List ℕ × Total)) (place : ℕ) →
    (slice_get totals place ≡ None) ⊎ (slice_get bytes place ≡ None) →
    take place (with_bytes totals bytes) ≡ with_bytes totals bytes
channels_end totals bytes place none =
    let size : List ℕ × Total → Total = λ total. total.1 in
    let count = length-zip totals (map size bytes) in
    let sizes = length-map bytes size in
    take_all place (with_bytes totals bytes) (elim none [
      | inl first ↦ omega (arith, count, sizes, past_last totals place first)
      | inr second ↦ omega (arith, count, sizes, past_last bytes place second)
    ])
