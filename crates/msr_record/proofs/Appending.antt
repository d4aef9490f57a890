-- Records one after another.
use Rattle.std.proofs.Common.{◌≡◌, ℕ, List, [], ◌∷◌, ◌++◌, ◌∙◌, refl, sym, ap, append_assoc, append-nil}
use Rattle.std.specs.List.{flat_map}
use Rattle.std.proofs.lemmas.List.{map-append}
use Rattle.std.proofs.lemmas.Grind.{flat_map-append}
use Rattle.msr_words.specs.declared.kinds.Run.{Run}
use Rattle.msr_rows.specs.declared.row.Row.{Row}
use Rattle.msr_segments.specs.declared.joiner.Segment.{Segment}
use Rattle.msr_record.specs.Output.{Packed, Cut, AreWritten, next_number, number_after, cuts_at, cuts_of}
use Rattle.msr_record.specs.Writing.{AppendsRecordOfRun, AppendsRecords}

pub number_after-append : (n : ℕ) (xs ys : List Cut) → number_after n (xs ++ ys) ≡ number_after (number_after n xs) ys
number_after-append n [] ys = refl
number_after-append n (x ∷ xs) ys = number_after-append (next_number n) xs ys

pub written_append : (size n : ℕ) (xs ys : List Cut) (rows more : List Row) (bytes text : List ℕ)
    → AreWritten size n xs rows bytes → AreWritten size (number_after n xs) ys more text
    → AreWritten size n (xs ++ ys) (rows ++ more) (bytes ++ text)
written_append size n [] ys rows more bytes text first second = rw (first.0, first.1) second
written_append size n (x ∷ xs) ys rows more bytes text first second =
    let w = first.2 in (
      first.0 ++ more,
      first.1 ++ text,
      record {
        row = w.row;
        first = w.first;
        is_record = w.is_record;
        all_rows = ap (λ (l : List Row). l ++ more) w.all_rows;
        all_bytes = ap (λ (l : List ℕ). l ++ text) w.all_bytes ∙ append_assoc w.first first.1 text;
      },
      written_append size (next_number n) xs ys first.0 more first.1 text first.3 second,
    )

-- nothing was appended yet
pub appends_nothing : (size n : ℕ) (old : List ℕ) → AppendsRecords size n [] old old n
appends_nothing size n old = record {
  rows = [];
  bytes = [];
  joined = sym (append-nil old);
  written = (refl, refl);
  after = refl;
}

-- one more record
pub appends_more : (size first number : ℕ) (segment : Segment) (runs : List Run) (run : Run) (old mid new : List ℕ)
    → AppendsRecords size first (cuts_at segment runs) old mid number
    → AppendsRecordOfRun size number segment run mid new
    → AppendsRecords size first (cuts_at segment (runs ++ run ∷ [])) old new (next_number number)
appends_more size first number segment runs run old mid new so_far one =
    let cut : Cut = record { segment = segment; run = run } in
    let cuts : cuts_at segment (runs ++ run ∷ []) ≡ cuts_at segment runs ++ cut ∷ [] =
    map-append (λ (r : Run). record { segment = segment; run = r }) runs (run ∷ []) in
    let last : AreWritten size number (cut ∷ []) (one.row ∷ []) one.bytes = (
      [],
      [],
      record {
        row = one.row;
        first = one.bytes;
        is_record = one.is_record;
        all_rows = refl;
        all_bytes = sym (append-nil one.bytes);
      },
      (refl, refl),
    ) in
    let written = written_append size first (cuts_at segment runs) (cut ∷ []) so_far.rows
    (one.row ∷ []) so_far.bytes one.bytes so_far.written (rw (← so_far.after) last) in
    record {
      rows = so_far.rows ++ one.row ∷ [];
      bytes = so_far.bytes ++ one.bytes;
      joined = one.joined ∙ ap (λ (l : List ℕ). l ++ one.bytes) so_far.joined ∙ append_assoc old so_far.bytes one.bytes;
      written = rw cuts written;
      after = rw cuts (ap next_number so_far.after ∙ sym (number_after-append first (cuts_at segment runs) (cut ∷ [])));
    }

pub cuts_further : (packed : List Packed) (one : Packed)
    → flat_map cuts_of (packed ++ one ∷ []) ≡ flat_map cuts_of packed ++ cuts_of one
cuts_further packed one = flat_map-append cuts_of packed (one ∷ [])
    ∙ ap (λ (l : List Cut). flat_map cuts_of packed ++ l) (append-nil (cuts_of one))
