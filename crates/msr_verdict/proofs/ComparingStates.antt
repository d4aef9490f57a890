-- What is known of the comparing so far, and how a record more changes it.
use Rattle.std.proofs.Common.{◌≡◌, ◌↔◌, ℤ, inl, inr, ℕ, zero, suc, true, false, List, [], ◌∷◌, ◌++◌, length, refl, sym, ap, subst, ◌∙◌, arith, append_assoc, length-append, Option, Some, None, All}
use Rattle.std.specs.Prelude.{slice_get, is_some, Bool, IsSome, MatchOption}
use Rattle.std.specs.Option.{option_to_list}
use Rattle.std.proofs.lemmas.Bool.{both_ways, cases_Bool}
use Rattle.std.proofs.lemmas.List.{append-nil}
use Rattle.msr_base.specs.declared.forms.Form.{Form}
use Rattle.msr_base.specs.Lengths.{bytes_of}
use Rattle.msr_words.specs.Fit.{Records, records_of}
use Rattle.msr_words.specs.declared.kinds.Run.{Run}
use Rattle.msr_check.specs.Judged.{Judged, Judges}
use Rattle.msr_rows.specs.declared.row.Row.{Row}
use Rattle.msr_rows.specs.declared.row.Record.{Record}
use Rattle.msr_segments.specs.declared.follow.Step.{Step}
use Rattle.msr_segments.specs.declared.follow.Step.TheVariants.{Begins, Joins}
use Rattle.msr_segments.specs.Spans.{Following}
use Rattle.msr_segments.specs.Segments.{Part, rows_of, segment_of}
use Rattle.msr_report.specs.declared.report.SegmentLine.{SegmentLine}
use Rattle.msr_input.specs.Input.{rows_of_records}
use Rattle.msr_input.specs.Rows.{StepsTo, row_told}
use Rattle.msr_input.specs.declared.row_reader.NextRecord.{NextRecord}
use Rattle.msr_input.specs.declared.row_reader.NextRow.{NextRow}
use Rattle.msr_input.proofs.Records.{rows_snoc}
use Rattle.msr_verdict.specs.Packed.{IsFull, AreShownBy, runs_of_part, runs_of_rows}
use Rattle.msr_verdict.specs.Compared.{Compared, HasFullRow, IsLineAt, IsShownAt, ComparesSegment, ComparesEnded, EndsBy, AddsRow, TakesRecord, separators_at}
use Rattle.msr_verdict.specs.Agreements.{Agreeing, Disagreeing, Follows, MayGoOn, HasLine, HasParts, IsCompared, open_rows, samples_of_rows}
use Rattle.msr_verdict.proofs.Lines.{shown_snoc, shown_next, get_after, after_get}
use Rattle.msr_verdict.proofs.Runs.{runs_grown, samples_grown}
use Rattle.msr_verdict.proofs.Parts.{part_with, parts_after, last_before, parts_with, last_with, parts_none, parts_more}

-- before the first record
pub record IsNew (c : Compared) : Type 0 where
  pub place : c.place ≡ 0
  pub is_open : c.is_open ≡ false
  pub judged : (records : Records) (separators : List ℕ) → Judges records [] [] separators c.judged
  pub agrees : c.agrees ≡ true

pub compared_none : (form : Form) (lines : List SegmentLine) (c : Compared) → IsNew c
    → IsCompared form lines [] [] None c
compared_none form lines c is = record {
  agrees = λ t. record {
    full = λ k d h. absurd (omega arith);
    done = [];
    left = lines;
    whole = refl;
    place = is.place;
    shown = tt;
    is_open = is.is_open;
    has_line = tt;
    judged = is.judged (records_of form) (separators_at lines c.place);
  };
  differs = λ f. absurd (both_ways c.agrees f is.agrees);
}

-- the open segment agrees with its line
segment_agrees : (form : Form) (lines : List SegmentLine) (records : List Record) (parts : List Part) (part : Part)
    (old new : Compared) → Agreeing form lines records parts (Some part) old
    → ComparesSegment form lines old new
    → IsShownAt form lines old.place (segment_of part) (runs_of_part part) → new.agrees ≡ true
    → Agreeing form lines records (parts ++ part ∷ []) None new
segment_agrees form lines records parts part old new a k at t =
    let found : slice_get (a.done ++ a.left) (length a.done) ≡ Some at.line =
    subst (λ (n : ℕ). slice_get (a.done ++ a.left) n ≡ Some at.line) a.place
    (subst (λ (l : List SegmentLine). slice_get l old.place ≡ Some at.line) a.whole at.at_place) in
    let later = after_get a.done a.left at.line found in
    record {
      full = a.full;
      done = a.done ++ at.line ∷ [];
      left = later.0;
      whole = a.whole ∙ ap (λ (l : List SegmentLine). a.done ++ l) later.1
          ∙ sym (append_assoc a.done (at.line ∷ []) later.0);
      place = omega (arith, k.place t, a.place, length-append a.done (at.line ∷ []));
      shown = shown_snoc form parts a.done part at.line a.shown at.shown;
      is_open = k.closed;
      has_line = tt;
      judged = k.judged (separators_at lines new.place);
    }

-- after the ended parts, a part is shown by the line at the place reached
next_shown : (form : Form) (lines : List SegmentLine) (records : List Record) (parts rest : List Part)
    (last : Option Part) (part : Part) (c : Compared) → Agreeing form lines records parts last c
    → AreShownBy form (parts ++ part ∷ rest) lines
    → IsShownAt form lines c.place (segment_of part) (runs_of_part part)
next_shown form lines records parts rest last part c a are =
    let are' : AreShownBy form (parts ++ part ∷ rest) (a.done ++ a.left) =
    subst (λ (l : List SegmentLine). AreShownBy form (parts ++ part ∷ rest) l) a.whole are in
    let next = shown_next form parts rest a.done a.left part a.shown are' in
    let whole : lines ≡ a.done ++ next.0 ∷ next.1 = a.whole ∙ ap (λ (l : List SegmentLine). a.done ++ l) next.2 in
    record {
      line = next.0;
      at_place = ap (λ (l : List SegmentLine). slice_get l c.place) whole
          ∙ ap (λ (n : ℕ). slice_get (a.done ++ next.0 ∷ next.1) n) a.place ∙ get_after a.done next.1 next.0;
      shown = next.3;
    }

-- or else the parts so far are not shown
segment_differs : (form : Form) (lines : List SegmentLine) (records : List Record) (parts : List Part) (part : Part)
    (old new : Compared) → Agreeing form lines records parts (Some part) old
    → (new.agrees ≡ true) ↔ IsShownAt form lines old.place (segment_of part) (runs_of_part part) → new.agrees ≡ false
    → Disagreeing form lines records (parts ++ part ∷ []) None
segment_differs form lines records parts part old new a exact f = record {
  none = λ more rest all goes are.
      let are' : AreShownBy form (parts ++ part ∷ rest) lines =
      subst (λ (ps : List Part). AreShownBy form ps lines) (append_assoc parts (part ∷ []) rest) are in
      both_ways new.agrees f (exact.1 (next_shown form lines records parts rest (Some part) part old a are'));
}

goes_on : (last : Option Part) (rest : List Part) → MayGoOn last (option_to_list last ++ rest)
goes_on None rest = tt
goes_on (Some part) rest = record { first = part; others = rest; rest_is = refl; key = refl; start = refl }

still_differs : (form : Form) (lines : List SegmentLine) (records : List Record) (parts : List Part)
    (last : Option Part) → Disagreeing form lines records parts last
    → Disagreeing form lines records (parts ++ option_to_list last) None
still_differs form lines records parts last d = record {
  none = λ others rest all goes are. d.none others (option_to_list last ++ rest) all (goes_on last rest)
      (subst (λ (ps : List Part). AreShownBy form ps lines) (append_assoc parts (option_to_list last) rest) are);
}

segment_compared : (form : Form) (lines : List SegmentLine) (records : List Record) (parts : List Part) (part : Part)
    (old new : Compared) → Agreeing form lines records parts (Some part) old → old.agrees ≡ true
    → ComparesSegment form lines old new
    → IsCompared form lines records (parts ++ part ∷ []) None new
unfolding segment_of
segment_compared form lines records parts part old new a was k =
    let exact : (new.agrees ≡ true) ↔ IsShownAt form lines old.place (segment_of part) (runs_of_part part) =
    k.agrees was (segment_of part) (runs_of_part part) a.has_line a.judged in
    record {
      agrees = λ t. segment_agrees form lines records parts part old new a k (exact.0 t) t;
      differs = λ f. segment_differs form lines records parts part old new a exact f;
    }

-- the open part, if there is one, ends while all agree
last_compared : (form : Form) (lines : List SegmentLine) (records : List Record) (parts : List Part)
    (last : Option Part) (old new : Compared) → Agreeing form lines records parts last old → old.agrees ≡ true
    → IsCompared form lines records parts last old → ComparesEnded form lines (is_some last) old new
    → IsCompared form lines records (parts ++ option_to_list last) None new
last_compared form lines records parts None old new a was h k =
    subst (λ (ps : List Part). IsCompared form lines records ps None new) (sym (append-nil parts))
    (subst (λ (c : Compared). IsCompared form lines records parts None c) (sym k) h)
last_compared form lines records parts (Some part) old new a was h k =
    segment_compared form lines records parts part old new a was k

ended_differs : (form : Form) (lines : List SegmentLine) (is_open : Bool) (old new : Compared)
    → ComparesEnded form lines is_open old new → old.agrees ≡ false → new.agrees ≡ false
ended_differs form lines false old new k f = ap (λ (c : Compared). c.agrees) k ∙ f
ended_differs form lines true old new k f = k.differs f

pub compare_last : (form : Form) (lines : List SegmentLine) (records : List Record) (parts : List Part)
    (last : Option Part) (old new : Compared) → IsCompared form lines records parts last old
    → ComparesEnded form lines old.is_open old new
    → IsCompared form lines records (parts ++ option_to_list last) None new
compare_last form lines records parts last old new h k = elim (cases_Bool old.agrees) [
  | inl was ↦
      let a = h.agrees was in
      last_compared form lines records parts last old new a was h
      (subst (λ (is_open : Bool). ComparesEnded form lines is_open old new) a.is_open k)
  | inr was ↦
      let differs = ended_differs form lines old.is_open old new k was in
      record {
        agrees = λ t. absurd (both_ways new.agrees differs t);
        differs = λ f. still_differs form lines records parts last (h.differs was);
      }
]

-- what ends by a row
compare_before : (form : Form) (lines : List SegmentLine) (records : List Record) (parts : List Part)
    (last : Option Part) (answer : Step) (old new : Compared) → IsCompared form lines records parts last old
    → EndsBy form lines answer old new
    → IsCompared form lines records (parts_after answer parts last) (last_before answer last) new
compare_before form lines records parts last Begins old new h k =
    compare_last form lines records parts last old new h k
compare_before form lines records parts last Joins old new h k =
    subst (λ (c : Compared). IsCompared form lines records parts last c) (sym k) h

all_snoc : {X : Type 0} (P : X → Type 0) (xs : List X) (x : X) → All P xs → P x → All P (xs ++ x ∷ [])
all_snoc P [] x all p zero d h = p
all_snoc P [] x all p (suc k) d h = absurd (omega arith)
all_snoc P (y ∷ xs) x all p zero d h = all 0 y (omega arith)
all_snoc P (y ∷ xs) x all p (suc k) d h = all_snoc P xs x (λ i e g. all (suc i) e (omega arith)) p k d (omega arith)

all_within : {X : Type 0} (P : X → Type 0) (xs ys : List X) (x : X) → All P ((xs ++ x ∷ []) ++ ys) → P x
all_within P [] ys x all = all 0 x (omega arith)
all_within P (y ∷ xs) ys x all = all_within P xs ys x (λ i e g. all (suc i) e (omega arith))

-- the next line is of the open part with a row more
line_grown : (form : Form) (lines : List SegmentLine) (records : List Record) (parts : List Part) (last : Option Part)
    (row : Row) (old : Compared) → Agreeing form lines records parts last old
    → (old.is_open ≡ false → IsLineAt lines old.place row.key row.start)
    → HasLine lines old.place (Some (part_with last row))
line_grown form lines records parts None row old a is = is a.is_open
line_grown form lines records parts (Some part) row old a is = a.has_line

row_agrees : (form : Form) (lines : List SegmentLine) (records : List Record) (parts : List Part) (last : Option Part)
    (found : Record) (row : Row) (old new : Compared) → IsCompared form lines records parts last old
    → IsFull (bytes_of form.length) found → AddsRow form lines old row new → new.agrees ≡ true
    → Agreeing form lines (records ++ found ∷ []) parts (Some (part_with last row)) new
row_agrees form lines records parts last found row old new h full k t =
    let t' : k.before.agrees ≡ true = sym k.agrees ∙ t in
    let was = k.opens.agrees.0 t' in
    let a = h.agrees was.0 in
    let place : new.place ≡ old.place = k.place ∙ k.opens.place in
    let before : Judges (records_of form) (samples_of_rows (open_rows last)) (runs_of_rows 0 (open_rows last))
    (separators_at lines k.before.place) k.before.judged =
    subst (λ (n : ℕ). Judges (records_of form) (samples_of_rows (open_rows last)) (runs_of_rows 0 (open_rows last))
    (separators_at lines n) k.before.judged) (sym k.opens.place)
    (subst (λ (j : Judged). Judges (records_of form) (samples_of_rows (open_rows last)) (runs_of_rows 0 (open_rows last))
    (separators_at lines old.place) j) (sym k.opens.judged) a.judged) in
    let judged = k.judged t' (samples_of_rows (open_rows last)) (runs_of_rows 0 (open_rows last)) before in
    record {
      full = all_snoc (IsFull (bytes_of form.length)) records found a.full full;
      done = a.done;
      left = a.left;
      whole = a.whole;
      place = place ∙ a.place;
      shown = a.shown;
      is_open = k.opened ∙ k.opens.opened;
      has_line = subst (λ (n : ℕ). HasLine lines n (Some (part_with last row))) (sym place)
          (line_grown form lines records parts last row old a was.1);
      judged = subst (λ (n : ℕ). Judges (records_of form) (samples_of_rows (rows_of (part_with last row)))
          (runs_of_rows 0 (rows_of (part_with last row))) (separators_at lines n) new.judged) (sym k.place)
          (subst (λ (xs : List ℤ). Judges (records_of form) xs (runs_of_rows 0 (rows_of (part_with last row)))
          (separators_at lines k.before.place) new.judged) (samples_grown last row)
          (subst (λ (rs : List Run). Judges (records_of form) (samples_of_rows (open_rows last) ++ row.samples) rs
          (separators_at lines k.before.place) new.judged) (runs_grown last row) judged));
    }

-- what goes on with a row more goes on without it
goes_before : (last : Option Part) (row : Row) (rest : List Part) → MayGoOn (Some (part_with last row)) rest
    → MayGoOn last rest
goes_before None row rest goes = tt
goes_before (Some part) row rest goes =
    record { first = goes.first; others = goes.others; rest_is = goes.rest_is; key = goes.key; start = goes.start }

-- if a segment that goes on from the row is shown, the line at its place is of it
line_shown : (form : Form) (lines : List SegmentLine) (records : List Record) (parts rest : List Part)
    (last : Option Part) (row : Row) (old : Compared) → Agreeing form lines records parts last old
    → MayGoOn (Some (part_with last row)) rest → AreShownBy form (parts ++ rest) lines
    → old.is_open ≡ false → IsLineAt lines old.place row.key row.start
unfolding segment_of
line_shown form lines records parts rest None row old a goes are f =
    let are' : AreShownBy form (parts ++ goes.first ∷ goes.others) lines =
    subst (λ (ps : List Part). AreShownBy form (parts ++ ps) lines) goes.rest_is are in
    let at = next_shown form lines records parts goes.others None goes.first old a are' in
    record {
      line = at.line;
      at_place = at.at_place;
      key = at.shown.key ∙ goes.key;
      start = at.shown.start ∙ goes.start;
      records = at.shown.records ∙ at.shown.as_many;
    }
line_shown form lines records parts rest (Some part) row old a goes are f =
    absurd (both_ways old.is_open f a.is_open)

row_differs : (form : Form) (lines : List SegmentLine) (records : List Record) (parts : List Part) (last : Option Part)
    (found : Record) (row : Row) (old new : Compared) → IsCompared form lines records parts last old
    → AddsRow form lines old row new → new.agrees ≡ false
    → Disagreeing form lines (records ++ found ∷ []) parts (Some (part_with last row))
row_differs form lines records parts last found row old new h k f = elim (cases_Bool old.agrees) [
  | inl was ↦ record {
    none = λ more rest all goes are.
        let is = line_shown form lines records parts rest last row old (h.agrees was) goes are in
        both_ways k.before.agrees (sym k.agrees ∙ f) (k.opens.agrees.1 (was, is));
  }
  | inr was ↦
      let d = h.differs was in
      record {
        none = λ more rest all goes are. d.none (found ∷ more) rest
            (subst (λ (rs : List Record). All (IsFull (bytes_of form.length)) rs)
            (append_assoc records (found ∷ []) more) all) (goes_before last row rest goes) are;
      }
]

-- the row of a full record is added
add_row : (form : Form) (lines : List SegmentLine) (records : List Record) (parts : List Part) (last : Option Part)
    (found : Record) (row : Row) (old new : Compared) → IsCompared form lines records parts last old
    → IsFull (bytes_of form.length) found → AddsRow form lines old row new
    → IsCompared form lines (records ++ found ∷ []) parts (Some (part_with last row)) new
add_row form lines records parts last found row old new h full k = record {
  agrees = row_agrees form lines records parts last found row old new h full k;
  differs = row_differs form lines records parts last found row old new h k;
}

-- a record that is not full agrees with no report
add_none : (form : Form) (lines : List SegmentLine) (records : List Record) (parts : List Part) (last : Option Part)
    (found : Record) (new : Compared) → (IsFull (bytes_of form.length) found → ⊥) → new.agrees ≡ false
    → IsCompared form lines (records ++ found ∷ []) parts last new
add_none form lines records parts last found new other f = record {
  agrees = λ t. absurd (both_ways new.agrees f t);
  differs = λ _. record {
    none = λ more rest all goes are. other (all_within (IsFull (bytes_of form.length)) records more found all);
  };
}

-- the record that was read has the length and the row that are told of it
full_found : (form : Form) (found : Record) (next : NextRecord) (row : NextRow) → next.length ≡ found.length
    → row_told next.row ≡ found.row → HasFullRow (bytes_of form.length) next row → IsFull (bytes_of form.length) found
full_found form found next row length_is row_is is = record {
  length_is = sym length_is ∙ is.length_is;
  some = subst (λ (r : Option Row). IsSome r) (sym (ap row_told is.row_is) ∙ row_is) refl;
}

some_told : (told : Option NextRow) (row : Option Row) → row_told told ≡ row → IsSome row
    → (next : NextRow) × (told ≡ Some next)
some_told None None e some = absurd cc
some_told None (Some row) e some = absurd cc
some_told (Some next) row e some = (next, refl)

not_full : (form : Form) (found : Record) (next : NextRecord) → next.length ≡ found.length
    → row_told next.row ≡ found.row → ((row : NextRow) → HasFullRow (bytes_of form.length) next row → ⊥)
    → IsFull (bytes_of form.length) found → ⊥
not_full form found next length_is row_is other full =
    let row = some_told next.row found.row row_is full.some in
    other row.0 (record { length_is = length_is ∙ full.length_is; row_is = row.1 })

pub follows_none : (form : Form) (lines : List SegmentLine) (following : Following) (c : Compared)
    → following.current ≡ None → IsNew c → Follows form lines following [] c
follows_none form lines following c current is = record {
  parts = [];
  last = None;
  has_parts = parts_none following current;
  compared = compared_none form lines c is;
}

-- how far they were compared with a record more
compare_more : (form : Form) (lines : List SegmentLine) (records : List Record) (parts : List Part)
    (last : Option Part) (found : Record) (next : NextRecord) (row : Option NextRow) (before after : Compared)
    → IsCompared form lines records parts last before → next.length ≡ found.length
    → row_told next.row ≡ found.row
    → MatchOption row ((told : NextRow) → HasFullRow (bytes_of form.length) next told → ⊥)
    (HasFullRow (bytes_of form.length) next)
    → TakesRecord form lines before row after
    → IsCompared form lines (records ++ found ∷ []) (parts_with next.row parts last) (last_with next.row last) after
compare_more form lines records parts last found next None before after h length_is row_is other takes =
    add_none form lines records (parts_with next.row parts last) (last_with next.row last) found after
    (not_full form found next length_is row_is other) takes
compare_more form lines records parts last found next (Some row) before after h length_is row_is is takes =
    let ended = compare_before form lines records parts last row.step before takes.ended h takes.ends in
    let added = add_row form lines records (parts_after row.step parts last) (last_before row.step last) found row.row
    takes.ended after ended (full_found form found next row length_is row_is is) takes.adds in
    subst (λ (told : Option NextRow). IsCompared form lines (records ++ found ∷ [])
    (parts_with told parts last) (last_with told last) after) (sym is.row_is) added

pub follows_step : (form : Form) (lines : List SegmentLine) (old new : Following) (records : List Record)
    (found : Record) (next : NextRecord) (row : Option NextRow) (before after : Compared)
    → Follows form lines old records before → next.length ≡ found.length → row_told next.row ≡ found.row
    → StepsTo old next.row new
    → MatchOption row ((told : NextRow) → HasFullRow (bytes_of form.length) next told → ⊥)
    (HasFullRow (bytes_of form.length) next)
    → TakesRecord form lines before row after → Follows form lines new (records ++ found ∷ []) after
follows_step form lines old new records found next row before after h length_is row_is step is takes =
    let rows : rows_of_records records ++ option_to_list (row_told next.row)
    ≡ rows_of_records (records ++ found ∷ []) =
    ap (λ (r : Option Row). rows_of_records records ++ option_to_list r) row_is ∙ sym (rows_snoc records found) in
    record {
      parts = parts_with next.row h.parts h.last;
      last = last_with next.row h.last;
      has_parts = subst (λ (all : List Row). HasParts new all (parts_with next.row h.parts h.last)
          (last_with next.row h.last)) rows
          (parts_more old new (rows_of_records records) h.parts h.last next.row h.has_parts step);
      compared = compare_more form lines records h.parts h.last found next row before after h.compared length_is row_is
          is takes;
    }
