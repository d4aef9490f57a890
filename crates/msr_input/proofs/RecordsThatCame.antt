-- The records that came from a source, step by step, and why no further one comes.
use Rattle.std.proofs.Common.{◌≡◌, ◌≢◌, ℕ, ◌+◌, ◌^◌, ◌<◌, ◌≤◌, ◌-◌, ◌⊎◌, inl, inr, Bool, true, false, List, [], ◌∷◌, ◌++◌, length, drop, refl, sym, ap, subst, ◌∙◌, arith, append_assoc, length-append, length-drop, Option, Result, Ok, Err, IfErr, MatchResult}
use Rattle.std.proofs.lemmas.Bool.{cases_Bool}
use Rattle.std.proofs.lemmas.List.{append-nil, drop-append-le}
use Rattle.msr_rows.specs.Records.{IsRecordOf}
use Rattle.msr_rows.specs.declared.row.Record.{Record}
use Rattle.msr_rows.specs.declared.fault.FaultKind.{FaultKind}
use Rattle.msr_rows.proofs.UnseenBytes.{record_fits, shown_record}
use Rattle.msr_devices.specs.Device.{Device, HasLeft, GivesOnto, IsCalm}
use Rattle.msr_devices.specs.ReadBuffer.{Window, IsFilled}
use Rattle.msr_devices.proofs.Chaining.{calm_same, calm_calm, calm_failed, steady_steady, left_of}
use Rattle.msr_base.specs.declared.counts.Counts.{Counts}
use Rattle.msr_input.specs.Input.{Agrees, AllAgree, BeginsWith, IsRefusedAlone, counts_of}
use Rattle.msr_input.specs.Reading.{HoldsRecord}
use Rattle.msr_input.specs.Records.{CountsOneMore, Position, HaveCome, HaveComeShort, HasGiven, RefusesRecord, StopsGiving}
use Rattle.msr_input.specs.Steps.{CameBefore, StopsDecoding}
use Rattle.msr_input.specs.declared.fault.Fault.{Fault}
use Rattle.msr_input.specs.declared.fault.ReadFault.{ReadFault}
use Rattle.msr_input.specs.declared.fault.ReadFault.TheVariants as fault
use Rattle.msr_input.proofs.Records.{agree_more, begins_snoc, bytes_snoc, few_records}

-- a reader with this window
abbrev pub at_window : Bool → Window → Counts → ℕ → Position
at_window strict window counts offset = record {
  waiting = window.bytes;
  ended = window.ended;
  room = window.room;
  strict = strict;
  counts = counts;
  offset = offset;
}

-- before the first record
pub come_none : (strict : Bool) (start : Device) (room : ℕ)
    → HaveCome start start (at_window strict (record { bytes = []; ended = false; room = room }) (counts_of []) 0) []
come_none strict start room = record {
  begins = λ rest h. (rest, h, refl);
  agree = λ t. refl;
  counts = refl;
  offset = refl;
  moved = omega arith;
  short = λ h. absurd (omega arith);
  end = λ h. absurd cc;
  calm = λ h. calm_same start;
  steady = (calm_same start).steady;
}

calm_before : (s a : Device) (old new : Bool) → (old ≡ false → IsCalm s a) → (old ≡ true → new ≡ true)
    → new ≡ false → (old ≡ true) ⊎ (old ≡ false) → IsCalm s a
calm_before s a old new calm stays still (inl ended) = let e = stays ended in absurd cc
calm_before s a old new calm stays still (inr unended) = calm unended

begins_more : (a b : Device) (start : Device) (records : List Record) (old new rest : List ℕ)
    → GivesOnto a b old new → ((rest : List ℕ) → HasLeft a rest
    → (input : List ℕ) × HasLeft start input × BeginsWith records input
    (old ++ rest)) → HasLeft b rest → (input : List ℕ) × HasLeft start input × BeginsWith records input (new ++ rest)
begins_more a b start records old new rest onto begins left =
    let before = begins (onto.more ++ rest) (onto.came.front rest left) in
    let same : old ++ (onto.more ++ rest) ≡ new ++ rest = sym (append_assoc old onto.more rest)
    ∙ ap (λ (l : List ℕ). l ++ rest) (sym onto.whole) in
    (before.0, before.1, subst (λ (bytes : List ℕ). BeginsWith records before.0 bytes) same before.2)

-- after bytes were read ahead
come_filled : (s a b : Device) (strict : Bool) (w w' : Window) (counts : Counts) (offset want : ℕ)
    (records : List Record) → HaveCome s a (at_window strict w counts offset) records → IsFilled want a b w w'
    → HaveCome s b (at_window strict w' counts offset) records
come_filled s a b strict w w' counts offset want records come filled =
    let onto : GivesOnto a b w.bytes w'.bytes = filled.fills.onto in
    let size : length w'.bytes ≡ length w.bytes + length onto.more =
    omega (arith, ap length onto.whole, length-append w.bytes onto.more) in
    record {
      begins = λ rest left. begins_more a b s records w.bytes w'.bytes rest onto come.begins left;
      agree = come.agree;
      counts = come.counts;
      offset = come.offset;
      moved = omega (arith, come.moved, onto.moved, size);
      short = λ h. grind (arith, come.short, filled.fills.short, onto.moved, size);
      end = λ h. filled.end come.end h;
      calm = λ h. calm_calm s a b (calm_before s a w.ended w'.ended come.calm filled.stays h
          (cases_Bool w.ended)) (filled.calm h);
      steady = steady_steady s a b come.steady filled.steady;
    }

-- the source's bytes begin with the records that came
pub come_given : (s a : Device) (position : Position) (records : List Record) → HaveCome s a position records
    → HasGiven position.strict s records
come_given s a position records come =
    let left = left_of a in
    let begun = come.begins left.0 left.1 in
    record { input = begun.0; rest = position.waiting ++ left.0; left = begun.1; begins = begun.2; agree = come.agree }

-- what is refused with all that is left after it
record RefusedWithRest (strict : Bool) (a : Device) (bytes : List ℕ) (kind : FaultKind) : Type 0 where
  rest : List ℕ
  left : HasLeft a rest
  refused : IsRefusedAlone strict (bytes ++ rest) kind

refused_with_rest : (s a : Device) (position : Position) (records : List Record) (kind : FaultKind)
    → HaveCome s a position records → IsRefusedAlone position.strict position.waiting kind
    → (position.ended ≡ false → (rest : List ℕ) → IsRefusedAlone position.strict (position.waiting ++ rest) kind)
    → (position.ended ≡ true) ⊎ (position.ended ≡ false) → RefusedWithRest position.strict a position.waiting kind
refused_with_rest s a position records kind come refused more (inl ended) = record {
  rest = [];
  left = come.end ended;
  refused = subst (λ (bytes : List ℕ). IsRefusedAlone position.strict bytes kind)
      (sym (append-nil position.waiting)) refused;
}
refused_with_rest s a position records kind come refused more (inr unended) = record {
  rest = (left_of a).0;
  left = (left_of a).1;
  refused = more unended (left_of a).0;
}

-- the next record is refused by itself
decode_stops : (takes : List ℕ → Type 0) (s a : Device) (strict : Bool) (window : Window) (counts : Counts)
    (offset : ℕ) (records : List Record) (f : Fault) → HaveCome s a (at_window strict window counts offset) records
    → StopsDecoding takes strict window offset (fault.Input f) → RefusesRecord strict s records f
decode_stops takes s a strict window counts offset records f come stop =
    let refused = refused_with_rest s a (at_window strict window counts offset) records f.kind come stop.2 stop.3
    (cases_Bool window.ended) in
    let begun = come.begins refused.rest refused.left in
    record {
      given = record {
        input = begun.0;
        rest = window.bytes ++ refused.rest;
        left = begun.1;
        begins = begun.2;
        agree = come.agree;
      };
      some_left = omega (arith, stop.1, length-append window.bytes refused.rest);
      refused = refused.refused;
      offset_is = stop.0 ∙ come.offset;
    }

-- after the next record was given, or none
pub come_next : {X : Type 0} (takes : List ℕ → Type 0) (s a b : Device) (strict : Bool) (w w' : Window)
    (counts : Counts) (offset : ℕ) (records : List Record) (result : Result (Option X) ReadFault)
    → HaveCome s a (at_window strict w counts offset) records
    → MatchResult result (λ _. IsFilled 0 a b w w') (CameBefore a b w w')
    → IfErr result (StopsDecoding takes strict w' offset)
    → MatchResult result (λ _. HaveCome s b (at_window strict w' counts offset) records)
    (StopsGiving strict s b records)
come_next takes s a b strict w w' counts offset records (Ok next) come came stops =
    come_filled s a b strict w w' counts offset 0 records come came
come_next takes s a b strict w w' counts offset records (Err (fault.Input f)) come came stops =
    let filled = come_filled s a b strict w w' counts offset 0 records come came in
    (decode_stops takes s b strict w' counts offset records f filled stops, filled.steady)
come_next takes s a b strict w w' counts offset records (Err fault.Read) come came stops =
    (come_given s a (at_window strict w counts offset) records come, calm_failed s a b (come.calm came.1) came.0)
come_next takes s a b strict w w' counts offset records (Err fault.Memory) come came stops =
    let filled = come_filled s a b strict w w' counts offset 0 records come came in
    (come_given s b (at_window strict w' counts offset) records filled, filled.steady)

-- unless the source failed, the reader stands before the same record
pub come_keeps : {X : Type 0} (s a b : Device) (strict : Bool) (w w' : Window) (counts : Counts) (offset : ℕ)
    (records : List Record) (result : Result (Option X) ReadFault)
    → HaveCome s a (at_window strict w counts offset) records
    → MatchResult result (λ _. IsFilled 0 a b w w') (CameBefore a b w w')
    → IfErr result (λ why. why ≢ fault.Read → HaveCome s b (at_window strict w' counts offset) records)
come_keeps s a b strict w w' counts offset records (Ok next) come came = tt
come_keeps s a b strict w w' counts offset records (Err (fault.Input f)) come came =
    λ other. come_filled s a b strict w w' counts offset 0 records come came
come_keeps s a b strict w w' counts offset records (Err fault.Read) come came = λ other. absurd (other refl)
come_keeps s a b strict w w' counts offset records (Err fault.Memory) come came =
    λ other. come_filled s a b strict w w' counts offset 0 records come came

-- if the source failed, these records came, and the bytes that wait after them
pub come_short : {X : Type 0} (s a b : Device) (strict : Bool) (w w' : Window) (counts : Counts) (offset : ℕ)
    (records : List Record) (result : Result (Option X) ReadFault)
    → HaveCome s a (at_window strict w counts offset) records
    → MatchResult result (λ _. IsFilled 0 a b w w') (CameBefore a b w w')
    → result ≡ Err fault.Read → HaveComeShort s b records w'.bytes
come_short s a b strict w w' counts offset records (Ok next) come came e = absurd cc
come_short s a b strict w w' counts offset records (Err why) come came e =
    let same : why ≡ fault.Read = cc in
    let read = subst (λ (found : ReadFault). CameBefore a b w w' found) same came in
    let onto : GivesOnto a b w.bytes w'.bytes = read.2 in
    let size : length w'.bytes ≡ length w.bytes + length onto.more =
    omega (arith, ap length onto.whole, length-append w.bytes onto.more) in
    record {
      begins = λ rest left. begins_more a b s records w.bytes w'.bytes rest onto come.begins left;
      moved = omega (arith, come.moved, onto.moved, size);
    }

-- why it stopped
pub at_memory : {X : Type 0} (takes : List ℕ → Type 0) (strict : Bool) (window : Window) (offset : ℕ)
    (result : Result (Option X) ReadFault) → IfErr result (StopsDecoding takes strict window offset)
    → result ≡ Err fault.Memory → (window.room ≤ length window.bytes) ⊎ takes window.bytes
at_memory takes strict window offset (Ok next) stops e = absurd cc
at_memory takes strict window offset (Err why) stops e = let same : why ≡ fault.Memory = cc in
    subst (λ (w : ReadFault). StopsDecoding takes strict window offset w) same stops

pub at_failure : {X : Type 0} (takes : List ℕ → Type 0) (strict : Bool) (window : Window) (offset : ℕ)
    (result : Result (Option X) ReadFault) → IfErr result (StopsDecoding takes strict window offset)
    → result ≡ Err fault.Read → HoldsRecord window.bytes → ⊥
at_failure takes strict window offset (Ok next) stops e = absurd cc
at_failure takes strict window offset (Err why) stops e = let same : why ≡ fault.Read = cc in
    subst (λ (w : ReadFault). StopsDecoding takes strict window offset w) same stops

-- the place after a record
pub record Passes (old new : Position) (found : Record) (counts : Counts) : Type 0 where
  pub waiting : new.waiting ≡ drop found.length old.waiting
  pub ended : new.ended ≡ old.ended
  pub strict : new.strict ≡ old.strict
  pub counted : new.counts ≡ counts
  pub offset : old.offset + found.length < 2 ^ 64 → new.offset ≡ old.offset + found.length

-- the numbers of a reader stay below 2^64
record Bounds (position : Position) (records : List Record) (found : Record) : Type 0 where
  records_few : length records < 2 ^ 64 - 1
  offset_small : position.offset + found.length < 2 ^ 64

in_bounds : (s a : Device) (position : Position) (records : List Record) (found : Record)
    → HaveCome s a position records → IsRecordOf position.waiting found → Bounds position records found
in_bounds s a position records found come is =
    let fits = record_fits position.waiting found is in
    let begun = come_given s a position records come in
    let few = few_records records begun.input begun.rest begun.begins in
    let short : a.moved < 2 ^ 64 = come.short (omega (arith, fits.0, fits.1)) in
    record {
      records_few = omega (arith, few, fits.0, fits.1, short, come.moved);
      offset_small = omega (arith, come.offset, fits.1, short, come.moved);
    }

-- after a record was passed
pub come_passed : (s a : Device) (old new : Position) (records : List Record) (found : Record) (counts : Counts)
    → HaveCome s a old records → IsRecordOf old.waiting found → Agrees old.strict found
    → CountsOneMore old.counts counts found → Passes old new found counts → HaveCome s a new (records ++ found ∷ [])
come_passed s a old new records found counts come is agrees counted passes =
    let fits = record_fits old.waiting found is in
    let bounds = in_bounds s a old records found come is in
    let size = bytes_snoc records found in
    let left : length new.waiting + found.length ≡ length old.waiting =
    omega (arith, fits.1, ap length passes.waiting, length-drop found.length old.waiting) in
    record {
      begins = λ rest h.
          let before = come.begins rest h in
          let more = begins_snoc records found before.0 (old.waiting ++ rest) before.2
          (shown_record old.waiting rest found is) in (
            before.0,
            before.1,
            subst (λ (bytes : List ℕ). BeginsWith (records ++ found ∷ []) before.0 bytes)
                (drop-append-le found.length old.waiting rest fits.1
                ∙ ap (λ (bytes : List ℕ). bytes ++ rest) (sym passes.waiting)) more,
          );
      agree = subst (λ (strict : Bool). AllAgree strict (records ++ found ∷ [])) (sym passes.strict)
          (agree_more old.strict records found come.agree agrees);
      counts = passes.counted ∙ counted records come.counts bounds.records_few;
      offset = omega (arith, passes.offset bounds.offset_small, come.offset, size);
      moved = omega (arith, come.moved, size, left);
      short = λ h. come.short (omega (arith, h, size, left));
      end = λ h. come.end (sym passes.ended ∙ h);
      calm = λ h. come.calm (sym passes.ended ∙ h);
      steady = come.steady;
    }
