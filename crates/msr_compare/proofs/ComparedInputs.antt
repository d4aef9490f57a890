-- What is answered for two inputs.
use Rattle.std.proofs.Common.{◌≡◌, ◌↔◌, ℕ, Bool, List, [], ◌∷◌, ◌++◌, map, refl, sym, ap, ap₂, subst, ◌∙◌, ℤ, Some, None, Result, Ok, Err, MatchResult}
use Rattle.msr_devices.specs.Device.{Device, CountsFew, HasFailed, HasLeft, IsSteady}
use Rattle.msr_devices.proofs.Chaining.{left_of, steady_sound}
use Rattle.msr_segments.specs.declared.joiner.Segment.{Segment}
use Rattle.msr_input.specs.Input.{IsReadable}
use Rattle.msr_input.specs.Reading.{StopsReading}
use Rattle.msr_input.specs.declared.settings.Settings.{Settings}
use Rattle.msr_input.specs.declared.fault.ReadFault.{ReadFault}
use Rattle.msr_input.specs.declared.fault.ReadFault.TheVariants as fault
use Rattle.msr_compare.specs.declared.comparison.Comparison.{Comparison}
use Rattle.msr_compare.specs.declared.comparison.Comparison.TheVariants.{Same}
use Rattle.msr_compare.specs.declared.comparison.Difference.{Difference}
use Rattle.msr_compare.specs.declared.fault.CompareFault.{CompareFault}
use Rattle.msr_compare.specs.declared.fault.CompareFault.TheVariants as failing
use Rattle.msr_compare.specs.Answers.{CompareAnswers, IsOfFault}
use Rattle.msr_compare.specs.Seen.{SeenIfRead, Sight}
use Rattle.msr_compare.specs.Symbols.{Symbol, Holds, symbols_of}
use Rattle.msr_compare.specs.Sides.{Standing, IsDrained}
use Rattle.msr_compare.specs.Meetings.{AnswersInputs, HaveFinished, HaveMet, IsReadableFrom, KeepsFault, ReadableIfRefused, ReadsFirst, StopsFinishing}
use Rattle.msr_compare.proofs.Symbols.{no_sample_first, no_symbols, opens_so, segment_so}
use Rattle.msr_compare.proofs.Draining.{drained_before}
use Rattle.msr_compare.proofs.DifferingAheads.{counted, first_so}

-- the samples of two segments and the symbols after them are the same, if all together are
pub tails_same : (xs ys : List ℤ) (ones others : List Segment)
    → map Holds xs ++ symbols_of ones ≡ map Holds ys ++ symbols_of others
    → (xs ≡ ys) × (symbols_of ones ≡ symbols_of others)
tails_same [] [] ones others e = (refl, e)
tails_same [] (y ∷ ys) ones others e = absurd (no_sample_first ones y _ e)
tails_same (x ∷ xs) [] ones others e = absurd (no_sample_first others x _ (sym e))
tails_same (x ∷ xs) (y ∷ ys) ones others e =
    let same : x ≡ y = cc in
    let rest : map Holds xs ++ symbols_of ones ≡ map Holds ys ++ symbols_of others = cc in
    let tails = tails_same xs ys ones others rest in
    (ap₂ (λ (z : ℤ) (l : List ℤ). z ∷ l) same tails.0, tails.1)

-- segments with the same symbols are the same
pub symbols_same : (ones others : List Segment) → symbols_of ones ≡ symbols_of others → ones ≡ others
symbols_same [] others e = sym (no_symbols others (sym e))
symbols_same (x ∷ xs) others e =
    let o = opens_so {key = x.key} {start = x.start} others (sym e) in
    let tails = tails_same x.samples o.samples xs o.after (sym o.rest_is) in
    ap₂ (λ (l : List ℤ) (s : List Segment). segment_so x.key x.start l ∷ s) tails.0 (symbols_same xs o.after tails.1)
    ∙ sym o.are

-- of a source at which reading stopped, only the fault of that name says that it failed
stopped : (settings : Settings) (start now : Device) (why : ReadFault) → StopsReading settings start now [] why
    → (why ≡ fault.Read) ↔ HasFailed start now
stopped settings start now fault.Read h = (λ e. h.1, λ failed. refl)
stopped settings start now why h = (λ e. absurd cc, λ failed. absurd (steady_sound start now h.1 failed))

-- a refusal is no failure
refused_steady : (settings : Settings) (start now : Device) (why : ReadFault) → StopsReading settings start now [] why
    → IsOfFault why → IsSteady start now
refused_steady settings start now (fault.Input found) h is = h.1
refused_steady settings start now why h is = absurd is

readable_if : {seen : Sight} {settings : Settings} {start : Device} (why : ReadFault)
    → IsReadableFrom seen settings start → ReadableIfRefused seen settings start why
readable_if (fault.Input found) readable = readable
readable_if why readable = tt

pub drained_readable : {seen : Sight} {settings : Settings} {start now : Device} {ended : Bool} {symbols : List Symbol}
    → IsDrained seen settings start now ended symbols → IsReadableFrom seen settings start
drained_readable d = record { input = d.input; left = d.left; all = d.all }

-- the first input does not change why the other one stopped
pub keeps : {seen : Sight} {settings : Settings} {start now : Device} {why told : ReadFault} → why ≡ told
    → IsSteady start now → ReadableIfRefused seen settings start told → KeepsFault seen settings start now why told
keeps e steady readable = record { same = sym e; steady = steady; readable = rw e readable }

module _ (seen : Sight) (settings : Settings) (start_one one_now start_other other_now : Device)
    (few : CountsFew start_one one_now) (other_few : CountsFew start_other other_now) where
  -- both have ended, with the same segments
  pub answered_same : {one other : Standing}
      → HaveMet seen settings start_one one_now start_other other_now one other None
      → AnswersInputs seen settings start_one one_now start_other other_now (Ok (Same (record {
        segments = one.tally.segments;
        samples = one.tally.samples;
        moved_one = one.tally.moved;
        moved_other = other.tally.moved;
      })))
  answered_same m =
      let f = m.fetched in
      let t = f.taken.one_taken in
      let u = f.taken.other_taken in
      let x = drained_before t (f.one_some m.is_found.0) in
      let y = drained_before u (f.other_some m.is_found.1) in
      let a = x.all in
      let b = y.all in
      let symbols = t.symbols ∙ ap (λ (l : List Symbol). f.taken.done ++ l) (m.is_found.0 ∙ sym m.is_found.1)
      ∙ sym u.symbols in
      let same : b.segments ≡ a.segments = sym (symbols_same a.segments b.segments symbols) in
      record {
        first = x.input;
        second = y.input;
        left = x.left;
        other_left = y.left;
        answers = record {
          same = record {
            segments = a.segments;
            one_has = record { records = a.records; readable = a.readable };
            other_has = record {
              records = b.records;
              readable = subst (λ (l : List Segment). IsReadable settings y.input b.records l) same b.readable;
            };
          };
          segments_are = t.tallied.segments_are;
          samples_are = t.tallied.samples_are;
          one_moved = record {
            records = a.records;
            segments = a.segments;
            readable = a.readable;
            greatest = t.tallied.greatest;
          };
          other_moved = record {
            records = b.records;
            segments = b.segments;
            readable = b.readable;
            greatest = u.tallied.greatest;
          };
        };
        all_seen = a;
        read_one = (λ e. absurd cc, λ failed. absurd (steady_sound start_one one_now x.steady failed));
        read_other = (λ e. absurd cc, λ failed. absurd (steady_sound start_other other_now y.steady failed));
        few_one = few;
        few_other = other_few;
      }

  -- both were read to their ends after a difference
  answered_differ : {was : Sight} {a c : Device} {one other : Standing} {difference : Difference}
      {comparison : Comparison} (m : HaveMet was settings start_one a start_other c one other (Some difference))
      → HaveFinished seen settings start_one one_now start_other other_now one other m.fetched.taken.done
      m.fetched.taken.done difference comparison
      → AnswersInputs seen settings start_one one_now start_other other_now (Ok comparison)
  answered_differ {difference = difference} m fin =
      let f = m.fetched in
      let x = fin.one_drained in
      let y = fin.other_drained in
      rw fin.told (record {
        first = x.input;
        second = y.input;
        left = x.left;
        other_left = y.left;
        answers = record {
          ones = x.all.segments;
          others = y.all.segments;
          one_has = record { records = x.all.records; readable = x.all.readable };
          other_has = record { records = y.all.records; readable = y.all.readable };
          first = first_so difference.kind f.taken.done x.more y.more (counted f.taken.one_taken)
              (counted f.taken.other_taken) m.is_found.segment_is m.is_found.differ x.symbols_are y.symbols_are
              (λ none. x.whole (f.one_some none)) (λ none. y.whole (f.other_some none));
        };
        all_seen = x.all;
        read_one = (λ e. absurd cc, λ failed. absurd (steady_sound start_one one_now x.steady failed));
        read_other = (λ e. absurd cc, λ failed. absurd (steady_sound start_other other_now y.steady failed));
        few_one = few;
        few_other = other_few;
      })

  -- the first input is refused, or its source or memory failed
  answers_one : (why : ReadFault) → StopsReading settings start_one one_now [] why
      → (first : List ℕ) × HasLeft start_one first
      × ((second : List ℕ) → CompareAnswers settings first second (Err (failing.One why)))
  answers_one (fault.Input found) h =
      (h.0.input, h.0.left, λ second. record { records = h.0.records; first = h.0.first })
  answers_one why h = (h.0.input, h.0.left, λ second. tt)

  pub answered_one : (why : ReadFault) → StopsReading settings start_one one_now [] why
      → IsSteady start_other other_now
      → AnswersInputs seen settings start_one one_now start_other other_now (Err (failing.One why))
  answered_one why h steady =
      let a = answers_one why h in
      let other = left_of start_other in
      let failure = stopped settings start_one one_now why h in
      record {
        first = a.0;
        second = other.0;
        left = a.1;
        other_left = other.1;
        answers = a.2 other.0;
        all_seen = tt;
        read_one = (λ e. failure.0 cc, λ failed. ap (λ (w : ReadFault). Err (failing.One w)) (failure.1 failed));
        read_other = (λ e. absurd cc, λ failed. absurd (steady_sound start_other other_now steady failed));
        few_one = few;
        few_other = other_few;
      }

  -- the other input is, and the first one is readable then
  answers_other : (why : ReadFault) → StopsReading settings start_other other_now [] why
      → ReadableIfRefused seen settings start_one why
      → (first : List ℕ) × HasLeft start_one first × (second : List ℕ) × HasLeft start_other second
      × CompareAnswers settings first second (Err (failing.Other why))
      × SeenIfRead seen settings first (Err (failing.Other why))
  answers_other (fault.Input found) h readable =
      let all = readable.all in (
        readable.input,
        readable.left,
        h.0.input,
        h.0.left,
        record {
          segments = all.segments;
          one_has = record { records = all.records; readable = all.readable };
          faulty = record { records = h.0.records; first = h.0.first };
        },
        all,
      )
  answers_other why h readable = let one = left_of start_one in (one.0, one.1, h.0.input, h.0.left, tt, tt)

  answered_other : (why : ReadFault) → StopsReading settings start_other other_now [] why
      → IsSteady start_one one_now → ReadableIfRefused seen settings start_one why
      → AnswersInputs seen settings start_one one_now start_other other_now (Err (failing.Other why))
  answered_other why h steady readable =
      let a = answers_other why h readable in
      let failure = stopped settings start_other other_now why h in
      record {
        first = a.0;
        second = a.2;
        left = a.1;
        other_left = a.3;
        answers = a.4;
        all_seen = a.5;
        read_one = (λ e. absurd cc, λ failed. absurd (steady_sound start_one one_now steady failed));
        read_other = (λ e. failure.0 cc, λ failed. ap (λ (w : ReadFault). Err (failing.Other w)) (failure.1 failed));
        few_one = few;
        few_other = other_few;
      }

  -- why reading the second one stopped, if the first one was read on
  pub answered_refused : (why : ReadFault) (told : CompareFault) → StopsReading settings start_other other_now [] why
      → ReadsFirst seen settings start_one one_now why told
      → AnswersInputs seen settings start_one one_now start_other other_now (Err told)
  answered_refused why (failing.One first) h r =
      answered_one first r.0 (refused_steady settings start_other other_now why h r.1)
  answered_refused why (failing.Other second) h r = rw r.same (answered_other why h r.steady r.readable)

  -- both were read to their ends, or why not
  pub answered_finished : {was : Sight} {a c : Device} {one other : Standing} {difference : Difference}
      (answer : Result Comparison CompareFault)
      (m : HaveMet was settings start_one a start_other c one other (Some difference))
      → MatchResult answer (HaveFinished seen settings start_one one_now start_other other_now one other
      m.fetched.taken.done m.fetched.taken.done difference)
      (StopsFinishing seen settings start_one one_now start_other other_now)
      → AnswersInputs seen settings start_one one_now start_other other_now answer
  answered_finished (Ok comparison) m fin = answered_differ m fin
  answered_finished (Err (failing.One why)) m fin = answered_one why fin.0 fin.1
  answered_finished (Err (failing.Other why)) m fin = answered_other why fin.0 fin.1 (readable_if why fin.2)
