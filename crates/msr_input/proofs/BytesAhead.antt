-- Bytes that are read ahead, one read after another.
use Rattle.std.proofs.Common.{inl, inr, ◌⊎◌, take, length-take, ◌≡◌, ℕ, ◌+◌, ◌-◌, ◌<◌, ◌≤◌, Bool, true, false, List, [], ◌∷◌, ◌++◌, length, refl, sym, ap, ◌∙◌, arith, length-append}
use Rattle.std.proofs.lemmas.List.{append-nil, take-append-le, take_all, take-take}
use Rattle.std.specs.Prelude.{if◌then◌else◌}
use Rattle.std.proofs.lemmas.Bool.{cases_Bool, cases_lt, le-leb, lt-leb}
use Rattle.msr_rows.specs.Records.{IsRecordOf}
use Rattle.msr_rows.specs.declared.row.Record.{Record}
use Rattle.msr_rows.proofs.FirstBytes.{own_record}
use Rattle.msr_input.specs.Reading.{HoldsRecord, room_with}
use Rattle.msr_input.specs.Steps.{CameBefore, StopsDecoding, fault_of_fill}
use Rattle.msr_input.proofs.SettledRefusals.{held_some}
use Rattle.msr_devices.specs.Device.{Device, GivesOnto}
use Rattle.msr_devices.specs.ReadBuffer.{Window, IsFilled, StopsFilling, room_for}
use Rattle.msr_devices.specs.declared.fault.DeviceFault.{DeviceFault}
use Rattle.msr_devices.specs.declared.fault.DeviceFault.TheVariants as filling
use Rattle.msr_devices.proofs.Chaining.{calm_same, calm_calm, calm_failed, steady_steady, onto_more}

-- before the first read
pub filled_none : (a : Device) (w : Window) → IsFilled 0 a a w w
filled_none a w = record {
  fills = record {
    onto = record {
      more = [];
      came = record { front = λ rest left. left };
      whole = sym (append-nil w.bytes);
      moved = omega arith;
    };
    short = λ more. absurd (omega arith);
    keeps = omega arith;
  };
  enough = λ unended. omega arith;
  stays = λ ended. ended;
  end = λ end ended. end ended;
  calm = λ unended. calm_same a;
  steady = (calm_same a).steady;
}

-- and after one more
pub filled_more : (a b c : Device) (w w' w'' : Window) (m n : ℕ) → IsFilled m a b w w' → w'.ended ≡ false
    → IsFilled n b c w' w'' → IsFilled 0 a c w w''
filled_more a b c w w' w'' m n first unended second =
    let one = first.fills.onto in
    let two = second.fills.onto in
    let onto : GivesOnto a c w.bytes w''.bytes =
    onto_more a b c w.bytes w'.bytes w''.bytes two.more (length two.more) one two.came refl two.moved two.whole in
    let size : length w''.bytes ≡ length w'.bytes + length two.more = ap length two.whole
    ∙ length-append w'.bytes two.more in
    record {
      fills = record {
        onto = onto;
        short = λ more. grind (arith, first.fills.short, second.fills.short, two.moved, size, more);
        keeps = omega (arith, first.fills.keeps, second.fills.keeps);
      };
      enough = λ unended. omega arith;
      stays = λ ended. let still = first.stays ended in absurd cc;
      end = λ end ended. second.end (first.end end) ended;
      calm = λ still. calm_calm a b c (first.calm unended) (second.calm still);
      steady = steady_steady a b c first.steady second.steady;
    }

-- one more byte, or the end, is nearer to the longest record
pub nearer : (old new more : List ℕ) (was ended : Bool) → new ≡ old ++ more → was ≡ false → length old < 1_048_576
    → (ended ≡ false → length old + 1 ≤ length new)
    → (1_048_576 - length new) + (if ended then 0 else 1) < (1_048_576 - length old) + (if was then 0 else 1)
nearer old new more was true whole unended short longer = rw (unended, whole, length-append old more) (omega arith)
nearer old new more was false whole unended short longer = let least = longer refl in rw unended (omega arith)

-- when a read failed there are no more bytes than before, or there was no memory for them
unended_before : (before after : Bool) → (before ≡ true → after ≡ true) → after ≡ false
    → (before ≡ true) ⊎ (before ≡ false) → before ≡ false
unended_before before after stays still (inl ended) = let e = stays ended in absurd cc
unended_before before after stays still (inr unended) = unended

none_more : (w w' more : List ℕ) → w' ≡ w ++ more → length w' < length w + 1 → w' ≡ w
none_more w w' [] whole few = whole ∙ append-nil w
none_more w w' (x ∷ more) whole few = absurd (omega (arith, ap length whole, length-append w (x ∷ more), few))

pub came_short : (a b c : Device) (w w' w'' : Window) (n : ℕ) (fill : DeviceFault) → IsFilled 0 a b w w'
    → w'.ended ≡ false → StopsFilling n b c w' w'' fill → CameBefore a c w w'' (fault_of_fill fill)
came_short a b c w w' w'' n filling.Failed first unended stops =
    let one = first.fills.onto in
    let two = stops.1.onto in (
      calm_failed a b c (first.calm unended) stops.0,
      unended_before w.ended w'.ended first.stays unended (cases_Bool w.ended),
      onto_more a b c w.bytes w'.bytes w''.bytes two.more (length two.more) one two.came refl two.moved two.whole,
    )
came_short a b c w w' w'' n filling.Memory first unended stops = rw (stops.0, stops.1) first

pub refused_short : (takes : List ℕ → Type 0) (strict : Bool) (b c : Device) (w' w'' : Window) (offset : ℕ)
    (fill : DeviceFault) → (HoldsRecord w'.bytes → ⊥) → StopsFilling (length w'.bytes + 1) b c w' w'' fill
    → StopsDecoding takes strict w'' offset (fault_of_fill fill)
refused_short takes strict b c w' w'' offset filling.Failed none stops =
    let same : w''.bytes ≡ w'.bytes = none_more w'.bytes w''.bytes stops.1.onto.more stops.1.onto.whole stops.4 in
    λ holds. none (rw same at holds)
refused_short takes strict b c w' w'' offset filling.Memory none stops = inl (rw stops.1 (omega (arith, stops.2)))

-- no read was made
pub record IsUnread (a b : Device) (w w' : Window) : Type 0 where
  pub source : b ≡ a
  pub bytes : w'.bytes ≡ w.bytes

-- there is no more room than a record would need that is longer than some first bytes
pub record HasRoom (before : ℕ) (w : Window) : Type 0 where
  pub size : ℕ
  pub within : size ≤ length w.bytes
  pub none : HoldsRecord (take size w.bytes) → ⊥
  pub most : w.room ≤ room_with size before

pub room_none : (w : Window) → HasRoom w.room w
room_none w = record {
  size = 0;
  within = omega arith;
  none = λ holds. let some : 0 < length (take 0 w.bytes) = held_some (take 0 w.bytes) holds in
      omega (arith, some, length-take 0 w.bytes);
  most = omega arith;
}

-- if no record stood in the bytes they were too few for it
pub room_more : (before : ℕ) (a b : Device) (w w' : Window) → HasRoom before w → (HoldsRecord w.bytes → ⊥)
    → IsFilled (length w.bytes + 1) a b w w' → w'.room ≤ room_for (length w.bytes + 1) w.room → HasRoom before w'
room_more before a b w w' has none filled most =
    let onto = filled.fills.onto in
    let first : take (length w.bytes) w'.bytes ≡ w.bytes = ap (λ (l : List ℕ). take (length w.bytes) l) onto.whole
    ∙ take-append-le (length w.bytes) w.bytes onto.more (omega arith)
    ∙ take_all (length w.bytes) w.bytes (omega arith) in
    record {
      size = length w.bytes;
      within = omega (arith, ap length onto.whole, length-append w.bytes onto.more);
      none = rw first none;
      most = elim (cases_lt w.room (length w.bytes + 1)) [
        | inl grows ↦ let grown = rw (lt-leb (length w.bytes + 1) w.room grows) at most in omega (arith, grown, grows)
        | inr fits ↦ let same = rw (le-leb (length w.bytes + 1) w.room fits) at most in
            omega (arith, same, has.most, has.within)
      ];
    }

-- so one that stands there is longer
pub room_found : (before : ℕ) (w : Window) (found : Record) → HasRoom before w → IsRecordOf w.bytes found
    → w.room ≤ room_with found.length before
room_found before w found has is =
    elim (cases_lt has.size found.length) [
      | inl longer ↦ omega (arith, has.most, longer)
      | inr within ↦
          let own = own_record w.bytes (take has.size w.bytes) found is
          (take-take found.length has.size w.bytes within) in
          absurd (has.none (own.header, own.read))
    ]
