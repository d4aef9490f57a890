-- A writer between two segments.
use Rattle.std.proofs.Common.{◌≡◌, ℕ, ◌+◌, ◌<◌, ◌^◌, List, [], ◌++◌, ◌∙◌, length, map, arith, sym, ap, append_assoc, append-nil, length-append}
use Rattle.msr_devices.specs.Device.{Device, HasFailed, IsCalm}
use Rattle.msr_devices.specs.WriteBuffer.{Passes}
use Rattle.msr_devices.proofs.Chaining.{takes_append, calm_calm, calm_failed}
use Rattle.msr_rows.specs.declared.row.Row.{Row}
use Rattle.msr_record.specs.Output.{Packed, segment_of_packed}
use Rattle.msr_record.specs.Writing.{Writing, HasWritten, HasWrittenAll, StopsWriting}
use Rattle.msr_devices.specs.declared.fault.DeviceFault.TheVariants.{Failed}

-- its bytes went through the sink or wait
pub more_whole : (old now : Device) (bytes taken waiting more filled left : List ℕ) → bytes ≡ taken ++ waiting
    → filled ≡ waiting ++ more → (p : Passes old now filled [] left) → bytes ++ more ≡ (taken ++ p.taken) ++ left
more_whole old now bytes taken waiting more filled left whole joined p =
    ap (λ (l : List ℕ). l ++ more) whole
    ∙ append_assoc taken waiting more
    ∙ ap (λ (l : List ℕ). taken ++ l) (sym joined ∙ sym (append-nil filled) ∙ p.whole)
    ∙ sym (append_assoc taken p.taken left)

pub short_sum : (old now limit x y : ℕ) → now ≡ old + y → (0 < x → old < limit) → (0 < y → now < limit) → 0 < x + y
    → now < limit
short_sum old now limit x y sum first second some = grind arith

-- after some of what waited
pub written_some : (start old now : Device) (w : Writing) (packed : List Packed) (rows : List Row) (left : List ℕ)
    → HasWritten start old w packed rows
    → Passes old now w.waiting [] left
    → IsCalm old now
    → HasWritten start now (record { form = w.form; number = w.number; waiting = left }) packed rows
written_some start old now w packed rows left h p calm = record {
  bytes = h.bytes;
  taken = h.taken ++ p.taken;
  output = h.output;
  next = h.next;
  takes = takes_append start old now h.taken p.taken h.takes p.takes;
  whole = sym (append-nil h.bytes) ∙ more_whole old now h.bytes h.taken w.waiting [] w.waiting left h.whole
      (sym (append-nil w.waiting)) p;
  moved = omega (arith, h.moved, p.moved, length-append h.taken p.taken);
  short = λ some. short_sum old.moved now.moved (2 ^ 64) (length h.taken) (length p.taken) p.moved h.short p.short
      (omega (arith, some, length-append h.taken p.taken));
  calm = calm_calm start old now h.calm calm;
}

short_all : (start now x : ℕ) → now ≡ start + x → (0 < x → now < 2 ^ 64) → x < 2 ^ 64
short_all start now x sum short = grind arith

-- all that waited was written
pub written_all : (start old now : Device) (w : Writing) (packed : List Packed) (rows : List Row)
    → HasWritten start old w packed rows → Passes old now w.waiting [] [] → IsCalm old now
    → HasWrittenAll start now w packed rows
written_all start old now w packed rows h p calm =
    let rest : w.waiting ≡ p.taken = sym (append-nil w.waiting) ∙ p.whole ∙ append-nil p.taken in
    let whole : h.bytes ≡ h.taken ++ p.taken = h.whole ∙ ap (λ (l : List ℕ). h.taken ++ l) rest in
    let size : length h.bytes ≡ length h.taken + length p.taken = ap length whole ∙ length-append h.taken p.taken in
    record {
      bytes = h.bytes;
      output = h.output;
      takes = rw whole (takes_append start old now h.taken p.taken h.takes p.takes);
      short = short_all start.moved now.moved (length h.bytes) (omega (arith, h.moved, p.moved, size))
          (λ some. short_sum old.moved now.moved (2 ^ 64) (length h.taken) (length p.taken) p.moved h.short p.short
          (omega (arith, some, size)));
      calm = calm_calm start old now h.calm calm;
    }

-- or the sink failed before
pub stopped_all : (start old now : Device) (w : Writing) (packed : List Packed) (rows : List Row) (left : List ℕ)
    → HasWritten start old w packed rows → Passes old now w.waiting [] left → HasFailed old now
    → StopsWriting w.form start now (map segment_of_packed packed) Failed
stopped_all start old now w packed rows left h p failed =
    let whole : h.bytes ≡ (h.taken ++ p.taken) ++ left = h.whole
    ∙ ap (λ (l : List ℕ). h.taken ++ l) (sym (append-nil w.waiting) ∙ p.whole)
    ∙ sym (append_assoc h.taken p.taken left) in (
      record {
        taken = h.taken ++ p.taken;
        takes = takes_append start old now h.taken p.taken h.takes p.takes;
        prefix = record {
          packed = packed;
          others = [];
          rows = rows;
          tail = left;
          some_first = sym (append-nil _);
          output = rw (← whole) h.output;
        };
      },
      calm_failed start old now h.calm failed,
    )
