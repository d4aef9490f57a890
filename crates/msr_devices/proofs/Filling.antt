-- What stands in a read buffer's memory after it was moved to the start and read after that.
use Rattle.std.proofs.Common.{◌≡◌, ◌⊎◌, inl, inr, ℕ, ◌+◌, ◌-◌, ◌^◌, ◌<◌, ◌≤◌, Bool, true, false, List, [], ◌++◌, ◌∙◌, length, take, drop, arith, sym, ap, length-take, length-drop}
use Rattle.std.proofs.lemmas.List.{append-nil, take-append-le, take-append-drop, drop-append-le, drop-drop, drop-take}
use Rattle.std.proofs.Math.Seq.{take-append_seam}
use Rattle.std.specs.List.{slice_range}
use Rattle.msr_devices.specs.Device.{Device, GivesOnto}
use Rattle.msr_devices.specs.ReadBuffer.{Window, Fills, IsFilled}
use Rattle.msr_devices.proofs.Chaining.{calm_same}

-- a vec of n items whose items were all written
pub written : (n : ℕ) (xs ys : List ℕ) → length xs ≡ n → take n (xs ++ drop (length xs) ys) ≡ xs
written n xs ys e = ap (λ (k : ℕ). take k (xs ++ drop (length xs) ys)) (sym e)
    ∙ take-append_seam xs (drop (length xs) ys)

-- a window stays the same in a memory that grew
grown_same : (s e : ℕ) (m grown : List ℕ) → s ≤ e → e ≤ length m → take (length m) grown ≡ m
    → take (e - s) (drop s grown) ≡ slice_range m s e
grown_same s e m grown ordered within keeps =
    let split : grown ≡ m ++ drop (length m) grown =
    sym (ap (λ (l : List ℕ). l ++ drop (length m) grown) (sym keeps) ∙ take-append-drop (length m) grown) in
    let start : s ≤ length m = omega arith in
    let fits : e - s ≤ length (drop s m) = omega (arith, length-drop s m) in
    ap (λ (l : List ℕ). take (e - s) (drop s l)) split
    ∙ ap (λ (l : List ℕ). take (e - s) l) (drop-append-le s m (drop (length m) grown) start)
    ∙ take-append-le (e - s) (drop s m) (drop (length m) grown) fits

-- what stands there after a further read
pub filled_bytes : (f n : ℕ) (room back : List ℕ) → length room ≡ n
    → slice_range (take n (room ++ drop (length room) back)) 0 f ≡ take f room
filled_bytes f n room back size =
    ap (λ (k : ℕ). take k (take n (room ++ drop (length room) back))) (let h : f - 0 ≡ f = omega arith in h)
    ∙ ap (λ (l : List ℕ). take f l) (written n room back size)

pub filled_size : (f n : ℕ) (room back : List ℕ) → length room ≡ n → f ≤ length room
    → length (slice_range (take n (room ++ drop (length room) back)) 0 f) ≡ f
filled_size f n room back size within = ap length (filled_bytes f n room back size)
    ∙ (let e : length (take f room) ≡ f = omega (arith, length-take f room) in e)

-- the window of a memory
abbrev window : List ℕ → ℕ → ℕ → Bool → Window
window m s e ended = record { bytes = slice_range m s e; ended = ended; room = length m }

pub window_size : (s e : ℕ) (m : List ℕ) (ended : Bool) (w : Window) → window m s e ended ≡ w
    → (s ≤ e) × (e ≤ length m) → length w.bytes ≡ e - s
window_size s e m ended w view within = ap (λ (v : Window). length v.bytes) (sym view)
    ∙ (let h : length (take (e - s) (drop s m)) ≡ e - s =
    omega (arith, length-take (e - s) (drop s m), length-drop s m) in h)

-- neither do enough bytes stand there, nor has the source ended
pub not_ready : (want s e : ℕ) (m : List ℕ) (ended : Bool) (w : Window) → window m s e ended ≡ w
    → (s ≤ e) × (e ≤ length m) → ended ≡ false → e - s < want → (want ≤ length w.bytes) ⊎ (w.ended ≡ true) → ⊥
not_ready want s e m ended w view within going few (inl enough) = omega (arith, window_size s e m ended w view within)
not_ready want s e m ended w view within going few (inr over) = let same = ap (λ (v : Window). v.ended) view in cc

-- no read is needed
pub filled_already : (want : ℕ) (d : Device) (w : Window) → (w.ended ≡ false → want ≤ length w.bytes)
    → IsFilled want d d w w
filled_already want d w enough = record {
  fills = record {
    onto = record {
      more = [];
      came = record { front = λ rest h. h };
      whole = sym (append-nil w.bytes);
      moved = omega arith;
    };
    short = λ more. absurd (omega arith);
    keeps = omega arith;
  };
  enough = enough;
  stays = λ h. h;
  end = λ here h. here h;
  calm = λ h. calm_same d;
  steady = (calm_same d).steady;
}

pub fills : (a b : Device) (before : Window) (was ended : Bool) (s e f n : ℕ) (m grown first room back : List ℕ) →
    window m s e was ≡ before → (s ≤ e) × (e ≤ length m) → length m ≤ length grown → take (length m) grown ≡ m →
    take (e - s) back ≡ slice_range grown s e → length back ≡ length grown → first ≡ back → length first ≡ n
    → length room ≡ length first → f ≤ length room → GivesOnto a b (take (e - s) first) (take f room)
    → (e - s < f → b.moved < 2 ^ 64) →
    Fills a b before (window (take n (room ++ drop (length room) back)) 0 f ended)
fills a b before was ended s e f n m grown first room back view within longer keeps front same value len size f_within
    onto short =
    let moved : take (e - s) first ≡ before.bytes = rw value (front
    ∙ grown_same s e m grown within.0 within.1 keeps ∙ ap (λ (v : Window). v.bytes) view) in
    let before_size = window_size s e m was before view within in
    let after_size = filled_size f n room back (size ∙ len) f_within in
    record {
      onto = rw (filled_bytes f n room back (size ∙ len)) (rw moved at onto);
      short = λ more. short (omega (arith, before_size, after_size));
      keeps = rw (written n room back (size ∙ len)) (omega (arith, ap (λ (v : Window). v.room) view, ap length value));
    }

-- a window that was read stands in its memory
pub window_within : (f n : ℕ) (room back : List ℕ) → length room ≡ n → f ≤ length room
    → (0 ≤ f) × (f ≤ length (take n (room ++ drop (length room) back)))
window_within f n room back size within = (omega arith, rw (written n room back size) within)

pub room_within : (most n : ℕ) (grown first room back : List ℕ) → length grown ≤ most → length back ≡ length grown
    → first ≡ back → length first ≡ n → length room ≡ length first
    → length (take n (room ++ drop (length room) back)) ≤ most
room_within most n grown first room back fits same value len size =
    rw (written n room back (size ∙ len)) (omega (arith, ap length value))

-- a window after its first n bytes were consumed
pub consumed : (s e n : ℕ) (m : List ℕ) → s + n ≤ e → slice_range m (s + n) e ≡ drop n (slice_range m s e)
consumed s e n m within =
    let rest : e - s ≡ n + (e - (s + n)) = omega arith in
    sym (ap (λ (k : ℕ). drop n (take k (drop s m))) rest ∙ drop-take n (e - (s + n)) (drop s m)
    ∙ ap (λ (l : List ℕ). take (e - (s + n)) l) (drop-drop n s m))
