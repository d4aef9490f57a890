-- The first bytes of what a reader has left.
use Rattle.std.proofs.Common.{◌≡◌, ℕ, ◌+◌, ◌-◌, ◌^◌, ◌<◌, ◌≤◌, List, [], ◌++◌, ◌∙◌, length, take, Option, None, Some, arith, ap, refl, Ok, IfSome, take-take, length-take, length-append}
use Rattle.std.proofs.lemmas.List.{take_all, take-append-le}
use Rattle.std.proofs.Math.Seq.{take-append-add}
use Rattle.std.specs.Option.{option_map}
use Rattle.std.specs.Io.KnownBytes.{Appends, Consumes, IsAtEnd}
use Rattle.msr_devices.specs.Device.{Gives, Reads, Writes}

pub limited_gives : (old new : Option (List ℕ)) (given f f' i i' : ℕ) (xs : List ℕ) → Consumes old new xs
    → given + length xs ≤ 2 ^ 64 - 1 →
    Gives (record {
      bytes = option_map (λ (ys : List ℕ). take (2 ^ 64 - 1 - given) ys) old;
      moved = given;
      failures = f;
      interruptions = i;
    }) (record {
      bytes =
          option_map (λ (ys : List ℕ). take (2 ^ 64 - 1 - (given + length xs)) ys) new;
      moved = given + length xs;
      failures = f';
      interruptions = i';
    }) xs
limited_gives None new given f f' i i' xs consumed fits = record { front = λ rest h. tt }
limited_gives (Some ys) None given f f' i i' xs consumed fits = absurd consumed
limited_gives (Some ys) (Some zs) given f f' i i' xs consumed fits = record {
  front = λ rest h.
      let m : ℕ = 2 ^ 64 - 1 - (given + length xs) in
      let split : 2 ^ 64 - 1 - given ≡ length xs + m = omega arith in
      ap (λ (k : ℕ). take k ys) split ∙ ap (λ (l : List ℕ). take (length xs + m) l) consumed
      ∙ take-append-add xs zs m ∙ ap (λ (l : List ℕ). xs ++ l) h;
}

at_end : (known : Option (List ℕ)) (given : ℕ) → IsAtEnd known
    → IfSome (option_map (λ (ys : List ℕ). take (2 ^ 64 - 1 - given) ys) known) (λ xs. xs ≡ [])
at_end None given at = tt
at_end (Some xs) given at = rw at (take_all (2 ^ 64 - 1 - given) [] (omega arith))

-- a read of a reader's first bytes
pub reads_limited : (old new : Option (List ℕ)) (given f i n : ℕ) (part back : List ℕ) → n ≤ length part
    → Consumes old new (take n part) → (n ≡ 0 → 0 < length part → IsAtEnd new) → given + n ≤ 2 ^ 64 - 1
    → (0 < length (part ++ back) → 0 < length part) →
    Reads (record {
      bytes = option_map (λ (ys : List ℕ). take (2 ^ 64 - 1 - given) ys) old;
      moved = given;
      failures = f;
      interruptions = i;
    }) (record {
      bytes =
          option_map (λ (ys : List ℕ). take (2 ^ 64 - 1 - (given + n)) ys) new;
      moved = given + n;
      failures = f;
      interruptions = 0;
    }) (Ok n) (part ++ back)
reads_limited old new given f i n part back fits consumed end small room =
    let size : length (take n part) ≡ n = omega (arith, length-take n part) in
    let few : given + length (take n part) ≤ 2 ^ 64 - 1 = omega arith in
    record {
      within = omega (arith, length-append part back);
      bytes = rw (take-append-le n part back fits)
          (rw size at (limited_gives old new given f f i 0 (take n part) consumed few));
      end = λ zero some. at_end new (given + n) (end zero (room some));
      counts = record { moved = refl; failures = refl; interruptions = refl };
    }

appended : (old new : Option (List ℕ)) (more before : List ℕ) → Appends old new more → old ≡ Some before
    → new ≡ Some (before ++ more)
appended None new more before grown known = cc
appended (Some xs) None more before grown known = absurd grown
appended (Some xs) (Some ys) more before grown known = cc

-- a write to a writer of a buffer's first bytes
pub writes_limited : (old new : Option (List ℕ)) (given f i n most : ℕ) (buffer : List ℕ)
    → n ≤ length (take most buffer) → Appends old new (take n (take most buffer)) → (n ≡ 0 → length buffer ≤ 0) →
    Writes (record { bytes = old; moved = given; failures = f; interruptions = i })
    (record { bytes = new; moved = given + n; failures = f; interruptions = 0 }) (Ok n) buffer
writes_limited old new given f i n most buffer fits grown some =
    let part = length-take most buffer in
    record {
      within = omega arith;
      bytes = record {
        back = λ before h. rw (← take-take n most buffer (omega arith)) (appended old new _ before grown h);
      };
      counts = λ more. record { moved = refl; failures = refl; interruptions = refl };
      empty = λ zero none. record { moved = omega arith; failures = refl; interruptions = refl };
      refused = λ zero more. absurd (omega (arith, some zero));
    }
