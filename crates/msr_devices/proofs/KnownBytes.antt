-- What a read leaves of the bytes that a device knows.
use Rattle.std.proofs.Common.{◌≡◌, ℕ, ◌+◌, ◌<◌, ◌≤◌, List, ◌++◌, length, take, drop, Some, Ok, refl, arith, sym, ap, ◌∙◌, length-append, length-take, length-drop}
use Rattle.std.proofs.lemmas.List.{take_all, take-append-le, take-append-drop, drop_all}
use Rattle.std.proofs.lemmas.List.{drop-drop}
use Rattle.msr_devices.specs.Device.{Reads}

-- a read of n bytes from a list at a place in it
pub reads_at : (bytes back : List ℕ) (at n failures interruptions : ℕ) → n + at ≤ length bytes
    → (n ≡ 0 → 0 < length (take n (drop at bytes) ++ back) → length bytes ≤ at) →
    Reads (record { bytes = Some (drop at bytes); moved = at; failures = failures; interruptions = interruptions })
    (record { bytes = Some (drop (at + n) bytes); moved = at + n; failures = failures; interruptions = 0 })
    (Ok n) (take n (drop at bytes) ++ back)
reads_at bytes back at n failures interruptions within end =
    let front : length (take n (drop at bytes)) ≡ n =
    omega (arith, length-take n (drop at bytes), length-drop at bytes) in
    let fits : n ≤ length (take n (drop at bytes)) = omega arith in
    let all : length (take n (drop at bytes)) ≤ n = omega arith in
    let taken = take-append-le n (take n (drop at bytes)) back fits ∙ take_all n (take n (drop at bytes)) all in
    record {
      within = omega (arith, length-append (take n (drop at bytes)) back);
      bytes = record {
        front = λ rest h. rw taken (sym (take-append-drop n (drop at bytes))
            ∙ ap (λ (t : List ℕ). take n (drop at bytes) ++ t) (drop-drop n at bytes ∙ h));
      };
      end = λ zero some. let past : length bytes ≤ at + n = omega (arith, end zero some) in
          drop_all (at + n) bytes past;
      counts = record { moved = refl; failures = refl; interruptions = refl };
    }
