-- Calls one after another on one device.
use Rattle.std.proofs.Common.{[], Option, None, Some, refl, inl, inr, ◌⊎◌, ◌≡◌, ℕ, ◌+◌, ◌-◌, ◌^◌, ◌<◌, ◌≤◌, List, ◌++◌, length, take, drop, sym, ap, ◌∙◌, append_assoc, arith, length-drop, length-take, length-append}
use Rattle.std.proofs.lemmas.Bool.{cases_lt}
use Rattle.std.proofs.Math.Seq.{take-append-add, take-add}
use Rattle.std.proofs.lemmas.List.{append-nil, length-take-le, take-append-drop, take-append-le, take_all}
use Rattle.std.proofs.lemmas.List.Edits.{take-paste}
use Rattle.std.specs.List.{copy_within}
use Rattle.msr_devices.specs.Device.{Device, HasLeft, Gives, GivesOnto, Takes, Moves, HasFailed, IsCalm, IsSteady, CountsFew, CanCountCall}
use Rattle.msr_devices.specs.WriteBuffer.{Passes}

pub gives_append : (a b c : Device) (xs ys : List ℕ) → Gives a b xs → Gives b c ys → Gives a c (xs ++ ys)
gives_append a b c xs ys first second = record {
  front = λ rest h. rw append_assoc (first.front (ys ++ rest) (second.front rest h));
}

-- one more piece after what came so far
pub onto_more : (a b c : Device) (base old new piece : List ℕ) (n : ℕ) → GivesOnto a b base old → Gives b c piece
    → length piece ≡ n → c.moved ≡ b.moved + n → new ≡ old ++ piece → GivesOnto a c base new
onto_more a b c base old new piece n onto came size moved whole = record {
  more = onto.more ++ piece;
  came = gives_append a b c onto.more piece onto.came came;
  whole = whole ∙ ap (λ (l : List ℕ). l ++ piece) onto.whole ∙ append_assoc base onto.more piece;
  moved = omega (arith, onto.moved, moved, size, length-append onto.more piece);
}

pub takes_append : (a b c : Device) (xs ys : List ℕ) → Takes a b xs → Takes b c ys → Takes a c (xs ++ ys)
takes_append a b c xs ys first second = record {
  back = λ before h. rw (← append_assoc) (second.back (before ++ xs) (first.back before h));
}

-- a sink to which no call was made
pub takes_none : (a : Device) → Takes a a []
takes_none a = record { back = λ before h. rw append-nil h }

pub calm_moves : (a b c : Device) (n : ℕ) → IsCalm a b → Moves b c n → 0 < n → IsCalm a c
calm_moves a b c n calm moves some = record {
  steady = record { failures = omega arith; grows = omega arith; still = λ e. omega arith; moved = λ e. omega arith };
  same = λ e. omega arith;
}

-- the prefix of a buffer after n more bytes were read into it at a
pub take_part : (a n : ℕ) (xs ys post : List ℕ) → a ≤ length xs → n ≤ length ys
    → take (a + n) (take a xs ++ (ys ++ post)) ≡ take a xs ++ take n ys
take_part a n xs ys post within fits =
    ap (λ (m : ℕ). take (m + n) (take a xs ++ (ys ++ post))) (sym (length-take-le a xs within))
    ∙ take-append-add (take a xs) (ys ++ post) n ∙ ap (λ (t : List ℕ). take a xs ++ t) (take-append-le n ys post fits)

-- the prefix of a buffer that was written after it
take_kept : (a : ℕ) (xs zs : List ℕ) → a ≤ length xs → take a (take a xs ++ zs) ≡ take a xs
take_kept a xs zs within =
    let front : length (take a xs) ≡ a = omega (arith, length-take a xs) in
    take-append-le a (take a xs) zs (omega arith) ∙ take_all a (take a xs) (omega arith)

-- the prefix of a buffer after n more bytes of it were written from a on
pub take_more : (a n : ℕ) (xs : List ℕ) → take (a + n) xs ≡ take a xs ++ take n (take (length xs - a) (drop a xs))
take_more a n xs =
    take-add a n xs ∙ ap (λ (t : List ℕ). take a xs ++ take n t)
    (sym (take_all (length xs - a) (drop a xs) (omega (arith, length-drop a xs))))

-- what stands there after a read of no bytes
pub kept_onto : (a b c : Device) (at : ℕ) (base room more : List ℕ) → at ≤ length room
    → GivesOnto a b base (take at room) → Gives b c [] → c.moved ≡ b.moved → GivesOnto a c base (take at (take at room ++ more))
kept_onto a b c at base room more within onto came still =
    rw (take_kept at room more within)
    (onto_more a b c base _ _ [] 0 onto came refl (omega (arith, still)) (sym (append-nil _)))

-- what was not written waits
pub passes_rest : (a b : Device) (n len : ℕ) (items written : List ℕ) → written ≡ items → length written ≡ len
    → n ≤ length written → Takes a b (take n written) → b.moved ≡ a.moved + n → (0 < n → b.moved < 2 ^ 64)
    → Passes a b items [] (take (len - n) (copy_within items n len 0))
passes_rest a b n len items written same all within takes moved short =
    let size = length-take-le n written within in
    let left = len - n in
    let fits : length items ≡ length written = ap length (sym same) in
    let rest = length-drop n items in
    let back : take left (copy_within items n len 0) ≡ drop n items =
    ap (λ (k : ℕ). take k (copy_within items n len 0)) (let h : left ≡ 0 + left = omega arith in h)
    ∙ take-paste items 0 (drop n items) left (omega arith) (omega arith) ∙ take_all left (drop n items) (omega arith) in
    record {
      taken = take n written;
      takes = takes;
      whole = append-nil items ∙ sym (rw (back, same) (take-append-drop n items));
      moved = omega arith;
      short = λ more. short (omega arith);
    }

-- a source has some bytes left
some_left : (bytes : Option (List ℕ)) (moved failures interruptions : ℕ) → (rest : List ℕ) × HasLeft (record {
  bytes = bytes;
  moved = moved;
  failures = failures;
  interruptions = interruptions;
}) rest
some_left None moved failures interruptions = ([], tt)
some_left (Some rest) moved failures interruptions = (rest, refl)

pub left_of : (source : Device) → (rest : List ℕ) × HasLeft source rest
left_of source = some_left source.bytes source.moved source.failures source.interruptions

pub calm_same : (a : Device) → IsCalm a a
calm_same a = record {
  steady = record { failures = refl; grows = omega arith; still = λ e. omega arith; moved = λ e. absurd (omega arith) };
  same = λ e. refl;
}

pub calm_calm : (a b c : Device) → IsCalm a b → IsCalm b c → IsCalm a c
calm_calm a b c first second = record {
  steady = record { failures = omega arith; grows = omega arith; still = λ e. grind arith; moved = λ e. grind arith };
  same = λ e. grind arith;
}

pub steady_steady : (a b c : Device) → IsSteady a b → IsSteady b c → IsSteady a c
steady_steady a b c first second = record {
  failures = omega arith;
  grows = omega arith;
  still = λ e. grind arith;
  moved = λ e. grind arith;
}

-- what is steady has not failed
pub steady_sound : (a b : Device) → IsSteady a b → HasFailed a b → ⊥
steady_sound a b steady (inl failed) = omega arith
steady_sound a b steady (inr (inl still)) = omega arith
steady_sound a b steady (inr (inr moved)) = omega arith

still_failed : (a b c : Device) → IsCalm a b → (c.moved ≡ b.moved) × (b.interruptions + 64 ≤ c.interruptions)
    → (a.moved < b.moved) ⊎ (b.moved ≤ a.moved) →
    ((c.moved ≡ a.moved) × (a.interruptions + 64 ≤ c.interruptions)) ⊎ ((a.moved < c.moved) × (64 ≤ c.interruptions))
still_failed a b c calm still (inr le) = let e : b.moved ≡ a.moved = omega arith in
    inl (omega arith, omega (arith, calm.same e))
still_failed a b c calm still (inl lt) = inr (omega arith, omega arith)

pub calm_failed : (a b c : Device) → IsCalm a b → HasFailed b c → HasFailed a c
calm_failed a b c calm (inl failed) = inl (omega arith)
calm_failed a b c calm (inr (inl still)) = inr (still_failed a b c calm still (cases_lt a.moved b.moved))
calm_failed a b c calm (inr (inr moved)) = inr (inr (omega arith, omega arith))

-- a device that is steady can count the next call, and few calls are counted with it
pub steady_can_count : (a b : Device) → IsSteady a b → CanCountCall a → CanCountCall b
steady_can_count a b steady can = (omega arith, grind arith)

pub steady_then_few : (a b c : Device) → IsSteady a b → CountsFew b c → CountsFew a c
steady_then_few a b c steady few = record { failures = omega arith; interruptions = grind arith }
