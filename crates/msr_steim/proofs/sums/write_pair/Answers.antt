-- One sum more, and another that is the word's own if it has two fields.
use Rattle.std.proofs.Common.{rules, ◌≡◌, ◌<◌, ℕ, ◌+◌, ◌-◌, ◌*◌, ◌/◌, ◌%◌, ◌^◌, ℤ, pos, ◌+ℤ◌, to_z, of_z, w32, SFits, List, [], ◌∷◌, ◌++◌, length, take, get_or, arith, ap, refl, sym, ◌∙◌, append_assoc}
use Rattle.std.specs.Int.{int_wrap}
use Rattle.std.specs.Prelude.{slice_set}
use Rattle.std.proofs.lemmas.Grind.{common_steps}
use Rattle.std.proofs.lemmas.Int.{to_z-of_z, wrapping_add_onto}
use Rattle.std.proofs.lemmas.List.{take_more_set, take-set}
use Rattle.msr_steim.specs.Area.{sums_after}
use Rattle.msr_steim.specs.Word.{numbers_in, signed_of}
use Rattle.msr_steim.proofs.Shifts.{length-numbers_in}
use Rattle.msr_steim.proofs.Summing.{all_written}
use Rattle.msr_steim.proofs.sums.write_pair.Goals as goal

-- a sum that wraps
wrapped : (last d : ℤ) → SFits w32 last → SFits w32 d
    → to_z w32 ((of_z w32 last + of_z w32 d) % 4294967296) ≡ int_wrap w32 (last +ℤ d)
wrapped last d last_fits d_fits = wrapping_add_onto w32 (of_z w32 last) d (search rules) d_fits
    ∙ ap (λ z. int_wrap w32 (z +ℤ d)) (to_z-of_z w32 last last_fits)

two_put : (out : List ℤ) (place : ℕ) (a b : ℤ) → place + 2 < length out
    → take (place + 2) (slice_set (slice_set out place a) (place + 1) b) ≡ take place out ++ a ∷ b ∷ []
two_put out place a b room =
    let next : place + 2 ≡ place + 1 + 1 = omega arith in
    let within : place + 1 < length (slice_set out place a) = grind (arith, common_steps) in
    ap (λ n. take n (slice_set (slice_set out place a) (place + 1) b)) next
    ∙ take_more_set (slice_set out place a) (place + 1) b within
    ∙ ap (λ xs. xs ++ b ∷ []) (take_more_set out place a (omega (arith, room)))
    ∙ append_assoc (take place out) (a ∷ []) (b ∷ [])

one_put : (out : List ℤ) (place : ℕ) (a b : ℤ) → place + 2 < length out
    → take (place + 1) (slice_set (slice_set out place a) (place + 1) b) ≡ take place out ++ a ∷ []
one_put out place a b room = take-set (slice_set out place a) (place + 1) b
    ∙ take_more_set out place a (omega (arith, room))

one_last : (out : List ℤ) (place : ℕ) (a b : ℤ) → place + 2 < length out
    → get_or (slice_set (slice_set out place a) (place + 1) b) place (pos 0) ≡ a
one_last out place a b room = grind (arith, common_steps)

two_last : (out : List ℤ) (place : ℕ) (a b : ℤ) → place + 2 < length out
    → get_or (slice_set (slice_set out place a) (place + 1) b) (place + 1) (pos 0) ≡ b
two_last out place a b room = grind (arith, common_steps)

two_sums : (word : ℕ) (last a b d e : ℤ) → a ≡ int_wrap w32 (last +ℤ d) → b ≡ int_wrap w32 (a +ℤ e)
    → d ≡ signed_of 16 (word / 2 ^ (1 * 16) % 2 ^ 16) → e ≡ signed_of 16 (word / 2 ^ (0 * 16) % 2 ^ 16)
    → a ∷ b ∷ [] ≡ sums_after last (take 2 (numbers_in word 16 2))
unfolding numbers_in
two_sums word last a b d e first second d_is e_is = rw (second, first, d_is, e_is) refl

one_sum : (word : ℕ) (last a d : ℤ) → a ≡ int_wrap w32 (last +ℤ d)
    → d ≡ signed_of 32 (word / 2 ^ (0 * 32) % 2 ^ 32) → a ∷ [] ≡ sums_after last (take 1 (numbers_in word 32 1))
unfolding numbers_in
one_sum word last a d first d_is = rw (first, d_is) refl

pub returns-then-code-eq2-clause-two : goal.returns-then-code-eq2-clause-two
returns-then-code-eq2-clause-two c is =
    let out = c.args.out.now in
    let place = c.args.at.place in
    let last = c.args.at.last in
    let d = c.first_of_pair.result in
    let e = c.difference_at.result in
    let ds = numbers_in c.args.word 16 2 in
    let m = (of_z w32 last + of_z w32 d) % 4294967296 in
    let a = to_z w32 m in
    let b = to_z w32 ((m + of_z w32 e) % 4294967296) in
    let last_fits : SFits w32 last = search rules in
    let d_fits : SFits w32 d = search rules in
    let e_fits : SFits w32 e = search rules in
    let first : a ≡ int_wrap w32 (last +ℤ d) = wrapped last d last_fits d_fits in
    let second : b ≡ int_wrap w32 (a +ℤ e) = wrapping_add_onto w32 m e (search rules) e_fits in
    let d_is = c.first_of_pair.ensures.two is in
    let e_is = c.difference_at.ensures in
    let next : place + 4 - c.from.result ≡ place + 2 = omega (arith, c.from.ensures, is) in
    let sums : a ∷ b ∷ [] ≡ sums_after last (take 2 ds) = two_sums c.args.word last a b d e first second d_is e_is in
    let here : place + 2 - 1 ≡ place + 1 = omega arith in
    let wide : length ds ≡ 2 = length-numbers_in c.args.word 16 2 in
    record {
      place = next;
      room = omega (arith, next, c.requires.room);
      samples = rw next (two_put out place a b c.requires.room
          ∙ all_written out (a ∷ b ∷ []) ds last place 2 sums (sym wide) (omega (arith, wide, c.requires.room)));
      last = rw (next, here) (sym (two_last out place a b c.requires.room));
    }

pub returns-else-code-eq2-clause-one : goal.returns-else-code-eq2-clause-one
returns-else-code-eq2-clause-one c is =
    let out = c.args.out.now in
    let place = c.args.at.place in
    let last = c.args.at.last in
    let d = c.first_of_pair.result in
    let ds = numbers_in c.args.word 32 1 in
    let m = (of_z w32 last + of_z w32 d) % 4294967296 in
    let a = to_z w32 m in
    let b = to_z w32 ((m + of_z w32 c.difference_at.result) % 4294967296) in
    let last_fits : SFits w32 last = search rules in
    let d_fits : SFits w32 d = search rules in
    let first : a ≡ int_wrap w32 (last +ℤ d) = wrapped last d last_fits d_fits in
    let next : place + 4 - c.from.result ≡ place + 1 = omega (arith, c.from.ensures, is) in
    let sums : a ∷ [] ≡ sums_after last (take 1 ds) =
    one_sum c.args.word last a d first (c.first_of_pair.ensures.one is) in
    let wide : length ds ≡ 1 = length-numbers_in c.args.word 32 1 in
    let here : place + 1 - 1 ≡ place = omega arith in
    record {
      place = next;
      room = omega (arith, next, c.requires.room);
      samples = rw next (one_put out place a b c.requires.room
          ∙ all_written out (a ∷ []) ds last place 1 sums (sym wide) (omega (arith, wide, c.requires.room)));
      last = rw (next, here) (sym (one_last out place a b c.requires.room));
    }
