-- One more code.
use Rattle.std.proofs.Common.{rules, ◌≡◌, ◌<◌, ◌+◌, ◌*◌, map, ap, sym, ◌∙◌, arith}
use Rattle.std.specs.List.{range_with_len}
use Rattle.std.specs.Int.Digits.{number_from_digits}
use Rattle.msr_steim.specs.Frames.{code_in, codes_word}
use Rattle.msr_steim.proofs.Filling.{codes_lt, codes_more, codes_fit}
use Rattle.msr_steim.proofs.frames.codes_word.Goals as goal

pub overflow_mul-codes : goal.overflow_mul-codes
overflow_mul-codes c =
    let few = codes_lt c.args.version (map (λ g. g.items) c.args.groups.now) c.args.number c.loop-place.place in
    let bound : c.loop-place.codes < 1073741824 =
    codes_fit c.loop-place.codes c.loop-place.place (rw (← c.loop-place.invariant) at few) c.loop-place-test.true in
    search (rules, bound)

pub overflow_add-codes : goal.overflow_add-codes
overflow_add-codes c =
    let few = codes_lt c.args.version (map (λ g. g.items) c.args.groups.now) c.args.number c.loop-place.place in
    let bound : c.loop-place.codes < 1073741824 =
    codes_fit c.loop-place.codes c.loop-place.place (rw (← c.loop-place.invariant) at few) c.loop-place-test.true in
    let same : c.from.result ≡ c.written_in-code.result.0 = c.from.ensures in
    let sum : c.loop-place.codes * 4 + c.from.result < 4294967296 = omega (arith, c.written_in-code.ensures.small) in
    search (rules, sum)

pub loop-place-preserved : goal.loop-place-preserved
loop-place-preserved c =
    ap (λ n. n * 4 + c.from.result) c.loop-place.invariant
    ∙ ap (λ n. number_from_digits 4 (map (code_in c.args.version (map (λ g. g.items) c.args.groups.now))
    (range_with_len c.args.number c.loop-place.place)) * 4 + n) (c.from.ensures ∙ c.written_in-code.ensures.code)
    ∙ sym (codes_more c.args.version (map (λ g. g.items) c.args.groups.now) c.args.number c.loop-place.place)

pub returns : goal.returns
unfolding codes_word
returns c =
    let all : c.loop-place.place ≡ 16 = omega arith in
    c.loop-place.invariant ∙ ap (λ n. number_from_digits 4
    (map (code_in c.args.version (map (λ g. g.items) c.args.groups.now)) (range_with_len c.args.number n))) all
