use Rattle.std.proofs.Common.{◌++◌, FitsSigned, codes, refl, rules, to_z-of_z}
use Rattle.std.proofs.lemmas.Result.{on_ok_weaker}
use Rattle.std.specs.Fmt.{signed_decimal}
use Rattle.std.specs.Int.{w128}
use Rattle.msr_report.specs.Json.{HaveSameName}
use Rattle.msr_report.proofs.Pieces.{on_pushed}
use Rattle.msr_report.proofs.json.push_began.Goals as goal

pub returns-in_default : goal.returns-in_default
returns-in_default c = rw c.in_default.is (on_pushed c.push_str.result _ _ _ _
    (λ is. (codes "\"began\":\"first\"", (refl, is))) c.push_str.ensures.bytes)

pub returns-then-not-has_same_name : goal.returns-then-not-has_same_name
returns-then-not-has_same_name c =
    let other : HaveSameName c.in-Some.before.key c.args.segment.now.key → ⊥ =
    search (rules, c.if-not-has_same_name.ensures) in
    rw c.in-Some.is (on_pushed c.push_str-then-not-has_same_name.result _ _ _ _
    (λ is. (codes "\"began\":\"channel\"", ((λ _. refl, λ same. absurd (other same)), is)))
    c.push_str-then-not-has_same_name.ensures.bytes)

pub returns : goal.returns
returns c =
    let fits : FitsSigned w128 c.micros_after-micros.result = search rules in
    let same : HaveSameName c.in-Some.before.key c.args.segment.now.key = search rules in
    let why = c.why_apart-why.ensures in
    let micros = c.micros_after-micros.result in
    let written = rw (to_z-of_z fits) at c.write.ensures.bytes in
    rw c.in-Some.is (on_ok_weaker c.write.result (λ is. (
      codes "\"began\":\"" ++ (c.why_apart-why.result.now ++ (codes "\",\"gap_us\":" ++ signed_decimal micros)),
      (
        (
          λ other. absurd (other same),
          λ _. record {
            micros = micros;
            offset = c.micros_after-micros.ensures;
            why = c.why_apart-why.result.now;
            settings = why.settings;
            gap = rw (to_z-of_z fits) at why.gap;
            overlap = rw (to_z-of_z fits) at why.overlap;
            is = refl;
          },
        ),
        is,
      ),
    )) written)
