use Rattle.std.proofs.Common.{Result, Ok, Err}
use Rattle.msr_verify.specs.Entries.{HasDayAnswer, IsJudgementOfDay, judgement_of}
use Rattle.msr_verify.specs.Opening.{places_at}
use Rattle.msr_verify.specs.declared.judging.Finding.{Finding}
use Rattle.msr_verify.specs.declared.judging.Finding.TheVariants.{Verified, NotShown, Differs}
use Rattle.msr_verify.specs.declared.judging.VerifyFault.{VerifyFault}
use Rattle.msr_verify.proofs.OpeningLemmas.{opened_judged}
use Rattle.msr_verify.proofs.day.judge_files.Goals as goal

-- what is told of a day with an answer says that some files have it
told : (answer : Result Finding VerifyFault) → HasDayAnswer answer → IsJudgementOfDay (judgement_of answer)
told (Ok Verified) has = has
told (Ok NotShown) has = has
told (Ok Differs) has = has
told (Err fault) has = has

pub returns-in-Ok-clause-told : goal.returns-in-Ok-clause-told
returns-in-Ok-clause-told g c =
    let found = c.verify_day.ensures.answer in
    rw c.judgement_of.ensures (told c.verify_day.result (record {
      file = found.first;
      records = found.second;
      text = found.text;
      answers = found.answers;
    }))

pub returns-in-Ok-clause-goes : goal.returns-in-Ok-clause-goes
returns-in-Ok-clause-goes g c =
    rw c.judgement_of.ensures (opened_judged (places_at c.args.places) (λ reader. g.T.Reader.Source.device reader) c.in-Ok.day c.verify_day.result _ _
    c.in-Ok.ensures.goes c.verify_day.ensures.answer)
