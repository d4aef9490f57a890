use Rattle.msr_replace.proofs.verifying.is_least.Goals as goal

pub returns-in-Ok : goal.returns-in-Ok
returns-in-Ok g c = λ is.
    let by = c.is_least_by.ensures is in
    let read = c.in-Ok.ensures.answer in
    record {
      first = by.0;
      text = read.0;
      left_records = by.1;
      left_report = read.1;
      least = record { report = c.in-Ok.report; read = read.2; least = by.2 };
    }
