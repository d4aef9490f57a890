-- Its header and its data area.
use Rattle.msr_record.proofs.ExistingRecord.{has_record}
use Rattle.msr_record.proofs.record_laws.run_has_record.Goals as goal

pub returns : goal.returns
returns c = λ old key start sequence before samples kind size power writable instant some fit fits.
    let r = has_record old key start sequence before samples kind size power writable.is_key writable.quality
    writable.normal instant some fit fits in (r.bytes, r.appended)
