use Rattle.msr_sds.specs.Parts.{parts_of}
use Rattle.msr_sds.proofs.SdsName.parse.Goals as goal

pub returns-then-ne-clause-not_sds : goal.returns-then-ne-clause-not_sds
returns-then-ne-clause-not_sds c =
    (λ fault path reads. cc, λ none. absurd (none (parts_of c.in-Some.parts) c.in-Some.ensures.found))

pub returns-then-not-have_date-clause-not_sds : goal.returns-then-not-have_date-clause-not_sds
returns-then-not-have_date-clause-not_sds c =
    (λ fault path reads. cc, λ none. absurd (none (parts_of c.in-Some.parts) c.in-Some.ensures.found))

pub returns-clause-not_sds : goal.returns-clause-not_sds
returns-clause-not_sds c =
    (λ fault path reads. cc, λ none. absurd (none (parts_of c.in-Some.parts) c.in-Some.ensures.found))
