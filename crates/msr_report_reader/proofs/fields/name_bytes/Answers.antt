use Rattle.std.proofs.Common.{◌≡◌, arith}
use Rattle.std.proofs.lemmas.List.{length-replicate}
use Rattle.msr_report_reader.proofs.Bytes.{all_read, no_more_read, none_read, one_read, only_read}
use Rattle.msr_report_reader.proofs.fields.name_bytes.Goals as goal

pub bytes-init : goal.bytes-init
bytes-init g c = none_read g.row.N c.args.text.now _ (length-replicate _ _)

pub bytes-preserved : goal.bytes-preserved
bytes-preserved g c =
    one_read g.row.N c.bytes.at c.in_ok-byte.byte c.args.text.now c.bytes.bytes c.bytes.rest.now c.in_ok-byte.more.now
    (omega arith) c.bytes.invariant c.in_ok-byte.ensures.found c.in_ok-byte.ensures.only

pub returns-in_err-byte-clause-only : goal.returns-in_err-byte-clause-only
returns-in_err-byte-clause-only g c all more are is =
    absurd (no_more_read g.row.N c.bytes.at c.args.text.now c.bytes.bytes c.bytes.rest.now (omega arith)
    c.bytes.invariant c.in_err-byte.ensures.only all more are is)

pub returns-clause-found : goal.returns-clause-found
returns-clause-found g c =
    let done = c.bytes.auto.at-end in
    let end : c.bytes.at ≡ g.row.N = omega arith in
    all_read g.row.N c.bytes.at c.args.text.now c.bytes.bytes c.bytes.rest.now end c.bytes.invariant

pub returns-clause-only : goal.returns-clause-only
returns-clause-only g c =
    let done = c.bytes.auto.at-end in
    let end : c.bytes.at ≡ g.row.N = omega arith in
    only_read g.row.N c.bytes.at c.args.text.now c.bytes.bytes c.bytes.rest.now end c.bytes.invariant
