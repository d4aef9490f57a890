use Rattle.std.proofs.Common.{[], subst, arith}
use Rattle.msr_replace.specs.Kinds.{HasInt24Row, HasOtherKind, TellsOfRow}
use Rattle.msr_replace.proofs.KindLemmas.{holds_one, lacks_all, sees_one}
use Rattle.msr_replace.proofs.kinds.has_int24.Goals as goal

pub records-init : goal.records-init
records-init g c = record {
  records = [];
  answers = [];
  read = c.new-reader.ensures.none (g.S.Source.device c.args.source.now);
  none = λ k d inside. absurd (omega arith);
}

pub records-preserved : goal.records-preserved
records-preserved g c =
    let u = c.records.invariant in
    let start = g.S.Source.device c.args.source.now in
    let one = rw c.in-Some.is at (c.in_ok-next.ensures.exact start u.records u.answers u.read) in
    let other : HasOtherKind one.found.row = subst (λ r. HasOtherKind r) one.row_is (subst (λ b. TellsOfRow c.in-Some.next b) c.if-is_found.false c.is_int24-is_found.ensures) in
    rw c.give_back.ensures (sees_one start (g.S.Source.device c.records.source) (g.S.Source.device c.next_record.new.source) c.records.reader c.next_record.new.self u one.found _ one.read other)

pub returns-then-is_found : goal.returns-then-is_found
returns-then-is_found g c =
    let u = c.records.invariant in
    let start = g.S.Source.device c.args.source.now in
    let one = rw c.in-Some.is at (c.in_ok-next.ensures.exact start u.records u.answers u.read) in
    let has : HasInt24Row one.found.row = subst (λ r. HasInt24Row r) one.row_is (subst (λ b. TellsOfRow c.in-Some.next b) c.if-is_found.true c.is_int24-is_found.ensures) in
    holds_one start (g.S.Source.device c.next_record.new.source) c.next_record.new.self u.records one.found _ one.read has

pub returns : goal.returns
returns g c =
    let u = c.records.invariant in
    let start = g.S.Source.device c.args.source.now in
    let none = rw c.in_default.is at (c.in_ok-next.ensures.exact start u.records u.answers u.read) in
    lacks_all start (g.S.Source.device c.records.source) (g.S.Source.device c.next_record.new.source) c.records.reader c.next_record.new.self u none
