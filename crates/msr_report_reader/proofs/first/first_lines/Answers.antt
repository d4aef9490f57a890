use Rattle.std.proofs.Common.{◌≡◌, ◌∙◌, ◌&&◌, ap, refl, sym, true, rules, ℕ, List, ◌++◌, ◌∷◌, codes, decimal}
use Rattle.msr_base.specs.Lengths.{bytes_of}
use Rattle.msr_report.specs.Text.{kinds_line}
use Rattle.msr_report_reader.proofs.Begun.{one_of, other_of}
use Rattle.msr_report_reader.proofs.FirstFaults.{fault_1, fault_2, fault_3, fault_counts}
use Rattle.msr_report_reader.proofs.RestOfText.{counts_split, counts_then}
use Rattle.msr_report_reader.proofs.first.first_lines.Goals as goal

pub returns-in_default-clause-fault : goal.returns-in_default-clause-fault
returns-in_default-clause-fault c = λ more enough.
    fault_1 c.args.text.now more c.may_begin.result enough (c.may_begin.ensures more) c.in_default.ensures.only

pub returns-in_default-record_length-clause-fault : goal.returns-in_default-record_length-clause-fault
returns-in_default-record_length-clause-fault c = λ more enough.
    fault_2 c.args.text.now c.in-Some.second.now more c.may_begin-in_default-record_length.result c.in-Some.ensures.found enough (c.may_begin-in_default-record_length.ensures more)
    c.in_default-record_length.ensures.only

pub returns-in_default-tolerance-clause-fault : goal.returns-in_default-tolerance-clause-fault
returns-in_default-tolerance-clause-fault c = λ more enough.
    fault_3 c.args.text.now c.in-Some.second.now c.in-Some-record_length.third.now more
    (bytes_of c.in-Some-record_length.length) c.may_begin-in_default-tolerance.result c.in-Some-record_length.ensures.is_length c.in-Some.ensures.found
    c.in-Some-record_length.ensures.found enough (c.may_begin-in_default-tolerance.ensures more) c.in_default-tolerance.ensures.only

pub returns-in_default-counts-clause-fault : goal.returns-in_default-counts-clause-fault
returns-in_default-counts-clause-fault c = λ more enough.
    rw c.lines_before.ensures
    (fault_counts c.args.text.now c.in-Some.second.now c.in-Some-record_length.third.now c.in-Some-tolerance.fourth.now
    c.kinds-kinds.result.1.now more (bytes_of c.in-Some-record_length.length) c.in-Some-tolerance.tolerance
    c.kinds-kinds.result.0 _ c.in-Some-record_length.ensures.is_length c.in-Some-tolerance.ensures.range.0
    c.in-Some-tolerance.ensures.range.1 c.in-Some.ensures.found c.in-Some-record_length.ensures.found
    c.in-Some-tolerance.ensures.found c.kinds-kinds.ensures.found c.kinds-kinds.ensures.only enough
    (λ x is. one_of c.may_begin-in_default-counts.result (c.may_begin-in_default-counts-2.result && c.eq.result)
    (c.may_begin-in_default-counts.ensures more x is)) (λ x all is.
    let second = c.may_begin-in_default-counts-2.ensures more x is in
    let same : c.eq.result ≡ true = rw all at c.eq.ensures in
    other_of c.may_begin-in_default-counts.result (c.may_begin-in_default-counts-2.result && c.eq.result)
    (rw (second, same) refl)) c.in_default-counts.ensures.only)

pub returns-clause-found : goal.returns-clause-found
returns-clause-found c =
    c.in-Some.ensures.found ∙ ap (λ (l : List ℕ). codes "msrepack 1" ++ (10 ∷ l))
    (c.in-Some-record_length.ensures.found ∙ ap (λ (l : List ℕ). codes "length "
    ++ (decimal (bytes_of c.in-Some-record_length.length) ++ (10 ∷ l)))
    (c.in-Some-tolerance.ensures.found ∙ ap (λ (l : List ℕ). codes "tolerance "
    ++ (decimal c.in-Some-tolerance.tolerance ++ (10 ∷ l)))
    (c.kinds-kinds.ensures.found ∙ ap (λ (l : List ℕ). kinds_line c.kinds-kinds.result.0 ++ l)
    (c.in-Some-counts.ensures.found ∙ sym (counts_split c.in-Some-counts.counts c.in-Some-counts.rest.now)
    ∙ sym (counts_then c.in-Some-counts.counts c.in-Some-counts.rest.now)))))

pub returns-clause-is_first : goal.returns-clause-is_first
returns-clause-is_first c = record {
  is_length = c.in-Some-record_length.ensures.is_length;
  least = c.in-Some-tolerance.ensures.range.0;
  most = c.in-Some-tolerance.ensures.range.1;
  read = search rules;
  empty = search rules;
  mismatched = search rules;
}
