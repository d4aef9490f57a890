use Rattle.std.proofs.Common.{◌≡◌, codes, rules}
use Rattle.std.proofs.lemmas.Result.{err_from_is_err_and}
use Rattle.msr_command.specs.Named.{IsReaderOf}
use Rattle.msr_command.proofs.Comparisons.{compare_unread, two_known}
use Rattle.msr_command.proofs.Inputs.{comes_file, comes_other, comes_standard}
use Rattle.msr_command.proofs.comparing.compare_files.Goals as goal

pub returns-in_err-opened : goal.returns-in_err-opened
returns-in_err-opened g c =
    let p = err_from_is_err_and c.from_residual.result c.from_residual.ensures.1 in
    rw (p.1, p.2) (compare_unread _ _ c.args.asked.now.options c.args.asked.now
    (g.O.Sink.device c.args.output.now) c.in_err-opened.field-0.0 c.in_err-opened.ensures.stop)

pub returns-in_err-other-in-None : goal.returns-in_err-other-in-None
returns-in_err-other-in-None g c =
    let p = err_from_is_err_and c.from_residual-in_err-other-in-None.result
    c.from_residual-in_err-other-in-None.ensures.1 in
    rw (p.1, p.2) (compare_unread _ _ c.args.asked.now.options c.args.asked.now
    (g.O.Sink.device c.args.output.now) c.in_err-other-in-None.field-0.0 c.in_err-other-in-None.ensures.stop)

pub returns-in_ok-other-in-None : goal.returns-in_ok-other-in-None
returns-in_ok-other-in-None g c =
    let is : c.args.asked.now.one.now ≡ codes "-" = search rules in
    let does = c.compare_sources.ensures in
    two_known does (λ opened. comes_standard is (does.come_one tt))
    (λ opened. comes_file (λ known. known.0 is) c.in_ok-other-in-None.ensures.reads (does.come_other tt))

pub returns-in-Some : goal.returns-in-Some
returns-in-Some g c =
    let no_one : c.args.asked.now.one.now ≡ codes "-" → ⊥ = search rules in
    let reads : IsReaderOf (g.F.NamedFiles.went c.args.files.now) c.args.asked.now.one.now (g.F.Reader.Source.device c.in-Some.file) =
    search rules in
    let does = c.compare_with.ensures in
    two_known does (λ opened. comes_file no_one reads (does.come_one opened))
    (λ opened. comes_other no_one (does.come_other opened))
