use Rattle.std.proofs.Common.{◌≡◌, sym, ◌∙◌, rules, tests}
use Rattle.std.specs.List.{list_all}
use Rattle.std.proofs.lemmas.Iterator.{YieldsList-from_slice}
use Rattle.std.proofs.lemmas.Iterator.Search.{all_from_yields_List}
use Rattle.msr_header.specs.Reading.{is_digit}
use Rattle.msr_header.proofs.ReadingLemmas.{digits_are_sequence}
use Rattle.msr_header.proofs.reading.is_sequence.Goals as goal

pub returns-then-all : goal.returns-then-all
returns-then-all c =
    let bytes = c.args.bytes.now in
    let digits : c.all.result ≡ list_all is_digit bytes =
    all_from_yields_List is_digit _ _ c.all.result c.all.ensures.ran (YieldsList-from_slice bytes cc)
    (λ x b q k. search (rules, tests)) in
    c.if-all.true ∙ sym (digits_are_sequence bytes (sym digits ∙ c.if-all.true))
