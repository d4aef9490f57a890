use Rattle.std.proofs.Common.{rules, lit<}
use borrow.Author.Tests.{tests}
use Rattle.std.proofs.lemmas.Iterator.{cases_from_all}
use Rattle.std.proofs.lemmas.Iterator.Splits.{YieldsList-from_str_split}
use Rattle.msr_sds.specs.Folders.{IsName}
use Rattle.msr_sds.proofs.FolderNames.{names_from_all}
use Rattle.msr_sds.proofs.folders.has_names.Goals as goal

pub returns : goal.returns
returns c =
    let names = YieldsList-from_str_split 47 c.args.path.now
    (lit< tt) c.split.ensures.text c.split.ensures.has_more c.split.ensures.pattern in
    names_from_all c.args.path.now _ (cases_from_all _ _ _ IsName (λ name. ¬ (IsName name)) c.all.ensures.ran names
    (λ x q k. search (rules, tests)) (λ x q k. search (rules, tests)))
