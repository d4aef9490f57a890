use Rattle.std.proofs.Common.{◌≡◌, codes, refl, sym, subst}
use Rattle.std.specs.Prelude.{string_bytes}
use Rattle.msr_exchange.specs.Names.{AreNames, beside, path_below}
use Rattle.msr_exchange.proofs.NameLemmas.{are_names_of, names_are}
use Rattle.msr_exchange.proofs.names.DayNames.new.Goals as goal

pub returns-clause-names : goal.returns-clause-names
returns-clause-names c =
    let work = c.args.work.now in
    let part : string_bytes c.in_ok-note_part.note_part ≡ path_below work.aside.now (beside c.args.path.now (codes ".msrepack-replace.note")) =
    rw (c.in_ok-note_part.ensures.ok, c.folder_above-folder.ensures) refl in
    names_are work.root.now work.out.now work.aside.now c.args.path.now c.in_ok-root.root c.in_ok-aside.aside c.in_ok-out.out
    (string_bytes c.in_ok-note.note) (string_bytes c.in_ok-note_part.note_part)
    c.in_ok-root.ensures c.in_ok-aside.ensures c.in_ok-out.ensures c.in_ok-note.ensures.ok part

pub returns-clause-are : goal.returns-clause-are
returns-clause-are c =
    let work = c.args.work.now in
    subst (λ n. AreNames n) (sym (returns-clause-names c))
    (are_names_of work.root.now work.out.now work.aside.now c.args.path.now c.requires.day.0 c.requires.day.1 c.requires.apart.out c.requires.apart.aside c.requires.apart.others)
