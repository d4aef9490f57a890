use Rattle.std.proofs.Common.{◌≡◌, ap, ◌∙◌, unwrap_or}
use Rattle.std.specs.Map.{lookup}
use Rattle.std.specs.Str.{bytes_eq}
use Rattle.indexmap.specs.IndexMap.{insert_entry}
use Rattle.msr_folders.specs.Named.{named}
use Rattle.msr_folders.specs.Totals.{Add, totals_of}
use Rattle.msr_folders.proofs.AddLemmas.{none, IsPlus, insert_entry_totals}
use Rattle.msr_folders.proofs.RowLemmas.{lookup_named, named-insert_entry}
use Rattle.msr_folders.proofs.totals.Totals.add.Goals as goal

pub returns-clause-added : goal.returns-clause-added
returns-clause-added c adds was =
    let name = c.args.name.now in
    let add : Add = record { name = name; read = c.args.read; written = c.args.written } in
    let old = c.self.inside.by_name.entries in
    let after = c.plus.result in
    let rows : named old ≡ totals_of adds = c.self.view_is ∙ was in
    let in_map = c.copied.ensures ∙ c.get.ensures.value ∙ lookup_named name old in
    let found = in_map ∙ ap (lookup (bytes_eq name)) rows in
    let before = c.unwrap_or-before.ensures ∙ ap (λ o. unwrap_or o none) found in
    let plus : IsPlus c.unwrap_or-before.result add after = record {
      files = c.plus.ensures.files;
      read = c.plus.ensures.read;
      written = c.plus.ensures.written;
    } in
    let more = insert_entry_totals adds add after (rw before at plus) in
    let key = c.in_ok-name.name in
    ap named c.in_ok-insert.ensures.entries ∙ named-insert_entry old key after
    ∙ (λ i. insert_entry bytes_eq (rows i) (c.in_ok-name.ensures.ok i) after) ∙ more
