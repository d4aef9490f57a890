use Rattle.std.proofs.Common.{rules, ◌≡◌, ◌∙◌, ◌++◌, ◌∷◌, [], ap, true, if◌then◌else◌, string_bytes, refl}
use Rattle.msr_options.specs.Known.{has_line, is_refusal}
use Rattle.msr_options.specs.Texts.{texts_of}
use Rattle.msr_options.proofs.LinesKnown.{texts_insert}
use Rattle.msr_options.proofs.known.KnownLines.add.Goals as goal

pub returns : goal.returns
returns c =
    let line = c.args.line.now in
    let key = c.in_ok-line.line in
    let refused : is_refusal line ≡ true = search rules in
    let bytes : string_bytes key ≡ line = search rules in
    let more = ap texts_of c.in_ok-insert.ensures.keys ∙ texts_insert c.self.inside.lines.keys key in
    more ∙ ap (λ lines. if has_line lines (string_bytes key) then lines else lines ++ string_bytes key ∷ []) c.self.view_is
    ∙ ap (λ text. if has_line c.args.self.now text then c.args.self.now else c.args.self.now ++ text ∷ []) bytes
    ∙ rw refused refl
