-- A group has a word.
use Rattle.std.proofs.Common.{map, sym, ◌∙◌, subst}
use Rattle.msr_steim.specs.Frames.{group_in}
use Rattle.msr_steim.specs.Word.{IsGroup}
use Rattle.msr_steim.proofs.Filling.{no_group_no_code, no_group_no_word}
use Rattle.msr_steim.proofs.frames.written_in.Goals as goal

not_one : (c : goal.In-None) → IsGroup c.args.version (group_in (map (λ g. g.items) c.args.groups.now) c.args.number)
    → ⊥
not_one c is =
    let h = c.in-None.ensures.group.1 (subst (IsGroup c.args.version) (c.in-Some.ensures ∙ sym c.deref.ensures.0) is) in
    absurd cc

pub returns-in-None-clause-code : goal.returns-in-None-clause-code
returns-in-None-clause-code c =
    no_group_no_code c.args.version (map (λ g. g.items) c.args.groups.now) c.args.number c.requires (not_one c)

pub returns-in-None-clause-word : goal.returns-in-None-clause-word
returns-in-None-clause-word c =
    no_group_no_word c.args.version (map (λ g. g.items) c.args.groups.now) c.args.number c.requires (not_one c)
