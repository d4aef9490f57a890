-- A command takes its arguments one after another, and the program its commands.
use Rattle.std.proofs.Common.{◌≡◌, ◌<◌, ◌+◌, ◌∙◌, ℕ, List, [], ◌∷◌, ◌++◌, length, map, take, true, false, ap, refl, sym, Result, Ok, Err}
use Rattle.std.specs.Prelude.{IfOk, IsSomeAnd}
use Rattle.std.specs.List.{fold, slice_index_or}
use Rattle.std.proofs.lemmas.List.{map-append, take_more}
use Rattle.std.proofs.lemmas.List.Sums.{fold_more}
use Rattle.clap.proofs.SimpleLemmas.{is_false, is_nil}
use Rattle.clap.proofs.WalkLemmas.{both}
use Rattle.clap.specs.Built.{AddsArg, AddsSubcommand}
use Rattle.clap.specs.Facts.{groups_of}
use Rattle.clap.specs.Simple.{App, app_of, app_of_fields, with_rule, with_subcommand}
use Rattle.clap.specs.Walk.{rule_of}
use Rattle.clap.specs.declared.builder.arg.Arg.{Arg}
use Rattle.clap.specs.declared.builder.command.Command.{Command}
use Rattle.clap.specs.declared.builder.command.Command.TheViews.{out-Command}
use Rattle.msr_options.specs.Tasks.{word_of}
use Rattle.msr_options.specs.declared.task.Verb.{Verb}
use Rattle.msr_arguments.specs.Rules.{app_with, program_alone, rule_for, rules_of, verbs, with_verb}
use Rattle.msr_arguments.specs.declared.commands.Argument.{Argument}

pub takes_more : (name : List ℕ) (arguments : List Argument) (i : ℕ) (argument : Argument) (old new : Command) (arg : Arg) →
    i < length arguments → argument ≡ slice_index_or arguments i argument →
    app_of old ≡ app_with name (map rule_for (take i arguments)) → AddsArg old arg new →
    rule_of arg ≡ rule_for argument → arg.global ≡ false →
    app_of new ≡ app_with name (map rule_for (take (i + 1) arguments))
takes_more name arguments i argument old new arg within at taken added rule local =
    let rules : map rule_for (take i arguments) ++ rule_of arg ∷ [] ≡ map rule_for (take (i + 1) arguments) =
    rw (rule, take_more arguments i argument within, ← at, map-append rule_for (take i arguments) (argument ∷ [])) refl in
    added.shape local ∙ ap (λ (app : App). with_rule app (rule_of arg)) taken ∙ ap (app_with name) rules

-- a plain command is in no group, and has no global argument
pub plain_fields : (command : Command) → (app_of command).top.is_plain ≡ true →
    (groups_of command ≡ []) × ((out-Command command).has_globals ≡ false)
plain_fields command plain =
    let (groups, rest) = both _ _ plain in
    (is_nil _ groups, is_false _ (both _ _ (both _ _ rest).1).0)

-- the name that help says leaves a command as it is
pub named_same : (E : Type 0) (app : App) (old : Command) (name : List ℕ) (answer : Result Command E) → app_of old ≡ app →
    IfOk answer (λ new. (out-Command new ≡ record (out-Command old) { bin_name = (out-Command new).bin_name })
    × IsSomeAnd (out-Command new).bin_name (λ s. s.bytes.items ≡ name)) → IfOk answer (λ new. app_of new ≡ app)
named_same E app old name (Ok new) is named = ap app_of_fields named.0 ∙ is
named_same E app old name (Err fault) is named = named

pub verb_added : (E : Type 0) (verb : Verb) (old sub : Command) (answer : Result Command E) →
    app_of sub ≡ app_with (word_of verb) (rules_of verb) →
    IfOk answer (λ new. AddsSubcommand old sub new) → IfOk answer (λ new. app_of new ≡ with_verb (app_of old) verb)
verb_added E verb old sub (Ok new) is added =
    added.shape (plain_fields sub (ap (λ (app : App). app.top.is_plain) is)).1
    ∙ ap (λ (app : App). with_subcommand (app_of old) app.top) is
verb_added E verb old sub (Err fault) is added = added

-- the program with the first so many of its commands
abbrev pub program_to : (count : ℕ) → App
program_to count = fold with_verb program_alone (take count verbs)

pub program_more : (i : ℕ) (verb : Verb) (old new : Command) → i < length verbs → verb ≡ slice_index_or verbs i verb →
    app_of old ≡ program_to i → app_of new ≡ with_verb (app_of old) verb → app_of new ≡ program_to (i + 1)
program_more i verb old new within at taken added =
    added ∙ ap (λ (app : App). with_verb app verb) taken ∙ ap (with_verb (program_to i)) at
    ∙ sym (fold_more with_verb program_alone verbs i verb within)
