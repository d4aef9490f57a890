-- What clap is told of the commands, and what it has found in a line of one that it lets through.
use Rattle.std.specs.Prelude.{◌≡◌, ℕ, ⊤, pos, true, false, List, [], ◌∷◌, codes, map, Option, Some, IsSome, IsSomeAnd}
use Rattle.std.specs.List.{list_any}
use Rattle.std.specs.Str.{bytes_eq}
use Rattle.clap.specs.Words.{App, Rule, first_value, new_rule, one_text}
use Rattle.clap.specs.Simple.{new_shape, with_subcommand}
use Rattle.clap.specs.declared.builder.action.ArgAction.TheVariants.{Append, Set, SetTrue}
use Rattle.clap.specs.declared.builder.value_parser.ValueParser.{ValueParser}
use Rattle.clap.specs.declared.builder.value_parser.ValueParser.TheVariants.{Signed, String}
use Rattle.clap.specs.declared.parser.matches.Found.{Found}
use Rattle.msr_options.specs.Tasks.{IsTolerance, word_of}
use Rattle.msr_options.specs.declared.task.Verb.{Verb}
use Rattle.msr_options.specs.declared.task.Verb.TheVariants as verb
use Rattle.msr_arguments.specs.Found.{IsNumberOf}
use Rattle.msr_arguments.specs.declared.commands.Argument.{Argument}
use Rattle.msr_arguments.specs.declared.commands.Argument.TheVariants.{File, FileIfAny, Flag, Below, Known, Tolerance, Days, Length, DayLength}

-- the rule of an argument, as clap's clauses see it: of a file or folder that has to be given
abbrev pub file_rule : (name : List ℕ) → Rule
file_rule name = record (new_rule name) { action = Some Set; required = true }

-- of an option without a value
abbrev pub flag_rule : (name : List ℕ) → Rule
flag_rule name = record (new_rule name) { long = Some name; action = Some SetTrue }

-- of one with a value
abbrev pub option_rule : (name : List ℕ) → (default : List ℕ) → ValueParser → Rule
option_rule name default parser = record (new_rule name) {
  long = Some name;
  action = Some Set;
  value_names = 1;
  defaults = default ∷ [];
  parser = Some parser;
}

abbrev pub below_rule : Rule
below_rule =
    record (new_rule (codes "below")) { long = Some (codes "below"); action = Some Append; value_names = 1 }

abbrev pub known_rule : Rule
known_rule =
    record (new_rule (codes "known")) { long = Some (codes "known"); action = Some Set; value_names = 1 }

abbrev pub tolerance_rule : Rule
tolerance_rule = option_rule (codes "tolerance") (codes "1000") (Signed (pos 1) (pos 1_000_000))

abbrev pub days_rule : (default : List ℕ) → Rule
days_rule default = option_rule (codes "older-than") default (Signed (pos 0) (pos 4_294_967_295))

abbrev pub length_rule : Rule
length_rule = option_rule (codes "length") (codes "512") (Signed (pos 0) (pos 4_294_967_295))

abbrev pub day_length_rule : Rule
day_length_rule = option_rule (codes "length") (codes "512") String

-- of an argument of the commands
abbrev pub rule_for : Argument → Rule
rule_for (File name help) = file_rule name.now
rule_for (FileIfAny name help) = new_rule name.now
rule_for (Flag name help long_help) = flag_rule name.now
rule_for (Below help long_help) = below_rule
rule_for (Known help long_help) = known_rule
rule_for (Tolerance help long_help) = tolerance_rule
rule_for (Days default help long_help) = days_rule default.now
rule_for (Length help) = length_rule
rule_for (DayLength help long_help) = day_length_rule

abbrev pub folder_rules : List Rule
folder_rules = file_rule (codes "ROOT") ∷ file_rule (codes "OUT") ∷ file_rule (codes "REPORTS") ∷ []

-- what each command takes: options, then files, each in the order of its help
abbrev pub rules_of : Verb → List Rule
rules_of verb.Repack = length_rule ∷ flag_rule (codes "no-int24") ∷ tolerance_rule ∷ flag_rule (codes "strict")
    ∷ file_rule (codes "IN") ∷ new_rule (codes "OUT") ∷ []
rules_of verb.List = tolerance_rule ∷ flag_rule (codes "strict") ∷ flag_rule (codes "json") ∷ file_rule (codes "IN") ∷ []
rules_of verb.Check = file_rule (codes "PACKED") ∷ file_rule (codes "REPORT") ∷ []
rules_of verb.Compare = tolerance_rule ∷ file_rule (codes "ONE") ∷ file_rule (codes "OTHER") ∷ []
rules_of verb.Archive = day_length_rule ∷ flag_rule (codes "no-int24") ∷ tolerance_rule ∷ flag_rule (codes "strict")
    ∷ below_rule ∷ flag_rule (codes "resume") ∷ flag_rule (codes "check") ∷ flag_rule (codes "only-smaller")
    ∷ flag_rule (codes "keep-old") ∷ days_rule (codes "0") ∷ known_rule ∷ flag_rule (codes "names") ∷ flag_rule (codes "bytes") ∷ flag_rule (codes "quiet") ∷ flag_rule (codes "json") ∷ flag_rule (codes "dry-run") ∷ folder_rules
rules_of verb.Verify = known_rule ∷ flag_rule (codes "names") ∷ flag_rule (codes "quiet") ∷ flag_rule (codes "json") ∷ below_rule ∷ folder_rules
rules_of verb.Replace = flag_rule (codes "undo") ∷ below_rule ∷ flag_rule (codes "only-smaller") ∷ days_rule (codes "7")
    ∷ flag_rule (codes "touch") ∷ flag_rule (codes "int24") ∷ file_rule (codes "ROOT") ∷ file_rule (codes "OUT")
    ∷ file_rule (codes "REPORTS") ∷ file_rule (codes "ASIDE") ∷ []
rules_of verb.Feed = length_rule ∷ flag_rule (codes "no-int24") ∷ tolerance_rule ∷ flag_rule (codes "strict")
    ∷ file_rule (codes "REPORT") ∷ []

-- what `archive` takes as a dry run: nothing that speaks of what is kept
abbrev pub dry_run_rules : List Rule
dry_run_rules = day_length_rule ∷ flag_rule (codes "no-int24") ∷ tolerance_rule ∷ flag_rule (codes "strict")
    ∷ below_rule ∷ days_rule (codes "0") ∷ flag_rule (codes "bytes") ∷ flag_rule (codes "quiet") ∷ flag_rule (codes "json")
    ∷ flag_rule (codes "dry-run") ∷ file_rule (codes "ROOT") ∷ []

-- a command of that name with these arguments, and no other
abbrev pub app_with : (name : List ℕ) → List Rule → App
app_with name rules = record { top = record (new_shape name) { rules = rules }; subs = [] }

abbrev pub verbs : List Verb
verbs = verb.Repack ∷ verb.List ∷ verb.Check ∷ verb.Compare ∷ verb.Archive ∷ verb.Verify ∷ verb.Replace ∷ verb.Feed
    ∷ []

-- the program without its commands
abbrev pub program_alone : App
program_alone =
    record { top = record (new_shape (codes "msrepack")) { has_version = true; subcommand_required = true }; subs = [] }

-- the program with one command more
abbrev pub with_verb : App → Verb → App
with_verb app verb = with_subcommand app (app_with (word_of verb) (rules_of verb)).top

-- the program with all its commands
abbrev pub program_app : App
program_app = record {
  top = record (new_shape (codes "msrepack")) { is_leaf = false; has_version = true; subcommand_required = true };
  subs = map (λ verb. (app_with (word_of verb) (rules_of verb)).top) verbs;
}

-- each argument that has to be given has a value
abbrev pub HasNeeded : List Rule → Found → Type 0
HasNeeded [] found = ⊤
HasNeeded (rule ∷ rules) found = (rule.required ≡ true → IsSome (first_value found rule.id)) × HasNeeded rules found

-- the text of the tolerance is read as a number, and as one in its range
abbrev pub HoldsTolerance : Found → Type 0
HoldsTolerance found =
    (number : Option ℕ) → IsNumberOf (one_text found (codes "tolerance")) number → IsSomeAnd number IsTolerance

-- the text of the days is read as a number
abbrev pub HoldsDays : Found → Type 0
HoldsDays found = (number : Option ℕ) → IsNumberOf (one_text found (codes "older-than")) number → IsSome number

-- what clap has found in a line of these arguments that it lets through
pub record IsFoundBy (rules : List Rule) (found : Found) : Type 0 where
  pub files : HasNeeded rules found
  pub tolerance : list_any (λ rule. bytes_eq rule.id (codes "tolerance")) rules ≡ true → HoldsTolerance found
  pub days : list_any (λ rule. bytes_eq rule.id (codes "older-than")) rules ≡ true → HoldsDays found

-- the same in a line of the command
abbrev pub IsFoundFor : Verb → Found → Type 0
IsFoundFor verb found = IsFoundBy (rules_of verb) found
