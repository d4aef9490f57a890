-- A line is refused in which the word after the program's name is no command, with help or the version only if that
-- word asks for it.
use Rattle.std.proofs.Common.{◌∙◌, inl, inr, true≢false, ◌≡◌, ◌≢◌, ◌&&◌, ◌||◌, ℕ, Bool, cond, true, false, not, is_some, List, [], ◌∷◌, ap, sym, refl, subst, length, map, codes, Option, None, Some}
use Rattle.std.specs.List.{find, list_all}
use Rattle.std.specs.Option.{IsSomeAnd, option_map, option_map_or}
use Rattle.std.specs.Prelude.{slice_get}
use Rattle.std.specs.Str.{bytes_eq, chars}
use Rattle.std.proofs.lemmas.Slice.Eq.{bytes_eq-Decides}
use Rattle.clap.specs.Faults.{bundle_fault, bundle_step_fault, defaults_fault, fault_of, flag_word_fault, flags_fault, is_simple_and_free, long_fault, other_fault, short_fault, step_fault, turn_fault, walk_fault}
use Rattle.clap.specs.Kinds.{HasKind, Kinds, or_else}
use Rattle.clap.specs.Lexer.{long_of, short_of}
use Rattle.clap.specs.Simple.{App, Shape, built, filled, help_rule, names_of, version_rule}
use Rattle.clap.specs.Walk.{Held, Rule, Step, Text, after_flag, arg_by_long, arg_by_short, bundle, bundle_met, bundle_step, has_long, has_short, idle, long_or_other, nothing_held, plain, short_or_plain, subcommand_met, subcommand_or_other, trailing, value, walk_from, walked}
use Rattle.clap.specs.Values.{kind_of}
use Rattle.clap.specs.declared.error.Error.{Error}
use Rattle.msr_options.specs.Asked.{AsksAlone}
use Rattle.msr_options.specs.Tasks.{word_of}
use Rattle.msr_options.specs.declared.task.NoTask.{NoTask}
use Rattle.msr_options.specs.declared.task.Verb.{Verb}
use Rattle.msr_options.specs.declared.task.Verb.TheVariants as verb
use Rattle.msr_arguments.specs.Found.{EndsFor, IsToldByClap}
use Rattle.msr_arguments.specs.Rules.{program_app}
use Rattle.msr_arguments.proofs.Asked.{Quiet, asks, by_test, either, is_tame, neither, quiet_cond, quiet_else, quiet_first, told, told_as, word_quiet}
use denote.Ref.{Bor}

program_simple : is_simple_and_free program_app ≡ true
program_simple = refl

-- the first fault decides
first_none : (first rest : Kinds) → or_else first rest ≡ [] → first ≡ []
first_none [] rest none = refl
first_none (kind ∷ kinds) rest none = none

rest_none : (first rest : Kinds) → or_else first rest ≡ [] → rest ≡ []
rest_none [] rest none = none
rest_none (kind ∷ kinds) rest none = cc

some_fault : (kinds : Kinds) → is_some (slice_get kinds 0) ≡ true → kinds ≢ []
some_fault [] some none = cc
some_fault (kind ∷ kinds) some none = cc

not_true : (b : Bool) → b ≢ true → b ≡ false
not_true true other = absurd (other refl)
not_true false other = refl

-- the program has the flags for help and the version alone
abbrev help_flag : Rule
help_flag = filled help_rule

abbrev version_flag : Rule
version_flag = filled version_rule

abbrev flags : List Rule
flags = help_flag ∷ version_flag ∷ []

by_flag : (P : Option Rule → Type 0) (test : Rule → Bool) → P None → P (Some help_flag) → P (Some version_flag) →
    P (find test flags)
by_flag P test none help version =
    elim (test help_flag) as (λ first. P (cond first (Some help_flag)
    (cond (test version_flag) (Some version_flag) None))) [
      | true ↦ help
      | false ↦ elim (test version_flag) as (λ other. P (cond other (Some version_flag) None)) [
        | true ↦ version
        | false ↦ none
      ]
    ]

long_refused : (name : Text) (given : Option Text) → long_fault flags false (arg_by_long flags name) given nothing_held ≢ []
long_refused name given =
    by_flag (λ o. long_fault flags false o given nothing_held ≢ []) (λ rule. not (is_some rule.index) && has_long rule name)
    (λ none. cc) (flag_refused given) (version_refused given)
  where
    flag_refused : (text : Option Text) → long_fault flags false (Some help_flag) text nothing_held ≢ []
    flag_refused None none = cc
    flag_refused (Some text) none = cc

    version_refused : (text : Option Text) → long_fault flags false (Some version_flag) text nothing_held ≢ []
    version_refused None none = cc
    version_refused (Some text) none = cc

short_refused : (letter : ℕ) (rest : Text) (next : Held → Kinds) →
    short_fault flags false (arg_by_short flags letter) rest nothing_held next ≢ []
short_refused letter rest next =
    by_flag (λ o. short_fault flags false o rest nothing_held next ≢ [])
    (λ rule. not (is_some rule.index) && has_short rule letter) (λ none. cc) (λ none. cc) (λ none. cc)

bundle_plain : (word : Text) → flags_fault flags false (length word) word 0 nothing_held ≡ [] →
    (bundle_met flags (length word) word 0 plain nothing_held).1 ≡ plain
unfolding flags_fault bundle_met
bundle_plain [] none = refl
bundle_plain (x ∷ xs) none =
    elim (slice_get (chars (x ∷ xs)) 0) as (λ o.
    bundle_step_fault flags false o (x ∷ xs) 0 nothing_held (flags_fault flags false (length xs)) ≡ [] →
    (bundle_step flags o (x ∷ xs) 0 plain nothing_held (bundle_met flags (length xs))).1 ≡ plain) [
      | None ↦ λ none. refl
      | Some letter ↦ λ none. absurd (short_refused letter _ _ none)
    ] none

-- a word that is no flag, and not refused as one, stands for a value
word_plain : (word : Text) → flag_word_fault flags false (long_of word) word nothing_held ≡ [] →
    (long_or_other flags idle word (long_of word) nothing_held).1 ≡ value
word_plain word =
    elim (long_of word) as (λ long. flag_word_fault flags false long word nothing_held ≡ [] →
    (long_or_other flags idle word long nothing_held).1 ≡ value) [
      | Some long ↦ λ none. absurd (long_refused long.0 long.1 none)
      | None ↦ elim (short_of word) as (λ short.
          option_map_or (λ letters. bundle_fault flags false letters nothing_held) short [] ≡ [] →
          (short_or_plain flags idle word short nothing_held).1 ≡ value) [
            | None ↦ λ none. refl
            | Some letters ↦ λ none.
                ap (λ outcome. (after_flag flags idle word (bundle flags letters nothing_held).0 outcome).1)
                (bundle_plain letters none)
          ]
    ]

abbrev top : Shape
top = (built program_app).top

-- a word that is no command may be `help`
by_name : (P : Option Text → Type 0) (word : Text) → ((verb : Verb) → word ≢ word_of verb) → P None →
    (word ≡ codes "help" → P (Some (codes "help"))) → P (subcommand_met (names_of (built program_app)) idle word)
by_name P word other none help =
    rw (
      differs verb.Repack,
      differs verb.List,
      differs verb.Check,
      differs verb.Compare,
      differs verb.Archive,
      differs verb.Verify,
      differs verb.Replace,
      differs verb.Feed,
    )
    (elim (bytes_eq (codes "help") word) as (λ same. bytes_eq (codes "help") word ≡ same →
    P (option_map (λ (s : Text × List Text). s.0) (cond (same || false) (Some (codes "help", [])) None))) [
      | true ↦ λ is. help (sym ((bytes_eq-Decides (codes "help") word).0 is))
      | false ↦ λ is. none
    ] refl)
  where
    differs : (verb : Verb) → bytes_eq (word_of verb) word ≡ false
    differs verb =
        not_true _ (λ same. other verb (sym ((bytes_eq-Decides (word_of verb) word).0 same)))

value_refused : (held : Held) (step : Step) → step ≡ value → step_fault top 1 held step ≢ []
value_refused held step is none =
    some_fault (step_fault top 1 held value) refl (subst (λ s. step_fault top 1 held s ≡ []) is none)

first_word : (word : Text) → ((verb : Verb) → word ≢ word_of verb) →
    turn_fault top (names_of (built program_app)) (walk_from nothing_held) word ≡ [] → word ≡ codes "--"
first_word word other =
    by_name (λ o. or_else (other_fault top o word nothing_held)
    (let met = subcommand_or_other flags o idle 1 word nothing_held in step_fault top 1 met.0 met.1) ≡ [] →
    word ≡ codes "--")
    word other
    (elim (bytes_eq word (codes "--")) as (λ same. bytes_eq word (codes "--") ≡ same →
    or_else (cond same [] (flag_word_fault flags false (long_of word) word nothing_held))
    (let met = cond same (nothing_held, trailing 1) (long_or_other flags idle word (long_of word) nothing_held) in
    step_fault top 1 met.0 met.1) ≡ [] → word ≡ codes "--") [
      | true ↦ λ is none. (bytes_eq-Decides word (codes "--")).0 is
      | false ↦ λ is none.
          let fault = flag_word_fault flags false (long_of word) word nothing_held in
          let met = long_or_other flags idle word (long_of word) nothing_held in
          let after = step_fault top 1 met.0 met.1 in
          absurd (value_refused met.0 met.1 (word_plain word (first_none fault after none)) (rest_none fault after none))
    ] refl)
    (λ is none. cc)

after_dashes : (name : Text) (rest : List Text) → fault_of program_app (name ∷ codes "--" ∷ rest) ≢ []
unfolding walk_fault walked defaults_fault
after_dashes name [] = some_fault (fault_of program_app (name ∷ codes "--" ∷ [])) refl
after_dashes name (word ∷ rest) = some_fault (fault_of program_app (name ∷ codes "--" ∷ word ∷ rest)) refl

refused : (words : List (Bor Text)) →
    IsSomeAnd (slice_get words 1) (λ word. (verb : Verb) → word.now ≢ word_of verb) →
    fault_of program_app (map (λ word. word.now) words) ≢ []
unfolding walk_fault
refused [] other none = absurd other
refused (name ∷ []) other none = absurd other
refused (name ∷ word ∷ rest) other none =
    let words = map (λ (w : Bor Text). w.now) rest in
    let dashes = first_word word.now other (first_none _ _ (first_none _ _ none)) in
    after_dashes name.now words (subst (λ w. fault_of program_app (name.now ∷ w ∷ words) ≡ []) dashes none)

pub never_found : (app : App) (words : List (Bor Text)) → app ≡ program_app →
    (is_simple_and_free app ≡ true → fault_of app (map (λ word. word.now) words) ≡ []) →
    IsSomeAnd (slice_get words 1) (λ word. (verb : Verb) → word.now ≢ word_of verb) → ⊥
never_found app words is kinds other =
    refused words other (subst (λ a. fault_of a (map (λ word. word.now) words) ≡ []) is
    (kinds (subst (λ a. is_simple_and_free a ≡ true) (sym is) program_simple)))

-- ---- what a word that asks for nothing is told

program_tame : list_all (is_tame flags true) flags ≡ true
program_tame = refl

step_quiet : (held : Held) (step : Step) → Quiet (step_fault top 1 held step)
step_quiet held value = record { none = refl }
step_quiet held _ = record { none = refl }

turn_quiet : (word : Text) → ((verb : Verb) → word ≢ word_of verb) → word ≢ codes "help" → asks true word ≡ false →
    Quiet (turn_fault top (names_of (built program_app)) (walk_from nothing_held) word)
turn_quiet word other no_help nothing =
    by_name (λ o. Quiet (or_else (other_fault top o word nothing_held)
    (let met = subcommand_or_other flags o idle 1 word nothing_held in step_fault top 1 met.0 met.1))) word other
    (quiet_else _ _ (quiet_cond (bytes_eq word (codes "--")) [] _ (record { none = refl })
    (word_quiet top true program_tame word nothing_held (record { skip = refl; pending = refl }) nothing))
    (let met = subcommand_or_other flags None idle 1 word nothing_held in step_quiet met.0 met.1))
    (λ is. absurd (no_help is))

dashes_quiet : (name : Text) (rest : List Text) → Quiet (fault_of program_app (name ∷ codes "--" ∷ rest))
unfolding walk_fault walked defaults_fault
dashes_quiet name [] = record { none = refl }
dashes_quiet name (word ∷ rest) = record { none = refl }

program_quiet : (name word : Text) (rest : List Text) → ((verb : Verb) → word ≢ word_of verb) →
    (bytes_eq word (codes "help") || asks true word) ≡ false → Quiet (fault_of program_app (name ∷ word ∷ rest))
unfolding walk_fault
program_quiet name word rest other unasked =
    let (no_help, nothing) = neither (bytes_eq word (codes "help")) (asks true word) unasked in
    let turn = turn_quiet word other
    (λ is. true≢false (sym ((bytes_eq-Decides word (codes "help")).1 is) ∙ no_help)) nothing in
    by_test _ (bytes_eq word (codes "--"))
    (λ is. subst (λ w. Quiet (fault_of program_app (name ∷ w ∷ rest)))
    (sym ((bytes_eq-Decides word (codes "--")).0 is))
    (dashes_quiet name rest))
    (λ is.
    let some : turn_fault top (names_of (built program_app)) (walk_from nothing_held) word ≢ [] =
    λ none. true≢false (sym ((bytes_eq-Decides word (codes "--")).1 (first_word word other none)) ∙ is) in
    quiet_first _ _ (quiet_first _ _ turn some) (λ none. some (first_none _ _ none)))

pub program_told : (app : App) (words : List (Bor Text)) (error : Error) (why : NoTask) → app ≡ program_app →
    (is_simple_and_free app ≡ true → HasKind (fault_of app (map (λ word. word.now) words)) error) →
    EndsFor (kind_of error) why → IsSomeAnd (slice_get words 1) (λ word. (verb : Verb) → word.now ≢ word_of verb) →
    IsToldByClap (IsSomeAnd (slice_get words 1) (λ word. AsksAlone word.now)) why
program_told app [] error why is kinds ends other = absurd other
program_told app (name ∷ []) error why is kinds ends other = absurd other
program_told app (name ∷ word ∷ rest) error why is kinds ends other =
    let texts = map (λ (w : Bor Text). w.now) (name ∷ word ∷ rest) in
    let asked = bytes_eq word.now (codes "help") || asks true word.now in
    told_as (asked ≡ true) (AsksAlone word.now) why (λ so. elim (either _ _ so) [
      | inl same ↦ inl ((bytes_eq-Decides word.now (codes "help")).0 same)
      | inr flag ↦ inr flag
    ])
    (told asked (fault_of program_app texts) error why (program_quiet name.now word.now _ other)
    (subst (λ a. HasKind (fault_of a texts) error) is
    (kinds (subst (λ a. is_simple_and_free a ≡ true) (sym is) program_simple))) ends)
