-- Clap answers with help or the version only if a word asks for it.
use Rattle.std.proofs.Common.{◌∙◌, ◌≡◌, ◌≢◌, ◌⊎◌, ◌&&◌, ◌||◌, ℕ, Bool, ◌+◌, arith, cond, true, false, true≢false, not, is_some, List, [], ◌∷◌, ap, sym, refl, subst, inl, inr, length, map, fold, drop, codes, Option, None, Some, zero, suc}
use Rattle.std.specs.Prelude.{⊤, ◌==◌, nat_lt, option_and_then, slice_get}
use Rattle.std.specs.List.{before_first, find, list_all, list_any, prefix_len, starts_with}
use Rattle.std.specs.Option.{option_map_or}
use Rattle.std.specs.Str.{bytes_eq, chars}
use Rattle.std.proofs.lemmas.Bool.Decides.{nat_tests}
use Rattle.std.proofs.lemmas.Slice.Eq.{bytes_eq-Decides}
use Rattle.clap.proofs.FaultLemmas.{leaf_fault}
use Rattle.clap.proofs.SimpleLemmas.{is_false, is_nil}
use Rattle.clap.proofs.WalkLemmas.{both}
use Rattle.clap.specs.Facts.{parser_of_value, unwrap_or_range}
use Rattle.clap.specs.Faults.{action_fault, bundle_fault, bundle_step_fault, count_fault, default_fault, defaults_fault, fault_of, flag_word_fault, flags_fault, is_simple_and_free, level_fault, long_fault, option_fault, positional_fault, react_fault, repeat_fault, set_fault, settle_fault, step_fault, stray_fault, use_fault, walk_fault}
use Rattle.clap.specs.Kinds.{HasKind, IsAmong, Kinds, check_kinds, or_else, range_kinds, request_kinds, value_kinds, values_kinds}
use Rattle.clap.specs.Lexer.{has_byte, long_of, name_and_value, short_of, short_of_rest}
use Rattle.clap.specs.Simple.{App, Shape, built}
use Rattle.clap.specs.ValueTests.{accepts}
use Rattle.clap.specs.Values.{is_request, kind_of, refused_kind}
use Rattle.clap.specs.Walk.{Held, Row, Rule, Step, Text, Waiting, Walk, action_of, after_flag, after_step, arg_by_id, arg_by_index, arg_by_long, arg_by_short, bundle_met, bundle_step, flag_met, has_long, has_row, has_short, idle, is_empty, is_multiple, is_pending, long_met, long_or_other, long_word, most_values, next, next_position, nothing_held, option, option_met, option_word, pending_count, plain as no_flag_word, plain_word, positional, positional_held, pushed, settled, short_or_plain, started, subcommand, takes_several, takes_values, to_positional, trailing, value, values_or_missing, walked, with_default}
use Rattle.clap.specs.declared.builder.action.ArgAction.{ArgAction}
use Rattle.clap.specs.declared.builder.action.ArgAction.TheVariants.{Set, Append, SetTrue, SetFalse, Count}
use Rattle.clap.specs.declared.builder.value_parser.ValueParser.{ValueParser}
use Rattle.clap.specs.declared.builder.value_parser.ValueParser.TheVariants as vp
use Rattle.clap.specs.declared.error.Error.{Error}
use Rattle.clap.specs.declared.error.kind.ErrorKind.{ErrorKind}
use Rattle.clap.specs.declared.error.kind.ErrorKind.TheVariants.{DisplayHelp, DisplayVersion}
use Rattle.msr_options.specs.Asked.{ask_help, asks_help, asks_version, is_flag}
use Rattle.msr_options.specs.Tasks.{word_of}
use Rattle.msr_options.specs.declared.task.NoTask.{NoTask}
use Rattle.msr_options.specs.declared.task.NoTask.TheVariants.{Ending, NotALength, Memory}
use Rattle.msr_options.specs.declared.task.Verb.{Verb}
use Rattle.msr_options.specs.declared.task.Verb.TheVariants as verb
use Rattle.msr_arguments.specs.Found.{EndsFor, IsShown, IsToldByClap}
use Rattle.msr_arguments.specs.Rules.{app_with, dry_run_rules, rules_of}
use denote.Ref.{Bor}

abbrev is_shown : ErrorKind → Bool
is_shown DisplayHelp = true
is_shown DisplayVersion = true
is_shown _ = false

-- neither help nor the version is among them
pub record Quiet (kinds : Kinds) : Type 0 where
  pub none : list_any is_shown kinds ≡ false

none_shown : {kinds : Kinds} → list_any is_shown kinds ≡ false → Quiet kinds
none_shown none = record { none = none }

pub quiet_else : (first rest : Kinds) → Quiet first → Quiet rest → Quiet (or_else first rest)
quiet_else [] rest one other = other
quiet_else (kind ∷ kinds) rest one other = one

pub quiet_first : (first rest : Kinds) → Quiet first → first ≢ [] → Quiet (or_else first rest)
quiet_first [] rest one some = absurd (some refl)
quiet_first (kind ∷ kinds) rest one some = one

pub quiet_cond : (b : Bool) (one other : Kinds) → Quiet one → Quiet other → Quiet (cond b one other)
quiet_cond true one other first second = first
quiet_cond false one other first second = second

-- ---- the use of an argument that asks for nothing

refused_quiet : (parser : ValueParser) → is_shown (refused_kind parser) ≡ false
refused_quiet vp.Bool = refl
refused_quiet _ = refl

value_quiet : (ignores : Bool) (parser : ValueParser) (text : Text) → Quiet (value_kinds ignores parser text)
value_quiet ignores parser text =
    quiet_cond (accepts ignores parser text) [] (refused_kind parser ∷ []) (none_shown refl)
    (none_shown (rw (refused_quiet parser) refl))

values_quiet : (ignores : Bool) (parser : ValueParser) (texts : List Text) → Quiet (values_kinds ignores parser texts)
values_quiet ignores parser [] = none_shown refl
values_quiet ignores parser (text ∷ texts) =
    quiet_else _ _ (value_quiet ignores parser text) (values_quiet ignores parser texts)

count_quiet : (a : Rule) (values : List Text) (rows : List Row) → Quiet (count_fault a values rows)
count_quiet a [] rows = value_quiet a.ignore_case (parser_of_value a.parser) _
count_quiet a (text ∷ texts) rows = values_quiet a.ignore_case (parser_of_value a.parser) (text ∷ texts)

set_quiet : (again : Bool) (a : Rule) (values : List Text) (rows : List Row) → Quiet (set_fault again a values rows)
set_quiet again a values rows =
    quiet_else (repeat_fault again a.id rows) _ (quiet_cond (has_row a.id rows && not again) _ [] (none_shown refl) (none_shown refl))
    (values_quiet a.ignore_case (parser_of_value a.parser) values)

action_quiet : (action : ArgAction) (again : Bool) (a : Rule) (values : List Text) (rows : List Row) →
    is_request action ≡ false → Quiet (action_fault action again a values rows)
action_quiet Set again a values rows is = set_quiet again a values rows
action_quiet SetTrue again a values rows is = set_quiet again a values rows
action_quiet SetFalse again a values rows is = set_quiet again a values rows
action_quiet Append again a values rows is = values_quiet a.ignore_case (parser_of_value a.parser) values
action_quiet Count again a values rows is = count_quiet a values rows
action_quiet _ again a values rows is = absurd (true≢false is)

range_quiet : (least most n : ℕ) → Quiet (range_kinds least most n)
range_quiet least most n =
    quiet_cond (nat_lt 0 least && n == 0) _ _ (none_shown refl) (quiet_cond (least == most) _ _
    (quiet_cond (least == n) _ _ (none_shown refl) (none_shown refl)) (quiet_cond (nat_lt n least) _ _ (none_shown refl)
    (quiet_cond (nat_lt most n) _ _ (none_shown refl) (none_shown refl))))

use_quiet : (again : Bool) (a : Rule) (values : List Text) (rows : List Row) → is_request (action_of a) ≡ false →
    Quiet (use_fault again a values rows)
use_quiet again a values rows is =
    let range = unwrap_or_range a.range in
    quiet_else _ _ (range_quiet range.start_inclusive (most_values a) (length values))
    (action_quiet (action_of a) again a (values_or_missing a values) rows is)

-- ---- the rules of a command, of which only the flags for help and the version ask for anything

-- no rule of this id asks for anything
abbrev is_calm : List Rule → (id : Text) → Bool
is_calm rules id = option_map_or (λ a. not (is_request (action_of a))) (arg_by_id rules id) true

-- the rule has this name and this letter alone
abbrev is_named : (name : Text) (letter : ℕ) → Rule → Bool
is_named name letter a = option_map_or (λ long. bytes_eq long name) a.long false && (is_empty a.aliases
    && (option_map_or (λ short. short == letter) a.short false && is_empty a.short_aliases))

abbrev is_asking : (version : Bool) → Rule → Bool
is_asking version a = (is_named (codes "help") 104 a || (version && is_named (codes "version") 86 a))
    && (not (takes_values a) && (not (is_some a.index) && is_empty a.defaults))

abbrev pub is_tame : (rules : List Rule) (version : Bool) → Rule → Bool
is_tame rules version a = cond (is_request (action_of a)) (is_asking version a)
    (not (is_some a.short) && (is_empty a.short_aliases && is_calm rules a.id))

-- the word asks for help, or for the version if that can be asked for
abbrev pub asks : (version : Bool) (word : Text) → Bool
asks version word = asks_help word || (version && asks_version word)

find_has : {X : Type 0} (p test : X → Bool) (xs : List X) (x : X) → list_all p xs ≡ true → find test xs ≡ Some x →
    (p x ≡ true) × (test x ≡ true)
find_has p test [] x all found = cc
find_has p test (y ∷ ys) x all found =
    let each = both (p y) (list_all p ys) all in
    elim (test y) as (λ here. test y ≡ here → cond here (Some y) (find test ys) ≡ Some x →
    (p x ≡ true) × (test x ≡ true)) [
      | true ↦ λ is same. let at : y ≡ x = cc in rw (← at) (each.0, is)
      | false ↦ λ is same. find_has p test ys x each.1 same
    ] refl found

not_both : (b : Bool) → b ≡ true → b ≡ false → ⊥
not_both true one other = true≢false other
not_both false one other = true≢false (sym one)

pub either : (a b : Bool) → (a || b) ≡ true → (a ≡ true) ⊎ (b ≡ true)
either true b is = inl refl
either false b is = inr is

pub neither : (a b : Bool) → (a || b) ≡ false → (a ≡ false) × (b ≡ false)
neither true b is = absurd (true≢false is)
neither false b is = (refl, is)

-- the walk between two words: what is pending asks for nothing
pub record Calm (rules : List Rule) (h : Held) : Type 0 where
  pub skip : h.skip ≡ 0
  pub pending : option_map_or (λ p. is_calm rules p.0) h.pending true ≡ true

pub settled_calm : (rules : List Rule) (h : Held) → Calm rules h → Calm rules (settled rules h)
settled_calm rules h calm = record { skip = calm.skip; pending = refl }

cond_true : (b one other : Bool) → cond b one other ≡ true → b ≡ true → one ≡ true
cond_true true one other all is = all
cond_true false one other all is = absurd (true≢false (sym is))

cond_false : (b one other : Bool) → cond b one other ≡ true → b ≡ false → other ≡ true
cond_false true one other all is = absurd (true≢false is)
cond_false false one other all is = all

pub by_test : (P : Type 0) (b : Bool) → (b ≡ true → P) → (b ≡ false → P) → P
by_test P true yes_is no_is = yes_is refl
by_test P false yes_is no_is = no_is refl

no_text : {X : Type 0} (o : Option X) → not (is_some o) ≡ true → o ≡ None
no_text None is = refl
no_text (Some x) is = absurd (true≢false (sym is))

only : (b : Bool) → (b || false) ≡ true → b ≡ true
only true is = refl
only false is = is

also : (a b : Bool) → b ≡ true → (a || b) ≡ true
also true b is = refl
also false b is = is

-- a name that finds the flag is the flag's
name_is : (name : Text) (letter : ℕ) (a : Rule) (given : Text) → is_named name letter a ≡ true → has_long a given ≡ true →
    given ≡ name
name_is name letter a given named has =
    let (long, more) = both _ _ named in
    let none : is_empty a.aliases ≡ true = (both _ _ more).0 in
    let one : (option_map_or (λ s. bytes_eq s given) a.long false || false) ≡ true = rw (is_nil a.aliases none) at has in
    elim a.long as (λ o. option_map_or (λ s. bytes_eq s name) o false ≡ true →
    (option_map_or (λ s. bytes_eq s given) o false || false) ≡ true → given ≡ name) [
      | None ↦ λ first second. absurd (true≢false (sym first))
      | Some s ↦ λ first second.
          sym ((bytes_eq-Decides s given).0 (only _ second)) ∙ (bytes_eq-Decides s name).0 first
    ] long one

same_number : (a b : ℕ) → (a == b) ≡ true → a ≡ b
same_number a b is = grind (arith, nat_tests)

-- a letter that finds the flag is the flag's
letter_is : (name : Text) (letter : ℕ) (a : Rule) (given : ℕ) → is_named name letter a ≡ true → has_short a given ≡ true →
    given ≡ letter
letter_is name letter a given named has =
    let (short, none) = both _ _ (both _ _ (both _ _ named).1).1 in
    let one : (option_map_or (λ s. s == given) a.short false || false) ≡ true = rw (is_nil a.short_aliases none) at has in
    elim a.short as (λ o. option_map_or (λ s. s == letter) o false ≡ true →
    (option_map_or (λ s. s == given) o false || false) ≡ true → given ≡ letter) [
      | None ↦ λ first second. absurd (true≢false (sym first))
      | Some s ↦ λ first second. sym (same_number s given (only _ second)) ∙ same_number s letter first
    ] short one

-- ---- words

letters_follow : (word letters : Text) → short_of word ≡ Some letters → (y : ℕ) × (ys : Text) × (letters ≡ y ∷ ys) × (word ≡ 45 ∷ y ∷ ys)
letters_follow [] letters is = cc
letters_follow (x ∷ []) letters is =
    elim (x == 45) as (λ b. option_and_then short_of_rest (cond b (Some []) None) ≡ Some letters →
    (y : ℕ) × (ys : Text) × (letters ≡ y ∷ ys) × (x ∷ [] ≡ 45 ∷ y ∷ ys)) [ true ↦ λ is. cc | false ↦ λ is. cc ] is
letters_follow (x ∷ y ∷ ys) letters is =
    by_test _ (x == 45)
    (λ hyphen. by_test _ (y == 45)
    (λ other. let bad : None ≡ Some letters = rw (hyphen, other) at is in cc)
    (λ other. let good : Some (y ∷ ys) ≡ Some letters = rw (hyphen, other) at is in
    (y, ys, cc, ap (λ b. b ∷ y ∷ ys) (same_number x 45 hyphen))))
    (λ none. let bad : None ≡ Some letters = rw none at is in cc)

chars_follow : (y : ℕ) (ys : Text) → chars (45 ∷ y ∷ ys) ≡ 45 ∷ chars (y ∷ ys)
unfolding chars
chars_follow y ys = refl

same_test : (a : ℕ) → (a == a) ≡ true
same_test a = grind (arith, nat_tests)

begins : (cs : List ℕ) (letter : ℕ) → slice_get cs 0 ≡ Some letter →
    starts_with (λ x y. x == y) (45 ∷ cs) (45 ∷ letter ∷ []) ≡ true
begins [] letter is = cc
begins (c ∷ cs) letter is = let at : c ≡ letter = cc in rw (at, same_test letter) refl

-- the first letter after a hyphen is that of no flag that asks for something
no_letter : (word letters : Text) (name : Text) (letter x : ℕ) → short_of word ≡ Some letters →
    is_flag name letter word ≡ false → slice_get (chars letters) 0 ≡ Some x → x ≢ letter
no_letter word letters name letter x is plain first same =
    let (y, ys, rest, whole) = letters_follow word letters is in
    let at : slice_get (chars (y ∷ ys)) 0 ≡ Some letter = rw (rest, same) at first in
    let shown : starts_with (λ x y. x == y) (chars word) (45 ∷ letter ∷ []) ≡ true =
    rw (whole, chars_follow y ys) (begins (chars (y ∷ ys)) letter at) in
    not_both _ shown (neither _ _ plain).1

whole_before : (text : Text) → has_byte 61 text ≡ false → before_first (λ x. x == 61) text ≡ text
whole_before [] none = refl
whole_before (x ∷ xs) none =
    let (first, rest) = neither (x == 61) (has_byte 61 xs) none in
    let k = prefix_len (λ x. not (x == 61)) xs in
    let one_more : 1 + k ≡ suc k = omega arith in
    rw (first, one_more) (ap (λ after. x ∷ after) (whole_before xs rest))

-- the word of a name without a value
word_is : (word name : Text) → long_of word ≡ Some (name, None) → word ≡ 45 ∷ 45 ∷ name
word_is [] name is = cc
word_is (x ∷ []) name is = by_test _ (x == 45)
    (λ one. let bad : None ≡ Some (name, None) = rw one at is in cc)
    (λ none. let bad : None ≡ Some (name, None) = rw none at is in cc)
word_is (x ∷ y ∷ []) name is = by_test _ (x == 45)
    (λ one. by_test _ (y == 45)
    (λ two. let bad : None ≡ Some (name, None) = rw (one, two) at is in cc)
    (λ none. let bad : None ≡ Some (name, None) = rw (one, none) at is in cc))
    (λ none. let bad : None ≡ Some (name, None) = rw none at is in cc)
word_is (x ∷ y ∷ z ∷ zs) name is = by_test _ (x == 45)
    (λ one. by_test _ (y == 45)
    (λ two.
    let at : Some (name_and_value (z ∷ zs)) ≡ Some (name, None) = rw (one, two) at is in
    by_test _ (has_byte 61 (z ∷ zs))
    (λ split. let bad : Some (name_and_value (z ∷ zs)) ≡ Some (name, None) = at in
    let parts : name_and_value (z ∷ zs) ≡ (name, None) = cc in
    let value : (name_and_value (z ∷ zs)).1 ≡ None = ap (λ p. p.1) parts in
    absurd (some_none _ (rw split at value)))
    (λ whole.
    let parts : name_and_value (z ∷ zs) ≡ (name, None) = cc in
    let named : z ∷ zs ≡ name = sym (whole_before (z ∷ zs) whole) ∙ ap (λ p. p.0) parts in
    rw (same_number x 45 one, same_number y 45 two, named) refl))
    (λ none. let bad : None ≡ Some (name, None) = rw (one, none) at is in cc))
    (λ none. let bad : None ≡ Some (name, None) = rw none at is in cc)
  where
    some_none : {X : Type 0} (x : X) → Some x ≡ None → ⊥
    some_none x is = cc

-- ---- the walk over the words

abbrev is_calm_waiting : List Rule → Waiting → Bool
is_calm_waiting rules (option id) = is_calm rules id
is_calm_waiting rules _ = true

-- a step to the next word, or a value
abbrev CalmStep : List Rule → Step → Type 0
CalmStep rules (next waiting) = is_calm_waiting rules waiting ≡ true
CalmStep rules value = ⊤
CalmStep rules _ = ⊥

-- the walk where no subcommand was met
abbrev state : Held → Waiting → (position : ℕ) → (is_trailing : Bool) → Walk
state h waiting position is_trailing = record {
  held = h;
  waiting = waiting;
  position = position;
  is_trailing = is_trailing;
  stopped = None;
}

no_request : (action : ArgAction) → is_request action ≡ false → Quiet (request_kinds action)
no_request Set is = none_shown refl
no_request SetTrue is = none_shown refl
no_request SetFalse is = none_shown refl
no_request Append is = none_shown refl
no_request Count is = none_shown refl
no_request _ is = absurd (true≢false is)

pub check_quiet : (help command argument : Bool) → Quiet (check_kinds help command argument)
check_quiet help command argument =
    quiet_cond help _ _ (none_shown refl) (quiet_cond command _ _ (none_shown refl)
    (quiet_cond argument _ _ (none_shown refl) (none_shown refl)))

module _ (s : Shape) (version : Bool) (tame : list_all (is_tame s.rules version) s.rules ≡ true) where
  found : (test : Rule → Bool) (a : Rule) → find test s.rules ≡ Some a →
      (is_tame s.rules version a ≡ true) × (test a ≡ true)
  found test a is = find_has (is_tame s.rules version) test s.rules a tame is

  asking_parts : (a : Rule) → is_asking version a ≡ true →
      (takes_values a ≡ false) × (a.index ≡ None) × (is_empty a.defaults ≡ true)
  asking_parts a is =
      let rest : (not (takes_values a) && (not (is_some a.index) && is_empty a.defaults)) ≡ true = (both _ _ is).1 in
      let (flag, more) = both _ _ rest in
      let (alone, none) = both _ _ more in
      (is_false _ flag, no_text a.index alone, none)

  asking : (a : Rule) → is_tame s.rules version a ≡ true → is_request (action_of a) ≡ true → is_asking version a ≡ true
  asking a all is = cond_true _ _ _ all is

  calm_rule : (a : Rule) → is_tame s.rules version a ≡ true → is_request (action_of a) ≡ false →
      is_calm s.rules a.id ≡ true
  calm_rule a all is = (both _ _ (both _ _ (cond_false _ _ _ all is)).1).1

  pub settle_quiet : (h : Held) → Calm s.rules h → Quiet (settle_fault s.rules s.args_override_self h)
  settle_quiet h calm =
      elim h.pending as (λ o. option_map_or (λ p. is_calm s.rules p.0) o true ≡ true →
      Quiet (option_map_or (λ p. option_map_or (λ a. use_fault s.args_override_self a p.1 h.rows)
      (arg_by_id s.rules p.0) []) o [])) [
        | None ↦ λ is. none_shown refl
        | Some p ↦ λ is. elim (arg_by_id s.rules p.0) as (λ o.
            option_map_or (λ a. not (is_request (action_of a))) o true ≡ true →
            Quiet (option_map_or (λ a. use_fault s.args_override_self a p.1 h.rows) o [])) [
              | None ↦ λ is. none_shown refl
              | Some a ↦ λ is. use_quiet s.args_override_self a p.1 h.rows (is_false _ is)
            ] is
      ] calm.pending

  react_quiet : (a : Rule) (values : List Text) (h : Held) → is_request (action_of a) ≡ false → Calm s.rules h →
      Quiet (react_fault s.rules s.args_override_self a values h)
  react_quiet a values h is calm =
      quiet_else _ _ (settle_quiet h calm) (use_quiet s.args_override_self a values (settled s.rules h).rows is)

  option_quiet : (a : Rule) (given : Option Text) (h : Held) → is_request (action_of a) ≡ false → Calm s.rules h →
      Quiet (option_fault s.rules s.args_override_self a given h)
  option_quiet a None h is calm = settle_quiet h calm
  option_quiet a (Some text) h is calm = react_quiet a (text ∷ []) h is calm

  -- the flag of that name asks for something
  named_asks : (a : Rule) (name : Text) → is_asking version a ≡ true → has_long a name ≡ true →
      asks version (45 ∷ 45 ∷ name) ≡ true
  named_asks a name is has = elim (either _ _ (both _ _ is).0) [
    | inl help ↦ rw (name_is (codes "help") 104 a name help has) refl
    | inr other ↦
        let (can, named) = both version (is_named (codes "version") 86 a) other in
        rw (name_is (codes "version") 86 a name named has, can) (also (asks_help (codes "--version")) (asks_version (codes "--version")) refl)
  ]

  flag_quiet : (a : Rule) (name : Text) (given : Option Text) (h : Held) → is_asking version a ≡ true →
      has_long a name ≡ true → (given ≡ None → asks version (45 ∷ 45 ∷ name) ≡ false) →
      Quiet (long_fault s.rules s.args_override_self (Some a) given h)
  flag_quiet a name None h is has plain = absurd (not_both _ (named_asks a name is has) (plain refl))
  flag_quiet a name (Some text) h is has plain =
      rw (asking_parts a is).0 (none_shown refl)

  long_quiet : (name : Text) (given : Option Text) (h : Held) → Calm s.rules h →
      (given ≡ None → asks version (45 ∷ 45 ∷ name) ≡ false) →
      Quiet (long_fault s.rules s.args_override_self (arg_by_long s.rules name) given h)
  long_quiet name given h calm plain =
      elim (arg_by_long s.rules name) as (λ o. arg_by_long s.rules name ≡ o →
      Quiet (long_fault s.rules s.args_override_self o given h)) [
        | None ↦ λ is. none_shown refl
        | Some a ↦ λ is.
            let (all, test) = found _ a is in
            by_test _ (is_request (action_of a))
            (λ request. flag_quiet a name given h (asking a all request) (both _ _ test).1 plain)
            (λ other. quiet_cond (takes_values a) _ _ (option_quiet a given h other calm)
            (quiet_cond (is_some given) _ _ (none_shown refl) (react_quiet a [] h other calm)))
      ] refl

  -- a letter that asks for nothing is no flag's
  no_short : (x : ℕ) → x ≢ 104 → (version ≡ true → x ≢ 86) → arg_by_short s.rules x ≡ None
  no_short x help other =
      elim (arg_by_short s.rules x) as (λ o. arg_by_short s.rules x ≡ o → o ≡ None) [
        | None ↦ λ is. refl
        | Some a ↦ λ is.
            let (all, test) = found _ a is in
            let has = (both _ _ test).1 in
            by_test _ (is_request (action_of a))
            (λ request. elim (either _ _ (both _ _ (asking a all request)).0) [
              | inl named ↦ absurd (help (letter_is (codes "help") 104 a x named has))
              | inr more ↦
                  let (can, named) = both _ _ more in
                  absurd (other can (letter_is (codes "version") 86 a x named has))
            ])
            (λ rest.
            let (short, more) = both _ _ (cond_false _ _ _ all rest) in
            let bad : false ≡ true = rw (no_text a.short short, is_nil a.short_aliases (both _ _ more).0) at has in
            absurd (true≢false (sym bad)))
      ] refl

  abbrev NoFlag : (letters : Text) → Type 0
  NoFlag letters = (x : ℕ) → slice_get (chars letters) 0 ≡ Some x → arg_by_short s.rules x ≡ None

  no_flag : (word letters : Text) → short_of word ≡ Some letters → asks version word ≡ false → NoFlag letters
  no_flag word letters is plain x first =
      let (help, other) = neither _ _ plain in
      no_short x (no_letter word letters (codes "help") 104 x is help first)
      (λ can. let shown : asks_version word ≡ false = rw can at other in
      no_letter word letters (codes "version") 86 x is shown first)

  bundle_quiet : (letters : Text) (h : Held) (skip : ℕ) → skip ≡ 0 → NoFlag letters →
      Quiet (flags_fault s.rules s.args_override_self (length letters) letters skip (record h { skip = 0 }))
  unfolding flags_fault
  bundle_quiet [] h skip none no_flag = none_shown refl
  bundle_quiet (y ∷ ys) h (suc skip) none no_flag = cc
  bundle_quiet (y ∷ ys) h zero none no_flag =
      elim (slice_get (chars (y ∷ ys)) 0) as (λ o. slice_get (chars (y ∷ ys)) 0 ≡ o →
      Quiet (bundle_step_fault s.rules s.args_override_self o (y ∷ ys) 0 (record h { skip = 0 })
      (flags_fault s.rules s.args_override_self (length ys)))) [
        | None ↦ λ is. none_shown refl
        | Some x ↦ λ is. rw (no_flag x is) (none_shown refl)
      ] refl

  -- a bundle without a flag is a plain word
  bundle_plain : (letters word : Text) (waiting : Waiting) (h : Held) (skip : ℕ) → skip ≡ 0 → NoFlag letters →
      (let met = bundle_met s.rules (length letters) letters skip no_flag_word (record h { skip = 0 }) in
      after_flag s.rules waiting word met.0 met.1 ≡ plain_word s.rules waiting word (record h { skip = 0 }))
  unfolding bundle_met
  bundle_plain [] word waiting h skip none no_flag = refl
  bundle_plain (y ∷ ys) word waiting h (suc skip) none no_flag = cc
  bundle_plain (y ∷ ys) word waiting h zero none no_flag =
      elim (slice_get (chars (y ∷ ys)) 0) as (λ o. slice_get (chars (y ∷ ys)) 0 ≡ o →
      (let met = bundle_step s.rules o (y ∷ ys) 0 no_flag_word (record h { skip = 0 }) (bundle_met s.rules (length ys)) in
      after_flag s.rules waiting word met.0 met.1 ≡ plain_word s.rules waiting word (record h { skip = 0 }))) [
        | None ↦ λ is. refl
        | Some x ↦ λ is. rw (no_flag x is) refl
      ] refl

  pub word_quiet : (word : Text) (h : Held) → Calm s.rules h → asks version word ≡ false →
      Quiet (flag_word_fault s.rules s.args_override_self (long_of word) word h)
  word_quiet word h calm plain =
      elim (long_of word) as (λ o. long_of word ≡ o → Quiet (flag_word_fault s.rules s.args_override_self o word h)) [
        | Some (name, given) ↦ λ is. long_quiet name given h calm
            (λ none. let whole : word ≡ 45 ∷ 45 ∷ name = word_is word name (rw none at is) in rw whole at plain)
        | None ↦ λ is. elim (short_of word) as (λ o. short_of word ≡ o →
            Quiet (option_map_or (λ letters. bundle_fault s.rules s.args_override_self letters h) o [])) [
              | None ↦ λ is. none_shown refl
              | Some letters ↦ λ is. bundle_quiet letters h h.skip calm.skip (no_flag word letters is plain)
            ] refl
      ] refl

  -- ---- what is pending stays calm

  abbrev CalmMet : Held × Step → Type 0
  CalmMet met = Calm s.rules met.0 × CalmStep s.rules met.1

  pushed_calm : (id word : Text) (h : Held) → is_calm s.rules id ≡ true → Calm s.rules h → Calm s.rules (pushed id word h)
  pushed_calm id word h is calm = record {
    skip = calm.skip;
    pending = elim h.pending as (λ o. option_map_or (λ p. is_calm s.rules p.0) o true ≡ true →
        is_calm s.rules (started id o).0 ≡ true) [ None ↦ λ all. is | Some p ↦ λ all. all ] calm.pending;
  }

  plain_calm : (waiting : Waiting) (word : Text) (h : Held) → is_calm_waiting s.rules waiting ≡ true → Calm s.rules h →
      CalmMet (plain_word s.rules waiting word h)
  plain_calm idle word h is calm = (calm, tt)
  plain_calm positional word h is calm = (calm, tt)
  plain_calm (option id) word h is calm =
      elim (arg_by_id s.rules id) as (λ o. Calm s.rules (option_word o id word h).0
      × (is_calm_waiting s.rules (option_word o id word h).1 ≡ true)) [
        | None ↦ (calm, is)
        | Some a ↦ (
          pushed_calm id word h is calm,
          elim (nat_lt (pending_count a (pushed id word h).pending) (most_values a)) as (λ b.
              is_calm_waiting s.rules (cond b (option id) idle) ≡ true) [ true ↦ is | false ↦ refl ],
        )
      ]

  option_calm : (a : Rule) (given : Option Text) (waiting : Waiting) (word : Text) (h : Held) →
      is_calm s.rules a.id ≡ true → Calm s.rules h →
      (let met = option_met s.rules a given h in CalmMet (after_flag s.rules waiting word met.0 met.1))
  option_calm a None waiting word h is calm = (record { skip = calm.skip; pending = is }, is)
  option_calm a (Some text) waiting word h is calm = (record { skip = calm.skip; pending = refl }, refl)

  flag_calm : (a : Rule) (given : Option Text) (waiting : Waiting) (word : Text) (h : Held) →
      is_calm_waiting s.rules waiting ≡ true → Calm s.rules h →
      (let met = flag_met s.rules a given h in CalmMet (after_flag s.rules waiting word met.0 met.1))
  flag_calm a None waiting word h is calm = (record { skip = calm.skip; pending = refl }, refl)
  flag_calm a (Some text) waiting word h is calm = plain_calm waiting word h is calm

  takes_calm : (a : Rule) → is_tame s.rules version a ≡ true → takes_values a ≡ true → is_calm s.rules a.id ≡ true
  takes_calm a all takes = by_test _ (is_request (action_of a))
      (λ request. absurd (not_both _ takes (asking_parts a (asking a all request)).0))
      (λ other. calm_rule a all other)

  long_calm : (name : Text) (given : Option Text) (waiting : Waiting) (word : Text) (h : Held) →
      is_calm_waiting s.rules waiting ≡ true → Calm s.rules h → CalmMet (long_word s.rules waiting word name given h)
  long_calm name given waiting word h is calm =
      elim (arg_by_long s.rules name) as (λ o. arg_by_long s.rules name ≡ o →
      (let met = long_met s.rules o given h in CalmMet (after_flag s.rules waiting word met.0 met.1))) [
        | None ↦ λ none. plain_calm waiting word h is calm
        | Some a ↦ λ at. elim (takes_values a) as (λ takes. takes_values a ≡ takes →
            (let met = cond takes (option_met s.rules a given h) (flag_met s.rules a given h) in
            CalmMet (after_flag s.rules waiting word met.0 met.1))) [
              | true ↦ λ takes. option_calm a given waiting word h (takes_calm a (found _ a at).0 takes) calm
              | false ↦ λ takes. flag_calm a given waiting word h is calm
            ] refl
      ] refl

  word_calm : (word : Text) (waiting : Waiting) (h : Held) → is_calm_waiting s.rules waiting ≡ true → Calm s.rules h →
      asks version word ≡ false → CalmMet (long_or_other s.rules waiting word (long_of word) h)
  word_calm word waiting h is calm plain =
      elim (long_of word) as (λ o. CalmMet (long_or_other s.rules waiting word o h)) [
        | Some (name, given) ↦ long_calm name given waiting word h is calm
        | None ↦ elim (short_of word) as (λ o. short_of word ≡ o → CalmMet (short_or_plain s.rules waiting word o h)) [
          | None ↦ λ none. plain_calm waiting word h is calm
          | Some letters ↦ λ at.
              subst CalmMet (sym (bundle_plain letters word waiting h h.skip calm.skip (no_flag word letters at plain)))
              (plain_calm waiting word (record h { skip = 0 }) is (record { skip = refl; pending = calm.pending }))
        ] refl
      ]

  -- ---- the rest of the line asks for nothing

  abbrev QuietFrom : List Text → Walk → Type 0
  QuietFrom words w = Quiet (walk_fault s [] w words) × Calm s.rules (fold (walked s.rules []) w words).held

  -- what is known of each later place on the line
  abbrev QuietAfter : List Text → Type 0
  QuietAfter words = (h : Held) (waiting : Waiting) (position : ℕ) (trails : Bool) → Calm s.rules h →
      is_calm_waiting s.rules waiting ≡ true → (trails ≡ false → ask_help words ≡ false) →
      QuietFrom words (state h waiting position trails)

  -- after a step that is quiet
  abbrev QuietStep : List Text → (word : Text) → Walk → Held × Step → Type 0
  QuietStep words word w met =
      (let after = after_step s.rules word w met.0 met.1 in
      Quiet (or_else (step_fault s w.position met.0 met.1) (walk_fault s [] after words))
      × Calm s.rules (fold (walked s.rules []) after words).held)

  indexed_calm : (position : ℕ) (a : Rule) → arg_by_index s.rules position ≡ Some a → is_calm s.rules a.id ≡ true
  indexed_calm position a at =
      let (all, test) = found _ a at in
      by_test _ (is_request (action_of a))
      (λ request.
      let bad : false ≡ true = rw (asking_parts a (asking a all request)).1 at test in absurd (true≢false (sym bad)))
      (λ other. calm_rule a all other)

  positional_calm : (a : Rule) (word : Text) (h : Held) → is_calm s.rules a.id ≡ true → Calm s.rules h →
      Calm s.rules (positional_held s.rules a word h)
  positional_calm a word h is calm =
      elim (is_pending a h.pending && takes_several a) as (λ b.
      Calm s.rules (pushed a.id word (cond b h (settled s.rules h)))) [
        | true ↦ pushed_calm a.id word h is calm
        | false ↦ pushed_calm a.id word (settled s.rules h) is (settled_calm s.rules h calm)
      ]

  value_quiet_step : (words : List Text) (word : Text) (before h : Held) (waiting : Waiting) (position : ℕ) (trails : Bool) →
      QuietAfter words → Calm s.rules h → is_calm_waiting s.rules waiting ≡ true →
      (trails ≡ false → ask_help words ≡ false) → QuietStep words word (state before waiting position trails) (h, value)
  value_quiet_step words word before h waiting position trails after calm is plain =
      elim (arg_by_index s.rules position) as (λ o. arg_by_index s.rules position ≡ o →
      (let now = to_positional s.rules o word (state before waiting position trails) h in
      Quiet (or_else (option_map_or (λ a. positional_fault s.rules s.args_override_self a h) o (stray_fault s))
      (walk_fault s [] now words)) × Calm s.rules (fold (walked s.rules []) now words).held)) [
        | None ↦ λ none.
            let rest = after h waiting position trails calm is plain in
            (quiet_else _ _ (quiet_cond s.is_leaf _ _ (none_shown refl) (none_shown refl)) rest.0, rest.1)
        | Some a ↦ λ at.
            let steady = indexed_calm position a at in
            let rest = after (positional_held s.rules a word h) (cond (is_multiple a) positional idle)
            (next_position a position) (trails || a.trailing_var_arg) (positional_calm a word h steady calm)
            (elim (is_multiple a) as (λ b. is_calm_waiting s.rules (cond b positional idle) ≡ true)
            [ true ↦ refl | false ↦ refl ])
            (λ ends. plain (neither _ _ ends).0) in
            (quiet_else _ _ (quiet_cond (is_pending a h.pending && takes_several a) _ _ (none_shown refl) (settle_quiet h calm)) rest.0, rest.1)
      ] refl

  asks_nothing : (word : Text) → version ≡ false → asks_help word ≡ false → asks version word ≡ false
  asks_nothing word leaf is = rw (leaf, is) refl

  -- a word that is no `--`
  other_quiet_step : (words : List Text) (word : Text) (waiting : Waiting) (position : ℕ) (met : Held × Step) →
      QuietAfter words → CalmMet met → is_calm_waiting s.rules waiting ≡ true → ask_help words ≡ false →
      (h : Held) → QuietStep words word (state h waiting position false) met
  other_quiet_step words word waiting position (now, next later) after calm is plain h =
      after now later position false calm.0 calm.1 (λ trails. plain)
  other_quiet_step words word waiting position (now, value) after calm is plain h =
      value_quiet_step words word h now waiting position false after calm.0 is (λ trails. plain)
  other_quiet_step words word waiting position (now, trailing later) after calm is plain h = absurd calm.1
  other_quiet_step words word waiting position (now, subcommand name) after calm is plain h = absurd calm.1

  joined_quiet : (first second third : Kinds) → Quiet first → Quiet (or_else second third) →
      Quiet (or_else (or_else first second) third)
  joined_quiet [] second third one rest = rest
  joined_quiet (kind ∷ kinds) second third one rest = one

  word_quiet_step : version ≡ false → (words : List Text) (word : Text) (h : Held) (waiting : Waiting) (position : ℕ) →
      QuietAfter words → Calm s.rules h → is_calm_waiting s.rules waiting ≡ true → ask_help (word ∷ words) ≡ false →
      (let met = cond (bytes_eq word (codes "--")) (h, trailing position) (long_or_other s.rules waiting word (long_of word) h) in
      let now = after_step s.rules word (state h waiting position false) met.0 met.1 in
      Quiet (or_else (or_else
      (cond (bytes_eq word (codes "--")) [] (flag_word_fault s.rules s.args_override_self (long_of word) word h))
      (step_fault s position met.0 met.1)) (walk_fault s [] now words))
      × Calm s.rules (fold (walked s.rules []) now words).held)
  word_quiet_step leaf words word h waiting position after calm is plain =
      elim (bytes_eq word (codes "--")) as (λ same. (not same && (asks_help word || ask_help words)) ≡ false →
      (let met = cond same (h, trailing position) (long_or_other s.rules waiting word (long_of word) h) in
      let now = after_step s.rules word (state h waiting position false) met.0 met.1 in
      Quiet (or_else (or_else
      (cond same [] (flag_word_fault s.rules s.args_override_self (long_of word) word h))
      (step_fault s position met.0 met.1)) (walk_fault s [] now words))
      × Calm s.rules (fold (walked s.rules []) now words).held)) [
        | true ↦ λ asks. after h waiting position true calm is (λ trails. absurd (true≢false trails))
        | false ↦ λ asks.
            let (own, others) = neither _ _ asks in
            let nothing = asks_nothing word leaf own in
            let met = long_or_other s.rules waiting word (long_of word) h in
            let rest = other_quiet_step words word waiting position met after (word_calm word waiting h is calm nothing) is others h in
            (joined_quiet _ _ _ (word_quiet word h calm nothing) rest.0, rest.1)
      ] plain

  walk_quiet : version ≡ false → (words : List Text) → QuietAfter words
  unfolding walk_fault walked
  walk_quiet leaf [] h waiting position trails calm is plain = (none_shown refl, calm)
  walk_quiet leaf (word ∷ words) h waiting position true calm is plain =
      value_quiet_step words word h h waiting position true (walk_quiet leaf words) calm is (λ ends. absurd (true≢false ends))
  walk_quiet leaf (word ∷ words) h idle position false calm is plain =
      word_quiet_step leaf words word h idle position (walk_quiet leaf words) calm is (plain refl)
  walk_quiet leaf (word ∷ words) h positional position false calm is plain =
      word_quiet_step leaf words word h positional position (walk_quiet leaf words) calm is (plain refl)
  walk_quiet leaf (word ∷ words) h (option id) position false calm is plain =
      word_quiet_step leaf words word h (option id) position (walk_quiet leaf words) calm is (plain refl)

  default_quiet : (a : Rule) (rows : List Row) → is_tame s.rules version a ≡ true → Quiet (default_fault rows a)
  default_quiet a rows all = by_test _ (is_request (action_of a))
      (λ request.
      rw (also (has_row a.id rows) (is_empty a.defaults) (asking_parts a (asking a all request)).2) (none_shown refl))
      (λ other. quiet_cond (has_row a.id rows || is_empty a.defaults) _ _ (none_shown refl)
      (quiet_else _ _ (no_request (action_of a) other) (values_quiet a.ignore_case (parser_of_value a.parser) a.defaults)))

  defaults_quiet : (rules : List Rule) (rows : List Row) → list_all (is_tame s.rules version) rules ≡ true →
      Quiet (defaults_fault rows rules)
  unfolding defaults_fault
  defaults_quiet [] rows all = none_shown refl
  defaults_quiet (a ∷ rules) rows all =
      let each = both _ _ all in
      quiet_else _ _ (default_quiet a rows each.0) (defaults_quiet rules (with_default rows a) each.1)

  pub level_quiet : version ≡ false → (words : List Text) → ask_help words ≡ false →
      Quiet (level_fault s [] nothing_held words false [])
  level_quiet leaf words plain =
      let rest = walk_quiet leaf words nothing_held idle 1 false (record { skip = refl; pending = refl }) refl (λ ends. plain) in
      quiet_else _ _ rest.0 (quiet_else _ _ (settle_quiet _ rest.1)
      (quiet_else _ _ (defaults_quiet s.rules _ tame) (check_quiet _ _ _)))

-- ---- the commands

abbrev command_app : Verb → App
command_app verb = app_with (word_of verb) (rules_of verb)

command_tame : (verb : Verb) → let rules = (built (command_app verb)).top.rules in
    list_all (is_tame rules false) rules ≡ true
command_tame verb.Repack = refl
command_tame _ = refl

-- a line of these arguments with no word that asks for help
line_quiet : (name : Text) (rules : List Rule) (words : List Text) →
    (let all = (built (app_with name rules)).top.rules in list_all (is_tame all false) all ≡ true) →
    ask_help (drop 1 words) ≡ false → Quiet (fault_of (app_with name rules) words)
line_quiet name rules words tame plain =
    subst Quiet (sym (leaf_fault (built (app_with name rules)) nothing_held (drop 1 words) refl))
    (level_quiet (built (app_with name rules)).top false tame refl (drop 1 words) plain)

shown_among : (kind : ErrorKind) (kinds : Kinds) → IsShown kind → IsAmong kind kinds → Quiet kinds → ⊥
shown_among kind [] shown among quiet = among
shown_among kind (one ∷ kinds) shown (inl same) quiet =
    not_both (is_shown one) (subst (λ k. is_shown k ≡ true) same (shows shown)) (neither _ _ quiet.none).0
  where
    shows : IsShown kind → is_shown kind ≡ true
    shows (inl help) = rw help refl
    shows (inr version) = rw version refl
shown_among kind (one ∷ kinds) shown (inr later) quiet = shown_among kind kinds shown later (none_shown (neither _ _ quiet.none).1)

-- what clap answers has status 0 only if the words ask for that
pub told : (asked : Bool) (kinds : Kinds) (error : Error) (why : NoTask) → (asked ≡ false → Quiet kinds) →
    HasKind kinds error → EndsFor (kind_of error) why → IsToldByClap (asked ≡ true) why
told asked kinds error (Ending ending) quiet has (memory, inr bad) = inr bad.0
told asked kinds error (Ending ending) quiet (inl refused) (memory, inl shown) = absurd (memory refused)
told asked kinds error (Ending ending) quiet (inr among) (memory, inl shown) =
    by_test _ asked (λ is. inl (shown.0, is))
    (λ not_asked. absurd (shown_among (kind_of error) kinds shown.1 among (quiet not_asked)))
told asked kinds error NotALength quiet has ends = ends
told asked kinds error Memory quiet has ends = tt

pub told_as : (one other : Type 0) (why : NoTask) → (one → other) → IsToldByClap one why → IsToldByClap other why
told_as one other (Ending ending) also (inl shown) = inl (shown.0, also shown.1)
told_as one other (Ending ending) also (inr bad) = inr bad
told_as one other NotALength also told = told
told_as one other Memory also told = tt

command_simple : (verb : Verb) → is_simple_and_free (command_app verb) ≡ true
command_simple verb.Repack = refl
command_simple _ = refl

line_told : (name : Text) (rules : List Rule) (app : App) (words : List (Bor Text)) (error : Error) (why : NoTask) →
    (let all = (built (app_with name rules)).top.rules in list_all (is_tame all false) all ≡ true) →
    is_simple_and_free (app_with name rules) ≡ true → app ≡ app_with name rules →
    (is_simple_and_free app ≡ true → HasKind (fault_of app (map (λ word. word.now) words)) error) →
    EndsFor (kind_of error) why →
    IsToldByClap (ask_help (drop 1 (map (λ word. word.now) words)) ≡ true) why
line_told name rules app words error why tame simple is kinds ends =
    let texts = map (λ (word : Bor Text). word.now) words in
    told (ask_help (drop 1 texts)) (fault_of (app_with name rules) texts) error why (line_quiet name rules texts tame)
    (subst (λ a. HasKind (fault_of a texts) error) is
    (kinds (subst (λ a. is_simple_and_free a ≡ true) (sym is) simple))) ends

pub command_told : (verb : Verb) (app : App) (words : List (Bor Text)) (error : Error) (why : NoTask) →
    app ≡ command_app verb →
    (is_simple_and_free app ≡ true → HasKind (fault_of app (map (λ word. word.now) words)) error) →
    EndsFor (kind_of error) why →
    IsToldByClap (ask_help (drop 1 (map (λ word. word.now) words)) ≡ true) why
command_told verb app words error why is kinds ends =
    line_told (word_of verb) (rules_of verb) app words error why (command_tame verb) (command_simple verb) is kinds ends

-- a line of a dry run
pub trial_told : (app : App) (words : List (Bor Text)) (error : Error) (why : NoTask) →
    app ≡ app_with (codes "archive") dry_run_rules →
    (is_simple_and_free app ≡ true → HasKind (fault_of app (map (λ word. word.now) words)) error) →
    EndsFor (kind_of error) why →
    IsToldByClap (ask_help (drop 1 (map (λ word. word.now) words)) ≡ true) why
trial_told app words error why is kinds ends = line_told (codes "archive") dry_run_rules app words error why refl refl is kinds ends
