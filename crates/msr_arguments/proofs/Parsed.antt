-- In a line that it lets through clap has found what the command needs.
use Rattle.std.proofs.Common.{◌≡◌, ◌≢◌, ◌<◌, ◌≤◌, ◌^◌, ◌∙◌, ◌&&◌, ◌||◌, ℕ, Bool, cond, true, false, true≢false, not, zero, suc, pos, List, [], ◌∷◌, ap, sym, refl, arith, inl, inr, length, map, codes, Option, None, Some, IsSome, is_some, lit<}
use Rattle.std.specs.Cmp.{decided}
use Rattle.std.specs.List.{All, AllPairs, Any, list_all, list_any, slice_index_or}
use Rattle.std.specs.Option.{IsSomeAnd, option_map}
use Rattle.std.specs.Prelude.{find, slice_get}
use Rattle.std.specs.Set.{distinct_count}
use Rattle.std.specs.Str.{bytes_eq}
use Rattle.std.specs.Str.Parse.{ParsesUnsigned}
use Rattle.std.proofs.lemmas.Bool.{cases_lt}
use Rattle.std.proofs.lemmas.List.{get_or-map, length-map}
use Rattle.std.proofs.lemmas.List.Elements.{All-cons, All-nil}
use Rattle.std.proofs.lemmas.Map.Made.{AllPairs-from_IsDistinct, IsDistinct-from_count}
use Rattle.std.proofs.lemmas.Slice.Eq.{bytes_eq-Decides}
use Rattle.clap.proofs.CallerLemmas.{default_present, entry_by_id, required_has_value, same_rules_by_id}
use Rattle.clap.proofs.CallerReads.{signed_reads}
use Rattle.clap.proofs.SimpleLemmas.{is_false, is_nil}
use Rattle.clap.proofs.WalkLemmas.{both}
use Rattle.clap.specs.Built.{IsAuto, IsParsedFrom, IsPlain, IsPlainArg, SameRules}
use Rattle.clap.specs.Facts.{Entry, EntryPasses, HasIn, WantsDefault, args_of, groups_of, least_values}
use Rattle.clap.specs.Matches.{ReadsOne, found_of}
use Rattle.clap.specs.Simple.{App, app_of}
use Rattle.clap.specs.Texts.{items_of}
use Rattle.clap.specs.Values.{IsSignedIn, read_as}
use Rattle.clap.specs.Walk.{Rule, rule_of}
use Rattle.clap.specs.Words.{first_value, one_text}
use Rattle.clap.specs.declared.builder.action.ArgAction.{ArgAction}
use Rattle.clap.specs.declared.builder.action.ArgAction.TheVariants.{Count, Set}
use Rattle.clap.specs.declared.builder.arg.Arg.{Arg}
use Rattle.clap.specs.declared.builder.command.Command.{Command}
use Rattle.clap.specs.declared.builder.command.Command.TheViews.{out-Command}
use Rattle.clap.specs.declared.builder.value_parser.Reading.{Reading}
use Rattle.clap.specs.declared.builder.value_parser.Reading.TheVariants.{WithoutMinus}
use Rattle.clap.specs.declared.builder.value_parser.ValueParser.TheVariants.{Signed}
use Rattle.clap.specs.declared.parser.matches.ArgMatches.{ArgMatches}
use Rattle.clap.specs.declared.parser.matches.Found.{Found}
use Rattle.msr_options.specs.Tasks.{IsTolerance, word_of}
use Rattle.msr_options.specs.declared.task.Verb.{Verb}
use Rattle.msr_arguments.specs.Found.{IsNumberOf}
use Rattle.msr_arguments.specs.Rules.{HasNeeded, IsFoundBy, IsFoundFor, dry_run_rules, rules_of, app_with, days_rule, option_rule, tolerance_rule}
use Rattle.msr_arguments.proofs.Adding.{plain_fields}
use Rattle.msr_arguments.proofs.Tables.{counted_once, days_at, days_by, is_ours, is_set, rules_suit, suits, tolerance_at}
use denote.Ref.{Bor}

-- it is a number of the range
abbrev IsIn : (low high : ℕ) → (number : Option ℕ) → Type 0
IsIn low high number = (n : ℕ) × (number ≡ Some n) × (low ≤ n) × (n ≤ high)

-- the number that is read of the first value, each value being one of the range
number_in_range : (low high : ℕ) (values : List (Bor (List ℕ))) (how : Reading) (number : Option ℕ) → high < 2 ^ 32 →
    0 < length values → All (λ value. IsSignedIn (pos low) (pos high) value.now) values → how ≡ WithoutMinus →
    IsNumberOf (option_map (λ value. read_as how value.now) (slice_get values 0)) number → IsIn low high number
number_in_range low high [] how number fits some all is reads = absurd (omega (arith, some))
number_in_range low high (value ∷ values) how number fits some all is reads =
    signed_reads (List ℕ) (ParsesUnsigned 32 10) 32 low high value.now number (as_read number (rw is at reads))
    (λ text read given. given) fits (all 0 value (omega arith))
  where
    as_read : (read : Option ℕ) → IsNumberOf (Some (read_as WithoutMinus value.now)) read →
        ReadsOne {E = List ℕ} (ParsesUnsigned 32 10) (read_as WithoutMinus value.now) read
    as_read None reads = (read_as WithoutMinus value.now, reads)
    as_read (Some n) reads = reads

holds_tolerance : (number : Option ℕ) → IsIn 1 1_000_000 number → IsSomeAnd number IsTolerance
holds_tolerance number (n, is, least, most) = rw is (record { least = least; most = most })

holds_days : (number : Option ℕ) → IsIn 0 4_294_967_295 number → IsSome number
holds_days number (n, is, least, most) = rw is refl

set_action : (action : Option ArgAction) → is_set action ≡ true → action ≡ Some Set
set_action (Some Set) is = refl
set_action _ is = absurd (true≢false (sym is))

no_value : {X : Type 0} (o : Option X) → is_some o ≡ false → o ≡ None
no_value None is = refl
no_value (Some x) is = absurd (true≢false is)

wants_default : (arg : Arg) → arg.default_vals_ifs.items ≡ [] → length (rule_of arg).defaults ≡ 1 → WantsDefault arg
wants_default arg ifs one =
    (ifs, omega (arith, one, length-map (items_of arg.default_vals) (λ (s : Bor (List ℕ)). s.now)))

takes_one : (required set none : Bool) → (not required || (set && none)) ≡ true → required ≡ true →
    (set ≡ true) × (none ≡ true)
takes_one true set none one given = both set none one
takes_one false set none one given = absurd (true≢false (sym given))

one_value : (arg : Arg) → arg.num_vals ≡ None → 1 ≤ least_values arg
one_value arg is = rw (is, least_values) (omega arith)

plain_arg : (arg : Arg) → suits (rule_of arg) ≡ true →
    IsPlainArg arg × (arg.val_delim ≡ None) × (arg.default_vals_ifs.items ≡ [])
plain_arg arg suit =
    let (simple, more) = both _ _ suit in
    let (overrides, others) = both _ _ simple in
    let (ifs, rest) = both _ _ others in
    let (groups, end) = both _ _ rest in
    let (exclusive, free) = both _ _ (both _ _ more).0 in (
      (is_false _ exclusive, is_nil _ (both _ _ free).0, is_nil _ overrides, is_nil _ groups),
      no_value _ (is_false _ (both _ _ end).0),
      is_nil _ ifs,
    )

all_plain : (args : List Arg) → list_all suits (map rule_of args) ≡ true → All IsPlainArg args
all_plain [] suit = All-nil IsPlainArg
all_plain (arg ∷ args) suit =
    let each = both _ _ suit in
    All-cons IsPlainArg arg args (plain_arg arg each.0).0 (all_plain args each.1)

one_more : {m n : ℕ} → m < n → suc m < suc n
one_more less = omega (arith, less)

-- the argument of a rule
arg_at : (args : List Arg) (k : ℕ) (rule : Rule) → list_all suits (map rule_of args) ≡ true → k < length (map rule_of args) →
    slice_index_or (map rule_of args) k rule ≡ rule →
    (arg : Arg) × (k < length args) × (slice_index_or args k arg ≡ arg) × (rule_of arg ≡ rule)
    × (suits (rule_of arg) ≡ true)
arg_at [] k rule suit within at = absurd (omega (arith, within))
arg_at (arg ∷ args) zero rule suit within at = (arg, omega arith, refl, at, (both _ _ suit).0)
arg_at (arg ∷ args) (suc k) rule suit within at =
    let (found, inside, here, of, fits) = arg_at args k rule (both _ _ suit).1 (omega (arith, within)) at in
    (found, one_more inside, here, of, fits)

entry_there : (entries : List Entry) (id : List ℕ) → HasIn entries id →
    IsSome (option_map (λ (e : Entry). e.1) (find (λ e. bytes_eq e.0.now id) entries))
entry_there [] id has = absurd (omega (arith, has.1))
entry_there (entry ∷ entries) id (zero, within, same) = rw (same entry) refl
entry_there (entry ∷ entries) id (suc i, within, same) =
    elim (bytes_eq entry.0.now id) as (λ first. IsSome (option_map (λ (e : Entry). e.1)
    (cond first (Some entry) (find (λ e. bytes_eq e.0.now id) entries)))) [
      | true ↦ refl
      | false ↦ entry_there entries id (i, omega (arith, within), same)
    ]

some_is : {X : Type 0} (o : Option X) → IsSome o → (x : X) × (o ≡ Some x)
some_is None is = cc
some_is (Some x) is = (x, refl)

ours_only : (name other : List ℕ) → is_ours name ≡ true → is_ours other ≡ false → name ≢ other
ours_only name other ours theirs is = true≢false (sym (sym theirs ∙ ap is_ours (sym is) ∙ ours))

not_own : (arg : Arg) → is_ours arg.id.now ≡ true → IsAuto arg → ⊥
not_own arg ours (inl help) = ours_only arg.id.now _ ours refl help
not_own arg ours (inr version) = ours_only arg.id.now _ ours refl version

-- the entry of such an option has a value, and each is one of the range
entry_reads : (low high : ℕ) (c : Command) (arg : Arg) (e : Entry) → arg.action ≡ Some Set → arg.val_delim ≡ None → 1 ≤ least_values arg →
    arg.value_parser ≡ Some (Signed (pos low) (pos high)) → EntryPasses c e → groups_of c ≡ [] → e.0.now ≢ [] →
    ((j : ℕ) (y : Arg) → j < length (args_of c) → slice_index_or (args_of c) j y ≡ y → bytes_eq y.id.now e.0.now ≡ true →
    SameRules arg y) →
    (0 < length e.1.vals.items) × All (λ value. IsSignedIn (pos low) (pos high) value.now) e.1.vals.items
    × (e.1.reading ≡ WithoutMinus)
entry_reads low high c arg e action delimiter least parser passes groups named same =
    let no_group : e.1.is_group ≡ true → ⊥ = λ group. elim (passes.3 group) [
      | inl empty ↦ named empty
      | inr some ↦ let none : 0 < 0 = rw groups at some in absurd (omega (arith, none))
    ] in (
      elim passes.1 [
        | inl group ↦ absurd (no_group group.0)
        | inr (inl some) ↦ some
        | inr (inr (inl (is, (j, y, within, at, (id, counts))))) ↦
            let set = (same j y within at id).action Set action in
            let bad : Set ≡ Count = rw set at counts in cc
        | inr (inr (inr (j, y, within, at, (id, inl none)))) ↦
            let one = (same j y within at id).least action least in absurd (omega (arith, one, none))
        | inr (inr (inr (j, y, within, at, (id, inr split)))) ↦
            let whole = (same j y within at id).val_delim ∙ delimiter in
            let bad : false ≡ true = rw whole at split in absurd (true≢false (sym bad))
      ],
      elim passes.0 [
        | inl group ↦ absurd (no_group group)
        | inr all ↦ λ k d within.
            let any = all k d within in
            rw ((same any.0 any.1 any.2 any.3 any.4.0).parser _ parser) at any.4.1
      ],
      elim passes.4 [
        | inl group ↦ absurd (no_group group)
        | inr (j, y, within, at, (id, how)) ↦ sym (rw ((same j y within at id).parser _ parser) at how)
      ],
    )

module _ (name : List ℕ) (rules : List Rule) (command : Command) (m : ArgMatches) (is : app_of command ≡ app_with name rules)
    (suit : list_all suits rules ≡ true)
    (apart : AllPairs (λ one other. one ≢ other) (map (λ (rule : Rule). rule.id) rules)) (p : IsParsedFrom command m) where
  rules_are : map rule_of (args_of command) ≡ rules
  rules_are = ap (λ (app : App). app.top.rules) is

  fields : (groups_of command ≡ []) × ((out-Command command).has_globals ≡ false)
  fields = plain_fields command (ap (λ (app : App). app.top.is_plain) is)

  globals : (out-Command command).has_globals ≡ false
  globals = fields.1

  plain : IsPlain command
  plain = (all_plain (args_of command) (rw rules_are suit), fields.0)

  negates : (out-Command command).subcommand_negates_reqs ≡ false
  negates = ap (λ (app : App). app.top.subcommand_negates_reqs) is

  id_at : (k : ℕ) (d : Arg) → k < length (args_of command) →
      slice_index_or (map (λ (rule : Rule). rule.id) rules) k [] ≡ (slice_index_or (args_of command) k d).id.now
  id_at k d within =
      rw (← rules_are)
      (get_or-map (λ (rule : Rule). rule.id) (map rule_of (args_of command)) k (rule_of d) []
      (omega (arith, within, length-map (args_of command) rule_of))
      ∙ ap (λ (rule : Rule). rule.id) (get_or-map rule_of (args_of command) k d (rule_of d) within))

  named_once : (j k : ℕ) (d e : Arg) → j < length (args_of command) → k < length (args_of command) →
      bytes_eq (slice_index_or (args_of command) j e).id.now (slice_index_or (args_of command) k d).id.now ≡ true → j ≡ k
  named_once j k d e first second same =
      let id = λ (rule : Rule). rule.id in
      let far : length (map id rules) ≡ length (args_of command) =
      rw (← rules_are) (length-map (map rule_of (args_of command)) id ∙ length-map (args_of command) rule_of) in
      let equal : slice_index_or (map id rules) j [] ≡ slice_index_or (map id rules) k [] =
      id_at j e first ∙ (bytes_eq-Decides _ _).0 same ∙ sym (id_at k d second) in
      elim (cases_lt j k) [
        | inl less ↦ absurd (apart j k [] less (omega (arith, far, second)) equal)
        | inr most ↦ elim (cases_lt k j) [
          | inl less ↦ absurd (apart k j [] less (omega (arith, far, first)) (sym equal))
          | inr least ↦ omega (arith, least, most)
        ]
      ]

  place : (k : ℕ) (rule : Rule) → k < length rules → slice_index_or rules k rule ≡ rule →
      (arg : Arg) × (k < length (args_of command)) × (slice_index_or (args_of command) k arg ≡ arg) × (rule_of arg ≡ rule)
      × (suits (rule_of arg) ≡ true)
  place k rule within at =
      arg_at (args_of command) k rule (rw rules_are suit) (rw rules_are within) (rw rules_are at)

  same_arg : (k : ℕ) (arg : Arg) → k < length (args_of command) → slice_index_or (args_of command) k arg ≡ arg →
      is_ours arg.id.now ≡ true → (j : ℕ) (y : Arg) → j < length (args_of p.built) →
      slice_index_or (args_of p.built) j y ≡ y → bytes_eq y.id.now arg.id.now ≡ true → SameRules arg y
  same_arg k arg inside here own j y within at same =
      rw here at (same_rules_by_id command m p k arg inside (λ i e first id. named_once i k arg e first inside id)
      (λ auto. not_own arg own (rw here at auto)) j y within at (rw here same))

  file_there : (k : ℕ) (rule : Rule) → k < length rules → slice_index_or rules k rule ≡ rule → rule.required ≡ true →
      IsSome (first_value (found_of m) rule.id)
  file_there k rule within at required =
      let (arg, inside, here, of, fits) = place k rule within at in
      let given : arg.required ≡ true = ap (λ (r : Rule). r.required) of ∙ required in
      let (own, value) = both _ _ (both _ _ (both _ _ fits).1).1 in
      let (set, range) = takes_one _ _ _ value given in
      let one : arg.num_vals ≡ None = no_value _ (is_false _ range) in
      let there = required_has_value command m p plain globals negates k arg inside (rw here given)
      (rw here (set_action _ set)) (rw here (plain_arg arg fits).1) (rw here (one_value arg one))
      (λ i e first id. named_once i k arg e first inside id) (rw here (ours_only arg.id.now [] own refl))
      (λ auto. not_own arg own (rw here at auto)) in
      rw (← ap (λ (r : Rule). r.id) of) (rw here at there)

  number_there : (low high : ℕ) (name default : List ℕ) → high < 2 ^ 32 →
      Any (λ rule. rule ≡ option_rule name default (Signed (pos low) (pos high))) rules → (number : Option ℕ) →
      IsNumberOf (one_text (found_of m) name) number → IsIn low high number
  number_there low high name default fits_bits (k, rule, within, at, same_rule) number reads =
      let (arg, inside, here, of, fits) = place k rule within at in
      let is_rule = of ∙ same_rule in
      let id : arg.id.now ≡ name = ap (λ (r : Rule). r.id) is_rule in
      let own : is_ours arg.id.now ≡ true = (both _ _ (both _ _ (both _ _ fits).1).1).0 in
      let one : arg.num_vals ≡ None = ap (λ (r : Rule). r.range) is_rule in
      let wants = wants_default arg (plain_arg arg fits).2 (ap (λ (r : Rule). length r.defaults) is_rule) in
      let entries = (found_of m).entries.items in
      let has = default_present command m p globals k arg inside (rw here wants) in
      let (entry, there) = some_is _ (entry_there entries name (rw (here, id) at has)) in
      let values = (p.parsed (p.from.globals ∙ globals)).values in
      let (e, same, key, holds) = entry_by_id (EntryPasses p.built) entries name entry values there in
      let key_is : e.0.now ≡ name = (bytes_eq-Decides e.0.now name).0 key in
      let (some, all, how) =
      rw same at (entry_reads low high p.built arg e (ap (λ (r : Rule). r.action) is_rule) (plain_arg arg fits).1 (one_value arg one)
      (ap (λ (r : Rule). r.parser) is_rule) holds (p.from.plain plain).1
      (rw (key_is, ← id) (ours_only arg.id.now [] own refl))
      (λ j y within at equal. same_arg k arg inside here own j y within at (rw (id, ← key_is) equal))) in
      number_in_range low high entry.vals.items entry.reading number fits_bits some all how (rw there at reads)

has_needed : (rules : List Rule) (found : Found) →
    ((k : ℕ) (rule : Rule) → k < length rules → slice_index_or rules k rule ≡ rule → rule.required ≡ true →
    IsSome (first_value found rule.id)) → HasNeeded rules found
has_needed [] found each = tt
has_needed (rule ∷ rules) found each = (
  each 0 rule (omega arith) refl,
  has_needed rules found (λ k next within at. each (suc k) next (omega (arith, within)) at),
)

-- a line of these arguments
has_by : (name : List ℕ) (rules : List Rule) (default : List ℕ) (command : Command) (m : ArgMatches) → app_of command ≡ app_with name rules →
    list_all suits rules ≡ true →
    (let names = map (λ (rule : Rule). rule.id) rules in distinct_count bytes_eq names ≡ length names) →
    (list_any (λ rule. bytes_eq rule.id (codes "tolerance")) rules ≡ true → Any (λ rule. rule ≡ tolerance_rule) rules) →
    (list_any (λ rule. bytes_eq rule.id (codes "older-than")) rules ≡ true → Any (λ rule. rule ≡ days_rule default) rules) →
    IsParsedFrom command m → IsFoundBy rules (found_of m)
has_by name rules default command m is suit once tolerance_in days_in p =
    let apart = AllPairs-from_IsDistinct bytes_eq-Decides _
    (IsDistinct-from_count (decided bytes_eq bytes_eq-Decides) _ once) in
    record {
      files = has_needed rules (found_of m) (file_there name rules command m is suit apart p);
      tolerance = λ has number reads. holds_tolerance number
          (number_there name rules command m is suit apart p 1 1_000_000 (codes "tolerance")
          (codes "1000") (lit< tt) (tolerance_in has) number reads);
      days = λ has number reads. holds_days number
          (number_there name rules command m is suit apart p 0 4_294_967_295
          (codes "older-than") default (lit< tt) (days_in has) number reads);
    }

pub has_all : (verb : Verb) (command : Command) (m : ArgMatches) →
    app_of command ≡ app_with (word_of verb) (rules_of verb) → IsParsedFrom command m → IsFoundFor verb (found_of m)
has_all verb command m is p = has_by (word_of verb) (rules_of verb) (days_by verb) command m is (rules_suit verb)
    (counted_once verb) (tolerance_at verb) (days_at verb) p

-- the line of a dry run
pub has_tried : (command : Command) (m : ArgMatches) → app_of command ≡ app_with (codes "archive") dry_run_rules →
    IsParsedFrom command m → IsFoundBy dry_run_rules (found_of m)
has_tried command m is p = has_by (codes "archive") dry_run_rules (codes "0") command m is refl refl
    (λ has. (2, tolerance_rule, lit< tt, refl, refl)) (λ has. (5, days_rule (codes "0"), lit< tt, refl, refl)) p
