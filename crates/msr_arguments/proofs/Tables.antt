-- What is asked of each command's rules, computed.
use Rattle.std.proofs.Common.{◌≡◌, ◌&&◌, ◌||◌, ℕ, Bool, true, false, true≢false, not, List, [], refl, sym, length, map, codes, Option, Some, is_some, lit<}
use Rattle.std.specs.List.{Any, list_all, list_any}
use Rattle.std.specs.Set.{distinct_count}
use Rattle.std.specs.Str.{bytes_eq}
use Rattle.clap.specs.Walk.{Rule}
use Rattle.clap.specs.declared.builder.action.ArgAction.{ArgAction}
use Rattle.clap.specs.declared.builder.action.ArgAction.TheVariants.{Set}
use Rattle.msr_options.specs.declared.task.Verb.{Verb}
use Rattle.msr_options.specs.declared.task.Verb.TheVariants as verb
use Rattle.msr_arguments.specs.Rules.{days_rule, rules_of, tolerance_rule}

-- clap adds nothing of that name
abbrev pub is_ours : (name : List ℕ) → Bool
is_ours name = not (bytes_eq name [] || (bytes_eq name (codes "help") || bytes_eq name (codes "version")))

abbrev pub is_set : Option ArgAction → Bool
is_set (Some Set) = true
is_set _ = false

-- an argument stands by itself, and if it has to be given, each use has one value
abbrev pub suits : Rule → Bool
suits rule = rule.is_simple && (rule.is_free && (is_ours rule.id
    && (not rule.required || (is_set rule.action && not (is_some rule.range)))))

pub rules_suit : (verb : Verb) → list_all suits (rules_of verb) ≡ true
rules_suit verb.Repack = refl
rules_suit _ = refl

pub counted_once : (verb : Verb) → let names = map (λ (rule : Rule). rule.id) (rules_of verb) in
    distinct_count bytes_eq names ≡ length names
counted_once verb.Repack = refl
counted_once _ = refl

pub tolerance_at : (verb : Verb) → list_any (λ rule. bytes_eq rule.id (codes "tolerance")) (rules_of verb) ≡ true →
    Any (λ rule. rule ≡ tolerance_rule) (rules_of verb)
tolerance_at verb.Check has = absurd (true≢false (sym has))
tolerance_at verb.Verify has = absurd (true≢false (sym has))
tolerance_at verb.Replace has = absurd (true≢false (sym has))
tolerance_at verb.List has = (0, tolerance_rule, lit< tt, refl, refl)
tolerance_at verb.Compare has = (0, tolerance_rule, lit< tt, refl, refl)
tolerance_at _ has = (2, tolerance_rule, lit< tt, refl, refl)

-- how many days it is without a value
abbrev pub days_by : Verb → List ℕ
days_by verb.Archive = codes "0"
days_by _ = codes "7"

pub days_at : (verb : Verb) → list_any (λ rule. bytes_eq rule.id (codes "older-than")) (rules_of verb) ≡ true →
    Any (λ rule. rule ≡ days_rule (days_by verb)) (rules_of verb)
days_at verb.Archive has = (9, days_rule (codes "0"), lit< tt, refl, refl)
days_at verb.Replace has = (3, days_rule (codes "7"), lit< tt, refl, refl)
days_at _ has = absurd (true≢false (sym has))
