use Rattle.std.proofs.Common.{◌≡◌, ◌∙◌, ap, refl, Bool, true, false}
use Rattle.msr_folders.specs.Names.{day_name}
use Rattle.msr_options.specs.Days.{names_for}
use Rattle.msr_options.specs.declared.names.Names.{Names}
use Rattle.msr_options.specs.declared.names.Names.TheVariants.{Any, Own}
use Rattle.msr_verify.specs.Files.{names_asked}
use Rattle.msr_verify.proofs.visitors.names_of.Goals as goal

asked_is : (own : Bool) (names : Names) → (own ≡ true → names ≡ Own) → (own ≡ false → names ≡ Any) → names ≡ names_asked own
asked_is true names is any = is refl
asked_is false names is any = any refl

pub returns : goal.returns
returns c =
    c.names_for.ensures
    ∙ ap (λ (a : Names). names_for (day_name c.args.name.now) a) (asked_is c.args.archive.now.names c.asked.result c.asked.ensures.own c.asked.ensures.any)
