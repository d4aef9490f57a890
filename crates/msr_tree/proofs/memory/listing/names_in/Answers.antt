use Rattle.std.proofs.Common.{rules, ◌≡◌, ◌∙◌, ◌∷◌, ◌++◌, [], length, sym, ap, subst, arith}
use Rattle.std.proofs.lemmas.Grind.{common_steps}
use Rattle.std.proofs.lemmas.List.{map-append}
use Rattle.std.specs.Prelude.{string_bytes}
use Rattle.msr_tree.specs.Listing.{listed}
use Rattle.msr_tree.specs.Memory.{step_of, steps_kept}
use Rattle.msr_tree.proofs.Deeds.{last_step}
use Rattle.msr_tree.proofs.Names.{AreNamed, named_given, named_kept, named_listing, no_items}
use Rattle.msr_tree.proofs.memory.listing.names_in.Goals as goal

pub loop-deed-preserved-in_ok-push : goal.loop-deed-preserved-in_ok-push
loop-deed-preserved-in_ok-push c =
    let past = steps_kept c.args.deeds.now in
    let folder = c.args.folder.now in
    let name = c.in-Some-entry_of.name.now in
    let items = c.loop-deed.names.items in
    let whole : c.loop-deed.rest.now ≡ c.in-Some.before.now ++ (c.in-Some.deed.now ∷ []) = search rules in
    let steps = last_step c.loop-deed.rest.now c.in-Some.before.now c.in-Some.deed.now whole in
    let named = subst (λ l. AreNamed past l folder (listed items)) steps c.loop-deed.invariant in
    let one_more : listed c.push.new.self.items ≡ listed items ++ name ∷ [] =
    ap listed c.in_ok-push.ensures.items ∙ (map-append (λ s. string_bytes s) items (c.in_ok-from_str.field-0 ∷ [])
    ∙ ap (λ b. listed items ++ b ∷ []) c.in_ok-from_str.ensures.ok) in
    subst (λ l. AreNamed past (steps_kept c.in-Some.before.now) folder l) (sym one_more)
    (named_given past (steps_kept c.in-Some.before.now) folder (step_of c.in-Some.deed.now) name (listed items) c.in-Some-entry_of.ensures.only
    c.in-Some-entry_of.ensures.all named)

pub loop-deed-preserved : goal.loop-deed-preserved
loop-deed-preserved c =
    let past = steps_kept c.args.deeds.now in
    let folder = c.args.folder.now in
    let items = c.loop-deed.names.items in
    let whole : c.loop-deed.rest.now ≡ c.in-Some.before.now ++ (c.in-Some.deed.now ∷ []) = search rules in
    let steps = last_step c.loop-deed.rest.now c.in-Some.before.now c.in-Some.deed.now whole in
    let named = subst (λ l. AreNamed past l folder (listed items)) steps c.loop-deed.invariant in
    named_kept past (steps_kept c.in-Some.before.now) folder (step_of c.in-Some.deed.now) (listed items) c.in_default-entry_of.ensures.all named

pub returns : goal.returns
returns c =
    let past = steps_kept c.args.deeds.now in
    let folder = c.args.folder.now in
    let items = c.loop-deed.names.items in
    let zero : length c.loop-deed.rest.now ≡ 0 = grind (arith, common_steps, c.in_default.ensures.variant) in
    let none : c.loop-deed.rest.now ≡ [] = no_items c.loop-deed.rest.now zero in
    let named = subst (λ l. AreNamed past (steps_kept l) folder (listed items)) none c.loop-deed.invariant in
    named_listing past folder (listed items) (listed c.in_order.new.names.items) c.requires c.in_order.ensures.ascend c.in_order.ensures.same named
