-- One size more.
use Rattle.std.proofs.Common.{rules, arith, sym, ◌<◌, ◌≤◌, ◌-◌, ◌∷◌, length-set, drop, w64, SFits, subst, ◌∙◌}
use Rattle.std.proofs.lemmas.Int.{to_z-of_z}
use Rattle.std.proofs.lemmas.List.{drop_all}
use Rattle.msr_words.specs.FirstGroup.{IsFirstGroup}
use Rattle.msr_words.specs.Following.{IsFollowing}
use Rattle.msr_words.proofs.FirstGroups.{given_at, sizes_more}
use Rattle.msr_words.proofs.first_group.sizes_of.Goals as goal

pub loop-at-preserved : goal.loop-at-preserved
loop-at-preserved g c =
    let diff : SFits w64 c.difference.result = search rules in
    let inv = c.loop-at.invariant in
    let some : 0 < c.loop-at.at = c.loop-at-test.true in
    let within : c.loop-at.at ≤ c.args.count = omega (arith, inv.few) in
    record {
      few = omega (arith, c.preceded_by-following.ensures.few, inv.few);
      long = length-set c.loop-at.sizes.items (c.loop-at.at - 1) c.preceded_by-following.result.group ∙ inv.long;
      following = λ ds given.
          let cut = given_at _ c.args.count ds given (c.loop-at.at - 1) c.loop-at.at c.difference.result (omega arith)
          within c.difference.ensures in
          let following : IsFollowing (c.difference.result ∷ drop c.loop-at.at ds) c.preceded_by-following.result =
          simp to_z-of_z
          at (c.preceded_by-following.ensures.following (drop c.loop-at.at ds) (inv.following ds given)) in
          subst (λ xs. IsFollowing xs c.preceded_by-following.result) cut following;
      sizes = λ ds given.
          let cut = given_at _ c.args.count ds given (c.loop-at.at - 1) c.loop-at.at c.difference.result (omega arith)
          within c.difference.ensures in
          let group : IsFirstGroup (c.difference.result ∷ drop c.loop-at.at ds) c.preceded_by-following.result.group
          (c.preceded_by-following.result.all - 1) =
          simp to_z-of_z at (c.preceded_by-following.ensures.group (drop c.loop-at.at ds) (inv.following ds given)) in
          let long = given.long in
          sizes_more ds (c.loop-at.at - 1) c.loop-at.at c.preceded_by-following.result.group c.loop-at.sizes.items
          (omega arith) (inv.sizes ds given) (omega arith) (
            c.preceded_by-following.result.all - 1,
            subst (λ xs. IsFirstGroup xs c.preceded_by-following.result.group (c.preceded_by-following.result.all - 1))
                cut group,
          );
    }

pub loop-at-init : goal.loop-at-init
loop-at-init g c =
    let long = sym c.in_ok-sizes.sizes.ok.0 ∙ c.in_ok-sizes.ensures.len in
    record {
      few = omega (arith, c.nothing-following.ensures.few);
      long = long;
      following = λ ds given. subst (λ xs. IsFollowing xs c.nothing-following.result)
          (sym (drop_all c.args.count ds (omega (arith, given.long)))) c.nothing-following.ensures.following;
      sizes = λ ds given. record {
        long = long ∙ sym given.long;
        each = λ at from less. absurd (omega (arith, given.long));
      };
    }
