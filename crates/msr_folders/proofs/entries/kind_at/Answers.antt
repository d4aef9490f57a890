use Rattle.std.proofs.Common.{◌≡◌, ◌∙◌, refl, subst, arith}
use Rattle.msr_tree.specs.Listing.{IsTold}
use Rattle.msr_folders.specs.Paths.{joined}
use Rattle.msr_folders.proofs.entries.kind_at.Goals as goal

pub returns-then-levels-eq0 : goal.returns-then-levels-eq0
returns-then-levels-eq0 g c = record {
  some = λ is. absurd cc;
  none = λ none. refl;
  told = λ some. absurd (omega (arith, c.if-levels-eq0.true, some));
}

pub returns : goal.returns
returns g c =
    let at : c.as_str.result.now ≡ joined c.args.root.now c.args.path.now = c.as_str.ensures.value ∙ c.in_ok-place.ensures in
    record {
      some = λ is. omega (arith, c.if-levels-eq0.false);
      none = λ none. absurd (omega (arith, c.if-levels-eq0.false, none));
      told = λ some past went. subst (λ p. IsTold past p c.kind.result) at (c.kind.ensures past went);
    }
