-- How what holds at each moment goes on.
use Rattle.std.proofs.Common.{◌≡◌, List, [], ◌∷◌, ◌++◌, sym, ◌∙◌, ap, subst, append_assoc}
use Rattle.msr_tree.specs.Steps.{AtEachMoment, Step, Throughout}

module _ (P : List Step → Type 0) where
  -- after these steps
  pub done : (old new made : List Step) → new ≡ made ++ old → Throughout P old made → AtEachMoment P old new
  done old new made is holds = record { made = made; since = is; holds = holds }

  last : (old made : List Step) → Throughout P old made → P (made ++ old)
  last old [] holds = holds
  last old (step ∷ made) holds = holds.1

  -- it holds at the end
  pub at_end : (old new : List Step) → AtEachMoment P old new → P new
  at_end old new each = subst P (sym each.since) (last old each.made each.holds)

  more : (old made later : List Step) → Throughout P old made → Throughout P (made ++ old) later → Throughout P old (later ++ made)
  more old made [] so_far holds = so_far
  more old made (step ∷ later) so_far holds = (more old made later so_far holds.0, subst P (sym (append_assoc (step ∷ later) made old)) holds.1)

  -- two calls
  pub joined : (old mid new : List Step) → AtEachMoment P old mid → AtEachMoment P mid new → AtEachMoment P old new
  joined old mid new one two =
      done old new (two.made ++ one.made)
      (two.since ∙ ap (λ l. two.made ++ l) one.since ∙ sym (append_assoc two.made one.made old))
      (more old one.made two.made one.holds (subst (λ l. Throughout P l two.made) one.since two.holds))
