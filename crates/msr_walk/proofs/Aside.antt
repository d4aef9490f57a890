-- Folders that stand apart, and the names within them.
use Rattle.std.proofs.Common.{◌≡◌, inl, inr, ⊎_elim, ℕ, [], ◌∷◌, ◌++◌, refl, sym, ◌∙◌, ap, subst, append_assoc}
use Rattle.msr_options.specs.Tasks.{Overlap, StandApart}
use Rattle.msr_options.specs.declared.task.Folders.{Folders}
use Rattle.msr_tree.specs.Steps.{Path}
use Rattle.msr_folders.specs.Entries.{StandsWithin}
use Rattle.msr_folders.specs.Paths.{ended, joined}
use Rattle.msr_folders.specs.Within.{IsSeparate}

overlap_more : (x : ℕ) (a b : Path) → Overlap a b → Overlap (x ∷ a) (x ∷ b)
overlap_more x a b over = ⊎_elim
    (λ same. inl (ap (λ l. x ∷ l) same))
    (λ below. ⊎_elim
    (λ one. inr (inl (one.0, ap (λ l. x ∷ l) one.1)))
    (λ other. inr (inr (other.0, ap (λ l. x ∷ l) other.1)))
    below)
    over

abbrev head_of : Path → ℕ
head_of [] = 0
head_of (x ∷ a) = x

abbrev tail_of : Path → Path
tail_of [] = []
tail_of (x ∷ a) = a

-- two folders with a name in both overlap
pub both_below : (a b r s : Path) → a ++ 47 ∷ r ≡ b ++ 47 ∷ s → Overlap a b
both_below [] [] r s is = inl refl
both_below [] (y ∷ b) r s is =
    let slash : y ≡ 47 = ap head_of (sym is) in
    inr (inl (b, ap (λ n. n ∷ b) slash))
both_below (x ∷ a) [] r s is =
    let slash : x ≡ 47 = ap head_of is in
    inr (inr (a, ap (λ n. n ∷ a) slash))
both_below (x ∷ a) (y ∷ b) r s is =
    let same : x ≡ y = ap head_of is in
    let more : Overlap a b = both_below a b r s (ap tail_of is) in
    subst (λ n. Overlap (x ∷ a) (n ∷ b)) same (overlap_more x a b more)

pub overlaps_within : (root out place : Path) → StandsWithin root place → StandsWithin out place → Overlap root out
overlaps_within root out place one other = ⊎_elim
    (λ is. ⊎_elim
    (λ also. inl (sym is ∙ also))
    (λ below. inr (inr (below.0, sym is ∙ below.1)))
    other)
    (λ there. ⊎_elim
    (λ also. inr (inl (there.0, sym also ∙ there.1)))
    (λ below. both_below root out there.0 below.0 (sym there.1 ∙ below.1))
    other)
    one

-- folders that stand apart
pub separate : (folders : Folders) → StandApart folders → IsSeparate folders.root.now folders.out.now folders.reports.now
separate folders apart = record {
  from_one = λ place within is. apart.out (overlaps_within folders.root.now folders.out.now place within is);
  from_two = λ place within is. apart.reports (overlaps_within folders.root.now folders.reports.now place within is);
}

-- with an ending
pub within_ended : (folder path ending : Path) (p : ℕ) (rest : Path) → path ≡ p ∷ rest → StandsWithin folder (ended (joined folder path) ending)
within_ended [] path ending p rest is = inl refl
within_ended (f ∷ folder) path ending p rest is =
    subst (λ l. StandsWithin (f ∷ folder) (ended (joined (f ∷ folder) l) ending)) (sym is)
    (inr ((p ∷ rest) ++ ending, append_assoc (f ∷ folder) (47 ∷ p ∷ rest) ending))

pub within_both : (folder path one two : Path) (p : ℕ) (rest : Path) → path ≡ p ∷ rest → StandsWithin folder (ended (ended (joined folder path) one) two)
within_both [] path one two p rest is = inl refl
within_both (f ∷ folder) path one two p rest is =
    subst (λ l. StandsWithin (f ∷ folder) (ended (ended (joined (f ∷ folder) l) one) two)) (sym is)
    (inr (
      (p ∷ rest) ++ one ++ two,
      append_assoc ((f ∷ folder) ++ 47 ∷ p ∷ rest) one two ∙ (append_assoc (f ∷ folder) (47 ∷ p ∷ rest) (one ++ two)
          ∙ ap (λ l. (f ∷ folder) ++ 47 ∷ l) (sym (append_assoc (p ∷ rest) one two))),
    ))
