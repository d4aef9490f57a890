-- Where the samples of two segments first differ.
use Rattle.std.proofs.Common.{◌≡◌, ◌≢◌, ℕ, suc, ◌<◌, List, ◌∷◌, ◌++◌, length, take, drop, sym, ap, ◌∙◌, arith, ℤ, pos, get_or, FitsSigned, w32, to_z, of_z, to_z-of_z}
use Rattle.std.proofs.Math.Seq.{drop-cons}
use Rattle.std.proofs.lemmas.List.{length-take-le, take-append-drop}
use Rattle.msr_segments.specs.Unequals.{UnequalAt}

split_at : (xs : List ℤ) (at : ℕ) → at < length xs → xs ≡ take at xs ++ get_or xs at (pos 0) ∷ drop (suc at) xs
split_at xs at within =
    sym (take-append-drop at xs) ∙ ap (λ (l : List ℤ). take at xs ++ l) (drop-cons xs at (pos 0) within)

-- the samples at that place differ, and those before it do not
unequal_values : (ones others : List ℤ) (at : ℕ) → take at ones ≡ take at others → at < length ones
    → at < length others → get_or ones at (pos 0) ≢ get_or others at (pos 0)
    → UnequalAt ones others at (get_or ones at (pos 0)) (get_or others at (pos 0))
unequal_values ones others at same within other_within differ = record {
  front = take at ones;
  ones_after = drop (suc at) ones;
  others_after = drop (suc at) others;
  ones_are = split_at ones at within;
  others_are = split_at others at other_within
      ∙ ap (λ (l : List ℤ). l ++ get_or others at (pos 0) ∷ drop (suc at) others) (sym same);
  at_is = sym (length-take-le at ones (omega (arith, within)));
  differ = differ;
}

pub unequal_so : (ones others : List ℤ) (at : ℕ) → take at ones ≡ take at others → at < length ones
    → at < length others → FitsSigned w32 (get_or ones at (pos 0)) → FitsSigned w32 (get_or others at (pos 0))
    → of_z w32 (get_or ones at (pos 0)) ≢ of_z w32 (get_or others at (pos 0))
    → UnequalAt ones others at (to_z w32 (of_z w32 (get_or ones at (pos 0))))
    (to_z w32 (of_z w32 (get_or others at (pos 0))))
unequal_so ones others at same within other_within fits other_fits differ =
    rw (to_z-of_z fits, to_z-of_z other_fits) (unequal_values ones others at same within other_within
    (λ e. differ (ap (of_z w32) e)))
