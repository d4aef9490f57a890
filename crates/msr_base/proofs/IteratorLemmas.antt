-- Iterators of which a list is left.
use Rattle.std.proofs.Common.{◌≡◌, ◌<◌, List, ◌∷◌, length, Some, sym, subst, arith}
use Rattle.std.specs.Prelude.{⊤}
use Rattle.std.specs.Iterator.{MakesProgress, item_count}

-- a call of `next` that gave the first item
pub first_given : {S A : Type 0} (left : S → List A) (s t : S) (x : A) → left s ≡ x ∷ left t
    → MakesProgress (λ _. ⊤) (item_count left) s (Some x) t
first_given left s t x e = record {
  on = λ _. (tt, tt, subst (λ l. length (left t) < length l) (sym e) (omega arith));
  keeps = tt;
  rests = λ _. tt;
}
