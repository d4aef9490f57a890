-- A path that ends with a name.
use Rattle.std.proofs.Common.{◌≡◌, ◌≢◌, ◌<◌, ◌∙◌, ℕ, [], ◌∷◌, ◌++◌, length, drop, take, get_or, refl, sym, ap, arith, lit<, None, length-append}
use Rattle.std.proofs.lemmas.List.{take-append-drop}
use Rattle.std.proofs.lemmas.Str.Pattern.{NoCharPasses-char}
use Rattle.std.proofs.Math.Seq.{get_or-append_seam}
use Rattle.std.specs.Str.Pattern.{RFindsChar, SplitsAroundMatch}
use Rattle.msr_tree.specs.Listing.{path_in}
use Rattle.msr_tree.specs.Steps.{Path}

-- no slash stands in it
abbrev pub IsPlain : Path → Type 0
IsPlain name = (at : ℕ) → at < length name → get_or name at 0 ≢ 47

-- what stands before the last slash, and after it
pub record IsCut (path front back : Path) : Type 0 where
  pub whole : path ≡ path_in front back
  pub plain : IsPlain back

pub is_cut : (path front back : Path) → SplitsAroundMatch (RFindsChar 47) path front back → IsCut path front back
unfolding lib.Utf8.encode
is_cut path front back h =
    let i = h.0 in
    let j = h.1 in
    let at = h.2.1 in
    let rest : drop i path ≡ 47 ∷ drop j path = at.split in
    let whole : take i path ++ 47 ∷ drop j path ≡ path = ap (λ l. take i path ++ l) (sym rest) ∙ take-append-drop i path in
    record {
      whole = sym whole ∙ (ap (λ l. l ++ 47 ∷ drop j path) (sym h.3) ∙ ap (λ l. front ++ 47 ∷ l) (sym h.4));
      plain = λ k lt. rw h.4 (NoCharPasses-char 47 (drop j path) k h.2.0 (lit< tt) (rw h.4 at lt));
    }

-- a path without a slash
pub no_cut : (path folder name : Path) → RFindsChar 47 path None → path ≢ path_in folder name
no_cut path folder name none is =
    let seam : get_or path (length folder) 0 ≡ 47 = rw is (get_or-append_seam folder 47 name 0) in
    let within : length folder < length path = rw is (omega (arith, length-append folder (47 ∷ name))) in
    NoCharPasses-char 47 path (length folder) none (lit< tt) within seam

after_slash : (back folder name : Path) → IsPlain back → back ≢ path_in folder name
after_slash back folder name plain is =
    let seam : get_or back (length folder) 0 ≡ 47 = rw is (get_or-append_seam folder 47 name 0) in
    let within : length folder < length back = rw is (omega (arith, length-append folder (47 ∷ name))) in
    plain (length folder) within seam

tails : (x y : ℕ) (xs ys : Path) → x ∷ xs ≡ y ∷ ys → xs ≡ ys
tails x y xs ys is = cc

heads : (x y : ℕ) (xs ys : Path) → x ∷ xs ≡ y ∷ ys → x ≡ y
heads x y xs ys is = cc

-- one path is cut one way
pub one_cut : (front back folder name : Path) → IsPlain back → IsPlain name → path_in front back ≡ path_in folder name → (front ≡ folder) × (back ≡ name)
one_cut [] back [] name plain proper is = (refl, tails 47 47 back name is)
one_cut [] back (f ∷ folder) name plain proper is = absurd (after_slash back folder name plain (tails 47 f back (path_in folder name) is))
one_cut (a ∷ front) back [] name plain proper is = absurd (after_slash name front back proper (sym (tails a 47 (path_in front back) name is)))
one_cut (a ∷ front) back (f ∷ folder) name plain proper is =
    let rest = one_cut front back folder name plain proper (tails a f (path_in front back) (path_in folder name) is) in
    (ap (λ h. h ∷ front) (heads a f (path_in front back) (path_in folder name) is) ∙ ap (λ l. f ∷ l) rest.0, rest.1)
