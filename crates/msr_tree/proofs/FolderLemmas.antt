-- The folder of a path, from where its last slash stands.
use Rattle.std.proofs.Common.{◌≡◌, ◌≢◌, ℕ, ◌+◌, ◌-◌, ◌<◌, ◌≤◌, arith, true, false, not, List, [], length, length-drop, take, drop, get_or, get_or-drop, reverse, ap, sym, ◌∙◌, lit<, Option, None, Some}
use Rattle.std.proofs.lemmas.Bool.Decides.{nat_tests}
use Rattle.std.proofs.lemmas.List.{get_or-reverse, length-reverse}
use Rattle.std.proofs.lemmas.List.Sums.{prefix_len_is}
use Rattle.std.proofs.lemmas.Str.{len_utf8_ascii}
use Rattle.std.proofs.lemmas.Str.Pattern.{NoCharPasses-char}
use Rattle.std.specs.List.{suffix_len}
use Rattle.std.specs.Option.{MatchOption, option_map, unwrap_or}
use Rattle.std.specs.Str.Pattern.{RFindsChar, SplitsAroundMatch}
use Rattle.msr_tree.specs.Steps.{folder_above, is_separator}
use denote.Ref.{Bor}

is_other : (byte : ℕ) → byte ≢ 47 → not (is_separator byte) ≡ true
is_other byte other = grind (arith, nat_tests)

is_one : (byte : ℕ) → byte ≡ 47 → not (is_separator byte) ≡ false
is_one byte one = grind (arith, nat_tests)

-- `n` bytes stand after the last slash
after_slash : (path : List ℕ) (n : ℕ) → n ≤ length path
    → ((i : ℕ) → length path ≤ i + n → i < length path → get_or path i 0 ≢ 47) →
    (n < length path → get_or path (length path - 1 - n) 0 ≡ 47) → suffix_len (λ byte. not (is_separator byte)) path ≡ n
after_slash path n within others slash =
    prefix_len_is (λ byte. not (is_separator byte)) (reverse path) n 0 (omega (arith, length-reverse path))
    (λ k lt. rw (get_or-reverse path k 0 (omega arith))
    (is_other _ (others (length path - 1 - k) (omega arith) (omega arith))))
    (λ lt. let inside : n < length path = omega (arith, length-reverse path) in
    rw (get_or-reverse path n 0 inside) (is_one _ (slash inside)))

folder_none : (path : List ℕ) → ((i : ℕ) → i < length path → get_or path i 0 ≢ 47) → folder_above path ≡ []
folder_none path none =
    let all = after_slash path (length path) (omega arith) (λ i _ lt. none i lt) (λ lt. absurd (omega arith)) in
    let front : length path - suffix_len (λ byte. not (is_separator byte)) path - 1 ≡ 0 = omega (arith, all) in
    ap (λ n. take n path) front

pub folder_at : (path : List ℕ) (k : ℕ) → k < length path → get_or path k 0 ≡ 47
    → ((i : ℕ) → k < i → i < length path → get_or path i 0 ≢ 47) →
    folder_above path ≡ take k path
folder_at path k lt slash others =
    let place : length path - 1 - (length path - 1 - k) ≡ k = omega arith in
    let after = after_slash path (length path - 1 - k) (omega arith) (λ i low high. others i (omega arith) high)
    (λ _. ap (λ n. get_or path n 0) place ∙ slash) in
    let front : length path - suffix_len (λ byte. not (is_separator byte)) path - 1 ≡ k = omega (arith, after) in
    ap (λ n. take n path) front

-- what `rsplit_once` gives at a slash
pub folder_from_rsplit : (path : List ℕ) (r : Option (Bor (List ℕ) × Bor (List ℕ))) →
    MatchOption r (RFindsChar 47 path None) (λ x. SplitsAroundMatch (RFindsChar 47) path x.0.now x.1.now) →
    unwrap_or (option_map (λ x. x.0.now) r) [] ≡ folder_above path
folder_from_rsplit path None h = sym (folder_none path (λ i lt. NoCharPasses-char 47 path i h (lit< tt) lt))
folder_from_rsplit path (Some x) h =
    let i = h.0 in
    let j = h.1 in
    let at = h.2.1 in
    let end : j ≡ i + 1 = omega (arith, at.ends, len_utf8_ascii 47 (lit< tt)) in
    let within : i < length path = omega (arith, h.7) in
    let others : (k : ℕ) → i < k → k < length path → get_or path k 0 ≢ 47 = λ k after lt e.
    let short : k - j < length (drop j path) = omega (arith, length-drop j path) in
    let place : j + (k - j) ≡ k = omega arith in
    NoCharPasses-char 47 (drop j path) (k - j) h.2.0 (lit< tt) short
    (get_or-drop j path (k - j) 0 ∙ ap (λ n. get_or path n 0) place ∙ e) in
    h.3 ∙ sym (folder_at path i within (at.byte (lit< tt)) others)
