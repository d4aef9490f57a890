-- Texts that are appended one after another.
use Rattle.std.proofs.Common.{◌≡◌, ◌∙◌, ℕ, ◌+◌, ◌<◌, List, [], ◌∷◌, ◌++◌, ap, sym, append_assoc, flat_map, get_or, length, take, Result, Ok, Err, OnOk, is_ok, if◌then◌else◌}
use Rattle.std.proofs.lemmas.List.{flat_map_more, take_more}

-- what is appended behind a piece stands behind it
behind_piece : (old a rest one last : List ℕ) → one ≡ old ++ a → last ≡ one ++ rest → last ≡ old ++ (a ++ rest)
behind_piece old a rest one last first more =
    more ∙ ap (λ (t : List ℕ). t ++ rest) first ∙ append_assoc old a rest

pub four_pieces : (old a b c d one two three four : List ℕ) → one ≡ old ++ a → two ≡ one ++ b → three ≡ two ++ c
    → four ≡ three ++ d → four ≡ old ++ (a ++ (b ++ (c ++ d)))
four_pieces old a b c d one two three four first second third fourth =
    behind_piece old a (b ++ (c ++ d)) one four first
    (behind_piece one b (c ++ d) two four second (behind_piece two c d three four third fourth))

pub five_pieces : (old a b c d e one two three four five : List ℕ) → one ≡ old ++ a → two ≡ one ++ b
    → three ≡ two ++ c → four ≡ three ++ d → five ≡ four ++ e → five ≡ old ++ (a ++ (b ++ (c ++ (d ++ e))))
five_pieces old a b c d e one two three four five first second third fourth fifth =
    behind_piece old a (b ++ (c ++ (d ++ e))) one five first
    (four_pieces one b c d e two three four five second third fourth fifth)

pub six_pieces : (old a b c d e f one two three four five six : List ℕ) → one ≡ old ++ a → two ≡ one ++ b
    → three ≡ two ++ c → four ≡ three ++ d → five ≡ four ++ e → six ≡ five ++ f
    → six ≡ old ++ (a ++ (b ++ (c ++ (d ++ (e ++ f)))))
six_pieces old a b c d e f one two three four five six first second third fourth fifth sixth =
    behind_piece old a (b ++ (c ++ (d ++ (e ++ f)))) one six first
    (five_pieces one b c d e f two three four five six second third fourth fifth sixth)

-- the pieces of the first items, and then that of one more
pub one_piece_more : (piece : ℕ → List ℕ) (old items : List ℕ) (i : ℕ) (mid new : List ℕ) → i < length items
    → mid ≡ old ++ flat_map piece (take i items) → new ≡ mid ++ piece (get_or items i 0)
    → new ≡ old ++ flat_map piece (take (i + 1) items)
one_piece_more piece old items i mid new within so_far more =
    more ∙ ap (λ (t : List ℕ). t ++ piece (get_or items i 0)) so_far
    ∙ append_assoc old (flat_map piece (take i items)) (piece (get_or items i 0))
    ∙ ap (λ (t : List ℕ). old ++ t) (flat_map_more piece [] (take i items) (get_or items i 0)
    ∙ ap (flat_map piece) (sym (take_more items i 0 within)))

-- what is shown of the grown text, if memory is given
pub on_pushed : {A E : Type 0} (answer : Result A E) (P : Type 0) (new grown old : List ℕ) → (new ≡ grown → P)
    → new ≡ (if is_ok answer then grown else old) → OnOk answer P
on_pushed (Ok done) P new grown old shown is = shown is
on_pushed (Err why) P new grown old shown is = tt

-- two bytes, each as text
pub two_bytes : (old x y one two : List ℕ) (p q a b : ℕ) → x ≡ p ∷ [] → y ≡ q ∷ [] → p ≡ a → q ≡ b → one ≡ old ++ x
    → two ≡ one ++ y → two ≡ old ++ (a ∷ b ∷ [])
two_bytes old x y one two p q a b is_x is_y is_a is_b first second =
    rw (second, first, is_x, is_y, is_a, is_b) (append_assoc old (a ∷ []) (b ∷ []))
