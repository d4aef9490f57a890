use Rattle.std.proofs.Common.{◌≡◌, ◌<◌, ◌∙◌, ◌++◌, ◌∷◌, [], List, ℕ, ap, arith, string_bytes}
use Rattle.std.proofs.lemmas.Result.{on_ok_weaker}
use Rattle.msr_report.specs.Text.{padded_decimal}
use Rattle.msr_report.proofs.Pieces.{five_pieces}
use Rattle.msr_report.proofs.json.push_iso_date.Goals as goal

-- the year, the month and the day, with a dash between each two
date_put : (old one two three four five dash other : List ℕ) (year month day y m d : ℕ) → y ≡ year → m ≡ month
    → d ≡ day → dash ≡ 45 ∷ [] → other ≡ 45 ∷ [] → one ≡ old ++ padded_decimal 4 y → two ≡ one ++ dash
    → three ≡ two ++ padded_decimal 2 m → four ≡ three ++ other → five ≡ four ++ padded_decimal 2 d
    → five ≡ old ++ (padded_decimal 4 year ++ (45 ∷ (padded_decimal 2 month ++ (45 ∷ padded_decimal 2 day))))
date_put old one two three four five dash other year month day y m d is_year is_month is_day is_dash is_other first
    second third fourth fifth =
    five_pieces old (padded_decimal 4 year) (45 ∷ []) (padded_decimal 2 month) (45 ∷ []) (padded_decimal 2 day) one two
    three four five (first ∙ ap (λ (n : ℕ). old ++ padded_decimal 4 n) is_year)
    (second ∙ ap (λ (t : List ℕ). one ++ t) is_dash) (third ∙ ap (λ (n : ℕ). two ++ padded_decimal 2 n) is_month)
    (fourth ∙ ap (λ (t : List ℕ). three ++ t) is_other) (fifth ∙ ap (λ (n : ℕ). four ++ padded_decimal 2 n) is_day)

ascii : 45 < 128
ascii = omega arith

pub returns : goal.returns
returns c =
    on_ok_weaker c.push_padded-3.result
    (λ last. date_put (string_bytes c.args.text.now) _ _ _ _ _ _ _ c.args.time.year c.args.date.month c.args.date.day
    _ _ _ c.from.ensures c.from-2.ensures c.from-3.ensures (c.in_ok-push.ensures.ascii ascii)
    (c.in_ok-push-2.ensures.ascii ascii) c.in_ok-push_padded.ensures c.in_ok-push.ensures.bytes
    c.in_ok-push_padded-2.ensures c.in_ok-push-2.ensures.bytes last)
    c.push_padded-3.ensures
