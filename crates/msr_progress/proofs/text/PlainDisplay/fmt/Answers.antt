use Rattle.std.proofs.Common.{◌≡◌, ℕ, List, [], ◌∷◌, ◌++◌, ◌∙◌, ap, sym, append-nil, arith, rules}
use Rattle.std.proofs.Output.{has_written_append, has_written_of_eq}
use Rattle.std.proofs.lemmas.Grind.{common_steps, flat_map-append}
use Rattle.std.proofs.lemmas.Iterator.{YieldsList-from_chars}
use Rattle.std.proofs.lemmas.Iterator.Consumers.{YieldsList-end}
use Rattle.std.proofs.lemmas.List.{map-id}
use Rattle.std.specs.List.{flat_map}
use Rattle.std.specs.Str.{chars}
use Rattle.msr_progress.specs.Progress.{plain_letter}
use Rattle.msr_progress.proofs.text.PlainDisplay.fmt.Goals as goal

-- one letter more
one_more : (letters : List ℕ) (letter : ℕ)
    → flat_map plain_letter letters ++ plain_letter letter ≡ flat_map plain_letter (letters ++ letter ∷ [])
one_more letters letter =
    rw (flat_map-append plain_letter letters (letter ∷ []), append-nil (plain_letter letter)) cc

-- a control character more
pub loop-letter-preserved-in-Continue-1 : goal.loop-letter-preserved-in-Continue-1
loop-letter-preserved-in-Continue-1 g c = λ plain.
    has_written_of_eq _ _ _ _ _ (one_more c.loop-letter.yielded c.in-Some.letter)
    (has_written_append _ _ _ _ _ _ (c.loop-letter.invariant plain) (grind (arith, common_steps)))

pub loop-letter-preserved : goal.loop-letter-preserved
loop-letter-preserved g c = λ plain.
    has_written_of_eq _ _ _ _ _ (one_more c.loop-letter.yielded c.in-Some.letter)
    (has_written_append _ _ _ _ _ _ (c.loop-letter.invariant plain) (grind (arith, common_steps)))

pub returns-clause-writes : goal.returns-clause-writes
returns-clause-writes g c = λ plain _.
    let t = YieldsList-end (YieldsList-from_chars c.args.self.now.path.now (search rules) cc) c.loop-letter.yielded _
    c.loop-letter.yielded_by _ _ c.in-None.is c.next.ensures.steps in
    let all : c.loop-letter.yielded ≡ chars c.args.self.now.path.now = sym (map-id c.loop-letter.yielded) ∙ t.0 in
    has_written_of_eq _ _ _ _ _ (ap (flat_map plain_letter) all) (c.loop-letter.invariant plain)
