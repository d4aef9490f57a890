use Rattle.std.proofs.Common.{◌≡◌, ℤ, arith, length, map, subst, sym, take}
use Rattle.msr_words.specs.Groups.{AreGroupSizes}
use Rattle.msr_filling.specs.GroupWords.{AreGroupWords}
use Rattle.msr_packer.proofs.ToldSizes.{points_of_run}
use Rattle.msr_vectors.proofs.filling.are_alike.Goals as goal

pub fill_steim2_told-put-requires-clause-sizes : goal.fill_steim2_told-put-requires-clause-sizes
fill_steim2_told-put-requires-clause-sizes c =
    let samples = c.args.samples.now in
    let reach = c.steim2_words-reach in
    let bytes = c.in_ok-length.ensures.same in
    let end : c.steim2_words-reach.result.end ≡ length c.args.samples.now = omega arith in
    let told = rw end at (c.steim2_words-reach.ensures.told (omega arith) (omega arith)) in
    rw c.before_sample-before.ensures
    (subst (λ run. AreGroupSizes (map (λ (p : ℤ × ℤ). p.1) run) (take reach.result.groups reach.new.sizes))
    (sym (points_of_run samples c.args.start (length samples) (omega arith))) told)

pub fill_steim2_told-put-requires-clause-words : goal.fill_steim2_told-put-requires-clause-words
fill_steim2_told-put-requires-clause-words c =
    let samples = c.args.samples.now in
    let reach = c.steim2_words-reach in
    let end : c.steim2_words-reach.result.end ≡ length c.args.samples.now = omega arith in
    let told = rw end at c.steim2_words-reach.ensures.words in
    rw c.before_sample-before.ensures
    (subst (λ run. AreGroupWords (map (λ (p : ℤ × ℤ). p.1) run) (take reach.result.groups reach.new.sizes)
    (take reach.result.groups reach.new.words))
    (sym (points_of_run samples c.args.start (length samples) (omega arith))) told)
