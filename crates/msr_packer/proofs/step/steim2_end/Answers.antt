use Rattle.std.proofs.Common.{arith, refl}
use Rattle.msr_base.specs.Kinds.{IsChosen}
use Rattle.msr_base.specs.declared.kinds.Kind.TheVariants.{Steim2}
use Rattle.msr_packer.proofs.EndsByKind.{end_if_chosen, end_if_not}
use Rattle.msr_packer.proofs.ToldSizes.{none_sized}
use Rattle.msr_words.specs.Fit.{records_of}
use Rattle.msr_packer.proofs.step.steim2_end.Goals as goal

pub returns-then-contains-clause-end : goal.returns-then-contains-clause-end
returns-then-contains-clause-end c =
    let chosen : IsChosen c.args.form.kinds Steim2 = cc (c.contains.ensures, c.if-contains.true) in
    end_if_chosen (records_of c.args.form) c.args.samples.now c.args.frontier Steim2 c.steim2_words.result.end chosen
    c.steim2_words.ensures.end

pub returns-then-contains-clause-chosen : goal.returns-then-contains-clause-chosen
returns-then-contains-clause-chosen c t = cc (c.contains.ensures, c.if-contains.true)

pub returns-clause-end : goal.returns-clause-end
returns-clause-end c =
    let least = c.args.form.length.least in
    end_if_not (records_of c.args.form) c.args.samples.now c.args.frontier Steim2 (omega arith)
    (λ has. let is = c.contains.ensures in let not = c.if-contains.false in cc) c.requires

pub returns-clause-sizes : goal.returns-clause-sizes
returns-clause-sizes c =
    none_sized c.args.samples.now c.args.frontier c.args.frontier 0 c.args.sizes.now c.args.words.now refl

pub returns-then-contains-clause-sizes : goal.returns-then-contains-clause-sizes
returns-then-contains-clause-sizes c = record {
  room = c.steim2_words.ensures.room_of_sizes;
  room_of_words = c.steim2_words.ensures.room_of_words;
  are = c.steim2_words.ensures.known;
  written = c.steim2_words.ensures.words;
}
