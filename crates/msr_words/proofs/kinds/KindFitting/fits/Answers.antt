use Rattle.std.proofs.Common.{arith, subst, min, ◌≡◌, sym, ◌∙◌}
use Rattle.msr_base.specs.Lengths.{bytes_of}
use Rattle.msr_base.specs.Storage.{storage_of}
use Rattle.msr_base.specs.declared.storage.Storage.TheVariants.{Frames, Integers}
use Rattle.msr_base.specs.declared.storage.Version.TheVariants.{One, Two}
use Rattle.msr_words.specs.Fit.{most_counted}
use Rattle.msr_words.specs.Laws.{room_of}
use Rattle.msr_words.specs.Segment.{points}
use Rattle.msr_words.specs.Lemmas.KindLaws.{size_kind}
use Rattle.msr_words.proofs.AnyKind.{fit_by_width}
use Rattle.msr_words.proofs.Runs.{integers_points, length-points_before}
use Rattle.msr_words.proofs.kinds.KindFitting.fits.Goals as goal

pub returns-in-Integers : goal.returns-in-Integers
returns-in-Integers c =
    let says = c.are_integers.ensures in
    let width = c.in-Integers.width in
    let bytes = bytes_of c.args.record_length in
    let all = integers_points width c.args.before c.args.run.now in
    let stored : storage_of c.args.self ≡ Integers width = sym c.storage.ensures ∙ c.in-Integers.is in
    let most : c.most.result ≡ min (room_of (Integers width) bytes) most_counted =
    subst (λ s. c.most.result ≡ min (room_of s bytes) most_counted) stored c.most.ensures in
    let long = length-points_before c.args.before c.args.run.now in
    let header = c.args.record_length.least in
    rw stored (
      λ t. fit_by_width width bytes (omega arith) (points c.args.before c.args.run.now) (all.0 (says.0 t))
          (omega arith),
      λ f. says.1 (all.1 f.1.0),
    )

pub returns-in-Frames-One : goal.returns-in-Frames-One
returns-in-Frames-One c =
    let most = c.most.ensures in
    let long = length-points_before c.args.before c.args.run.now in
    let exact = rw c.data_words.ensures.same at c.fits_steim1.ensures in
    let is = c.in-Frames-One.is in
    let version = c.in-Frames-One.field-0-is in
    let of = c.storage.ensures in
    let stored : storage_of c.args.self ≡ Frames One = cc in
    rw stored (λ t. (omega arith, exact.0 t), λ f. exact.1 f.1)

pub returns-in-Frames-Two : goal.returns-in-Frames-Two
returns-in-Frames-Two c =
    let most = c.most.ensures in
    let long = length-points_before c.args.before c.args.run.now in
    let exact = rw c.data_words-in-Frames-Two.ensures.same at c.fits_steim2.ensures in
    let is = c.in-Frames-Two.is in
    let version = c.in-Frames-Two.field-0-is in
    let of = c.storage.ensures in
    let stored : storage_of c.args.self ≡ Frames Two = cc in
    rw stored (λ t. (omega arith, exact.0 t), λ f. exact.1 f.1)

pub returns-then-run-most : goal.returns-then-run-most
returns-then-run-most c = (
  λ t. absurd cc,
  λ fits.
      let few = size_kind c.args.self c.args.record_length.bytes (points c.args.before c.args.run.now) fits in
      let same = length-points_before c.args.before c.args.run.now in
      let most = c.most.ensures in
      let more = c.if-run-most.true in
      absurd (omega arith),
)
