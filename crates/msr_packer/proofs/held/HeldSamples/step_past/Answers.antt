use Rattle.std.proofs.Common.{ap, arith, drop, length, take_at, vec_len, ◌≡◌, ◌∙◌}
use Rattle.msr_packer.specs.HeldSamples.{frontier_of}
use Rattle.msr_packer.proofs.Holding.{if_some, next_stepped, stays_at}
use Rattle.msr_words.specs.Fit.{records_of}
use Rattle.msr_packer.proofs.held.HeldSamples.step_past.Goals as goal

pub returns-clause-stays : goal.returns-clause-stays
returns-clause-stays c = λ enough stays.
    let s = next_stepped (records_of c.args.self.now.form) c.args.self.now.form.length.least
    c.args.self.now.samples.items c.args.self.now.current c.next-step.result
    (rw c.as_slice.ensures.value at c.next-step.ensures.next) in
    let few = s.few in
    let near = s.near in
    let end = ap frontier_of c.go_on.ensures.current in
    stays_at c.go_on.new.self.current (length c.args.self.now.samples.items) c.next-step.result.end end (omega arith)

pub returns-clause-order : goal.returns-clause-order
returns-clause-order c =
    let s = next_stepped (records_of c.args.self.now.form) c.args.self.now.form.length.least
    c.args.self.now.samples.items c.args.self.now.current c.next-step.result
    (rw c.as_slice.ensures.value at c.next-step.ensures.next) in
    let on = s.on in
    let end = ap frontier_of c.go_on.ensures.current in
    omega arith

pub returns-clause-furthest : goal.returns-clause-furthest
returns-clause-furthest c = λ start end le more run.
    let is = rw c.as_slice.ensures.value at c.next-step.ensures.next in
    let far = (rw is.frontier at is.step).furthest start end le run in
    let end' = ap frontier_of c.go_on.ensures.current in
    omega arith

pub returns-clause-fewer : goal.returns-clause-fewer
returns-clause-fewer c =
    let s = next_stepped (records_of c.args.self.now.form) c.args.self.now.form.length.least
    c.args.self.now.samples.items c.args.self.now.current c.next-step.result
    (rw c.as_slice.ensures.value at c.next-step.ensures.next) in
    let on = s.on in
    let end = ap frontier_of c.go_on.ensures.current in
    if_some c.go_on.result (frontier_of c.args.self.now.current) (frontier_of c.go_on.new.self.current) (omega arith)

pub returns-clause-sizes : goal.returns-clause-sizes
returns-clause-sizes c = λ knows.
    let sizes = c.next-step.new.sizes in
    let places = c.args.self.now.sizes.shown.places in
    let words = c.next-step.new.words in
    let word_places = c.args.self.now.sizes.shown.words in
    let long : length sizes ≡ vec_len places = c.next-step.auto.sizes ∙ c.as_mut_slice.ensures.len in
    let wide : length words ≡ vec_len word_places = c.next-step.auto.words ∙ c.as_mut_slice-2.ensures.len in
    c.go_on.ensures.sizes (record { next = knows.next.next })
    (rw (
      take_at sizes (drop (length sizes) places.items) (vec_len places) long,
      take_at words (drop (length words) word_places.items) (vec_len word_places) wide,
    )
    (rw c.as_slice.ensures.value at c.next-step.ensures.sizes))

pub go_on-requires-clause-next : goal.go_on-requires-clause-next
go_on-requires-clause-next c = rw c.as_slice.ensures.value at c.next-step.ensures.next
