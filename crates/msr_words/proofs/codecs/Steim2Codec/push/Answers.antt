use Rattle.std.proofs.Common.{arith, inl, inr, refl}
use Rattle.std.proofs.lemmas.Int.{to_z-of_z}
use Rattle.msr_words.proofs.Steim2Pushes.{push_steim2_dead, push_steim2_full, push_steim2_off, push_steim2_on}
use Rattle.msr_words.proofs.codecs.Steim2Codec.push.Goals as goal
use Rattle.msr_words.proofs.codecs.Steim2Codec.push.Goals.{then-self-eq0-via-then-self-eq0, then-self-eq0-via-else-self-eq0+then-self-opened, then-self-eq0-via-else-self-eq0+else-self-opened+then-from-opened}

pub returns-then-not-self : goal.returns-then-not-self
returns-then-not-self c records run h =
    rw (← c.self.view_is, c.if-not-self.true)
    (push_steim2_dead records.bytes run c.args._sample c.args.diff c.self.inside.left c.self.inside.count
    c.self.inside.most c.self.inside.more (rw (← c.self.view_is, c.if-not-self.true) at h))

pub returns-then-self-eq0 : goal.returns-then-self-eq0
returns-then-self-eq0 c records run h =
    let fits = c.ranges.diff in
    let is = simp to_z-of_z at c.steim2_capacity-capacity.ensures in
    let opened = c.words_opened-opened.ensures in
    let state = rw (← c.self.view_is, c.if-not-self.false) at h in
    elim c.then-self-eq0.branch [
      | then-self-eq0-via-then-self-eq0 w ↦
          push_steim2_full records.bytes run c.args._sample c.args.diff c.self.inside.left c.self.inside.count
          c.self.inside.most c.self.inside.more state w.if-self-eq0.true
      | then-self-eq0-via-else-self-eq0+then-self-opened w ↦
          push_steim2_off records.bytes run c.args._sample c.args.diff c.self.inside.left c.self.inside.count
          c.self.inside.most c.self.inside.more state
          c.steim2_capacity-capacity.result is c.min-most.result c.words_opened-opened.result c.min-most.ensures
          opened.stays opened.opens (inl w.if-self-opened.true)
      | then-self-eq0-via-else-self-eq0+else-self-opened+then-from-opened w ↦
          push_steim2_off records.bytes run c.args._sample c.args.diff c.self.inside.left c.self.inside.count
          c.self.inside.most c.self.inside.more state
          c.steim2_capacity-capacity.result is c.min-most.result c.words_opened-opened.result c.min-most.ensures
          opened.stays opened.opens (inr (omega arith))
    ]

pub returns : goal.returns
returns c records run h =
    let fits = c.ranges.diff in
    let is = simp to_z-of_z at c.steim2_capacity-capacity.ensures in
    let opened = c.words_opened-opened.ensures in
    let count = c.count_after-self-inside.ensures in
    let most = c.most_after-self-inside.ensures in
    rw c.if-not-self.false
    (push_steim2_on records.bytes run c.args._sample c.args.diff c.self.inside.left c.self.inside.count
    c.self.inside.most c.self.inside.more (rw (← c.self.view_is, c.if-not-self.false) at h)
    c.steim2_capacity-capacity.result is c.min-most.result c.words_opened-opened.result c.min-most.ensures
    opened.stays opened.opens (omega arith)
    c.if-self-opened.false (omega arith) _ c.count_after-self-inside.result c.most_after-self-inside.result refl
    count.stays count.opens most.stays most.opens)
