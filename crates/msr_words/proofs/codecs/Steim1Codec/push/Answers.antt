use Rattle.std.proofs.lemmas.Int.{to_z-of_z}
use Rattle.msr_words.proofs.Steim1Pushes.{push_steim1, push_steim1_dead}
use Rattle.msr_words.proofs.codecs.Steim1Codec.push.Goals as goal

pub returns-then-not-self : goal.returns-then-not-self
returns-then-not-self c records run h =
    rw (← c.self.view_is, c.if-not-self.true)
    (push_steim1_dead records.bytes run c.args._sample c.args.diff c.self.inside.words c.self.inside.counts
    (rw (← c.self.view_is, c.if-not-self.true) at h))

pub returns : goal.returns
returns c records run h =
    let fits = c.ranges.diff in
    push_steim1 records.bytes run c.args._sample c.args.diff c.self.inside.words c.self.inside.counts
    (rw (← c.self.view_is, c.if-not-self.false) at h)
    _ _ (record {
      with = λ past counted. simp to_z-of_z at (c.with-self-inside.ensures past counted);
      within = c.within-self-inside.ensures;
    })
