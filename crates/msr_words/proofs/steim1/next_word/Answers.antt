use Rattle.std.proofs.Common.{arith}
use Rattle.msr_words.proofs.Steim1Sizes.{four_next, none_next, single_next, three_next, two_next}
use Rattle.msr_words.proofs.steim1.next_word.Goals as goal
use Rattle.msr_words.proofs.steim1.next_word.Goals.{then-pair-sizes-lt128+else-sizes-lt128+else-spare, else-pair-sizes-lt128, then-sizes-lt2147483648, else-sizes-lt2147483648}

pub returns-then-pair-ge32768-clause-next : goal.returns-then-pair-ge32768-clause-next
returns-then-pair-ge32768-clause-next c ds s0 s1 s2 s3 =
    let sizes = c.args.sizes in
    elim c.if-sizes-lt2147483648.branch [
      | then-sizes-lt2147483648 w ↦ rw w.size-is
          (single_next ds sizes.first sizes.second sizes.third sizes.fourth s0 s1 s2 s3 c.args.spare
          c.if-pair-ge32768.true w.if-sizes-lt2147483648.true)
      | else-sizes-lt2147483648 w ↦ rw w.size-is
          (none_next ds sizes.first sizes.second sizes.third sizes.fourth s0 s1 s2 s3 c.args.spare
          w.if-sizes-lt2147483648.false _)
    ]

pub returns-then-sizes-lt128-clause-next : goal.returns-then-sizes-lt128-clause-next
returns-then-sizes-lt128-clause-next c ds s0 s1 s2 s3 =
    let sizes = c.args.sizes in
    four_next ds sizes.first sizes.second sizes.third sizes.fourth s0 s1 s2 s3 c.args.spare
    c.if-pair-sizes-lt128.true c.if-sizes-lt128.true

pub returns-then-spare-clause-next : goal.returns-then-spare-clause-next
returns-then-spare-clause-next c ds s0 s1 s2 s3 =
    let sizes = c.args.sizes in
    three_next ds sizes.first sizes.second sizes.third sizes.fourth s0 s1 s2 s3 c.args.spare
    c.if-pair-sizes-lt128.true c.if-sizes-lt128.false c.if-spare.true

pub returns-clause-next : goal.returns-clause-next
returns-clause-next c ds s0 s1 s2 s3 =
    let sizes = c.args.sizes in
    two_next ds sizes.first sizes.second sizes.third sizes.fourth s0 s1 s2 s3 c.args.spare c.if-pair-ge32768.false
    (λ small. elim c.if-pair-sizes-lt128.branch [
      | then-pair-sizes-lt128+else-sizes-lt128+else-spare w ↦
          (w.if-sizes-lt128.false, λ t. let not = w.if-spare.false in cc)
      | else-pair-sizes-lt128 w ↦ let large = w.if-pair-sizes-lt128.false in absurd (omega arith)
    ])
