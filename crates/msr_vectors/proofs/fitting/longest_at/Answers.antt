use Rattle.msr_vectors.proofs.fitting.longest_at.Goals as goal

pub longest_steim2_group-requires-clause-window : goal.longest_steim2_group-requires-clause-window
longest_steim2_group-requires-clause-window c = c.new-window.ensures c.args.samples.now c.args.at
