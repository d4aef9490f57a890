use Rattle.msr_replace.proofs.walk.walk_course.Goals as goal

pub returns-clause-told : goal.returns-clause-told
returns-clause-told g c = rw (← c.folder.ensures) c.visit_entries.ensures.told
