use Rattle.msr_folders.proofs.entries.EntryWalk.visit_entry.Goals as goal

pub returns-clause-told : goal.returns-clause-told
returns-clause-told g c = c.visit_entry.ensures.told

pub returns-clause-stops : goal.returns-clause-stops
returns-clause-stops g c = c.visit_entry.ensures.stops

pub returns-clause-does : goal.returns-clause-does
returns-clause-does g c = c.visit_entry.ensures.does

pub returns-clause-holds : goal.returns-clause-holds
returns-clause-holds g c = c.visit_entry.ensures.holds
