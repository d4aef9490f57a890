use Rattle.msr_folders.proofs.entries.EntryWalk.leave_folder.Goals as goal

pub returns-clause-told : goal.returns-clause-told
returns-clause-told g c = c.leave_folder.ensures.told

pub returns-clause-stops : goal.returns-clause-stops
returns-clause-stops g c = c.leave_folder.ensures.stops

pub returns-clause-does : goal.returns-clause-does
returns-clause-does g c = c.leave_folder.ensures.does

pub returns-clause-holds : goal.returns-clause-holds
returns-clause-holds g c = c.leave_folder.ensures.holds
