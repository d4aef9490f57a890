-- The line of a task's fault.
use Rattle.std.specs.Prelude.{ℕ, List, ◌++◌, codes, Option, None, Some, IfSome}
use Rattle.std.specs.Io.KnownBytes.{Appends}
use Rattle.msr_folders.specs.Paths.{shown_path}
use Rattle.msr_command.specs.declared.task_fault.TaskFault.{TaskFault}
use Rattle.msr_command.specs.declared.task_fault.TaskFault.TheVariants.{CannotOpen, Input, Failed, SameFile, SameOutput, Overlap, Closed, Tool}

-- the text of a fault: a name in it is printed as paths are; no clause says that of the engine, of an input and
-- of the system
abbrev pub task_fault_text : TaskFault → Option (List ℕ)
task_fault_text (CannotOpen name why) = Some (codes "cannot open " ++ shown_path name.now)
task_fault_text (Input name why) = None
task_fault_text (Failed path why) = None
task_fault_text SameFile = Some (codes "the output is the input")
task_fault_text SameOutput = Some (codes "two outputs are one file")
task_fault_text Overlap = Some (codes "the folders overlap")
task_fault_text Closed = Some (codes "write fault")
task_fault_text (Tool fault) = None

-- a writer has got the line of a fault
abbrev pub TellsFault : TaskFault → (old new : Option (List ℕ)) → Type 0
TellsFault fault old new =
    IfSome (task_fault_text fault) (λ text. Appends old new (codes "msrepack: " ++ (text ++ codes "\n")))
