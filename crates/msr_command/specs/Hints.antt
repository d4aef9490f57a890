-- What a person is told when a task has ended.
use Rattle.std.specs.Prelude.{if◌then◌else◌, ◌≡◌, ◌≢◌, ◌⊎◌, ◌++◌, ℕ, Bool, false, true, List, codes, IfSome, IsSomeAnd, Option, None, Some, Result, Ok, Err}
use Rattle.std.specs.Fmt.{decimal}
use Rattle.std.specs.Io.KnownBytes.{Appends}
use Rattle.std.specs.Option.{option_map}
use Rattle.msr_options.specs.Hints.{IsOfBytes, IsOfUnread, line_of}
use Rattle.msr_options.specs.declared.hint.Hint.{Hint}
use Rattle.msr_options.specs.declared.hint.Hint.TheVariants.{FirstDay, Folder, Lengths, NoArchive, System, Turns}
use Rattle.msr_options.specs.declared.task.Task.{Task}
use Rattle.msr_options.specs.declared.task.Task.TheVariants.{Repack, List as Listing, Check}
use Rattle.msr_tool.specs.declared.fault.ToolFault.{ToolFault}
use Rattle.msr_tool.specs.declared.fault.ToolFault.TheVariants as fault
use Rattle.msr_command.specs.declared.done.Done.{Done}
use Rattle.msr_command.specs.declared.done.Done.TheVariants.{Repacked, Walked}
use Rattle.msr_command.specs.declared.task_fault.TaskFault.{TaskFault}
use Rattle.msr_command.specs.declared.task_fault.TaskFault.TheVariants.{CannotOpen, Input, Tool}
use Rattle.msr_command.specs.declared.hints.FilesRead.{FilesRead}

-- the records are read from the file of this name, which is standard input for `-`
pub record IsInput (name : List ℕ) (read : FilesRead) : Type 0 where
  pub standard : name ≡ codes "-" → read.records ≡ None
  pub file : name ≢ codes "-" → IsSomeAnd read.records (λ it. it.now ≡ name)
  pub no_report : read.report ≡ None

-- the files that a task reads; of two inputs the fault names the one
abbrev pub AreFilesOf : Task → FilesRead → Type 0
AreFilesOf (Repack asked) read = IsInput asked.input.now read
AreFilesOf (Listing asked) read = IsInput asked.input.now read
AreFilesOf (Check asked) read = (read.records ≡ Some asked.packed) × (read.report ≡ Some asked.report)
AreFilesOf _ read = (read.records ≡ None) × (read.report ≡ None)

-- the bytes of a file tell it, if there is a file
abbrev pub HintsBytes : {A : Type 0} → Option A → Option Hint → Type 0
HintsBytes None hint = hint ≡ None
HintsBytes (Some name) hint = IfSome hint IsOfBytes

-- a file is a folder that could not be read, if there is a file; of two it may be told which it is
abbrev pub HintsUnread : {A : Type 0} → (report records : Option A) → Option Hint → Type 0
HintsUnread None None hint = hint ≡ None
HintsUnread None (Some name) hint = IfSome hint (λ it. it ≡ Folder)
HintsUnread (Some name) records hint = IfSome hint (λ it. (it ≡ Folder) ⊎ IsOfUnread it)

abbrev pub HintsDone : Done → Option Hint → Type 0
HintsDone (Repacked in_turns) hint = hint ≡ (if in_turns then Some Turns else None)
HintsDone (Walked refused no_day unopened) hint =
    hint ≡ (if no_day then Some NoArchive else option_map FirstDay unopened)
HintsDone _ hint = hint ≡ None

abbrev pub HintsEngine : FilesRead → ToolFault → Option Hint → Type 0
HintsEngine read (fault.Input found) hint = HintsBytes read.records hint
HintsEngine read (fault.Report line) hint = HintsBytes read.report hint
HintsEngine read fault.Read hint = HintsUnread read.report read.records hint
HintsEngine read _ hint = hint ≡ None

-- The input with this name, which has this fault, tells it as records do that are the only input.
pub record HintsInput (name : List ℕ) (why : ToolFault) (hint : Option Hint) : Type 0 where
  pub read : FilesRead
  pub is_input : IsInput name read
  pub hints : HintsEngine read why hint

abbrev pub HintsFault : FilesRead → TaskFault → Option Hint → Type 0
HintsFault read (CannotOpen name why) hint = hint ≡ Some (System why)
HintsFault read (Input name why) hint = HintsInput name.now why hint
HintsFault read (Tool why) hint = HintsEngine read why hint
HintsFault read _ hint = hint ≡ None

-- what is certain beside how a task ended
abbrev pub HintsEnd : FilesRead → Result Done TaskFault → Option Hint → Type 0
HintsEnd read (Ok done) hint = HintsDone done hint
HintsEnd read (Err why) hint = HintsFault read why hint

-- the line of a hint was written, if there is one
abbrev pub AddsLine : Option Hint → (old new : Option (List ℕ)) → Type 0
AddsLine None old new = new ≡ old
AddsLine (Some hint) old new = IfSome (line_of hint) (Appends old new)

-- A writer has got the line of a length that no record has, and at a terminal the lengths that there are.
pub record TellsLengths (is_terminal : Bool) (old new : Option (List ℕ)) : Type 0 where
  pub between : Option (List ℕ)
  pub line : Appends old between (codes "msrepack: not a record length\n")
  pub script : is_terminal ≡ false → new ≡ between
  pub person : is_terminal ≡ true → AddsLine (Some Lengths) between new

-- What a writer holds when a person was told of how a task ended.
pub record TellsPerson (read : FilesRead) (ended : Result Done TaskFault) (old new : Option (List ℕ)) : Type 0 where
  pub hint : Option Hint
  pub certain : HintsEnd read ended hint
  pub told : AddsLine hint old new

-- the line of so many days that were made anew
abbrev pub anew_line : ℕ → List ℕ
anew_line days = codes "hint: days made anew, since their reports tell other options or records: " ++ (decimal days ++ codes "\n")
