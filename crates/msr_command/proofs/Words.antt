-- What the words ask for is done, or they ask for nothing.
use Rattle.std.proofs.Common.{◌≡◌, ◌⊎◌, ℕ, ◌<◌, ◌≤◌, arith, inl, inr, List, length, map, Result, Ok, Err}
use Rattle.std.specs.Prelude.{IfErr, IfOk, IsOkAnd, IsSomeAnd, slice_get}
use Rattle.msr_devices.specs.Device.{Device}
use Rattle.msr_options.specs.Asked.{HasStatus}
use Rattle.msr_options.specs.Tasks.{IsDefault, verb_of, word_of}
use Rattle.msr_options.specs.declared.task.NoTask.{NoTask}
use Rattle.msr_options.specs.declared.task.Task.{Task}
use Rattle.msr_tree.specs.Steps.{Step}
use Rattle.msr_command.specs.Ends.{EndsAsked, EndsTask, EndsWithoutTask}
use denote.Ref.{Bor}

some_words : (words : ℕ) → (words < 2 → ⊥) → 2 ≤ words
some_words words none = grind (arith, none)

pub words_end : (before after : List Step → Type 0) (words : List (Bor (List ℕ))) (asked : Result Task NoTask) (standard out0 out : Device) (status : ℕ) →
    (length words < 2 → IsOkAnd asked IsDefault) →
    (2 ≤ length words → IfOk asked (λ task. IsSomeAnd (slice_get words 1) (λ word. word.now ≡ word_of (verb_of task)))) →
    IfErr asked (HasStatus (map (λ word. word.now) words)) → EndsAsked before after asked standard out0 out status →
    EndsTask before after words standard out0 out status ⊎ EndsWithoutTask words out0 out status
words_end before after words (Ok task) standard out0 out status default command has ends = inl (record {
  task = task;
  outcome = ends.outcome;
  default = default;
  command = command;
  does = ends.does;
  ended = ends.ended;
})
words_end before after words (Err why) standard out0 out status default command has ends =
    inr (record { why = why; some = some_words (length words) default; has_status = has; ends = ends })
