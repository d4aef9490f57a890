-- What is known of a source or a sink of bytes, and what one call of it does.
use Rattle.std.specs.Prelude.{◌≡◌, ◌≢◌, ℕ, ◌+◌, ◌^◌, ◌-◌, ◌<◌, ◌≤◌, ◌⊎◌, List, [], ◌++◌, length, take, IfSome, Some, Option, Result, MatchResult, IfOk}
use Rattle.std.specs.IoError.{error_kind}
use Rattle.std.specs.declared.io.Error.{Error}
use Rattle.std.specs.declared.io.ErrorKind.TheVariants.{Interrupted}

-- the bytes that a source has left or a sink holds, if they are known; how many bytes went through
-- the device; how often it failed; and how often in a row it was last interrupted
pub record Device : Type 0 where
  pub bytes : Option (List ℕ)
  pub moved : ℕ
  pub failures : ℕ
  pub interruptions : ℕ

-- the source's bytes are these, if they are known
abbrev pub HasLeft : Device → List ℕ → Type 0
HasLeft source bytes = IfSome source.bytes (λ known. known ≡ bytes)

-- these bytes came from the source
pub record Gives (old new : Device) (bytes : List ℕ) : Type 0 where
  pub front : (rest : List ℕ) → HasLeft new rest → HasLeft old (bytes ++ rest)

-- some bytes came from the source, and stand after those that were there
pub record GivesOnto (old new : Device) (before after : List ℕ) : Type 0 where
  pub more : List ℕ
  pub came : Gives old new more
  pub whole : after ≡ before ++ more
  pub moved : new.moved ≡ old.moved + length more

-- the sink was given these bytes and accepted them
pub record Takes (old new : Device) (bytes : List ℕ) : Type 0 where
  pub back : (before : List ℕ) → old.bytes ≡ Some before → new.bytes ≡ Some (before ++ bytes)

-- the device has room to count one more call, or 64 more
abbrev pub CanCount : Device → Type 0
CanCount d = (d.failures < 2 ^ 64 - 1) × (d.interruptions < 2 ^ 64 - 1)

abbrev pub CanCountCall : Device → Type 0
CanCountCall d = (d.failures < 2 ^ 64 - 64) × (d.interruptions < 2 ^ 64 - 64)

-- a call moved n bytes and ended a row of interruptions
pub record Moves (old new : Device) (n : ℕ) : Type 0 where
  pub moved : new.moved ≡ old.moved + n
  pub failures : new.failures ≡ old.failures
  pub interruptions : new.interruptions ≡ 0

-- a call was interrupted, which moves nothing
pub record WasInterrupted (old new : Device) : Type 0 where
  pub moved : new.moved ≡ old.moved
  pub failures : new.failures ≡ old.failures
  pub interruptions : new.interruptions ≡ old.interruptions + 1

-- a call failed, which moves nothing
pub record Fails (old new : Device) : Type 0 where
  pub moved : new.moved ≡ old.moved
  pub failures : new.failures ≡ old.failures + 1
  pub interruptions : new.interruptions ≡ 0

-- an error is an interruption, or else a failure
pub record CountsError (old new : Device) (error : Error) : Type 0 where
  pub interrupted : error_kind error ≡ Interrupted → WasInterrupted old new
  pub failed : error_kind error ≢ Interrupted → Fails old new

-- one read: the bytes that came are at the start of the buffer, and none come only at the end or if
-- there is no room; an error gives none
pub record Reads (old new : Device) (result : Result ℕ Error) (buffer : List ℕ) : Type 0 where
  pub within : IfOk result (λ n. n ≤ length buffer)
  pub bytes : MatchResult result (λ n. Gives old new (take n buffer)) (λ _. Gives old new [])
  pub end : IfOk result (λ n. n ≡ 0 → 0 < length buffer → HasLeft new [])
  pub counts : MatchResult result (Moves old new) (CountsError old new)

-- one write: the bytes that were accepted are those at the start; a write that was not empty and of which
-- nothing was accepted is a failure
pub record Writes (old new : Device) (result : Result ℕ Error) (buffer : List ℕ) : Type 0 where
  pub within : IfOk result (λ n. n ≤ length buffer)
  pub bytes : MatchResult result (λ n. Takes old new (take n buffer)) (λ _. Takes old new [])
  pub counts : MatchResult result (λ n. 0 < n → Moves old new n) (CountsError old new)
  pub empty : IfOk result (λ n. n ≡ 0 → length buffer ≡ 0 → Moves old new 0)
  pub refused : IfOk result (λ n. n ≡ 0 → 0 < length buffer → Fails old new)

-- Between two states the device failed, or was interrupted 64 times in a row: since the first state if
-- nothing went through, and else since bytes last went through.
abbrev pub HasFailed : Device → Device → Type 0
HasFailed old new = (old.failures < new.failures)
    ⊎ (((new.moved ≡ old.moved) × (old.interruptions + 64 ≤ new.interruptions))
    ⊎ ((old.moved < new.moved) × (64 ≤ new.interruptions)))

-- Between two states no call failed, and the last that moved bytes ended a row of interruptions.
pub record IsSteady (old new : Device) : Type 0 where
  pub failures : new.failures ≡ old.failures
  pub grows : old.moved ≤ new.moved
  pub still : new.moved ≡ old.moved → new.interruptions ≤ old.interruptions
  pub moved : old.moved < new.moved → new.interruptions ≡ 0

-- Between two states the device was steady, and if no bytes moved, it was not interrupted.
pub record IsCalm (old new : Device) : Type 0 where
  pub steady : IsSteady old new
  pub same : new.moved ≡ old.moved → new.interruptions ≡ old.interruptions

-- each count is at most 64 greater than it was
pub record CountsFew (old new : Device) : Type 0 where
  pub failures : new.failures ≤ old.failures + 64
  pub interruptions : new.interruptions ≤ old.interruptions + 64

-- a device with these bytes, through which nothing went yet
abbrev pub unused : Option (List ℕ) → Device
unused bytes = record { bytes = bytes; moved = 0; failures = 0; interruptions = 0 }
