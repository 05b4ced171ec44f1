-- A run that has read its input and not run out of memory has an output: it is written whole, and the
-- status is the output's; or a write fails, a part of it is written, and the status is 5.
use Rattle.std.specs.Prelude.{◌≡◌, ◌≢◌, ◌+◌, ◌↔◌, ◌⊎◌, ℕ, List, [], Option, None, Some, IfSome}
use Rattle.std.specs.Io.KnownBytes.{Appends}
use Rattle.pec_io.specs.Reading.{taken_count}
use Rattle.pec_io.specs.Writing.{AppendsPart}
use Rattle.pec_text.specs.SectionsOf.{sections_of}
use Rattle.pec_top.specs.declared.command.Command.{Command}
use Rattle.pec_top.specs.declared.command.Command.TheVariants.{Prove, Check, Print, Run}
use Rattle.pec_top.specs.declared.input.Input.{Input}
use Rattle.pec_top.specs.declared.input.Input.TheVariants as input
use Rattle.pec_top.specs.declared.output.Output.{Output}
use Rattle.pec_top.specs.Checks.{CheckedAreValid}
use Rattle.pec_top.specs.Command.{Name}
use Rattle.pec_top.specs.Input.{InputIs}
use Rattle.pec_top.specs.Output.{status_of, OutputIs}
use Rattle.pec_top.specs.Verdict.{ProvedAreValid}

-- the greatest number of bytes of an input
abbrev pub input_limit : ℕ
input_limit = 1048576

-- the output was written whole, or in part by a write that failed
abbrev pub Delivers : Option (List ℕ) → Option (List ℕ) → Output → ℕ → Type 0
Delivers old new output status =
    ((status ≡ status_of output.ending) × Appends old new output.text)
    ⊎ ((status ≡ 5) × AppendsPart old new output.text)

-- what the command has to write for the input was written, whole or in part
pub record Writes (command : Command) (found : Input) (written written' : Option (List ℕ)) (status : ℕ) : Type 0 where
  pub output : Output
  pub is : OutputIs command found output
  pub delivered : Delivers written written' output status

-- what the command proves of the rules of its input
abbrev pub Proves : Command → List ℕ → Input → Type 0
Proves Prove bytes (input.Accepted items) = ProvedAreValid (sections_of bytes).whole items
Proves Prove bytes (input.Refused refusal) = Unit {0}
Proves Prove bytes input.Larger = Unit {0}
Proves Check bytes (input.Accepted items) = CheckedAreValid (sections_of bytes).whole items
Proves Check bytes (input.Refused refusal) = Unit {0}
Proves Check bytes input.Larger = Unit {0}
Proves Print bytes found = Unit {0}
Proves (Run steps) bytes found = Unit {0}

-- these bytes are this input, and what is said to be proved of it is so
pub record IsInput (command : Command) (bytes : List ℕ) (found : Input) : Type 0 where
  pub is : InputIs command (sections_of bytes) found
  pub proves : Proves command bytes found

-- the source was read to its end, and all the bytes that it had left are this input, where it tells them
abbrev pub ReadsAll : Command → Option (List ℕ) → Option (List ℕ) → Input → Type 0
ReadsAll command (Some bytes) left' found = (left' ≡ Some []) × IsInput command bytes found
ReadsAll command None left' found = Unit {0}

-- from the words, and the bytes that the source has left before and after, to those that the sink holds
pub record Serves (words : List (List ℕ)) (left left' written written' : Option (List ℕ)) (status : ℕ) : Type 0 where
  pub command : Command
  pub named : Name words command
  pub found : Input
  pub larger : IfSome (taken_count left left') (λ count. (count ≡ input_limit + 1) ↔ (found ≡ input.Larger))
  pub read : found ≢ input.Larger → ReadsAll command left left' found
  pub writes : Writes command found written written' status
