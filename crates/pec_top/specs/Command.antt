-- The commands of the program, and the words that name them.
use Rattle.std.specs.Prelude.{◌≡◌, ◌≤◌, ℕ, List, [], ◌∷◌, codes, decimal, Option, None, Some}
use Rattle.pec_top.specs.declared.command.Command.{Command}
use Rattle.pec_top.specs.declared.command.Command.TheVariants.{Prove, Check, Print, Run}

-- the greatest number of steps that a run can be given
abbrev pub most_steps : ℕ
most_steps = 1000000

-- the word is this number of steps in plain digits, without leading zeros
abbrev pub IsStepCount : List ℕ → ℕ → Type 0
IsStepCount word steps = (word ≡ decimal steps) × (steps ≤ most_steps)

-- the words behind `run` are these
abbrev pub IsSteps : List (List ℕ) → ℕ → Type 0
IsSteps words steps = (words ≡ codes "--steps" ∷ decimal steps ∷ []) × (steps ≤ most_steps)

-- the words of the program, without its own name, are `prove`, `check`, `print`, or `run --steps` and a number of steps
abbrev pub Name : List (List ℕ) → Command → Type 0
Name words Prove = words ≡ codes "prove" ∷ []
Name words Check = words ≡ codes "check" ∷ []
Name words Print = words ≡ codes "print" ∷ []
Name words (Run steps) = (words ≡ codes "run" ∷ codes "--steps" ∷ decimal steps ∷ []) × (steps ≤ most_steps)

-- the command that the words name, and none where they name none
abbrev pub IsNamedBy : Option Command → List (List ℕ) → Type 0
IsNamedBy None words = (command : Command) → ¬ (Name words command)
IsNamedBy (Some command) words = Name words command

-- the number of steps that the words behind `run` give, and none where they give none
abbrev pub AreStepsOf : Option ℕ → List (List ℕ) → Type 0
AreStepsOf None words = (steps : ℕ) → ¬ (IsSteps words steps)
AreStepsOf (Some steps) words = IsSteps words steps

-- words name one command at most
abbrev pub OneCommand : Type 0
OneCommand = (words : List (List ℕ)) (a b : Command) → Name words a → Name words b → a ≡ b
