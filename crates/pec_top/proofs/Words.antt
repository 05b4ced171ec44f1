-- Which words name a command, and that they name one.
use Rattle.std.proofs.Common.{◌≡◌, ◌≢◌, ◌≤◌, ◌<◌, ℕ, Bool, true, false, not, Result, Ok, Err, List, [], ◌∷◌, bytes_eq, codes, decimal, refl, sym, ap, ◌∙◌, arith}
use Rattle.std.proofs.lemmas.Fmt.{decimal_injective, parse-decimal}
use Rattle.std.specs.Str.Parse.{ParsesUnsigned}
use Rattle.std.proofs.lemmas.Slice.Eq.{bytes_eq-Decides}
use Rattle.pec_top.specs.declared.command.Command.{Command}
use Rattle.pec_top.specs.declared.command.Command.TheVariants.{Prove, Check, Print, Run}
use Rattle.pec_top.specs.Command.{most_steps, IsStepCount, IsSteps, Name}

-- ---- lists of words
same_first : (a b : List ℕ) (xs ys : List (List ℕ)) → a ∷ xs ≡ b ∷ ys → a ≡ b
same_first a b xs ys h = cc

same_rest : (a b : List ℕ) (xs ys : List (List ℕ)) → a ∷ xs ≡ b ∷ ys → xs ≡ ys
same_rest a b xs ys h = cc

none_first : (a : List ℕ) (xs : List (List ℕ)) → [] ≡ a ∷ xs → ⊥
none_first a xs h = cc

apart : (a b : List ℕ) → bytes_eq a b ≡ false → a ≡ b → ⊥
apart a b differ same = let clash : true ≡ false = sym ((bytes_eq-Decides a b).1 same) ∙ differ in cc

-- a test of two texts that says they differ
pub told_apart : (a b : List ℕ) (result : Bool) → result ≡ not (bytes_eq a b) → result ≡ true → a ≡ b → ⊥
told_apart a b result is differ same =
    let clash : true ≡ false = sym differ ∙ is ∙ ap not ((bytes_eq-Decides a b).1 same) in
    cc

apart_first : (a b : List ℕ) (xs ys : List (List ℕ)) → bytes_eq a b ≡ false → a ∷ xs ≡ b ∷ ys → ⊥
apart_first a b xs ys differ h = apart a b differ (same_first a b xs ys h)

-- ---- what words name
pub empty_names_none : (command : Command) → Name [] command → ⊥
empty_names_none Prove h = none_first _ _ h
empty_names_none Check h = none_first _ _ h
empty_names_none Print h = none_first _ _ h
empty_names_none (Run n) h = none_first _ _ h.0

pub run_named : (first : List ℕ) (rest : List (List ℕ)) (n : ℕ) → first ≡ codes "run" → IsSteps rest n → Name (first ∷ rest) (Run n)
run_named first rest n is h = (λ j. is j ∷ h.0 j, h.1)

pub run_else : (first : List ℕ) (rest : List (List ℕ)) → first ≡ codes "run" → ((n : ℕ) → IsSteps rest n → ⊥) → (command : Command) → Name (first ∷ rest) command → ⊥
run_else first rest is none Prove h = apart (codes "run") (codes "prove") refl (sym is ∙ same_first first (codes "prove") rest [] h)
run_else first rest is none Check h = apart (codes "run") (codes "check") refl (sym is ∙ same_first first (codes "check") rest [] h)
run_else first rest is none Print h = apart (codes "run") (codes "print") refl (sym is ∙ same_first first (codes "print") rest [] h)
run_else first rest is none (Run n) h = none n (same_rest first (codes "run") rest (codes "--steps" ∷ decimal n ∷ []) h.0, h.1)

pub longer_names_none : (first : List ℕ) (rest : List (List ℕ)) → first ≢ codes "run" → rest ≢ [] → (command : Command) → Name (first ∷ rest) command → ⊥
longer_names_none first rest other more Prove h = more (same_rest first (codes "prove") rest [] h)
longer_names_none first rest other more Check h = more (same_rest first (codes "check") rest [] h)
longer_names_none first rest other more Print h = more (same_rest first (codes "print") rest [] h)
longer_names_none first rest other more (Run n) h = other (same_first first (codes "run") rest (codes "--steps" ∷ decimal n ∷ []) h.0)

pub word_names_none : (word : List ℕ) → word ≢ codes "prove" → word ≢ codes "check" → word ≢ codes "print" → (command : Command) → Name (word ∷ []) command → ⊥
word_names_none word p c q Prove h = p (same_first word (codes "prove") [] [] h)
word_names_none word p c q Check h = c (same_first word (codes "check") [] [] h)
word_names_none word p c q Print h = q (same_first word (codes "print") [] [] h)
word_names_none word p c q (Run n) h = none_first _ _ (same_rest word (codes "run") [] (codes "--steps" ∷ decimal n ∷ []) h.0)

-- ---- a number of steps
-- what is read of a word that is a number of steps
module _ (E : Type 0) (word : List ℕ) (read : Result ℕ E) (parsed : ParsesUnsigned 64 10 word read) where
  read_is : (n : ℕ) → IsStepCount word n → read ≡ Ok n
  read_is n h = parse-decimal 64 n word read (omega (arith, h.1)) (omega (arith, h.1)) h.0 parsed

  pub none_read : (e : E) → read ≡ Err e → (n : ℕ) → IsStepCount word n → ⊥
  none_read e failed n h = let clash : Err e ≡ Ok n = sym failed ∙ read_is n h in cc

  same_read : (steps n : ℕ) → read ≡ Ok steps → IsStepCount word n → steps ≡ n
  same_read steps n is h = let same : Ok steps ≡ Ok n = sym is ∙ read_is n h in cc

  pub many_read : (steps : ℕ) → read ≡ Ok steps → most_steps < steps → (n : ℕ) → IsStepCount word n → ⊥
  many_read steps is many n h = let same : steps ≡ n = same_read steps n is h in omega (arith, h.1)

  pub other_read : (steps : ℕ) → read ≡ Ok steps → (decimal steps ≡ word → ⊥) → (n : ℕ) → IsStepCount word n → ⊥
  other_read steps is other n h = other (ap decimal (same_read steps n is h) ∙ sym h.0)

pub option_gives : (option number : List ℕ) (n : ℕ) → option ≡ codes "--steps" → IsStepCount number n → IsSteps (option ∷ number ∷ []) n
option_gives option number n is h = (λ j. is j ∷ h.0 j ∷ [], h.1)

pub option_else : (option number : List ℕ) → option ≡ codes "--steps" → ((n : ℕ) → IsStepCount number n → ⊥) → (n : ℕ) → IsSteps (option ∷ number ∷ []) n → ⊥
option_else option number is none n h =
    none n (same_first number (decimal n) [] [] (same_rest option (codes "--steps") (number ∷ []) (decimal n ∷ []) h.0), h.1)

pub other_option : (option number : List ℕ) → option ≢ codes "--steps" → (n : ℕ) → IsSteps (option ∷ number ∷ []) n → ⊥
other_option option number other n h = other (same_first option (codes "--steps") (number ∷ []) (decimal n ∷ []) h.0)

same_last : (a b c d : List ℕ) → a ∷ b ∷ c ∷ [] ≡ a ∷ b ∷ d ∷ [] → c ≡ d
same_last a b c d h = cc

same_steps : (m n : ℕ) → m ≤ most_steps → n ≤ most_steps → decimal m ≡ decimal n → m ≡ n
same_steps m n p q h = decimal_injective m n (omega (arith, p)) (omega (arith, q)) h

pub one_command : (words : List (List ℕ)) (a b : Command) → Name words a → Name words b → a ≡ b
one_command words Prove Prove x y = refl
one_command words Prove Check x y = absurd (apart_first (codes "prove") (codes "check") _ _ refl (sym x ∙ y))
one_command words Prove Print x y = absurd (apart_first (codes "prove") (codes "print") _ _ refl (sym x ∙ y))
one_command words Prove (Run n) x y = absurd (apart_first (codes "prove") (codes "run") _ _ refl (sym x ∙ y.0))
one_command words Check Prove x y = absurd (apart_first (codes "check") (codes "prove") _ _ refl (sym x ∙ y))
one_command words Check Check x y = refl
one_command words Check Print x y = absurd (apart_first (codes "check") (codes "print") _ _ refl (sym x ∙ y))
one_command words Check (Run n) x y = absurd (apart_first (codes "check") (codes "run") _ _ refl (sym x ∙ y.0))
one_command words Print Prove x y = absurd (apart_first (codes "print") (codes "prove") _ _ refl (sym x ∙ y))
one_command words Print Check x y = absurd (apart_first (codes "print") (codes "check") _ _ refl (sym x ∙ y))
one_command words Print Print x y = refl
one_command words Print (Run n) x y = absurd (apart_first (codes "print") (codes "run") _ _ refl (sym x ∙ y.0))
one_command words (Run m) Prove x y = absurd (apart_first (codes "prove") (codes "run") _ _ refl (sym y ∙ x.0))
one_command words (Run m) Check x y = absurd (apart_first (codes "check") (codes "run") _ _ refl (sym y ∙ x.0))
one_command words (Run m) Print x y = absurd (apart_first (codes "print") (codes "run") _ _ refl (sym y ∙ x.0))
one_command words (Run m) (Run n) x y =
    ap Run (same_steps m n x.1 y.1 (same_last (codes "run") (codes "--steps") (decimal m) (decimal n) (sym x.0 ∙ y.0)))
