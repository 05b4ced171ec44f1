-- What is answered on the tokens of a text is what is owed on the text, whose bytes spell them and no others.
use Rattle.std.proofs.Common.{◌≡◌, ℕ, suc, true, List, [], ◌∷◌, Result, Ok, Err, inl, inr, refl, arith}
use Rattle.std.specs.List.{list_any}
use Rattle.toy_imp.specs.Block.{Block}
use Rattle.pec_text.specs.Spelling.{Spells}
use Rattle.pec_text.specs.declared.token.Numeral.TheVariants as n
use Rattle.pec_text.specs.declared.token.Token.{Token}
use Rattle.pec_text.specs.declared.token.Token.TheVariants as t
use Rattle.program_reader.specs.Grammar.{HasWide, ProgramAnswer}
use Rattle.program_reader.specs.ProgramReading.{TokensAnswer, is_wide}
use Rattle.program_reader.specs.declared.refusal.ReadRule.{ReadRule}
use Rattle.program_reader.specs.declared.refusal.ReadRule.TheVariants.{NotGrammar, Wide, IllFormed, NoMemory}
use Rattle.program_reader.proofs.ProgramAnswers.{SpellsOnly, answer_ok, answer_not_read, answer_not_program, answer_wide}

pub answered : (bytes : List ℕ) (tokens : List Token) (r : Result Block ReadRule) → Spells bytes tokens → SpellsOnly bytes tokens → TokensAnswer tokens r → ProgramAnswer bytes r
answered bytes tokens (Ok b) spelled only h = answer_ok bytes tokens b spelled only h.0 h.1 h.2
answered bytes tokens (Err NotGrammar) spelled only (inl none) = answer_not_read bytes tokens only none
answered bytes tokens (Err NotGrammar) spelled only (inr some) = answer_not_program bytes tokens some.0 only some.1 some.2
answered bytes tokens (Err Wide) spelled only h = answer_wide bytes tokens h.0 spelled h.1 h.2 h.3
answered bytes tokens (Err (IllFormed f)) spelled only h = absurd h
answered bytes tokens (Err NoMemory) spelled only h = tt

-- ---- wide numerals
later : (a : Token) (tokens : List Token) → HasWide tokens → HasWide (a ∷ tokens)
later a tokens (k, below, is) = (suc k, omega (arith, below), is)

pub has_wide : (tokens : List Token) → list_any is_wide tokens ≡ true → HasWide tokens
has_wide [] h = cc
has_wide (t.Number n.Wide ∷ tokens) h = (0, omega arith, refl)
has_wide (t.Number (n.Value v) ∷ tokens) h = later _ tokens (has_wide tokens h)
has_wide (t.Name x ∷ tokens) h = later _ tokens (has_wide tokens h)
has_wide (t.Word x ∷ tokens) h = later _ tokens (has_wide tokens h)
has_wide (t.Sign x ∷ tokens) h = later _ tokens (has_wide tokens h)
