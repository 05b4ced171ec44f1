-- When tokens are in the grammar, and which block they spell. The declared names make the difference between the sides of
-- a rule and a program, which declares none and may hold no parameter.
use Rattle.std.specs.Prelude.{◌≡◌, ℕ, ◌≤◌, true, List, [], Result, Ok, Err, Contains}
use Rattle.toy_imp.specs.declared.param.Param.{Param}
use Rattle.toy_imp.specs.Block.{Block}
use Rattle.toy_imp.specs.BlockGrammar.{StmtsTree, stmts_value, stmts_nesting}
use Rattle.toy_imp.specs.Program.{is_program}
use Rattle.pec_text.specs.Spelling.{Spells}
use Rattle.pec_text.specs.declared.token.Numeral.TheVariants as n
use Rattle.pec_text.specs.declared.token.Token.{Token}
use Rattle.pec_text.specs.declared.token.Token.TheVariants as t
use Rattle.program_reader.specs.TreeTokens.{stmts_tokens}
use Rattle.program_reader.specs.declared.refusal.ReadRule.{ReadRule}
use Rattle.program_reader.specs.declared.refusal.ReadRule.TheVariants.{NotGrammar, Wide, IllFormed, NoMemory}

-- the tokens are those of statements with this value, and the nesting of the text is at most 64
pub record AreStmts (ps : List Param) (tokens : List Token) (b : Block) : Type 0 where
  pub tree : StmtsTree
  pub tokens_are : stmts_tokens tree ≡ tokens
  pub shallow : stmts_nesting tree ≤ 64
  pub value : stmts_value ps tree ≡ b

-- some numeral is 2 ^ 63 or more
abbrev pub HasWide : List Token → Type 0
HasWide tokens = Contains tokens (t.Number n.Wide)

-- the bytes are in the grammar of programs, and this is the value; the forms `ID ;` and ID alone as a test are parameters
pub record IsProgramText (bytes : List ℕ) (tokens : List Token) (b : Block) : Type 0 where
  pub spelled : Spells bytes tokens
  pub are_stmts : AreStmts [] tokens b
  pub is_program : is_program b ≡ true

-- the bytes spell this program
pub record SpellsProgram (bytes : List ℕ) (b : Block) : Type 0 where
  pub tokens : List Token
  pub text : IsProgramText bytes tokens b
  pub narrow : ¬ (HasWide tokens)

-- What a reader of programs answers: the one program that the bytes spell; else that they are not in the grammar, or that
-- they are, and some numeral is too wide. Memory may be wanting.
abbrev pub ProgramAnswer : List ℕ → Result Block ReadRule → Type 0
ProgramAnswer bytes (Ok b) = SpellsProgram bytes b × ((c : Block) → SpellsProgram bytes c → c ≡ b)
ProgramAnswer bytes (Err NotGrammar) = (tokens : List Token) (b : Block) → ¬ (IsProgramText bytes tokens b)
ProgramAnswer bytes (Err Wide) = (tokens : List Token) × (b : Block) × IsProgramText bytes tokens b × HasWide tokens
ProgramAnswer bytes (Err (IllFormed f)) = ⊥
ProgramAnswer bytes (Err NoMemory) = Unit {0}
