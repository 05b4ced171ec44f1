-- What `program_read` gives is the program that the tokens spell, and what a reader of a text owes for each of its answers.
-- A nesting of at most 64 is at most 64 levels and at most 4096 operators.
use Rattle.std.proofs.Common.{◌≡◌, ℕ, ◌<◌, ◌≤◌, true, false, List, [], ◌∷◌, None, Some, Ok, Err, sym, ◌∙◌, ap, subst, refl, arith}
use Rattle.std.proofs.lemmas.List.{append-nil}
use Rattle.std.proofs.lemmas.Option.{none-some, same_Some}
use Rattle.toy_imp.specs.Block.{Block}
use Rattle.toy_imp.specs.BlockGrammar.{stmts_levels, stmts_operators, nesting_by}
use Rattle.toy_imp.specs.Program.{is_program}
use Rattle.pec_text.specs.Spelling.{Spells}
use Rattle.pec_text.specs.declared.token.Token.{Token}
use Rattle.program_reader.specs.Read.{ReadStmt, most_operators}
use Rattle.program_reader.specs.TreeTokens.{stmts_tokens}
use Rattle.program_reader.specs.BlockReading.{stmts_read, all_read, program_read}
use Rattle.program_reader.specs.Grammar.{AreStmts, HasWide, IsProgramText, SpellsProgram, ProgramAnswer}
use Rattle.program_reader.specs.declared.refusal.ReadRule.TheVariants.{NotGrammar, Wide}
use Rattle.program_reader.proofs.BlockSound.{stmts_has}
use Rattle.program_reader.proofs.BlockComplete.{stmts_reads}

-- ---- nesting
pub nesting_within : (levels operators : ℕ) → levels < 65 → operators ≤ most_operators → nesting_by levels operators ≤ 64
nesting_within levels operators low few = omega arith

pub levels_within : (levels operators : ℕ) → nesting_by levels operators ≤ 64 → levels < 65
levels_within levels operators h = omega arith

pub operators_within : (levels operators : ℕ) → nesting_by levels operators ≤ 64 → operators ≤ most_operators
operators_within levels operators h = omega arith

-- ---- all tokens are read
all_some : (r : ReadStmt Block) (b : Block) → all_read r ≡ Some b → r ≡ Some (b, [])
all_some None b h = absurd (none-some _ h)
all_some (Some (c, [])) b h = ap (λ z. Some (z, [])) (same_Some _ _ h)
all_some (Some (c, token ∷ rest)) b h = absurd (none-some _ h)

pub read_are_stmts : (tokens : List Token) (b : Block) → program_read tokens ≡ Some b → AreStmts [] tokens b
unfolding program_read
read_are_stmts tokens b h =
    let has = stmts_has [] 65 tokens (b, []) (all_some (stmts_read [] 65 tokens) b h) in
    record {
      tree = has.tree;
      tokens_are = sym (append-nil (stmts_tokens has.tree)) ∙ sym has.spelled;
      shallow = nesting_within (stmts_levels has.tree) (stmts_operators has.tree) has.shallow has.few;
      value = has.value;
    }

pub stmts_are_read : (tokens : List Token) (b : Block) → AreStmts [] tokens b → program_read tokens ≡ Some b
unfolding program_read
stmts_are_read tokens b are =
    let low : stmts_levels are.tree < 65 = levels_within (stmts_levels are.tree) (stmts_operators are.tree) are.shallow in
    let few : stmts_operators are.tree ≤ most_operators = operators_within (stmts_levels are.tree) (stmts_operators are.tree) are.shallow in
    ap (λ z. all_read (stmts_read [] 65 z)) (sym are.tokens_are ∙ sym (append-nil (stmts_tokens are.tree)))
    ∙ ap all_read (stmts_reads [] 65 are.tree [] low few refl)
    ∙ ap Some are.value

-- ---- the answers of a reader of programs. No other tokens than `tokens` are spelled by the bytes.
abbrev pub SpellsOnly : List ℕ → List Token → Type 0
SpellsOnly bytes tokens = (others : List Token) → Spells bytes others → others ≡ tokens

-- what a text is read as, whichever tokens it is said to have
text_read : (bytes : List ℕ) (tokens others : List Token) (b : Block) → SpellsOnly bytes tokens → IsProgramText bytes others b → program_read tokens ≡ Some b
text_read bytes tokens others b only text = subst (λ z. program_read z ≡ Some b) (only others text.spelled) (stmts_are_read others b text.are_stmts)

pub answer_ok : (bytes : List ℕ) (tokens : List Token) (b : Block) → Spells bytes tokens → ((others : List Token) → Spells bytes others → others ≡ tokens)
    → program_read tokens ≡ Some b → is_program b ≡ true → ¬ (HasWide tokens) → ProgramAnswer bytes (Ok b)
answer_ok bytes tokens b spelled only read program narrow =
    let text : IsProgramText bytes tokens b = record { spelled = spelled; are_stmts = read_are_stmts tokens b read; is_program = program } in
    let one : SpellsProgram bytes b = record { tokens = tokens; text = text; narrow = narrow } in
    (one, λ c other. same_Some _ _ (sym (text_read bytes tokens other.tokens c only other.text) ∙ read))

pub answer_not_tokens : (bytes : List ℕ) → ((tokens : List Token) → ¬ (Spells bytes tokens)) → ProgramAnswer bytes (Err NotGrammar)
answer_not_tokens bytes none = λ tokens b text. none tokens text.spelled

pub answer_not_read : (bytes : List ℕ) (tokens : List Token) → ((others : List Token) → Spells bytes others → others ≡ tokens)
    → program_read tokens ≡ None → ProgramAnswer bytes (Err NotGrammar)
answer_not_read bytes tokens only unread = λ others b text. none-some _ (sym unread ∙ text_read bytes tokens others b only text)

pub answer_not_program : (bytes : List ℕ) (tokens : List Token) (b : Block) → ((others : List Token) → Spells bytes others → others ≡ tokens)
    → program_read tokens ≡ Some b → is_program b ≡ false → ProgramAnswer bytes (Err NotGrammar)
answer_not_program bytes tokens b only read no_program = λ others c text.
    let same : c ≡ b = same_Some _ _ (sym (text_read bytes tokens others c only text) ∙ read) in
    let program : is_program b ≡ true = sym (ap is_program same) ∙ text.is_program in
    cc

pub answer_wide : (bytes : List ℕ) (tokens : List Token) (b : Block) → Spells bytes tokens → program_read tokens ≡ Some b → is_program b ≡ true → HasWide tokens
    → ProgramAnswer bytes (Err Wide)
answer_wide bytes tokens b spelled read program wide =
    let text : IsProgramText bytes tokens b = record { spelled = spelled; are_stmts = read_are_stmts tokens b read; is_program = program } in
    (tokens, b, text, wide)
