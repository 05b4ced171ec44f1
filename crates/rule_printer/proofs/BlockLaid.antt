-- The canonical text of statements spells the tokens of their canonical trees, and is whole lines that may stand in the body
-- of a section. Each case is one alternative.
use Rattle.std.proofs.Common.{◌≡◌, ℕ, zero, suc, true, ◌&&◌, List, [], ◌∷◌, ◌++◌, codes, refl, sym, ap, ◌∙◌, subst}
use Rattle.std.specs.List.{AllByRecursion, list_all}
use Rattle.std.proofs.lemmas.Bool.{and_parts}
use Rattle.std.proofs.lemmas.List.{append_assoc}
use Rattle.toy_imp.specs.declared.form.ExprForm.TheVariants as expr_form
use Rattle.toy_imp.specs.declared.form.TestForm.TheVariants as test_form
use Rattle.toy_imp.specs.declared.param.Param.{Param}
use Rattle.toy_imp.specs.Block.{Stmt, skip, put, assert_that, if_then, while_do, for_to, let_in, par_stmt, Block, empty, stmt}
use Rattle.toy_imp.specs.BlockGrammar.{StmtsTree, no_stmts, stmts}
use Rattle.toy_imp.specs.ExprCanonical.{declared_name, written_name}
use Rattle.toy_imp.specs.BlockCanonical.{canonical_stmt, canonical_block}
use Rattle.toy_imp.specs.Spellable.{is_spellable, are_spellable_indices, is_spellable_stmt, is_spellable_block}
use Rattle.pec_text.specs.Spelling.{is_gap_byte, IsName}
use Rattle.pec_text.specs.declared.token.Sign.TheVariants as s
use Rattle.pec_text.specs.declared.token.Token.{Token}
use Rattle.pec_text.specs.declared.token.Token.TheVariants as t
use Rattle.pec_text.specs.declared.token.Word.TheVariants as w
use Rattle.pec_text.proofs.Runs.{stops_never}
use Rattle.program_reader.specs.TreeTokens.{in_braces, stmt_tokens, stmts_tokens}
use Rattle.rule_printer.specs.CanonicalText.{indent, in_block, stmt_bytes, stmts_bytes}
use Rattle.program_reader.specs.OwnNames.{StmtNamesAre, BlockNamesAre}
use Rattle.rule_printer.proofs.WrittenLines.{is_plain, AreLines, IsWriting, GoesOn, CanEnd, IsWhole, goes_on-plain, can_end-append, can_end-with, writing-lines, whole-nothing, whole-append, whole-line, plain_append, semicolon, open_brace, close_brace}
use Rattle.rule_printer.proofs.Laying.{Lays, Anything, Breaks, Piece, Ending, Lines, lays-append, then, then_end, gap_lays, space, sign_laid, sign_between, word_before, word_between, name_laid}
use Rattle.rule_printer.proofs.ExprLaid.{first_is_name, written_is_name, expr_laid, place_laid, test_laid}

-- ---- indentation
indent_gap : (d : ℕ) → list_all is_gap_byte (indent d) ≡ true
indent_gap zero = refl
indent_gap (suc d) = indent_gap d

indent_plain : (d : ℕ) → list_all is_plain (indent d) ≡ true
indent_plain zero = refl
indent_plain (suc d) = indent_plain d

-- ---- the ends of statements
ended : Ending (codes ";") (t.Sign s.Semicolon ∷ [])
ended = record { lays = (sign_laid s.Semicolon refl stops_never).lays; ends = can_end-with 59 semicolon }

word_ended : Ending (codes "skip;") (t.Word w.Skip ∷ t.Sign s.Semicolon ∷ [])
word_ended = record {
  lays = lays-append Breaks Anything (codes "skip") (codes ";") _ _ (word_lays) (ended.lays) (λ rest _. refl);
  ends = can_end-append (codes "skip") (codes ";") (goes_on-plain (codes "skip") refl) ended.ends;
}
  where
    word_lays : Lays Breaks (codes "skip") (t.Word w.Skip ∷ [])
    word_lays = record {
      spells = λ rest more breaks spelled. (rest, record { gap = []; lexeme = codes "skip"; joined = refl; is_gap = refl; is_lexeme = refl; longest = breaks }, spelled);
      narrow = refl;
    }

-- ---- blocks
-- a block goes on with a line, and can be the last piece of one
pub record BlockLaid (bytes : List ℕ) (tokens : List Token) : Type 0 where
  pub lays : Lays Anything bytes tokens
  pub on : GoesOn bytes
  pub ends : CanEnd bytes

pub as_piece : {bytes : List ℕ} {tokens : List Token} → BlockLaid bytes tokens → Piece Anything bytes tokens
as_piece b = record { lays = b.lays; on = b.on }

pub as_ending : {bytes : List ℕ} {tokens : List Token} → BlockLaid bytes tokens → Ending bytes tokens
as_ending b = record { lays = b.lays; ends = b.ends }

no_lines : BlockLaid (codes "{ }") (t.Sign s.OpenBrace ∷ t.Sign s.CloseBrace ∷ [])
no_lines =
    let front : Piece Anything (codes "{ ") (t.Sign s.OpenBrace ∷ []) = then (sign_laid s.OpenBrace refl stops_never) space (λ rest _. tt) in
    let brace : Piece Anything (codes "}") (t.Sign s.CloseBrace ∷ []) = sign_laid s.CloseBrace refl stops_never in
    record {
      lays = (then front brace (λ rest _. tt)).lays;
      on = goes_on-plain (codes "{ }") refl;
      ends = can_end-append (codes "{ ") (codes "}") front.on (can_end-with 125 close_brace);
    }

joined : (a b c d : List ℕ) → ((a ++ b) ++ c) ++ d ≡ a ++ (b ++ (c ++ d))
joined a b c d = append_assoc (a ++ b) c d ∙ append_assoc a b (c ++ d)

joined_end : (a b c d e : List ℕ) → ((a ++ b) ++ c) ++ (d ++ e) ≡ a ++ ((b ++ (c ++ d)) ++ e)
joined_end a b c d e = joined a b c (d ++ e) ∙ ap (λ z. a ++ z) (ap (λ z. b ++ z) (sym (append_assoc c d e)) ∙ sym (append_assoc b (c ++ d) e))

some_lines : (d : ℕ) (lines : List ℕ) (tokens : List Token) → Lines lines tokens → BlockLaid (codes "{\n" ++ (lines ++ (indent d ++ codes "}"))) (in_braces tokens)
some_lines d lines tokens x =
    let opening : Lays Anything (codes "{\n") (t.Sign s.OpenBrace ∷ []) =
    lays-append Anything Anything (codes "{") (codes "\n") _ _ ((sign_laid s.OpenBrace refl stops_never).lays) (gap_lays (codes "\n") refl) (λ rest _. tt) in
    let closing : Lays Anything (indent d ++ codes "}") (t.Sign s.CloseBrace ∷ []) =
    lays-append Anything Anything (indent d) (codes "}") _ _ (gap_lays (indent d) (indent_gap d)) ((sign_laid s.CloseBrace refl stops_never).lays) (λ rest _. tt) in
    let within : (bytes : List ℕ) → IsWriting bytes → AreLines ((bytes ++ codes "{\n") ++ lines) = λ bytes w. x.whole (bytes ++ codes "{\n") (can_end-with 123 open_brace bytes w) in
    let last : CanEnd (indent d ++ codes "}") = can_end-append (indent d) (codes "}") (goes_on-plain (indent d) (indent_plain d)) (can_end-with 125 close_brace) in
    record {
      lays =
          lays-append Anything Anything (codes "{\n") (lines ++ (indent d ++ codes "}")) _ _ opening (lays-append Anything Anything lines (indent d ++ codes "}") _ _ x.lays closing (λ rest _. tt)) (λ rest _. tt);
      on = λ bytes w.
          subst IsWriting (joined bytes (codes "{\n") lines (indent d ++ codes "}"))
          (goes_on-plain (indent d ++ codes "}") (plain_append (indent d) (codes "}") (indent_plain d) refl) ((bytes ++ codes "{\n") ++ lines) (writing-lines _ (within bytes w)));
      ends = λ bytes w. subst AreLines (joined_end bytes (codes "{\n") lines (indent d ++ codes "}") (10 ∷ [])) (last ((bytes ++ codes "{\n") ++ lines) (writing-lines _ (within bytes w)));
    }

pub block_laid : (d : ℕ) (tree : StmtsTree) → Lines (stmts_bytes (suc d) tree) (stmts_tokens tree) → BlockLaid (in_block d (stmts_bytes (suc d) tree)) (in_braces (stmts_tokens tree))
block_laid d no_stmts x = no_lines
block_laid d (stmts a more) x = some_lines d (stmts_bytes (suc d) (stmts a more)) (stmts_tokens (stmts a more)) x

-- ---- lines
no_line : Lines [] []
no_line = record { lays = gap_lays [] refl; whole = whole-nothing }

line_before : (d : ℕ) (line lines : List ℕ) (ts us : List Token) → Ending line ts → Lines lines us → Lines (indent d ++ (line ++ (codes "\n" ++ lines))) (ts ++ us)
line_before d line lines ts us x y =
    let ends : CanEnd (indent d ++ line) = can_end-append (indent d) line (goes_on-plain (indent d) (indent_plain d)) x.ends in
    let same : ((indent d ++ line) ++ codes "\n") ++ lines ≡ indent d ++ (line ++ (codes "\n" ++ lines)) = joined (indent d) line (codes "\n") lines in
    record {
      lays =
          lays-append Anything Anything (indent d) (line ++ (codes "\n" ++ lines)) [] (ts ++ us) (gap_lays (indent d) (indent_gap d))
          (lays-append Anything Anything line (codes "\n" ++ lines) ts us x.lays (lays-append Anything Anything (codes "\n") lines [] us (gap_lays (codes "\n") refl) y.lays (λ rest _. tt)) (λ rest _. tt)) (λ rest _. tt);
      whole = subst IsWhole same (whole-append ((indent d ++ line) ++ codes "\n") lines (whole-line (indent d ++ line) ends) y.whole);
    }

-- ---- statements
module _ (ps : List Param) (declared : AllByRecursion (λ p. IsName p.name) ps) where
  mutual
    pub stmt_laid : (d : ℕ) (a : Stmt) → is_spellable_stmt ps a ≡ true → StmtNamesAre IsName a → Ending (stmt_bytes d (canonical_stmt ps a)) (stmt_tokens (canonical_stmt ps a))
    stmt_laid d skip h names = word_ended
    stmt_laid d (put x es e) h names =
        let later : (are_spellable_indices ps es && is_spellable ps e) ≡ true = (and_parts _ _ h).1 in
        then_end (place_laid ps declared (written_name ps x) es (written_is_name ps declared x ((and_parts _ _ h).0) names.0) ((and_parts _ _ later).0) names.1)
        (then_end (sign_between s.Assign refl (λ rest. refl)) (then_end (expr_laid ps declared expr_form.Expr e ((and_parts _ _ later).1) names.2) ended (λ rest. refl)) (λ rest. tt)) (λ rest. refl)
    stmt_laid d (assert_that q) h names =
        then_end (word_before w.Assert refl) (then_end (test_laid ps declared test_form.Test q h names) ended (λ rest. refl)) (λ rest. tt)
    stmt_laid d (if_then q b c) h names =
        let later : (is_spellable_block ps b && is_spellable_block ps c) ≡ true = (and_parts _ _ h).1 in
        then_end (word_before w.If refl)
        (then_end (test_laid ps declared test_form.Test q ((and_parts _ _ h).0) names.0)
        (then_end space
        (then_end (as_piece (block_laid d (canonical_block ps b) (stmts_laid (suc d) b ((and_parts _ _ later).0) names.1)))
        (then_end (word_between w.Else refl) (as_ending (block_laid d (canonical_block ps c) (stmts_laid (suc d) c ((and_parts _ _ later).1) names.2))) (λ rest. tt))
        (λ rest. tt))
        (λ rest. tt))
        (λ rest. refl))
        (λ rest. tt)
    stmt_laid d (while_do q b) h names =
        then_end (word_before w.While refl)
        (then_end (test_laid ps declared test_form.Test q ((and_parts _ _ h).0) names.0)
        (then_end space (as_ending (block_laid d (canonical_block ps b) (stmts_laid (suc d) b ((and_parts _ _ h).1) names.1))) (λ rest. tt))
        (λ rest. refl))
        (λ rest. tt)
    stmt_laid d (for_to x lo hi b) h names =
        let later : (is_spellable ps lo && (is_spellable ps hi && is_spellable_block ps b)) ≡ true = (and_parts _ _ h).1 in
        let last : (is_spellable ps hi && is_spellable_block ps b) ≡ true = (and_parts _ _ later).1 in
        then_end (word_before w.For refl)
        (then_end (name_laid (written_name ps x) (written_is_name ps declared x ((and_parts _ _ h).0) names.0))
        (then_end (sign_between s.Equals refl (λ rest. refl))
        (then_end (expr_laid ps declared expr_form.Expr lo ((and_parts _ _ later).0) names.1)
        (then_end (word_between w.To refl)
        (then_end (expr_laid ps declared expr_form.Expr hi ((and_parts _ _ last).0) names.2)
        (then_end space (as_ending (block_laid d (canonical_block ps b) (stmts_laid (suc d) b ((and_parts _ _ last).1) names.3))) (λ rest. tt))
        (λ rest. refl))
        (λ rest. tt))
        (λ rest. refl))
        (λ rest. tt))
        (λ rest. refl))
        (λ rest. tt)
    stmt_laid d (let_in x e b) h names =
        let later : (is_spellable ps e && is_spellable_block ps b) ≡ true = (and_parts _ _ h).1 in
        then_end (word_before w.Let refl)
        (then_end (name_laid (written_name ps x) (written_is_name ps declared x ((and_parts _ _ h).0) names.0))
        (then_end (sign_between s.Equals refl (λ rest. refl))
        (then_end (expr_laid ps declared expr_form.Expr e ((and_parts _ _ later).0) names.1)
        (then_end space (as_ending (block_laid d (canonical_block ps b) (stmts_laid (suc d) b ((and_parts _ _ later).1) names.2))) (λ rest. tt))
        (λ rest. refl))
        (λ rest. tt))
        (λ rest. refl))
        (λ rest. tt)
    stmt_laid d (par_stmt k) h names = then_end (name_laid (declared_name ps k) (first_is_name ps declared k h)) ended (λ rest. refl)

    pub stmts_laid : (d : ℕ) (b : Block) → is_spellable_block ps b ≡ true → BlockNamesAre IsName b → Lines (stmts_bytes d (canonical_block ps b)) (stmts_tokens (canonical_block ps b))
    stmts_laid d empty h names = no_line
    stmts_laid d (stmt a b) h names = line_before d _ _ _ _ (stmt_laid d a ((and_parts _ _ h).0) names.0) (stmts_laid d b ((and_parts _ _ h).1) names.1)
