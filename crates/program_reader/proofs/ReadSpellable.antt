-- What bytes spell as a program is spellable: its own tree shows it.
use Rattle.std.proofs.Common.{◌≡◌, ℕ, ◌≤◌, Bool, true, false, ◌||◌, ◌&&◌, List, [], Result, Ok, Err, IfOk, refl, sym, subst, arith}
use Rattle.std.proofs.lemmas.Bool.{and_parts}
use Rattle.toy_imp.specs.declared.name.Name.{Name}
use Rattle.toy_imp.specs.declared.name.Name.TheVariants.{Own, Par}
use Rattle.toy_imp.specs.Expr.{Expr, num, at, add, sub, mul, par_expr, Exprs, no_exprs, expr}
use Rattle.toy_imp.specs.Test.{Test, less, less_eq, equal, not_of, and_of, or_of, par_test}
use Rattle.toy_imp.specs.Block.{Stmt, skip, put, assert_that, if_then, while_do, for_to, let_in, par_stmt, Block, empty, stmt}
use Rattle.toy_imp.specs.BlockCanonical.{canonical_block}
use Rattle.toy_imp.specs.BlockGrammar.{stmts_value, stmts_nesting}
use Rattle.toy_imp.specs.Spellable.{is_spellable_block, is_missing}
use Rattle.toy_imp.specs.Uses.{Use, own_name, name_use, expr_any, exprs_any, test_any, stmt_any, block_any}
use Rattle.toy_imp.specs.Program.{is_own, is_closed, are_closed, is_closed_test, is_closed_stmt, is_program}
use Rattle.toy_imp.proofs.SpellableValues.{block-spellable}
use Rattle.pec_text.specs.Id.{is_id}
use Rattle.pec_text.specs.Spelling.{IsName}
use Rattle.program_reader.specs.Grammar.{ProgramAnswer}
use Rattle.program_reader.specs.declared.refusal.ReadRule.{ReadRule}
use Rattle.program_reader.specs.OwnNames.{BlockNamesAre}
use Rattle.program_reader.specs.SpellableProgram.{IsSpellableProgram, ReadIsSpellable}
use Rattle.program_reader.specs.TreeTokens.{stmts_tokens}
use Rattle.program_reader.proofs.CanonicalIsLeast.{canonical_is_least}
use Rattle.program_reader.proofs.ReadNames.{NamesAre, spelled_names, stmts_names}

-- ---- a program holds nothing that passes a test which own names fail
pub neither : (a b : Bool) → a ≡ false → b ≡ false → (a || b) ≡ false
neither false b h g = g
neither true b h g = cc

name-own : (test : Use → Bool) (x : Name) → test own_name ≡ false → is_own x ≡ true → test (name_use x) ≡ false
name-own test (Own x) none h = none
name-own test (Par k) none h = cc

mutual
  expr-closed : (test : Use → Bool) (e : Expr) → test own_name ≡ false → is_closed e ≡ true → expr_any test e ≡ false
  expr-closed test (num z) none h = refl
  expr-closed test (at x es) none h = neither _ _ (name-own test x none ((and_parts _ _ h).0)) (exprs-closed test es none ((and_parts _ _ h).1))
  expr-closed test (add a b) none h = neither _ _ (expr-closed test a none ((and_parts _ _ h).0)) (expr-closed test b none ((and_parts _ _ h).1))
  expr-closed test (sub a b) none h = neither _ _ (expr-closed test a none ((and_parts _ _ h).0)) (expr-closed test b none ((and_parts _ _ h).1))
  expr-closed test (mul a b) none h = neither _ _ (expr-closed test a none ((and_parts _ _ h).0)) (expr-closed test b none ((and_parts _ _ h).1))
  expr-closed test (par_expr k) none h = cc

  exprs-closed : (test : Use → Bool) (es : Exprs) → test own_name ≡ false → are_closed es ≡ true → exprs_any test es ≡ false
  exprs-closed test no_exprs none h = refl
  exprs-closed test (expr e es) none h = neither _ _ (expr-closed test e none ((and_parts _ _ h).0)) (exprs-closed test es none ((and_parts _ _ h).1))

test-closed : (test : Use → Bool) (t : Test) → test own_name ≡ false → is_closed_test t ≡ true → test_any test t ≡ false
test-closed test (less a b) none h = neither _ _ (expr-closed test a none ((and_parts _ _ h).0)) (expr-closed test b none ((and_parts _ _ h).1))
test-closed test (less_eq a b) none h = neither _ _ (expr-closed test a none ((and_parts _ _ h).0)) (expr-closed test b none ((and_parts _ _ h).1))
test-closed test (equal a b) none h = neither _ _ (expr-closed test a none ((and_parts _ _ h).0)) (expr-closed test b none ((and_parts _ _ h).1))
test-closed test (not_of t) none h = test-closed test t none h
test-closed test (and_of t u) none h = neither _ _ (test-closed test t none ((and_parts _ _ h).0)) (test-closed test u none ((and_parts _ _ h).1))
test-closed test (or_of t u) none h = neither _ _ (test-closed test t none ((and_parts _ _ h).0)) (test-closed test u none ((and_parts _ _ h).1))
test-closed test (par_test k) none h = cc

mutual
  stmt-closed : (test : Use → Bool) (s : Stmt) → test own_name ≡ false → is_closed_stmt s ≡ true → stmt_any test s ≡ false
  stmt-closed test skip none h = refl
  stmt-closed test (put x es e) none h =
      let later : (are_closed es && is_closed e) ≡ true = (and_parts _ _ h).1 in
      neither _ _ (name-own test x none ((and_parts _ _ h).0)) (neither _ _ (exprs-closed test es none ((and_parts _ _ later).0)) (expr-closed test e none ((and_parts _ _ later).1)))
  stmt-closed test (assert_that t) none h = test-closed test t none h
  stmt-closed test (if_then t b c) none h =
      let later : (is_program b && is_program c) ≡ true = (and_parts _ _ h).1 in
      neither _ _ (test-closed test t none ((and_parts _ _ h).0)) (neither _ _ (block-closed test b none ((and_parts _ _ later).0)) (block-closed test c none ((and_parts _ _ later).1)))
  stmt-closed test (while_do t b) none h = neither _ _ (test-closed test t none ((and_parts _ _ h).0)) (block-closed test b none ((and_parts _ _ h).1))
  stmt-closed test (for_to x lo hi b) none h =
      let later : (is_closed lo && (is_closed hi && is_program b)) ≡ true = (and_parts _ _ h).1 in
      let last : (is_closed hi && is_program b) ≡ true = (and_parts _ _ later).1 in
      neither _ _ (name-own test x none ((and_parts _ _ h).0))
      (neither _ _ (expr-closed test lo none ((and_parts _ _ later).0)) (neither _ _ (expr-closed test hi none ((and_parts _ _ last).0)) (block-closed test b none ((and_parts _ _ last).1))))
  stmt-closed test (let_in x e b) none h =
      let later : (is_closed e && is_program b) ≡ true = (and_parts _ _ h).1 in
      neither _ _ (name-own test x none ((and_parts _ _ h).0)) (neither _ _ (expr-closed test e none ((and_parts _ _ later).0)) (block-closed test b none ((and_parts _ _ later).1)))
  stmt-closed test (par_stmt k) none h = cc

  block-closed : (test : Use → Bool) (b : Block) → test own_name ≡ false → is_program b ≡ true → block_any test b ≡ false
  block-closed test empty none h = refl
  block-closed test (stmt s b) none h = neither _ _ (stmt-closed test s none ((and_parts _ _ h).0)) (block-closed test b none ((and_parts _ _ h).1))

-- ---- what is read
pub read_is_spellable : ReadIsSpellable
read_is_spellable title bytes b id spelled =
    let are = spelled.text.are_stmts in
    let names : NamesAre IsName (stmts_tokens are.tree) = subst (NamesAre IsName) (sym are.tokens_are) (spelled_names bytes spelled.tokens spelled.text.spelled) in
    let program : is_program (stmts_value [] are.tree) ≡ true = subst (λ z. is_program z ≡ true) (sym are.value) spelled.text.is_program in
    let least : stmts_nesting (canonical_block [] (stmts_value [] are.tree)) ≤ stmts_nesting are.tree = canonical_is_least [] are.tree in
    let low : stmts_nesting (canonical_block [] (stmts_value [] are.tree)) ≤ 64 = omega (arith, least, are.shallow) in
    record {
      title_is_id = id;
      is_program = spelled.text.is_program;
      spellable = subst (λ z. is_spellable_block [] z ≡ true) are.value (block-spellable [] are.tree (block-closed (is_missing 0) (stmts_value [] are.tree) refl program));
      names = subst (BlockNamesAre IsName) are.value (stmts_names IsName [] are.tree names);
      shallow = subst (λ z. stmts_nesting (canonical_block [] z) ≤ 64) are.value low;
    }

-- what is answered is spellable
pub answer_is_spellable : (title bytes : List ℕ) (r : Result Block ReadRule) → ProgramAnswer bytes r → is_id title ≡ true → IfOk r (IsSpellableProgram title)
answer_is_spellable title bytes (Ok b) h id = read_is_spellable title bytes b id h.0
answer_is_spellable title bytes (Err refusal) h id = tt
