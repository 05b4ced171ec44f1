-- The canonical text of derivation trees, one line for each alternative of the grammar. Parentheses and brackets are those
-- of the tree; canonical trees have none that could be left out.
-- Words and operators are parted by one space, `;` and `,` follow directly, and each statement has a line of its own,
-- two spaces to the right for each block round it. The number of those blocks is the first argument.
use Rattle.std.specs.Prelude.{ℕ, zero, suc, List, [], ◌∷◌, ◌++◌, codes, decimal}
use Rattle.toy_imp.specs.ExprGrammar.{ExprTree, term, plus, minus, TermTree, factor, times, FactorTree, numeral, negative, cell, group, PlaceTree, variable, index_1, index_2, index_3}
use Rattle.toy_imp.specs.TestGrammar.{TestTree, both, either, BothTree, one, also, OneTree, negated, bracketed, named_test, below, at_most, same}
use Rattle.toy_imp.specs.BlockGrammar.{StmtTree, skipped, written, asserted, chosen, repeated, counted, bound, named_stmt, StmtsTree, no_stmts, stmts}

abbrev mutual
  pub expr_bytes : ExprTree → List ℕ
  expr_bytes (term a) = term_bytes a
  expr_bytes (plus a b) = expr_bytes a ++ (codes " + " ++ term_bytes b)
  expr_bytes (minus a b) = expr_bytes a ++ (codes " - " ++ term_bytes b)

  pub term_bytes : TermTree → List ℕ
  term_bytes (factor a) = factor_bytes a
  term_bytes (times a b) = term_bytes a ++ (codes " * " ++ factor_bytes b)

  pub factor_bytes : FactorTree → List ℕ
  factor_bytes (numeral n) = decimal n
  factor_bytes (negative n) = codes "-" ++ decimal (suc n)
  factor_bytes (cell a) = place_bytes a
  factor_bytes (group a) = codes "(" ++ (expr_bytes a ++ codes ")")

  pub place_bytes : PlaceTree → List ℕ
  place_bytes (variable x) = x
  place_bytes (index_1 x a) = x ++ (codes "[" ++ (expr_bytes a ++ codes "]"))
  place_bytes (index_2 x a b) = x ++ (codes "[" ++ (expr_bytes a ++ (codes ", " ++ (expr_bytes b ++ codes "]"))))
  place_bytes (index_3 x a b c) = x ++ (codes "[" ++ (expr_bytes a ++ (codes ", " ++ (expr_bytes b ++ (codes ", " ++ (expr_bytes c ++ codes "]"))))))

abbrev mutual
  pub test_bytes : TestTree → List ℕ
  test_bytes (both a) = both_bytes a
  test_bytes (either a b) = test_bytes a ++ (codes " or " ++ both_bytes b)

  pub both_bytes : BothTree → List ℕ
  both_bytes (one a) = one_bytes a
  both_bytes (also a b) = both_bytes a ++ (codes " and " ++ one_bytes b)

  pub one_bytes : OneTree → List ℕ
  one_bytes (negated a) = codes "not " ++ one_bytes a
  one_bytes (bracketed a) = codes "[" ++ (test_bytes a ++ codes "]")
  one_bytes (named_test x) = x
  one_bytes (below a b) = expr_bytes a ++ (codes " < " ++ expr_bytes b)
  one_bytes (at_most a b) = expr_bytes a ++ (codes " <= " ++ expr_bytes b)
  one_bytes (same a b) = expr_bytes a ++ (codes " == " ++ expr_bytes b)

abbrev pub indent : ℕ → List ℕ
indent zero = []
indent (suc d) = codes "  " ++ indent d

-- these lines in braces: `{ }` where there is none, else the opening brace, the lines, and the closing brace on the last line
abbrev pub in_block : ℕ → List ℕ → List ℕ
in_block d [] = codes "{ }"
in_block d (byte ∷ lines) = codes "{\n" ++ ((byte ∷ lines) ++ (indent d ++ codes "}"))

abbrev mutual
  pub stmt_bytes : ℕ → StmtTree → List ℕ
  stmt_bytes d skipped = codes "skip;"
  stmt_bytes d (written a e) = place_bytes a ++ (codes " := " ++ (expr_bytes e ++ codes ";"))
  stmt_bytes d (asserted t) = codes "assert " ++ (test_bytes t ++ codes ";")
  stmt_bytes d (chosen t b c) = codes "if " ++ (test_bytes t ++ (codes " " ++ (in_block d (stmts_bytes (suc d) b) ++ (codes " else " ++ in_block d (stmts_bytes (suc d) c)))))
  stmt_bytes d (repeated t b) = codes "while " ++ (test_bytes t ++ (codes " " ++ in_block d (stmts_bytes (suc d) b)))
  stmt_bytes d (counted x lo hi b) = codes "for " ++ (x ++ (codes " = " ++ (expr_bytes lo ++ (codes " to " ++ (expr_bytes hi ++ (codes " " ++ in_block d (stmts_bytes (suc d) b)))))))
  stmt_bytes d (bound x e b) = codes "let " ++ (x ++ (codes " = " ++ (expr_bytes e ++ (codes " " ++ in_block d (stmts_bytes (suc d) b)))))
  stmt_bytes d (named_stmt x) = x ++ codes ";"

  -- the lines of the statements
  pub stmts_bytes : ℕ → StmtsTree → List ℕ
  stmts_bytes d no_stmts = []
  stmts_bytes d (stmts a more) = indent d ++ (stmt_bytes d a ++ (codes "\n" ++ stmts_bytes d more))
