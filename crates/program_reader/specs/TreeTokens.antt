-- The tokens of derivation trees: what a tree of the grammar looks like in a text, read off its constructors.
-- Each case is one alternative of the grammar.
use Rattle.std.specs.Prelude.{suc, List, [], ◌∷◌, ◌++◌}
use Rattle.toy_imp.specs.ExprGrammar.{ExprTree, term, plus, minus, TermTree, factor, times, FactorTree, numeral, negative, cell, group, PlaceTree, variable, index_1, index_2, index_3}
use Rattle.toy_imp.specs.TestGrammar.{TestTree, both, either, BothTree, one, also, OneTree, negated, bracketed, named_test, below, at_most, same}
use Rattle.toy_imp.specs.BlockGrammar.{StmtTree, skipped, written, asserted, chosen, repeated, counted, bound, named_stmt, StmtsTree, no_stmts, stmts}
use Rattle.pec_text.specs.Spelling.{numeral_of}
use Rattle.pec_text.specs.declared.token.Sign.TheVariants as s
use Rattle.pec_text.specs.declared.token.Token.{Token}
use Rattle.pec_text.specs.declared.token.Token.TheVariants as t
use Rattle.pec_text.specs.declared.token.Word.TheVariants as w

abbrev mutual
  pub expr_tokens : ExprTree → List Token
  expr_tokens (term a) = term_tokens a
  expr_tokens (plus a b) = expr_tokens a ++ (t.Sign s.Plus ∷ term_tokens b)
  expr_tokens (minus a b) = expr_tokens a ++ (t.Sign s.Minus ∷ term_tokens b)

  pub term_tokens : TermTree → List Token
  term_tokens (factor a) = factor_tokens a
  term_tokens (times a b) = term_tokens a ++ (t.Sign s.Star ∷ factor_tokens b)

  pub factor_tokens : FactorTree → List Token
  factor_tokens (numeral n) = t.Number (numeral_of n) ∷ []
  factor_tokens (negative n) = t.Sign s.Minus ∷ t.Number (numeral_of (suc n)) ∷ []
  factor_tokens (cell a) = place_tokens a
  factor_tokens (group a) = t.Sign s.OpenParen ∷ (expr_tokens a ++ (t.Sign s.CloseParen ∷ []))

  pub place_tokens : PlaceTree → List Token
  place_tokens (variable x) = t.Name x ∷ []
  place_tokens (index_1 x a) = t.Name x ∷ t.Sign s.OpenBracket ∷ (expr_tokens a ++ (t.Sign s.CloseBracket ∷ []))
  place_tokens (index_2 x a b) = t.Name x ∷ t.Sign s.OpenBracket ∷ (expr_tokens a ++ (t.Sign s.Comma ∷ (expr_tokens b ++ (t.Sign s.CloseBracket ∷ []))))
  place_tokens (index_3 x a b c) = t.Name x ∷ t.Sign s.OpenBracket ∷ (expr_tokens a ++ (t.Sign s.Comma ∷ (expr_tokens b ++ (t.Sign s.Comma ∷ (expr_tokens c ++ (t.Sign s.CloseBracket ∷ []))))))

abbrev mutual
  pub test_tokens : TestTree → List Token
  test_tokens (both a) = both_tokens a
  test_tokens (either a b) = test_tokens a ++ (t.Word w.Or ∷ both_tokens b)

  pub both_tokens : BothTree → List Token
  both_tokens (one a) = one_tokens a
  both_tokens (also a b) = both_tokens a ++ (t.Word w.And ∷ one_tokens b)

  pub one_tokens : OneTree → List Token
  one_tokens (negated a) = t.Word w.Not ∷ one_tokens a
  one_tokens (bracketed a) = t.Sign s.OpenBracket ∷ (test_tokens a ++ (t.Sign s.CloseBracket ∷ []))
  one_tokens (named_test x) = t.Name x ∷ []
  one_tokens (below a b) = expr_tokens a ++ (t.Sign s.Less ∷ expr_tokens b)
  one_tokens (at_most a b) = expr_tokens a ++ (t.Sign s.LessEq ∷ expr_tokens b)
  one_tokens (same a b) = expr_tokens a ++ (t.Sign s.DoubleEquals ∷ expr_tokens b)

-- a block is its statements in braces
abbrev pub in_braces : List Token → List Token
in_braces inside = t.Sign s.OpenBrace ∷ (inside ++ (t.Sign s.CloseBrace ∷ []))

abbrev mutual
  pub stmt_tokens : StmtTree → List Token
  stmt_tokens skipped = t.Word w.Skip ∷ t.Sign s.Semicolon ∷ []
  stmt_tokens (written a e) = place_tokens a ++ (t.Sign s.Assign ∷ (expr_tokens e ++ (t.Sign s.Semicolon ∷ [])))
  stmt_tokens (asserted q) = t.Word w.Assert ∷ (test_tokens q ++ (t.Sign s.Semicolon ∷ []))
  stmt_tokens (chosen q b c) = t.Word w.If ∷ (test_tokens q ++ (in_braces (stmts_tokens b) ++ (t.Word w.Else ∷ in_braces (stmts_tokens c))))
  stmt_tokens (repeated q b) = t.Word w.While ∷ (test_tokens q ++ in_braces (stmts_tokens b))
  stmt_tokens (counted x lo hi b) = t.Word w.For ∷ t.Name x ∷ t.Sign s.Equals ∷ (expr_tokens lo ++ (t.Word w.To ∷ (expr_tokens hi ++ in_braces (stmts_tokens b))))
  stmt_tokens (bound x e b) = t.Word w.Let ∷ t.Name x ∷ t.Sign s.Equals ∷ (expr_tokens e ++ in_braces (stmts_tokens b))
  stmt_tokens (named_stmt x) = t.Name x ∷ t.Sign s.Semicolon ∷ []

  pub stmts_tokens : StmtsTree → List Token
  stmts_tokens no_stmts = []
  stmts_tokens (stmts a more) = stmt_tokens a ++ stmts_tokens more
