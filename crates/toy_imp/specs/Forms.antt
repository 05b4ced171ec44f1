-- How many levels an expression or a test has where it stands for a nonterminal of the grammar: alone, or as an operand
-- that gets parentheses or brackets if it needs them.
use Rattle.std.specs.Prelude.{ℕ}
use Rattle.toy_imp.specs.declared.form.ExprForm.{ExprForm}
use Rattle.toy_imp.specs.declared.form.ExprForm.TheVariants as expr_form
use Rattle.toy_imp.specs.declared.form.TestForm.{TestForm}
use Rattle.toy_imp.specs.declared.form.TestForm.TheVariants as test_form
use Rattle.toy_imp.specs.ExprGrammar.{ExprTree, expr_levels, term_levels, factor_levels}
use Rattle.toy_imp.specs.TestGrammar.{TestTree, test_levels, both_levels, one_levels}
use Rattle.toy_imp.specs.ExprCanonical.{as_term, as_factor}
use Rattle.toy_imp.specs.TestCanonical.{as_both, as_one}

abbrev pub expr_levels_as : ExprForm → ExprTree → ℕ
expr_levels_as expr_form.Expr a = expr_levels a
expr_levels_as expr_form.Term a = term_levels (as_term a)
expr_levels_as expr_form.Factor a = factor_levels (as_factor a)

abbrev pub test_levels_as : TestForm → TestTree → ℕ
test_levels_as test_form.Test a = test_levels a
test_levels_as test_form.Both a = both_levels (as_both a)
test_levels_as test_form.One a = one_levels (as_one a)
