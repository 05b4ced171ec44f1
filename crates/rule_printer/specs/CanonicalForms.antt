-- The canonical text of an expression or a test where it stands for a nonterminal of the grammar: alone, or as an operand
-- that gets parentheses or brackets if it needs them.
use Rattle.std.specs.Prelude.{ℕ, List, ◌++◌, codes}
use Rattle.toy_imp.specs.declared.form.ExprForm.{ExprForm}
use Rattle.toy_imp.specs.declared.form.ExprForm.TheVariants as expr_form
use Rattle.toy_imp.specs.declared.form.TestForm.{TestForm}
use Rattle.toy_imp.specs.declared.form.TestForm.TheVariants as test_form
use Rattle.toy_imp.specs.ExprGrammar.{ExprTree}
use Rattle.toy_imp.specs.TestGrammar.{TestTree}
use Rattle.toy_imp.specs.ExprCanonical.{as_term, as_factor}
use Rattle.toy_imp.specs.TestCanonical.{as_both, as_one}
use Rattle.rule_printer.specs.CanonicalText.{expr_bytes, term_bytes, factor_bytes, test_bytes, both_bytes, one_bytes}

abbrev pub expr_bytes_as : ExprForm → ExprTree → List ℕ
expr_bytes_as expr_form.Expr a = expr_bytes a
expr_bytes_as expr_form.Term a = term_bytes (as_term a)
expr_bytes_as expr_form.Factor a = factor_bytes (as_factor a)

abbrev pub test_bytes_as : TestForm → TestTree → List ℕ
test_bytes_as test_form.Test a = test_bytes a
test_bytes_as test_form.Both a = both_bytes (as_both a)
test_bytes_as test_form.One a = one_bytes (as_one a)

-- the text of a sum or difference, of a product, of an `or` and of an `and` that stands for a form, by the text inside
abbrev pub sum_as : ExprForm → List ℕ → List ℕ
sum_as expr_form.Expr inside = inside
sum_as _ inside = codes "(" ++ (inside ++ codes ")")

abbrev pub product_as : ExprForm → List ℕ → List ℕ
product_as expr_form.Factor inside = codes "(" ++ (inside ++ codes ")")
product_as _ inside = inside

abbrev pub or_as : TestForm → List ℕ → List ℕ
or_as test_form.Test inside = inside
or_as _ inside = codes "[" ++ (inside ++ codes "]")

abbrev pub and_as : TestForm → List ℕ → List ℕ
and_as test_form.One inside = codes "[" ++ (inside ++ codes "]")
and_as _ inside = inside
