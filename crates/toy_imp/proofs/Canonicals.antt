-- Facts of canonical trees that the counts of levels and operators stand on.
-- Parentheses and brackets change no number of operators, and the name of a place changes no number at all.
use Rattle.std.proofs.Common.{◌≡◌, ℕ, List, [], refl}
use Rattle.toy_imp.specs.Expr.{Exprs, no_exprs, expr}
use Rattle.toy_imp.specs.ExprGrammar.{ExprTree, term, plus, minus, factor, times, expr_operators, term_operators, factor_operators, place_levels, place_operators, index_operators}
use Rattle.toy_imp.specs.TestGrammar.{TestTree, both, either, one, also, test_operators, both_operators, one_operators}
use Rattle.toy_imp.specs.ExprCanonical.{as_term, as_factor, canonical_place}
use Rattle.toy_imp.specs.TestCanonical.{as_both, as_one}

pub place_levels-name : (x : List ℕ) (es : Exprs) → place_levels (canonical_place [] x es) ≡ place_levels (canonical_place [] [] es)
place_levels-name x no_exprs = refl
place_levels-name x (expr a no_exprs) = refl
place_levels-name x (expr a (expr b no_exprs)) = refl
place_levels-name x (expr a (expr b (expr c more))) = refl

pub place_operators-name : (x : List ℕ) (es : Exprs) → place_operators (canonical_place [] x es) ≡ place_operators (canonical_place [] [] es)
place_operators-name x no_exprs = refl
place_operators-name x (expr a no_exprs) = refl
place_operators-name x (expr a (expr b no_exprs)) = refl
place_operators-name x (expr a (expr b (expr c more))) = refl

pub index_operators-name : (x : List ℕ) (es : Exprs) → index_operators (canonical_place [] x es) ≡ index_operators (canonical_place [] [] es)
index_operators-name x no_exprs = refl
index_operators-name x (expr a no_exprs) = refl
index_operators-name x (expr a (expr b no_exprs)) = refl
index_operators-name x (expr a (expr b (expr c more))) = refl

pub as_term-operators : (a : ExprTree) → term_operators (as_term a) ≡ expr_operators a
as_term-operators (term a) = refl
as_term-operators (plus a b) = refl
as_term-operators (minus a b) = refl

pub as_factor-operators : (a : ExprTree) → factor_operators (as_factor a) ≡ expr_operators a
as_factor-operators (term (factor a)) = refl
as_factor-operators (term (times a b)) = refl
as_factor-operators (plus a b) = refl
as_factor-operators (minus a b) = refl

pub as_both-operators : (a : TestTree) → both_operators (as_both a) ≡ test_operators a
as_both-operators (both a) = refl
as_both-operators (either a b) = refl

pub as_one-operators : (a : TestTree) → one_operators (as_one a) ≡ test_operators a
as_one-operators (both (one a)) = refl
as_one-operators (both (also a b)) = refl
as_one-operators (either a b) = refl

pub ruleset names_change_nothing = (place_levels-name, place_operators-name, index_operators-name)

pub ruleset wrapping_keeps_operators = (as_term-operators, as_factor-operators, as_both-operators, as_one-operators)
