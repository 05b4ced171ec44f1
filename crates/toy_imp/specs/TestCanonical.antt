-- The canonical tree of a test: the derivation of its canonical text, in which a declared parameter stands by its name.
-- Brackets stand exactly round `or` under `and` or `not`, `and` under `not`, and a right operand of the same operator.
use Rattle.std.specs.Prelude.{List}
use Rattle.toy_imp.specs.declared.param.Param.{Param}
use Rattle.toy_imp.specs.Test.{Test, less, less_eq, equal, not_of, and_of, or_of, par_test}
use Rattle.toy_imp.specs.TestGrammar.{TestTree, both, either, BothTree, one, also, OneTree, negated, bracketed, named_test, below, at_most, same}
use Rattle.toy_imp.specs.ExprCanonical.{declared_name, canonical_expr}

-- a test as an operand of `or`, on its right, or of `and`, on its left: `or` gets brackets
abbrev pub as_both : TestTree → BothTree
as_both (both a) = a
as_both (either a b) = one (bracketed (either a b))

-- a test as a right operand of `and` or under `not`: `and` gets brackets too
abbrev pub as_one : TestTree → OneTree
as_one (both (one a)) = a
as_one (both (also a b)) = bracketed (both (also a b))
as_one (either a b) = bracketed (either a b)

abbrev pub canonical_test : List Param → Test → TestTree
canonical_test ps (less a b) = both (one (below (canonical_expr ps a) (canonical_expr ps b)))
canonical_test ps (less_eq a b) = both (one (at_most (canonical_expr ps a) (canonical_expr ps b)))
canonical_test ps (equal a b) = both (one (same (canonical_expr ps a) (canonical_expr ps b)))
canonical_test ps (not_of t) = both (one (negated (as_one (canonical_test ps t))))
canonical_test ps (and_of t u) = both (also (as_both (canonical_test ps t)) (as_one (canonical_test ps u)))
canonical_test ps (or_of t u) = either (canonical_test ps t) (as_both (canonical_test ps u))
canonical_test ps (par_test k) = both (one (named_test (declared_name ps k)))
