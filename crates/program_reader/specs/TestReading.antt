-- How a test is read from the front of tokens, level by level of the grammar. `inner` reads what is under a `not`; inside
-- brackets stands a test of such.
use Rattle.std.specs.Prelude.{ℕ, zero, suc, Bool, true, false, List, ◌∷◌, length, None, Some, if◌then◌else◌}
use Rattle.toy_imp.specs.declared.param.Param.{Param}
use Rattle.toy_imp.specs.Expr.{Expr}
use Rattle.toy_imp.specs.Test.{Test, less, less_eq, equal, not_of, and_of, or_of}
use Rattle.toy_imp.specs.Parameters.{test_value}
use Rattle.pec_text.specs.declared.token.Sign.TheVariants as s
use Rattle.pec_text.specs.declared.token.Token.{Token}
use Rattle.pec_text.specs.declared.token.Token.TheVariants as t
use Rattle.pec_text.specs.declared.token.Word.TheVariants as w
use Rattle.program_reader.specs.Read.{Read, and_then}
use Rattle.program_reader.specs.ExprReading.{expr_read}

module _ (inner : ℕ → List Token → Read Test) where
  -- the tests that follow a conjunction, at most n of them; each takes one operator
  unfoldable pub ands_read : ℕ → Test → ℕ → List Token → Read Test
  ands_read (suc n) left (suc k) (t.Word w.And ∷ rest) = and_then (inner k rest) (λ q k rest. ands_read n (and_of left q) k rest)
  ands_read (suc n) left zero (t.Word w.And ∷ rest) = None
  ands_read n left k rest = Some (left, k, rest)

  unfoldable pub both_read : ℕ → List Token → Read Test
  both_read k tokens = and_then (inner k tokens) (λ q k rest. ands_read (length tokens) q k rest)

  -- the conjunctions that follow a disjunction, at most n of them
  unfoldable pub ors_read : ℕ → Test → ℕ → List Token → Read Test
  ors_read (suc n) left (suc k) (t.Word w.Or ∷ rest) = and_then (both_read k rest) (λ q k rest. ors_read n (or_of left q) k rest)
  ors_read (suc n) left zero (t.Word w.Or ∷ rest) = None
  ors_read n left k rest = Some (left, k, rest)

  unfoldable pub either_read : ℕ → List Token → Read Test
  either_read k tokens = and_then (both_read k tokens) (λ q k rest. ors_read (length tokens) q k rest)

-- whether what follows a name goes on with an expression or a comparison
abbrev pub goes_on : List Token → Bool
goes_on (t.Sign s.OpenBracket ∷ rest) = true
goes_on (t.Sign s.Star ∷ rest) = true
goes_on (t.Sign s.Plus ∷ rest) = true
goes_on (t.Sign s.Minus ∷ rest) = true
goes_on (t.Sign s.Less ∷ rest) = true
goes_on (t.Sign s.LessEq ∷ rest) = true
goes_on (t.Sign s.DoubleEquals ∷ rest) = true
goes_on _ = false

-- what follows the left side of a comparison
abbrev pub behind_left : (ℕ → List Token → Read Expr) → Expr → ℕ → List Token → Read Test
behind_left side a k (t.Sign s.Less ∷ rest) = and_then (side k rest) (λ b k rest. Some (less a b, k, rest))
behind_left side a k (t.Sign s.LessEq ∷ rest) = and_then (side k rest) (λ b k rest. Some (less_eq a b, k, rest))
behind_left side a k (t.Sign s.DoubleEquals ∷ rest) = and_then (side k rest) (λ b k rest. Some (equal a b, k, rest))
behind_left side a k _ = None

unfoldable pub comparison_read : (ℕ → List Token → Read Expr) → ℕ → List Token → Read Test
comparison_read side k tokens = and_then (side k tokens) (behind_left side)

-- what follows a test in brackets
abbrev pub bracket_closed : Test → ℕ → List Token → Read Test
bracket_closed q k (t.Sign s.CloseBracket ∷ rest) = Some (q, k, rest)
bracket_closed q k _ = None

-- one test: `not`, brackets, a name alone or a comparison, whose sides `side` reads
unfoldable pub one_by : List Param → (ℕ → List Token → Read Expr) → (ℕ → List Token → Read Test) → ℕ → List Token → Read Test
one_by ps side inner k (t.Word w.Not ∷ rest) = and_then (inner k rest) (λ q k rest. Some (not_of q, k, rest))
one_by ps side inner k (t.Sign s.OpenBracket ∷ rest) = and_then (either_read inner k rest) bracket_closed
one_by ps side inner k (t.Name x ∷ rest) = if goes_on rest then comparison_read side k (t.Name x ∷ rest) else Some (test_value ps x, k, rest)
one_by ps side inner k tokens = comparison_read side k tokens

-- one test with fewer than d levels and at most k operators
unfoldable pub one_read : List Param → ℕ → ℕ → List Token → Read Test
one_read ps zero k tokens = None
one_read ps (suc d) k tokens = one_by ps (expr_read ps (suc d)) (λ k rest. one_read ps d k rest) k tokens

-- a test with fewer than d levels and at most k operators
unfoldable pub test_read : List Param → ℕ → ℕ → List Token → Read Test
test_read ps d k tokens = either_read (one_read ps d) k tokens
