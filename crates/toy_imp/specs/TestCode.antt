-- A test as a tree of numbers, from which it can be read back.
-- So different tests have different codes.
use Rattle.std.specs.Prelude.{◌≡◌, ℕ, zero, suc, refl}
use Rattle.std.proofs.Common.{sym, ◌∙◌, ap}
use base.Stored.{Gv, gnil, gnum, gcons, Coded}
use Rattle.toy_imp.specs.NameCode.{head, tail, number}
use Rattle.toy_imp.specs.ExprCode.{expr_code_of, expr_read, expr_back}
use Rattle.toy_imp.specs.Test.{Test, less, less_eq, equal, not_of, and_of, or_of, par_test}

abbrev pub test_code_of : Test → Gv
test_code_of (less a b) = gcons (gnum 0) (gcons (expr_code_of a) (expr_code_of b))
test_code_of (less_eq a b) = gcons (gnum 1) (gcons (expr_code_of a) (expr_code_of b))
test_code_of (equal a b) = gcons (gnum 2) (gcons (expr_code_of a) (expr_code_of b))
test_code_of (not_of t) = gcons (gnum 3) (gcons (test_code_of t) gnil)
test_code_of (and_of t u) = gcons (gnum 4) (gcons (test_code_of t) (test_code_of u))
test_code_of (or_of t u) = gcons (gnum 5) (gcons (test_code_of t) (test_code_of u))
test_code_of (par_test k) = gcons (gnum 6) (gnum k)

-- what a code can be read as, at each of its nodes
pub data Read : Type 0 where
  leaf : Gv → Read
  node : Gv → Test → Read → Read → Read

abbrev raw : Read → Gv
raw (leaf g) = g
raw (node g t a b) = g

abbrev as_test : Read → Test
as_test (leaf g) = par_test 0
as_test (node g t a b) = t

abbrev first : Read → Read
first (leaf g) = leaf g
first (node g t a b) = a

abbrev second : Read → Read
second (leaf g) = leaf g
second (node g t a b) = b

abbrev test_by : ℕ → Read → Test
test_by zero r = less (expr_read (head (raw r))) (expr_read (tail (raw r)))
test_by (suc zero) r = less_eq (expr_read (head (raw r))) (expr_read (tail (raw r)))
test_by (suc (suc zero)) r = equal (expr_read (head (raw r))) (expr_read (tail (raw r)))
test_by (suc (suc (suc zero))) r = not_of (as_test (first r))
test_by (suc (suc (suc (suc zero)))) r = and_of (as_test (first r)) (as_test (second r))
test_by (suc (suc (suc (suc (suc zero))))) r = or_of (as_test (first r)) (as_test (second r))
test_by (suc (suc (suc (suc (suc (suc n)))))) r = par_test (number (raw r))

abbrev read : Gv → Read
read gnil = leaf gnil
read (gnum n) = leaf (gnum n)
read (gcons a b) = node (gcons a b) (test_by (number a) (read b)) (read a) (read b)

abbrev pub test_read : Gv → Test
test_read g = as_test (read g)

pub test_back : (t : Test) → test_read (test_code_of t) ≡ t
test_back (less a b) = λ i. less (expr_back a i) (expr_back b i)
test_back (less_eq a b) = λ i. less_eq (expr_back a i) (expr_back b i)
test_back (equal a b) = λ i. equal (expr_back a i) (expr_back b i)
test_back (not_of t) = λ i. not_of (test_back t i)
test_back (and_of t u) = λ i. and_of (test_back t i) (test_back u i)
test_back (or_of t u) = λ i. or_of (test_back t i) (test_back u i)
test_back (par_test k) = refl

pub test_inj : (x y : Test) → test_code_of x ≡ test_code_of y → x ≡ y
test_inj x y p = sym (test_back x) ∙ ap test_read p ∙ test_back y

abbrev pub test_code : Coded Test
test_code = record { code = test_code_of; inj = test_inj }
