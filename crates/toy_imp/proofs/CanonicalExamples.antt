-- Worked examples of canonical trees, of what is spellable, and of nestings.
-- Each text was written down by hand; x is a name, X and E are parameters of kinds `name` and `expr`.
use Rattle.std.proofs.Common.{◌≡◌, ℕ, zero, suc, ◌-◌, ◌^◌, List, [], ◌∷◌, pos, negsuc, true, false, refl}
use Rattle.toy_imp.specs.declared.name.Name.TheVariants.{Own, Par}
use Rattle.toy_imp.specs.declared.param.Kind.TheVariants as kind
use Rattle.toy_imp.specs.declared.param.Param.{Param}
use Rattle.toy_imp.specs.Expr.{Expr, num, at, add, sub, mul, par_expr, no_exprs, expr}
use Rattle.toy_imp.specs.Test.{Test, less, not_of, and_of, or_of}
use Rattle.toy_imp.specs.Block.{Block, empty, stmt, skip, put, assert_that, if_then, while_do, for_to, let_in}
use Rattle.toy_imp.specs.ExprGrammar.{term, plus, minus, TermTree, factor, times, numeral, negative, cell, group, variable, index_1}
use Rattle.toy_imp.specs.TestGrammar.{OneTree, both, either, one, also, negated, bracketed, below}
use Rattle.toy_imp.specs.BlockGrammar.{written, no_stmts, stmts, stmts_nesting}
use Rattle.toy_imp.specs.ExprCanonical.{canonical_expr}
use Rattle.toy_imp.specs.TestCanonical.{canonical_test}
use Rattle.toy_imp.specs.BlockCanonical.{canonical_block}
use Rattle.toy_imp.specs.Spellable.{is_spellable, is_spellable_block}

abbrev letter : ℕ → List ℕ
letter byte = byte ∷ []

abbrev X : Param
X = record { kind = kind.Name; name = letter 88 }

abbrev E : Param
E = record { kind = kind.Expr; name = letter 69 }

abbrev x : Expr
x = at (Own (letter 120)) no_exprs

abbrev n : ℕ → Expr
n k = num (pos k)

-- the terms `k` and `x`
abbrev numeral_term : ℕ → TermTree
numeral_term k = factor (numeral k)

abbrev x_term : TermTree
x_term = factor (cell (variable (letter 120)))

-- ---- canonical trees

-- `1 + 2 - 3` and `1 - (2 - 3)`
left_operand : canonical_expr [] (sub (add (n 1) (n 2)) (n 3)) ≡ minus (plus (term (numeral_term 1)) (numeral_term 2)) (numeral_term 3)
left_operand = refl

right_operand : canonical_expr [] (sub (n 1) (sub (n 2) (n 3))) ≡ minus (term (numeral_term 1)) (factor (group (minus (term (numeral_term 2)) (numeral_term 3))))
right_operand = refl

-- `2 * 3 + x * -5`
products : canonical_expr [] (add (mul (n 2) (n 3)) (mul x (num (negsuc 4)))) ≡ plus (term (times (numeral_term 2) (numeral 3))) (times x_term (negative 4))
products = refl

-- `2 * 3 * x` and `2 * (3 * x)`
left_factor : canonical_expr [] (mul (mul (n 2) (n 3)) x) ≡ term (times (times (numeral_term 2) (numeral 3)) (cell (variable (letter 120))))
left_factor = refl

right_factor : canonical_expr [] (mul (n 2) (mul (n 3) x)) ≡ term (times (numeral_term 2) (group (term (times (numeral_term 3) (cell (variable (letter 120)))))))
right_factor = refl

-- `(1 + x) * (1 - x)`
factors : canonical_expr [] (mul (add (n 1) x) (sub (n 1) x)) ≡ term (times (factor (group (plus (term (numeral_term 1)) x_term))) (group (minus (term (numeral_term 1)) x_term)))
factors = refl

-- `x[E] := E;` and `X := 1;`, where X and E are declared
parameters : canonical_block (X ∷ E ∷ []) (stmt (put (Own (letter 120)) (expr (par_expr 1) no_exprs) (par_expr 1)) (stmt (put (Par 0) no_exprs (n 1)) empty))
    ≡ stmts (written (index_1 (letter 120) (term (factor (cell (variable (letter 69)))))) (term (factor (cell (variable (letter 69))))))
    (stmts (written (variable (letter 88)) (term (numeral_term 1))) no_stmts)
parameters = refl

-- `x < 1`
abbrev t : Test
t = less x (n 1)

abbrev t_one : OneTree
t_one = below (term x_term) (term (numeral_term 1))

-- `x < 1 and x < 1 or not x < 1` and `x < 1 and [x < 1 or not x < 1]`
or_of_and : canonical_test [] (or_of (and_of t t) (not_of t)) ≡ either (both (also (one t_one) t_one)) (one (negated t_one))
or_of_and = refl

and_of_or : canonical_test [] (and_of t (or_of t (not_of t))) ≡ both (also (one t_one) (bracketed (either (both (one t_one)) (one (negated t_one)))))
and_of_or = refl

-- `not [x < 1 and x < 1]` and `not not x < 1`
not_of_and : canonical_test [] (not_of (and_of t t)) ≡ both (one (negated (bracketed (both (also (one t_one) t_one)))))
not_of_and = refl

not_of_not : canonical_test [] (not_of (not_of t)) ≡ both (one (negated (negated t_one)))
not_of_not = refl

-- `x < 1 or [x < 1 or x < 1]`
right_or : canonical_test [] (or_of t (or_of t t)) ≡ either (both (one t_one)) (one (bracketed (either (both (one t_one)) (one t_one))))
right_or = refl

-- ---- nestings
abbrev nesting : Block → ℕ
nesting b = stmts_nesting (canonical_block [] b)

-- `x := e;` and `x[i] := e;`
abbrev set : Expr → Block
set e = stmt (put (Own (letter 120)) no_exprs e) empty

abbrev set_at : Expr → Expr → Block
set_at i e = stmt (put (Own (letter 120)) (expr i no_exprs) e) empty

-- `x[i]`
abbrev item : Expr → Expr
item i = at (Own (letter 120)) (expr i no_exprs)

-- `1 + 1 + .. + 1` of so many operators
abbrev sum_of : ℕ → Expr
sum_of zero = n 1
sum_of (suc k) = add (sum_of k) (n 1)

empty_program : nesting empty ≡ 0
empty_program = refl

-- `x := 1;`, `x := 1 + 1;` and `x := (1 + 1) * (1 + (1 + 1));`
plain_write : nesting (set (n 1)) ≡ 0
plain_write = refl

one_operator : nesting (set (sum_of 1)) ≡ 1
one_operator = refl

two_parentheses : nesting (set (mul (sum_of 1) (add (n 1) (sum_of 1)))) ≡ 2
two_parentheses = refl

-- sixty-four operators are one level, sixty-five two, those of an index among them
sixty_four : nesting (set (sum_of 64)) ≡ 1
sixty_four = refl

sixty_five : nesting (set (sum_of 65)) ≡ 2
sixty_five = refl

read_index : nesting (set (add (item (sum_of 40)) (sum_of 24))) ≡ 2
read_index = refl

-- the index of a place that is written is an expression of its own
written_index : nesting (set_at (sum_of 64) (sum_of 64)) ≡ 1
written_index = refl

-- `x[x[1]] := 1;`
two_brackets : nesting (set_at (item (n 1)) (n 1)) ≡ 2
two_brackets = refl

-- `while x < 1 { }` and `while not [x < 1 or x < 1] { }`
empty_block : nesting (stmt (while_do t empty) empty) ≡ 1
empty_block = refl

not_and_bracket : nesting (stmt (while_do (not_of (or_of t t)) empty) empty) ≡ 2
not_and_bracket = refl

-- `assert x < 1;` and `assert not x < 1;`
plain_assert : nesting (stmt (assert_that t) empty) ≡ 0
plain_assert = refl

not_in_assert : nesting (stmt (assert_that (not_of t)) empty) ≡ 1
not_in_assert = refl

-- `for x = 0 to 9 { let x = 1 { if x < 1 { skip; } else { } } }`
three_blocks : nesting (stmt (for_to (Own (letter 120)) (n 0) (n 9) (stmt (let_in (Own (letter 120)) (n 1) (stmt (if_then t (stmt skip empty) empty) empty)) empty)) empty) ≡ 3
three_blocks = refl

-- ---- what is spellable
both_parameters : is_spellable_block (X ∷ E ∷ []) (stmt (put (Par 0) (expr (par_expr 1) no_exprs) (par_expr 1)) empty) ≡ true
both_parameters = refl

-- an own name that is declared, and an expression parameter in place of a cell's name
own_name_taken : is_spellable (X ∷ E ∷ []) (at (Own (letter 88)) no_exprs) ≡ false
own_name_taken = refl

cell_of_expr : is_spellable (X ∷ E ∷ []) (at (Par 1) no_exprs) ≡ false
cell_of_expr = refl

-- a parameter whose name an earlier one has
second_of_name : is_spellable (X ∷ X ∷ []) (at (Par 1) no_exprs) ≡ false
second_of_name = refl

greatest : is_spellable [] (num (pos (2 ^ 63 - 1))) ≡ true
greatest = refl

too_small : is_spellable [] (num (negsuc (2 ^ 63 - 1))) ≡ false
too_small = refl

four_indices : is_spellable [] (at (Own (letter 120)) (expr x (expr x (expr x (expr x no_exprs))))) ≡ false
four_indices = refl
