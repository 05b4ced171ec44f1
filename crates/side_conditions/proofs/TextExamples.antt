-- Worked rows: side conditions that hold by text and that do not, for each line of the table of conditions but `swaps`.
-- The block writes `a[i]`, counts `k` and sets `y`, and reads `i`, `x`, `n`, `k`, `y` and, in an `assert`, `z`.
use Rattle.std.specs.Prelude.{◌≡◌, ℕ, pos, negsuc, true, false, [], ◌∷◌, Some, None, refl}
use Rattle.toy_imp.specs.declared.name.Name.{Name}
use Rattle.toy_imp.specs.declared.name.Name.TheVariants.{Own}
use Rattle.toy_imp.specs.declared.instance.Filling.{Filling}
use Rattle.toy_imp.specs.declared.instance.Filling.TheVariants as filling
use Rattle.toy_imp.specs.Expr.{Expr, num, at, add, sub, mul, no_exprs, expr}
use Rattle.toy_imp.specs.Test.{less}
use Rattle.toy_imp.specs.Block.{Block, empty, stmt, put, assert_that, for_to, let_in, while_do, skip}
use Rattle.side_conditions.specs.Offsets.{offset_of}
use Rattle.side_conditions.specs.ByText.{keeps_by_text, ignores_by_text, commutes_by_text, positive_by_text, constant_by_text, distinct_by_text, quiet_by_text}

-- a name of one letter, and the variable of it
abbrev letter : ℕ → Name
letter c = Own (c ∷ [])

abbrev variable_of : ℕ → Expr
variable_of c = at (letter c) no_exprs

-- `a[i] := x + 1; for k = 0 to n { let y = k { assert y < z; } }`
abbrev example : Filling
example = filling.Stmt
    (stmt (put (letter 97) (expr (variable_of 105) no_exprs) (add (variable_of 120) (num (pos 1))))
    (stmt (for_to (letter 107) (num (pos 0)) (variable_of 110)
    (stmt (let_in (letter 121) (variable_of 107)
    (stmt (assert_that (less (variable_of 121) (variable_of 122))) empty)) empty)) empty))

-- an assignment of 1 to a variable, and of one variable to another
abbrev sets : ℕ → Filling
sets c = filling.Stmt (stmt (put (letter c) no_exprs (num (pos 1))) empty)

abbrev moves : ℕ → ℕ → Filling
moves c d = filling.Stmt (stmt (put (letter c) no_exprs (variable_of d)) empty)

-- ---- keeps: a write of an array cell, a counter and a `let` count; what is read alone is kept
keeps_x : keeps_by_text example (filling.Expr (variable_of 120)) ≡ true
keeps_x = refl

changes_a : keeps_by_text example (filling.Expr (variable_of 97)) ≡ false
changes_a = refl

changes_name_a : keeps_by_text example (filling.Name (letter 97)) ≡ false
changes_name_a = refl

changes_counter : keeps_by_text example (filling.Name (letter 107)) ≡ false
changes_counter = refl

changes_let : keeps_by_text example (filling.Test (less (variable_of 121) (num (pos 0)))) ≡ false
changes_let = refl

-- `b[k]` is read through its index
changes_index : keeps_by_text example (filling.Expr (at (letter 98) (expr (variable_of 107) no_exprs))) ≡ false
changes_index = refl

keeps_no_expression : keeps_by_text (filling.Expr (num (pos 1))) (filling.Name (letter 120)) ≡ false
keeps_no_expression = refl

-- ---- ignores: a name that is read, in an index too, is not ignored, nor is one that is written
ignores_w : ignores_by_text example (filling.Name (letter 119)) ≡ true
ignores_w = refl

uses_index : ignores_by_text example (filling.Name (letter 105)) ≡ false
uses_index = refl

uses_asserted : ignores_by_text example (filling.Name (letter 122)) ≡ false
uses_asserted = refl

uses_written : ignores_by_text example (filling.Name (letter 97)) ≡ false
uses_written = refl

expression_uses_index : ignores_by_text (filling.Expr (at (letter 98) (expr (variable_of 107) no_exprs))) (filling.Name (letter 107)) ≡ false
expression_uses_index = refl

test_ignores : ignores_by_text (filling.Test (less (variable_of 121) (num (pos 0)))) (filling.Name (letter 107)) ≡ true
test_ignores = refl

-- ---- commutes: `x := 1` and `y := 1`; not with `y := x`, in neither order, nor where an `assert` stands
commutes : commutes_by_text (sets 120) (sets 121) ≡ true
commutes = refl

write_is_read : commutes_by_text (sets 120) (moves 121 120) ≡ false
write_is_read = refl

read_is_written : commutes_by_text (moves 121 120) (sets 120) ≡ false
read_is_written = refl

written_twice : commutes_by_text (sets 120) (sets 120) ≡ false
written_twice = refl

may_halt : commutes_by_text (sets 119) example ≡ false
may_halt = refl

-- ---- positive: 1, and `1 + 1 * 1`; not 0, not `x`, not a difference
one : positive_by_text (filling.Expr (num (pos 1))) ≡ true
one = refl

sum_and_product : positive_by_text (filling.Expr (add (num (pos 1)) (mul (num (pos 1)) (num (pos 2))))) ≡ true
sum_and_product = refl

zero_is_not : positive_by_text (filling.Expr (num (pos 0))) ≡ false
zero_is_not = refl

variable_is_not : positive_by_text (filling.Expr (add (num (pos 1)) (variable_of 120))) ≡ false
variable_is_not = refl

difference_is_not : positive_by_text (filling.Expr (sub (num (pos 2)) (num (pos 1)))) ≡ false
difference_is_not = refl

-- ---- constant: no name; `x - x` is the same in every store and holds one
constant : constant_by_text (filling.Expr (sub (num (pos 2)) (num (pos 5)))) ≡ true
constant = refl

named_is_not : constant_by_text (filling.Expr (sub (variable_of 120) (variable_of 120))) ≡ false
named_is_not = refl

-- ---- distinct
different : distinct_by_text (filling.Name (letter 120)) (filling.Name (letter 121)) ≡ true
different = refl

equal_names : distinct_by_text (filling.Name (letter 120)) (filling.Name (letter 120)) ≡ false
equal_names = refl

-- ---- quiet: no `assert` at any depth
quiet : quiet_by_text (sets 120) ≡ true
quiet = refl

asserts_deep_inside : quiet_by_text example ≡ false
asserts_deep_inside = refl

-- ---- how far an index is from the variable k: `k`, `k + 2`, `2 + k`, `k - 2`; not `2 - k`, `k + j`, `k * 1`, `j`
index_itself : offset_of (107 ∷ []) (variable_of 107) ≡ Some (pos 0)
index_itself = refl

index_and_constant : offset_of (107 ∷ []) (add (variable_of 107) (num (pos 2))) ≡ Some (pos 2)
index_and_constant = refl

constant_and_index : offset_of (107 ∷ []) (add (num (pos 2)) (variable_of 107)) ≡ Some (pos 2)
constant_and_index = refl

index_less_constant : offset_of (107 ∷ []) (sub (variable_of 107) (num (pos 2))) ≡ Some (negsuc 1)
index_less_constant = refl

constant_less_index : offset_of (107 ∷ []) (sub (num (pos 2)) (variable_of 107)) ≡ None
constant_less_index = refl

index_and_variable : offset_of (107 ∷ []) (add (variable_of 107) (variable_of 106)) ≡ None
index_and_variable = refl

index_times : offset_of (107 ∷ []) (mul (variable_of 107) (num (pos 1))) ≡ None
index_times = refl

another_index : offset_of (107 ∷ []) (variable_of 106) ≡ None
another_index = refl
