-- Worked rows: which names a text reads and writes, and whether an `assert` stands in it.
-- The block `a[i] := x + 1; for k = 0 to n { let y = k { assert y < z; } }`, in which each kind of place stands.
use Rattle.std.specs.Prelude.{◌≡◌, ℕ, pos, true, false, [], ◌∷◌, refl}
use Rattle.toy_imp.specs.declared.name.Name.{Name}
use Rattle.toy_imp.specs.declared.name.Name.TheVariants.{Own}
use Rattle.toy_imp.specs.Expr.{num, at, add, no_exprs, expr}
use Rattle.toy_imp.specs.Test.{less}
use Rattle.toy_imp.specs.Block.{Block, empty, stmt, put, assert_that, for_to, let_in, while_do, skip}
use Rattle.side_conditions.specs.Places.{block_asserts}
use Rattle.side_conditions.specs.Seeking.{reads_name, writes_name}

-- a name of one letter
abbrev letter : ℕ → Name
letter c = Own (c ∷ [])

abbrev example : Block
example =
    stmt (put (letter 97) (expr (at (letter 105) no_exprs) no_exprs) (add (at (letter 120) no_exprs) (num (pos 1))))
    (stmt (for_to (letter 107) (num (pos 0)) (at (letter 110) no_exprs)
    (stmt (let_in (letter 121) (at (letter 107) no_exprs)
    (stmt (assert_that (less (at (letter 121) no_exprs) (at (letter 122) no_exprs))) empty)) empty)) empty)

-- a, k and y are written, by a write with an index, a `for` and a `let`
writes_a : writes_name example (97 ∷ []) ≡ true
writes_a = refl

writes_k : writes_name example (107 ∷ []) ≡ true
writes_k = refl

writes_y : writes_name example (121 ∷ []) ≡ true
writes_y = refl

-- i, x, n and z are not; they are read, in an index, an expression, a bound and an `assert`
keeps_i : writes_name example (105 ∷ []) ≡ false
keeps_i = refl

reads_i : reads_name example (105 ∷ []) ≡ true
reads_i = refl

reads_x : reads_name example (120 ∷ []) ≡ true
reads_x = refl

reads_n : reads_name example (110 ∷ []) ≡ true
reads_n = refl

reads_z : reads_name example (122 ∷ []) ≡ true
reads_z = refl

-- a is written and never read
reads_no_a : reads_name example (97 ∷ []) ≡ false
reads_no_a = refl

-- an `assert` inside of a loop counts
asserts_inside : block_asserts example ≡ true
asserts_inside = refl

asserts_nowhere : block_asserts (stmt (while_do (less (num (pos 0)) (num (pos 1))) (stmt skip empty)) empty) ≡ false
asserts_nowhere = refl
