-- Side conditions by text, one line of the table of conditions after the other: what is asked of the fillings' texts alone.
-- A condition whose fillings are of other kinds than its line has does not hold. `swaps` is not here.
use Rattle.std.specs.Prelude.{ℕ, pos, Bool, true, false, not, ◌&&◌, ◌||◌, List, bytes_eq, int_le}
use Rattle.toy_imp.specs.declared.instance.Filling.{Filling}
use Rattle.toy_imp.specs.declared.instance.Filling.TheVariants as filling
use Rattle.toy_imp.specs.Cell.{spelled}
use Rattle.toy_imp.specs.Expr.{Expr, num, at, add, sub, mul, par_expr}
use Rattle.toy_imp.specs.Block.{Block}
use Rattle.side_conditions.specs.Places.{expr_has, test_has, block_writes, block_asserts}
use Rattle.side_conditions.specs.Seeking.{named, reads_name, writes_name}

-- whether a name stands in a filling; in a statement where it is read or written
abbrev pub occurs : Filling → List ℕ → Bool
occurs (filling.Name x) z = bytes_eq (spelled x) z
occurs (filling.Expr e) z = expr_has (named z) e
occurs (filling.Test q) z = test_has (named z) q
occurs (filling.Stmt b) z = reads_name b z || writes_name b z

-- whether a block writes some name that stands in a filling
abbrev pub writes_into : Block → Filling → Bool
writes_into b f = block_writes (λ x is. occurs f (spelled x)) b

-- `keeps S E`, `keeps S B`, `keeps S X`: S writes no name of E or B, and not X
abbrev pub keeps_by_text : Filling → Filling → Bool
keeps_by_text (filling.Stmt b) (filling.Expr e) = not (writes_into b (filling.Expr e))
keeps_by_text (filling.Stmt b) (filling.Test q) = not (writes_into b (filling.Test q))
keeps_by_text (filling.Stmt b) (filling.Name x) = not (writes_into b (filling.Name x))
keeps_by_text _ _ = false

-- `ignores E X`, `ignores B X`, `ignores S X`: X does not stand in E or B, and S neither reads nor writes it
abbrev pub ignores_by_text : Filling → Filling → Bool
ignores_by_text (filling.Expr e) (filling.Name x) = not (occurs (filling.Expr e) (spelled x))
ignores_by_text (filling.Test q) (filling.Name x) = not (occurs (filling.Test q) (spelled x))
ignores_by_text (filling.Stmt b) (filling.Name x) = not (occurs (filling.Stmt b) (spelled x))
ignores_by_text _ _ = false

-- two blocks of which neither writes what the other reads or writes
abbrev pub are_apart : Block → Block → Bool
are_apart b c = not (writes_into b (filling.Stmt c)) && not (writes_into c (filling.Stmt b))

-- `commutes S T`: S and T are apart, and no `assert` stands in either
abbrev pub commutes_by_text : Filling → Filling → Bool
commutes_by_text (filling.Stmt b) (filling.Stmt c) = not (block_asserts b) && (not (block_asserts c) && are_apart b c)
commutes_by_text _ _ = false

-- a constant of at least 1, or a sum or a product of such
abbrev pub has_positive_form : Expr → Bool
has_positive_form (num z) = int_le (pos 1) z
has_positive_form (at x is) = false
has_positive_form (add a b) = has_positive_form a && has_positive_form b
has_positive_form (sub a b) = false
has_positive_form (mul a b) = has_positive_form a && has_positive_form b
has_positive_form (par_expr k) = false

abbrev pub positive_by_text : Filling → Bool
positive_by_text (filling.Expr e) = has_positive_form e
positive_by_text _ = false

-- `constant E`: no name stands in E
abbrev pub constant_by_text : Filling → Bool
constant_by_text (filling.Expr e) = not (expr_has (λ x is. true) e)
constant_by_text _ = false

-- `distinct X Y`: names of different bytes
abbrev pub distinct_by_text : Filling → Filling → Bool
distinct_by_text (filling.Name x) (filling.Name y) = not (bytes_eq (spelled x) (spelled y))
distinct_by_text _ _ = false

-- `quiet S`: no `assert` stands in S
abbrev pub quiet_by_text : Filling → Bool
quiet_by_text (filling.Stmt b) = not (block_asserts b)
quiet_by_text _ = false
