-- What a written name stands for among the declared parameters of a rule. A program declares none.
-- Of two parameters with one name the first gets it; a name that none has is a name of its own.
use Rattle.std.specs.Prelude.{ℕ, suc, List, [], ◌∷◌, bytes_eq, length, nat_lt, Option, None, Some, if◌then◌else◌}
use Rattle.toy_imp.specs.declared.name.Name.{Name}
use Rattle.toy_imp.specs.declared.name.Name.TheVariants.{Own, Par}
use Rattle.toy_imp.specs.declared.param.Kind.{Kind}
use Rattle.toy_imp.specs.declared.param.Kind.TheVariants as kind
use Rattle.toy_imp.specs.declared.param.Param.{Param}
use Rattle.toy_imp.specs.Expr.{Expr, at, par_expr, Exprs, no_exprs}
use Rattle.toy_imp.specs.Test.{Test, par_test}
use Rattle.toy_imp.specs.Block.{Stmt, par_stmt}

-- the number of the first parameter of this name, and how many there are where none has it
abbrev pub number_of : List Param → List ℕ → ℕ
number_of [] x = 0
number_of (p ∷ ps) x = if bytes_eq p.name x then 0 else suc (number_of ps x)

-- the kind of the first parameter of this name
abbrev pub kind_of : List Param → List ℕ → Option Kind
kind_of [] x = None
kind_of (p ∷ ps) x = if bytes_eq p.name x then Some p.kind else kind_of ps x

-- a declared name is its parameter, whatever its kind
abbrev pub name_value : List Param → List ℕ → Name
name_value ps x = if nat_lt (number_of ps x) (length ps) then Par (number_of ps x) else Own x

-- a declared name of kind `expr` without indices is the expression parameter, every other place a cell
abbrev pub cell_by : Option Kind → List Param → List ℕ → Exprs → Expr
cell_by (Some kind.Expr) ps x no_exprs = par_expr (number_of ps x)
cell_by _ ps x indices = at (name_value ps x) indices

abbrev pub cell_value : List Param → List ℕ → Exprs → Expr
cell_value ps x indices = cell_by (kind_of ps x) ps x indices

-- a name alone, as a test and as a statement, is a parameter; where it is not declared it has the number that follows all
abbrev pub test_value : List Param → List ℕ → Test
test_value ps x = par_test (number_of ps x)

abbrev pub stmt_value : List Param → List ℕ → Stmt
stmt_value ps x = par_stmt (number_of ps x)
