-- Worked canonical texts, written down by hand: where parentheses and brackets stand, negative numbers, empty blocks, `else`,
-- indentation, and whole programs.
use Rattle.std.proofs.Common.{◌≡◌, ℕ, ◌+◌, ◌<◌, List, [], ◌∷◌, ◌++◌, codes, decimal, pos, negsuc, refl, ap, arith}
use Rattle.std.proofs.lemmas.Fmt.{decimal_digit}
use Rattle.toy_imp.specs.declared.name.Name.{Name}
use Rattle.toy_imp.specs.declared.name.Name.TheVariants.{Own, Par}
use Rattle.toy_imp.specs.declared.param.Kind.TheVariants as kind
use Rattle.toy_imp.specs.declared.param.Param.{Param}
use Rattle.toy_imp.specs.Expr.{Expr, num, at, add, sub, mul, par_expr, no_exprs, expr}
use Rattle.toy_imp.specs.Test.{Test, less, less_eq, equal, not_of, and_of, or_of}
use Rattle.toy_imp.specs.Block.{Block, empty, stmt, skip, put, assert_that, if_then, while_do, for_to, let_in}
use Rattle.toy_imp.specs.ExprCanonical.{canonical_expr}
use Rattle.toy_imp.specs.TestCanonical.{canonical_test}
use Rattle.toy_imp.specs.BlockCanonical.{canonical_block}
use Rattle.rule_printer.specs.CanonicalText.{expr_bytes, test_bytes, stmts_bytes}
use Rattle.rule_printer.specs.ProgramText.{program_text}

abbrev name : List ℕ → Name
name x = Own x

abbrev x : Expr
x = at (name (codes "x")) no_exprs

abbrev y : Expr
y = at (name (codes "y")) no_exprs

abbrev z : Expr
z = at (name (codes "z")) no_exprs

abbrev text : Expr → List ℕ
text e = expr_bytes (canonical_expr [] e)

-- ---- parentheses: round a right operand of `+` or `-` that is a sum or difference
left_sum : text (sub (add x y) z) ≡ codes "x + y - z"
left_sum = refl

right_sum : text (sub x (add y z)) ≡ codes "x - (y + z)"
right_sum = refl

right_difference : text (add x (sub y z)) ≡ codes "x + (y - z)"
right_difference = refl

right_product : text (add x (mul y z)) ≡ codes "x + y * z"
right_product = refl

-- round an operand of `*` that is a sum or difference
sum_times : text (mul (add x y) z) ≡ codes "(x + y) * z"
sum_times = refl

times_difference : text (mul x (sub y z)) ≡ codes "x * (y - z)"
times_difference = refl

-- and round a right operand of `*` that is a product
left_times : text (mul (mul x y) z) ≡ codes "x * y * z"
left_times = refl

right_times : text (mul x (mul y z)) ≡ codes "x * (y * z)"
right_times = refl

deep : text (sub (mul (sub x y) (mul y (add y z))) (sub x y)) ≡ codes "(x - y) * (y * (y + z)) - (x - y)"
deep = refl

-- ---- places
no_index : text (at (name (codes "a_1")) no_exprs) ≡ codes "a_1"
no_index = refl

one_index : text (at (name (codes "a")) (expr (add x y) no_exprs)) ≡ codes "a[x + y]"
one_index = refl

two_indices : text (at (name (codes "a")) (expr x (expr y no_exprs))) ≡ codes "a[x, y]"
two_indices = refl

three_indices : text (at (name (codes "a")) (expr x (expr (mul x y) (expr z no_exprs)))) ≡ codes "a[x, x * y, z]"
three_indices = refl

-- ---- brackets
abbrev p : Test
p = less x y

abbrev q : Test
q = less_eq y z

abbrev r : Test
r = equal x z

abbrev test_text : Test → List ℕ
test_text t = test_bytes (canonical_test [] t)

comparisons : test_text (and_of (and_of p q) r) ≡ codes "x < y and y <= z and x == z"
comparisons = refl

right_and : test_text (and_of p (and_of q r)) ≡ codes "x < y and [y <= z and x == z]"
right_and = refl

right_or : test_text (or_of p (or_of q r)) ≡ codes "x < y or [y <= z or x == z]"
right_or = refl

left_or : test_text (or_of (or_of p q) r) ≡ codes "x < y or y <= z or x == z"
left_or = refl

or_under_and : test_text (and_of (or_of p q) (or_of q r)) ≡ codes "[x < y or y <= z] and [y <= z or x == z]"
or_under_and = refl

and_under_or : test_text (or_of (and_of p q) (and_of q r)) ≡ codes "x < y and y <= z or y <= z and x == z"
and_under_or = refl

or_under_not : test_text (not_of (or_of p q)) ≡ codes "not [x < y or y <= z]"
or_under_not = refl

and_under_not : test_text (not_of (and_of p q)) ≡ codes "not [x < y and y <= z]"
and_under_not = refl

not_under_not : test_text (not_of (not_of p)) ≡ codes "not not x < y"
not_under_not = refl

not_under_and : test_text (and_of (not_of p) (not_of q)) ≡ codes "not x < y and not y <= z"
not_under_and = refl

-- ---- statements
abbrev lines : Block → List ℕ
lines b = stmts_bytes 0 (canonical_block [] b)

abbrev set : List ℕ → Expr → Block
set w e = stmt (put (name w) no_exprs e) empty

nothing : lines empty ≡ codes ""
nothing = refl

empty_blocks : lines (stmt (if_then p empty empty) (stmt (while_do q empty) empty)) ≡ codes "if x < y { } else { }\nwhile y <= z { }\n"
empty_blocks = refl

assertion : lines (stmt (assert_that (and_of (or_of p q) r)) empty) ≡ codes "assert [x < y or y <= z] and x == z;\n"
assertion = refl

both_branches : lines (stmt (if_then p (set (codes "x") y) (set (codes "y") x)) empty) ≡ codes "if x < y {\n  x := y;\n} else {\n  y := x;\n}\n"
both_branches = refl

one_branch : lines (stmt (if_then p empty (stmt skip empty)) empty) ≡ codes "if x < y { } else {\n  skip;\n}\n"
one_branch = refl

nested : lines (stmt (for_to (name (codes "i")) x y (stmt (let_in (name (codes "j")) z (stmt (put (name (codes "a")) (expr x no_exprs) y) (stmt skip empty))) empty)) empty)
    ≡ codes "for i = x to y {\n  let j = z {\n    a[x] := y;\n    skip;\n  }\n}\n"
nested = refl

-- ---- names of declared parameters
abbrev K : Param
K = record { kind = kind.Name; name = codes "K" }

abbrev E : Param
E = record { kind = kind.Expr; name = codes "E" }

parameters : stmts_bytes 1 (canonical_block (K ∷ E ∷ []) (stmt (put (Par 0) (expr (par_expr 1) no_exprs) (at (Par 0) no_exprs)) empty)) ≡ codes "  K[E] := K;\n"
parameters = refl

-- ---- whole programs
program : program_text (codes "swap") (stmt (if_then p (set (codes "x") y) empty) empty) ≡ codes "program swap\nif x < y {\n  x := y;\n} else { }\nend\n"
program = refl

no_statements : program_text (codes "empty") empty ≡ codes "program empty\nend\n"
no_statements = refl

-- ---- numbers
digit : (n : ℕ) → n < 10 → decimal n ≡ (48 + n) ∷ []
digit n low = decimal_digit n low

numeral : text (num (pos 7)) ≡ codes "7"
numeral = digit 7 (omega arith)

negative : text (num (negsuc 4)) ≡ codes "-5"
negative = ap (λ d. codes "-" ++ d) (digit 5 (omega arith))

minus_negative : text (sub x (num (negsuc 4))) ≡ codes "x - -5"
minus_negative = ap (λ d. codes "x - -" ++ d) (digit 5 (omega arith))

times_negative : text (mul (num (negsuc 0)) x) ≡ codes "-1 * x"
times_negative = ap (λ d. codes "-" ++ (d ++ codes " * x")) (digit 1 (omega arith))
