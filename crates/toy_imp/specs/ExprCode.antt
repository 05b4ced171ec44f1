-- An expression as a tree of numbers, from which it can be read back.
-- So different expressions have different codes.
use Rattle.std.specs.Prelude.{◌≡◌, ℕ, zero, suc, refl}
use Rattle.std.proofs.Common.{sym, ◌∙◌, ap}
use base.Stored.{Gv, gnil, gnum, gcons, Coded}
use Rattle.toy_imp.specs.NameCode.{number, int_code, int_read, int_read-code, name_code, name_read, name_read-code}
use Rattle.toy_imp.specs.Expr.{Expr, num, at, add, sub, mul, par_expr, Exprs, no_exprs, expr}

abbrev mutual
  pub expr_code_of : Expr → Gv
  expr_code_of (num z) = gcons (gnum 0) (int_code z)
  expr_code_of (at x es) = gcons (gnum 1) (gcons (name_code x) (exprs_code_of es))
  expr_code_of (add a b) = gcons (gnum 2) (gcons (expr_code_of a) (expr_code_of b))
  expr_code_of (sub a b) = gcons (gnum 3) (gcons (expr_code_of a) (expr_code_of b))
  expr_code_of (mul a b) = gcons (gnum 4) (gcons (expr_code_of a) (expr_code_of b))
  expr_code_of (par_expr k) = gcons (gnum 5) (gnum k)

  pub exprs_code_of : Exprs → Gv
  exprs_code_of no_exprs = gnil
  exprs_code_of (expr e es) = gcons (expr_code_of e) (exprs_code_of es)

-- what a code can be read as, at each of its nodes
pub data Read : Type 0 where
  leaf : Gv → Read
  node : Gv → Expr → Exprs → Read → Read → Read

abbrev raw : Read → Gv
raw (leaf g) = g
raw (node g e es a b) = g

abbrev as_expr : Read → Expr
as_expr (leaf g) = par_expr 0
as_expr (node g e es a b) = e

abbrev as_exprs : Read → Exprs
as_exprs (leaf g) = no_exprs
as_exprs (node g e es a b) = es

abbrev first : Read → Read
first (leaf g) = leaf g
first (node g e es a b) = a

abbrev second : Read → Read
second (leaf g) = leaf g
second (node g e es a b) = b

abbrev expr_by : ℕ → Read → Expr
expr_by zero r = num (int_read (raw r))
expr_by (suc zero) r = at (name_read (raw (first r))) (as_exprs (second r))
expr_by (suc (suc zero)) r = add (as_expr (first r)) (as_expr (second r))
expr_by (suc (suc (suc zero))) r = sub (as_expr (first r)) (as_expr (second r))
expr_by (suc (suc (suc (suc zero)))) r = mul (as_expr (first r)) (as_expr (second r))
expr_by (suc (suc (suc (suc (suc n))))) r = par_expr (number (raw r))

abbrev read : Gv → Read
read gnil = leaf gnil
read (gnum n) = leaf (gnum n)
read (gcons a b) = node (gcons a b) (expr_by (number a) (read b)) (expr (as_expr (read a)) (as_exprs (read b))) (read a) (read b)

-- the raw code stands at the top of what it is read as
raw-read : (g : Gv) → raw (read g) ≡ g
raw-read gnil = refl
raw-read (gnum n) = refl
raw-read (gcons a b) = refl

mutual
  expr_read-code : (e : Expr) → as_expr (read (expr_code_of e)) ≡ e
  expr_read-code (num z) = λ i. num ((ap int_read (raw-read (int_code z)) ∙ int_read-code z) i)
  expr_read-code (at x es) = λ i. at ((ap name_read (raw-read (name_code x)) ∙ name_read-code x) i) (exprs_read-code es i)
  expr_read-code (add a b) = λ i. add (expr_read-code a i) (expr_read-code b i)
  expr_read-code (sub a b) = λ i. sub (expr_read-code a i) (expr_read-code b i)
  expr_read-code (mul a b) = λ i. mul (expr_read-code a i) (expr_read-code b i)
  expr_read-code (par_expr k) = refl

  exprs_read-code : (es : Exprs) → as_exprs (read (exprs_code_of es)) ≡ es
  exprs_read-code no_exprs = refl
  exprs_read-code (expr e es) = λ i. expr (expr_read-code e i) (exprs_read-code es i)

abbrev pub expr_read : Gv → Expr
expr_read g = as_expr (read g)

abbrev pub exprs_read : Gv → Exprs
exprs_read g = as_exprs (read g)

pub expr_back : (e : Expr) → expr_read (expr_code_of e) ≡ e
expr_back e = expr_read-code e

pub exprs_back : (es : Exprs) → exprs_read (exprs_code_of es) ≡ es
exprs_back es = exprs_read-code es

pub expr_inj : (x y : Expr) → expr_code_of x ≡ expr_code_of y → x ≡ y
expr_inj x y p = sym (expr_back x) ∙ ap expr_read p ∙ expr_back y

abbrev pub expr_code : Coded Expr
expr_code = record { code = expr_code_of; inj = expr_inj }
