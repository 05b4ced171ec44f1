-- Statements and blocks as trees of numbers, from which they can be read back.
-- So different blocks have different codes.
use Rattle.std.specs.Prelude.{◌≡◌, ℕ, zero, suc, refl}
use Rattle.std.proofs.Common.{sym, ◌∙◌, ap}
use base.Stored.{Gv, gnil, gnum, gcons, Coded}
use Rattle.toy_imp.specs.NameCode.{number, name_code, name_read, name_read-code}
use Rattle.toy_imp.specs.ExprCode.{expr_code_of, expr_read, expr_back, exprs_code_of, exprs_read, exprs_back}
use Rattle.toy_imp.specs.TestCode.{test_code_of, test_read, test_back}
use Rattle.toy_imp.specs.Block.{Stmt, skip, put, assert_that, if_then, while_do, for_to, let_in, par_stmt, Block, empty, stmt}

abbrev mutual
  pub stmt_code_of : Stmt → Gv
  stmt_code_of skip = gcons (gnum 0) gnil
  stmt_code_of (put x is e) = gcons (gnum 1) (gcons (name_code x) (gcons (exprs_code_of is) (expr_code_of e)))
  stmt_code_of (if_then t b c) = gcons (gnum 2) (gcons (test_code_of t) (gcons (block_code_of b) (block_code_of c)))
  stmt_code_of (while_do t b) = gcons (gnum 3) (gcons (test_code_of t) (block_code_of b))
  stmt_code_of (for_to x lo hi b) = gcons (gnum 4) (gcons (name_code x) (gcons (expr_code_of lo) (gcons (expr_code_of hi) (block_code_of b))))
  stmt_code_of (let_in x e b) = gcons (gnum 5) (gcons (name_code x) (gcons (expr_code_of e) (block_code_of b)))
  stmt_code_of (assert_that t) = gcons (gnum 6) (test_code_of t)
  stmt_code_of (par_stmt k) = gcons (gnum 7) (gnum k)

  pub block_code_of : Block → Gv
  block_code_of empty = gnil
  block_code_of (stmt s b) = gcons (stmt_code_of s) (block_code_of b)

-- what a code can be read as, at each of its nodes
pub data Read : Type 0 where
  leaf : Gv → Read
  node : Gv → Stmt → Block → Read → Read → Read

abbrev raw : Read → Gv
raw (leaf g) = g
raw (node g s b l r) = g

abbrev as_stmt : Read → Stmt
as_stmt (leaf g) = skip
as_stmt (node g s b l r) = s

abbrev as_block : Read → Block
as_block (leaf g) = empty
as_block (node g s b l r) = b

abbrev first : Read → Read
first (leaf g) = leaf g
first (node g s b l r) = l

abbrev second : Read → Read
second (leaf g) = leaf g
second (node g s b l r) = r

abbrev stmt_by : ℕ → Read → Stmt
stmt_by zero r = skip
stmt_by (suc zero) r = put (name_read (raw (first r))) (exprs_read (raw (first (second r)))) (expr_read (raw (second (second r))))
stmt_by (suc (suc zero)) r = if_then (test_read (raw (first r))) (as_block (first (second r))) (as_block (second (second r)))
stmt_by (suc (suc (suc zero))) r = while_do (test_read (raw (first r))) (as_block (second r))
stmt_by (suc (suc (suc (suc zero)))) r = for_to (name_read (raw (first r))) (expr_read (raw (first (second r)))) (expr_read (raw (first (second (second r))))) (as_block (second (second (second r))))
stmt_by (suc (suc (suc (suc (suc zero))))) r = let_in (name_read (raw (first r))) (expr_read (raw (first (second r)))) (as_block (second (second r)))
stmt_by (suc (suc (suc (suc (suc (suc zero)))))) r = assert_that (test_read (raw r))
stmt_by (suc (suc (suc (suc (suc (suc (suc n))))))) r = par_stmt (number (raw r))

abbrev read : Gv → Read
read gnil = leaf gnil
read (gnum n) = leaf (gnum n)
read (gcons a b) = node (gcons a b) (stmt_by (number a) (read b)) (stmt (as_stmt (read a)) (as_block (read b))) (read a) (read b)

-- the raw code stands at the top of what it is read as
raw-read : (g : Gv) → raw (read g) ≡ g
raw-read gnil = refl
raw-read (gnum n) = refl
raw-read (gcons a b) = refl

mutual
  pub stmt_back : (s : Stmt) → as_stmt (read (stmt_code_of s)) ≡ s
  stmt_back skip = refl
  stmt_back (put x is e) = λ i. put ((ap name_read (raw-read (name_code x)) ∙ name_read-code x) i) ((ap exprs_read (raw-read (exprs_code_of is)) ∙ exprs_back is) i) ((ap expr_read (raw-read (expr_code_of e)) ∙ expr_back e) i)
  stmt_back (if_then t b c) = λ i. if_then ((ap test_read (raw-read (test_code_of t)) ∙ test_back t) i) (block_back b i) (block_back c i)
  stmt_back (while_do t b) = λ i. while_do ((ap test_read (raw-read (test_code_of t)) ∙ test_back t) i) (block_back b i)
  stmt_back (for_to x lo hi b) = λ i. for_to ((ap name_read (raw-read (name_code x)) ∙ name_read-code x) i) ((ap expr_read (raw-read (expr_code_of lo)) ∙ expr_back lo) i) ((ap expr_read (raw-read (expr_code_of hi)) ∙ expr_back hi) i) (block_back b i)
  stmt_back (let_in x e b) = λ i. let_in ((ap name_read (raw-read (name_code x)) ∙ name_read-code x) i) ((ap expr_read (raw-read (expr_code_of e)) ∙ expr_back e) i) (block_back b i)
  stmt_back (assert_that t) = λ i. assert_that ((ap test_read (raw-read (test_code_of t)) ∙ test_back t) i)
  stmt_back (par_stmt k) = refl

  pub block_back : (b : Block) → as_block (read (block_code_of b)) ≡ b
  block_back empty = refl
  block_back (stmt s b) = λ i. stmt (stmt_back s i) (block_back b i)

pub stmt_inj : (x y : Stmt) → stmt_code_of x ≡ stmt_code_of y → x ≡ y
stmt_inj x y p = sym (stmt_back x) ∙ ap (λ g. as_stmt (read g)) p ∙ stmt_back y

pub block_inj : (x y : Block) → block_code_of x ≡ block_code_of y → x ≡ y
block_inj x y p = sym (block_back x) ∙ ap (λ g. as_block (read g)) p ∙ block_back y

abbrev pub stmt_code : Coded Stmt
stmt_code = record { code = stmt_code_of; inj = stmt_inj }

abbrev pub block_code : Coded Block
block_code = record { code = block_code_of; inj = block_inj }
