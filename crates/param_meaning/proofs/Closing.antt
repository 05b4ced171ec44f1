-- What is filled holds no parameter, where what stands for each parameter that occurs holds none.
-- That is so where the fillings hold none and none is missing, as in an instance that fits a rule.
use Rattle.std.specs.Prelude.{◌≡◌, ℕ, zero, suc, Bool, true, ◌&&◌, List, [], ◌∷◌, Option, Some, slice_get, refl}
use Rattle.std.specs.List.{list_all}
use Rattle.std.proofs.Common.{sym, ◌∙◌, ap, inl, inr}
use Rattle.std.proofs.lemmas.Bool.{and_from, and_parts}
use Rattle.toy_imp.specs.declared.name.Name.{Name}
use Rattle.toy_imp.specs.declared.name.Name.TheVariants.{Own, Par}
use Rattle.toy_imp.specs.declared.param.Kind.{Kind}
use Rattle.toy_imp.specs.declared.param.Kind.TheVariants as kind
use Rattle.toy_imp.specs.declared.param.Param.{Param}
use Rattle.toy_imp.specs.declared.rule.Rule.{Rule}
use Rattle.toy_imp.specs.declared.instance.Filling.{Filling}
use Rattle.toy_imp.specs.declared.instance.Filling.TheVariants as filling
use Rattle.toy_imp.specs.declared.instance.Instance.{Instance}
use Rattle.toy_imp.specs.Expr.{Expr, num, at, add, sub, mul, par_expr, Exprs, no_exprs, expr}
use Rattle.toy_imp.specs.Test.{Test, less, less_eq, equal, not_of, and_of, or_of, par_test}
use Rattle.toy_imp.specs.Block.{Stmt, skip, put, assert_that, if_then, while_do, for_to, let_in, par_stmt, Block, empty, stmt, append}
use Rattle.toy_imp.specs.Fill.{name_by, expr_by, test_by, block_by, block_at, fill_name, fill_expr, fill_exprs, fill_test, fill_stmt, fill}
use Rattle.toy_imp.specs.Fits.{fits_kind, fits_params, fits}
use Rattle.toy_imp.specs.Program.{is_own, is_closed, are_closed, is_closed_test, is_closed_stmt, is_program}
use Rattle.param_meaning.specs.Covers.{is_filling_of, is_filled, covers_expr, covers_test, covers, is_kind, is_param_of, is_declared, declares, is_closed_filling, is_closed_instance}
use Rattle.param_meaning.specs.FillLaws.{IsCovered}
use Rattle.param_meaning.specs.Occurs.{OccursInName, OccursInExpr, OccursInExprs, OccursInTest, OccursInStmt, Occurs}
use Rattle.param_meaning.proofs.Occurring.{expr_occurring, test_occurring, occurring, each}

-- whether what stands for a parameter, by the filling at its number, holds none
abbrev closed_by : Kind → ℕ → Option Filling → Bool
closed_by kind.Name k o = is_own (name_by k o)
closed_by kind.Expr k o = is_closed (expr_by k o)
closed_by kind.Test k o = is_closed_test (test_by k o)
closed_by kind.Stmt k o = is_program (block_by k o)

abbrev closed_at : Instance → Kind → ℕ → Bool
closed_at i c k = closed_by c k (slice_get i.fillings k)

-- ---- by the structure of the tree
append_program : (b d : Block) → is_program b ≡ true → is_program d ≡ true → is_program (append b d) ≡ true
append_program empty d h g = g
append_program (stmt s b) d h g =
    let parts : (is_closed_stmt s ≡ true) × (is_program b ≡ true) = and_parts (is_closed_stmt s) (is_program b) h in
    and_from (is_closed_stmt s) (is_program (append b d)) parts.0 (append_program b d parts.1 g)

name_closed : (i : Instance) (x : Name) → ((c : Kind) (k : ℕ) → OccursInName c k x → closed_at i c k ≡ true) → is_own (fill_name i x) ≡ true
unfolding fill_name
name_closed i (Own bytes) h = refl
name_closed i (Par k) h = h kind.Name k (refl, refl)

mutual
  unfolding fill_expr fill_exprs

  expr_closed : (i : Instance) (e : Expr) → ((c : Kind) (k : ℕ) → OccursInExpr c k e → closed_at i c k ≡ true) → is_closed (fill_expr i e) ≡ true
  expr_closed i (num z) h = refl
  expr_closed i (at x es) h = and_from (is_own (fill_name i x)) (are_closed (fill_exprs i es)) (name_closed i x (λ c k o. h c k (inl o))) (exprs_closed i es (λ c k o. h c k (inr o)))
  expr_closed i (add a b) h = and_from (is_closed (fill_expr i a)) (is_closed (fill_expr i b)) (expr_closed i a (λ c k o. h c k (inl o))) (expr_closed i b (λ c k o. h c k (inr o)))
  expr_closed i (sub a b) h = and_from (is_closed (fill_expr i a)) (is_closed (fill_expr i b)) (expr_closed i a (λ c k o. h c k (inl o))) (expr_closed i b (λ c k o. h c k (inr o)))
  expr_closed i (mul a b) h = and_from (is_closed (fill_expr i a)) (is_closed (fill_expr i b)) (expr_closed i a (λ c k o. h c k (inl o))) (expr_closed i b (λ c k o. h c k (inr o)))
  expr_closed i (par_expr k) h = h kind.Expr k (refl, refl)

  exprs_closed : (i : Instance) (es : Exprs) → ((c : Kind) (k : ℕ) → OccursInExprs c k es → closed_at i c k ≡ true) → are_closed (fill_exprs i es) ≡ true
  exprs_closed i no_exprs h = refl
  exprs_closed i (expr e es) h = and_from (is_closed (fill_expr i e)) (are_closed (fill_exprs i es)) (expr_closed i e (λ c k o. h c k (inl o))) (exprs_closed i es (λ c k o. h c k (inr o)))

test_closed : (i : Instance) (t : Test) → ((c : Kind) (k : ℕ) → OccursInTest c k t → closed_at i c k ≡ true) → is_closed_test (fill_test i t) ≡ true
unfolding fill_test
test_closed i (less a b) h = and_from (is_closed (fill_expr i a)) (is_closed (fill_expr i b)) (expr_closed i a (λ c k o. h c k (inl o))) (expr_closed i b (λ c k o. h c k (inr o)))
test_closed i (less_eq a b) h = and_from (is_closed (fill_expr i a)) (is_closed (fill_expr i b)) (expr_closed i a (λ c k o. h c k (inl o))) (expr_closed i b (λ c k o. h c k (inr o)))
test_closed i (equal a b) h = and_from (is_closed (fill_expr i a)) (is_closed (fill_expr i b)) (expr_closed i a (λ c k o. h c k (inl o))) (expr_closed i b (λ c k o. h c k (inr o)))
test_closed i (not_of t) h = test_closed i t h
test_closed i (and_of t u) h = and_from (is_closed_test (fill_test i t)) (is_closed_test (fill_test i u)) (test_closed i t (λ c k o. h c k (inl o))) (test_closed i u (λ c k o. h c k (inr o)))
test_closed i (or_of t u) h = and_from (is_closed_test (fill_test i t)) (is_closed_test (fill_test i u)) (test_closed i t (λ c k o. h c k (inl o))) (test_closed i u (λ c k o. h c k (inr o)))
test_closed i (par_test k) h = h kind.Test k (refl, refl)

mutual
  unfolding fill_stmt fill

  stmt_closed : (i : Instance) (s : Stmt) (rest : Block) → ((c : Kind) (k : ℕ) → OccursInStmt c k s → closed_at i c k ≡ true) → is_program rest ≡ true → is_program (fill_stmt i s rest) ≡ true
  stmt_closed i skip rest h r = r
  stmt_closed i (put x es e) rest h r = and_from (is_own (fill_name i x) && (are_closed (fill_exprs i es) && is_closed (fill_expr i e))) (is_program rest)
      (and_from (is_own (fill_name i x)) (are_closed (fill_exprs i es) && is_closed (fill_expr i e)) (name_closed i x (λ c k o. h c k (inl o)))
      (and_from (are_closed (fill_exprs i es)) (is_closed (fill_expr i e)) (exprs_closed i es (λ c k o. h c k (inr (inl o)))) (expr_closed i e (λ c k o. h c k (inr (inr o)))))) r
  stmt_closed i (assert_that t) rest h r = and_from (is_closed_test (fill_test i t)) (is_program rest) (test_closed i t h) r
  stmt_closed i (if_then t b d) rest h r = and_from (is_closed_test (fill_test i t) && (is_program (fill i b) && is_program (fill i d))) (is_program rest)
      (and_from (is_closed_test (fill_test i t)) (is_program (fill i b) && is_program (fill i d)) (test_closed i t (λ c k o. h c k (inl o)))
      (and_from (is_program (fill i b)) (is_program (fill i d)) (block_closed i b (λ c k o. h c k (inr (inl o)))) (block_closed i d (λ c k o. h c k (inr (inr o)))))) r
  stmt_closed i (while_do t b) rest h r = and_from (is_closed_test (fill_test i t) && is_program (fill i b)) (is_program rest)
      (and_from (is_closed_test (fill_test i t)) (is_program (fill i b)) (test_closed i t (λ c k o. h c k (inl o))) (block_closed i b (λ c k o. h c k (inr o)))) r
  stmt_closed i (for_to x lo hi b) rest h r = and_from (is_own (fill_name i x) && (is_closed (fill_expr i lo) && (is_closed (fill_expr i hi) && is_program (fill i b)))) (is_program rest)
      (and_from (is_own (fill_name i x)) (is_closed (fill_expr i lo) && (is_closed (fill_expr i hi) && is_program (fill i b))) (name_closed i x (λ c k o. h c k (inl o)))
      (and_from (is_closed (fill_expr i lo)) (is_closed (fill_expr i hi) && is_program (fill i b)) (expr_closed i lo (λ c k o. h c k (inr (inl o))))
      (and_from (is_closed (fill_expr i hi)) (is_program (fill i b)) (expr_closed i hi (λ c k o. h c k (inr (inr (inl o))))) (block_closed i b (λ c k o. h c k (inr (inr (inr o)))))))) r
  stmt_closed i (let_in x e b) rest h r = and_from (is_own (fill_name i x) && (is_closed (fill_expr i e) && is_program (fill i b))) (is_program rest)
      (and_from (is_own (fill_name i x)) (is_closed (fill_expr i e) && is_program (fill i b)) (name_closed i x (λ c k o. h c k (inl o)))
      (and_from (is_closed (fill_expr i e)) (is_program (fill i b)) (expr_closed i e (λ c k o. h c k (inr (inl o)))) (block_closed i b (λ c k o. h c k (inr (inr o)))))) r
  stmt_closed i (par_stmt k) rest h r = append_program (block_at i k) rest (h kind.Stmt k (refl, refl)) r

  block_closed : (i : Instance) (b : Block) → ((c : Kind) (k : ℕ) → Occurs c k b → closed_at i c k ≡ true) → is_program (fill i b) ≡ true
  block_closed i empty h = refl
  block_closed i (stmt s b) h = stmt_closed i s (fill i b) (λ c k o. h c k (inl o)) (block_closed i b (λ c k o. h c k (inr o)))

-- ---- where the fillings hold none and none is missing
closed_filling : (c : Kind) (k : ℕ) (o : Option Filling) → is_filling_of c o ≡ true → ((f : Filling) → o ≡ Some f → is_closed_filling f ≡ true) → closed_by c k o ≡ true
closed_filling kind.Name k (Some (filling.Name x)) e h = h (filling.Name x) refl
closed_filling kind.Expr k (Some (filling.Expr x)) e h = h (filling.Expr x) refl
closed_filling kind.Test k (Some (filling.Test x)) e h = h (filling.Test x) refl
closed_filling kind.Stmt k (Some (filling.Stmt x)) e h = h (filling.Stmt x) refl
closed_filling _ k _ e h = cc

listed_closed : (fs : List Filling) (k : ℕ) (f : Filling) → list_all is_closed_filling fs ≡ true → slice_get fs k ≡ Some f → is_closed_filling f ≡ true
listed_closed [] k f h found = cc
listed_closed (g ∷ fs) zero f h found =
    let same : g ≡ f = cc in
    ap is_closed_filling (sym same) ∙ (and_parts (is_closed_filling g) (list_all is_closed_filling fs) h).0
listed_closed (g ∷ fs) (suc k) f h found = listed_closed fs k f (and_parts (is_closed_filling g) (list_all is_closed_filling fs) h).1 found

pub filled_closed : (i : Instance) (c : Kind) (k : ℕ) → is_filled i c k ≡ true → is_closed_instance i ≡ true → closed_at i c k ≡ true
filled_closed i c k e h = closed_filling c k (slice_get i.fillings k) e (λ f. listed_closed i.fillings k f h)

pub filled_expr_is_closed : (i : Instance) (e : Expr) → covers_expr i e ≡ true → is_closed_instance i ≡ true → is_closed (fill_expr i e) ≡ true
filled_expr_is_closed i e covered closed = expr_closed i e (λ c k o. filled_closed i c k (expr_occurring (is_filled i) e covered c k o) closed)

pub filled_test_is_closed : (i : Instance) (t : Test) → covers_test i t ≡ true → is_closed_instance i ≡ true → is_closed_test (fill_test i t) ≡ true
filled_test_is_closed i t covered closed = test_closed i t (λ c k o. filled_closed i c k (test_occurring (is_filled i) t covered c k o) closed)

pub filled_is_program : (i : Instance) (b : Block) → covers i b ≡ true → is_closed_instance i ≡ true → is_program (fill i b) ≡ true
filled_is_program i b covered closed = block_closed i b (λ c k o. filled_closed i c k (occurring (is_filled i) b covered c k o) closed)

-- ---- in an instance that fits a rule
fitting_is_closed : (c : Kind) (f : Filling) → fits_kind c f ≡ true → is_closed_filling f ≡ true
fitting_is_closed kind.Name (filling.Name x) h = h
fitting_is_closed kind.Expr (filling.Expr x) h = h
fitting_is_closed kind.Test (filling.Test x) h = h
fitting_is_closed kind.Stmt (filling.Stmt x) h = h
fitting_is_closed _ _ h = cc

fitting_is_filling : (c d : Kind) (f : Filling) → is_kind c d ≡ true → fits_kind d f ≡ true → is_filling_of c (Some f) ≡ true
fitting_is_filling kind.Name kind.Name (filling.Name x) e h = refl
fitting_is_filling kind.Expr kind.Expr (filling.Expr x) e h = refl
fitting_is_filling kind.Test kind.Test (filling.Test x) e h = refl
fitting_is_filling kind.Stmt kind.Stmt (filling.Stmt x) e h = refl
fitting_is_filling _ _ _ e h = cc

all_closed : (ps : List Param) (fs : List Filling) → fits_params ps fs ≡ true → list_all is_closed_filling fs ≡ true
all_closed [] [] h = refl
all_closed [] (f ∷ fs) h = cc
all_closed (p ∷ ps) [] h = cc
all_closed (p ∷ ps) (f ∷ fs) h =
    let parts : (fits_kind p.kind f ≡ true) × (fits_params ps fs ≡ true) = and_parts (fits_kind p.kind f) (fits_params ps fs) h in
    and_from (is_closed_filling f) (list_all is_closed_filling fs) (fitting_is_closed p.kind f parts.0) (all_closed ps fs parts.1)

declared_is_filled : (ps : List Param) (fs : List Filling) (c : Kind) (k : ℕ) → fits_params ps fs ≡ true → is_param_of c (slice_get ps k) ≡ true → is_filling_of c (slice_get fs k) ≡ true
declared_is_filled [] fs c k h e = cc
declared_is_filled (p ∷ ps) [] c k h e = cc
declared_is_filled (p ∷ ps) (f ∷ fs) c zero h e = fitting_is_filling c p.kind f e (and_parts (fits_kind p.kind f) (fits_params ps fs) h).0
declared_is_filled (p ∷ ps) (f ∷ fs) c (suc k) h e = declared_is_filled ps fs c k (and_parts (fits_kind p.kind f) (fits_params ps fs) h).1 e

pub fitting_covers : (i : Instance) (rule : Rule) (b : Block) → fits i rule ≡ true → declares rule.params b ≡ true → IsCovered i b
fitting_covers i rule b fitting declared = record {
  covered = each (is_filled i) b (λ c k o. declared_is_filled rule.params i.fillings c k fitting (occurring (is_declared rule.params) b declared c k o));
  closed = all_closed rule.params i.fillings fitting;
}

pub fitting_fills_program : (i : Instance) (rule : Rule) (b : Block) → fits i rule ≡ true → declares rule.params b ≡ true → is_program (fill i b) ≡ true
fitting_fills_program i rule b fitting declared =
    let way : IsCovered i b = fitting_covers i rule b fitting declared in
    filled_is_program i b way.covered way.closed
