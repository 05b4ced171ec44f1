-- What a tree says is spellable, so its canonical text can be read back.
-- A test or a statement that is a name alone has to be declared; every other name is one of its own where it is not.
use Rattle.std.proofs.Common.{◌≡◌, ℕ, suc, ◌<◌, Bool, true, false, cond, ◌||◌, List, [], ◌∷◌, length, refl, ◌∙◌, ap, arith, Option, None, Some, nat_lt}
use Rattle.std.specs.Str.{bytes_eq}
use Rattle.std.proofs.lemmas.Bool.{lt-ltb, ltb-true, eq-eqb, leb-false, and_from, or_parts, not_from_false}
use Rattle.std.proofs.lemmas.Slice.Eq.{bytes_eq-Decides}
use Rattle.toy_imp.specs.declared.name.Name.TheVariants.{Own, Par}
use Rattle.toy_imp.specs.declared.param.Kind.{Kind}
use Rattle.toy_imp.specs.declared.param.Kind.TheVariants as kind
use Rattle.toy_imp.specs.declared.param.Param.{Param}
use Rattle.toy_imp.specs.Expr.{Expr, at, Exprs, no_exprs, expr}
use Rattle.toy_imp.specs.Uses.{expr_any, test_any, stmt_any, block_any}
use Rattle.toy_imp.specs.Parameters.{number_of, kind_of, name_value, cell_by}
use Rattle.toy_imp.specs.ExprGrammar.{ExprTree, term, plus, minus, TermTree, factor, times, FactorTree, numeral, negative, cell, group, PlaceTree, variable, index_1, index_2, index_3, place_name, expr_value, term_value, factor_value, indices_value}
use Rattle.toy_imp.specs.TestGrammar.{TestTree, both, either, BothTree, one, also, OneTree, negated, bracketed, named_test, below, at_most, same, test_tree_value, both_value, one_value}
use Rattle.toy_imp.specs.BlockGrammar.{StmtTree, skipped, written, asserted, chosen, repeated, counted, bound, named_stmt, StmtsTree, no_stmts, stmts, stmt_tree_value, stmts_value}
use Rattle.toy_imp.specs.ExprCanonical.{declared_name, written_name}
use Rattle.toy_imp.specs.Spellable.{is_first, is_spellable_name, is_expr_kind, names_expr, is_spellable, are_spellable_indices, is_spellable_test, is_spellable_stmt, is_spellable_block, is_missing}

-- ---- declared names
name_here : (p : Param) (ps : List Param) (x : List ℕ) (b : Bool) → bytes_eq p.name x ≡ b
    → (number_of ps x < length ps → declared_name ps (number_of ps x) ≡ x)
    → cond b 0 (suc (number_of ps x)) < suc (length ps) → declared_name (p ∷ ps) (cond b 0 (suc (number_of ps x))) ≡ x
name_here p ps x true e later h = (bytes_eq-Decides p.name x).0 e
name_here p ps x false e later h = later (omega arith)

-- the number of a declared name is that of a parameter which has the name
pub declared_name-number : (ps : List Param) (x : List ℕ) → number_of ps x < length ps → declared_name ps (number_of ps x) ≡ x
declared_name-number [] x h = absurd (omega arith)
declared_name-number (p ∷ ps) x h = name_here p ps x (bytes_eq p.name x) refl (declared_name-number ps x) h

kind_here : (p : Param) (ps : List Param) (x : List ℕ) (b : Bool)
    → (is_expr_kind (kind_of ps x) ≡ true → number_of ps x < length ps)
    → is_expr_kind (cond b (Some p.kind) (kind_of ps x)) ≡ true → cond b 0 (suc (number_of ps x)) < suc (length ps)
kind_here p ps x true later h = omega arith
kind_here p ps x false later h = let below : number_of ps x < length ps = later h in omega arith

-- a name of this kind is declared
pub kind_of-declared : (ps : List Param) (x : List ℕ) → names_expr ps x ≡ true → number_of ps x < length ps
kind_of-declared [] x h = cc
kind_of-declared (p ∷ ps) x h = kind_here p ps x (bytes_eq p.name x) (kind_of-declared ps x) h

pub first-spellable : (ps : List Param) (x : List ℕ) → number_of ps x < length ps → is_first ps (number_of ps x) ≡ true
first-spellable ps x h = and_from _ _ (lt-ltb _ _ h) (eq-eqb _ _ (ap (number_of ps) (declared_name-number ps x h)))

name_back : (ps : List Param) (x : List ℕ) (b : Bool) → nat_lt (number_of ps x) (length ps) ≡ b → written_name ps (cond b (Par (number_of ps x)) (Own x)) ≡ x
name_back ps x true e = declared_name-number ps x (ltb-true _ _ e)
name_back ps x false e = refl

-- a name is written as it was read
pub written_name-value : (ps : List Param) (x : List ℕ) → written_name ps (name_value ps x) ≡ x
written_name-value ps x = name_back ps x (nat_lt (number_of ps x) (length ps)) refl

name_kept : (ps : List Param) (x : List ℕ) (b : Bool) → nat_lt (number_of ps x) (length ps) ≡ b → is_spellable_name ps (cond b (Par (number_of ps x)) (Own x)) ≡ true
name_kept ps x true e = first-spellable ps x (ltb-true _ _ e)
name_kept ps x false e = not_from_false _ e

pub name-spellable : (ps : List Param) (x : List ℕ) → is_spellable_name ps (name_value ps x) ≡ true
name-spellable ps x = name_kept ps x (nat_lt (number_of ps x) (length ps)) refl

-- ---- cells
variable-spellable : (ps : List Param) (x : List ℕ) → names_expr ps x ≡ false → is_spellable ps (at (name_value ps x) no_exprs) ≡ true
variable-spellable ps x h = and_from _ _ (name-spellable ps x) (not_from_false _ (ap (names_expr ps) (written_name-value ps x) ∙ h))

indexed-spellable : (ps : List Param) (x : List ℕ) (e : Expr) (es : Exprs) → are_spellable_indices ps (expr e es) ≡ true → is_spellable ps (at (name_value ps x) (expr e es)) ≡ true
indexed-spellable ps x e es h = and_from _ _ (name-spellable ps x) h

cell-spellable : (o : Option Kind) (ps : List Param) (x : List ℕ) (es : Exprs) → kind_of ps x ≡ o → are_spellable_indices ps es ≡ true → is_spellable ps (cell_by o ps x es) ≡ true
cell-spellable None ps x no_exprs e h = variable-spellable ps x (ap is_expr_kind e)
cell-spellable (Some kind.Name) ps x no_exprs e h = variable-spellable ps x (ap is_expr_kind e)
cell-spellable (Some kind.Expr) ps x no_exprs e h =
    let below : number_of ps x < length ps = kind_of-declared ps x (ap is_expr_kind e) in
    and_from _ _ (first-spellable ps x below) (ap (names_expr ps) (declared_name-number ps x below) ∙ ap is_expr_kind e)
cell-spellable (Some kind.Test) ps x no_exprs e h = variable-spellable ps x (ap is_expr_kind e)
cell-spellable (Some kind.Stmt) ps x no_exprs e h = variable-spellable ps x (ap is_expr_kind e)
cell-spellable None ps x (expr a es) e h = indexed-spellable ps x a es h
cell-spellable (Some kind.Name) ps x (expr a es) e h = indexed-spellable ps x a es h
cell-spellable (Some kind.Expr) ps x (expr a es) e h = indexed-spellable ps x a es h
cell-spellable (Some kind.Test) ps x (expr a es) e h = indexed-spellable ps x a es h
cell-spellable (Some kind.Stmt) ps x (expr a es) e h = indexed-spellable ps x a es h

-- ---- expressions
mutual
  pub expr-spellable : (ps : List Param) (a : ExprTree) → is_spellable ps (expr_value ps a) ≡ true
  expr-spellable ps (term a) = term-spellable ps a
  expr-spellable ps (plus a b) = and_from _ _ (expr-spellable ps a) (term-spellable ps b)
  expr-spellable ps (minus a b) = and_from _ _ (expr-spellable ps a) (term-spellable ps b)

  pub term-spellable : (ps : List Param) (a : TermTree) → is_spellable ps (term_value ps a) ≡ true
  term-spellable ps (factor a) = factor-spellable ps a
  term-spellable ps (times a b) = and_from _ _ (term-spellable ps a) (factor-spellable ps b)

  pub factor-spellable : (ps : List Param) (a : FactorTree) → is_spellable ps (factor_value ps a) ≡ true
  factor-spellable ps (numeral n) = lt-ltb _ _ (omega arith)
  factor-spellable ps (negative n) = and_from _ _ (lt-ltb _ _ (omega arith)) refl
  factor-spellable ps (cell a) = cell-spellable (kind_of ps (place_name a)) ps (place_name a) (indices_value ps a) refl (indices-spellable ps a)
  factor-spellable ps (group a) = expr-spellable ps a

  pub indices-spellable : (ps : List Param) (a : PlaceTree) → are_spellable_indices ps (indices_value ps a) ≡ true
  indices-spellable ps (variable x) = refl
  indices-spellable ps (index_1 x a) = expr-spellable ps a
  indices-spellable ps (index_2 x a b) = and_from _ _ (expr-spellable ps a) (expr-spellable ps b)
  indices-spellable ps (index_3 x a b c) = and_from _ _ (expr-spellable ps a) (and_from _ _ (expr-spellable ps b) (expr-spellable ps c))

-- ---- tests
mutual
  pub test-spellable : (ps : List Param) (a : TestTree) → test_any (is_missing (length ps)) (test_tree_value ps a) ≡ false → is_spellable_test ps (test_tree_value ps a) ≡ true
  test-spellable ps (both a) h = both-spellable ps a h
  test-spellable ps (either a b) h = and_from _ _ (test-spellable ps a ((or_parts _ _ h).0)) (both-spellable ps b ((or_parts _ _ h).1))

  pub both-spellable : (ps : List Param) (a : BothTree) → test_any (is_missing (length ps)) (both_value ps a) ≡ false → is_spellable_test ps (both_value ps a) ≡ true
  both-spellable ps (one a) h = one-spellable ps a h
  both-spellable ps (also a b) h = and_from _ _ (both-spellable ps a ((or_parts _ _ h).0)) (one-spellable ps b ((or_parts _ _ h).1))

  pub one-spellable : (ps : List Param) (a : OneTree) → test_any (is_missing (length ps)) (one_value ps a) ≡ false → is_spellable_test ps (one_value ps a) ≡ true
  one-spellable ps (negated a) h = one-spellable ps a h
  one-spellable ps (bracketed a) h = test-spellable ps a h
  one-spellable ps (named_test x) h = first-spellable ps x (leb-false _ _ h)
  one-spellable ps (below a b) h = and_from _ _ (expr-spellable ps a) (expr-spellable ps b)
  one-spellable ps (at_most a b) h = and_from _ _ (expr-spellable ps a) (expr-spellable ps b)
  one-spellable ps (same a b) h = and_from _ _ (expr-spellable ps a) (expr-spellable ps b)

-- ---- statements and blocks
mutual
  pub stmt-spellable : (ps : List Param) (a : StmtTree) → stmt_any (is_missing (length ps)) (stmt_tree_value ps a) ≡ false → is_spellable_stmt ps (stmt_tree_value ps a) ≡ true
  stmt-spellable ps skipped h = refl
  stmt-spellable ps (written a e) h = and_from _ _ (name-spellable ps (place_name a)) (and_from _ _ (indices-spellable ps a) (expr-spellable ps e))
  stmt-spellable ps (asserted t) h = test-spellable ps t h
  stmt-spellable ps (chosen t b c) h =
      let blocks : (block_any (is_missing (length ps)) (stmts_value ps b) || block_any (is_missing (length ps)) (stmts_value ps c)) ≡ false = (or_parts _ _ h).1 in
      and_from _ _ (test-spellable ps t ((or_parts _ _ h).0)) (and_from _ _ (block-spellable ps b ((or_parts _ _ blocks).0)) (block-spellable ps c ((or_parts _ _ blocks).1)))
  stmt-spellable ps (repeated t b) h = and_from _ _ (test-spellable ps t ((or_parts _ _ h).0)) (block-spellable ps b ((or_parts _ _ h).1))
  stmt-spellable ps (counted x lo hi b) h =
      let later : (expr_any (is_missing (length ps)) (expr_value ps lo) || (expr_any (is_missing (length ps)) (expr_value ps hi) || block_any (is_missing (length ps)) (stmts_value ps b))) ≡ false = (or_parts _ _ h).1 in
      let last : (expr_any (is_missing (length ps)) (expr_value ps hi) || block_any (is_missing (length ps)) (stmts_value ps b)) ≡ false = (or_parts _ _ later).1 in
      and_from _ _ (name-spellable ps x) (and_from _ _ (expr-spellable ps lo) (and_from _ _ (expr-spellable ps hi) (block-spellable ps b ((or_parts _ _ last).1))))
  stmt-spellable ps (bound x e b) h =
      let later : (expr_any (is_missing (length ps)) (expr_value ps e) || block_any (is_missing (length ps)) (stmts_value ps b)) ≡ false = (or_parts _ _ h).1 in
      and_from _ _ (name-spellable ps x) (and_from _ _ (expr-spellable ps e) (block-spellable ps b ((or_parts _ _ later).1)))
  stmt-spellable ps (named_stmt x) h = first-spellable ps x (leb-false _ _ h)

  pub block-spellable : (ps : List Param) (a : StmtsTree) → block_any (is_missing (length ps)) (stmts_value ps a) ≡ false → is_spellable_block ps (stmts_value ps a) ≡ true
  block-spellable ps no_stmts h = refl
  block-spellable ps (stmts a more) h = and_from _ _ (stmt-spellable ps a ((or_parts _ _ h).0)) (block-spellable ps more ((or_parts _ _ h).1))
