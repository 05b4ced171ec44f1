-- The laws that the side conditions give, 11 to 21: for each a clause, and a list of literals with a single slip that is none; and the clause
-- once more, under a condition on parameters of other kinds, where it is none. All by computation.
use Rattle.std.specs.Prelude.{ℕ, pos, List, [], ◌∷◌, refl}
use Rattle.toy_imp.specs.declared.condition.Condition.TheVariants.{Keeps, Ignores, Commutes, Positive, Constant, Distinct}
use Rattle.toy_imp.specs.declared.param.Kind.{Kind}
use Rattle.toy_imp.specs.declared.param.Kind.TheVariants as kind
use Rattle.rule_terms.specs.Term.{StoreTerm, left_store, right_store, run, ValueTerm, ev}
use Rattle.rule_terms.specs.Order.{store_cmp, value_cmp, terms_cmp}
use Rattle.rule_terms.specs.Listed.{commute, ignores}
use Rattle.rule_terms.specs.declared.obligation.Atom.TheVariants.{SameName, SameStore, SameValue, AtMost, Ends, Holds}
use Rattle.rule_terms.specs.declared.obligation.Obligation.{Obligation}
use Rattle.law_clauses.specs.Signed.{Signed, plus, minus}
use Rattle.law_clauses.specs.Shapes.{is_run, is_num, is_get, is_ev}
use Rattle.law_clauses.specs.Listed.{keeps, positive, constant, distinct, lists_keeps, lists_ignores, lists_commutes, lists_positive, lists_constant, lists_distinct}
use Rattle.law_clauses.specs.ConditionLaws.{law_11, law_12, law_13, law_14, law_15, law_16, law_17, law_18, law_19, law_20, law_21}
use Rattle.law_clauses.specs.Laws.{is_clause}
use Rattle.law_clauses.proofs.TableTerms.{one_value, five, six, variable, item, set, under, Row, KindRow}

-- the statement 0 keeps what 1 stands for, which is of this kind
abbrev keeping : Kind → Obligation
keeping k = under (kind.Stmt ∷ k ∷ []) (Keeps 0 1 ∷ [])

abbrev ran : StoreTerm
ran = run 0 left_store

-- 11, of what is kept and of something else
abbrev keeps_value : ℕ → List Signed
keeps_value e = minus (Ends ran) ∷ plus (SameValue (ev e ran) (ev e left_store)) ∷ []

law_11_row : Row (keeping kind.Expr) 11 (keeps_value 1) (keeps_value 2)
unfolding is_clause law_11 lists_keeps keeps is_run is_ev store_cmp
law_11_row = (refl, refl)

-- .. of an expression that is kept, and of a test
law_11_row_of_kinds : KindRow 11 (keeps_value 1) (keeping kind.Expr) (keeping kind.Test)
unfolding is_clause law_11 lists_keeps keeps is_run is_ev store_cmp
law_11_row_of_kinds = (refl, refl)

-- 12, of the variable and of an item of that name
abbrev keeps_cell : (StoreTerm → ValueTerm) → List Signed
keeps_cell read = minus (Ends ran) ∷ plus (SameValue (read ran) (read left_store)) ∷ []

law_12_row : Row (keeping kind.Name) 12 (keeps_cell (variable 1)) (keeps_cell (item 1 five))
unfolding is_clause law_12 lists_keeps keeps is_run is_get store_cmp value_cmp terms_cmp
law_12_row = (refl, refl)

-- .. of a name, and of an expression
law_12_row_of_kinds : KindRow 12 (keeps_cell (variable 1)) (keeping kind.Name) (keeping kind.Expr)
unfolding is_clause law_12 lists_keeps keeps is_run is_get store_cmp value_cmp terms_cmp
law_12_row_of_kinds = (refl, refl)

-- 13, of a test that is kept and of two tests; and with the two stores exchanged
abbrev keeps_test : StoreTerm → ℕ → StoreTerm → List Signed
keeps_test a q b = minus (Ends ran) ∷ minus (Holds 1 a) ∷ plus (Holds q b) ∷ []

law_13_row : Row (keeping kind.Test) 13 (keeps_test left_store 1 ran) (keeps_test left_store 2 ran)
unfolding is_clause law_13 lists_keeps keeps is_run store_cmp
law_13_row = (refl, refl)

law_13_row_back : Row (keeping kind.Test) 13 (keeps_test ran 1 left_store) (keeps_test ran 1 right_store)
unfolding is_clause law_13 lists_keeps keeps is_run store_cmp
law_13_row_back = (refl, refl)

-- .. of a test, and of a name
law_13_row_of_kinds : KindRow 13 (keeps_test left_store 1 ran) (keeping kind.Test) (keeping kind.Name)
unfolding is_clause law_13 lists_keeps keeps is_run store_cmp
law_13_row_of_kinds = (refl, refl)

-- what 1 stands for, which is of this kind, ignores the name 0
abbrev ignoring : Kind → Obligation
ignoring k = under (kind.Name ∷ k ∷ kind.Name ∷ kind.Name ∷ []) (Ignores 1 0 ∷ [])

-- 14, with the name that is written and with another one
abbrev value_ignores : ℕ → List Signed
value_ignores x = minus (SameName 2 0) ∷ plus (SameValue (ev 1 (set x five left_store)) (ev 1 left_store)) ∷ []

law_14_row : Row (ignoring kind.Expr) 14 (value_ignores 2) (value_ignores 3)
unfolding is_clause law_14 lists_ignores ignores is_ev store_cmp
law_14_row = (refl, refl)

-- .. of an expression, and of a test
law_14_row_of_kinds : KindRow 14 (value_ignores 2) (ignoring kind.Expr) (ignoring kind.Test)
unfolding is_clause law_14 lists_ignores ignores is_ev store_cmp
law_14_row_of_kinds = (refl, refl)

-- 15, of the store that is written into and of another one; and with the two exchanged
abbrev test_ignores : StoreTerm → StoreTerm → List Signed
test_ignores a b = minus (SameName 2 0) ∷ minus (Holds 1 a) ∷ plus (Holds 1 b) ∷ []

law_15_row : Row (ignoring kind.Test) 15 (test_ignores left_store (set 2 five left_store)) (test_ignores right_store (set 2 five left_store))
unfolding is_clause law_15 lists_ignores ignores store_cmp
law_15_row = (refl, refl)

law_15_row_back : Row (ignoring kind.Test) 15 (test_ignores (set 2 five left_store) left_store) (test_ignores (set 3 five left_store) left_store)
unfolding is_clause law_15 lists_ignores ignores store_cmp
law_15_row_back = (refl, refl)

-- .. of a test, and of a statement
law_15_row_of_kinds : KindRow 15 (test_ignores left_store (set 2 five left_store)) (ignoring kind.Test) (ignoring kind.Stmt)
unfolding is_clause law_15 lists_ignores ignores store_cmp
law_15_row_of_kinds = (refl, refl)

-- 16, with the value that is written and with another one
abbrev run_ignores : ValueTerm → List Signed
run_ignores w = minus (SameName 2 0) ∷ plus (SameStore (run 1 (set 2 five left_store)) (set 2 w (run 1 left_store))) ∷ []

law_16_row : Row (ignoring kind.Stmt) 16 (run_ignores five) (run_ignores six)
unfolding is_clause law_16 lists_ignores ignores is_run store_cmp value_cmp terms_cmp
law_16_row = (refl, refl)

-- .. of a statement, and of an expression
law_16_row_of_kinds : KindRow 16 (run_ignores five) (ignoring kind.Stmt) (ignoring kind.Expr)
unfolding is_clause law_16 lists_ignores ignores is_run store_cmp value_cmp terms_cmp
law_16_row_of_kinds = (refl, refl)

-- 17, of the run that ends and of another one
abbrev run_leaves : StoreTerm → List Signed
run_leaves t = minus (Ends (run 1 left_store)) ∷ minus (SameName 2 0) ∷ plus (SameValue (variable 2 t) (variable 2 left_store)) ∷ []

law_17_row : Row (ignoring kind.Stmt) 17 (run_leaves (run 1 left_store)) (run_leaves (run 0 left_store))
unfolding is_clause law_17 lists_ignores ignores is_run is_get store_cmp value_cmp terms_cmp
law_17_row = (refl, refl)

-- .. of a statement, and of a test
law_17_row_of_kinds : KindRow 17 (run_leaves (run 1 left_store)) (ignoring kind.Stmt) (ignoring kind.Test)
unfolding is_clause law_17 lists_ignores ignores is_run is_get store_cmp value_cmp terms_cmp
law_17_row_of_kinds = (refl, refl)

-- a statement, and a parameter of this kind, of which the condition is listed
abbrev commuting : Kind → Obligation
commuting k = under (kind.Stmt ∷ k ∷ []) (Commutes 0 1 ∷ [])

-- 18, of the two statements, also where they are listed the other way round, and of the two in the same order
abbrev runs_commute : StoreTerm → List Signed
runs_commute t = plus (SameStore (run 1 (run 0 left_store)) t) ∷ []

law_18_row : Row (commuting kind.Stmt) 18 (runs_commute (run 0 (run 1 left_store))) (runs_commute (run 1 (run 0 left_store)))
unfolding is_clause law_18 lists_commutes commute is_run store_cmp
law_18_row = (refl, refl)

law_18_row_back : Row (under (kind.Stmt ∷ kind.Stmt ∷ []) (Commutes 1 0 ∷ [])) 18 (runs_commute (run 0 (run 1 left_store))) (runs_commute (run 0 (run 1 right_store)))
unfolding is_clause law_18 lists_commutes commute is_run store_cmp
law_18_row_back = (refl, refl)

-- .. of two statements, and of a statement and an expression
law_18_row_of_kinds : KindRow 18 (runs_commute (run 0 (run 1 left_store))) (commuting kind.Stmt) (commuting kind.Expr)
unfolding is_clause law_18 lists_commutes commute is_run store_cmp
law_18_row_of_kinds = (refl, refl)

-- a parameter of this kind is positive, or constant
abbrev positively : Kind → Obligation
positively k = under (kind.Stmt ∷ k ∷ []) (Positive 1 ∷ [])

abbrev constantly : Kind → Obligation
constantly k = under (kind.Stmt ∷ k ∷ []) (Constant 1 ∷ [])

-- 19, at least 1 and at least 5
abbrev is_at_least : ValueTerm → List Signed
is_at_least v = minus (Ends left_store) ∷ plus (AtMost v (ev 1 left_store) (pos 0)) ∷ []

law_19_row : Row (positively kind.Expr) 19 (is_at_least one_value) (is_at_least five)
unfolding is_clause law_19 lists_positive positive is_num store_cmp
law_19_row = (refl, refl)

-- .. of an expression, and of a name
law_19_row_of_kinds : KindRow 19 (is_at_least one_value) (positively kind.Expr) (positively kind.Name)
unfolding is_clause law_19 lists_positive positive is_num store_cmp
law_19_row_of_kinds = (refl, refl)

-- 20, where both stores end and where one does
abbrev is_constant_value : StoreTerm → List Signed
is_constant_value c = minus (Ends left_store) ∷ minus (Ends c) ∷ plus (SameValue (ev 1 left_store) (ev 1 right_store)) ∷ []

law_20_row : Row (constantly kind.Expr) 20 (is_constant_value right_store) (is_constant_value left_store)
unfolding is_clause law_20 lists_constant constant is_ev store_cmp
law_20_row = (refl, refl)

-- .. of an expression, and of a test
law_20_row_of_kinds : KindRow 20 (is_constant_value right_store) (constantly kind.Expr) (constantly kind.Test)
unfolding is_clause law_20 lists_constant constant is_ev store_cmp
law_20_row_of_kinds = (refl, refl)

-- a name, and a parameter of this kind, are distinct
abbrev distinctly : Kind → Obligation
distinctly k = under (kind.Name ∷ k ∷ []) (Distinct 0 1 ∷ [])

-- 21, of the two names, also the other way round, and of a name that is not listed
law_21_row : Row (distinctly kind.Name) 21 (minus (SameName 0 1) ∷ []) (minus (SameName 0 2) ∷ [])
unfolding is_clause law_21 lists_distinct distinct
law_21_row = (refl, refl)

law_21_row_back : Row (distinctly kind.Name) 21 (minus (SameName 1 0) ∷ []) (plus (SameName 1 0) ∷ [])
unfolding is_clause law_21 lists_distinct distinct
law_21_row_back = (refl, refl)

-- .. of two names, and of a name and an expression
law_21_row_of_kinds : KindRow 21 (minus (SameName 0 1) ∷ []) (distinctly kind.Name) (distinctly kind.Expr)
unfolding is_clause law_21 lists_distinct distinct
law_21_row_of_kinds = (refl, refl)
