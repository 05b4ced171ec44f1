-- The laws of sums, products and differences, 22 to 24: for each a clause, and a list of literals with a single slip that is none. All by computation.
use Rattle.std.specs.Prelude.{List, [], ◌∷◌, refl}
use Rattle.rule_terms.specs.Term.{left_store, right_store, ValueTerm, add, sub, mul}
use Rattle.rule_terms.specs.Order.{store_cmp, value_cmp, terms_cmp}
use Rattle.rule_terms.specs.declared.obligation.Atom.TheVariants.{SameValue}
use Rattle.law_clauses.specs.Signed.{Signed, plus, minus}
use Rattle.law_clauses.specs.Shapes.{is_num, is_add, is_mul}
use Rattle.law_clauses.specs.NumberLaws.{law_22, law_23, law_24}
use Rattle.law_clauses.specs.Laws.{is_clause}
use Rattle.law_clauses.proofs.TableTerms.{zero_value, one_value, variable, plain, Row}

abbrev a : ValueTerm
a = variable 0 left_store

abbrev b : ValueTerm
b = variable 1 left_store

abbrev c : ValueTerm
c = variable 0 right_store

abbrev d : ValueTerm
d = variable 1 right_store

-- 22, of sums with the operands exchanged and as they are; of products
abbrev exchanges : ValueTerm → ValueTerm → List Signed
exchanges v w = minus (SameValue a d) ∷ minus (SameValue b c) ∷ plus (SameValue v w) ∷ []

law_22_row : Row plain 22 (exchanges (add a b) (add c d)) (exchanges (add a b) (add d c))
unfolding is_clause law_22 is_add store_cmp value_cmp terms_cmp
law_22_row = (refl, refl)

law_22_row_of_products : Row plain 22 (exchanges (mul a b) (mul c d)) (exchanges (mul a b) (add c d))
unfolding is_clause law_22 is_mul store_cmp value_cmp terms_cmp
law_22_row_of_products = (refl, refl)

-- 23, where what is added is 0 and where it is 1
abbrev with_unit : ValueTerm → ValueTerm → ValueTerm → ValueTerm → List Signed
with_unit u z v w = minus (SameValue u z) ∷ plus (SameValue v w) ∷ []

law_23_row : Row plain 23 (with_unit b zero_value (add a b) a) (with_unit b one_value (add a b) a)
unfolding is_clause law_23 is_num store_cmp value_cmp terms_cmp
law_23_row = (refl, refl)

-- .. where the first operand is 0, and with the sum equal to it
law_23_row_first : Row plain 23 (with_unit a zero_value (add a b) b) (with_unit a zero_value (add a b) a)
unfolding is_clause law_23 is_num store_cmp value_cmp terms_cmp
law_23_row_first = (refl, refl)

-- .. where a factor is 0, and with a product that is 1
law_23_row_of_zero : Row plain 23 (with_unit b zero_value (mul a b) zero_value) (with_unit b zero_value (mul a b) one_value)
unfolding is_clause law_23 is_num store_cmp value_cmp terms_cmp
law_23_row_of_zero = (refl, refl)

-- .. where a factor is 1, and with the product equal to that factor
law_23_row_of_one : Row plain 23 (with_unit a one_value (mul a b) b) (with_unit a one_value (mul a b) a)
unfolding is_clause law_23 is_num store_cmp value_cmp terms_cmp
law_23_row_of_one = (refl, refl)

-- 24, with a difference of 0 and with one of 1
abbrev takes_equal : ValueTerm → List Signed
takes_equal w = minus (SameValue a b) ∷ plus (SameValue (sub a b) w) ∷ []

law_24_row : Row plain 24 (takes_equal zero_value) (takes_equal one_value)
unfolding is_clause law_24 is_num store_cmp value_cmp terms_cmp
law_24_row = (refl, refl)
