-- The laws of sums, products and differences, 22 to 24: which lists of literals are clauses of them.
-- A clause has the conditions of its law negated, in order, and then the conclusion.
use Rattle.std.specs.Prelude.{pos, Bool, false, ◌&&◌, ◌||◌, List, [], ◌∷◌}
use Rattle.rule_terms.specs.Term.{ValueTerm, add, sub, mul}
use Rattle.rule_terms.specs.Order.{value_same}
use Rattle.rule_terms.specs.declared.obligation.Atom.TheVariants.{SameValue}
use Rattle.law_clauses.specs.Signed.{Signed, plus, minus}
use Rattle.law_clauses.specs.Shapes.{is_num, is_add, is_mul}

-- 22: if a = d and b = c: `add a b = add c d`; the same for products
unfoldable pub law_22 : List Signed → Bool
law_22 (minus (SameValue a d) ∷ minus (SameValue b c) ∷ plus (SameValue (add p q) w) ∷ []) = value_same p a && (value_same q b && is_add w c d)
law_22 (minus (SameValue a d) ∷ minus (SameValue b c) ∷ plus (SameValue (mul p q) w) ∷ []) = value_same p a && (value_same q b && is_mul w c d)
law_22 _ = false

-- u is an operand of `add a b` that is 0, and w the other one
abbrev pub adds_nothing : ValueTerm → ValueTerm → ValueTerm → ValueTerm → ValueTerm → Bool
adds_nothing u z a b w = is_num z (pos 0) && ((value_same u b && value_same w a) || (value_same u a && value_same w b))

-- u is a factor of `mul a b` that is 0, and w is 0; or one that is 1, and w is the other one
abbrev pub multiplies_by_unit : ValueTerm → ValueTerm → ValueTerm → ValueTerm → ValueTerm → Bool
multiplies_by_unit u z a b w =
    (is_num z (pos 0) && ((value_same u a || value_same u b) && is_num w (pos 0)))
    || (is_num z (pos 1) && ((value_same u a && value_same w b) || (value_same u b && value_same w a)))

-- 23: if b = 0: `add a b = a`; if a = 0: `add a b = b`; if a = 0, or if b = 0: `mul a b = 0`; if a = 1: `mul a b = b`; if b = 1: `mul a b = a`
unfoldable pub law_23 : List Signed → Bool
law_23 (minus (SameValue u z) ∷ plus (SameValue (add a b) w) ∷ []) = adds_nothing u z a b w
law_23 (minus (SameValue u z) ∷ plus (SameValue (mul a b) w) ∷ []) = multiplies_by_unit u z a b w
law_23 _ = false

-- 24: if a = b: `sub a b = 0`
unfoldable pub law_24 : List Signed → Bool
law_24 (minus (SameValue a b) ∷ plus (SameValue (sub c d) w) ∷ []) = value_same c a && (value_same d b && is_num w (pos 0))
law_24 _ = false
