-- Two value terms joined by the operator of a node.
use Rattle.rule_terms.specs.Term.{ValueTerm, add, sub, mul}
use Rattle.rule_terms.specs.declared.term.ValueNode.{ValueNode}
use Rattle.rule_terms.specs.declared.term.ValueNode.TheVariants.{Num, Get, Ev, Add, Sub, Mul}

-- their difference, their product, or else their sum
abbrev pub joined_as : ValueNode → ValueTerm → ValueTerm → ValueTerm
joined_as (Sub x y) a b = sub a b
joined_as (Mul x y) a b = mul a b
joined_as (Num z) a b = add a b
joined_as (Get p s) a b = add a b
joined_as (Ev k s) a b = add a b
joined_as (Add x y) a b = add a b
