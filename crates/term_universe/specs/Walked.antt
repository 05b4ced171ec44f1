-- The parts of an obligation as the code holds them, and the parts that they stand for.
use Rattle.std.specs.Prelude.{Option, Some, None}
use Rattle.rule_terms.specs.Parts.{a_store, a_value, a_place, an_expr, a_test}
use Rattle.rule_terms.specs.Parts as parts
use Rattle.term_universe.specs.declared.part.Part.{Part}
use Rattle.term_universe.specs.declared.part.Part.TheVariants.{Store, Value, Place, Expr, Test}

abbrev pub part_of : Part → parts.Part
part_of (Store s) = a_store s.now
part_of (Value v) = a_value v.now
part_of (Place p) = a_place p.now
part_of (Expr k) = an_expr k
part_of (Test k) = a_test k

abbrev pub mark_of : Option Part → Option parts.Part
mark_of None = None
mark_of (Some p) = Some (part_of p)
