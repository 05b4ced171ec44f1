-- Two conjuncts that many relations and obligations have.
use Rattle.std.specs.Prelude.{true, [], Some, None}
use Rattle.rule_terms.specs.Term.{left_store, right_store}
use Rattle.rule_terms.specs.declared.obligation.Atom.TheVariants.{SameStore}
use Rattle.rule_terms.specs.declared.obligation.Conjunct.{Conjunct}

-- L = R
abbrev pub sides_equal : Conjunct
sides_equal = record { when = []; gives = Some (record { sign = true; atom = SameStore left_store right_store }) }

-- what is true at no stores
abbrev pub falsehood : Conjunct
falsehood = record { when = []; gives = None }
