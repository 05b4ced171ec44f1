-- The nodes of an obligation, weighed without building it.
use Rattle.std.specs.Prelude.{◌≡◌, List, nat_lt, refl}
use Rattle.std.proofs.Common.{sym, arith}
use Rattle.toy_imp.specs.declared.rule.Rule.{Rule}
use Rattle.rule_terms.specs.Counts.{obligation_nodes}
use Rattle.rule_terms.specs.declared.obligation.Conjunct.{Conjunct}
use Rattle.rule_terms.specs.declared.path.Path.{Path}
use Rattle.parallel_wp.specs.Precondition.{precondition}
use Rattle.parallel_wp.specs.PreconditionLaws.{counted_with}
use Rattle.parallel_wp.proofs.Together.{obligation_nodes_are}
use Rattle.spot_obligations.specs.Obligations.{obligation_of}

pub passes_most : (rule : Rule) (known : List Conjunct) (l r : Path) (goal : Conjunct)
    → nat_lt 4096 (counted_with known (precondition l r goal)) ≡ nat_lt 4096 (obligation_nodes (obligation_of rule known l r goal))
unfolding obligation_of
passes_most rule known l r goal = sym ((obligation_nodes_are (obligation_of rule known l r goal) l r goal refl refl).passes 4096 (omega arith))
