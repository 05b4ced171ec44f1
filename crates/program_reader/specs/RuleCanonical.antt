-- The canonical tree of a rule: the derivation of its canonical text. Parameters are declared in runs of one kind, each
-- condition has its line, simulation no method line, and default cuts no cuts line.
-- No text has a `swaps` condition that lists no name or more than two; here such a one has the names that it can have.
use Rattle.std.specs.Prelude.{ℕ, List, [], ◌∷◌, map, if◌then◌else◌}
use Rattle.toy_imp.specs.declared.condition.Condition.{Condition}
use Rattle.toy_imp.specs.declared.condition.Condition.TheVariants as condition
use Rattle.toy_imp.specs.declared.condition.Region.{Region}
use Rattle.toy_imp.specs.declared.param.Param.{Param}
use Rattle.toy_imp.specs.declared.rule.CutList.{CutList}
use Rattle.toy_imp.specs.declared.rule.CutList.TheVariants as cuts
use Rattle.toy_imp.specs.declared.rule.Method.{Method}
use Rattle.toy_imp.specs.declared.rule.Method.TheVariants as method
use Rattle.toy_imp.specs.declared.rule.Rule.{Rule}
use Rattle.toy_imp.specs.BlockCanonical.{canonical_block}
use Rattle.toy_imp.specs.ExprCanonical.{declared_name}
use Rattle.toy_imp.specs.Faults.{kind_is}
use Rattle.toy_imp.specs.RuleGrammar.{Declaration, ConditionTree, keeps, ignores, commutes, positive, constant, distinct, quiet, swaps_over_1, swaps_over_2, MethodTree, no_method, permuted, chained, tiled, CutsTree, no_cuts, cuts_none, cuts_at, RuleTree}

-- a parameter in front of declarations: in the first of them where that is of its kind, else in one of its own
abbrev pub declared_before : Param → List Declaration → List Declaration
declared_before p [] = record { kind = p.kind; first = p.name; others = [] } ∷ []
declared_before p (d ∷ ds) =
    if kind_is p.kind d.kind then record { kind = d.kind; first = p.name; others = d.first ∷ d.others } ∷ ds
    else record { kind = p.kind; first = p.name; others = [] } ∷ d ∷ ds

-- the parameters in runs of one kind
abbrev pub declarations : List Param → List Declaration
declarations [] = []
declarations (p ∷ ps) = declared_before p (declarations ps)

abbrev pub swaps_over : List ℕ → List ℕ → List (List ℕ) → Region → ConditionTree
swaps_over x y [] region = swaps_over_1 x y [] region
swaps_over x y (k ∷ []) region = swaps_over_1 x y k region
swaps_over x y (k ∷ l ∷ more) region = swaps_over_2 x y k l region

abbrev pub canonical_condition : List Param → Condition → ConditionTree
canonical_condition ps (condition.Keeps s o) = keeps (declared_name ps s) (declared_name ps o)
canonical_condition ps (condition.Ignores o x) = ignores (declared_name ps o) (declared_name ps x)
canonical_condition ps (condition.Commutes s t) = commutes (declared_name ps s) (declared_name ps t)
canonical_condition ps (condition.Positive e) = positive (declared_name ps e)
canonical_condition ps (condition.Constant e) = constant (declared_name ps e)
canonical_condition ps (condition.Distinct x y) = distinct (declared_name ps x) (declared_name ps y)
canonical_condition ps (condition.Quiet s) = quiet (declared_name ps s)
canonical_condition ps (condition.Swaps s t names region) = swaps_over (declared_name ps s) (declared_name ps t) (map (declared_name ps) names) region

abbrev pub canonical_method : Method → MethodTree
canonical_method method.Simulate = no_method
canonical_method method.Permute = permuted
canonical_method method.Chain = chained
canonical_method method.Tile = tiled

abbrev pub canonical_cuts : CutList → CutsTree
canonical_cuts cuts.Default = no_cuts
canonical_cuts (cuts.Listed []) = cuts_none
canonical_cuts (cuts.Listed (a ∷ more)) = cuts_at a more

abbrev pub canonical_rule : Rule → RuleTree
canonical_rule rule = record {
  declarations = declarations rule.params;
  conditions = map (canonical_condition rule.params) rule.conditions;
  method = canonical_method rule.method;
  cuts = canonical_cuts rule.cuts;
  left = canonical_block rule.params rule.left;
  right = canonical_block rule.params rule.right;
}
