-- The grammar of rules as trees: declarations, side conditions, a method, cuts and two sides, one constructor for each alternative.
-- Of a tree: the declared parameters, the rule that it stands for, and the nesting of its text.
use Rattle.std.specs.Prelude.{ℕ, suc, ◌-◌, ◌^◌, min, max, List, [], ◌∷◌, map, flat_map}
use Rattle.toy_imp.specs.declared.condition.Condition.{Condition}
use Rattle.toy_imp.specs.declared.condition.Condition.TheVariants as condition
use Rattle.toy_imp.specs.declared.condition.Region.{Region}
use Rattle.toy_imp.specs.declared.param.Kind.{Kind}
use Rattle.toy_imp.specs.declared.param.Param.{Param}
use Rattle.toy_imp.specs.declared.rule.CutList.{CutList}
use Rattle.toy_imp.specs.declared.rule.CutList.TheVariants as cuts
use Rattle.toy_imp.specs.declared.rule.Method.{Method}
use Rattle.toy_imp.specs.declared.rule.Method.TheVariants as method
use Rattle.toy_imp.specs.declared.rule.Rule.{Rule}
use Rattle.toy_imp.specs.BlockGrammar.{StmtsTree, stmts_value, stmts_levels, stmts_operators, nesting_by}
use Rattle.toy_imp.specs.Parameters.{number_of}

-- decl : ("name" | "expr" | "test" | "stmt") ID+ ";"
pub record Declaration : Type 0 where
  pub kind : Kind
  pub first : List ℕ
  pub others : List (List ℕ)

-- cond : "keeps" ID ID | "ignores" ID ID | "commutes" ID ID | "positive" ID | "constant" ID | "distinct" ID ID | "quiet" ID
--      | "swaps" ID ID "over" ID region | "swaps" ID ID "over" ID "," ID region
pub data ConditionTree : Type 0 where
  keeps : List ℕ → List ℕ → ConditionTree
  ignores : List ℕ → List ℕ → ConditionTree
  commutes : List ℕ → List ℕ → ConditionTree
  positive : List ℕ → ConditionTree
  constant : List ℕ → ConditionTree
  distinct : List ℕ → List ℕ → ConditionTree
  quiet : List ℕ → ConditionTree
  swaps_over_1 : List ℕ → List ℕ → List ℕ → Region → ConditionTree
  swaps_over_2 : List ℕ → List ℕ → List ℕ → List ℕ → Region → ConditionTree

-- method : nothing | "method" ("simulate" | "permute" | "chain" | "tile") ";"
pub data MethodTree : Type 0 where
  no_method : MethodTree
  simulated : MethodTree
  permuted : MethodTree
  chained : MethodTree
  tiled : MethodTree

-- cuts : nothing | "cuts" "none" ";" | "cuts" NUM NUM ("," NUM NUM)* ";"
pub data CutsTree : Type 0 where
  no_cuts : CutsTree
  cuts_none : CutsTree
  cuts_at : ℕ × ℕ → List (ℕ × ℕ) → CutsTree

-- rule : decl* given* method? cuts? "left" block "right" block
pub record RuleTree : Type 0 where
  pub declarations : List Declaration
  pub conditions : List ConditionTree
  pub method : MethodTree
  pub cuts : CutsTree
  pub left : StmtsTree
  pub right : StmtsTree

-- parameters are numbered from 0 in order of declaration
abbrev pub declared_by : Declaration → List Param
declared_by d = map (λ x. record { kind = d.kind; name = x }) (d.first ∷ d.others)

abbrev pub params_value : List Declaration → List Param
params_value ds = flat_map declared_by ds

abbrev pub condition_value : List Param → ConditionTree → Condition
condition_value ps (keeps x y) = condition.Keeps (number_of ps x) (number_of ps y)
condition_value ps (ignores x y) = condition.Ignores (number_of ps x) (number_of ps y)
condition_value ps (commutes x y) = condition.Commutes (number_of ps x) (number_of ps y)
condition_value ps (positive x) = condition.Positive (number_of ps x)
condition_value ps (constant x) = condition.Constant (number_of ps x)
condition_value ps (distinct x y) = condition.Distinct (number_of ps x) (number_of ps y)
condition_value ps (quiet x) = condition.Quiet (number_of ps x)
condition_value ps (swaps_over_1 x y k region) = condition.Swaps (number_of ps x) (number_of ps y) (number_of ps k ∷ []) region
condition_value ps (swaps_over_2 x y k l region) = condition.Swaps (number_of ps x) (number_of ps y) (number_of ps k ∷ number_of ps l ∷ []) region

-- no method line is `method simulate;`
abbrev pub method_value : MethodTree → Method
method_value no_method = method.Simulate
method_value simulated = method.Simulate
method_value permuted = method.Permute
method_value chained = method.Chain
method_value tiled = method.Tile

-- The greatest number of a point. A greater one counts as this one; its text is refused as too wide.
abbrev pub greatest_cut : ℕ
greatest_cut = 2 ^ 32 - 1

abbrev pub cut_value : ℕ × ℕ → ℕ × ℕ
cut_value a = (min a.0 greatest_cut, min a.1 greatest_cut)

-- no cuts line is the default, `cuts none;` the empty list
abbrev pub cuts_value : CutsTree → CutList
cuts_value no_cuts = cuts.Default
cuts_value cuts_none = cuts.Listed []
cuts_value (cuts_at a more) = cuts.Listed (map cut_value (a ∷ more))

-- the pairs of a cuts line
abbrev pub cut_pairs : CutsTree → List (ℕ × ℕ)
cut_pairs no_cuts = []
cut_pairs cuts_none = []
cut_pairs (cuts_at a more) = a ∷ more

abbrev pub rule_value : List ℕ → RuleTree → Rule
rule_value title tree = record {
  title = title;
  params = params_value tree.declarations;
  conditions = map (condition_value (params_value tree.declarations)) tree.conditions;
  method = method_value tree.method;
  cuts = cuts_value tree.cuts;
  left = stmts_value (params_value tree.declarations) tree.left;
  right = stmts_value (params_value tree.declarations) tree.right;
}

-- the sides of a rule are blocks in braces
abbrev pub rule_levels : RuleTree → ℕ
rule_levels tree = max (suc (stmts_levels tree.left)) (suc (stmts_levels tree.right))

abbrev pub rule_operators : RuleTree → ℕ
rule_operators tree = max (stmts_operators tree.left) (stmts_operators tree.right)

abbrev pub rule_nesting : RuleTree → ℕ
rule_nesting tree = nesting_by (rule_levels tree) (rule_operators tree)
