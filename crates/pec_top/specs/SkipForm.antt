-- The form of rule that can be proved so far: it has no side conditions and the cuts of its shape, its parameters are
-- statements, and its sides hold `skip;` and these alone. Such a rule is proved where both sides have the same parameters
-- in the same order once `skip;` is dropped.
use Rattle.std.specs.Prelude.{ℕ, Bool, true, false, ◌&&◌, List, [], ◌∷◌, bytes_eq}
use Rattle.std.specs.List.{list_all}
use Rattle.toy_imp.specs.declared.condition.Condition.{Condition}
use Rattle.toy_imp.specs.declared.param.Kind.{Kind}
use Rattle.toy_imp.specs.declared.param.Kind.TheVariants as kind
use Rattle.toy_imp.specs.declared.param.Param.{Param}
use Rattle.toy_imp.specs.declared.rule.CutList.{CutList}
use Rattle.toy_imp.specs.declared.rule.CutList.TheVariants as cuts
use Rattle.toy_imp.specs.declared.rule.Method.{Method}
use Rattle.toy_imp.specs.declared.rule.Method.TheVariants as method
use Rattle.toy_imp.specs.declared.rule.Rule.{Rule}
use Rattle.toy_imp.specs.Block.{skip, par_stmt, Block, empty, stmt}

abbrev pub is_simulated : Method → Bool
is_simulated method.Simulate = true
is_simulated method.Permute = false
is_simulated method.Chain = false
is_simulated method.Tile = false

abbrev pub are_default : CutList → Bool
are_default cuts.Default = true
are_default (cuts.Listed pairs) = false

abbrev pub are_none : List Condition → Bool
are_none [] = true
are_none (c ∷ more) = false

abbrev pub is_stmt : Kind → Bool
is_stmt kind.Stmt = true
is_stmt _ = false

abbrev pub is_statement : Param → Bool
is_statement p = is_stmt p.kind

-- a side of `skip;` and statement parameters alone
abbrev pub is_side : Block → Bool
is_side empty = true
is_side (stmt skip b) = is_side b
is_side (stmt (par_stmt k) b) = is_side b
is_side (stmt _ b) = false

abbrev pub are_sides : Rule → Bool
are_sides rule = is_side rule.left && is_side rule.right

-- the rule is in the form
abbrev pub is_skip_rule : Rule → Bool
is_skip_rule rule =
    is_simulated rule.method && (are_default rule.cuts && (are_none rule.conditions && (list_all is_statement rule.params && are_sides rule)))

-- the parameters of a side in order, once `skip;` is dropped
abbrev pub kept : Block → List ℕ
kept empty = []
kept (stmt skip b) = kept b
kept (stmt (par_stmt k) b) = k ∷ kept b
kept (stmt _ b) = kept b

-- both sides have the same parameters in the same order
abbrev pub sides_agree : Rule → Bool
sides_agree rule = bytes_eq (kept rule.left) (kept rule.right)
