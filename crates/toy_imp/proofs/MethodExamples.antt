-- The four methods in rules: which may list cuts, for which `for` and `let` are a fault, and how each is written.
use Rattle.std.specs.Prelude.{◌≡◌, Bool, true, false, pos, [], ◌∷◌, refl}
use Rattle.toy_imp.specs.declared.name.Name.TheVariants.{Own}
use Rattle.toy_imp.specs.declared.rule.Rule.{Rule}
use Rattle.toy_imp.specs.declared.rule.Method.{Method}
use Rattle.toy_imp.specs.declared.rule.Method.TheVariants as method
use Rattle.toy_imp.specs.declared.rule.CutList.{CutList}
use Rattle.toy_imp.specs.declared.rule.CutList.TheVariants as cuts
use Rattle.toy_imp.specs.Faults.{simulates_scopes, has_wrong_cuts}
use Rattle.toy_imp.specs.RuleGrammar.{no_method, simulated, permuted, chained, tiled, method_value}
use Rattle.toy_imp.specs.Expr.{num}
use Rattle.toy_imp.specs.Test.{less}
use Rattle.toy_imp.specs.Block.{Block, empty, stmt, skip, let_in, while_do}

abbrev rule_by : Method → CutList → Block → Rule
rule_by m list side = record { title = []; params = []; conditions = []; method = m; cuts = list; left = side; right = side }

-- a side with one point inside
abbrev one_loop : Block
one_loop = stmt (while_do (less (num (pos 0)) (num (pos 1))) empty) empty

-- a pair of points on either side, a pair of none, and a pair twice
abbrev right_pair : CutList
right_pair = cuts.Listed ((1, 1) ∷ [])

abbrev wrong_pair : CutList
wrong_pair = cuts.Listed ((1, 2) ∷ [])

abbrev pair_twice : CutList
pair_twice = cuts.Listed ((1, 1) ∷ (1, 1) ∷ [])

-- whether a rule of the method has wrong cuts: with a right pair, with a wrong pair, with a pair twice, with `cuts none;`, without a line
abbrev Judged : Method → (right wrong twice no_pair no_line : Bool) → Type 0
Judged m right wrong twice no_pair no_line =
    (has_wrong_cuts (rule_by m right_pair one_loop) ≡ right)
    × (has_wrong_cuts (rule_by m wrong_pair one_loop) ≡ wrong)
    × (has_wrong_cuts (rule_by m pair_twice one_loop) ≡ twice)
    × (has_wrong_cuts (rule_by m (cuts.Listed []) one_loop) ≡ no_pair)
    × (has_wrong_cuts (rule_by m cuts.Default one_loop) ≡ no_line)

simulate_cuts : Judged method.Simulate false true true false false
simulate_cuts = (refl, refl, refl, refl, refl)

permute_cuts : Judged method.Permute true true true true false
permute_cuts = (refl, refl, refl, refl, refl)

chain_cuts : Judged method.Chain true true true true false
chain_cuts = (refl, refl, refl, refl, refl)

tile_cuts : Judged method.Tile false true true false false
tile_cuts = (refl, refl, refl, refl, refl)

-- `let` is a fault of simulation alone
abbrev with_let : Block
with_let = stmt (let_in (Own (120 ∷ [])) (num (pos 0)) (stmt skip empty)) empty

abbrev scopes_of : Method → Bool
scopes_of m = simulates_scopes (rule_by m cuts.Default with_let)

let_by_method : (scopes_of method.Simulate ≡ true) × (scopes_of method.Permute ≡ false) × (scopes_of method.Chain ≡ false) × (scopes_of method.Tile ≡ false)
let_by_method = (refl, refl, refl, refl)

-- what is written, and no line
method_lines :
    (method_value no_method ≡ method.Simulate) × (method_value simulated ≡ method.Simulate) × (method_value permuted ≡ method.Permute)
    × (method_value chained ≡ method.Chain) × (method_value tiled ≡ method.Tile)
method_lines = (refl, refl, refl, refl, refl)
