-- The law of simulation, on which every rule that is called proved rests.
use Rattle.std.specs.Prelude.{◌≡◌, true, List}
use Rattle.toy_imp.specs.declared.rule.Rule.{Rule}
use Rattle.toy_imp.specs.Faults.{well_formed, is_simulate}
use Rattle.toy_imp.specs.Valid.{Valid}
use Rattle.path_pairs.specs.declared.cut_points.CutPoints.{CutPoints}
use Rattle.spot_obligations.specs.declared.entry.Entry.{Entry}
use Rattle.rule_simulation.specs.Shown.{Shown}

-- where each obligation of a relation holds, the rule is valid: its sides end alike and halt alike, in both directions
abbrev pub ShownIsValid : Type 0
ShownIsValid = (rule : Rule) (points : CutPoints) (entries : List Entry) → well_formed rule ≡ true → is_simulate rule.method ≡ true → Shown rule points entries → Valid rule
