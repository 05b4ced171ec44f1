use Rattle.std.proofs.Common.{◌≡◌, drop}
use Rattle.std.specs.List.{list_any}
use Rattle.spot_obligations.specs.Owed.{says_quiet}
use Rattle.spot_obligations.proofs.quiet.is_quiet.Given as goal

abbrev pub invariant-loop-condition : goal.invariant-loop-condition
invariant-loop-condition l = list_any (says_quiet l.k) (drop l.condition-index l.conditions) ≡ list_any (says_quiet l.k) l.conditions
