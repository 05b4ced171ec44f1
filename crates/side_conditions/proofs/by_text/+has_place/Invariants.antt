use Rattle.toy_imp.specs.Expr.{depth}
use Rattle.side_conditions.proofs.by_text.+has_place.Given as goal

abbrev pub decreases-has_place : goal.decreases-has_place
decreases-has_place l = depth l.e.now
