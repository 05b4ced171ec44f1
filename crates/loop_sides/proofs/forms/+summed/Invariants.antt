use Rattle.toy_imp.specs.Expr.{depth}
use Rattle.loop_sides.proofs.forms.+summed.Given as goal

abbrev pub decreases-summed : goal.decreases-summed
decreases-summed l = depth l.e.now
