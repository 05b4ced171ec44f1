use Rattle.toy_imp.specs.Expr.{depth}
use Rattle.side_conditions.proofs.by_text.+has_positive_form.Given as goal

abbrev pub decreases-has_positive_form : goal.decreases-has_positive_form
decreases-has_positive_form l = depth l.e.now
