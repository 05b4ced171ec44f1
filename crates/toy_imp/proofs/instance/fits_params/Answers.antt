use Rattle.toy_imp.proofs.Fitting.{lengths_differ}
use Rattle.toy_imp.proofs.instance.fits_params.Goals as goal

pub returns-then-params-fillings : goal.returns-then-params-fillings
returns-then-params-fillings c = lengths_differ c.args.params.now c.args.fillings.now c.if-params-fillings.true
