use Rattle.std.proofs.Common.{◌≡◌, drop, length}
use Rattle.toy_imp.specs.Fits.{fits_params}
use Rattle.toy_imp.proofs.instance.fits_params.Given as goal

abbrev pub invariant-loop-i : goal.invariant-loop-i
invariant-loop-i l = record { as_many : length l.params ≡ length l.fillings; rest : fits_params (drop l.i l.params) (drop l.i l.fillings) ≡ fits_params l.params l.fillings }
