use Rattle.std.proofs.Common.{sym}
use Rattle.affine_forms.specs.Form.{counter_form}
use Rattle.affine_forms.proofs.Equality.{equal}
use Rattle.affine_forms.proofs.maps.is_itself.Goals as goal

-- src/maps.rt:44:1
pub returns : goal.returns
returns c =
    rw (sym c.substitute.ensures) (equal c.substitute.result c.counter.result (counter_form c.args.k) c.eq.result c.eq.ensures c.counter.ensures)
