use Rattle.loop_maps.proofs.Undoing.{maps_undo}
use Rattle.loop_maps.proofs.laws.maps_undo.Goals as goal

pub returns : goal.returns
returns c = maps_undo
