use Rattle.pec_io.proofs.Pieces.{takes_two}
use Rattle.pec_io.proofs.reading.read_all.Goals as goal

pub returns-then-count-room-clause-front : goal.returns-then-count-room-clause-front
returns-then-count-room-clause-front g c =
    takes_two _ _ _ _ _ c.loop-all.invariant.taken c.in_ok-count.ensures.bytes.0

pub returns-in_err-extend_from_slice-clause-front : goal.returns-in_err-extend_from_slice-clause-front
returns-in_err-extend_from_slice-clause-front g c =
    takes_two _ _ _ _ _ c.loop-all.invariant.taken c.in_ok-count.ensures.bytes.0
