use Rattle.std.proofs.Common.{◌≡◌, ◌≤◌, ◌-◌, length, take}
use Rattle.std.specs.Io.KnownBytes.{Appends}
use Rattle.pec_io.specs.Writing.{HasRoom}
use Rattle.pec_io.proofs.writing.write_all.Given as goal

-- the bytes before `sent` were appended, no write has failed, and a room that held all holds the others
abbrev pub invariant-loop-sent : goal.invariant-loop-sent
invariant-loop-sent g l = record {
  within : l.sent ≤ length l.bytes;
  appended : Appends (g.K.Sink.written l.fn.sink) (g.K.Sink.written l.sink) (take l.sent l.bytes);
  kept : g.K.Sink.faults l.sink ≡ g.K.Sink.faults l.fn.sink;
  room : HasRoom (g.K.Sink.room l.fn.sink) (length l.bytes) → HasRoom (g.K.Sink.room l.sink) (length l.bytes - l.sent);
}

abbrev pub decreases-loop-sent : goal.decreases-loop-sent
decreases-loop-sent g l = length l.bytes - l.sent
