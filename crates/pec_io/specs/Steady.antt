-- Sources and sinks over memory that fail for want of room alone.
use Rattle.std.specs.Prelude.{ℕ, ◌-◌, ◌++◌, List, drop, length, Result, Ok, Err}
use Rattle.pec_io.specs.Faults.{one_more}

-- what a source has left after a read
abbrev pub left_after : {E : Type 0} → List ℕ → Result ℕ E → List ℕ
left_after left (Ok n) = drop n left
left_after left (Err e) = left

-- A tray of bytes in memory: what it holds, the room that is left, and how many faults there were.
pub record Tray : Type 0 where
  pub written : List ℕ
  pub room : ℕ
  pub faults : ℕ

-- the tray after a write: it holds the piece too, or the faults have risen
abbrev pub tray_after : {E : Type 0} → Tray → List ℕ → Result ℕ E → Tray
tray_after tray piece (Ok n) = record { written = tray.written ++ piece; room = tray.room - length piece; faults = tray.faults }
tray_after tray piece (Err e) = record { written = tray.written; room = tray.room; faults = one_more tray.faults }
