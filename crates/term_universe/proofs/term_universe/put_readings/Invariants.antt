use Rattle.std.proofs.Common.{◌≡◌, ◌++◌, map, drop}
use Rattle.term_universe.specs.NewReadings.{new_readings}
use Rattle.term_universe.specs.Walked.{part_of}
use Rattle.term_universe.proofs.term_universe.put_readings.Given as goal

abbrev pub invariant-loop-part : goal.invariant-loop-part
invariant-loop-part l = l.more ++ new_readings l.base (map part_of (drop l.part-index l.parts)) l.s ≡ l.fn.more ++ new_readings l.base (map part_of l.parts) l.s
