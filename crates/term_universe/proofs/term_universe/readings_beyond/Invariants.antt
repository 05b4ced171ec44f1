use Rattle.std.proofs.Common.{◌≡◌, ◌++◌, map, drop}
use Rattle.std.specs.List.{flat_map}
use Rattle.term_universe.specs.NewReadings.{new_readings}
use Rattle.term_universe.specs.Walked.{part_of}
use Rattle.term_universe.proofs.term_universe.readings_beyond.Given as goal

abbrev pub invariant-loop-s : goal.invariant-loop-s
invariant-loop-s l = l.more ++ flat_map (new_readings l.base (map part_of l.parts)) (drop l.s-index l.stores) ≡ flat_map (new_readings l.base (map part_of l.parts)) l.stores
