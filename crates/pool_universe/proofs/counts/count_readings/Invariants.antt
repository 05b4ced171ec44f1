use Rattle.std.proofs.Common.{◌≡◌, ◌+◌, ◌<◌, ◌^◌, length, drop}
use Rattle.std.specs.List.{filter}
use Rattle.rule_terms.specs.Counts.{saturated}
use Rattle.pool_universe.specs.PooledParts.{is_reading}
use Rattle.pool_universe.proofs.counts.count_readings.Given as goal

abbrev pub invariant-loop-part : goal.invariant-loop-part
invariant-loop-part l = record {
  few : l.all < 2 ^ 64;
  counted : saturated (l.all + length (filter is_reading (drop l.part-index l.parts))) ≡ saturated (length (filter is_reading l.parts));
}
