-- Nests of loops by their bounds, outermost first: which of them may be asked for their running order.
-- The bounds of a loop are affine forms over the counters of the loops round it and over the symbols.
use Rattle.std.specs.Prelude.{ℕ, ◌≤◌, ◌<◌, List, length, slice_index_or}
use Rattle.iteration_order.specs.declared.bounds.Bounds.{Bounds}
use Rattle.iteration_order.specs.Affine.{IsForm}

-- the bounds of a loop inside so many others
pub record AreBounds (counters symbols : ℕ) (b : Bounds) : Type 0 where
  pub low : IsForm counters symbols b.low
  pub high : IsForm counters symbols b.high

-- one or two loops over at most eight symbols; the bounds of loop k, from 0, have k counters
pub record IsNest (symbols : ℕ) (nest : List Bounds) : Type 0 where
  pub some_loop : 1 ≤ length nest
  pub two_loops : length nest ≤ 2
  pub few_symbols : symbols ≤ 8
  pub bounds : (k : ℕ) (d : Bounds) → k < length nest → AreBounds k symbols (slice_index_or nest k d)
