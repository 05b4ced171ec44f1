-- A feed of bytes from memory: what is left, the greatest number of bytes of one read, the numbers
-- of the reads that fail (the first is 1), and how many reads and how many faults there were.
use Rattle.std.specs.Prelude.{ℕ, List, drop, Result, Ok, Err}
use Rattle.pec_io.specs.Faults.{one_more}

pub record Feed : Type 0 where
  pub left : List ℕ
  pub most : ℕ
  pub fails : List ℕ
  pub calls : ℕ
  pub faults : ℕ

-- the feed after a read: a read that answers n has taken n bytes, one that fails has raised the faults
abbrev pub after_read : {E : Type 0} → Feed → Result ℕ E → Feed
after_read feed (Ok n) = record feed { left = drop n feed.left; calls = one_more feed.calls }
after_read feed (Err e) = record feed { calls = one_more feed.calls; faults = one_more feed.faults }
