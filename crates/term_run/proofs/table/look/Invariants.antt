use Rattle.std.proofs.Common.{◌≡◌, ◌≤◌, length, drop, None}
use Rattle.term_meaning.specs.Table as said
use Rattle.term_run.specs.Cells.{store_by}
use Rattle.term_run.specs.Meant.{table_of}
use Rattle.term_run.proofs.table.look.Given as goal

abbrev pub invariant-loop-i : goal.invariant-loop-i
invariant-loop-i l = record { within : l.i ≤ length l.table; none : said.look (table_of (drop l.i l.table)) l.k (store_by l.cells) ≡ None }

abbrev pub decreases-loop-i : goal.decreases-loop-i
decreases-loop-i l = l.i
