-- What is left of the list has a literal of the place exactly where the whole list has.
use Rattle.std.proofs.Common.{◌≡◌, drop}
use Rattle.std.specs.List.{list_any}
use Rattle.law_clauses.specs.Signed.{all_signed}
use Rattle.law_clauses.specs.WrittenAlike.{reads_at}
use Rattle.law_clauses.proofs.written_alike.is_met.Given as goal

abbrev pub invariant-loop-x : goal.invariant-loop-x
invariant-loop-x l = list_any (reads_at l.p) (all_signed (drop l.x-index l.xs)) ≡ list_any (reads_at l.p) (all_signed l.xs)
