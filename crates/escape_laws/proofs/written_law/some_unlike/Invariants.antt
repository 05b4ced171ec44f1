-- Of the places written in what is left some passes exactly where one of all does.
use Rattle.std.proofs.Common.{◌≡◌, map}
use Rattle.std.specs.List.{list_any}
use Rattle.term_meaning.specs.Writes.{written_in}
use Rattle.law_clauses.specs.WriteLaws.{read_unlike}
use Rattle.escape_marks.specs.LawsHold.{is_kept}
use Rattle.escape_laws.proofs.written_law.some_unlike.Given as goal

abbrev pub invariant-loop-rest : goal.invariant-loop-rest
invariant-loop-rest l = list_any (is_kept l.params l.e) (map (read_unlike l.a l.c) (written_in l.rest)) ≡ list_any (is_kept l.params l.e) (map (read_unlike l.a l.c) (written_in l.t))
