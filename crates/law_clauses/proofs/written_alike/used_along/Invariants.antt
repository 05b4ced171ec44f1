-- Behind what is left of the writes as many literals are used as behind all of them.
use Rattle.std.proofs.Common.{◌≡◌, ◌≤◌, length, Some}
use Rattle.term_meaning.specs.Writes.{written_in}
use Rattle.law_clauses.specs.Signed.{all_signed}
use Rattle.law_clauses.specs.WrittenAlike.{used_along}
use Rattle.law_clauses.proofs.written_alike.used_along.Given as goal

abbrev pub invariant-loop-rest : goal.invariant-loop-rest
invariant-loop-rest l =
    record {
      used : used_along l.a l.c (all_signed l.xs) (Some l.used) (written_in l.rest) ≡ used_along l.a l.c (all_signed l.xs) (Some l.n) (written_in l.t);
      within : l.used ≤ length l.xs;
    }
