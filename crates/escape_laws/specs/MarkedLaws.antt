-- What the laws ask of the terms that have marks: the clauses that speak of a term, each with a literal that is true in the escape
-- or that speaks of a term without a mark.
use Rattle.std.specs.Prelude.{Bool, true, ◌==◌, ◌&&◌, ◌||◌, List}
use Rattle.toy_imp.specs.declared.param.Kind.{Kind}
use Rattle.rule_terms.specs.Term.{StoreTerm, put, run, ValueTerm, get, add, sub, mul}
use Rattle.term_meaning.specs.Indices.{count}
use Rattle.law_clauses.specs.Shapes.{place}
use Rattle.law_clauses.specs.ClauseForms.{Clause, literals, past_name, past_count, write_ends, written_ends, run_starts, plus_zero, zero_plus, zero_times, times_zero, one_times, times_one, less_itself}
use Rattle.escape_marks.specs.declared.escape.Escape.{Escape}
use Rattle.escape_marks.specs.LawsHold.{clause_kept}

module _ (params : List Kind) (e : Escape) where
  abbrev pub keeps : Clause → Bool
  keeps c = clause_kept params e (literals c)

  -- 7 to 9: a write ends where the store under it does, and the store under a run ends where the run does
  unfoldable pub ends_kept : StoreTerm → Bool
  ends_kept (put s x is v) = keeps (write_ends s (place x is) v) && keeps (written_ends s (place x is) v)
  ends_kept (run k s) = keeps (run_starts k s)
  ends_kept _ = true

  -- 2 and 4: a read behind a write of another name, or of a place with another number of indices
  unfoldable pub reads_kept : ValueTerm → Bool
  reads_kept (get y js (put s x is v)) = keeps (past_name s (place x is) v (place y js)) && (count js == count is || keeps (past_count s (place x is) v (place y js)))
  reads_kept _ = true

  -- 23 and 24: 0 and 1 in sums and products, and the difference of equal values
  unfoldable pub sums_kept : ValueTerm → Bool
  sums_kept (add a b) = keeps (plus_zero a b) && keeps (zero_plus a b)
  sums_kept (mul a b) = keeps (zero_times a b) && (keeps (times_zero a b) && (keeps (one_times a b) && keeps (times_one a b)))
  sums_kept (sub a b) = keeps (less_itself a b)
  sums_kept _ = true
