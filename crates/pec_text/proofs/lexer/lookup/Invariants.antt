use Rattle.std.proofs.Common.{◌≡◌, length, map}
use Rattle.pec_text.specs.Scanning.{lookup}
use Rattle.pec_text.proofs.lexer.lookup.Given as goal

abbrev pub invariant-loop-table : goal.invariant-loop-table
invariant-loop-table g l = lookup (map (λ entry. (entry.0.now, entry.1)) l.table) l.lexeme ≡ lookup (map (λ entry. (entry.0.now, entry.1)) l.initial.table) l.lexeme

abbrev pub decreases-loop-table : goal.decreases-loop-table
decreases-loop-table g l = length l.table
