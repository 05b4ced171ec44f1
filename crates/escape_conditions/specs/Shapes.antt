-- No meaning: shapes two deep, and names beside the rest of a clause, as the code compares them.
use Rattle.std.specs.Prelude.{ℕ, Bool, true, false, not, ◌==◌, ◌&&◌, ◌||◌}
use Rattle.std.specs.List.{list_all}
use Rattle.toy_imp.specs.declared.condition.Condition.{Condition}
use Rattle.toy_imp.specs.declared.condition.Condition.TheVariants.{Ignores}
use Rattle.toy_imp.specs.declared.param.Kind.{Kind}
use Rattle.rule_terms.specs.Term.{StoreTerm, put, run, ValueTerm, Place}
use Rattle.rule_terms.specs.Order.{value_same, place_same}
use Rattle.rule_terms.specs.declared.obligation.Atom.TheVariants.{SameName}
use Rattle.rule_terms.specs.declared.obligation.Obligation.{Obligation}
use Rattle.law_clauses.specs.Signed.{minus}
use Rattle.law_clauses.specs.Shapes.{place, is_run}
use Rattle.law_clauses.specs.Listed.{lists_ignores}
use Rattle.escape_marks.specs.declared.escape.Escape.{Escape}
use Rattle.escape_marks.specs.LawsHold.{is_kept}

-- the term writes v at p behind `run k s`
unfoldable pub writes_behind : StoreTerm → ℕ → StoreTerm → Place → ValueTerm → Bool
writes_behind (put u y js w) k s p v = is_run u k s && (place_same (place y js) p && value_same w v)
writes_behind _ k s p v = false

-- the term is `run j (run k s)`
unfoldable pub runs_behind : StoreTerm → ℕ → ℕ → StoreTerm → Bool
runs_behind (run i u) j k s = i == j && is_run u k s
runs_behind _ j k s = false

-- n is not the name of a condition of `ignores`, or the rest of the clause has a literal
abbrev pub name_apart : Obligation → Escape → Kind → ℕ → ℕ → Bool → Condition → Bool
name_apart ob e wanted k n rest (Ignores a x) = not (lists_ignores ob wanted k x) || (is_kept ob.params e (minus (SameName n x)) || rest)
name_apart ob e wanted k n rest _ = true

unfoldable pub names_apart : Obligation → Escape → Kind → ℕ → ℕ → Bool → Bool
names_apart ob e wanted k n rest = list_all (name_apart ob e wanted k n rest) ob.conditions
