-- No meaning: the store terms that an exchange makes, as the code holds them by their parts.
use Rattle.std.specs.Prelude.{ℕ, Bool, false, ◌==◌, ◌&&◌, List, [], ◌∷◌, Option, Some, None}
use Rattle.rule_terms.specs.Term.{StoreTerm, run, ValueTerm, Place}
use Rattle.law_clauses.specs.Shapes.{put_at, is_put}
use Rattle.escape_universe.specs.declared.shape.Shape.{Shape}
use Rattle.escape_universe.specs.declared.shape.Shape.TheVariants.{Run, Runs, Write, WriteBehind, RunBehind}
use Rattle.escape_universe.specs.declared.shape.Exchanged.{Exchanged}

-- a run, a run behind a run, a write, a write behind a run, a run behind a write
abbrev pub shape_term : Shape → StoreTerm
shape_term (Run k s) = run k s.now
shape_term (Runs j k s) = run j (run k s.now)
shape_term (Write s p v) = put_at s.now p.now v.now
shape_term (WriteBehind k s p v) = put_at (run k s.now) p.now v.now
shape_term (RunBehind k s p v) = run k (put_at s.now p.now v.now)

abbrev pub both_terms : Option Exchanged → List StoreTerm
both_terms None = []
both_terms (Some x) = shape_term x.first ∷ shape_term x.second ∷ []

-- the term is `run k (put s p v)`
unfoldable pub runs_write : StoreTerm → ℕ → StoreTerm → Place → ValueTerm → Bool
runs_write (run j t) k s p v = j == k && is_put t s p.name p.indices v
runs_write _ k s p v = false
