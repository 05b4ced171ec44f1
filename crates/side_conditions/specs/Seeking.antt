-- The kinds of places that are sought in a text: those of a name, with any indices, without indices, or with some.
-- A text reads, or writes, a name where it does so at some place of that name.
use Rattle.std.specs.Prelude.{ℕ, Bool, true, false, ◌&&◌, List, bytes_eq}
use Rattle.toy_imp.specs.declared.name.Name.{Name}
use Rattle.toy_imp.specs.Cell.{spelled}
use Rattle.toy_imp.specs.Expr.{Exprs, no_exprs, expr}
use Rattle.toy_imp.specs.Block.{Block}
use Rattle.side_conditions.specs.declared.places.Form.{Form}
use Rattle.side_conditions.specs.declared.places.Form.TheVariants as form
use Rattle.side_conditions.specs.declared.places.Sought.{Sought}
use Rattle.side_conditions.specs.Places.{block_reads, block_writes}

-- a place of the name of these bytes
abbrev pub named : List ℕ → Name → Exprs → Bool
named z x es = bytes_eq (spelled x) z

-- as many indices as the form wants
abbrev pub has_form : Form → Exprs → Bool
has_form form.Any es = true
has_form form.Variable no_exprs = true
has_form form.Variable (expr e es) = false
has_form form.Indexed no_exprs = false
has_form form.Indexed (expr e es) = true

abbrev pub sought : Sought → Name → Exprs → Bool
sought q x es = named q.name.now x es && has_form q.form es

abbrev pub reads_name : Block → List ℕ → Bool
reads_name b z = block_reads (named z) b

abbrev pub writes_name : Block → List ℕ → Bool
writes_name b z = block_writes (named z) b
