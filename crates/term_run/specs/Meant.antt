-- What an answer says: nothing where a number is too wide, else the store that is meant, or none.
-- A setting gives an instance, a table of runs and the stores of both sides.
use Rattle.std.specs.Prelude.{◌≡◌, ℤ, List, map, Option, Some, None, option_map}
use Rattle.std.specs.Option.{SomeIff}
use Rattle.toy_imp.specs.Store.{Store}
use Rattle.toy_imp.specs.Expr.{Expr}
use Rattle.rule_terms.specs.Term.{StoreTerm, ValueTerm, ValueTerms}
use Rattle.term_meaning.specs.MaybeStore.{value_in}
use Rattle.term_meaning.specs.Table.{Entry}
use Rattle.term_meaning.specs.Meaning.{store_of, value_of, values_of}
use Rattle.term_run.specs.declared.meant.Meant.{Meant}
use Rattle.term_run.specs.declared.meant.Meant.TheVariants as answer
use Rattle.term_run.specs.declared.meant.Run.{Run}
use Rattle.term_run.specs.declared.meant.Setting.{Setting}
use Rattle.term_run.specs.Cells.{store_by}
use Rattle.term_run.specs.Narrow.{NarrowIn, NarrowStore, NarrowValue, NarrowValues}

abbrev pub meant : Meant → Option (Option Store)
meant (answer.Store cells) = Some (Some (store_by cells))
meant answer.Nothing = Some None
meant answer.Wide = None

abbrev pub entry_of : Run → Entry
entry_of run = record { statement = run.statement; from = store_by run.from; to = option_map store_by run.to }

abbrev pub table_of : List Run → List Entry
table_of runs = map entry_of runs

-- what terms mean in a setting, and where they are narrow
abbrev pub store_in : Setting → StoreTerm → Option Store
store_in w u = store_of w.instance (table_of w.table) (store_by w.left) (store_by w.right) u

abbrev pub value_of_term : Setting → ValueTerm → ℤ
value_of_term w v = value_of w.instance (table_of w.table) (store_by w.left) (store_by w.right) v

abbrev pub values_of_terms : Setting → ValueTerms → List ℤ
values_of_terms w vs = values_of w.instance (table_of w.table) (store_by w.left) (store_by w.right) vs

abbrev pub IsNarrowStore : Setting → StoreTerm → Type 0
IsNarrowStore w u = NarrowStore w.instance (table_of w.table) (store_by w.left) (store_by w.right) u

abbrev pub IsNarrowValue : Setting → ValueTerm → Type 0
IsNarrowValue w v = NarrowValue w.instance (table_of w.table) (store_by w.left) (store_by w.right) v

abbrev pub AreNarrow : Setting → ValueTerms → Type 0
AreNarrow w vs = NarrowValues w.instance (table_of w.table) (store_by w.left) (store_by w.right) vs

-- the value of an expression in what an answer says
abbrev pub Evaluates : Option (Option Store) → Expr → Option ℤ → Type 0
Evaluates None e v = v ≡ None
Evaluates (Some o) e v = SomeIff v (NarrowIn o e) (value_in o e)
