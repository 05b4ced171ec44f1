-- An argument of a term as the code hands it on, and the arguments of a number.
use Rattle.std.specs.Prelude.{ℕ, [], ◌∷◌, Option, slice_get}
use Rattle.rule_terms.specs.Term.{StoreTerm, ValueTerm, Place}
use Rattle.law_clauses.specs.Arguments as plain
use Rattle.law_clauses.specs.declared.arguments.Argument.{Argument}
use Rattle.law_clauses.specs.declared.arguments.Argument.TheVariants.{Name, Store, Value}

abbrev pub argument_of : Argument → plain.Argument
argument_of (Name k) = plain.of_name k
argument_of (Store s) = plain.of_store s.now
argument_of (Value v) = plain.of_value v.now

abbrev pub nth_store_argument : StoreTerm → ℕ → Option plain.Argument
nth_store_argument t n = slice_get (plain.store_arguments t) n

abbrev pub nth_value_argument : ValueTerm → ℕ → Option plain.Argument
nth_value_argument v n = slice_get (plain.value_arguments v) n

-- .. of the indices of a place and one more behind them
abbrev pub nth_index : Place → Argument → ℕ → Option plain.Argument
nth_index p last n = slice_get (plain.index_arguments p.indices (argument_of last ∷ [])) n
