-- The names of a rule and the terms of a universe as one list, and the tops and arguments of its items.
use Rattle.std.specs.Prelude.{ℕ, suc, Bool, false, List, [], ◌∷◌, ◌++◌, map}
use Rattle.toy_imp.specs.declared.param.Kind.{Kind}
use Rattle.toy_imp.specs.declared.param.Kind.TheVariants as kind
use Rattle.rule_terms.specs.Term.{StoreTerm, ValueTerm}
use Rattle.law_clauses.specs.Arguments.{Argument, of_name, of_store, of_value, store_arguments, value_arguments, store_top, value_top}

-- the numbers of the parameters of kind name, in order, where the first kind is that of parameter k
abbrev pub names_from : ℕ → List Kind → List ℕ
names_from k [] = []
names_from k (kind.Name ∷ kinds) = k ∷ names_from (suc k) kinds
names_from k (kind.Expr ∷ kinds) = names_from (suc k) kinds
names_from k (kind.Test ∷ kinds) = names_from (suc k) kinds
names_from k (kind.Stmt ∷ kinds) = names_from (suc k) kinds

-- names, store terms and value terms, in this order
unfoldable pub all_terms : List Kind → List StoreTerm → List ValueTerm → List Argument
all_terms params stores values = map of_name (names_from 0 params) ++ (map of_store stores ++ map of_value values)

-- a name has no arguments
abbrev pub arguments : Argument → List Argument
arguments (of_name x) = []
arguments (of_store s) = store_arguments s
arguments (of_value v) = value_arguments v

-- .. and no top that another name could share
abbrev pub same_top : Argument → Argument → Bool
same_top (of_store s) (of_store t) = store_top s t
same_top (of_value v) (of_value w) = value_top v w
same_top _ _ = false
