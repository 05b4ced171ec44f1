-- A term is narrow where every sum, difference and product in it, and every part of an expression that is evaluated for it, has
-- a value of 128 bits with its sign. Where there is no store nothing is evaluated.
use Rattle.std.specs.Prelude.{List, Option, Some, None}
use Rattle.toy_imp.specs.declared.instance.Instance.{Instance}
use Rattle.toy_imp.specs.Store.{Store}
use Rattle.toy_imp.specs.Fill.{expr_at}
use Rattle.toy_imp.specs.Expr.{Expr}
use Rattle.toy_run.specs.Narrow.{IsNarrow, NarrowExpr}
use Rattle.rule_terms.specs.Term.{StoreTerm, left_store, right_store, put, run, ValueTerm, num, get, ev, add, sub, mul, ValueTerms, no_terms, term}
use Rattle.term_meaning.specs.Table.{Entry}
use Rattle.term_meaning.specs.Meaning.{store_of, value_of}

abbrev pub NarrowIn : Option Store → Expr → Type 0
NarrowIn None e = Unit {0}
NarrowIn (Some s) e = NarrowExpr e s

module _ (i : Instance) (T : List Entry) (l r : Store) where
  unfoldable mutual
    pub NarrowStore : StoreTerm → Type 0
    NarrowStore left_store = Unit {0}
    NarrowStore right_store = Unit {0}
    NarrowStore (put s x is v) = NarrowStore s × (NarrowValues is × NarrowValue v)
    NarrowStore (run k s) = NarrowStore s

    pub NarrowValue : ValueTerm → Type 0
    NarrowValue (num z) = Unit {0}
    NarrowValue (get x is s) = NarrowValues is × NarrowStore s
    NarrowValue (ev k s) = NarrowStore s × NarrowIn (store_of i T l r s) (expr_at i k)
    NarrowValue (add a b) = (NarrowValue a × NarrowValue b) × IsNarrow (value_of i T l r (add a b))
    NarrowValue (sub a b) = (NarrowValue a × NarrowValue b) × IsNarrow (value_of i T l r (sub a b))
    NarrowValue (mul a b) = (NarrowValue a × NarrowValue b) × IsNarrow (value_of i T l r (mul a b))

    pub NarrowValues : ValueTerms → Type 0
    NarrowValues no_terms = Unit {0}
    NarrowValues (term v vs) = NarrowValue v × NarrowValues vs
