-- The law of clauses, on which the steps of refutations that cite a law stand.
-- The answer that is shown in it is a coded one: some number at which f is true.
use Rattle.std.specs.Prelude.{◌≡◌, ℕ, Bool, true, false, List}
use Rattle.std.specs.List.{list_any}
use Rattle.toy_imp.specs.declared.instance.Instance.{Instance}
use Rattle.toy_imp.specs.Store.{Store}
use Rattle.toy_imp.specs.Meets.{MeetsAll}
use Rattle.rule_terms.specs.declared.obligation.Literal.{Literal}
use Rattle.rule_terms.specs.declared.obligation.Obligation.{Obligation}
use Rattle.term_meaning.specs.Table.{Entry, Faithful}
use Rattle.term_meaning.specs.Meaning.{literal_truth, CoversLiterals, fits_kinds, Reached}
use Rattle.law_clauses.specs.Signed.{all_signed}
use Rattle.law_clauses.specs.Laws.{is_clause}

-- a clause of a law has a true literal, under every instance that fits the kinds of the obligation's parameters and meets its conditions,
-- and every two stores: were all its literals false under a table that is faithful for an answer and covers them, there is the answer
abbrev pub ClausesAreTrue : Type 0
ClausesAreTrue = (f : ℕ → Bool) (i : Instance) (T : List Entry) (l r : Store) → Faithful (Reached f) i T → (ob : Obligation) → fits_kinds ob.params i.fillings ≡ true → MeetsAll i ob.conditions → (k : ℕ) (clause : List Literal) → is_clause ob k (all_signed clause) ≡ true → CoversLiterals i T l r clause → list_any (literal_truth i T l r) clause ≡ false → Reached f
