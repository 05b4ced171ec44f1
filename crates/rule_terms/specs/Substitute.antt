-- Terms with stores in place of L and R: what a term, a literal or a conjunct says of the stores where two paths arrive.
-- `store_at l r s` is the store term s with l for L and r for R; so of the others.
use Rattle.std.specs.Prelude.{List, map, option_map}
use Rattle.rule_terms.specs.Term.{StoreTerm, left_store, right_store, put, run, ValueTerm, num, get, ev, add, sub, mul, ValueTerms, no_terms, term}
use Rattle.rule_terms.specs.declared.obligation.Atom.{Atom}
use Rattle.rule_terms.specs.declared.obligation.Atom.TheVariants.{SameName, SameStore, SameValue, AtMost, Ends, Holds}
use Rattle.rule_terms.specs.declared.obligation.Literal.{Literal}
use Rattle.rule_terms.specs.declared.obligation.Conjunct.{Conjunct}

unfoldable mutual
  pub store_at : StoreTerm → StoreTerm → StoreTerm → StoreTerm
  store_at l r left_store = l
  store_at l r right_store = r
  store_at l r (put s x is v) = put (store_at l r s) x (terms_at l r is) (value_term_at l r v)
  store_at l r (run k s) = run k (store_at l r s)

  pub value_term_at : StoreTerm → StoreTerm → ValueTerm → ValueTerm
  value_term_at l r (num z) = num z
  value_term_at l r (get x is s) = get x (terms_at l r is) (store_at l r s)
  value_term_at l r (ev k s) = ev k (store_at l r s)
  value_term_at l r (add a b) = add (value_term_at l r a) (value_term_at l r b)
  value_term_at l r (sub a b) = sub (value_term_at l r a) (value_term_at l r b)
  value_term_at l r (mul a b) = mul (value_term_at l r a) (value_term_at l r b)

  pub terms_at : StoreTerm → StoreTerm → ValueTerms → ValueTerms
  terms_at l r no_terms = no_terms
  terms_at l r (term v vs) = term (value_term_at l r v) (terms_at l r vs)

unfoldable pub atom_at : StoreTerm → StoreTerm → Atom → Atom
atom_at l r (SameName x y) = SameName x y
atom_at l r (SameStore a b) = SameStore (store_at l r a) (store_at l r b)
atom_at l r (SameValue a b) = SameValue (value_term_at l r a) (value_term_at l r b)
atom_at l r (AtMost a b c) = AtMost (value_term_at l r a) (value_term_at l r b) c
atom_at l r (Ends s) = Ends (store_at l r s)
atom_at l r (Holds k s) = Holds k (store_at l r s)

abbrev pub literal_at : StoreTerm → StoreTerm → Literal → Literal
literal_at l r x = record { sign = x.sign; atom = atom_at l r x.atom }

abbrev pub literals_at : StoreTerm → StoreTerm → List Literal → List Literal
literals_at l r xs = map (literal_at l r) xs

abbrev pub conjunct_at : StoreTerm → StoreTerm → Conjunct → Conjunct
conjunct_at l r c = record { when = literals_at l r c.when; gives = option_map (literal_at l r) c.gives }
