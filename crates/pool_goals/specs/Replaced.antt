-- Terms by numbers with two stores in place of L and R: which number stands for which term, and what the pool got for it.
-- `left` and `right` are the numbers of the two stores.
use Rattle.std.specs.Prelude.{◌≡◌, ℕ, Bool, true, cond, nat_eq, List, map, Option, Some, option_map}
use Rattle.std.specs.List.{list_all}
use Rattle.std.specs.Map.{lookup}
use Rattle.rule_terms.specs.Term.{StoreTerm}
use Rattle.rule_terms.specs.Substitute.{store_at, value_term_at, terms_at, atom_at, literal_at, literals_at, conjunct_at}
use Rattle.rule_terms.specs.declared.obligation.Conjunct.{Conjunct}
use Rattle.term_pool.specs.declared.node.Node.{Node}
use Rattle.term_pool.specs.declared.pooled.PooledAtom.{PooledAtom}
use Rattle.term_pool.specs.declared.pooled.PooledLiteral.{PooledLiteral}
use Rattle.term_pool.specs.declared.pooled.PooledConjunct.{PooledConjunct}
use Rattle.term_pool.specs.Numbered.{Term, a_store, a_value, store_numbered, values_numbered, has_store, has_values, terms_of_nodes, IsNumber}
use Rattle.term_pool.specs.Growth.{Adds, store_terms, value_terms, indices_terms}
use Rattle.term_pool.specs.ObligationTerms.{atom_terms, literal_terms, literals_terms, gives_terms, conjunct_terms, conjuncts_terms}
use Rattle.term_pool.specs.Pooled.{atom_in, atom_numbered, literal_in, literal_numbered, gives_in, gives_numbered, conjunct_in, conjunct_numbered}

abbrev pub term_at : StoreTerm → StoreTerm → Term → Term
term_at l r (a_store s) = a_store (store_at l r s)
term_at l r (a_value v) = a_value (value_term_at l r v)

abbrev pub term_terms : Term → List Term
term_terms (a_store s) = store_terms s
term_terms (a_value v) = value_terms v

-- the conjunct that a conjunct by numbers stands for, with the stores of two numbers for L and R
abbrev pub conjunct_replaced : List Node → ℕ → ℕ → PooledConjunct → Conjunct
conjunct_replaced ns left right c = conjunct_at (store_numbered (terms_of_nodes ns) left) (store_numbered (terms_of_nodes ns) right) (conjunct_numbered (terms_of_nodes ns) c)

-- From pool a to pool b, where two numbers are of the stores l and r: m is the number of n's term with l for L and r for R, and what of
-- it was missing was added.
pub record NumberAt (a b : List Node) (left right n m : ℕ) : Type 0 where
  pub at : (l r : StoreTerm) (t : Term) → IsNumber a left (a_store l) → IsNumber a right (a_store r) → IsNumber a n t
      → (IsNumber b m (term_at l r t) × Adds a b (term_terms (term_at l r t)))

-- the same of an item x whose numbers are of pool a: y stands for it with l for L and r for R
pub record ItemAt {X Y : Type 0} (inside : List Term → X → Bool) (of : List Term → X → Y) (put : StoreTerm → StoreTerm → Y → Y) (terms : Y → List Term)
    (a b : List Node) (left right : ℕ) (x y : X) : Type 0 where
  pub at : (l r : StoreTerm) → IsNumber a left (a_store l) → IsNumber a right (a_store r) → inside (terms_of_nodes a) x ≡ true
      → (((inside (terms_of_nodes b) y ≡ true) × (of (terms_of_nodes b) y ≡ put l r (of (terms_of_nodes a) x))) × Adds a b (terms (put l r (of (terms_of_nodes a) x))))

abbrev pub NumbersAt : List Node → List Node → ℕ → ℕ → List ℕ → List ℕ → Type 0
NumbersAt = ItemAt has_values values_numbered terms_at indices_terms

abbrev pub AtomAt : List Node → List Node → ℕ → ℕ → PooledAtom → PooledAtom → Type 0
AtomAt = ItemAt atom_in atom_numbered atom_at atom_terms

abbrev pub LiteralAt : List Node → List Node → ℕ → ℕ → PooledLiteral → PooledLiteral → Type 0
LiteralAt = ItemAt literal_in literal_numbered literal_at literal_terms

abbrev pub LiteralsAt : List Node → List Node → ℕ → ℕ → List PooledLiteral → List PooledLiteral → Type 0
LiteralsAt = ItemAt (λ ts xs. list_all (literal_in ts) xs) (λ ts xs. map (literal_numbered ts) xs) literals_at literals_terms

abbrev pub GivesAt : List Node → List Node → ℕ → ℕ → Option PooledLiteral → Option PooledLiteral → Type 0
GivesAt = ItemAt gives_in gives_numbered (λ l r g. option_map (literal_at l r) g) gives_terms

abbrev pub ConjunctAt : List Node → List Node → ℕ → ℕ → PooledConjunct → PooledConjunct → Type 0
ConjunctAt = ItemAt conjunct_in conjunct_numbered conjunct_at conjunct_terms

abbrev pub ConjunctsAt : List Node → List Node → ℕ → ℕ → List PooledConjunct → List PooledConjunct → Type 0
ConjunctsAt = ItemAt (λ ts cs. list_all (conjunct_in ts) cs) (λ ts cs. map (conjunct_numbered ts) cs) (λ l r cs. map (conjunct_at l r) cs) conjuncts_terms

-- the number that is kept for a number
abbrev pub made_at : List (ℕ × ℕ) → ℕ → Option ℕ
made_at made n = lookup (nat_eq n) made

-- m is kept for n, and for each other number what was kept before
abbrev pub Makes : List (ℕ × ℕ) → List (ℕ × ℕ) → ℕ → ℕ → Type 0
Makes old new n m = (k : ℕ) → made_at new k ≡ cond (nat_eq n k) (Some m) (made_at old k)

-- a number that stands in place of another
pub record Replaced (ns : List Node) (left right n m : ℕ) : Type 0 where
  pub l : StoreTerm
  pub r : StoreTerm
  pub t : Term
  pub left_is : IsNumber ns left (a_store l)
  pub right_is : IsNumber ns right (a_store r)
  pub from : IsNumber ns n t
  pub is : IsNumber ns m (term_at l r t)

-- two numbers are of stores, and what is kept stands in place of what it is kept for
pub record Sound (ns : List Node) (left right : ℕ) (made : List (ℕ × ℕ)) : Type 0 where
  pub left_is : has_store (terms_of_nodes ns) left ≡ true
  pub right_is : has_store (terms_of_nodes ns) right ≡ true
  pub kept : (n m : ℕ) → made_at made n ≡ Some m → Replaced ns left right n m
