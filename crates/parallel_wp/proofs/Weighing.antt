-- Weights are the nodes with stores in place of L and R, and it does not matter for a count that stands still whether the
-- nodes of these stores stood still before.
use Rattle.std.proofs.Common.{◌≡◌, ℕ, ◌+◌, suc, List, [], ◌∷◌, ◌++◌, Option, None, Some, refl, ap, arith, option_map}
use Rattle.rule_terms.specs.Term.{StoreTerm, left_store, right_store, put, run, ValueTerm, num, get, ev, add, sub, mul, ValueTerms, no_terms, term}
use Rattle.rule_terms.specs.Counts.{saturated, store_nodes, atom_nodes, literals_nodes, gives_nodes, conjunct_nodes}
use Rattle.rule_terms.specs.Substitute.{atom_at, literal_at, literals_at}
use Rattle.rule_terms.specs.SubstituteLaws.{store_weight, value_weight, terms_weight}
use Rattle.rule_terms.specs.declared.obligation.Atom.{Atom}
use Rattle.rule_terms.specs.declared.obligation.Atom.TheVariants.{SameName, SameStore, SameValue, AtMost, Ends, Holds}
use Rattle.rule_terms.specs.declared.obligation.Literal.{Literal}
use Rattle.rule_terms.specs.declared.obligation.Conjunct.{Conjunct}
use Rattle.rule_terms.specs.declared.path.Path.{Path}
use Rattle.rule_terms.proofs.Substitutions.{nodes_replaced}
use Rattle.parallel_wp.specs.Precondition.{both_literals, precondition}
use Rattle.parallel_wp.specs.Weight.{atom_weight, literals_weight, gives_weight, conjunct_weight}

-- ---- counts that stood still before
mutual
  unfolding store_weight value_weight terms_weight

  store_still : (a b : ℕ) (s : StoreTerm) → saturated (store_weight (saturated a) (saturated b) s) ≡ saturated (store_weight a b s)
  store_still a b left_store = omega arith
  store_still a b right_store = omega arith
  store_still a b (put s x is v) = omega (arith, store_still a b s, terms_still a b is, value_still a b v)
  store_still a b (run k s) = omega (arith, store_still a b s)

  value_still : (a b : ℕ) (v : ValueTerm) → saturated (value_weight (saturated a) (saturated b) v) ≡ saturated (value_weight a b v)
  value_still a b (num z) = refl
  value_still a b (get x is s) = omega (arith, terms_still a b is, store_still a b s)
  value_still a b (ev k s) = omega (arith, store_still a b s)
  value_still a b (add v w) = omega (arith, value_still a b v, value_still a b w)
  value_still a b (sub v w) = omega (arith, value_still a b v, value_still a b w)
  value_still a b (mul v w) = omega (arith, value_still a b v, value_still a b w)

  terms_still : (a b : ℕ) (vs : ValueTerms) → saturated (terms_weight (saturated a) (saturated b) vs) ≡ saturated (terms_weight a b vs)
  terms_still a b no_terms = refl
  terms_still a b (term v vs) = omega (arith, value_still a b v, terms_still a b vs)

atom_still : (a b : ℕ) (x : Atom) → saturated (atom_weight (saturated a) (saturated b) x) ≡ saturated (atom_weight a b x)
unfolding atom_weight
atom_still a b (SameName x y) = refl
atom_still a b (SameStore s u) = omega (arith, store_still a b s, store_still a b u)
atom_still a b (SameValue v w) = omega (arith, value_still a b v, value_still a b w)
atom_still a b (AtMost v w c) = omega (arith, value_still a b v, value_still a b w)
atom_still a b (Ends s) = store_still a b s
atom_still a b (Holds k s) = store_still a b s

literals_still : (a b : ℕ) (xs : List Literal) → saturated (literals_weight (saturated a) (saturated b) xs) ≡ saturated (literals_weight a b xs)
literals_still a b [] = refl
literals_still a b (x ∷ xs) = omega (arith, atom_still a b x.atom, literals_still a b xs)

gives_still : (a b : ℕ) (o : Option Literal) → saturated (gives_weight (saturated a) (saturated b) o) ≡ saturated (gives_weight a b o)
gives_still a b None = refl
gives_still a b (Some x) = omega (arith, atom_still a b x.atom)

-- ---- nodes with stores in place of L and R
atom_nodes_at : (l r : StoreTerm) (x : Atom) → atom_nodes (atom_at l r x) ≡ atom_weight (store_nodes l) (store_nodes r) x
unfolding atom_nodes atom_at atom_weight
atom_nodes_at l r (SameName x y) = refl
atom_nodes_at l r (SameStore s u) = λ i. nodes_replaced.0 l r s i + nodes_replaced.0 l r u i
atom_nodes_at l r (SameValue v w) = λ i. nodes_replaced.1 l r v i + nodes_replaced.1 l r w i
atom_nodes_at l r (AtMost v w c) = λ i. nodes_replaced.1 l r v i + nodes_replaced.1 l r w i
atom_nodes_at l r (Ends s) = nodes_replaced.0 l r s
atom_nodes_at l r (Holds k s) = nodes_replaced.0 l r s

literals_nodes_at : (l r : StoreTerm) (xs : List Literal) → literals_nodes (literals_at l r xs) ≡ literals_weight (store_nodes l) (store_nodes r) xs
literals_nodes_at l r [] = refl
literals_nodes_at l r (x ∷ xs) = λ i. suc (atom_nodes_at l r x.atom i) + literals_nodes_at l r xs i

gives_nodes_at : (l r : StoreTerm) (o : Option Literal) → gives_nodes (option_map (literal_at l r) o) ≡ gives_weight (store_nodes l) (store_nodes r) o
gives_nodes_at l r None = refl
gives_nodes_at l r (Some x) = ap suc (atom_nodes_at l r x.atom)

pub literals_nodes-append : (xs ys : List Literal) → literals_nodes (xs ++ ys) ≡ literals_nodes xs + literals_nodes ys
literals_nodes-append [] ys = omega arith
literals_nodes-append (x ∷ xs) ys = omega (arith, literals_nodes-append xs ys)

-- ---- the precondition's nodes are those of the paths' literals, and the conjunct's weight
pub weighed : (left right : Path) (c : Conjunct) →
    saturated (saturated (saturated (literals_nodes left.literals) + saturated (literals_nodes right.literals))
    + saturated (conjunct_weight (saturated (store_nodes left.store)) (saturated (store_nodes right.store)) c))
    ≡ saturated (conjunct_nodes (precondition left right c))
weighed left right c =
    omega (
      arith,
      literals_nodes-append (both_literals left right) (literals_at left.store right.store c.when),
      literals_nodes-append left.literals right.literals,
      literals_nodes_at left.store right.store c.when,
      gives_nodes_at left.store right.store c.gives,
      literals_still (store_nodes left.store) (store_nodes right.store) c.when,
      gives_still (store_nodes left.store) (store_nodes right.store) c.gives,
    )
