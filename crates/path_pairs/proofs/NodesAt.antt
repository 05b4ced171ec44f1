-- The terms of an expression and the outcomes of a test at a store have as many nodes as the counts say.
use Rattle.std.specs.Prelude.{◌≡◌, ℕ, suc, ◌+◌, ◌-◌, ◌≤◌, ◌⊎◌, min, max, Bool, true, false, not, ◌||◌, nat_le, List, [], ◌∷◌, ◌++◌, map, refl}
use Rattle.std.specs.List.{list_any}
use Rattle.std.proofs.Common.{sym, ◌∙◌, ap, subst, inl, inr, arith}
use Rattle.std.proofs.lemmas.Bool.Decides.{nat_tests}
use Rattle.std.proofs.lemmas.List.Folds.{list_any-append}
use Rattle.toy_imp.specs.Expr.{Expr, num, at, add, sub, mul, par_expr, Exprs, no_exprs, expr}
use Rattle.toy_imp.specs.Test.{Test, less, less_eq, equal, not_of, and_of, or_of, par_test}
use Rattle.rule_terms.specs.Term.{StoreTerm}
use Rattle.rule_terms.specs.Term as term
use Rattle.rule_terms.specs.declared.obligation.Atom.TheVariants.{Ends}
use Rattle.rule_terms.specs.ValueAt.{value_at, values_at}
use Rattle.rule_terms.specs.Counts.{store_nodes, value_nodes, terms_nodes, atom_nodes, literals_nodes}
use Rattle.rule_terms.specs.declared.obligation.Literal.{Literal}
use Rattle.path_pairs.specs.NodeCounts.{expr_nodes, exprs_nodes, outcome_nodes}
use Rattle.path_pairs.specs.Outcomes.{both, outcomes}
use Rattle.path_pairs.proofs.Stopping.{or_cases}

mutual
  unfolding value_at values_at value_nodes terms_nodes expr_nodes exprs_nodes

  pub nodes_at : (e : Expr) (s : StoreTerm) → value_nodes (value_at e s) ≡ expr_nodes e (store_nodes s)
  nodes_at (num z) s = refl
  nodes_at (at x es) s = ap (λ n. suc (n + store_nodes s)) (nodes_at_all es s)
  nodes_at (add a b) s = λ i. suc (nodes_at a s i + nodes_at b s i)
  nodes_at (sub a b) s = λ i. suc (nodes_at a s i + nodes_at b s i)
  nodes_at (mul a b) s = λ i. suc (nodes_at a s i + nodes_at b s i)
  nodes_at (par_expr k) s = refl

  pub nodes_at_all : (es : Exprs) (s : StoreTerm) → terms_nodes (values_at es s) ≡ exprs_nodes es (store_nodes s)
  nodes_at_all no_exprs s = refl
  nodes_at_all (expr e es) s = λ i. nodes_at e s i + nodes_at_all es s i

pub literals_append : (xs ys : List Literal) → literals_nodes (xs ++ ys) ≡ literals_nodes xs + literals_nodes ys
literals_append [] ys = omega arith
literals_append (x ∷ xs) ys = let e : literals_nodes (xs ++ ys) ≡ literals_nodes xs + literals_nodes ys = literals_append xs ys in omega (arith, e)

-- of the store after a step, and of what says that it is one
pub put_nodes : (s : StoreTerm) (k : ℕ) (es : Exprs) (e : Expr) (n : ℕ) → n ≡ store_nodes s
    → store_nodes (term.put s k (values_at es s) (value_at e s)) ≡ n + (exprs_nodes es n + expr_nodes e n) + 1
unfolding store_nodes
put_nodes s k es e n h =
    let all : suc (store_nodes s + (exprs_nodes es (store_nodes s) + expr_nodes e (store_nodes s))) ≡ suc (n + (exprs_nodes es n + expr_nodes e n)) =
    ap (λ m. suc (m + (exprs_nodes es m + expr_nodes e m))) (sym h) in
    (λ i. suc (store_nodes s + (nodes_at_all es s i + nodes_at e s i))) ∙ all ∙ omega arith

pub run_nodes : (k : ℕ) (s : StoreTerm) → store_nodes (term.run k s) ≡ store_nodes s + 1
unfolding store_nodes
run_nodes k s = omega arith

pub end_nodes : (ls : List Literal) (sign : Bool) (k : ℕ) (s : StoreTerm)
    → literals_nodes (ls ++ record { sign = sign; atom = Ends (term.run k s) } ∷ []) ≡ literals_nodes ls + (store_nodes s + 2)
unfolding atom_nodes store_nodes
end_nodes ls sign k s = literals_append ls (record { sign = sign; atom = Ends (term.run k s) } ∷ []) ∙ omega arith

pub with_end_is : (all ls before : List Literal) (sign : Bool) (k : ℕ) (s t : StoreTerm) → all ≡ before ++ record { sign = sign; atom = Ends t } ∷ [] → before ≡ ls → t ≡ term.run k s
    → all ≡ ls ++ record { sign = sign; atom = Ends (term.run k s) } ∷ []
with_end_is all ls before sign k s t e d c = e ∙ (λ i. d i ++ record { sign = sign; atom = Ends (c i) } ∷ [])

-- an outcome of so many nodes at least
abbrev pub has_nodes : ℕ → List Literal → Bool
has_nodes n o = nat_le n (literals_nodes o)

pub le_test : (a b : ℕ) → a ≤ b → nat_le a b ≡ true
le_test a b h = grind (arith, nat_tests)

pub le_is : (a b : ℕ) → nat_le a b ≡ true → a ≤ b
le_is a b h = grind (arith, nat_tests)

or_left : (x y : Bool) → x ≡ true → (x || y) ≡ true
or_left true y h = refl
or_left false y h = cc

or_right : (x y : Bool) → y ≡ true → (x || y) ≡ true
or_right true y h = refl
or_right false y h = h

in_first : (p : List Literal → Bool) (xs ys : List (List Literal)) → list_any p xs ≡ true → list_any p (xs ++ ys) ≡ true
in_first p xs ys h = list_any-append p xs ys ∙ or_left (list_any p xs) (list_any p ys) h

in_second : (p : List Literal → Bool) (xs ys : List (List Literal)) → list_any p ys ≡ true → list_any p (xs ++ ys) ≡ true
in_second p xs ys h = list_any-append p xs ys ∙ or_right (list_any p xs) (list_any p ys) h

joint_nodes : (m n : ℕ) (x y : List Literal) → has_nodes m x ≡ true → has_nodes n y ≡ true → has_nodes (m + n) (x ++ y) ≡ true
joint_nodes m n x y h k = le_test (m + n) (literals_nodes (x ++ y)) (omega (arith, literals_append x y, le_is m (literals_nodes x) h, le_is n (literals_nodes y) k))

-- behind a first outcome, and behind each
behind_one : (m n : ℕ) (x : List Literal) (seconds : List (List Literal)) → has_nodes m x ≡ true → list_any (has_nodes n) seconds ≡ true
    → list_any (has_nodes (m + n)) (map (λ second. x ++ second) seconds) ≡ true
behind_one m n x [] h k = cc
behind_one m n x (y ∷ seconds) h k =
    elim (or_cases (has_nodes n y) (list_any (has_nodes n) seconds) k) [
      | inl d ↦ or_left (has_nodes (m + n) (x ++ y)) _ (joint_nodes m n x y h d)
      | inr d ↦ or_right (has_nodes (m + n) (x ++ y)) _ (behind_one m n x seconds h d)
    ]

in_both : (m n : ℕ) (firsts seconds : List (List Literal)) → list_any (has_nodes m) firsts ≡ true → list_any (has_nodes n) seconds ≡ true
    → list_any (has_nodes (m + n)) (both firsts seconds) ≡ true
in_both m n [] seconds h k = cc
in_both m n (x ∷ firsts) seconds h k =
    elim (or_cases (has_nodes m x) (list_any (has_nodes m) firsts) h) [
      | inl d ↦ in_first (has_nodes (m + n)) (map (λ second. x ++ second) seconds) (both firsts seconds) (behind_one m n x seconds d k)
      | inr d ↦ in_second (has_nodes (m + n)) (map (λ second. x ++ second) seconds) (both firsts seconds) (in_both m n firsts seconds d k)
    ]

at_most_greater : (j m n : ℕ) (b : Bool) → nat_le j m ≡ b → j ≤ max m n → (j ≤ m) ⊎ (j ≤ n)
at_most_greater j m n true e h = inl (le_is j m e)
at_most_greater j m n false e h = inr (grind (arith, nat_tests))

-- some outcome has so many nodes, or any lesser number
abbrev HasUpTo : List (List Literal) → ℕ → Type 0
HasUpTo found n = (j : ℕ) → j ≤ n → list_any (has_nodes j) found ≡ true

together : (m n : ℕ) (firsts seconds : List (List Literal)) → HasUpTo firsts m → HasUpTo seconds n → HasUpTo (both firsts seconds) (m + n)
together m n firsts seconds f g j h =
    let parts : min j m + (j - min j m) ≡ j = omega arith in
    subst (λ k. list_any (has_nodes k) (both firsts seconds) ≡ true) parts
    (in_both (min j m) (j - min j m) firsts seconds (f (min j m) (omega arith)) (g (j - min j m) (omega (arith, h))))

either_way : (l m n : ℕ) (firsts thens seconds : List (List Literal)) → HasUpTo firsts l → HasUpTo thens m → HasUpTo seconds n → HasUpTo (firsts ++ both thens seconds) (max l (m + n))
either_way l m n firsts thens seconds f g k j h =
    elim (at_most_greater j l (m + n) (nat_le j l) refl h) [
      | inl d ↦ in_first (has_nodes j) firsts (both thens seconds) (f j d)
      | inr d ↦ in_second (has_nodes j) firsts (both thens seconds) (together m n thens seconds g k j d)
    ]

one_literal : (j m n : ℕ) → m ≡ n → j ≤ suc n → (nat_le j (suc m + 0) || false) ≡ true
one_literal j m n e h = or_left (nat_le j (suc m + 0)) false (le_test j (suc m + 0) (omega (arith, e, h)))

two_terms : (a b : Expr) (s : StoreTerm) → value_nodes (value_at a s) + value_nodes (value_at b s) ≡ expr_nodes a (store_nodes s) + expr_nodes b (store_nodes s)
two_terms a b s = λ i. nodes_at a s i + nodes_at b s i

pub some_has_nodes : (t : Test) (way : Bool) (s : StoreTerm) → HasUpTo (outcomes t way s) (outcome_nodes t way (store_nodes s))
unfolding outcomes outcome_nodes atom_nodes
some_has_nodes (less a b) way s j h = one_literal j _ _ (two_terms a b s) h
some_has_nodes (less_eq a b) way s j h = one_literal j _ _ (two_terms a b s) h
some_has_nodes (equal a b) way s j h = one_literal j _ _ (two_terms a b s) h
some_has_nodes (not_of t) way s j h = some_has_nodes t (not way) s j h
some_has_nodes (and_of t u) true s j h = together _ _ _ _ (some_has_nodes t true s) (some_has_nodes u true s) j h
some_has_nodes (and_of t u) false s j h = either_way _ _ _ _ _ _ (some_has_nodes t false s) (some_has_nodes t true s) (some_has_nodes u false s) j h
some_has_nodes (or_of t u) true s j h = either_way _ _ _ _ _ _ (some_has_nodes t true s) (some_has_nodes t false s) (some_has_nodes u true s) j h
some_has_nodes (or_of t u) false s j h = together _ _ _ _ (some_has_nodes t false s) (some_has_nodes u false s) j h
some_has_nodes (par_test k) way s j h = one_literal j _ _ refl h
