-- Conjuncts by numbers behind the literals of both paths stand for the preconditions.
use Rattle.std.specs.Prelude.{◌≡◌, Bool, true, List, [], ◌∷◌, ◌++◌, map, refl}
use Rattle.std.specs.List.{list_all}
use Rattle.std.proofs.Common.{sym, ◌∙◌, ap, subst}
use Rattle.std.proofs.lemmas.List.{map-append}
use Rattle.std.proofs.lemmas.List.Folds.{list_all-append}
use Rattle.rule_terms.specs.Substitute.{literal_at, conjunct_at}
use Rattle.rule_terms.specs.declared.obligation.Literal.{Literal}
use Rattle.rule_terms.specs.declared.obligation.Conjunct.{Conjunct}
use Rattle.rule_terms.specs.declared.path.Path.{Path}
use Rattle.term_pool.specs.declared.node.Node.{Node}
use Rattle.term_pool.specs.declared.pooled.PooledLiteral.{PooledLiteral}
use Rattle.term_pool.specs.declared.pooled.PooledConjunct.{PooledConjunct}
use Rattle.term_pool.specs.Numbered.{Term, store_numbered, terms_of_nodes, has_store}
use Rattle.term_pool.specs.Growth.{Adds, Extends}
use Rattle.term_pool.specs.ObligationTerms.{literal_terms, conjuncts_terms}
use Rattle.term_pool.specs.Pooled.{literal_in, literal_numbered, gives_in, conjunct_in, conjunct_numbered, ConjunctsOf}
use Rattle.term_pool.proofs.Places.{both, and_true}
use Rattle.term_pool.proofs.Grown.{store_found}
use Rattle.parallel_wp.specs.Precondition.{both_literals, precondition}
use Rattle.pool_goals.specs.declared.path.PooledPath.{PooledPath}
use Rattle.pool_goals.specs.Before.{path_numbered, path_in, goals_numbered, preconditions_numbered, behind}
use Rattle.pool_goals.specs.Replaced.{ConjunctsAt}
use Rattle.pool_goals.proofs.Arms.{extends_within}
use Rattle.pool_goals.proofs.ItemSteps.{literal_stays, all_stay}

-- a conjunct behind literals
in_front : List Literal → Conjunct → Conjunct
in_front ls c = record { when = ls ++ c.when; gives = c.gives }

all_in : {X : Type 0} (p : X → Bool) (xs ys : List X) → list_all p xs ≡ true → list_all p ys ≡ true → list_all p (xs ++ ys) ≡ true
all_in p xs ys h k = list_all-append p xs ys ∙ and_true h k

module _ (ts : List Term) (xs : List PooledLiteral) (ls : List Literal) (h : list_all (literal_in ts) xs ≡ true) (e : map (literal_numbered ts) xs ≡ ls) where
  all_behind : (gs : List PooledConjunct) → list_all (conjunct_in ts) gs ≡ true
      → (list_all (conjunct_in ts) (map (behind xs) gs) ≡ true) × (map (conjunct_numbered ts) (map (behind xs) gs) ≡ map (in_front ls) (map (conjunct_numbered ts) gs))
  unfolding in_front
  all_behind [] k = (refl, refl)
  all_behind (g ∷ gs) k =
      let b = both (conjunct_in ts g) (list_all (conjunct_in ts) gs) k in
      let c = both (list_all (literal_in ts) g.when) (gives_in ts g.gives) b.0 in
      let rest = all_behind gs b.1 in (
        and_true (and_true (all_in (literal_in ts) xs g.when h c.0) c.1) rest.0,
        λ j. record {
          when = (map-append (literal_numbered ts) xs g.when ∙ ap (λ zs. zs ++ map (literal_numbered ts) g.when) e) j;
          gives = (conjunct_numbered ts g).gives;
        } ∷ rest.1 j,
      )

all_preconditions : (left right : Path) (cs : List Conjunct) → map (in_front (both_literals left right)) (map (conjunct_at left.store right.store) cs) ≡ map (precondition left right) cs
unfolding in_front
all_preconditions left right [] = refl
all_preconditions left right (c ∷ cs) = ap (λ l. precondition left right c ∷ l) (all_preconditions left right cs)

pub befores : {a b : List Node} (left right : PooledPath) (cs gs ys : List PooledConjunct) → path_in (terms_of_nodes a) left ≡ true → path_in (terms_of_nodes a) right ≡ true
    → list_all (conjunct_in (terms_of_nodes a)) cs ≡ true → ConjunctsAt a b left.store right.store cs gs → Extends a b → ys ≡ map (behind (left.literals ++ right.literals)) gs
    → ConjunctsOf b ys (preconditions_numbered a left right cs) × Adds a b (conjuncts_terms (goals_numbered a left right cs))
befores {a} {b} left right cs gs ys hl hr h f ab is =
    let ts = terms_of_nodes a in
    let us = terms_of_nodes b in
    let x = both (list_all (literal_in ts) left.literals) (has_store ts left.store) hl in
    let y = both (list_all (literal_in ts) right.literals) (has_store ts right.store) hr in
    let goals = f.at (store_numbered ts left.store) (store_numbered ts right.store) (store_found ts left.store x.1) (store_found ts right.store y.1) h in
    let front = all_stay literal_in literal_numbered literal_at literal_terms literal_stays ts us (extends_within a b ab) (left.literals ++ right.literals)
    (all_in (literal_in ts) left.literals right.literals x.0 y.0) in
    let lits : map (literal_numbered us) (left.literals ++ right.literals) ≡ both_literals (path_numbered ts left) (path_numbered ts right)
    = front.1 ∙ map-append (literal_numbered ts) left.literals right.literals in
    let done = all_behind us (left.literals ++ right.literals) (both_literals (path_numbered ts left) (path_numbered ts right)) front.0 lits gs goals.0.0 in (
      subst (λ zs. ConjunctsOf b zs (preconditions_numbered a left right cs)) (sym is) (
        done.0,
        done.1 ∙ ap (map (in_front (both_literals (path_numbered ts left) (path_numbered ts right)))) goals.0.1
            ∙ all_preconditions (path_numbered ts left) (path_numbered ts right) (map (conjunct_numbered ts) cs),
      ),
      goals.1,
    )
