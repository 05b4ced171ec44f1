-- The names of an obligation are those of its literals: of an equality of names, and of the places that occur.
use Rattle.std.proofs.Common.{◌≡◌, ℕ, Bool, true, false, not, ◌&&◌, ◌||◌, List, [], ◌∷◌, ◌++◌, sym, ap, ◌∙◌, refl}
use Rattle.std.specs.List.{list_all, list_any, flat_map}
use Rattle.std.proofs.lemmas.List.Folds.{list_all-append}
use Rattle.toy_imp.specs.declared.param.Kind.{Kind}
use Rattle.rule_terms.specs.Parts.{Part, a_store, a_value, a_place, an_expr, a_test, atom_parts, literal_parts}
use Rattle.rule_terms.specs.declared.obligation.Atom.{Atom}
use Rattle.rule_terms.specs.declared.obligation.Atom.TheVariants.{SameName, SameStore, SameValue, AtMost, Ends, Holds}
use Rattle.rule_terms.specs.declared.obligation.Literal.{Literal}
use Rattle.rule_terms.specs.declared.obligation.Obligation.{Obligation}
use Rattle.term_universe.specs.Names.{place_name, atom_names, literal_names, conjunct_literals, obligation_literals}
use Rattle.escape_marks.specs.declared.escape.Escape.{Escape}
use Rattle.escape_universe.specs.MarksUniverse.{names_have_classes}
use Rattle.escape_universe.specs.Named.{named, equality_named, literal_named, conjunct_named}
use Rattle.escape_universe.specs.Sought.{unnamed}

pub all_append : {X : Type 0} (p : X → Bool) (xs ys : List X) → list_all p (xs ++ ys) ≡ (list_all p xs && list_all p ys)
all_append p xs ys = list_all-append p xs ys

all_flat : {X Y : Type 0} (p : Y → Bool) (f : X → List Y) (xs : List X) → list_all p (flat_map f xs) ≡ list_all (λ x. list_all p (f x)) xs
all_flat p f [] = refl
all_flat p f (x ∷ xs) = list_all-append p (f x) (flat_map f xs) ∙ ap (λ b. list_all p (f x) && b) (all_flat p f xs)

neither : (a b : Bool) → not (not a || b) ≡ (a && not b)
neither true b = refl
neither false b = refl

and_true : (a : Bool) → (a && true) ≡ a
and_true true = refl
and_true false = refl

two : (a b : Bool) → (a && (b && true)) ≡ ((a && b) && true)
two true true = refl
two true false = refl
two false b = refl

module _ (params : List Kind) (classes : List ℕ) where
  pub none_unnamed : (ps : List Part) → not (list_any (unnamed params classes) ps) ≡ list_all (named params classes) (flat_map place_name ps)
  none_unnamed [] = refl
  none_unnamed (a_place p ∷ ps) = neither (named params classes p.name) (list_any (unnamed params classes) ps) ∙ ap (λ b. named params classes p.name && b) (none_unnamed ps)
  none_unnamed (a_store s ∷ ps) = none_unnamed ps
  none_unnamed (a_value v ∷ ps) = none_unnamed ps
  none_unnamed (an_expr k ∷ ps) = none_unnamed ps
  none_unnamed (a_test k ∷ ps) = none_unnamed ps

  by_atom : (a : Atom) → (equality_named params classes a && list_all (named params classes) (flat_map place_name (atom_parts a))) ≡ list_all (named params classes) (atom_names a)
  unfolding atom_parts
  by_atom (SameName x y) = sym (two (named params classes x) (named params classes y))
  by_atom (SameStore a b) = refl
  by_atom (SameValue a b) = refl
  by_atom (AtMost a b c) = refl
  by_atom (Ends s) = refl
  by_atom (Holds k s) = refl

  pub both_named : (l : Literal) → (equality_named params classes l.atom && list_all (named params classes) (flat_map place_name (literal_parts l))) ≡ literal_named params classes l
  unfolding literal_named
  both_named l = by_atom l.atom

pub all_named : (ob : Obligation) (e : Escape)
    → (list_all (conjunct_named ob.params e.names) ob.known && (list_all (literal_named ob.params e.names) ob.path && conjunct_named ob.params e.names ob.goal)) ≡ names_have_classes ob e
unfolding literal_named conjunct_named obligation_literals
all_named ob e =
    let p : Literal → Bool = λ l. list_all (named ob.params e.names) (literal_names l) in
    sym (
    all_flat (named ob.params e.names) literal_names (obligation_literals ob)
    ∙ list_all-append p (flat_map conjunct_literals ob.known) (ob.path ++ conjunct_literals ob.goal)
    ∙ (λ j. all_flat p conjunct_literals ob.known j && list_all-append p ob.path (conjunct_literals ob.goal) j)
    )
