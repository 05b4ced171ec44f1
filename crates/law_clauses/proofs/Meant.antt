-- The truth of literals with their signs, and of lists of them; what covers them; and facts from truths that fail.
use Rattle.std.specs.Prelude.{◌≡◌, ℕ, Bool, true, false, not, List, [], ◌∷◌, is_some, refl}
use Rattle.std.specs.List.{list_all}
use Rattle.std.proofs.Common.{sym, ◌∙◌, ap, true≢false}
use Rattle.std.proofs.lemmas.Bool.{and_from, and_parts}
use Rattle.toy_imp.specs.declared.instance.Instance.{Instance}
use Rattle.toy_imp.specs.Cell.{spelled}
use Rattle.toy_imp.specs.Store.{Store}
use Rattle.toy_imp.specs.Fill.{name_at}
use Rattle.rule_terms.specs.Term.{StoreTerm, ValueTerm}
use Rattle.rule_terms.specs.declared.obligation.Atom.{Atom}
use Rattle.rule_terms.specs.declared.obligation.Atom.TheVariants.{SameName, SameStore, SameValue, Ends}
use Rattle.rule_terms.specs.declared.obligation.Literal.{Literal}
use Rattle.term_meaning.specs.Table.{Entry}
use Rattle.term_meaning.specs.Meaning.{signed, store_of, value_of, atom_truth, literal_truth, CoversAtom, CoversLiterals}
use Rattle.term_meaning.proofs.Truths.{names_equal, stores_equal, stores_differ, values_equal, values_differ, ends_is}
use Rattle.law_clauses.specs.Signed.{Signed, plus, minus, with_sign, signed_of, all_signed, negated}
use Rattle.law_clauses.proofs.Same.{not_false, not_true}
use Rattle.law_clauses.proofs.Each.{Each}

module _ (i : Instance) (T : List Entry) (l r : Store) where
  abbrev pub truth : Signed → Bool
  truth (plus a) = atom_truth i T l r a
  truth (minus a) = not (atom_truth i T l r a)

  abbrev pub IsTrueHere : Signed → Type 0
  IsTrueHere x = truth x ≡ true

  abbrev pub Fails : Signed → Type 0
  Fails x = truth x ≡ false

  abbrev pub Covers : Signed → Type 0
  Covers (plus a) = CoversAtom i T l r a
  Covers (minus a) = CoversAtom i T l r a

  -- the truth of a literal is that of its atom behind its sign
  with_sign_truth : (b : Bool) (a : Atom) → truth (with_sign b a) ≡ signed b (atom_truth i T l r a)
  with_sign_truth true a = refl
  with_sign_truth false a = refl

  pub signed_truth : (x : Literal) → truth (signed_of x) ≡ literal_truth i T l r x
  signed_truth x = with_sign_truth x.sign x.atom

  with_sign_covered : (b : Bool) (a : Atom) → CoversAtom i T l r a → Covers (with_sign b a)
  with_sign_covered true a c = c
  with_sign_covered false a c = c

  pub signed_covered : (x : Literal) → CoversAtom i T l r x.atom → Covers (signed_of x)
  signed_covered x c = with_sign_covered x.sign x.atom c

  pub all_covered : (xs : List Literal) → CoversLiterals i T l r xs → Each Covers (all_signed xs)
  all_covered [] c = tt
  all_covered (x ∷ xs) c = (signed_covered x c.0, all_covered xs c.1)

  pub all_true : (xs : List Literal) → list_all (literal_truth i T l r) xs ≡ true → Each IsTrueHere (all_signed xs)
  all_true [] e = tt
  all_true (x ∷ xs) e = (signed_truth x ∙ (and_parts _ _ e).0, all_true xs (and_parts _ _ e).1)

  pub true_all : (xs : List Literal) → Each IsTrueHere (all_signed xs) → list_all (literal_truth i T l r) xs ≡ true
  true_all [] h = refl
  true_all (x ∷ xs) h = and_from _ _ (sym (signed_truth x) ∙ h.0) (true_all xs h.1)

  -- ---- negations
  pub negation_true : (x : Signed) → Fails x → IsTrueHere (negated x)
  negation_true (plus a) e = ap not e
  negation_true (minus a) e = not_false _ e

  pub true_negation : (x : Signed) → IsTrueHere (negated x) → Fails x
  true_negation (plus a) e = not_true _ e
  true_negation (minus a) e = ap not e

  pub negation_covered : (x : Signed) → Covers x → Covers (negated x)
  negation_covered (plus a) c = c
  negation_covered (minus a) c = c

  -- ---- facts of negations that fail
  pub names_met : (x y : ℕ) → Fails (minus (SameName x y)) → spelled (name_at i x) ≡ spelled (name_at i y)
  names_met x y e = names_equal i T l r x y (not_false _ e)

  pub stores_met : (a b : StoreTerm) → Fails (minus (SameStore a b)) → store_of i T l r a ≡ store_of i T l r b
  stores_met a b e = stores_equal i T l r a b (not_false _ e)

  pub values_met : (a b : ValueTerm) → Fails (minus (SameValue a b)) → value_of i T l r a ≡ value_of i T l r b
  values_met a b e = values_equal i T l r a b (not_false _ e)

  pub end_met : (s : StoreTerm) → Fails (minus (Ends s)) → is_some (store_of i T l r s) ≡ true
  end_met s e = sym (ends_is i T l r s) ∙ not_false _ e

  pub no_end : (s : StoreTerm) → Fails (plus (Ends s)) → is_some (store_of i T l r s) ≡ false
  no_end s e = sym (ends_is i T l r s) ∙ e

  -- ---- conclusions that can't fail
  module _ (A : Type 0) where
    pub values_concluded : (a b : ValueTerm) → value_of i T l r a ≡ value_of i T l r b → Fails (plus (SameValue a b)) → A
    values_concluded a b same e = absurd (values_differ i T l r a b e same)

    pub stores_concluded : (a b : StoreTerm) → store_of i T l r a ≡ store_of i T l r b → Fails (plus (SameStore a b)) → A
    stores_concluded a b same e = absurd (stores_differ i T l r a b e same)

    pub end_concluded : (s : StoreTerm) → is_some (store_of i T l r s) ≡ true → Fails (plus (Ends s)) → A
    end_concluded s there e = absurd (true≢false (sym there ∙ no_end s e))
