-- What a term with stores in place of L and R means: what the term means at the stores that these mean.
use Rattle.std.specs.Prelude.{◌≡◌, ◌+ℤ◌, ◌-ℤ◌, ◌*ℤ◌, not, ◌&&◌, ◌||◌, List, [], ◌∷◌, Option, Some, None, is_some, int_le, refl}
use Rattle.std.specs.Ordering.{int_eq}
use Rattle.std.specs.List.{list_all}
use Rattle.std.proofs.Common.{ap, subst}
use Rattle.toy_imp.specs.declared.instance.Instance.{Instance}
use Rattle.toy_imp.specs.Store.{Store}
use Rattle.toy_imp.specs.Fill.{expr_at, test_at}
use Rattle.rule_terms.specs.Term.{StoreTerm, left_store, right_store, put, run, ValueTerm, num, get, ev, add, sub, mul, ValueTerms, no_terms, term}
use Rattle.rule_terms.specs.declared.obligation.Atom.{Atom}
use Rattle.rule_terms.specs.declared.obligation.Atom.TheVariants.{SameName, SameStore, SameValue, AtMost, Ends, Holds}
use Rattle.rule_terms.specs.declared.obligation.Literal.{Literal}
use Rattle.rule_terms.specs.declared.obligation.Conjunct.{Conjunct}
use Rattle.rule_terms.specs.Substitute.{store_at, value_term_at, terms_at, atom_at, literal_at, literals_at, conjunct_at}
use Rattle.term_meaning.specs.MaybeStore.{put_in, read_in, value_in, truth_in, same_option}
use Rattle.term_meaning.specs.Table.{Entry, after, Covered}
use Rattle.term_meaning.specs.Meaning.{cell_at, signed, store_of, value_of, values_of, atom_truth, literal_truth, gives_truth, conjunct_truth, CoversStore, CoversValue, CoversValues, CoversAtom, CoversLiterals, CoversGives, CoversConjunct}
use Rattle.std.specs.Option.{option_map}

module _ (i : Instance) (T : List Entry) (l r m n : Store) (a b : StoreTerm) (left : store_of i T l r a ≡ Some m) (right : store_of i T l r b ≡ Some n) where
  mutual
    unfolding store_of value_of values_of store_at value_term_at terms_at

    pub store_put : (u : StoreTerm) → store_of i T l r (store_at a b u) ≡ store_of i T m n u
    store_put left_store = left
    store_put right_store = right
    store_put (put s x is v) = λ j. put_in (store_put s j) (cell_at i x (values_put is j)) (value_put v j)
    store_put (run k s) = λ j. after T k (store_put s j)

    pub value_put : (v : ValueTerm) → value_of i T l r (value_term_at a b v) ≡ value_of i T m n v
    value_put (num z) = refl
    value_put (get x is s) = λ j. read_in (store_put s j) (cell_at i x (values_put is j))
    value_put (ev k s) = λ j. value_in (store_put s j) (expr_at i k)
    value_put (add c d) = λ j. value_put c j +ℤ value_put d j
    value_put (sub c d) = λ j. value_put c j -ℤ value_put d j
    value_put (mul c d) = λ j. value_put c j *ℤ value_put d j

    pub values_put : (vs : ValueTerms) → values_of i T l r (terms_at a b vs) ≡ values_of i T m n vs
    values_put no_terms = refl
    values_put (term v vs) = λ j. value_put v j ∷ values_put vs j

  pub atom_put : (c : Atom) → atom_truth i T l r (atom_at a b c) ≡ atom_truth i T m n c
  unfolding atom_truth atom_at
  atom_put (SameName x y) = refl
  atom_put (SameStore c d) = λ j. same_option (store_put c j) (store_put d j)
  atom_put (SameValue c d) = λ j. int_eq (value_put c j) (value_put d j)
  atom_put (AtMost c d z) = λ j. int_le (value_put c j) (value_put d j +ℤ z)
  atom_put (Ends s) = λ j. is_some (store_put s j)
  atom_put (Holds k s) = λ j. truth_in (store_put s j) (test_at i k)

  pub literal_put : (x : Literal) → literal_truth i T l r (literal_at a b x) ≡ literal_truth i T m n x
  literal_put x = ap (signed x.sign) (atom_put x.atom)

  pub literals_put : (xs : List Literal) → list_all (literal_truth i T l r) (literals_at a b xs) ≡ list_all (literal_truth i T m n) xs
  literals_put [] = refl
  literals_put (x ∷ xs) = λ j. literal_put x j && literals_put xs j

  gives_put : (x : Option Literal) → gives_truth i T l r (option_map (literal_at a b) x) ≡ gives_truth i T m n x
  gives_put None = refl
  gives_put (Some x) = literal_put x

  pub conjunct_put : (c : Conjunct) → conjunct_truth i T l r (conjunct_at a b c) ≡ conjunct_truth i T m n c
  conjunct_put c = λ j. not (literals_put c.when j) || gives_put c.gives j

  -- ---- what covers the one covers the other
  mutual
    unfolding CoversStore CoversValue CoversValues store_at value_term_at terms_at

    pub covers_put : (u : StoreTerm) → CoversStore i T l r (store_at a b u) → CoversStore i T m n u
    covers_put left_store c = tt
    covers_put right_store c = tt
    covers_put (put s x is v) c = (covers_put s c.0, (covers_values_put is c.1.0, covers_value_put v c.1.1))
    covers_put (run k s) c = (covers_put s c.0, subst (λ o. Covered T k o) (store_put s) c.1)

    pub covers_value_put : (v : ValueTerm) → CoversValue i T l r (value_term_at a b v) → CoversValue i T m n v
    covers_value_put (num z) c = tt
    covers_value_put (get x is s) c = (covers_values_put is c.0, covers_put s c.1)
    covers_value_put (ev k s) c = covers_put s c
    covers_value_put (add e f) c = (covers_value_put e c.0, covers_value_put f c.1)
    covers_value_put (sub e f) c = (covers_value_put e c.0, covers_value_put f c.1)
    covers_value_put (mul e f) c = (covers_value_put e c.0, covers_value_put f c.1)

    pub covers_values_put : (vs : ValueTerms) → CoversValues i T l r (terms_at a b vs) → CoversValues i T m n vs
    covers_values_put no_terms c = tt
    covers_values_put (term v vs) c = (covers_value_put v c.0, covers_values_put vs c.1)

  pub covers_atom_put : (x : Atom) → CoversAtom i T l r (atom_at a b x) → CoversAtom i T m n x
  unfolding CoversAtom atom_at
  covers_atom_put (SameName x y) c = tt
  covers_atom_put (SameStore e f) c = (covers_put e c.0, covers_put f c.1)
  covers_atom_put (SameValue e f) c = (covers_value_put e c.0, covers_value_put f c.1)
  covers_atom_put (AtMost e f z) c = (covers_value_put e c.0, covers_value_put f c.1)
  covers_atom_put (Ends s) c = covers_put s c
  covers_atom_put (Holds k s) c = covers_put s c

  pub covers_literals_put : (xs : List Literal) → CoversLiterals i T l r (literals_at a b xs) → CoversLiterals i T m n xs
  covers_literals_put [] c = tt
  covers_literals_put (x ∷ xs) c = (covers_atom_put x.atom c.0, covers_literals_put xs c.1)

  covers_gives_put : (x : Option Literal) → CoversGives i T l r (option_map (literal_at a b) x) → CoversGives i T m n x
  covers_gives_put None c = tt
  covers_gives_put (Some x) c = covers_atom_put x.atom c

  pub covers_conjunct_put : (x : Conjunct) → CoversConjunct i T l r (conjunct_at a b x) → CoversConjunct i T m n x
  covers_conjunct_put x c = (covers_literals_put x.when c.0, covers_gives_put x.gives c.1)
