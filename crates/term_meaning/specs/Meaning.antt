-- What terms mean under an instance, a table of runs, and a store of the left and one of the right side; and when an obligation holds.
-- A store term means a store or nothing, a value term a whole number, an atom is true or false.
use Rattle.std.specs.Prelude.{◌≡◌, ℕ, Bool, true, false, not, ◌&&◌, ◌||◌, ℤ, ◌+ℤ◌, ◌-ℤ◌, ◌*ℤ◌, List, [], ◌∷◌, Option, Some, None, is_some, int_le}
use Rattle.std.specs.Ordering.{int_eq}
use Rattle.std.specs.List.{list_all}
use Rattle.toy_imp.specs.declared.instance.Filling.{Filling}
use Rattle.toy_imp.specs.declared.instance.Instance.{Instance}
use Rattle.toy_imp.specs.declared.param.Kind.{Kind}
use Rattle.toy_imp.specs.Cell.{Cell, spelled}
use Rattle.toy_imp.specs.Store.{Store}
use Rattle.toy_imp.specs.Fill.{name_at, expr_at, test_at}
use Rattle.toy_imp.specs.Fits.{fits_kind}
use Rattle.toy_imp.specs.Meets.{MeetsAll}
use Rattle.rule_terms.specs.Term.{StoreTerm, left_store, right_store, put, run, ValueTerm, num, get, ev, add, sub, mul, ValueTerms, no_terms, term}
use Rattle.rule_terms.specs.declared.obligation.Atom.{Atom}
use Rattle.rule_terms.specs.declared.obligation.Atom.TheVariants.{SameName, SameStore, SameValue, AtMost, Ends, Holds}
use Rattle.rule_terms.specs.declared.obligation.Literal.{Literal}
use Rattle.rule_terms.specs.declared.obligation.Conjunct.{Conjunct}
use Rattle.rule_terms.specs.declared.obligation.Obligation.{Obligation}
use Rattle.term_meaning.specs.SameStore.{same_bytes}
use Rattle.term_meaning.specs.MaybeStore.{put_in, read_in, value_in, truth_in, same_option}
use Rattle.term_meaning.specs.Table.{Entry, after, Covered, Faithful}

-- the cell of a place; a parameter that stands for no name has the empty name
abbrev pub cell_at : Instance → ℕ → List ℤ → Cell
cell_at i x vs = (spelled (name_at i x), vs)

abbrev pub signed : Bool → Bool → Bool
signed true b = b
signed false b = not b

module _ (i : Instance) (T : List Entry) (l r : Store) where
  -- ---- what a term means; an expression, test or statement that nothing stands for is 0, false, or never ends
  unfoldable mutual
    pub store_of : StoreTerm → Option Store
    store_of left_store = Some l
    store_of right_store = Some r
    store_of (put s x is v) = put_in (store_of s) (cell_at i x (values_of is)) (value_of v)
    store_of (run k s) = after T k (store_of s)

    pub value_of : ValueTerm → ℤ
    value_of (num z) = z
    value_of (get x is s) = read_in (store_of s) (cell_at i x (values_of is))
    value_of (ev k s) = value_in (store_of s) (expr_at i k)
    value_of (add a b) = value_of a +ℤ value_of b
    value_of (sub a b) = value_of a -ℤ value_of b
    value_of (mul a b) = value_of a *ℤ value_of b

    pub values_of : ValueTerms → List ℤ
    values_of no_terms = []
    values_of (term v vs) = value_of v ∷ values_of vs

  unfoldable pub atom_truth : Atom → Bool
  atom_truth (SameName x y) = same_bytes (spelled (name_at i x)) (spelled (name_at i y))
  atom_truth (SameStore a b) = same_option (store_of a) (store_of b)
  atom_truth (SameValue a b) = int_eq (value_of a) (value_of b)
  atom_truth (AtMost a b c) = int_le (value_of a) (value_of b +ℤ c)
  atom_truth (Ends s) = is_some (store_of s)
  atom_truth (Holds k s) = truth_in (store_of s) (test_at i k)

  abbrev pub literal_truth : Literal → Bool
  literal_truth x = signed x.sign (atom_truth x.atom)

  abbrev pub gives_truth : Option Literal → Bool
  gives_truth None = false
  gives_truth (Some x) = literal_truth x

  abbrev pub conjunct_truth : Conjunct → Bool
  conjunct_truth c = not (list_all literal_truth c.when) || gives_truth c.gives

  -- ---- when the table covers a term: it says something of each run in it that there is a store to run from
  unfoldable mutual
    pub CoversStore : StoreTerm → Type 0
    CoversStore left_store = Unit {0}
    CoversStore right_store = Unit {0}
    CoversStore (put s x is v) = CoversStore s × (CoversValues is × CoversValue v)
    CoversStore (run k s) = CoversStore s × Covered T k (store_of s)

    pub CoversValue : ValueTerm → Type 0
    CoversValue (num z) = Unit {0}
    CoversValue (get x is s) = CoversValues is × CoversStore s
    CoversValue (ev k s) = CoversStore s
    CoversValue (add a b) = CoversValue a × CoversValue b
    CoversValue (sub a b) = CoversValue a × CoversValue b
    CoversValue (mul a b) = CoversValue a × CoversValue b

    pub CoversValues : ValueTerms → Type 0
    CoversValues no_terms = Unit {0}
    CoversValues (term v vs) = CoversValue v × CoversValues vs

  unfoldable pub CoversAtom : Atom → Type 0
  CoversAtom (SameName x y) = Unit {0}
  CoversAtom (SameStore a b) = CoversStore a × CoversStore b
  CoversAtom (SameValue a b) = CoversValue a × CoversValue b
  CoversAtom (AtMost a b c) = CoversValue a × CoversValue b
  CoversAtom (Ends s) = CoversStore s
  CoversAtom (Holds k s) = CoversStore s

  abbrev pub CoversLiterals : List Literal → Type 0
  CoversLiterals [] = Unit {0}
  CoversLiterals (x ∷ xs) = CoversAtom x.atom × CoversLiterals xs

  abbrev pub CoversGives : Option Literal → Type 0
  CoversGives None = Unit {0}
  CoversGives (Some x) = CoversAtom x.atom

  abbrev pub CoversConjunct : Conjunct → Type 0
  CoversConjunct c = CoversLiterals c.when × CoversGives c.gives

  abbrev pub CoversConjuncts : List Conjunct → Type 0
  CoversConjuncts [] = Unit {0}
  CoversConjuncts (c ∷ cs) = CoversConjunct c × CoversConjuncts cs

  abbrev pub CoversObligation : Obligation → Type 0
  CoversObligation ob = CoversConjuncts ob.known × (CoversLiterals ob.path × CoversConjunct ob.goal)

-- ---- when an obligation holds: whatever is being shown is so where its known conjuncts and its path are true and its goal is false
abbrev pub fits_kinds : List Kind → List Filling → Bool
fits_kinds [] [] = true
fits_kinds [] (f ∷ fs) = false
fits_kinds (k ∷ ks) [] = false
fits_kinds (k ∷ ks) (f ∷ fs) = fits_kind k f && fits_kinds ks fs

-- an answer that can be shown, in code: some number has f true
abbrev pub Reached : (ℕ → Bool) → Type 0
Reached f = (n : ℕ) × (f n ≡ true)

pub record ObligationHolds (ob : Obligation) : Type 0 where
  pub shows : (f : ℕ → Bool) (i : Instance) → fits_kinds ob.params i.fillings ≡ true → MeetsAll i ob.conditions → (T : List Entry) (l r : Store) → Faithful (Reached f) i T → CoversObligation i T l r ob → list_all (conjunct_truth i T l r) ob.known ≡ true → list_all (literal_truth i T l r) ob.path ≡ true → conjunct_truth i T l r ob.goal ≡ false → Reached f
