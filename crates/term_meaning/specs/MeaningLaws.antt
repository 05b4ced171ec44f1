-- The laws of the meaning of terms, on which all proofs about obligations stand.
-- Each answer that is shown in them is a coded one: some number at which f is true.
use Rattle.std.specs.Prelude.{◌≡◌, ◌↔◌, ℕ, Bool, true, List, map, Some, None}
use Rattle.std.specs.List.{list_all}
use Rattle.toy_imp.specs.declared.instance.Filling.{Filling}
use Rattle.toy_imp.specs.declared.instance.Instance.{Instance}
use Rattle.toy_imp.specs.declared.param.Param.{Param}
use Rattle.toy_imp.specs.Store.{Store}
use Rattle.toy_imp.specs.Value.{value}
use Rattle.toy_imp.specs.Ends.{Ends}
use Rattle.toy_imp.specs.Fill.{block_at, fill_expr}
use Rattle.toy_imp.specs.Fits.{fits_params}
use Rattle.toy_imp.specs.Meets.{MeetsAll}
use Rattle.toy_imp.specs.Expr.{Expr}
use Rattle.rule_terms.specs.Term.{StoreTerm, run}
use Rattle.rule_terms.specs.ValueAt.{names_are_open, value_at}
use Rattle.rule_terms.specs.Substitute.{store_at, conjunct_at}
use Rattle.rule_terms.specs.declared.obligation.Literal.{Literal}
use Rattle.rule_terms.specs.declared.obligation.Conjunct.{Conjunct}
use Rattle.rule_terms.specs.declared.obligation.Obligation.{Obligation}
use Rattle.term_meaning.specs.SameStore.{same_store}
use Rattle.term_meaning.specs.Table.{Entry, Faithful, Grows}
use Rattle.term_meaning.specs.Meaning.{store_of, value_of, literal_truth, conjunct_truth, CoversStore, CoversLiterals, CoversConjunct, CoversObligation, fits_kinds, Reached, ObligationHolds}

-- the test of stores answers whether they are equal
abbrev pub StoresAreTold : Type 0
StoresAreTold = (s t : Store) → (same_store s t ≡ true) ↔ (s ≡ t)

-- to show an answer, one may assume a faithful table that covers any finite list of literals, and so of the terms in them
abbrev pub TableMayBeAssumed : Type 0
TableMayBeAssumed = (f : ℕ → Bool) (i : Instance) (l r : Store) (xs : List Literal) → ((T : List Entry) → Faithful (Reached f) i T → CoversLiterals i T l r xs → Reached f) → Reached f

-- .. and that a faithful table grows to one
abbrev pub TableMayGrow : Type 0
TableMayGrow = (f : ℕ → Bool) (i : Instance) (l r : Store) (xs : List Literal) (T : List Entry) → Faithful (Reached f) i T → ((U : List Entry) → Faithful (Reached f) i U → Grows T U → CoversLiterals i U l r xs → Reached f) → Reached f

-- what is meant depends only on the runs that occur: a table that says more means the same, and still covers
pub record MeansAsBefore (i : Instance) (T U : List Entry) (l r : Store) : Type 0 where
  pub store : (u : StoreTerm) → CoversStore i T l r u → store_of i U l r u ≡ store_of i T l r u
  pub conjunct : (c : Conjunct) → CoversConjunct i T l r c → conjunct_truth i U l r c ≡ conjunct_truth i T l r c
  pub covers : (c : Conjunct) → CoversConjunct i T l r c → CoversConjunct i U l r c

abbrev pub OnlyRunsThatOccur : Type 0
OnlyRunsThatOccur = (i : Instance) (T U : List Entry) → Grows T U → (l r : Store) → MeansAsBefore i T U l r

-- the value term of an expression at a store term means the value of the filled expression in the store that the term means
abbrev pub ValueAtMeans : Type 0
ValueAtMeans = (i : Instance) (T : List Entry) (l r : Store) (e : Expr) (u : StoreTerm) (s : Store) → names_are_open e ≡ true → store_of i T l r u ≡ Some s → value_of i T l r (value_at e u) ≡ value (fill_expr i e) s

-- a term with a and b in place of L and R means at l and r what the term means at the stores m and n that a and b mean there
pub record MeansAt (i : Instance) (T : List Entry) (l r : Store) (a b : StoreTerm) (m n : Store) : Type 0 where
  pub store : (u : StoreTerm) → store_of i T l r (store_at a b u) ≡ store_of i T m n u
  pub conjunct : (c : Conjunct) → conjunct_truth i T l r (conjunct_at a b c) ≡ conjunct_truth i T m n c
  pub covers : (c : Conjunct) → CoversConjunct i T l r (conjunct_at a b c) → CoversConjunct i T m n c

abbrev pub SubstitutionMeans : Type 0
SubstitutionMeans = (i : Instance) (T : List Entry) (l r : Store) (a b : StoreTerm) (m n : Store) → store_of i T l r a ≡ Some m → store_of i T l r b ≡ Some n → MeansAt i T l r a b m n

-- an obligation that holds gives its goal, whatever answer is shown
abbrev pub ObligationGivesGoal : Type 0
ObligationGivesGoal = (ob : Obligation) → ObligationHolds ob → (f : ℕ → Bool) (i : Instance) → fits_kinds ob.params i.fillings ≡ true → MeetsAll i ob.conditions → (T : List Entry) (l r : Store) → Faithful (Reached f) i T → CoversObligation i T l r ob → list_all (conjunct_truth i T l r) ob.known ≡ true → list_all (literal_truth i T l r) ob.path ≡ true → (conjunct_truth i T l r ob.goal ≡ true → Reached f) → Reached f

-- a run that is known to end ends as the table says, or there is the answer
abbrev pub KnownRunIsTold : Type 0
KnownRunIsTold = (f : ℕ → Bool) (i : Instance) (T : List Entry) (l r : Store) → Faithful (Reached f) i T → (k : ℕ) (u : StoreTerm) → CoversStore i T l r (run k u) → (s t : Store) → store_of i T l r u ≡ Some s → Ends (block_at i k) s t → (store_of i T l r (run k u) ≡ Some t → Reached f) → Reached f

-- any other run is gone on with where the table says in which store it ends; where it says that it does not end, the answer has to be shown
abbrev pub RunGoesOn : Type 0
RunGoesOn = (f : ℕ → Bool) (i : Instance) (T : List Entry) (l r : Store) → Faithful (Reached f) i T → (k : ℕ) (u : StoreTerm) → CoversStore i T l r (run k u) → (s : Store) → store_of i T l r u ≡ Some s → (store_of i T l r (run k u) ≡ None → Reached f) → ((t : Store) → store_of i T l r (run k u) ≡ Some t → Ends (block_at i k) s t → Reached f) → Reached f

-- an instance that fits the parameters of a rule fits their kinds
abbrev pub KindsFit : Type 0
KindsFit = (params : List Param) (fillings : List Filling) → fits_kinds (map (λ p. p.kind) params) fillings ≡ fits_params params fillings
