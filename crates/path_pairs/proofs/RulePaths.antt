-- The path law of a rule that is well formed, the place of the one path in the list, and one list of literals for some paths.
use Rattle.std.specs.Prelude.{◌≡◌, ◌≢◌, ℕ, zero, suc, ◌<◌, cond, Bool, true, false, List, [], ◌∷◌, ◌++◌, filter, slice_get, Some, None, refl}
use Rattle.std.proofs.Common.{sym, ◌∙◌, ap, subst}
use Rattle.std.proofs.lemmas.Grind.{flat_map-append}
use Rattle.toy_imp.specs.declared.instance.Instance.{Instance}
use Rattle.toy_imp.specs.declared.rule.Rule.{Rule}
use Rattle.toy_imp.specs.Faults.{has_scope, is_simulate, well_formed}
use Rattle.toy_imp.specs.Points.{exit_point}
use Rattle.toy_imp.specs.Store.{Store}
use Rattle.rule_terms.specs.Term.{StoreTerm}
use Rattle.rule_terms.specs.declared.obligation.Atom.TheVariants.{Ends}
use Rattle.rule_terms.specs.declared.obligation.Literal.{Literal}
use Rattle.rule_terms.specs.declared.path.Path.{Path}
use Rattle.rule_terms.specs.declared.path.Stop.{Stop}
use Rattle.rule_terms.specs.declared.path.Stop.TheVariants.{At, Halted, Stuck}
use Rattle.term_meaning.specs.Meaning.{CoversStore, CoversAtom, CoversLiterals}
use Rattle.term_meaning.specs.Table.{Entry, Faithful}
use Rattle.term_meaning.proofs.Agreeing.{some_equal, none_some}
use Rattle.path_pairs.specs.declared.cut_points.CutPoints.{CutPoints}
use Rattle.path_pairs.specs.declared.cut_points.Side.{Side}
use Rattle.path_pairs.specs.Open.{block_is_open}
use Rattle.path_pairs.specs.PathLaws.{is_taken, last_term, CoversStores}
use Rattle.path_pairs.specs.Paths.{side_of, cuts_of, store_of as term_of, has_long_walk, first_limit, paths, path_limit}
use Rattle.path_pairs.specs.RulePaths.{TellsPaths, OnePlace, path_literals, literals_of, CoversPath, CoversPaths}
use Rattle.path_pairs.proofs.OnePaths.{path_law}
use Rattle.path_pairs.proofs.OpenSides.{sides_are_open, sides_have_no_scope}
use Rattle.path_pairs.proofs.Passing.{same_head, same_tail, none_cons, cons_none, passes}

-- ---- the law of a rule
pub rule_sides : (rule : Rule) (side : Side) → well_formed rule ≡ true → is_simulate rule.method ≡ true → (block_is_open (side_of rule side) ≡ true) × (has_scope (side_of rule side) ≡ false)
rule_sides rule side well simulates = (sides_are_open rule side well, sides_have_no_scope rule side well simulates)

not_long : (long : Bool) (all : List Path) → first_limit long all ≡ None → long ≡ false
not_long true all h = cc
not_long false all h = refl

pub rule_path_law : (A : Type 0) (i : Instance) (T : List Entry) (l r : Store) → Faithful A i T → (rule : Rule) (cuts : CutPoints) (side : Side) (p : ℕ) → well_formed rule ≡ true
    → is_simulate rule.method ≡ true → p < exit_point (side_of rule side) → path_limit rule cuts side p ≡ None → CoversStores i T l r (paths rule cuts side p) → TellsPaths A i T l r rule cuts side p
rule_path_law A i T l r faithful rule cuts side p well simulates lt fits c =
    path_law A i T l r faithful rule cuts side p (sides_are_open rule side well) (sides_have_no_scope rule side well simulates) lt
    (not_long (has_long_walk (side_of rule side) (cuts_of cuts side) (term_of side) p) (paths rule cuts side p) fits) c

-- ---- the place of the only item that passes a test
record OnlyAt (q : Path → Bool) (xs : List Path) (v : Path) : Type 0 where
  place : ℕ
  there : slice_get xs place ≡ Some v
  others : (n : ℕ) (x : Path) → slice_get xs n ≡ Some x → n ≢ place → q x ≡ false

module _ (q : Path → Bool) where
  abbrev NoneOf : List Path → Type 0
  NoneOf xs = (n : ℕ) (x : Path) → slice_get xs n ≡ Some x → q x ≡ false

  none_first : (b : Bool) (y : Path) (xs ys : List Path) → q y ≡ b → cond b (y ∷ ys) ys ≡ [] → (ys ≡ [] → NoneOf xs) → NoneOf (y ∷ xs)
  none_first true y xs ys d e none n x h = none_cons y ys e
  none_first false y xs ys d e none zero x h = ap q (sym (some_equal y x h)) ∙ d
  none_first false y xs ys d e none (suc n) x h = none e n x h

  none_at : (xs : List Path) → filter q xs ≡ [] → NoneOf xs
  none_at [] e n x h = none_some x h
  none_at (y ∷ xs) e n x h = none_first (q y) y xs (filter q xs) refl e (none_at xs) n x h

  behind_it : (y : Path) (xs : List Path) → NoneOf xs → (n : ℕ) (x : Path) → slice_get (y ∷ xs) n ≡ Some x → n ≢ zero → q x ≡ false
  behind_it y xs none zero x h away = absurd (away refl)
  behind_it y xs none (suc n) x h away = none n x h

  before_it : (y : Path) (xs : List Path) (place : ℕ) → q y ≡ false → ((n : ℕ) (x : Path) → slice_get xs n ≡ Some x → n ≢ place → q x ≡ false)
      → (n : ℕ) (x : Path) → slice_get (y ∷ xs) n ≡ Some x → n ≢ suc place → q x ≡ false
  before_it y xs place d others zero x h away = ap q (sym (some_equal y x h)) ∙ d
  before_it y xs place d others (suc n) x h away = others n x h (λ same. away (ap suc same))

  only_first : (b : Bool) (y v : Path) (xs ys : List Path) → q y ≡ b → cond b (y ∷ ys) ys ≡ v ∷ [] → (ys ≡ [] → NoneOf xs) → (ys ≡ v ∷ [] → OnlyAt q xs v) → OnlyAt q (y ∷ xs) v
  only_first true y v xs ys d e none one = record { place = zero; there = ap Some (same_head y v ys [] e); others = behind_it y xs (none (same_tail y v ys [] e)) }
  only_first false y v xs ys d e none one =
      let on : OnlyAt q xs v = one e in
      record { place = suc on.place; there = on.there; others = before_it y xs on.place d on.others }

  only_at : (xs : List Path) (v : Path) → filter q xs ≡ v ∷ [] → OnlyAt q xs v
  only_at [] v e = cons_none v [] e
  only_at (y ∷ xs) v e = only_first (q y) y v xs (filter q xs) refl e (none_at xs) (only_at xs v)

pub one_place : (i : Instance) (T : List Entry) (l r : Store) (all : List Path) (path : Path) → filter (is_taken i T l r) all ≡ path ∷ [] → OnePlace i T l r all path
one_place i T l r all path e =
    let only : OnlyAt (is_taken i T l r) all path = only_at (is_taken i T l r) all path e in
    record { place = only.place; there = only.there; taken = passes (is_taken i T l r) all path e; others = only.others }

-- ---- one list of literals
pub literals_in_a_row : (xs ys : List Path) → literals_of (xs ++ ys) ≡ literals_of xs ++ literals_of ys
literals_in_a_row xs ys = flat_map-append path_literals xs ys

module _ (i : Instance) (T : List Entry) (l r : Store) where
  pub covers_each_list : (xs ys : List Literal) → CoversLiterals i T l r (xs ++ ys) → CoversLiterals i T l r xs × CoversLiterals i T l r ys
  covers_each_list [] ys c = (tt, c)
  covers_each_list (x ∷ xs) ys c = let h : CoversLiterals i T l r xs × CoversLiterals i T l r ys = covers_each_list xs ys c.1 in ((c.0, h.0), h.1)

  ends_covered : (u : StoreTerm) → CoversAtom i T l r (Ends u) → CoversStore i T l r u
  unfolding CoversAtom
  ends_covered u c = c

  store_covered : (ls : List Literal) (u : StoreTerm) (stop : Stop) → CoversStore i T l r (last_term (record { literals = ls; store = u; stop = stop })) → CoversStore i T l r u
  unfolding CoversStore
  store_covered ls u (At q) c = c
  store_covered ls u Halted c = c
  store_covered ls u (Stuck k) c = c.0

  path_covered : (path : Path) → CoversLiterals i T l r (path_literals path) → CoversPath i T l r path
  path_covered path c =
      let parts : CoversLiterals i T l r path.literals × CoversLiterals i T l r (record { sign = true; atom = Ends (last_term path) } ∷ []) = covers_each_list path.literals _ c in
      let last : CoversStore i T l r (last_term path) = ends_covered (last_term path) parts.1.0 in
      record { literals = parts.0; store = store_covered path.literals path.store path.stop last; last = last }

  first_covered : (path : Path) (all : List Path) → CoversLiterals i T l r (literals_of (path ∷ all)) → CoversPath i T l r path × CoversLiterals i T l r (literals_of all)
  first_covered path all c =
      let parts : CoversLiterals i T l r (path_literals path) × CoversLiterals i T l r (literals_of all) = covers_each_list (path_literals path) (literals_of all) c in
      (path_covered path parts.0, parts.1)

  stores_covered : (all : List Path) → CoversLiterals i T l r (literals_of all) → CoversStores i T l r all
  stores_covered [] c = tt
  stores_covered (path ∷ all) c = ((first_covered path all c).0.last, stores_covered all (first_covered path all c).1)

  each_covered : (all : List Path) → CoversLiterals i T l r (literals_of all) → (n : ℕ) (path : Path) → slice_get all n ≡ Some path → CoversPath i T l r path
  each_covered [] c n path h = none_some path h
  each_covered (first ∷ all) c zero path h = subst (λ p. CoversPath i T l r p) (some_equal first path h) (first_covered first all c).0
  each_covered (first ∷ all) c (suc n) path h = each_covered all (first_covered first all c).1 n path h

  pub literals_cover_paths : (all : List Path) → CoversLiterals i T l r (literals_of all) → CoversPaths i T l r all
  literals_cover_paths all c = record { stores = stores_covered all c; each = each_covered all c }
