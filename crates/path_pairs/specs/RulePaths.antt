-- The path law as proofs about a rule use it: from what a rule that is well formed meets where no limit is met, with the place of the
-- one path in the list, and with one list of literals for a list of paths. A table that covers the literals covers the paths, so one
-- table serves both sides and whatever else is to be covered.
use Rattle.std.specs.Prelude.{◌≡◌, ◌≢◌, ℕ, ◌<◌, Bool, true, false, List, [], ◌∷◌, ◌++◌, filter, flat_map, slice_get, Some, None}
use Rattle.toy_imp.specs.declared.instance.Instance.{Instance}
use Rattle.toy_imp.specs.declared.rule.Rule.{Rule}
use Rattle.toy_imp.specs.Faults.{has_scope, is_simulate, well_formed}
use Rattle.toy_imp.specs.Points.{exit_point}
use Rattle.toy_imp.specs.Store.{Store}
use Rattle.rule_terms.specs.declared.obligation.Atom.TheVariants.{Ends}
use Rattle.rule_terms.specs.declared.obligation.Literal.{Literal}
use Rattle.rule_terms.specs.declared.path.Path.{Path}
use Rattle.term_meaning.specs.Table.{Entry, Faithful}
use Rattle.term_meaning.specs.Meaning.{CoversStore, CoversLiterals, Reached}
use Rattle.path_pairs.specs.declared.cut_points.CutPoints.{CutPoints}
use Rattle.path_pairs.specs.declared.cut_points.Side.{Side}
use Rattle.path_pairs.specs.Open.{block_is_open}
use Rattle.path_pairs.specs.PathLaws.{work_at, its_store, is_taken, last_term, CoversStores, left_count, OnePath}
use Rattle.path_pairs.specs.Paths.{side_of, paths, path_limit}

-- the sides of a rule that is well formed and proved by simulation: every name is a parameter, and there is no `for` and no `let`
abbrev pub RuleSides : Type 0
RuleSides = (rule : Rule) (side : Side) → well_formed rule ≡ true → is_simulate rule.method ≡ true
    → (block_is_open (side_of rule side) ≡ true) × (has_scope (side_of rule side) ≡ false)

-- what the path law tells of the paths of a rule from a point
abbrev pub TellsPaths : Type 0 → Instance → List Entry → Store → Store → Rule → CutPoints → Side → ℕ → Type 0
TellsPaths A i T l r rule cuts side p =
    OnePath A i T l r (side_of rule side) (left_count (side_of rule side) p) (work_at i (side_of rule side) p) (its_store side l r) (paths rule cuts side p)

abbrev pub RulePathLaw : Type 0
RulePathLaw = (f : ℕ → Bool) (i : Instance) (T : List Entry) (l r : Store) → Faithful (Reached f) i T → (rule : Rule) (cuts : CutPoints) (side : Side) (p : ℕ)
    → well_formed rule ≡ true → is_simulate rule.method ≡ true → p < exit_point (side_of rule side) → path_limit rule cuts side p ≡ None
    → CoversStores i T l r (paths rule cuts side p) → TellsPaths (Reached f) i T l r rule cuts side p

-- the place of the one path that is taken: at every other place stands a path that is not
pub record OnePlace (i : Instance) (T : List Entry) (l r : Store) (all : List Path) (path : Path) : Type 0 where
  pub place : ℕ
  pub there : slice_get all place ≡ Some path
  pub taken : is_taken i T l r path ≡ true
  pub others : (n : ℕ) (other : Path) → slice_get all n ≡ Some other → n ≢ place → is_taken i T l r other ≡ false

abbrev pub OneHasPlace : Type 0
OneHasPlace = (i : Instance) (T : List Entry) (l r : Store) (all : List Path) (path : Path) → filter (is_taken i T l r) all ≡ path ∷ [] → OnePlace i T l r all path

-- the literals of a path, with one that speaks of its last term
abbrev pub path_literals : Path → List Literal
path_literals path = path.literals ++ record { sign = true; atom = Ends (last_term path) } ∷ []

-- those of some paths, one after another
abbrev pub literals_of : List Path → List Literal
literals_of all = flat_map path_literals all

-- the table covers a path: its literals, its store, and its last term
pub record CoversPath (i : Instance) (T : List Entry) (l r : Store) (path : Path) : Type 0 where
  pub literals : CoversLiterals i T l r path.literals
  pub store : CoversStore i T l r path.store
  pub last : CoversStore i T l r (last_term path)

-- the table covers paths: what the path law asks, and each path
pub record CoversPaths (i : Instance) (T : List Entry) (l r : Store) (all : List Path) : Type 0 where
  pub stores : CoversStores i T l r all
  pub each : (n : ℕ) (path : Path) → slice_get all n ≡ Some path → CoversPath i T l r path

abbrev pub LiteralsCoverPaths : Type 0
LiteralsCoverPaths = (i : Instance) (T : List Entry) (l r : Store) (all : List Path) → CoversLiterals i T l r (literals_of all) → CoversPaths i T l r all

-- the literals of two lists of paths are those of each
abbrev pub LiteralsInARow : Type 0
LiteralsInARow = (xs ys : List Path) → literals_of (xs ++ ys) ≡ literals_of xs ++ literals_of ys

-- what covers two lists of literals in a row covers each
abbrev pub CoversEachList : Type 0
CoversEachList = (i : Instance) (T : List Entry) (l r : Store) (xs ys : List Literal) → CoversLiterals i T l r (xs ++ ys) → CoversLiterals i T l r xs × CoversLiterals i T l r ys
