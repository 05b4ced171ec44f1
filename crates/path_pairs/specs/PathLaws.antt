-- The path law: of all paths from a point, the literals of exactly one are true, and it tells how the run from there goes on.
-- A side is run from its rest at the point, filled; its store is l for the left side and r for the right.
-- A path may take no step of the run, since a statement parameter may stand for the empty block. Then fewer statements are left
-- where it stops than where it set out. So with each path either the steps that the run still makes get fewer, or they stay as many
-- and the statements left get fewer: what is said of a run path by path is proved by induction on these two numbers, the steps first.
use Rattle.std.specs.Prelude.{◌≡◌, ◌↔◌, ◌⊎◌, ℕ, zero, suc, ◌+◌, ◌-◌, ◌<◌, ◌≤◌, Bool, true, false, List, [], ◌∷◌, filter, Some}
use Rattle.std.specs.List.{list_all}
use Rattle.toy_imp.specs.declared.instance.Instance.{Instance}
use Rattle.toy_imp.specs.declared.rule.Rule.{Rule}
use Rattle.toy_imp.specs.Block.{Block, empty, stmt}
use Rattle.toy_imp.specs.Ends.{Reaches, Halts}
use Rattle.toy_imp.specs.Faults.{has_scope}
use Rattle.toy_imp.specs.Fill.{block_at, fill}
use Rattle.toy_imp.specs.Points.{exit_point}
use Rattle.toy_imp.specs.Run.{Item, before, Outcome, ended, halted, run}
use Rattle.toy_imp.specs.Store.{Store}
use Rattle.rule_terms.specs.Term.{StoreTerm}
use Rattle.rule_terms.specs.Term as term
use Rattle.rule_terms.specs.declared.path.Path.{Path}
use Rattle.rule_terms.specs.declared.path.Stop.{Stop}
use Rattle.rule_terms.specs.declared.path.Stop.TheVariants.{At, Halted, Stuck}
use Rattle.term_meaning.specs.Table.{Entry, Faithful}
use Rattle.term_meaning.specs.Meaning.{store_of, literal_truth, CoversStore, Reached}
use Rattle.path_pairs.specs.declared.cut_points.CutPoints.{CutPoints}
use Rattle.path_pairs.specs.declared.cut_points.Side.{Side}
use Rattle.path_pairs.specs.declared.cut_points.Side.TheVariants.{Left, Right}
use Rattle.path_pairs.specs.Comes.{Comes}
use Rattle.path_pairs.specs.Open.{block_is_open}
use Rattle.path_pairs.specs.Paths.{side_of, cuts_of, store_of as term_of, has_long_walk, paths}
use Rattle.path_pairs.specs.Rests.{Rest, rest_statements, rest_at}

-- the work that stands for a rest, and for what is left at a point
abbrev pub work_of : Instance → Rest → List Item
work_of i rest = before (fill i (rest_statements rest)) []

abbrev pub work_at : Instance → Block → ℕ → List Item
work_at i side p = work_of i (rest_at side p)

abbrev pub its_store : Side → Store → Store → Store
its_store Left l r = l
its_store Right l r = r

-- all literals of a path are true
abbrev pub is_taken : Instance → List Entry → Store → Store → Path → Bool
is_taken i T l r path = list_all (literal_truth i T l r) path.literals

-- the store term of a path; of one that is stuck, the run that does not end from there
abbrev pub last_term : Path → StoreTerm
last_term path = elim path.stop [ At q ↦ path.store | Halted ↦ path.store | Stuck k ↦ term.run k path.store ]

-- the table covers these terms of paths
abbrev pub CoversStores : Instance → List Entry → Store → Store → List Path → Type 0
CoversStores i T l r [] = Unit {0}
CoversStores i T l r (path ∷ all) = CoversStore i T l r (last_term path) × CoversStores i T l r all

-- the number of statements of a block, not counting those inside
abbrev pub block_length : Block → ℕ
block_length empty = 0
block_length (stmt a b) = suc (block_length b)

abbrev pub rest_length : Rest → ℕ
rest_length rest = block_length (rest_statements rest)

-- the number of statements that are left at a point; one more at the start, where a walk may stop before its first step
abbrev pub left_count : Block → ℕ → ℕ
left_count side zero = suc (rest_length (rest_at side zero))
left_count side (suc p) = rest_length (rest_at side (suc p))

-- some step of the run is made, or fewer statements are left now than this number
abbrev pub GetsOn : ℕ → ℕ → ℕ → Type 0
GetsOn steps now left = (1 ≤ steps) ⊎ (now < left)

-- What a path tells that stops at a point q, of the run of some work in the store s: its store term means a store, and the run
-- comes to what is left at q in that store, by some step or with fewer statements left than `left`.
pub record StopsAt (i : Instance) (T : List Entry) (l r : Store) (side : Block) (left : ℕ) (work : List Item) (s : Store) (u : StoreTerm) (q : ℕ) : Type 0 where
  pub store : Store
  pub means : store_of i T l r u ≡ Some store
  pub comes : Comes work s (work_at i side q) store
  pub gets_on : GetsOn comes.steps (left_count side q) left

-- What a path tells that halts: its store term means a store, and the run halts in it.
pub record HaltsThere (i : Instance) (T : List Entry) (l r : Store) (work : List Item) (s : Store) (u : StoreTerm) : Type 0 where
  pub store : Store
  pub means : store_of i T l r u ≡ Some store
  pub halts : Reaches work s (halted store)

-- What a path tells that is stuck before the statement parameter k: its store term means a store; an end of the run gives the answer
-- A; and the run halts in t exactly where what stands for k halts in t from that store, but for a run that gives the answer A too.
pub record StuckThere (A : Type 0) (i : Instance) (T : List Entry) (l r : Store) (work : List Item) (s : Store) (u : StoreTerm) (k : ℕ) : Type 0 where
  pub store : Store
  pub means : store_of i T l r u ≡ Some store
  pub never_ends : (t : Store) → Reaches work s (ended t) → A
  pub halts_by_it : (t : Store) → Reaches work s (halted t) → Halts (block_at i k) store t ⊎ A
  pub halts : (t : Store) → Halts (block_at i k) store t → Reaches work s (halted t)

-- What a path tells, by its stop.
abbrev pub Tells : Type 0 → Instance → List Entry → Store → Store → Block → ℕ → List Item → Store → StoreTerm → Stop → Type 0
Tells A i T l r side left work s u (At q) = StopsAt i T l r side left work s u q
Tells A i T l r side left work s u Halted = HaltsThere i T l r work s u
Tells A i T l r side left work s u (Stuck k) = StuckThere A i T l r work s u k

-- exactly one of some paths is taken
pub record OnePath (A : Type 0) (i : Instance) (T : List Entry) (l r : Store) (side : Block) (left : ℕ) (work : List Item) (s : Store) (all : List Path) : Type 0 where
  pub path : Path
  pub only : filter (is_taken i T l r) all ≡ path ∷ []
  pub tells : Tells A i T l r side left work s path.store path.stop

abbrev pub PathLaw : Type 0
PathLaw = (f : ℕ → Bool) (i : Instance) (T : List Entry) (l r : Store) → Faithful (Reached f) i T → (rule : Rule) (cuts : CutPoints) (side : Side) (p : ℕ)
    → block_is_open (side_of rule side) ≡ true → has_scope (side_of rule side) ≡ false → p < exit_point (side_of rule side)
    → has_long_walk (side_of rule side) (cuts_of cuts side) (term_of side) p ≡ false → CoversStores i T l r (paths rule cuts side p)
    → OnePath (Reached f) i T l r (side_of rule side) (left_count (side_of rule side) p) (work_at i (side_of rule side) p) (its_store side l r) (paths rule cuts side p)

-- A run that comes to other work goes on with it: it has exactly the outcome that the other work has, in the steps that are left.
pub record GoesOn (first : List Item) (s : Store) (second : List Item) (m : Store) (steps : ℕ) : Type 0 where
  pub more : (n : ℕ) → run (steps + n) first s ≡ run n second m
  pub left : (n : ℕ) (o : Outcome) → run n first s ≡ Some o → (steps ≤ n) × (run (n - steps) second m ≡ Some o)
  pub outcome : (o : Outcome) → Reaches first s o ↔ Reaches second m o

abbrev pub RunGoesOn : Type 0
RunGoesOn = (first second : List Item) (s m : Store) (c : Comes first s second m) → GoesOn first s second m c.steps

-- at the start all of the side is left to do, and at the exit nothing: what comes there has ended
abbrev pub AllIsLeftAtStart : Type 0
AllIsLeftAtStart = (i : Instance) (side : Block) → work_at i side 0 ≡ before (fill i side) []

abbrev pub RunEndsAtExit : Type 0
RunEndsAtExit = (i : Instance) (side : Block) → has_scope side ≡ false → (work : List Item) (s m : Store) → Comes work s (work_at i side (exit_point side)) m → Reaches work s (ended m)
