-- The laws of preconditions: what one means, and that its nodes and those of what is known are the nodes of an obligation.
use Rattle.std.specs.Prelude.{◌≡◌, ◌<◌, ◌+◌, ◌-◌, ◌^◌, ℕ, Bool, true, false, List, Some, nat_lt}
use Rattle.std.specs.List.{list_all}
use Rattle.toy_imp.specs.declared.instance.Instance.{Instance}
use Rattle.toy_imp.specs.Store.{Store}
use Rattle.rule_terms.specs.Counts.{saturated, conjunct_nodes, conjuncts_nodes, obligation_nodes}
use Rattle.rule_terms.specs.declared.obligation.Conjunct.{Conjunct}
use Rattle.rule_terms.specs.declared.obligation.Obligation.{Obligation}
use Rattle.rule_terms.specs.declared.path.Path.{Path}
use Rattle.term_meaning.specs.Table.{Entry}
use Rattle.term_meaning.specs.Meaning.{store_of, literal_truth, conjunct_truth}
use Rattle.parallel_wp.specs.Precondition.{both_literals, goal_at, precondition}

-- whether the literals of both paths are true at stores l and r, under a table of runs
abbrev pub both_taken : Instance → List Entry → Store → Store → Path → Path → Bool
both_taken i T l r left right = list_all (literal_truth i T l r) (both_literals left right)

-- Under each table of runs, right or wrong: where the literals of both paths are true at stores l and r, and their terms mean m and n
-- there, the precondition is true at l and r exactly where the conjunct is true at m and n; where some literal of a path is false, it
-- is true.
pub record MeansBefore (i : Instance) (T : List Entry) (l r : Store) (left right : Path) (c : Conjunct) : Type 0 where
  pub taken : both_taken i T l r left right ≡ true → (m n : Store) → store_of i T l r left.store ≡ Some m → store_of i T l r right.store ≡ Some n
      → conjunct_truth i T l r (precondition left right c) ≡ conjunct_truth i T m n c
  pub passed_by : both_taken i T l r left right ≡ false → conjunct_truth i T l r (precondition left right c) ≡ true

abbrev pub PreconditionMeans : Type 0
PreconditionMeans = (i : Instance) (T : List Entry) (l r : Store) (left right : Path) (c : Conjunct) → MeansBefore i T l r left right c

-- An obligation whose path is the literals of both paths, and whose goal is the conjunct where they stop, has the nodes of its known
-- conjuncts and of the precondition. Counts that stand still tell whether it has more than any smaller number.
abbrev pub counted_with : List Conjunct → Conjunct → ℕ
counted_with known before = saturated (saturated (conjuncts_nodes known) + saturated (conjunct_nodes before))

pub record NodesTogether (ob : Obligation) (before : Conjunct) : Type 0 where
  pub nodes : obligation_nodes ob ≡ conjuncts_nodes ob.known + conjunct_nodes before
  pub counted : saturated (obligation_nodes ob) ≡ counted_with ob.known before
  pub passes : (most : ℕ) → most < 2 ^ 64 - 1 → nat_lt most (obligation_nodes ob) ≡ nat_lt most (counted_with ob.known before)

abbrev pub ObligationNodes : Type 0
ObligationNodes = (ob : Obligation) (left right : Path) (c : Conjunct) → ob.path ≡ both_literals left right → ob.goal ≡ goal_at left right c
    → NodesTogether ob (precondition left right c)
