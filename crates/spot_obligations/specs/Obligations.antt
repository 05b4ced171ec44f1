-- The obligation at a spot of a relation: a spot is a pair of paths of an entry, and a conjunct that they owe where they stop.
-- Known are the first conjuncts of the entry, as many as are used; the path is the literals of both paths; the goal is the conjunct
-- said of the stores where they stop. A spot that the relation has not has no obligation; one of too many nodes is not built.
use Rattle.std.specs.Prelude.{ℕ, Bool, cond, List, map, take, length, nat_lt, nat_le, Option, Some, None, slice_get, Result, Ok, Err}
use Rattle.toy_imp.specs.declared.rule.Rule.{Rule}
use Rattle.rule_terms.specs.Counts.{obligation_nodes}
use Rattle.rule_terms.specs.declared.obligation.Conjunct.{Conjunct}
use Rattle.rule_terms.specs.declared.obligation.Literal.{Literal}
use Rattle.rule_terms.specs.declared.obligation.Obligation.{Obligation}
use Rattle.rule_terms.specs.declared.path.Path.{Path}
use Rattle.parallel_wp.specs.Precondition.{both_literals, goal_at}
use Rattle.path_pairs.specs.declared.cut_points.CutPoints.{CutPoints}
use Rattle.entry_pairs.specs.declared.refusal.LimitMark.{LimitMark}
use Rattle.entry_pairs.specs.Cuts.{cuts}
use Rattle.spot_obligations.specs.declared.entry.Entry.{Entry}
use Rattle.spot_obligations.specs.declared.entry.Spot.{Spot}
use Rattle.spot_obligations.specs.declared.paths_of_entry.EntryPaths.{EntryPaths}
use Rattle.spot_obligations.specs.declared.obligation_at.ObligationAt.{ObligationAt}
use Rattle.spot_obligations.specs.declared.obligation_at.ObligationAt.TheVariants.{Found, Heavy, Absent}
use Rattle.spot_obligations.specs.Owed.{owed, owed_at}
use Rattle.spot_obligations.specs.PathsOfEntry.{lefts, rights, is_walked}

-- what stands at a spot: the conjuncts of its entry, its paths, and the conjunct that they owe
pub record AtSpot : Type 0 where
  pub known : List Conjunct
  pub left : Path
  pub right : Path
  pub goal : Conjunct

abbrev pub with_goal : List Conjunct → Path → Path → Option Conjunct → Option AtSpot
with_goal known l r None = None
with_goal known l r (Some goal) = Some (record { known = known; left = l; right = r; goal = goal })

abbrev pub with_right : Rule → List Entry → List Conjunct → Path → Option ℕ → Option Path → Option AtSpot
with_right rule entries known l c None = None
with_right rule entries known l c (Some r) = with_goal known l r (owed_at (owed rule.conditions entries l.stop r.stop) c)

abbrev pub with_left : Rule → List Entry → List Conjunct → List Path → Spot → Option Path → Option AtSpot
with_left rule entries known others spot None = None
with_left rule entries known others spot (Some l) = with_right rule entries known l spot.conjunct (slice_get others spot.right)

-- .. given the paths of its entry
unfoldable pub among_paths : Rule → List Entry → List Conjunct → List Path → List Path → Spot → Option AtSpot
among_paths rule entries known lefts rights spot = with_left rule entries known rights spot (slice_get lefts spot.left)

abbrev pub with_entry : Rule → CutPoints → List Entry → Spot → Option Entry → Option AtSpot
with_entry rule points entries spot None = None
with_entry rule points entries spot (Some e) = cond (is_walked rule points e) (among_paths rule entries e.conjuncts (lefts rule points e) (rights rule points e) spot) None

unfoldable pub at_spot : Rule → CutPoints → List Entry → Spot → Option AtSpot
at_spot rule points entries spot = with_entry rule points entries spot (slice_get entries spot.entry)

-- an obligation of a rule
abbrev pub of_rule : Rule → List Conjunct → List Literal → Conjunct → Obligation
of_rule rule known path goal = record { params = map (λ p. p.kind) rule.params; conditions = rule.conditions; known = known; path = path; goal = goal }

-- known conjuncts, a pair of paths and a conjunct that they owe
unfoldable pub obligation_of : Rule → List Conjunct → Path → Path → Conjunct → Obligation
obligation_of rule known l r goal = of_rule rule known (both_literals l r) (goal_at l r goal)

-- with so many conjuncts known; nothing where the entry has fewer
abbrev pub with_known : Rule → ℕ → Option AtSpot → Option Obligation
with_known rule used None = None
with_known rule used (Some s) = cond (nat_le used (length s.known)) (Some (obligation_of rule (take used s.known) s.left s.right s.goal)) None

unfoldable pub obligation_at : Rule → CutPoints → List Entry → Spot → ℕ → Option Obligation
obligation_at rule points entries spot used = with_known rule used (at_spot rule points entries spot)

-- that has more nodes than are built
abbrev pub is_heavy : Rule → List Conjunct → Path → Path → Conjunct → Bool
is_heavy rule known l r goal = nat_lt 4096 (obligation_nodes (obligation_of rule known l r goal))

-- what is answered of it
abbrev pub weighed : Option Obligation → ObligationAt
weighed None = Absent
weighed (Some ob) = cond (nat_lt 4096 (obligation_nodes ob)) Heavy (Found ob)

-- .. of a pair of paths and a conjunct; of a pair and a number of what they owe; and of a spot among the paths of its entry
abbrev pub weighed_of : Rule → List Conjunct → Path → Path → Conjunct → ObligationAt
weighed_of rule known l r goal = weighed (Some (obligation_of rule known l r goal))

abbrev pub of_pair : Rule → List Entry → List Conjunct → Path → Path → Option ℕ → ℕ → ObligationAt
of_pair rule entries known l r c used = weighed (with_known rule used (with_right rule entries known l c (Some r)))

abbrev pub of_paths : Rule → List Entry → List Conjunct → EntryPaths → Spot → ℕ → ObligationAt
of_paths rule entries known all spot used = weighed (with_known rule used (among_paths rule entries known all.lefts all.rights spot))

abbrev pub of_entry : Rule → CutPoints → List Entry → Entry → Spot → ℕ → ObligationAt
of_entry rule points entries e spot used = weighed (with_known rule used (with_entry rule points entries spot (Some e)))

abbrev pub obligation_by : Rule → Result CutPoints LimitMark → List Entry → Spot → ℕ → ObligationAt
obligation_by rule (Err mark) entries spot used = Absent
obligation_by rule (Ok points) entries spot used = weighed (obligation_at rule points entries spot used)

unfoldable pub obligation : Rule → List Entry → Spot → ℕ → ObligationAt
obligation rule entries spot used = obligation_by rule (cuts rule) entries spot used
