-- What has to be true at a pair of stores so that a conjunct is true where a pair of paths arrives.
-- `goal_at` is the conjunct with the paths' stores in place of L and R; `precondition` asks it only where the literals of both
-- paths are true.
use Rattle.std.specs.Prelude.{List, ◌++◌}
use Rattle.rule_terms.specs.declared.obligation.Conjunct.{Conjunct}
use Rattle.rule_terms.specs.declared.obligation.Literal.{Literal}
use Rattle.rule_terms.specs.declared.path.Path.{Path}
use Rattle.rule_terms.specs.Substitute.{conjunct_at}

-- the literals of both paths, the left one's first
abbrev pub both_literals : Path → Path → List Literal
both_literals left right = left.literals ++ right.literals

abbrev pub goal_at : Path → Path → Conjunct → Conjunct
goal_at left right c = conjunct_at left.store right.store c

abbrev pub precondition : Path → Path → Conjunct → Conjunct
precondition left right c = record {
  when = both_literals left right ++ (goal_at left right c).when;
  gives = (goal_at left right c).gives;
}
