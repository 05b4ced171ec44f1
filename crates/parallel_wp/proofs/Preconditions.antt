-- What the precondition of a conjunct means: what the conjunct means where the paths arrive, and nothing where they are not taken.
use Rattle.std.proofs.Common.{◌≡◌, ◌&&◌, ◌||◌, not, ap, ◌∙◌}
use Rattle.std.proofs.lemmas.List.Folds.{list_all-append}
use Rattle.toy_imp.specs.declared.instance.Instance.{Instance}
use Rattle.toy_imp.specs.Store.{Store}
use Rattle.std.specs.Prelude.{Bool, List}
use Rattle.std.specs.List.{list_all}
use Rattle.rule_terms.specs.declared.obligation.Conjunct.{Conjunct}
use Rattle.rule_terms.specs.declared.path.Path.{Path}
use Rattle.term_meaning.specs.Table.{Entry}
use Rattle.term_meaning.specs.Meaning.{literal_truth, gives_truth, conjunct_truth}
use Rattle.term_meaning.proofs.Substituting.{conjunct_put}
use Rattle.parallel_wp.specs.Precondition.{both_literals, goal_at, precondition}
use Rattle.parallel_wp.specs.PreconditionLaws.{both_taken, PreconditionMeans}

-- the literals of the paths stand in front of those of the goal
in_front : (i : Instance) (T : List Entry) (l r : Store) (left right : Path) (c : Conjunct) (b : Bool) → both_taken i T l r left right ≡ b
    → conjunct_truth i T l r (precondition left right c)
    ≡ (not (b && list_all (literal_truth i T l r) (goal_at left right c).when) || gives_truth i T l r (goal_at left right c).gives)
in_front i T l r left right c b e =
    ap (λ z. not z || gives_truth i T l r (goal_at left right c).gives)
    (list_all-append (literal_truth i T l r) (both_literals left right) (goal_at left right c).when
    ∙ ap (λ z. z && list_all (literal_truth i T l r) (goal_at left right c).when) e)

pub precondition_means : PreconditionMeans
precondition_means i T l r left right c = record {
  taken = λ e m n is_m is_n. in_front i T l r left right c _ e ∙ conjunct_put i T l r m n left.store right.store is_m is_n c;
  passed_by = λ e. in_front i T l r left right c _ e;
}
