use Rattle.std.proofs.Common.{◌++◌, ap, map, ◌∙◌}
use Rattle.term_pool.specs.Growth.{Adds}
use Rattle.term_pool.specs.ObligationTerms.{conjuncts_terms}
use Rattle.term_pool.specs.Pooled.{ConjunctsOf}
use Rattle.term_pool.proofs.PutItems.{mapped}
use Rattle.pool_goals.specs.Before.{behind, goals_numbered, preconditions_numbered}
use Rattle.pool_goals.proofs.Befores.{befores}
use Rattle.pool_goals.proofs.precondition.put_before.Goals as goal

pub returns-clause-stands : goal.returns-clause-stands
returns-clause-stands c =
    mapped _ (λ ys. ConjunctsOf c.conjuncts_at.new.pool ys (preconditions_numbered c.args.pool.now c.args.left.now c.args.right.now c.args.conjuncts.now)) c.all_behind.result
    (λ ys e. (befores c.args.left.now c.args.right.now c.args.conjuncts.now c.in_ok-goals.goals ys c.requires.left c.requires.right c.requires.numbers
    c.in_ok-goals.ensures.replaced c.in_ok-goals.ensures.kept (e ∙ ap (map (behind (c.args.left.now.literals ++ c.args.right.now.literals))) c.as_slice.ensures)).0)
    c.all_behind.ensures

pub returns-clause-added : goal.returns-clause-added
returns-clause-added c =
    mapped _ (λ ys. Adds c.args.pool.now c.conjuncts_at.new.pool (conjuncts_terms (goals_numbered c.args.pool.now c.args.left.now c.args.right.now c.args.conjuncts.now))) c.all_behind.result
    (λ ys e. (befores c.args.left.now c.args.right.now c.args.conjuncts.now c.in_ok-goals.goals ys c.requires.left c.requires.right c.requires.numbers
    c.in_ok-goals.ensures.replaced c.in_ok-goals.ensures.kept (e ∙ ap (map (behind (c.args.left.now.literals ++ c.args.right.now.literals))) c.as_slice.ensures)).1)
    c.all_behind.ensures
