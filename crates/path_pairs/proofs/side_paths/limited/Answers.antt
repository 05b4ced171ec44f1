use Rattle.std.proofs.Common.{◌∙◌, ap, subst}
use Rattle.path_pairs.specs.PathAnswers.{Builds}
use Rattle.path_pairs.specs.Paths.{walks_from, goes_on_from}
use Rattle.path_pairs.specs.Stretches.{rest_of}
use Rattle.path_pairs.specs.Walks.{stands}
use Rattle.path_pairs.proofs.SideLimits.{count_refused, answers_paths, answers_built, ends_from, paths_from}
use Rattle.path_pairs.proofs.side_paths.limited.Goals as goal

pub returns-in-Err : goal.returns-in-Err
returns-in-Err c = count_refused c.args.rule.now c.args.cuts.now c.args.side c.args.from c.in-Err.e c.in-Err.ensures

pub returns-then-number-gt-MOST_PATHS : goal.returns-then-number-gt-MOST_PATHS
returns-then-number-gt-MOST_PATHS c = answers_paths c.args.rule.now c.args.cuts.now c.args.side c.args.from c.in-Ok.number c.in-Ok.ensures c.if-number-gt-MOST_PATHS.true

pub built-requires-clause-ends : goal.built-requires-clause-ends
built-requires-clause-ends c =
    ap (λ cuts. goes_on_from c.args.from 64 cuts c.args.exit (stands c.start-met.result.literals c.start-met.result.store (rest_of c.args.rest.now))) c.side_cuts-cut.ensures
    ∙ ends_from c.args.rule.now c.args.cuts.now c.args.side c.args.from c.args.exit c.start-met.result.literals c.start-met.result.store (rest_of c.args.rest.now) c.in-Ok.ensures.0
    c.start-met.ensures.literals c.start-met.ensures.store c.requires.at c.requires.exit

pub returns-else-number-gt-MOST_PATHS : goal.returns-else-number-gt-MOST_PATHS
returns-else-number-gt-MOST_PATHS c =
    answers_built c.args.rule.now c.args.cuts.now c.args.side c.args.from c.in-Ok.number c.built.result c.in-Ok.ensures c.if-number-gt-MOST_PATHS.false
    (subst (λ found. Builds found c.built.result)
    (ap (λ cuts. walks_from c.args.from 63 cuts c.args.exit (stands c.start-met.result.literals c.start-met.result.store (rest_of c.args.rest.now))) c.side_cuts-cut.ensures
    ∙ paths_from c.args.rule.now c.args.cuts.now c.args.side c.args.from c.args.exit c.start-met.result.literals c.start-met.result.store (rest_of c.args.rest.now)
    c.start-met.ensures.literals c.start-met.ensures.store c.requires.at c.requires.exit)
    c.built.ensures)
