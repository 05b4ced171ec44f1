use Rattle.std.proofs.Common.{◌≡◌, min, ◌∙◌}
use Rattle.rule_terms.specs.Counts.{saturated}
use Rattle.path_pairs.specs.Along.{steps_from, number_from}
use Rattle.path_pairs.specs.Paths.{side_of, cuts_of}
use Rattle.path_pairs.specs.Rests.{rest_at}
use Rattle.path_pairs.proofs.SideLimits.{counts_steps, counts_paths}
use Rattle.path_pairs.proofs.side_paths.counted.Goals as goal

pub returns-then-steps-gt-MOST_STEPS : goal.returns-then-steps-gt-MOST_STEPS
returns-then-steps-gt-MOST_STEPS c =
    let steps : c.steps_from-steps.result ≡ min 65 (steps_from c.args.from (cuts_of c.args.cuts.now c.args.side) (rest_at (side_of c.args.rule.now c.args.side) c.args.from)) =
    c.steps_from-steps.ensures ∙ (λ i. min 65 (steps_from c.args.from (c.side_cuts-cut.ensures i) (c.requires.at i))) in
    counts_steps c.args.rule.now c.args.cuts.now c.args.side c.args.from c.steps_from-steps.result steps c.if-steps-gt-MOST_STEPS.true

pub returns : goal.returns
returns c =
    let steps : c.steps_from-steps.result ≡ min 65 (steps_from c.args.from (cuts_of c.args.cuts.now c.args.side) (rest_at (side_of c.args.rule.now c.args.side) c.args.from)) =
    c.steps_from-steps.ensures ∙ (λ i. min 65 (steps_from c.args.from (c.side_cuts-cut.ensures i) (c.requires.at i))) in
    let number : c.number_from-number.result ≡ saturated (number_from c.args.from (cuts_of c.args.cuts.now c.args.side) (rest_at (side_of c.args.rule.now c.args.side) c.args.from)) =
    c.number_from-number.ensures ∙ (λ i. saturated (number_from c.args.from (c.side_cuts-cut.ensures i) (c.requires.at i))) in
    counts_paths c.args.rule.now c.args.cuts.now c.args.side c.args.from c.steps_from-steps.result c.number_from-number.result steps c.if-steps-gt-MOST_STEPS.false number
