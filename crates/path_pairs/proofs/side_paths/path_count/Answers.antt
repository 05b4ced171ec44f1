use Rattle.std.proofs.Common.{◌≡◌, true, false, sym, ◌∙◌, ap, subst}
use Rattle.toy_imp.specs.Faults.{has_scope}
use Rattle.path_pairs.specs.Open.{block_is_open}
use Rattle.path_pairs.specs.Stretches.{rest_of}
use Rattle.path_pairs.specs.Walkable.{AreWalkable}
use Rattle.path_pairs.proofs.OpenSides.{sides_are_open, sides_have_no_scope}
use Rattle.path_pairs.proofs.SideLimits.{rest_walkable}
use Rattle.path_pairs.proofs.side_paths.path_count.Goals as goal

pub rest_at-requires-clause-unscoped : goal.rest_at-requires-clause-unscoped
rest_at-requires-clause-unscoped c = ap has_scope c.side_block-block.ensures ∙ sides_have_no_scope c.args.rule.now c.args.side c.requires.well_formed c.requires.simulates

pub counted-requires-clause-rest : goal.counted-requires-clause-rest
counted-requires-clause-rest c =
    let names : block_is_open c.side_block-block.result.now ≡ true = ap block_is_open c.side_block-block.ensures ∙ sides_are_open c.args.rule.now c.args.side c.requires.well_formed in
    let plain : has_scope c.side_block-block.result.now ≡ false =
    ap has_scope c.side_block-block.ensures ∙ sides_have_no_scope c.args.rule.now c.args.side c.requires.well_formed c.requires.simulates in
    subst AreWalkable (sym (ap rest_of c.as_slice.ensures ∙ c.in_ok-rest-in-Some.ensures)) (rest_walkable c.side_block-block.result.now c.args.from c.in-Some.ensures.fits names plain)
