use Rattle.std.proofs.Common.{◌≡◌, ◌∙◌, ap, map, IfOk, subst}
use Rattle.entry_pairs.proofs.ListedPoints.{right_listed}
use Rattle.entry_pairs.proofs.cut_points.right_cuts.Goals as goal

pub returns-in_ok-named-in-Listed : goal.returns-in_ok-named-in-Listed
returns-in_ok-named-in-Listed c =
    subst (λ xs. IfOk c.listed_points.result (λ all. all ≡ xs))
    (right_listed c.args.list.now c.in-Listed.pairs c.args.side.now c.as_slice-in-Listed.result.now c.in-Listed.is
    (c.as_slice-in-Listed.ensures ∙ c.in_ok-named-in-Listed.ensures ∙ ap (map (λ a. a.1)) c.as_slice.ensures))
    c.listed_points.ensures
