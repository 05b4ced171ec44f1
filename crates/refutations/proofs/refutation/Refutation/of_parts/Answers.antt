use Rattle.std.proofs.Common.{[], sym, ◌∙◌}
use Rattle.std.specs.Prelude.{Some}
use Rattle.refutations.specs.Placed.{placed}
use Rattle.refutations.proofs.Placing.{are_kept}
use Rattle.refutations.proofs.refutation.Refutation.of_parts.Goals as goal

pub invariant_of-result : goal.invariant_of-result
invariant_of-result c = are_kept c.args.all c.in-Some.back ((λ j. placed 0 (Some (0, [])) (sym c.as_slice.ensures j)) ∙ sym c.in_ok-back.ensures ∙ c.in-Some.is)

pub returns-in-Some : goal.returns-in-Some
returns-in-Some c = sym (are_kept c.args.all c.in-Some.back ((λ j. placed 0 (Some (0, [])) (sym c.as_slice.ensures j)) ∙ sym c.in_ok-back.ensures ∙ c.in-Some.is)).are_parts
