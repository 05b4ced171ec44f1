use Rattle.std.proofs.Common.{◌≡◌, ◌∙◌, ◌++◌, ap, subst, map, rules}
use Rattle.std.specs.Ordering.{is_lt, is_eq}
use Rattle.std.proofs.lemmas.Fn.{always_returns_same, dedup_same}
use Rattle.std.proofs.lemmas.List.Sorted.{ranks_by}
use Rattle.rule_terms.specs.Parts.{obligation_parts}
use Rattle.rule_terms.specs.Order.{part_cmp}
use Rattle.term_universe.specs.Universe.{ListsOnce}
use Rattle.term_universe.specs.Walked.{part_of}
use Rattle.rule_terms.proofs.Orders.{part_total, part_equal}
use Rattle.term_universe.proofs.Sorting.{once_each}
use Rattle.term_universe.proofs.gather.different_parts.Goals as goal

pub returns : goal.returns
returns c =
    let up = c.sort_unstable_by.ensures.sorted (λ x y. is_lt (part_cmp (part_of x) (part_of y))) (ranks_by part_total part_of)
    (always_returns_same _ (λ a r. is_lt r ≡ is_lt (part_cmp (part_of a.0.now) (part_of a.1.0.now))) _ (λ a r f' k. search rules)) in
    let left = dedup_same _ (λ x y. is_eq (part_cmp (part_of x) (part_of y))) _ (λ x y b f' x' y' k. search rules) _ _ c.dedup_by.ensures.filtered in
    subst (ListsOnce _) (c.in_ok-put_obligation.ensures ∙ ap (λ xs. map part_of xs ++ obligation_parts c.args.ob.now) c.new-parts.ensures.items) (once_each part_of part_cmp part_total part_equal _ _ _ c.sort_unstable_by.ensures.permutation up left)
