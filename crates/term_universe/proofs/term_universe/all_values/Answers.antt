use Rattle.std.proofs.Common.{◌∙◌, ◌++◌, ◌≡◌, sym, ap, map, pos, [], ◌∷◌}
use Rattle.rule_terms.specs.Term.{num}
use Rattle.rule_terms.specs.Parts.{values_among}
use Rattle.rule_terms.specs.Order.{value_same}
use Rattle.rule_terms.specs.Added.{added_all}
use Rattle.term_universe.specs.Walked.{part_of}
use Rattle.term_universe.proofs.Apart.{values_added}
use Rattle.term_universe.proofs.term_universe.all_values.Goals as goal

pub returns : goal.returns
returns c =
    let found : c.as_slice.result.now ≡ values_among (map part_of c.args.parts.now) = c.as_slice.ensures ∙ c.in_ok-found.ensures in
    let base : c.as_slice-2.result.now ≡ added_all value_same (num (pos 0) ∷ num (pos 1) ∷ []) (values_among (map part_of c.args.parts.now)) =
    c.as_slice-2.ensures ∙ c.in_ok-add_values.ensures ∙ (λ i. added_all value_same (c.in_ok-values.ensures i) (found i)) in
    values_added (num (pos 0) ∷ num (pos 1) ∷ []) (values_among (map part_of c.args.parts.now)) c.as_slice-2.result.now c.in_ok-more.more c.append.new.self c.args.stores.now (map part_of c.args.parts.now)
    c.requires.stores c.requires.parts base c.in_ok-more.ensures (c.in_ok-append.ensures ∙ ap (λ xs. xs ++ c.in_ok-more.more) (sym c.as_slice-2.ensures))
