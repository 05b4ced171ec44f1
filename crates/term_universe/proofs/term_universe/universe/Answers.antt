use Rattle.std.proofs.Common.{◌∙◌, sym, ap, subst, [], ◌∷◌, ◌++◌, map}
use Rattle.std.specs.List.{flat_map}
use Rattle.rule_terms.specs.Term.{left_store, right_store}
use Rattle.rule_terms.specs.Parts.{stores_among, obligation_parts}
use Rattle.rule_terms.specs.Order.{store_same}
use Rattle.rule_terms.specs.Added.{added_all}
use Rattle.term_universe.specs.Universe.{exchanged, ListsOnce}
use Rattle.term_universe.specs.Walked.{part_of}
use Rattle.term_universe.proofs.Universes.{universe_lists}
use Rattle.term_universe.proofs.term_universe.universe.Goals as goal

pub returns : goal.returns
returns c =
    universe_lists c.args.ob.now (map part_of c.as_slice-2.result.now) c.in_ok-near.near
    (subst (λ xs. ListsOnce (map part_of xs) (obligation_parts c.args.ob.now)) (sym c.as_slice-2.ensures.value) c.in_ok-parts.ensures)
    (c.in_ok-near.ensures.stores
    ∙ ap (λ cs. added_all store_same (left_store ∷ right_store ∷ []) (stores_among (map part_of c.as_slice-2.result.now) ++ flat_map (exchanged cs) (stores_among (map part_of c.as_slice-2.result.now)))) c.as_slice.ensures)
    c.in_ok-near.ensures.values c.in_ok-near.ensures.tests
