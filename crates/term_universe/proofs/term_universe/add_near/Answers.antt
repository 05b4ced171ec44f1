use Rattle.std.proofs.Common.{◌∙◌, sym, ap}
use Rattle.std.specs.List.{flat_map}
use Rattle.rule_terms.specs.Order.{store_same}
use Rattle.rule_terms.specs.Added.{added_all}
use Rattle.term_universe.specs.Universe.{exchanged}
use Rattle.term_universe.proofs.Listings.{added_append}
use Rattle.term_universe.proofs.term_universe.add_near.Goals as goal

pub returns : goal.returns
returns c =
    c.in_ok-add_all_exchanged.ensures
    ∙ ap (λ xs. added_all store_same xs (flat_map (exchanged c.args.conditions.now) c.args.found.now)) c.in_ok-add_stores.ensures
    ∙ sym (added_append store_same c.args.stores.now c.args.found.now (flat_map (exchanged c.args.conditions.now) c.args.found.now))
