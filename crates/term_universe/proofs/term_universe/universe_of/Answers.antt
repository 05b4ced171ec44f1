use Rattle.std.proofs.Common.{◌∙◌}
use Rattle.term_universe.proofs.Universes.{stores_apart}
use Rattle.term_universe.proofs.term_universe.universe_of.Goals as goal

pub all_values-requires-clause-stores : goal.all_values-requires-clause-stores
all_values-requires-clause-stores c = stores_apart _ c.as_slice-2.result.now (c.as_slice-2.ensures ∙ c.in_ok-stores.ensures)
