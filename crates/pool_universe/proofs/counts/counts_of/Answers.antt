use Rattle.std.proofs.Common.{◌∙◌, ap, length}
use Rattle.std.specs.List.{filter}
use Rattle.rule_terms.specs.Counts.{saturated}
use Rattle.pool_universe.specs.PooledParts.{is_store, is_reading}
use Rattle.pool_universe.proofs.Tallied.{counts_are}
use Rattle.pool_universe.proofs.counts.counts_of.Goals as goal

pub returns : goal.returns
returns c =
    counts_are c.args.pool.now c.args.ob.now c.in_ok-parts.parts.keys c.as_slice.result.now c.roots_size-size.result.nodes c.roots_size-size.result.depth c.obligation_literals-literals.result
    c.saturating_add.result c.count_stores-stores.result c.count_readings-readings.result c.requires (c.as_slice.ensures ∙ c.in_ok-roots.ensures)
    c.roots_size-size.ensures.nodes c.roots_size-size.ensures.depth c.obligation_literals-literals.ensures c.saturating_add.ensures c.in_ok-parts.ensures.once
    (c.count_stores-stores.ensures ∙ ap (λ ps. saturated (length (filter is_store ps))) c.as_slice-2.ensures.keys)
    (c.count_readings-readings.ensures ∙ ap (λ ps. saturated (length (filter is_reading ps))) c.as_slice-3.ensures.keys)
