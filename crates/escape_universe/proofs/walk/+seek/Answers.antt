-- A term is the first of its parts.
use Rattle.std.proofs.Common.{sym, ◌∙◌}
use Rattle.escape_universe.specs.Sought.{meets}
use Rattle.escape_universe.proofs.Walking.{first_store, first_value}
use Rattle.escape_universe.proofs.walk.+seek.Goals as goal

pub in_store-returns-then-meets : goal.in_store-returns-then-meets
in_store-returns-then-meets t c = sym (first_store (meets c.args.w) c.args.s.now (sym c.meets.ensures ∙ c.if-meets.true))

pub in_value-returns-then-meets : goal.in_value-returns-then-meets
in_value-returns-then-meets t c = sym (first_value (meets c.args.w) c.args.v.now (sym c.meets.ensures ∙ c.if-meets.true))
