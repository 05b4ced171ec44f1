use Rattle.std.proofs.Common.{sym, ◌∙◌}
use Rattle.term_run.proofs.Writing.{same_where_first, other_where_not}
use Rattle.term_run.proofs.cells.same_store.Goals as goal

pub returns-then-on_a : goal.returns-then-on_a
returns-then-on_a c = same_where_first c.args.a.now c.args.b.now _ (sym c.agree_on-on_a.ensures ∙ c.if-on_a.true) c.agree_on-on_b.ensures

pub returns-else-on_a : goal.returns-else-on_a
returns-else-on_a c = other_where_not c.args.a.now c.args.b.now _ c.if-on_a.false c.agree_on-on_a.ensures
