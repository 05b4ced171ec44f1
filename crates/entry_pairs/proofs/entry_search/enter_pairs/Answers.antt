use Rattle.std.proofs.Common.{sym, ◌∙◌}
use Rattle.entry_pairs.proofs.EntrySteps.{listed_stay}
use Rattle.entry_pairs.proofs.entry_search.enter_pairs.Goals as goal

pub returns-in-Listed : goal.returns-in-Listed
returns-in-Listed c =
    listed_stay c.args.list.now c.in-Listed.field-0 c.args.table.now c.args.i c.args.entries.now c.args.lefts.now c.args.rights.now
    (sym c.has_many_pairs.ensures ∙ c.if-has_many_pairs.false) c.in-Listed.is
