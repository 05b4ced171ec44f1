-- An entry that is not the exits has both points before them.
use Rattle.std.proofs.Common.{sym, ◌∙◌}
use Rattle.entry_pairs.proofs.EntriesInside.{left_before, right_before}
use Rattle.spot_obligations.specs.Owed.{pair_of}
use Rattle.cert_checker.proofs.checking.take_entry.Goals as goal

pub entry_paths-requires-clause-left : goal.entry_paths-requires-clause-left
entry_paths-requires-clause-left c = left_before c.args.rule.now (pair_of c.args.e.now) c.requires.inside (sym c.is_exit.ensures ∙ c.if-is_exit.false)

pub entry_paths-requires-clause-right : goal.entry_paths-requires-clause-right
entry_paths-requires-clause-right c = right_before c.args.rule.now (pair_of c.args.e.now) c.requires.inside (sym c.is_exit.ensures ∙ c.if-is_exit.false)
