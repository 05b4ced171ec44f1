use Rattle.std.proofs.Common.{not, ap, ◌∙◌}
use Rattle.rule_faults.proofs.Again.{name_among}
use Rattle.rule_faults.proofs.repeating.add_name.Goals as goal

pub returns-clause-new : goal.returns-clause-new
returns-clause-new c = c.in_ok-new.ensures.added ∙ ap not (name_among c.args.name.now c.args.seen.now.keys)
