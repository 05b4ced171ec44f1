use Rattle.std.proofs.Common.{◌∙◌}
use Rattle.pec_top.proofs.Borrowed.{title_among}
use Rattle.pec_top.proofs.titles.is_seen.Goals as goal

pub returns : goal.returns
returns c = c.contains.ensures ∙ title_among c.args.title.now c.args.seen.now.keys
